-- What a row begins with. Nothing here has to be believed: proofs/Start.antt says what this means for the tables.
use Rattle.std.specs.Prelude.{List, ℕ, zero, suc, ◌*◌, set, ℤ}
use Rattle.int32.specs.Integers.{word}
use Rattle.rules.specs.Operation.{operation}
use Rattle.rules.specs.declared.Class.{Class}
use Rattle.rules.specs.Loop.{operator}
use Rattle.rules.specs.Numbers.{class_number}
use Rattle.tables.specs.Layout.{own_at, met_at, writers_at, flags_at, lowest_at, highest_at, partial_at}

-- the entry value and the class of a row
unfoldable pub entered : List ℕ → ℕ → ℤ → Class → List ℕ
entered W row v k =
    set
    (set
    (set (set (set (set W row (word v)) (met_at row) 0) (writers_at row) 0) (flags_at row) (4 * class_number k))
    (lowest_at row) 0)
    (highest_at row) 0

-- the partial results of p processors, at v
unfoldable pub started : List ℕ → ℕ → ℤ → ℕ → List ℕ
started W row v zero = W
started W row v (suc p) = set (started W row v p) (partial_at (own_at row p)) (word v)

-- the row of p processors, of a class
unfoldable pub begun : List ℕ → ℕ → ℕ → ℤ → Class → List ℕ
begun W row p v k = started (entered W row v k) row (operation (operator k)).start p
