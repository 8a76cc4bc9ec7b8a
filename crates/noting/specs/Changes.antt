-- What the functions do to the words, word by word, and what an access reads of its own. Nothing here has to be believed: proofs/ says what this means for the
-- tables.
use Rattle.std.specs.Prelude.{List, ℕ, max, ◌+◌, ◌*◌, ◌/◌, ◌%◌, ◌≤◌, ◌<◌, length, set, ℤ}
use Rattle.int32.specs.Integers.{word, value}
use Rattle.rules.specs.Choose.{pick}
use Rattle.rules.specs.Operation.{operation}
use Rattle.rules.specs.Loop.{operator}
use Rattle.shadow.specs.Tables.{lower}
use Rattle.tables.specs.Layout.{met_at, writers_at, flags_at, lowest_at, highest_at, wrote_at, exposed_at, partial_at, touched_at, pairs_word, cells_word, entry_word, met_word, writers_word, flags_word, lowest_word, highest_word, class_held, private_word, wrote_word, exposed_word, partial_word, touched_word}

-- a row and an own part after it lie in the words
pub record Placed (W : List ℕ) (row own : ℕ) : Type 0 where
  pub first : 2 ≤ row
  pub apart : row + 6 ≤ own
  pub inside : own + 5 ≤ length W

-- and each count has room for one more
pub record Ready (W : List ℕ) (row own : ℕ) : Type 0 where
  pub placed : Placed W row own
  pub pairs : pairs_word W < 4294967295
  pub cells : cells_word W < 4294967295
  pub met : met_word W row < 4294967295
  pub writers : writers_word W row < 4294967295

-- ---- accesses

-- one more of m unless the stamp g is one of both
abbrev pub one_more : ℕ → ℕ → ℕ → ℕ → ℕ
one_more wrote exposed g m = pick wrote g m (pick exposed g m (m + 1))

-- a read by group g
unfoldable pub read_noted : List ℕ → ℕ → ℕ → ℕ → List ℕ
read_noted W row own g =
    set
    (set
    (set W (met_at row) (one_more (wrote_word W own) (exposed_word W own) (g + 1) (met_word W row)))
    (highest_at row)
    (pick (wrote_word W own) (g + 1) (highest_word W row) (max (g + 1) (highest_word W row))))
    (exposed_at own)
    (pick (wrote_word W own) (g + 1) (exposed_word W own) (g + 1))

-- both counts, before a write or an update by iteration i
unfoldable pub counted : List ℕ → ℕ → ℕ → ℕ → List ℕ
counted W row own i =
    set
    (set
    (set W 0 (pick (touched_word W own) (i + 1) (pairs_word W) (pairs_word W + 1)))
    1
    (pick (flags_word W row / 2 % 2) 1 (cells_word W) (pick (writers_word W row) 0 (cells_word W + 1) (cells_word W))))
    (touched_at own)
    (i + 1)

-- a write by group g, whose counts are done: the words of the row
unfoldable pub row_written : List ℕ → ℕ → ℕ → ℕ → List ℕ
row_written W row own g =
    set
    (set
    (set
    (set W (met_at row) (one_more (wrote_word W own) (exposed_word W own) (g + 1) (met_word W row)))
    (writers_at row)
    (pick (wrote_word W own) (g + 1) (writers_word W row) (writers_word W row + 1)))
    (flags_at row)
    (pick (exposed_word W own) (g + 1) (flags_word W row / 2 * 2 + 1) (flags_word W row)))
    (lowest_at row)
    (pick (wrote_word W own) (g + 1) (lowest_word W row) (lower (g + 1) (lowest_word W row)))

-- and those of the processor
unfoldable pub own_written : List ℕ → ℕ → ℕ → ℤ → List ℕ
own_written W own g v = set (set W own (word v)) (wrote_at own) (g + 1)

-- a write of v
unfoldable pub written : List ℕ → ℕ → ℕ → ℕ → ℤ → List ℕ
written W row own g v = own_written (row_written W row own g) own g v

-- an update by v, whose counts are done
unfoldable pub updated : List ℕ → ℕ → ℕ → ℤ → List ℕ
updated W row own v =
    set
    (set W (flags_at row) (flags_word W row / 4 * 4 + 2 + flags_word W row % 2))
    (partial_at own)
    (word ((operation (operator (class_held W row))).join v (value (partial_word W own))))

-- what group g reads that has the cell for itself
abbrev pub own_seen : List ℕ → ℕ → ℕ → ℕ → ℤ
own_seen W row own g = value (pick (wrote_word W own) (g + 1) (private_word W own) (entry_word W row))
