-- What the functions read off the words. Nothing here has to be believed but, for the trial's contract, `marks_read` and `blocked`: proofs/ says what
-- each means.
use Rattle.std.specs.Prelude.{Bool, cond, ◌&&◌, ◌||◌, List, ℕ, zero, suc, ◌+◌, ◌*◌, ◌/◌, ◌%◌, eqb, ltb, ℤ}
use Rattle.std.proofs.Math.Option.{Option, none, some}
use Rattle.int32.specs.Integers.{value}
use Rattle.rules.specs.Choose.{pick, below}
use Rattle.rules.specs.declared.Class.{Class}
use Rattle.rules.specs.declared.Class.TheVariants.{Shared as shared, Lastprivate as lastprivate, Copied as copied, Reduction as reduction}
use Rattle.rules.specs.Operation.{Operation, operation}
use Rattle.rules.specs.Numbers.{class_by}
use Rattle.rules.specs.Merge.{join_all}
use Rattle.tables.specs.Layout.{own_at, entry_word, met_word, writers_word, flags_word, lowest_word, highest_word, class_held, private_word, wrote_word, partial_word}

-- ---- marks

-- by three words of a row: how many groups met the cell, how many wrote it, flags
abbrev pub marks_read : ℕ → ℕ → ℕ → ℕ
marks_read met writers flags = below 0 writers 1 0 + below writers met 2 0 + 4 * (flags % 2) + 8 * (flags / 2 % 2)

-- of a row
abbrev pub marks_of : List ℕ → ℕ → ℕ
marks_of W row = marks_read (met_word W row) (writers_word W row) (flags_word W row)

-- ---- obstacles

-- two groups met it and one wrote it
abbrev pub contested : ℕ → ℕ → Bool
contested met writers = ltb 0 writers && ltb 1 met

-- and one read it exposed
abbrev pub stale : ℕ → ℕ → ℕ → Bool
stale met writers flags = contested met writers && (ltb writers met || eqb (flags % 2) 1)

-- by its record: a group wrote it and a higher one read it exposed
abbrev pub late : ℕ → ℕ → Bool
late lowest highest = ltb 0 lowest && ltb lowest highest

-- it has an update and an ordinary access
abbrev pub mixed : ℕ → ℕ → Bool
mixed met flags = ltb 0 met && eqb (flags / 2 % 2) 1

-- a cell of a class has an obstacle
abbrev pub blocked : Class → ℕ → ℕ → ℕ → ℕ → ℕ → Bool
blocked shared met writers flags lowest highest = contested met writers
blocked copied met writers flags lowest highest = late lowest highest
blocked lastprivate met writers flags lowest highest = stale met writers flags
blocked (reduction o) met writers flags lowest highest = stale met writers flags || mixed met flags

-- by its row
abbrev pub blocked_of : List ℕ → ℕ → Bool
blocked_of W row = blocked (class_held W row) (met_word W row) (writers_word W row) (flags_word W row) (lowest_word W row) (highest_word W row)

-- ---- private values and the merge

-- the private value of a processor for a cell, if it wrote the cell
abbrev pub private_of : List ℕ → ℕ → Option ℤ
private_of W own = pick (wrote_word W own) 0 none (some (value (private_word W own)))

-- the word of the private value of the highest of k processors that wrote, else of the entry value
unfoldable pub last_word : List ℕ → ℕ → ℕ → ℕ
last_word W row zero = entry_word W row
last_word W row (suc k) = pick (wrote_word W (own_at row k)) 0 (last_word W row k) (private_word W (own_at row k))

-- the partial results of p processors, taken together
abbrev pub gathered : Operation → List ℕ → ℕ → ℕ → ℤ
gathered o W row p = join_all o p (λ q. value (partial_word W (own_at row q)))

-- what a cell of a class is left with after a run that passed; x is what stands in it
abbrev pub merged_by : Class → List ℕ → ℕ → ℕ → ℤ → ℤ
merged_by shared W row p x = x
merged_by lastprivate W row p x = value (last_word W row p)
merged_by copied W row p x = value (last_word W row p)
merged_by (reduction o) W row p x =
    cond
    (eqb (flags_word W row / 2 % 2) 1)
    ((operation o).join (value (last_word W row p)) (gathered (operation o) W row p))
    (value (last_word W row p))

-- by its row
abbrev pub merged : List ℕ → ℕ → ℕ → ℤ → ℤ
merged W row = merged_by (class_held W row) W row
