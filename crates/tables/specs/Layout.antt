-- The shadow tables (crates/shadow) in 32-bit words. The first two words are both write counts. Then comes a row for each cell: its entry value, how
-- many groups met it, how many of them wrote it, flags, 1 + the lowest group that wrote it, 1 + the highest that read it exposed; and for each processor
-- its own value, 1 + the group of its last write, 1 + the group of its last exposed read, the partial result of its updates, and 1 + the iteration
-- of its last write or update. Nothing here has to be believed.
use Rattle.std.specs.Prelude.{◌≡◌, Bool, true, false, List, ℕ, ◌+◌, ◌*◌, ◌/◌, ◌≤◌, ◌<◌, length, get_or, ℤ}
use Rattle.rules.specs.declared.Class.{Class}
use Rattle.rules.specs.Numbers.{class_number, class_by}
use Rattle.shadow.specs.Tables.{Own, Row, Tables}
use Rattle.int32.specs.Integers as integers

-- ---- places

-- the row of cell c, with p processors
abbrev pub row_at : ℕ → ℕ → ℕ
row_at p c = 2 + c * (6 + 5 * p)

-- the own part of processor q in a row
abbrev pub own_at : ℕ → ℕ → ℕ
own_at row q = row + 6 + 5 * q

-- in a row, after the entry value
abbrev pub met_at : ℕ → ℕ
met_at row = row + 1

abbrev pub writers_at : ℕ → ℕ
writers_at row = row + 2

abbrev pub flags_at : ℕ → ℕ
flags_at row = row + 3

abbrev pub lowest_at : ℕ → ℕ
lowest_at row = row + 4

abbrev pub highest_at : ℕ → ℕ
highest_at row = row + 5

-- in an own part, after the private value
abbrev pub wrote_at : ℕ → ℕ
wrote_at own = own + 1

abbrev pub exposed_at : ℕ → ℕ
exposed_at own = own + 2

abbrev pub partial_at : ℕ → ℕ
partial_at own = own + 3

abbrev pub touched_at : ℕ → ℕ
touched_at own = own + 4

-- ---- the words there

-- both write counts
abbrev pub pairs_word : List ℕ → ℕ
pairs_word W = get_or W 0 0

abbrev pub cells_word : List ℕ → ℕ
cells_word W = get_or W 1 0

-- of a row
abbrev pub entry_word : List ℕ → ℕ → ℕ
entry_word W row = get_or W row 0

abbrev pub met_word : List ℕ → ℕ → ℕ
met_word W row = get_or W (met_at row) 0

abbrev pub writers_word : List ℕ → ℕ → ℕ
writers_word W row = get_or W (writers_at row) 0

abbrev pub flags_word : List ℕ → ℕ → ℕ
flags_word W row = get_or W (flags_at row) 0

abbrev pub lowest_word : List ℕ → ℕ → ℕ
lowest_word W row = get_or W (lowest_at row) 0

abbrev pub highest_word : List ℕ → ℕ → ℕ
highest_word W row = get_or W (highest_at row) 0

-- the number of the class, in the flags
abbrev pub class_word : List ℕ → ℕ → ℕ
class_word W row = flags_word W row / 4

-- the class
abbrev pub class_held : List ℕ → ℕ → Class
class_held W row = class_by (class_word W row)

-- of an own part
abbrev pub private_word : List ℕ → ℕ → ℕ
private_word W own = get_or W own 0

abbrev pub wrote_word : List ℕ → ℕ → ℕ
wrote_word W own = get_or W (wrote_at own) 0

abbrev pub exposed_word : List ℕ → ℕ → ℕ
exposed_word W own = get_or W (exposed_at own) 0

abbrev pub partial_word : List ℕ → ℕ → ℕ
partial_word W own = get_or W (partial_at own) 0

abbrev pub touched_word : List ℕ → ℕ → ℕ
touched_word W own = get_or W (touched_at own) 0

-- ---- flags

-- a mark as a number
abbrev pub bit : Bool → ℕ
bit true = 1
bit false = 0

-- 1 a group read the cell and then wrote it, 2 it was updated, from 4 on its class
abbrev pub flags_of : Class → Bool → Bool → ℕ
flags_of k crossed updated = 4 * class_number k + 2 * bit updated + bit crossed

-- ---- what the words stand for

-- of a processor and a cell
pub record OwnHeld (W : List ℕ) (own : ℕ) (o : Own) : Type 0 where
  pub value : integers.value (private_word W own) ≡ o.value
  pub wrote : wrote_word W own ≡ o.wrote
  pub exposed : exposed_word W own ≡ o.exposed
  pub partial : integers.value (partial_word W own) ≡ o.partial
  pub touched : touched_word W own ≡ o.touched

-- of a cell of class k with e at entry
pub record RowHeld (p : ℕ) (k : Class) (e : ℤ) (W : List ℕ) (row : ℕ) (r : Row) : Type 0 where
  pub entry : integers.value (entry_word W row) ≡ e
  pub met : met_word W row ≡ r.met
  pub writers : writers_word W row ≡ r.writers
  pub flags : flags_word W row ≡ flags_of k r.crossed r.updated
  pub lowest : lowest_word W row ≡ r.lowest
  pub highest : highest_word W row ≡ r.highest
  pub own : (q : ℕ) → q < p → OwnHeld W (own_at row q) (r.own q)

-- the words stand for these tables of n cells and p processors
pub record Holds (n p : ℕ) (class : ℕ → Class) (entry : ℕ → ℤ) (W : List ℕ) (t : Tables) : Type 0 where
  pub size : row_at p n ≤ length W
  pub pairs : pairs_word W ≡ t.pairs
  pub cells : cells_word W ≡ t.cells
  pub rows : (c : ℕ) → c < n → RowHeld p (class c) (entry c) W (row_at p c) (t.rows c)
