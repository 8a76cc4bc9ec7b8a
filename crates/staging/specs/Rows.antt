-- The rows of the stage table (crates/reorder, StageTable) in words, four for each cell, and what noting an access does to them. Nothing here has to be
-- believed: proofs/Keeping.antt says what it means for the table.
use Rattle.std.specs.Prelude.{◌≡◌, Bool, true, false, List, ℕ, max, ◌+◌, ◌*◌, ◌≤◌, ◌<◌, eqb, length, get_or, set}
use Rattle.rules.specs.Log.{Kind, reads, writes}
use Rattle.reorder.specs.declared.Row.{Row}
use Rattle.staging.specs.declared.Touch.{Touch}
use Rattle.staging.specs.declared.Touch.TheVariants.{Read, Change}
use Rattle.reorder.specs.StageTable.{opened, needs, marked}

-- the stage of iteration j by the list
abbrev pub stage_in : List ℕ → ℕ → ℕ
stage_in L j = get_or L j 0

abbrev pub flag : Bool → ℕ
flag true = 1
flag false = 0

-- the row of cell c
unfoldable pub row_in : List ℕ → ℕ → Row
row_in W c = record { last = get_or W (c * 4) 0; changes = eqb (get_or W (c * 4 + 1) 0) 1; changed = get_or W (c * 4 + 2) 0; touched = get_or W (c * 4 + 3) 0 }

unfoldable pub row_set : List ℕ → ℕ → Row → List ℕ
row_set W c r = set (set (set (set W (c * 4) r.last) (c * 4 + 1) (flag r.changes)) (c * 4 + 2) r.changed) (c * 4 + 3) r.touched

-- ---- iteration i accesses cell c, with the stages of the list L

-- the row as it finds it
abbrev pub found : List ℕ → ℕ → List ℕ → ℕ → Row
found L i W c = opened (stage_in L) i (row_in W c)

-- the kind of an access that touches a cell so
abbrev pub kind_of : Touch → Kind
kind_of Read = reads
kind_of Change = writes

-- the words after the access
unfoldable pub noted_in : Kind → List ℕ → ℕ → List ℕ → ℕ → List ℕ
noted_in k L i W c = row_set W c (marked k (found L i W c))

-- what it has to come after, which was o
unfoldable pub over_in : Kind → List ℕ → ℕ → List ℕ → ℕ → ℕ → ℕ
over_in k L i W c o = max (needs k (found L i W c)) o

-- it can be noted: the row lies in the words, and its last toucher in the list
pub record Notable (L : List ℕ) (i : ℕ) (W : List ℕ) (c : ℕ) : Type 0 where
  pub low : c < 4096
  pub inside : c * 4 + 4 ≤ length W
  pub early : i < 65535
  pub known : (row_in W c).last ≤ length L

pub record Noted (k : Kind) (L : List ℕ) (i : ℕ) (W : List ℕ) (c o : ℕ) (W' : List ℕ) (r : ℕ) : Type 0 where
  pub words : W' ≡ noted_in k L i W c
  pub over : r ≡ over_in k L i W c o
