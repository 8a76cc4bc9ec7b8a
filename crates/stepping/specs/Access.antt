-- What an access does to cells and words. Nothing here has to be believed: crates/trial and crates/serial show that it is what RULES 4.4 and 6 b say.
use Rattle.std.specs.Prelude.{◌≡◌, Bool, cond, eqb, List, ℕ, ◌≤◌, ◌<◌, length, set, ℤ}
use Rattle.rules.specs.Choose.{pick}
use Rattle.rules.specs.Cells.{cell_of}
use Rattle.rules.specs.Operation.{operation}
use Rattle.rules.specs.declared.Class.{Class}
use Rattle.rules.specs.Loop.{operator}
use Rattle.rules.specs.Numbers.{grouped}
use Rattle.tables.specs.Layout.{row_at, own_at, class_word, class_held}
use Rattle.noting.specs.Changes.{Ready, read_noted, counted, written, updated, own_seen}
use Rattle.stepping.specs.declared.Manner.{Manner}
use Rattle.stepping.specs.declared.Manner.TheVariants.{ByClass, InPlace}
use Rattle.stepping.specs.declared.Role.{Role}

-- the row of cell c, and the processor's own part in it
abbrev pub row_of : Role → ℕ → ℕ
row_of x c = row_at x.processors c

abbrev pub own_of : Role → ℕ → ℕ
own_of x c = own_at (row_of x c) x.number.0

-- the group of its iteration i
abbrev pub group_of : Role → ℕ → ℕ
group_of x i = grouped x.grouping i x.number.0

-- the processor can access cell c
pub record Accessible (x : Role) (M : List ℤ) (W : List ℕ) (c : ℕ) : Type 0 where
  pub few : x.processors ≤ 8
  pub among : x.number.0 < x.processors
  pub low : c < 4096
  pub inside : c < length M
  pub ready : Ready W (row_of x c) (own_of x c)

-- what group g sees of it, by the words at row and own
unfoldable pub seen_by : Manner → List ℤ → List ℕ → ℕ → ℕ → ℕ → ℕ → ℤ
seen_by ByClass M W row own g c = pick (class_word W row) 0 (cell_of M c) (own_seen W row own g)
seen_by InPlace M W row own g c = cell_of M c

-- the cells after v was written to a cell, which is shared or not
unfoldable pub stored_by : Manner → Bool → List ℤ → ℕ → ℤ → List ℤ
stored_by ByClass b M c v = cond b (set M c v) M
stored_by InPlace b M c v = set M c v

-- the cells after an update by v of a cell of a class
unfoldable pub joined_by : Manner → Class → List ℤ → ℕ → ℤ → List ℤ
joined_by ByClass k M c v = M
joined_by InPlace k M c v = set M c ((operation (operator k)).join (cell_of M c) v)

-- ---- iteration i accesses cell c

abbrev pub seen : Role → ℕ → List ℤ → List ℕ → ℕ → ℤ
seen x i M W c = seen_by x.manner M W (row_of x c) (own_of x c) (group_of x i) c

abbrev pub read_words : Role → ℕ → List ℕ → ℕ → List ℕ
read_words x i W c = read_noted W (row_of x c) (own_of x c) (group_of x i)

abbrev pub stored : Role → List ℤ → List ℕ → ℕ → ℤ → List ℤ
stored x M W c v = stored_by x.manner (eqb (class_word W (row_of x c)) 0) M c v

abbrev pub written_words : Role → ℕ → List ℕ → ℕ → ℤ → List ℕ
written_words x i W c v = written (counted W (row_of x c) (own_of x c) i) (row_of x c) (own_of x c) (group_of x i) v

abbrev pub joined : Role → List ℤ → List ℕ → ℕ → ℤ → List ℤ
joined x M W c v = joined_by x.manner (class_held W (row_of x c)) M c v

abbrev pub updated_words : Role → ℕ → List ℕ → ℕ → ℤ → List ℕ
updated_words x i W c v = updated (counted W (row_of x c) (own_of x c) i) (row_of x c) (own_of x c) v

-- a read leaves the words W' and gives v
pub record Reads (x : Role) (i : ℕ) (M : List ℤ) (W : List ℕ) (c : ℕ) (W' : List ℕ) (v : ℤ) : Type 0 where
  pub value : v ≡ seen x i M W c
  pub words : W' ≡ read_words x i W c

-- a write leaves the cells M' and the words W'
pub record Writes (x : Role) (i : ℕ) (M : List ℤ) (W : List ℕ) (c : ℕ) (v : ℤ) (M' : List ℤ) (W' : List ℕ) : Type 0 where
  pub cells : M' ≡ stored x M W c v
  pub words : W' ≡ written_words x i W c v

pub record Updates (x : Role) (i : ℕ) (M : List ℤ) (W : List ℕ) (c : ℕ) (v : ℤ) (M' : List ℤ) (W' : List ℕ) : Type 0 where
  pub cells : M' ≡ joined x M W c v
  pub words : W' ≡ updated_words x i W c v
