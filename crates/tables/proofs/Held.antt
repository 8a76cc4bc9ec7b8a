-- What the words stand for, where some of them change: rows and own parts do not overlap, so a change in one leaves the others as they were.
use mathlib.Core.Path.{◌≡◌, sym, ◌∙◌, ap, subst}
use mathlib.Core.Logic.{◌⊎◌, inl, inr}
use mathlib.Core.Bool.{Bool}
use mathlib.Core.List.{List}
use Prim.Native.Nat.{ℕ, ◌+◌, ◌*◌, ◌≤◌, ◌<◌}
use native.Mathlib.Nat.{mul-le-mul, mul-le-mul_right, suc-mul}
use native.Mathlib.Decide.{ℕ_discrete, dec_lt}
use native.Mathlib.Omega.{arith}
use lib.ListN.{length, get_or}
use lib.IntN.{ℤ}
use Rattle.int32.specs.Integers.{value}
use Rattle.rules.specs.Choose.{put}
use Rattle.rules.specs.ChooseLaws.{put_same, put_other}
use Rattle.rules.specs.declared.Class.{Class}
use Rattle.shadow.specs.Tables.{Own, Row, Tables}
use Rattle.tables.specs.Layout.{row_at, own_at, flags_of, OwnHeld, RowHeld, Holds}

-- ---- places

-- a row ends where the next begins, or before
pub rows_apart : (p c d : ℕ) → c < d → row_at p c + (6 + 5 * p) ≤ row_at p d
rows_apart p c d h = omega (arith, suc-mul c (6 + 5 * p), mul-le-mul_right (6 + 5 * p) h)

-- and begins at a small number
pub row_small : (p c : ℕ) → c ≤ 4096 → p ≤ 8 → row_at p c < 4294967296
row_small p c b h =
    let y : 6 + 5 * p ≤ 46 = omega arith in
    let m : c * (6 + 5 * p) ≤ 4096 * 46 = mul-le-mul b y in
    omega arith

-- k is not in the part from a up to b
abbrev pub Outside : ℕ → ℕ → ℕ → Type 0
Outside k a b = (k < a) ⊎ (b ≤ k)

-- it is none of that part
pub outside_other : {k a b : ℕ} (m : ℕ) → Outside k a b → a ≤ m → m < b → k ≡ m → ⊥
outside_other m (inl y) f g e = omega arith
outside_other m (inr y) f g e = omega arith

-- nor in a part of it
pub outside_part : {k a b : ℕ} (c d : ℕ) → Outside k a b → a ≤ c → d ≤ b → Outside k c d
outside_part c d (inl y) f g = inl (omega arith)
outside_part c d (inr y) f g = inr (omega arith)

-- ---- words that stay

module _ (W W' : List ℕ) where
  -- the words from a up to b are as they were
  abbrev pub Kept : ℕ → ℕ → Type 0
  Kept a b = (k : ℕ) → a ≤ k → k < b → get_or W' k 0 ≡ get_or W k 0

  pub own_kept : (own : ℕ) (o : Own) → Kept own (own + 5) → OwnHeld W own o → OwnHeld W' own o
  own_kept own o h x = record {
    value = ap value (h own (omega arith) (omega arith)) ∙ x.value;
    wrote = h (own + 1) (omega arith) (omega arith) ∙ x.wrote;
    exposed = h (own + 2) (omega arith) (omega arith) ∙ x.exposed;
    partial = ap value (h (own + 3) (omega arith) (omega arith)) ∙ x.partial;
    touched = h (own + 4) (omega arith) (omega arith) ∙ x.touched;
  }

  pub row_kept : (p : ℕ) (k : Class) (e : ℤ) (row : ℕ) (r : Row) → Kept row (row + (6 + 5 * p)) → RowHeld p k e W row r → RowHeld p k e W' row r
  row_kept p k e row r h x = record {
    entry = ap value (h row (omega arith) (omega arith)) ∙ x.entry;
    met = h (row + 1) (omega arith) (omega arith) ∙ x.met;
    writers = h (row + 2) (omega arith) (omega arith) ∙ x.writers;
    flags = h (row + 3) (omega arith) (omega arith) ∙ x.flags;
    lowest = h (row + 4) (omega arith) (omega arith) ∙ x.lowest;
    highest = h (row + 5) (omega arith) (omega arith) ∙ x.highest;
    own = λ q b. own_kept (own_at row q) (r.own q) (λ j a c. h j (omega arith) (omega arith)) (x.own q b);
  }

  -- ---- one row that changes, with the own part of processor q

  module _ (p : ℕ) (k : Class) (e : ℤ) (row : ℕ) (r : Row) (x : RowHeld p k e W row r) (q : ℕ) (m w lo hi : ℕ) (cr up : Bool) (o : Own) where
    abbrev changed_row : Row
    changed_row = record { met = m; writers = w; lowest = lo; highest = hi; crossed = cr; updated = up; own = put r.own q o }

    pub row_changed : get_or W' row 0 ≡ get_or W row 0 → get_or W' (row + 1) 0 ≡ m → get_or W' (row + 2) 0 ≡ w → get_or W' (row + 3) 0 ≡ flags_of k cr up
        → get_or W' (row + 4) 0 ≡ lo → get_or W' (row + 5) 0 ≡ hi → OwnHeld W' (own_at row q) o
        → ((j : ℕ) → row + 6 ≤ j → Outside j (own_at row q) (own_at row q + 5) → get_or W' j 0 ≡ get_or W j 0) → RowHeld p k e W' row changed_row
    row_changed he hm hw hf hl hh ho h = record { entry = ap value he ∙ x.entry; met = hm; writers = hw; flags = hf; lowest = hl; highest = hh; own = own }
      where
        own : (s : ℕ) → s < p → OwnHeld W' (own_at row s) (put r.own q o s)
        own s b = elim (ℕ_discrete q s) [
          | yes y ↦ subst (λ (u : Own). OwnHeld W' (own_at row s) u) (sym (put_same y r.own o)) (subst (λ (u : ℕ). OwnHeld W' (own_at row u) o) y ho)
          | no y ↦ subst (λ (u : Own). OwnHeld W' (own_at row s) u) (sym (put_other y r.own o))
              (own_kept (own_at row s) (r.own s) (λ j a c. h j (omega arith) (away s y j a c)) (x.own s b))
        ]
          where
            away : (s : ℕ) → (q ≡ s → ⊥) → (j : ℕ) → own_at row s ≤ j → j < own_at row s + 5 → Outside j (own_at row q) (own_at row q + 5)
            away s n j a c = elim (dec_lt s q) [ yes y ↦ inl (omega arith) | no y ↦ inr (omega arith) ]

  -- ---- the tables with it

  module _ (n p : ℕ) (class : ℕ → Class) (entry : ℕ → ℤ) (t : Tables) (h : Holds n p class entry W t) (c : ℕ) (b : c < n) (l : length W' ≡ length W)
      (r : Row) (x : RowHeld p (class c) (entry c) W' (row_at p c) r)
      (o : (k : ℕ) → 2 ≤ k → Outside k (row_at p c) (row_at p c + (6 + 5 * p)) → get_or W' k 0 ≡ get_or W k 0) where
    changed : (d : ℕ) → d < n → RowHeld p (class d) (entry d) W' (row_at p d) (put t.rows c r d)
    changed d a = elim (ℕ_discrete c d) [
      | yes y ↦ subst (λ (u : Row). RowHeld p (class d) (entry d) W' (row_at p d) u) (sym (put_same y t.rows r))
          (subst (λ (u : ℕ). RowHeld p (class u) (entry u) W' (row_at p u) r) y x)
      | no y ↦ subst (λ (u : Row). RowHeld p (class d) (entry d) W' (row_at p d) u) (sym (put_other y t.rows r))
          (row_kept p (class d) (entry d) (row_at p d) (t.rows d) (λ k f g. o k (omega arith) (away d y k f g)) (h.rows d a))
    ]
      where
        away : (d : ℕ) → (c ≡ d → ⊥) → (k : ℕ) → row_at p d ≤ k → k < row_at p d + (6 + 5 * p) → Outside k (row_at p c) (row_at p c + (6 + 5 * p))
        away d m k f g = elim (dec_lt d c) [ yes y ↦ inl (omega (arith, rows_apart p d c y)) | no y ↦ inr (omega (arith, rows_apart p c d (omega arith))) ]

    pub holds_changed : (ps cs : ℕ) → get_or W' 0 0 ≡ ps → get_or W' 1 0 ≡ cs
        → Holds n p class entry W' (record { rows = put t.rows c r; pairs = ps; cells = cs })
    holds_changed ps cs f g = record { size = omega (arith, l, h.size); pairs = f; cells = g; rows = changed }
