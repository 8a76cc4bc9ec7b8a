-- The words at the start: cleared, then the entry value, the class and the partial results of each row. They stand for the tables of the empty log.
use mathlib.Core.Path.{◌≡◌, refl, sym, ◌∙◌, ap, subst}
use mathlib.Core.Logic.{◌⊎◌, inl, inr}
use mathlib.Core.Bool.{false}
use mathlib.Core.List.{List, []}
use Prim.Native.Nat.{ℕ, zero, suc, ◌+◌, ◌*◌, ◌≤◌, ◌<◌}
use native.Mathlib.Decide.{ℕ_discrete}
use native.Mathlib.Omega.{arith}
use mir.Syntax.{w32}
use mir.Val.{SFits}
use lib.ListN.{length, get_or, replicate, length-replicate}
use lib.IntN.{ℤ}
use Rattle.int32.specs.Integers.{value}
use Rattle.int32.proofs.Laws.{value_word}
use Rattle.rules.specs.Operation.{Operation, operation}
use Rattle.rules.specs.declared.Class.{Class}
use Rattle.rules.specs.Loop.{operator}
use Rattle.rules.specs.Numbers.{class_number}
use Rattle.rules.proofs.OperationLaws.{start_fits}
use Rattle.shadow.specs.Tables.{Row, blank, tables}
use Rattle.tables.specs.Layout.{row_at, own_at, flags_of, RowHeld, Holds}
use Rattle.tables.specs.Entered.{entered, begun}
use Rattle.tables.proofs.Words.{entered_length, entered_value, entered_met, entered_writers, entered_flags, entered_lowest, entered_highest, entered_other, started_length, started_partial, started_other}
use Rattle.tables.proofs.Held.{rows_apart, row_kept}

-- what updates of each cell do
abbrev pub joins : (ℕ → Class) → ℕ → Operation
joins class c = operation (operator (class c))

-- a row of no access
abbrev pub none_noted : (ℕ → Class) → ℕ → Row
none_noted class c = blank (λ i. i) (λ i. i) (joins class) c

-- the first k of n rows have begun, and every word but theirs is 0
pub record Begun (n p : ℕ) (class : ℕ → Class) (entry : ℕ → ℤ) (k : ℕ) (W : List ℕ) : Type 0 where
  pub size : row_at p n ≤ length W
  pub rows : (c : ℕ) → c < k → RowHeld p (class c) (entry c) W (row_at p c) (none_noted class c)
  pub rest : (j : ℕ) → (j < 2 ⊎ row_at p k ≤ j) → get_or W j 0 ≡ 0

-- a word of zeros
pub get_d_zeros : (m j : ℕ) → ◌≡◌ {A = ℕ} (get_or (replicate m 0) j 0) 0
get_d_zeros zero j = refl
get_d_zeros (suc m) zero = refl
get_d_zeros (suc m) (suc j) = get_d_zeros m j

module _ (n p : ℕ) (class : ℕ → Class) (entry : ℕ → ℤ) where
  -- cleared words
  pub begun_clear : (m : ℕ) → row_at p n ≤ m → Begun n p class entry 0 (replicate m 0)
  begun_clear m h = record { size = omega (arith, length-replicate {A = ℕ} m 0); rows = λ c b. absurd (omega arith); rest = λ j s. get_d_zeros m j }

  module _ (k : ℕ) (W : List ℕ) (h : Begun n p class entry k W) (b : k < n) (f : SFits w32 (entry k)) where
    abbrev row : ℕ
    row = row_at p k

    abbrev E : List ℕ
    E = entered W row (entry k) (class k)

    abbrev start : ℤ
    start = (joins class k).start

    abbrev W' : List ℕ
    W' = begun W row p (entry k) (class k)

    fits : row + (6 + 5 * p) ≤ length W
    fits = omega (arith, h.size, rows_apart p k n b)

    len : length W' ≡ length W
    unfolding begun
    len = started_length E row start p ∙ entered_length W row (entry k) (class k) (omega (arith, fits))

    -- the partial results
    partial : (q : ℕ) → q < p → value (get_or W' (own_at row q + 3) 0) ≡ (joins class k).start
    unfolding begun
    partial q l =
        ap value (started_partial E row start p q l (omega (arith, fits, entered_length W row (entry k) (class k) (omega (arith, fits)))))
        ∙ value_word start (start_fits (operator (class k)))

    -- a word that is none of them, and one outside the row's own words
    before : (j : ℕ) → ((q : ℕ) → q < p → j ≡ row + 6 + 5 * q + 3 → ⊥) → get_or W' j 0 ≡ get_or E j 0
    unfolding begun
    before j m = started_other E row start p j m

    other : (j : ℕ) → (j < row ⊎ row + 6 ≤ j) → ((q : ℕ) → q < p → j ≡ row + 6 + 5 * q + 3 → ⊥) → get_or W' j 0 ≡ get_or W j 0
    other j s m = before j m ∙ entered_other W row (entry k) (class k) (omega (arith, fits)) j s

    -- a word after the row's own words that is no partial result was 0
    zero_own : (j : ℕ) → row + 6 ≤ j → ((q : ℕ) → q < p → j ≡ row + 6 + 5 * q + 3 → ⊥) → get_or W' j 0 ≡ 0
    zero_own j y m = other j (inr y) m ∙ h.rest j (inr (omega arith))

    new_row : RowHeld p (class k) (entry k) W' row (none_noted class k)
    unfolding value
    new_row = record {
      entry =
          ap value (before row (λ q l. omega arith) ∙ entered_value W row (entry k) (class k) (omega (arith, fits)))
          ∙ value_word (entry k) f;
      met = before (row + 1) (λ q l. omega arith) ∙ entered_met W row (entry k) (class k) (omega (arith, fits));
      writers = before (row + 2) (λ q l. omega arith) ∙ entered_writers W row (entry k) (class k) (omega (arith, fits));
      flags =
          before (row + 3) (λ q l. omega arith) ∙ entered_flags W row (entry k) (class k) (omega (arith, fits))
          ∙ (let e : 4 * class_number (class k) ≡ flags_of (class k) false false = omega arith in e);
      lowest = before (row + 4) (λ q l. omega arith) ∙ entered_lowest W row (entry k) (class k) (omega (arith, fits));
      highest = before (row + 5) (λ q l. omega arith) ∙ entered_highest W row (entry k) (class k) (omega (arith, fits));
      own = λ q l. record {
        value = ap value (zero_own (own_at row q) (omega arith) (λ s m. omega arith));
        wrote = zero_own (own_at row q + 1) (omega arith) (λ s m. omega arith);
        exposed = zero_own (own_at row q + 2) (omega arith) (λ s m. omega arith);
        partial = partial q l;
        touched = zero_own (own_at row q + 4) (omega arith) (λ s m. omega arith);
      };
    }

    -- a word outside the row
    outside : (j : ℕ) → (j < row ⊎ row + (6 + 5 * p) ≤ j) → get_or W' j 0 ≡ get_or W j 0
    outside j (inl y) = other j (inl y) (λ q l. omega arith)
    outside j (inr y) = other j (inr (omega arith)) (λ q l. omega arith)

    rows_more : (c : ℕ) → c < suc k → RowHeld p (class c) (entry c) W' (row_at p c) (none_noted class c)
    rows_more c l = elim (ℕ_discrete c k) [
      | yes e ↦ subst (λ (x : ℕ). RowHeld p (class x) (entry x) W' (row_at p x) (none_noted class x)) (sym e) new_row
      | no m ↦ row_kept W W' p (class c) (entry c) (row_at p c) (none_noted class c)
          (λ j y z. outside j (inl (omega (arith, rows_apart p c k (omega arith)))))
          (h.rows c (omega arith))
    ]

    rest_more : (j : ℕ) → (j < 2 ⊎ row_at p (suc k) ≤ j) → get_or W' j 0 ≡ 0
    rest_more j (inl y) = outside j (inl (omega arith)) ∙ h.rest j (inl y)
    rest_more j (inr y) =
        outside j (inr (omega (arith, rows_apart p k (suc k) (omega arith)))) ∙ h.rest j (inr (omega (arith, rows_apart p k (suc k) (omega arith))))

    -- one row more
    pub begun_more : Begun n p class entry (suc k) W'
    begun_more = record { size = omega (arith, h.size, len); rows = rows_more; rest = rest_more }

  -- all rows
  pub holds_blank : (γ π : ℕ → ℕ) (W : List ℕ) → Begun n p class entry n W → Holds n p class entry W (tables γ π (joins class) [])
  unfolding tables
  holds_blank γ π W h = record { size = h.size; pairs = h.rest 0 (inl (omega arith)); cells = h.rest 1 (inl (omega arith)); rows = h.rows }
