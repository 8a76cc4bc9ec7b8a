-- Words that were set, and those of a row at its start.
use mathlib.Core.Path.{◌≡◌, refl, ◌∙◌}
use mathlib.Core.Logic.{◌⊎◌, inl, inr}
use mathlib.Core.List.{List}
use Prim.Native.Nat.{ℕ, zero, suc, ◌+◌, ◌*◌, ◌≤◌, ◌<◌}
use native.Mathlib.Decide.{ℕ_discrete}
use native.Mathlib.Omega.{arith}
use lib.IntN.{ℤ}
use lib.ListN.{length, get_or, set, length-set}
use lib.Seq.{get_or-set_same, get_or-set_other}
use Rattle.std.proofs.lemmas.Grind.{common_steps}
use Rattle.int32.specs.Integers.{word}
use Rattle.rules.specs.declared.Class.{Class}
use Rattle.rules.specs.Numbers.{class_number}
use Rattle.tables.specs.Entered.{entered, started}

-- a word that was set, and another
pub hit : (W : List ℕ) (i v : ℕ) → i < length W → get_or (set W i v) i 0 ≡ v
hit W i v h = get_or-set_same W i v 0 h

pub unset : (W : List ℕ) (i k v : ℕ) → (k ≡ i → ⊥) → get_or (set W i v) k 0 ≡ get_or W k 0
unset W i k v n = get_or-set_other W i k v 0 n

-- ---- a row's start

module _ (W : List ℕ) (row : ℕ) (v : ℤ) (c : Class) (h : row + 6 ≤ length W) where
  abbrev enter1 : List ℕ
  enter1 = set W row (word v)

  abbrev enter2 : List ℕ
  enter2 = set enter1 (row + 1) 0

  abbrev enter3 : List ℕ
  enter3 = set enter2 (row + 2) 0

  abbrev enter4 : List ℕ
  enter4 = set enter3 (row + 3) (4 * class_number c)

  abbrev enter5 : List ℕ
  enter5 = set enter4 (row + 4) 0

  -- the words before the record's
  before : (k : ℕ) → k < row + 4 → get_or (entered W row v c) k 0 ≡ get_or enter4 k 0
  unfolding entered
  before k b = grind (arith, common_steps)

  pub entered_length : length (entered W row v c) ≡ length W
  unfolding entered
  entered_length = simp length-set

  pub entered_value : get_or (entered W row v c) row 0 ≡ word v
  unfolding entered
  entered_value = grind (arith, common_steps)

  pub entered_met : get_or (entered W row v c) (row + 1) 0 ≡ 0
  unfolding entered
  entered_met = grind (arith, common_steps)

  pub entered_writers : get_or (entered W row v c) (row + 2) 0 ≡ 0
  unfolding entered
  entered_writers = grind (arith, common_steps)

  pub entered_flags : get_or (entered W row v c) (row + 3) 0 ≡ 4 * class_number c
  unfolding entered
  entered_flags = grind (arith, common_steps)

  pub entered_lowest : get_or (entered W row v c) (row + 4) 0 ≡ 0
  unfolding entered
  entered_lowest = grind (arith, common_steps)

  pub entered_highest : get_or (entered W row v c) (row + 5) 0 ≡ 0
  unfolding entered
  entered_highest = grind (arith, common_steps)

  pub entered_other : (k : ℕ) → (k < row ⊎ row + 6 ≤ k) → get_or (entered W row v c) k 0 ≡ get_or W k 0
  unfolding entered
  entered_other k (inl a) =
      before k (omega arith) ∙ unset enter3 (row + 3) k _ (omega arith) ∙ unset enter2 (row + 2) k _ (omega arith) ∙ unset enter1 (row + 1) k _ (omega arith)
      ∙ unset W row k _ (omega arith)
  entered_other k (inr a) =
      unset enter5 (row + 5) k _ (omega arith) ∙ unset enter4 (row + 4) k _ (omega arith) ∙ unset enter3 (row + 3) k _ (omega arith)
      ∙ unset enter2 (row + 2) k _ (omega arith) ∙ unset enter1 (row + 1) k _ (omega arith) ∙ unset W row k _ (omega arith)

-- and its partial results
module _ (W : List ℕ) (row : ℕ) (v : ℤ) where
  pub started_length : (p : ℕ) → length (started W row v p) ≡ length W
  unfolding started
  started_length zero = refl
  started_length (suc p) = length-set (started W row v p) (row + 6 + 5 * p + 3) (word v) ∙ started_length p

  -- each of them is v
  pub started_partial : (p q : ℕ) → q < p → row + 6 + 5 * p ≤ length W → get_or (started W row v p) (row + 6 + 5 * q + 3) 0 ≡ word v
  unfolding started
  started_partial zero q b h = absurd (omega arith)
  started_partial (suc p) q b h = elim (ℕ_discrete q p) [
    | yes e ↦ rw e (hit (started W row v p) (row + 6 + 5 * p + 3) _ (omega (arith, started_length p)))
    | no n ↦ unset (started W row v p) (row + 6 + 5 * p + 3) (row + 6 + 5 * q + 3) _ (omega arith) ∙ started_partial p q (omega arith) (omega arith)
  ]

  -- the other words are as they were
  pub started_other : (p k : ℕ) → ((q : ℕ) → q < p → k ≡ row + 6 + 5 * q + 3 → ⊥) → get_or (started W row v p) k 0 ≡ get_or W k 0
  unfolding started
  started_other zero k h = refl
  started_other (suc p) k h = unset (started W row v p) (row + 6 + 5 * p + 3) k _ (h p (omega arith)) ∙ started_other p k (λ q b. h q (omega arith))
