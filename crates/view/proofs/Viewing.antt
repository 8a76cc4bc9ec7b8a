-- The view, word by word.
use mathlib.Core.Path.{◌≡◌, refl, sym, ◌∙◌, ap}
use mathlib.Core.List.{List, [], ◌∷◌}
use Prim.Native.Nat.{ℕ, zero, suc, ◌+◌, ◌*◌, ◌<◌}
use native.Mathlib.Decide.{ℕ_discrete}
use native.Mathlib.Omega.{arith}
use lib.ListN.{length, get_or, set, length-set}
use lib.Seq.{get_or-set_same, get_or-set_other}
use lib.IntN.{ℤ}
use Rattle.int32.specs.Integers.{word}
use Rattle.rules.specs.Cells.{cell_of}
use Rattle.rules.proofs.CellsLaws.{cell_listed}
use Rattle.rules.specs.Loop.{Loop, Partition}
use Rattle.rules.specs.Marks.{marks}
use Rattle.rules.specs.Steps.{State}
use Rattle.rules.specs.Answer.{viewed}
use Rattle.shadow.proofs.Shows.{tables_right}
use Rattle.tables.specs.Layout.{row_at}
use Rattle.findings.specs.Findings.{marks_of}
use Rattle.findings.proofs.Logged.{logged_marks}
use Rattle.trial.specs.Standing.{Standing}
use Rattle.trial.proofs.StandingLaws.{standing_size}

-- the first c cells are shown by f and g
abbrev pub Showing : List ℕ → ℕ → (ℕ → ℕ) → (ℕ → ℕ) → Type 0
Showing B c f g = (j : ℕ) → j < c → (get_or B (2 * j) 0 ≡ f j) × (get_or B (2 * j + 1) 0 ≡ g j)

-- one cell more
pub showing_more : (B : List ℕ) (c : ℕ) (f g : ℕ → ℕ) → 2 * c + 1 < length B → Showing B c f g
    → Showing (set (set B (2 * c) (f c)) (2 * c + 1) (g c)) (suc c) f g
showing_more B c f g h s j b =
    let B1 = set B (2 * c) (f c) in
    let n : length B1 ≡ length B = simp length-set in
    elim (ℕ_discrete j c) [
      | yes e ↦ rw e (
        get_or-set_other B1 (2 * c + 1) (2 * c) (g c) 0 (omega arith) ∙ get_or-set_same B (2 * c) (f c) 0 (omega arith),
        get_or-set_same B1 (2 * c + 1) (g c) 0 (omega arith),
      )
      | no m ↦ (
        get_or-set_other B1 (2 * c + 1) (2 * j) (g c) 0 (omega arith) ∙ get_or-set_other B (2 * c) (2 * j) (f c) 0 (omega arith) ∙ (s j (omega arith)).0,
        get_or-set_other B1 (2 * c + 1) (2 * j + 1) (g c) 0 (omega arith) ∙ get_or-set_other B (2 * c) (2 * j + 1) (f c) 0 (omega arith) ∙ (s j (omega arith)).1,
      )
    ]

-- all of them
pub showing_all : (B : List ℕ) (n : ℕ) (m : ℕ → ℤ) (k : ℕ → ℕ) → length B ≡ 2 * n → Showing B n (λ j. word (m j)) k → B ≡ viewed n m k
unfolding viewed
showing_all [] zero m k e s = refl
showing_all [] (suc n) m k e s = absurd (omega arith)
showing_all (x ∷ B) zero m k e s = absurd (omega arith)
showing_all (x ∷ []) (suc n) m k e s = absurd (omega arith)
showing_all (x ∷ y ∷ B) (suc n) m k e s =
    let z = s 0 (omega arith) in
    cc (z.0, z.1, showing_all B n (λ c. m (suc c)) (λ c. k (suc c)) (omega arith) (λ j b. later j (s (suc j) (omega arith))))
  where
    later : (j : ℕ) → (get_or (x ∷ y ∷ B) (2 * suc j) 0 ≡ word (m (suc j))) × (get_or (x ∷ y ∷ B) (2 * suc j + 1) 0 ≡ k (suc j))
        → (get_or B (2 * j) 0 ≡ word (m (suc j))) × (get_or B (2 * j + 1) 0 ≡ k (suc j))
    later j t =
        let p : 2 * suc j ≡ suc (suc (2 * j)) = omega arith in
        let q : 2 * suc j + 1 ≡ suc (suc (2 * j + 1)) = omega arith in
        (ap (λ (d : ℕ). get_or (x ∷ y ∷ B) d 0) (sym p) ∙ t.0, ap (λ (d : ℕ). get_or (x ∷ y ∷ B) d 0) (sym q) ∙ t.1)

module _ (k : ℕ) (l : Loop) (δ : Partition) (M : List ℤ) (W : List ℕ) (s : State) (h : Standing k l δ M W s) where
  pub standing_shown : (B : List ℕ) → length B ≡ 2 * length M → Showing B (length M) (λ j. word (cell_of M j)) (λ c. marks_of W (row_at k c))
      → B ≡ viewed l.size s.cells (λ c. marks δ.group c s.log)
  standing_shown B e v = showing_all B l.size s.cells (λ c. marks δ.group c s.log) (omega (arith, standing_size k l δ M W s h)) (λ j b.
      let w = v j (omega (arith, standing_size k l δ M W s h)) in (
        w.0 ∙ ap word (ap (λ (m : List ℤ). cell_of m j) h.cells ∙ cell_listed l.size s.cells j b),
        w.1
            ∙ ap (λ (q : ℕ). marks_of W (row_at q j)) (sym h.suits.processors)
            ∙ logged_marks l δ s.log W h.words
            (tables_right l δ h.suits.proper s.log h.orderly.inside h.orderly.ascending) j b,
      ))
