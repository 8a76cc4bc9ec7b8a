-- Laws of the order of lines: what stands before a line.
use mathlib.Core.Path.{◌≡◌}
use mathlib.Core.Bool.{true, false, ◌&&◌}
use mathlib.Core.Logic.{◌⊎◌, inl, inr}
use Prim.Native.Nat.{ℕ, suc, ◌+◌, ◌≤◌, ◌<◌}
use native.Mathlib.Omega.{arith}
use native.Mathlib.Decide.{ℕ_discrete}
use lib.Dec.{eqb}
use borrow.Author.Tests.{eqb-true}
use Rattle.syntax.specs.Grammar.{Line}
use Rattle.syntax.specs.Known.{State}
use Rattle.syntax.specs.Conditions.{several, may_miss, may_follow, fits, stage_of, stands}
use Rattle.syntax.proofs.Spelling.{both_true}
use Rattle.syntax.proofs.TestLaws.{either_holds}

-- the line before stands one before; or at the same place, of which there may be several; or two before, where what is between may miss
follows_cases : (k n : ℕ) → may_follow k n ≡ true
    → (n ≡ k + 1) ⊎ (((n ≡ k) × (several k ≡ true)) ⊎ ((n ≡ k + 2) × (may_miss (k + 1) ≡ true)))
follows_cases k n h = elim (either_holds (eqb n (k + 1)) _ h) [
  | inl a ↦ inl (eqb-true n (k + 1) a)
  | inr b ↦ elim (either_holds (several k && eqb n k) _ b) [
    | inl c ↦ let (e, f) = both_true (several k) (eqb n k) c in inr (inl (eqb-true n k f, e))
    | inr d ↦ let (e, f) = both_true (may_miss (k + 1)) (eqb n (k + 2)) d in inr (inr (eqb-true n (k + 2) f, e))
  ]
]

pub follows_order : (k n : ℕ) → may_follow k n ≡ true → (k ≤ n) × (n ≤ k + 2)
follows_order k n h = elim (follows_cases k n h) [
  | inl a ↦ (omega (arith, a), omega (arith, a))
  | inr b ↦ elim b [ inl c ↦ (omega (arith, c.0), omega (arith, c.0)) | inr d ↦ (omega (arith, d.0), omega (arith, d.0)) ]
]

-- what may not miss stood before what follows it
pub follows_next : (k n : ℕ) → may_follow k (suc n) ≡ true → may_miss n ≡ false → n ≤ k
follows_next k n h m = elim (follows_cases k (suc n) h) [
  | inl a ↦ omega (arith, a)
  | inr b ↦ elim b [
    | inl c ↦ omega (arith, c.0)
    | inr d ↦
        let e : k + 1 ≡ n = omega (arith, d.0) in
        let f : may_miss n ≡ true = rw e at d.1 in
        let z : ◌≡◌ {A = ℕ} 0 1 = cc in
        absurd (omega arith)
  ]
]

-- lines up to `do` stand before all statements
pub follows_before : (k n : ℕ) → may_follow k n ≡ true → n ≤ 4 → k < 4
follows_before k n h l = elim (follows_cases k n h) [
  | inl a ↦ omega (arith, a)
  | inr b ↦ elim b [
    | inl c ↦ elim (ℕ_discrete k 4) [
      | yes e ↦ let f : several 4 ≡ true = rw e at c.1 in let z : ◌≡◌ {A = ℕ} 0 1 = cc in absurd (omega arith)
      | no x ↦ omega (arith, c.0)
    ]
    | inr d ↦ omega (arith, d.0)
  ]
]

-- ---- a line that stands

pub in_place : (l : Line) (s : State) → stands s l ≡ true → (may_follow s.stage (stage_of l) ≡ true) × (fits s.opens l ≡ true)
unfolding stands
in_place l s a = both_true (may_follow s.stage (stage_of l)) (fits s.opens l) a

-- `do` and what stands before it
pub before_body : (l : Line) (s : State) → stands s l ≡ true → stage_of l ≤ 4 → s.stage < 4
before_body l s a = follows_before s.stage (stage_of l) (in_place l s a).0
