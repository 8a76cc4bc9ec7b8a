-- An order that goes through the stages of a plan in turn respects all dependent pairs; and there is always such an order.
use mathlib.Core.Path.{◌≡◌}
use mathlib.Core.Logic.{inl, inr}
use mathlib.Core.List.{List, [], ◌∷◌, ◌++◌}
use Prim.Native.Nat.{ℕ, zero, suc, ◌+◌, ◌≤◌, ◌<◌}
use native.Mathlib.Decide.{ℕ_discrete}
use native.Mathlib.Omega.{arith}
use Rattle.rules.specs.Choose.{pick}
use Rattle.rules.specs.ChooseLaws.{pick_same, pick_other}
use Rattle.rules.specs.Log.{Log}
use Rattle.reorder.specs.Stages.{greatest, stage, stage_count, Plan}
use Rattle.reorder.specs.Orders.{In, at, after, Before, Once, once_nil, once_cons, Staged, Respects, range}
use Rattle.reorder.proofs.OrderLaws.{in_nil, in_cases, in_first, in_second, before_or, in_append, in_left, in_right, before_append, once_append, range_order}
use Rattle.reorder.proofs.StageLaws.{greatest_least, stage_suc}

pub plan_respects : (g : Log) (n : ℕ) (s : ℕ → ℕ) → Plan g n s → (o : List ℕ) → Staged n s o → Respects n g o
plan_respects g n s p o t = record {
  order = t.order;
  keeps = λ i j x y d. elim (before_or (λ e. omega arith) (t.order.has i (omega arith)) (t.order.has j y)) [
    | inl b ↦ b
    | inr b ↦ absurd (omega (arith, t.turn j i b, p i j x y d))
  ];
}

-- ---- there is such an order

module _ (s : ℕ → ℕ) where
  -- those of the list that s gives k
  having : ℕ → List ℕ → List ℕ
  having k [] = []
  having k (i ∷ o) = pick (s i) k (i ∷ having k o) (having k o)

  -- those of c stages, the first of them k
  turns : ℕ → ℕ → List ℕ → List ℕ
  turns zero k o = []
  turns (suc c) k o = having k o ++ turns c (suc k) o

  having_in : (k i : ℕ) (o : List ℕ) → In i (having k o) → (s i ≡ k) × In i o
  unfolding having
  having_in k i [] h = absurd (in_nil h)
  having_in k i (j ∷ o) h = elim (ℕ_discrete (s j) k) [
    | yes p ↦ elim (in_cases (rw (pick_same p (j ∷ having k o) (having k o)) at h)) [
      | inl e ↦ rw e (p, at)
      | inr t ↦ let r = having_in k i o t in (r.0, after r.1)
    ]
    | no p ↦ let r = having_in k i o (rw (pick_other p (j ∷ having k o) (having k o)) at h) in (r.0, after r.1)
  ]

  in_having : (k i : ℕ) (o : List ℕ) → s i ≡ k → In i o → In i (having k o)
  unfolding having
  in_having k i [] e h = h
  in_having k i (j ∷ o) e h = elim (ℕ_discrete (s j) k) [
    | yes p ↦ rw (pick_same p (j ∷ having k o) (having k o)) (elim (in_cases h) [ inl q ↦ rw q at | inr t ↦ after (in_having k i o e t) ])
    | no p ↦ rw (pick_other p (j ∷ having k o) (having k o)) (elim (in_cases h) [ inl q ↦ absurd (p (rw (← q) e)) | inr t ↦ in_having k i o e t ])
  ]

  having_once : (k : ℕ) {o : List ℕ} → Once o → Once (having k o)
  unfolding having
  having_once k once_nil = once_nil
  having_once k (once_cons {i = i} {o = o} n h) = elim (ℕ_discrete (s i) k) [
    | yes p ↦ rw (pick_same p (i ∷ having k o) (having k o)) (once_cons (λ x. n (having_in k i o x).1) (having_once k h))
    | no p ↦ rw (pick_other p (i ∷ having k o) (having k o)) (having_once k h)
  ]

  turns_in : (c k i : ℕ) (o : List ℕ) → In i (turns c k o) → (k ≤ s i) × In i o
  unfolding turns
  turns_in zero k i o h = absurd (in_nil h)
  turns_in (suc c) k i o h = elim (in_append (having k o) (turns c (suc k) o) h) [
    | inl u ↦ let r = having_in k i o u in (omega (arith, r.0), r.1)
    | inr u ↦ let r = turns_in c (suc k) i o u in (omega (arith, r.0), r.1)
  ]

  in_turns : (c k i : ℕ) (o : List ℕ) → k ≤ s i → s i < k + c → In i o → In i (turns c k o)
  unfolding turns
  in_turns zero k i o x y h = absurd (omega arith)
  in_turns (suc c) k i o x y h = elim (ℕ_discrete (s i) k) [
    | yes p ↦ in_left (turns c (suc k) o) (in_having k i o p h)
    | no p ↦ in_right (having k o) (in_turns c (suc k) i o (omega arith) (omega arith) h)
  ]

  turns_once : (c k : ℕ) (o : List ℕ) → Once o → Once (turns c k o)
  unfolding turns
  turns_once zero k o h = once_nil
  turns_once (suc c) k o h = once_append (having k o) (turns c (suc k) o) (having_once k h) (turns_once c (suc k) o h)
      (λ i x y. omega (arith, (having_in k i o x).0, (turns_in c (suc k) i o y).0))

  turns_turn : (c k : ℕ) (o : List ℕ) (i j : ℕ) → Before i j (turns c k o) → s i ≤ s j
  unfolding turns
  turns_turn zero k o i j b = absurd (in_nil (in_second b))
  turns_turn (suc c) k o i j b = elim (before_append (having k o) (turns c (suc k) o) b) [
    | inl u ↦ omega (arith, (having_in k i o (in_first u)).0, (having_in k j o (in_second u)).0)
    | inr (inl u) ↦ omega (arith, (having_in k i o u.0).0, (turns_in c (suc k) j o u.1).0)
    | inr (inr u) ↦ turns_turn c (suc k) o i j u
  ]

-- the iterations by their stages
pub by_stages : Log → ℕ → List ℕ
by_stages g n = turns (stage g) (stage_count g n) 1 (range n 0)

pub by_stages_staged : (g : Log) (n : ℕ) → Staged n (stage g) (by_stages g n)
unfolding by_stages stage_count
by_stages_staged g n = let q = range_order n in let c = greatest n (stage g) in record {
  order = record {
    once = turns_once (stage g) c 1 (range n 0) q.once;
    has = λ i x. in_turns (stage g) c 1 i (range n 0) (omega (arith, stage_suc g i)) (omega (arith, greatest_least n (stage g) i x)) (q.has i x);
    small = λ i h. q.small i (turns_in (stage g) c 1 i (range n 0) h).1;
  };
  turn = turns_turn (stage g) c 1 (range n 0);
}
