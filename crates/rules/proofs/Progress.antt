-- A worker that takes iterations in turn: where it is, and what is left of each group. Laws of owners.
use mathlib.Core.Path.{◌≡◌, refl, sym, ◌∙◌, ap, fun_ext}
use mathlib.Core.Logic.{◌≢◌}
use Prim.Native.Nat.{ℕ, zero, suc, ◌≤◌, ◌<◌}
use native.Mathlib.Decide.{ℕ_discrete, dec_lt}
use native.Mathlib.Omega.{arith}
use Rattle.rules.specs.Choose.{below}
use Rattle.rules.specs.Owner.{owner}
use Rattle.rules.specs.ChooseLaws.{below_yes, below_no}
use Rattle.rules.specs.Loop.{Act, done, Loop, bound, Partition}
use Rattle.rules.proofs.Job.{Job, idle, before, span, span_open, span_none, job}
use Rattle.rules.specs.Proper.{Proper}
use Rattle.rules.specs.Steps.{Place, opening}

module _ (b : ℕ → ℕ) (grows : (p : ℕ) → b p ≤ b (suc p)) where
  pub bounds_grow : (p q : ℕ) → p ≤ q → b p ≤ b q
  bounds_grow p zero h = let e : p ≡ 0 = omega arith in rw e (omega arith)
  bounds_grow p (suc q) h = elim (ℕ_discrete p (suc q)) [ yes e ↦ rw e (omega arith) | no n ↦ omega (arith, bounds_grow p q (omega arith), grows q) ]

  -- the block that holds i is its owner
  pub owner_is : (k i p : ℕ) → b p ≤ i → i < b (suc p) → p ≤ k → owner b k i ≡ p
  unfolding owner
  owner_is zero i p h g t = omega arith
  owner_is (suc k) i p h g t = elim (dec_lt i (b (suc k))) [
    | yes y ↦
        below_yes y (owner b k i) (suc k)
        ∙ owner_is k i p h g (elim (ℕ_discrete p (suc k)) [ yes e ↦ absurd (omega (arith, ap b e)) | no n ↦ omega arith ])
    | no y ↦
        below_no (omega arith) (owner b k i) (suc k)
        ∙ elim (ℕ_discrete p (suc k)) [ yes e ↦ sym e | no n ↦ absurd (omega (arith, bounds_grow (suc p) (suc k) (omega arith))) ]
  ]

  -- each i has an owner
  pub owner_from : b 0 ≡ 0 → (k i : ℕ) → b (owner b k i) ≤ i
  unfolding owner
  owner_from z zero i = omega arith
  owner_from z (suc k) i = elim (dec_lt i (b (suc k))) [
    | yes y ↦ rw (below_yes y (owner b k i) (suc k)) (owner_from z k i)
    | no y ↦ rw (below_no {i = i} {j = b (suc k)} (omega arith) (owner b k i) (suc k)) (omega arith)
  ]

  pub owner_to : b 0 ≡ 0 → (k i : ℕ) → i < b k → (i < b (suc (owner b k i))) × (owner b k i < k)
  unfolding owner
  owner_to z zero i h = absurd (omega arith)
  owner_to z (suc k) i h = rw (below_yes h (owner b k i) (suc k)) (elim (dec_lt i (b k)) [
    | yes y ↦ let r = owner_to z k i y in (r.0, omega arith)
    | no y ↦ rw (owner_is k i k (omega arith) h (omega arith)) (h, omega arith)
  ])

pub owner_top : (b : ℕ → ℕ) (k i : ℕ) → b k ≤ i → owner b k i ≡ k
unfolding owner
owner_top b zero i h = refl
owner_top b (suc k) i h = below_no h (owner b k i) (suc k)

module _ (l : Loop) (δ : Partition) where
  -- what is left of the group that the worker is in
  abbrev pub within : Place → ℕ → Job
  within w g = before w.at w.act (span l (suc w.at) (δ.cut (suc g)))

  -- what is left of group g with a worker at w: nothing of those before, all of those after
  unfoldable pub left : Place → ℕ → Job
  left w g = below w.at (δ.cut g) (job l δ g) (below w.at (δ.cut (suc g)) (within w g) idle)

  pub left_after : (w : Place) (g : ℕ) → w.at < δ.cut g → left w g ≡ job l δ g
  unfolding left
  left_after w g h = below_yes h (job l δ g) (below w.at (δ.cut (suc g)) (within w g) idle)

  pub left_at : (w : Place) (g : ℕ) → δ.cut g ≤ w.at → w.at < δ.cut (suc g) → left w g ≡ within w g
  unfolding left
  left_at w g h k = below_no h (job l δ g) (below w.at (δ.cut (suc g)) (within w g) idle) ∙ below_yes k (within w g) idle

  module _ (h : Proper l δ) where
    pub left_before : (w : Place) (g : ℕ) → δ.cut (suc g) ≤ w.at → left w g ≡ idle
    unfolding left
    left_before w g k = below_no (omega (arith, h.cut_grows g)) (job l δ g) (below w.at (δ.cut (suc g)) (within w g) idle) ∙ below_no k (within w g) idle

    -- only what is left of the worker's own group goes by what it still does there
    pub left_other : (i : ℕ) (a b : Act) (g : ℕ) → δ.group i ≢ g → left (record { at = i; act = a }) g ≡ left (record { at = i; act = b }) g
    left_other i a b g n = elim (dec_lt i (δ.cut g)) [
      | yes y ↦ left_after (record { at = i; act = a }) g y ∙ sym (left_after (record { at = i; act = b }) g y)
      | no y ↦ elim (dec_lt i (δ.cut (suc g))) [
        | yes z ↦ absurd (n (h.group_is g i (omega arith) z))
        | no z ↦ left_before (record { at = i; act = a }) g (omega arith) ∙ sym (left_before (record { at = i; act = b }) g (omega arith))
      ]
    ]

    left_opening : (i g : ℕ) → δ.cut g ≤ i → left (opening l i) g ≡ span l i (δ.cut (suc g))
    left_opening i g k = elim (dec_lt i (δ.cut (suc g))) [
      | yes z ↦ left_at (opening l i) g k z ∙ sym (span_open l i (δ.cut (suc g)) z)
      | no z ↦ left_before (opening l i) g (omega arith) ∙ sym (span_none l i (δ.cut (suc g)) (omega arith))
    ]

    -- a worker that has not come past the beginning of g leaves all of it
    pub left_begun : (i g : ℕ) → i ≤ δ.cut g → left (opening l i) g ≡ job l δ g
    left_begun i g k = elim (ℕ_discrete i (δ.cut g)) [
      | yes e ↦ left_opening i g (omega arith) ∙ ap (λ (j : ℕ). span l j (δ.cut (suc g))) e
      | no n ↦ left_after (opening l i) g (omega arith)
    ]

    left_done : (i g : ℕ) → δ.cut g ≤ i → left (record { at = i; act = done }) g ≡ span l (suc i) (δ.cut (suc g))
    unfolding before
    left_done i g k = elim (dec_lt i (δ.cut (suc g))) [
      | yes z ↦ left_at (record { at = i; act = done }) g k z
      | no z ↦ left_before (record { at = i; act = done }) g (omega arith) ∙ sym (span_none l (suc i) (δ.cut (suc g)) (omega arith))
    ]

    pub left_next : (i : ℕ) → left (record { at = i; act = done }) ≡ left (opening l (suc i))
    left_next i = fun_ext (λ g. elim (dec_lt i (δ.cut g)) [
      | yes y ↦ left_after (record { at = i; act = done }) g y ∙ sym (left_begun (suc i) g y)
      | no y ↦ left_done i g (omega arith) ∙ sym (left_opening (suc i) g (omega arith))
    ])

    -- an iteration lies in its group
    pub group_holds : (i : ℕ) → i < l.iterations → (δ.cut (δ.group i) ≤ i) × (i < δ.cut (suc (δ.group i)))
    group_holds i b =
        let n = δ.groups in
        let e : δ.cut n ≡ l.iterations = h.cut_last n (omega arith) in
        let g = owner δ.cut n i in
        let lo : δ.cut g ≤ i = owner_from δ.cut h.cut_grows h.cut_first n i in
        let hi = owner_to δ.cut h.cut_grows h.cut_first n i (omega arith) in
        rw (h.group_is g i lo hi.0) (lo, hi.0)

    -- groups ascend with iterations
    pub group_grows : (i j : ℕ) → i < l.iterations → j < l.iterations → δ.group i < δ.group j → i < j
    group_grows i j a b g = elim (dec_lt i j) [
      | yes y ↦ y
      | no y ↦ absurd (omega (arith, (group_holds i a).1, (group_holds j b).0, bounds_grow δ.cut h.cut_grows (suc (δ.group i)) (δ.group j) g))
    ]

-- the processors' blocks of iterations follow one another and cover the iterations
module _ (l : Loop) (δ : Partition) (h : Proper l δ) where
  pub cuts_grow : (x y : ℕ) → x ≤ y → δ.cut x ≤ δ.cut y
  cuts_grow = bounds_grow δ.cut h.cut_grows

  pub bound_first : bound δ 0 ≡ 0
  bound_first = ap δ.cut h.share_first ∙ h.cut_first

  pub bound_grows : (p : ℕ) → bound δ p ≤ bound δ (suc p)
  bound_grows p = cuts_grow (δ.share p) (δ.share (suc p)) (h.share_grows p)

  pub bound_last : (p : ℕ) → δ.processors ≤ p → bound δ p ≡ l.iterations
  bound_last p b = ap δ.cut (h.share_last p b) ∙ h.cut_last δ.groups (omega arith)
