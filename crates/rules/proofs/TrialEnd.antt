-- After the trial every processor has finished or was stopped by a fault; without a fault every group is done.
use mathlib.Core.Path.{◌≡◌, refl, ◌∙◌, ap}
use mathlib.Core.Logic.{◌≢◌, ◌⊎◌, inl, inr}
use mathlib.Core.List.{List}
use Prim.Native.Nat.{ℕ, zero, suc, ◌+◌, ◌≤◌, ◌<◌}
use native.Mathlib.Decide.{ℕ_discrete, dec_lt}
use native.Mathlib.Omega.{arith}
use Rattle.rules.specs.ChooseLaws.{put_same, put_other, below_yes, below_no}
use Rattle.rules.specs.Loop.{Act, read, write, update, fault, done, Loop, bound, Partition}
use Rattle.rules.proofs.Job.{failing, idle, before, span, span_none}
use Rattle.rules.proofs.Progress.{left_before, left_at, left_begun, owner_to, owner_top, cuts_grow}
use Rattle.rules.specs.Proper.{Proper}
use Rattle.rules.specs.Steps.{State, IsFault, go_on, step, steps, through, through_all, run_out, run_on, start, trial, Faulty}
use Rattle.rules.proofs.TrialRun.{Home, home, rest, Invariant, through_all_keeps}
use Rattle.rules.specs.Owner.{whose}

fault_is : (a : Act) → IsFault a → (n : ℕ) × (t : ℕ) × (a ≡ fault n t)
fault_is (read c k) h = absurd h
fault_is (write c v a) h = absurd h
fault_is (update c v a) h = absurd h
fault_is (fault n t) h = (n, t, refl)
fault_is done h = absurd h

module _ (l : Loop) (δ : Partition) where
  abbrev Over : ℕ → State → Type 0
  Over p s = (bound δ (suc p) ≤ (s.places p).at) ⊎ IsFault (s.places p).act

  step_at : (p : ℕ) (s : State) (a : Act) → (s.places p).at < bound δ (suc p) → (s.places p).act ≡ a → step l δ p s ≡ go_on l δ p a s
  unfolding step
  step_at p s a lt e = below_yes lt (go_on l δ p (s.places p).act s) s ∙ ap (λ (x : Act). go_on l δ p x s) e

  go_on_other : (p q : ℕ) (s : State) (a : Act) → p ≢ q → (go_on l δ p a s).places q ≡ s.places q
  unfolding go_on
  go_on_other p q s (read c k) n = put_other n s.places _
  go_on_other p q s (write c v a) n = put_other n s.places _
  go_on_other p q s (update c v a) n = put_other n s.places _
  go_on_other p q s (fault m t) n = refl
  go_on_other p q s done n = put_other n s.places _

  over_keeps : (q p : ℕ) (s : State) → Over q s → Over q (step l δ p s)
  unfolding step go_on
  over_keeps q p s o = elim (dec_lt (s.places p).at (bound δ (suc p))) [
    | no y ↦ rw (below_no {i = (s.places p).at} {j = bound δ (suc p)} (omega arith) (go_on l δ p (s.places p).act s) s) o
    | yes y ↦ rw (below_yes y (go_on l δ p (s.places p).act s) s) (elim (ℕ_discrete p q) [
      | no n ↦ rw (go_on_other p q s (s.places p).act n) o
      | yes e ↦ self e o y
    ])
  ]
    where
      self : p ≡ q → Over q s → (s.places p).at < bound δ (suc p) → Over q (go_on l δ p (s.places p).act s)
      self e (inl x) y = absurd (omega (arith, rw (← e) at x))
      self e (inr f) y = let r = fault_is (s.places p).act (rw (← e) at f) in rw r.2 (inr f)

  -- a processor that goes through its iteration stops or comes to the next
  through_moves : (i p : ℕ) (a : Act) (s : State) → i ≤ (s.places p).at → (s.places p).at < bound δ (suc p) → (s.places p).act ≡ a
      → IsFault ((through l δ p a s).places p).act ⊎ (i < ((through l δ p a s).places p).at)
  unfolding through go_on
  through_moves i p (read c k) s h lt e = through_moves i p (k _) (step l δ p s) (rw (step_at p s (read c k) lt e, put_same {i = p} refl) h)
      (rw (step_at p s (read c k) lt e, put_same {i = p} refl) lt) (rw (step_at p s (read c k) lt e, put_same {i = p} refl))
  through_moves i p (write c v a) s h lt e = through_moves i p a (step l δ p s) (rw (step_at p s (write c v a) lt e, put_same {i = p} refl) h)
      (rw (step_at p s (write c v a) lt e, put_same {i = p} refl) lt) (rw (step_at p s (write c v a) lt e, put_same {i = p} refl))
  through_moves i p (update c v a) s h lt e = through_moves i p a (step l δ p s) (rw (step_at p s (update c v a) lt e, put_same {i = p} refl) h)
      (rw (step_at p s (update c v a) lt e, put_same {i = p} refl) lt) (rw (step_at p s (update c v a) lt e, put_same {i = p} refl))
  through_moves i p (fault n m) s h lt e = inl (rw e tt)
  through_moves i p done s h lt e = inr (rw (step_at p s done lt e, put_same {i = p} refl) (omega arith))

  through_all_over : (k p : ℕ) (s : State) → bound δ (suc p) ≤ (s.places p).at + k → Over p (through_all l δ k p s)
  unfolding through_all
  through_all_over zero p s h = inl (omega arith)
  through_all_over (suc k) p s h = elim (dec_lt (s.places p).at (bound δ (suc p))) [
    | no y ↦ through_all_keeps l δ (Over p) (over_keeps p) (suc k) p s (inl (omega arith))
    | yes y ↦ go (through_moves (s.places p).at p (s.places p).act s (omega arith) y refl) (through_all_over k p (through l δ p (s.places p).act s))
  ]
    where
      s' : State
      s' = through l δ p (s.places p).act s

      go : IsFault (s'.places p).act ⊎ ((s.places p).at < (s'.places p).at)
          → (bound δ (suc p) ≤ (s'.places p).at + k → Over p (through_all l δ k p s')) → Over p (through_all l δ k p s')
      go (inl f) ih = through_all_keeps l δ (Over p) (over_keeps p) k p s' (inr f)
      go (inr g) ih = ih (omega arith)

  run_on_over : (k : ℕ) (s : State) (p : ℕ) → p < k → Over p (run_on l δ k s)
  unfolding run_on run_out
  run_on_over zero s p h = absurd (omega arith)
  run_on_over (suc k) s p h = elim (ℕ_discrete p k) [
    | yes e ↦ rw e (through_all_over _ k (run_on l δ k s) (omega arith))
    | no n ↦ through_all_keeps l δ (Over p) (over_keeps p) _ k (run_on l δ k s) (run_on_over k s p (omega arith))
  ]

  module _ (h : Proper l δ) (ps : List ℕ) (inv : Invariant l δ (trial l δ ps)) where
    over : (p : ℕ) → p < δ.processors → Over p (trial l δ ps)
    unfolding trial
    over p lt = run_on_over δ.processors (steps l δ ps (start l δ)) p lt

    pub all_done : ¬ Faulty δ (trial l δ ps) → (g : ℕ) → rest l δ (trial l δ ps) g ≡ idle
    all_done n g = elim (dec_lt g δ.groups) [ yes y ↦ inner y | no y ↦ outer (omega arith) ]
      where
        s : State
        s = trial l δ ps

        P : ℕ
        P = δ.processors

        inner : g < δ.groups → rest l δ s g ≡ idle
        inner y =
            let r = owner_to δ.share h.share_grows h.share_first P g (omega (arith, h.share_last P (omega arith))) in
            elim (dec_lt (s.places (whose δ g)).at (bound δ (suc (whose δ g)))) [
              | no z ↦ left_before l δ h (s.places (whose δ g)) g (omega (arith, cuts_grow l δ h (suc g) (δ.share (suc (whose δ g))) r.0))
              | yes z ↦ elim (over (whose δ g) r.1) [ inl x ↦ absurd (omega arith) | inr f ↦ absurd (n (whose δ g, r.1, (z, f))) ]
            ]

        outer : δ.groups ≤ g → rest l δ s g ≡ idle
        outer y = rw (owner_top δ.share P g (omega (arith, h.share_last P (omega arith))), inv.quiet)
            (left_begun l δ h (bound δ P) g (cuts_grow l δ h (δ.share P) g (omega (arith, h.share_last P (omega arith))))
            ∙ span_none l (δ.cut g) (δ.cut (suc g)) (omega (arith, h.cut_last g y, h.cut_last (suc g) (omega arith))))

    pub fault_left : Faulty δ (trial l δ ps) → (g : ℕ) × (i : ℕ) × (n : ℕ) × (t : ℕ) × (rest l δ (trial l δ ps) g ≡ failing i n t)
    unfolding before
    fault_left (p, b, (lt, f)) =
        let s = trial l δ ps in
        let r = fault_is (s.places p).act f in
        let i = (s.places p).at in
        let o : Home l δ h p i = home l δ h p i (inv.placed p) lt in (
          δ.group i,
          i,
          r.0,
          r.1,
          rw o.owned
              (left_at l δ (s.places p) (δ.group i) o.from o.to
              ∙ ap (λ (a : Act). before i a (span l (suc i) (δ.cut (suc (δ.group i))))) r.2),
        )
