-- The run of a processor to its end, and one step of it: the rule, and what `stepping::carry_on` comes to by it.
use mathlib.Core.Path.{◌≡◌, refl, sym, ◌∙◌, ap, subst}
use mathlib.Core.Logic.{◌≢◌, ◌⊎◌, inl, inr}
use mathlib.Core.Bool.{false}
use mathlib.Core.List.{List}
use Prim.Native.Nat.{ℕ, zero, suc, ◌+◌, ◌-◌, ◌≤◌, ◌<◌}
use native.Mathlib.Decide.{dec_lt}
use native.Mathlib.Omega.{arith}
use Rattle.std.proofs.Common.{below_more}
use lib.ListN.{length, get_or, set}
use lib.Seq.{get_or-set_same, get_or-set_other}
use Rattle.std.specs.Prelude.{IsSome}
use Rattle.rules.specs.ChooseLaws.{put_same}
use Rattle.rules.specs.Loop.{Act, read, write, update, fault, done, Loop, Partition, bound}
use Rattle.rules.specs.Steps.{Place, State, opening, given, go_on, step, through, through_all, run_out}
use Rattle.rules.specs.Blocks.{block_start}
use Rattle.stepping.specs.declared.Extent.{Extent}
use Rattle.stepping.specs.declared.Extent.TheVariants.{Once, ToTheEnd}
use Rattle.stepping.specs.declared.Role.{Role}
use Rattle.stepping.specs.Step.{Scene}
use Rattle.stepping.specs.Carrying.{is_open, Reached, CanCarry}
use Rattle.stepping.proofs.Opened.{opened_no, stop_of}
use Rattle.trial.specs.declared.Worker.{Worker}
use Rattle.trial.specs.declared.Setting.{Setting}
use Rattle.trial.specs.Running.{dealt, joined, nobody, Turn, Over, role_of, along, Ends}
use Rattle.trial.proofs.Stepping.{step_is, step_other}
use Rattle.trial.proofs.Turns.{turn_end, turn_fault, turn_below, turn_goes, turn_went, turn_idle}
use Rattle.stepping.specs.Carrying as carrying

-- ---- the rule

module _ (l : Loop) (δ : Partition) (p : ℕ) where
  -- a processor that is finished, or stopped
  pub run_out_finished : (s : State) → bound δ (suc p) ≤ (s.places p).at → run_out l δ p s ≡ s
  unfolding run_out through_all
  run_out_finished s h = let e : bound δ (suc p) - (s.places p).at ≡ 0 = omega arith in ap (λ (n : ℕ). through_all l δ n p s) e

  through_stopped : (n : ℕ) (s : State) (m t : ℕ) → (s.places p).act ≡ fault m t → through_all l δ n p s ≡ s
  unfolding through_all through
  through_stopped zero s m t e = refl
  through_stopped (suc n) s m t e = ap (λ (a : Act). through_all l δ n p (through l δ p a s)) e ∙ through_stopped n s m t e

  pub run_out_stopped : (s : State) (m t : ℕ) → (s.places p).act ≡ fault m t → run_out l δ p s ≡ s
  unfolding run_out
  run_out_stopped s m t e = through_stopped (bound δ (suc p) - (s.places p).at) s m t e

  -- one step first
  module _ (s : State) (lt : (s.places p).at < bound δ (suc p)) where
    abbrev s' : State
    s' = step l δ p s

    again : (a b : Act) → (s.places p).act ≡ a → through l δ p a s ≡ through l δ p b s' → s'.places p ≡ record { at = (s.places p).at; act = b }
        → run_out l δ p s ≡ run_out l δ p s'
    unfolding run_out through_all
    again a b e f g =
        let n = bound δ (suc p) - suc (s.places p).at in
        let x : bound δ (suc p) - (s.places p).at ≡ suc n = omega arith in
        let y : bound δ (suc p) - (s'.places p).at ≡ suc n = ap (λ (w : Place). bound δ (suc p) - w.at) g ∙ x in
        ap (λ (j : ℕ). through_all l δ j p s) x
        ∙ ap (λ (c : Act). through_all l δ n p (through l δ p c s)) e
        ∙ ap (λ (u : State). through_all l δ n p u) f
        ∙ ap (λ (w : Place). through_all l δ n p (through l δ p w.act s')) (sym g)
        ∙ ap (λ (j : ℕ). through_all l δ j p s') (sym y)

    ended : (s.places p).act ≡ done → run_out l δ p s ≡ run_out l δ p s'
    unfolding run_out through_all through go_on
    ended e =
        let n = bound δ (suc p) - suc (s.places p).at in
        let x : bound δ (suc p) - (s.places p).at ≡ suc n = omega arith in
        let g : s'.places p ≡ opening l (suc (s.places p).at) =
        ap (λ (u : State). u.places p) (step_is l δ p s done lt e) ∙ put_same {i = p} refl s.places (opening l (suc (s.places p).at)) in
        ap (λ (j : ℕ). through_all l δ j p s) x
        ∙ ap (λ (c : Act). through_all l δ n p (through l δ p c s)) e
        ∙ ap (λ (w : Place). through_all l δ (bound δ (suc p) - w.at) p s') (sym g)

    came : (a : Act) → (s.places p).act ≡ a → (w : Place) → (go_on l δ p a s).places p ≡ w → s'.places p ≡ w
    came a e w h = ap (λ (u : State). u.places p) (step_is l δ p s a lt e) ∙ h

    by : (a : Act) → (s.places p).act ≡ a → run_out l δ p s ≡ run_out l δ p s'
    unfolding through go_on
    by (read c k) e = again (read c k) (k (given l δ (l.class c) s (s.places p).at c)) e refl (came (read c k) e _ (put_same {i = p} refl s.places _))
    by (write c v a) e = again (write c v a) a e refl (came (write c v a) e _ (put_same {i = p} refl s.places _))
    by (update c v a) e = again (update c v a) a e refl (came (update c v a) e _ (put_same {i = p} refl s.places _))
    by (fault n t) e = ap (run_out l δ p) (sym (step_is l δ p s (fault n t) lt e))
    by done e = ended e

    pub run_out_step : run_out l δ p s ≡ run_out l δ p s'
    run_out_step = by (s.places p).act refl

  -- others stay
  module _ (q : ℕ) (n : p ≢ q) where
    through_other : (a : Act) (s : State) → (through l δ p a s).places q ≡ s.places q
    unfolding through
    through_other (read c k) s = through_other (k _) (step l δ p s) ∙ step_other l δ p s q n
    through_other (write c v a) s = through_other a (step l δ p s) ∙ step_other l δ p s q n
    through_other (update c v a) s = through_other a (step l δ p s) ∙ step_other l δ p s q n
    through_other (fault m t) s = refl
    through_other done s = step_other l δ p s q n

    all_other : (k : ℕ) (s : State) → (through_all l δ k p s).places q ≡ s.places q
    unfolding through_all
    all_other zero s = refl
    all_other (suc k) s = all_other k (through l δ p (s.places p).act s) ∙ through_other (s.places p).act s

    pub run_out_other : (s : State) → (run_out l δ p s).places q ≡ s.places q
    unfolding run_out
    run_out_other s = all_other (bound δ (suc p) - (s.places p).at) s

-- ---- by the record

module _ (code : List ℕ) (g : Setting) (l : Loop) (p : ℕ) where
  abbrev δ : Partition
  δ = dealt g

  abbrev x : Role
  x = role_of g p

  abbrev TurnAt : State → Scene → Type 0
  TurnAt s z = Turn code g l z.cells z.words s p (joined z.pending z.point)

  -- a processor that is not open has come to its end
  turn_over : (s : State) (z : Scene) → TurnAt s z → is_open x z ≡ false → run_out l δ p s ≡ s
  turn_over s z t o = by (opened_no z.point (block_start g.iterations g.processors (suc p)) o)
    where
      by : IsSome z.point.fault ⊎ (block_start g.iterations g.processors (suc p) ≤ z.point.iteration.0) → run_out l δ p s ≡ s
      by (inr h) = run_out_finished l δ p s (omega (arith, turn_end code g l z.cells z.words s p (joined z.pending z.point) t, t.held.at))
      by (inl n) = let (f, e) = stop_of z.point.fault n in elim (dec_lt (s.places p).at (bound δ (suc p))) [
        | yes y ↦ run_out_stopped l δ p s f.number f.line
            (turn_fault code g l z.cells z.words s p (joined z.pending z.point) t f e y)
        | no y ↦ run_out_finished l δ p s (omega arith)
      ]

  -- what a run to the end, begun in s, has come to
  abbrev Nears : State → Scene → Type 0
  Nears s z = (u : State) × TurnAt u z × (run_out l δ p s ≡ run_out l δ p u)

  nears : (s : State) (z y : Scene) → TurnAt s z → Reached x code z y → Nears s y
  nears s z y t carrying.start = (s, t, refl)
  nears s z y t (carrying.on {y = v} r o h) =
      let (u, w, e) = nears s z v t r in (
        step l δ p u,
        turn_went code g l v.cells v.words u p (joined v.pending v.point) w o y h,
        e ∙ run_out_step l δ p u (turn_below code g l v.cells v.words u p (joined v.pending v.point) w o),
      )

  -- the steps can be made
  pub can_carry : (r : Role) → r ≡ x → (s : State) (z : Scene) → TurnAt s z → CanCarry r code z
  can_carry r q s z t = rw q (λ y h o. let (u, w, e) = nears s z y t h in turn_goes code g l y.cells y.words u p (joined y.pending y.point) w o)

  -- and lead there
  pub carried : (k : Extent) (r : Role) → r ≡ x → (s : State) (z z' : Scene) → carrying.Carries k r code z z' → TurnAt s z → TurnAt (along k l δ p s) z'
  unfolding along carrying.Carries
  carried k r q s z z' h t = by k (rw q at h)
    where
      by : (k : Extent) → carrying.Carries k x code z z' → TurnAt (along k l δ p s) z'
      by Once (inl (o, y)) = turn_went code g l z.cells z.words s p (joined z.pending z.point) t o z' y
      by Once (inr (o, e)) = rw (turn_idle code g l z.cells z.words s p (joined z.pending z.point) t o) (subst (TurnAt s) e t)
      by ToTheEnd (y, o) = let (u, w, e) = nears s z z' t y in rw (e ∙ turn_over u z' w o) w

  -- where it then is
  pub carried_ends : (k : Extent) (r : Role) → r ≡ x → (z z' : Scene) → carrying.Carries k r code z z' → Ends k g p (joined z'.pending z'.point)
  unfolding Ends carrying.Carries
  carried_ends k r q z z' h = by k (rw q at h)
    where
      over : IsSome z'.point.fault ⊎ (block_start g.iterations g.processors (suc p) ≤ z'.point.iteration.0)
          → Over g p (joined z'.pending z'.point)
      over (inl n) = inl n
      over (inr b) = inr b

      by : (k : Extent) → carrying.Carries k x code z z' → Ends k g p (joined z'.pending z'.point)
      by Once y = tt
      by ToTheEnd (y, o) = over (opened_no z'.point (block_start g.iterations g.processors (suc p)) o)

-- one processor more is over
pub over_more : (g : Setting) (ws : List Worker) (q : ℕ) (x : Worker) → q < length ws → ((j : ℕ) → j < q → Over g j (get_or ws j nobody)) → Over g q x
    → (j : ℕ) → j < q + 1 → Over g j (get_or (set ws q x) j nobody)
over_more g ws q x b h o = below_more _ _ (λ j c. let n : j ≢ q = omega arith in rw (get_or-set_other ws q j x nobody n) (h j c)) (rw (get_or-set_same ws q x nobody b) o)
