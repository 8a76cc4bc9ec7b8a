-- Turns of processors with their records, and a schedule of them.
use mathlib.Core.Path.{◌≡◌, refl, sym, ◌∙◌, subst}
use mathlib.Core.Logic.{◌≢◌, ◌⊎◌, inl, inr}
use mathlib.Core.Bool.{true, false}
use mathlib.Core.List.{List, [], ◌∷◌}
use Prim.Native.Nat.{ℕ, zero, suc, ◌≤◌, ◌<◌}
use native.Mathlib.Decide.{ℕ_discrete, dec_lt}
use native.Mathlib.Omega.{arith}
use lib.ListN.{length, get_or, set, take}
use lib.Seq.{get_or-set_same, get_or-set_other}
use lib.IntN.{ℤ}
use Rattle.std.specs.declared.option.Option.TheVariants.{None, Some}
use Rattle.std.specs.Prelude.{IsSome}
use Rattle.stepping.specs.declared.Fault.{Fault}
use Rattle.rules.specs.Loop.{fault, Loop, Partition, bound}
use Rattle.rules.specs.Blocks.{block_start}
use Rattle.rules.proofs.BlocksLaws.{tested_bound}
use Rattle.rules.proofs.TrialRun.{home}
use Rattle.rules.specs.Steps.{State, step, steps}
use Rattle.stepping.specs.declared.Role.{Role}
use Rattle.stepping.specs.Step.{Scene, scene, CanGo, Goes}
use Rattle.stepping.specs.Carrying.{is_open}
use Rattle.stepping.proofs.Happening.{goes_halts}
use Rattle.stepping.proofs.Opened.{opened_yes, opened_no, stop_of, by_some}
use Rattle.trial.specs.declared.Worker.{Worker}
use Rattle.trial.specs.declared.Setting.{Setting}
use Rattle.trial.specs.Standing.{left_of}
use Rattle.trial.specs.Running.{dealt, Open, joined, Held, nobody, Run, Turn, role_of}
use Rattle.trial.proofs.Stepping.{step_finished, step_stopped, step_other, open_goes, open_steps}

module _ (code : List ℕ) (g : Setting) (l : Loop) where
  abbrev k : ℕ
  k = g.processors

  abbrev δ : Partition
  δ = dealt g

  module _ (M : List ℤ) (W : List ℕ) (s : State) (p : ℕ) (x : Worker) (t : Turn code g l M W s p x) where
    abbrev i : ℕ
    i = x.point.iteration.0

    -- where its block ends
    pub turn_end : bound δ (suc p) ≡ block_start g.iterations k (suc p)
    turn_end = tested_bound g.iterations k t.running.standing.suits.some g.grouping (suc p) (omega (arith, t.low))

    -- what a stopped processor has left
    pub turn_fault : (f : Fault) → x.point.fault ≡ Some f → (s.places p).at < bound δ (suc p) → (s.places p).act ≡ fault f.number f.line
    unfolding left_of
    turn_fault f e y =
        t.held.act (home l δ t.running.standing.suits.proper p (s.places p).at (t.running.standing.orderly.placed p) y).inside
        ∙ by_some e _ _

    -- what is fixed for it, and where it is
    abbrev role : Role
    role = role_of g p

    abbrev z : Scene
    z = scene M W x.pending x.point

    -- ---- it is open

    module _ (o : is_open role z ≡ true) where
      is_unstopped : x.point.fault ≡ None
      is_unstopped = (opened_yes x.point (block_start g.iterations k (suc p)) o).0

      pub turn_below : (s.places p).at < bound δ (suc p)
      turn_below = omega (arith, turn_end, t.held.at, (opened_yes x.point (block_start g.iterations k (suc p)) o).1)

      opens : Open code g l M W s p x.pending x.point
      opens = record { running = t.running; placed = t.held; low = t.low; unfinished = turn_below; unstopped = is_unstopped }

      pub turn_goes : CanGo role code z
      turn_goes = open_goes code g l M W s p x.pending x.point opens

      pub turn_went : (z' : Scene) → Goes role code z z' → Turn code g l z'.cells z'.words (step l δ p s) p (joined z'.pending z'.point)
      turn_went z' h =
          let (a, b) = open_steps code g l M W s p x.pending x.point opens z' h in
          record {
            running = record { coded = t.running.coded; iterations = t.running.iterations; standing = a };
            low = t.low;
            held = b;
            halted = λ y. omega (arith, b.at, goes_halts role code z z' h y, turn_below, t.held.at);
          }

    -- ---- it is not

    module _ (o : is_open role z ≡ false) where
      pub turn_idle : step l δ p s ≡ s
      turn_idle = by (opened_no x.point (block_start g.iterations k (suc p)) o)
        where
          by : IsSome x.point.fault ⊎ (block_start g.iterations k (suc p) ≤ i) → step l δ p s ≡ s
          by (inl n) = let (f, e) = stop_of x.point.fault n in elim (dec_lt (s.places p).at (bound δ (suc p))) [
            | yes y ↦ step_stopped l δ p s f.number f.line (turn_fault f e y)
            | no y ↦ step_finished l δ p s (omega arith)
          ]
          by (inr h) = step_finished l δ p s (omega (arith, turn_end, t.held.at))

  -- ---- all of them

  pub run_turn : (M : List ℤ) (W : List ℕ) (ws : List Worker) (s : State) (p : ℕ) → Run code g l M W ws s → p < k → Turn code g l M W s p (get_or ws p nobody)
  run_turn M W ws s p r b = record { running = r.running; low = b; held = r.crew p b; halted = r.halted p b }

  -- processor p comes to another state with its record, and the others stay
  pub run_moved : (M : List ℤ) (W : List ℕ) (ws : List Worker) (s u : State) (p : ℕ) → Run code g l M W ws s → p < length ws
      → ((q : ℕ) → p ≢ q → u.places q ≡ s.places q) → (M' : List ℤ) (W' : List ℕ) (x' : Worker) → Turn code g l M' W' u p x'
      → Run code g l M' W' (set ws p x') u
  run_moved M W ws s u p r b o M' W' x' t = record {
    running = t.running;
    crew = λ q c. elim (ℕ_discrete p q) [
      | yes e ↦ subst (λ (j : ℕ). Held code g l (get_or (set ws p x') j nobody) (u.places j)) e (rw (get_or-set_same ws p x' nobody b) t.held)
      | no n ↦ rw (get_or-set_other ws p q x' nobody (λ (e : q ≡ p). n (sym e)), o q n) (r.crew q c)
    ];
    halted = λ q c. elim (ℕ_discrete p q) [
      | yes e ↦ subst (λ (j : ℕ). IsSome (get_or (set ws p x') j nobody).point.fault → (u.places j).at < bound δ (suc j)) e
          (rw (get_or-set_same ws p x' nobody b) t.halted)
      | no n ↦ rw (get_or-set_other ws p q x' nobody (λ (e : q ≡ p). n (sym e)), o q n) (r.halted q c)
    ];
  }

  pub run_stepped : (M : List ℤ) (W : List ℕ) (ws : List Worker) (s : State) (p : ℕ) → Run code g l M W ws s → p < length ws
      → (M' : List ℤ) (W' : List ℕ) (x' : Worker) → Turn code g l M' W' (step l δ p s) p x' → Run code g l M' W' (set ws p x') (step l δ p s)
  run_stepped M W ws s p r b = run_moved M W ws s (step l δ p s) p r b (λ q n. step_other l δ p s q n)

  -- one byte more of a schedule
  pub steps_more : (ps : List ℕ) (j : ℕ) (s : State) → j < length ps → steps l δ (take (suc j) ps) s ≡ step l δ (get_or ps j 0) (steps l δ (take j ps) s)
  unfolding steps
  steps_more [] j s h = absurd (omega arith)
  steps_more (p ∷ ps) zero s h = refl
  steps_more (p ∷ ps) (suc j) s h = steps_more ps j (step l δ p s) (omega arith)
