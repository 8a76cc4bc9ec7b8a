-- Both runs of Plan, over a copy of the cells.
use mathlib.Core.Path.{◌≡◌, sym, ◌∙◌, ap, subst}
use mathlib.Core.List.{List}
use Prim.Native.Nat.{ℕ, ◌≤◌, ◌<◌}
use native.Mathlib.Omega.{arith}
use mir.Syntax.{w32}
use mir.Val.{SFits}
use lib.ListN.{length}
use lib.IntN.{ℤ, pos, ◌+ℤ◌}
use Rattle.std.specs.declared.option.Option.TheVariants.{None, Some}
use Rattle.rules.specs.declared.Class.{Class}
use Rattle.rules.specs.Loop.{Loop}
use Rattle.rules.specs.Serial.{failed, serial}
use Rattle.rules.proofs.SerialFault.{Below, serial_below}
use Rattle.stepping.specs.declared.Fault.{Fault}
use Rattle.stepping.specs.declared.Point.{Point}
use Rattle.stepping.proofs.Opened.{by_none, by_some}
use Rattle.trial.specs.declared.Setting.{Setting}
use Rattle.serial.specs.Serving.{Serials, CanSerial, RunsSerially, outcome_of}
use Rattle.sweeping.specs.Sweep.{Faultless, Zeros, CanSweep, Sweeps}
use Rattle.std.specs.Prelude.{Result, Ok, Err}
use Rattle.answers.specs.declared.Failure.{Failure}
use Rattle.answers.specs.declared.Failure.TheVariants.{Faulted}
use Rattle.answers.specs.Answers.{fault_at, staged, stages_written}
use Rattle.planning.specs.Plan.{Ends, CanPlan, Plans}

-- ---- over a copy

module _ (own M : List ℤ) (e : own ≡ M) (code : List ℕ) (s : Setting) (C : List Class) where
  pub can_run : (w : ℕ) → CanSerial code s M C w → CanSerial code s own C w
  can_run w h = subst (λ (m : List ℤ). CanSerial code s m C w) (sym e) h

  pub ends_front : (w : ℕ) (M'' : List ℤ) (W'' : List ℕ) (t : Point) → RunsSerially code s own C w M'' W'' t → Ends code s M C w t
  ends_front w M'' W'' t h l x = (h l (subst (λ (m : List ℤ). Serials code s l m C w) (sym e) x)).outcome

-- ---- both

module _ (code : List ℕ) (s : Setting) (M : List ℤ) (C : List Class) (w : ℕ) (t : Point) (e : Ends code s M C w t) where
  module _ (z : t.fault ≡ None) where
    faultless : (l : Loop) → Serials code s l M C w → Faultless code s l M C w
    unfolding outcome_of
    faultless l h = record { serials = h; faultless = sym (e l h) ∙ by_none z _ _ }

    pub then_sweep : (n k : ℕ) (R : List ℕ) → k ≡ w → Zeros M R → CanPlan code s M C w n → CanSweep code s M C k R n
    then_sweep n k R q r h = record {
      loop = h.loop;
      runs = rw q (faultless h.loop h.serials);
      rows = r;
      numbers = h.numbers;
    }

    pub plans_stages : (L L' : List ℕ) (r n : ℕ) → n ≡ w → Sweeps code s M C n L' r → Plans code s M C w L (Ok r) L'
    plans_stages L L' r n e h l x =
        let f = faultless l x in
        let p = h l (rw e f) in
        record {
          answer = ap Ok p.number ∙ sym (ap (staged l s.from) f.faultless);
          list = p.stages ∙ sym (ap (stages_written l L) f.faultless);
        }

  module _ (f : Fault) (q : t.fault ≡ Some f) where
    failed_as : (l : Loop) → Serials code s l M C w → (serial l).outcome ≡ failed f.number f.line t.iteration.0
    unfolding outcome_of
    failed_as l h = sym (e l h) ∙ by_some q _ _

    pub fault_value : (m : ℤ) → m ≡ s.from → (n : ℕ) → CanPlan code s M C w n → (t.iteration.0 ≤ 65535) × SFits w32 (m +ℤ pos t.iteration.0)
    fault_value m em n h =
        let l = h.loop in
        let b : t.iteration.0 < l.iterations = subst (Below l.iterations) (failed_as l h.serials) (serial_below l) in (
          omega (arith, b, h.serials.entry.suits.iterations_most),
          subst (λ (m : ℤ). SFits w32 (m +ℤ pos t.iteration.0)) (sym em) (h.serials.coded.fits t.iteration.0 b),
        )

    pub plans_fault : (L : List ℕ) (v m x : ℤ) → m ≡ s.from → v ≡ m +ℤ pos t.iteration.0 → x ≡ v
        → Plans code s M C w L (Err (Faulted (fault_at f.number f.line x))) L
    plans_fault L v m x em ev ex l h =
        let o = failed_as l h in
        record {
          answer = ap (λ (y : ℤ). Err (Faulted (fault_at f.number f.line y))) (ex ∙ ev ∙ ap (λ (y : ℤ). y +ℤ pos t.iteration.0) em) ∙ sym (ap (staged l s.from) o);
          list = sym (ap (stages_written l L) o);
        }
