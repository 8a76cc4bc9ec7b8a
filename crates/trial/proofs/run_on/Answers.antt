-- `trial::run_on` meets its contract: the processors below q have run to their end.
use borrow.Author.Rules.{rules}
use mathlib.Core.Path.{◌≡◌}
use Prim.Native.Nat.{◌<◌}
use native.Mathlib.Numerals.{add-one}
use native.Mathlib.Omega.{arith}
use lib.ListN.{length, length-set}
use Rattle.rules.specs.Steps.{run_out, run_on}
use Rattle.trial.specs.Running.{dealt}
use Rattle.trial.proofs.Turns.{run_turn, run_moved}
use Rattle.trial.proofs.RunningOut.{run_out_other, over_more}
use Rattle.trial.proofs.run_on.Goals as goal

pub loop-q-init : goal.loop-q-init
unfolding run_on
loop-q-init c = record { eight = search rules; runs_on = λ l s r. r; over = λ j b. absurd (omega (arith, b)) }

pub run_out-requires : goal.run_out-requires
run_out-requires c =
    let a = c.args in
    let (l, s, r) = c.requires in
    let u = c.loop-q in (
      l,
      run_on l (dealt a.setting) u.q s,
      run_turn a.code.now a.setting l u.cells u.w u.workers _ u.q (u.invariant.runs_on l s r) c.loop-q-test.true,
    )

pub loop-q-preserved : goal.loop-q-preserved
unfolding run_on
loop-q-preserved c =
    let a = c.args in
    let (l₀, s₀, r₀) = c.requires in
    let u = c.loop-q in
    let lt = c.loop-q-test.true in
    let h : u.q < length u.workers = omega (arith, r₀.running.standing.suits.most) in record {
      eight = simp length-set u.invariant.eight;
      runs_on = λ l s r.
          let v = run_on l (dealt a.setting) u.q s in
          rw add-one
          (run_moved a.code.now a.setting l u.cells u.w u.workers v (run_out l (dealt a.setting) u.q v) u.q
          (u.invariant.runs_on l s r) h (λ j n. run_out_other l (dealt a.setting) u.q j n v) _ _ _
          (c.run_out.ensures.runs_out l v
          (run_turn a.code.now a.setting l u.cells u.w u.workers v u.q (u.invariant.runs_on l s r) lt)));
      over = over_more a.setting u.workers u.q _ h u.invariant.over c.run_out.ensures.over;
    }

pub returns : goal.returns
returns c =
    let a = c.args in
    let u = c.loop-q in
    let e : u.q ≡ a.setting.processors = omega (arith, c.loop-q-test.false) in record {
      runs_on = λ l s r. rw e at (u.invariant.runs_on l s r);
      all_over = rw e at u.invariant.over;
    }
