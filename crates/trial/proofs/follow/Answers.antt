-- `trial::follow` meets its contract: after so many bytes the run is that of these.
use borrow.Author.Rules.{rules}
use mathlib.Core.Path.{◌≡◌}
use Prim.Native.Nat.{◌<◌}
use native.Mathlib.Numerals.{add-one}
use native.Mathlib.Omega.{arith}
use lib.ListN.{length, get_or, take, length-set}
use lib.Seq.{take-length}
use Rattle.rules.specs.Steps.{steps}
use Rattle.trial.specs.Running.{dealt}
use Rattle.trial.proofs.Turns.{run_turn, run_stepped, steps_more}
use Rattle.trial.proofs.follow.Goals as goal

pub loop-b-init : goal.loop-b-init
unfolding steps
loop-b-init c = (search rules, λ l s r. r)

pub step_record-requires : goal.step_record-requires
step_record-requires c =
    let a = c.args in
    let (l, s, r, n) = c.requires in
    let u = c.loop-b in
    rw c.from.ensures (
      l,
      steps l (dealt a.setting) (take u.b-index a.schedule.now) s,
      run_turn a.code.now a.setting l u.cells u.w u.workers _ (get_or a.schedule.now u.b-index 0) (u.invariant.1 l s r) (n u.b-index c.loop-b-test.true),
    )

pub loop-b-preserved : goal.loop-b-preserved
loop-b-preserved c =
    let a = c.args in
    let (l₀, s₀, r₀, n) = c.requires in
    let u = c.loop-b in
    let lt = c.loop-b-test.true in
    let b = n u.b-index lt in
    let h : get_or a.schedule.now u.b-index 0 < length u.workers = omega (arith, b, r₀.running.standing.suits.most) in (
      simp length-set u.invariant.0,
      λ l s r.
          let t = run_turn a.code.now a.setting l u.cells u.w u.workers _ (get_or a.schedule.now u.b-index 0) (u.invariant.1 l s r) b in
          rw (add-one, c.from.ensures, steps_more a.code.now a.setting l a.schedule.now u.b-index s lt)
          (run_stepped a.code.now a.setting l u.cells u.w u.workers _ (get_or a.schedule.now u.b-index 0) (u.invariant.1 l s r) h _ _ _
          (rw c.from.ensures at c.step_record.ensures l _ t)),
    )

pub returns : goal.returns
returns c =
    let a = c.args in
    let u = c.loop-b in
    let e : u.b-index ≡ length a.schedule.now = omega (arith, c.loop-b-test.false) in
    λ l s r. rw (e, take-length) at (u.invariant.1 l s r)
