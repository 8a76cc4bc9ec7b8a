-- `sweeping::sweep` meets its contract: before each iteration the run comes to what it came to at the start, and the list has the stages of those before.
use mathlib.Core.Path.{refl, sym, ◌∙◌}
use Prim.Native.Nat.{◌<◌}
use native.Mathlib.Omega.{arith}
use lib.ListN.{length}
use Rattle.reorder.specs.Stages.{greatest}
use Rattle.sweeping.proofs.Ends.{sweep_start, sweep_runs, iterate_end, after_small, highest_next, sweep_end}
use Rattle.sweeping.proofs.sweep.Goals as goal

pub loop-i-init : goal.loop-i-init
loop-i-init c = unfold greatest in record { highest = refl; before = λ v l s e b. b }

pub iterate-over-requires : goal.iterate-over-requires
iterate-over-requires c =
    let a = c.args in
    let p = c.requires in
    let u = c.loop-i in
    let e = c.only_role-role.ensures in
    let l = p.loop in
    let s = sweep_runs a.code.now a.setting l a.cells.now a.classes.now (length a.w.now) p.runs _ e in
    let low : u.i < l.iterations = omega (arith, c.loop-i-test.true, p.runs.serials.iterations) in
    let b = u.invariant.before a.setting.from l s (omega (arith, p.runs.serials.iterations))
    (sweep_start a.code.now a.setting l a.cells.now a.classes.now (length a.w.now) p.runs _ a.rows.now a.list.now
    (c.enter.ensures l _ p.runs.serials.entry) p.rows p.numbers) in
    (a.setting.from, l, s, low, b)

pub overflow_add-stage : goal.overflow_add-stage
overflow_add-stage c =
    let a = c.args in
    let p = c.requires in
    let u = c.loop-i in
    let e = c.only_role-role.ensures in
    let l = p.loop in
    let s = sweep_runs a.code.now a.setting l a.cells.now a.classes.now (length a.w.now) p.runs _ e in
    let low : u.i < l.iterations = omega (arith, c.loop-i-test.true, p.runs.serials.iterations) in
    let b = u.invariant.before a.setting.from l s (omega (arith, p.runs.serials.iterations))
    (sweep_start a.code.now a.setting l a.cells.now a.classes.now (length a.w.now) p.runs _ a.rows.now a.list.now
    (c.enter.ensures l _ p.runs.serials.entry) p.rows p.numbers) in
    let y = c.iterate-over in
    let o = after_small l u.i _ _ _ u.list y.result (y.ensures a.setting.from l s low b) in
    omega (arith, o, low, p.runs.serials.entry.suits.iterations_most)

pub overflow_cast-list : goal.overflow_cast-list
overflow_cast-list c =
    let a = c.args in
    let p = c.requires in
    let u = c.loop-i in
    let e = c.only_role-role.ensures in
    let l = p.loop in
    let s = sweep_runs a.code.now a.setting l a.cells.now a.classes.now (length a.w.now) p.runs _ e in
    let low : u.i < l.iterations = omega (arith, c.loop-i-test.true, p.runs.serials.iterations) in
    let b = u.invariant.before a.setting.from l s (omega (arith, p.runs.serials.iterations))
    (sweep_start a.code.now a.setting l a.cells.now a.classes.now (length a.w.now) p.runs _ a.rows.now a.list.now
    (c.enter.ensures l _ p.runs.serials.entry) p.rows p.numbers) in
    let y = c.iterate-over in
    let o = after_small l u.i _ _ _ u.list y.result (y.ensures a.setting.from l s low b) in
    omega (arith, o, low, p.runs.serials.entry.suits.iterations_most)

pub loop-i-preserved : goal.loop-i-preserved
loop-i-preserved c =
    let p = c.requires in
    let u = c.loop-i in
    let y = c.iterate-over in
    let small : u.i < length u.list = omega (arith, c.loop-i-test.true, u.auto.list, p.numbers) in record {
      highest = c.max-stages.ensures ∙ rw u.invariant.highest (sym (highest_next u.list u.i _ small));
      before = λ v l s e b.
          let low : u.i < l.iterations = omega (arith, c.loop-i-test.true, e) in
          iterate_end l u.i _ _ _ u.list y.result low (y.ensures v l s low (u.invariant.before v l s e b));
    }

pub returns : goal.returns
returns c = λ l f.
    let a = c.args in
    let p = c.requires in
    let u = c.loop-i in
    let s = sweep_runs a.code.now a.setting l a.cells.now a.classes.now (length a.w.now) f _ c.only_role-role.ensures in
    let t = sweep_start a.code.now a.setting l a.cells.now a.classes.now (length a.w.now) f _ a.rows.now a.list.now
    (c.enter.ensures l _ f.serials.entry) p.rows p.numbers in
    let b = u.invariant.before a.setting.from l s (sym f.serials.iterations) t in
    sweep_end l _ _ _ u.list u.stages u.i (omega (arith, c.loop-i-test.false, f.serials.iterations)) b u.invariant.highest
