-- `planning::stages_of` meets its contract.
use mathlib.Core.Path.{◌≡◌, ◌∙◌, ap}
use Prim.Native.Nat.{ℕ}
use native.Mathlib.Omega.{arith}
use mir.Syntax.{w32}
use mir.Val.{to_z, of_z}
use lib.ListN.{length, replicate}
use Rattle.planning.proofs.Parts.{then_sweep, plans_stages, fault_value, plans_fault}
use borrow.Author.Rules.{rules}
use Rattle.planning.proofs.stages_of.Goals as goal

pub value_at-requires : goal.value_at-requires
value_at-requires c =
    let a = c.args in
    let t = c.run_copied-t in
    let e : to_z w32 (of_z w32 a.setting.from) ≡ a.setting.from = search (rules, c.struct_told-1) in
    fault_value a.code.now a.setting a.cells.now a.classes.now (length a.w.now) t.result t.ensures.ends
    _ c.in-Some.is _ e _ c.requires.0

pub returns-in-Some : goal.returns-in-Some
returns-in-Some c =
    let e : to_z w32 (of_z w32 c.args.setting.from)
    ≡ c.args.setting.from = search (rules, c.struct_told-1) in
    let a = c.args in
    let t = c.run_copied-t in
    let u : to_z w32 (of_z w32 c.value_at.result) ≡ c.value_at.result = search rules in record {
      plans = plans_fault a.code.now a.setting a.cells.now a.classes.now (length a.w.now) t.result t.ensures.ends
          _ c.in-Some.is a.list.now _ _ _ e c.value_at.ensures u;
      w_after = t.ensures.w_after;
    }

pub sweep_copied-requires : goal.sweep_copied-requires
sweep_copied-requires c =
    let a = c.args in
    let t = c.run_copied-t in
    let z = c.in-None.is in (
      then_sweep a.code.now a.setting a.cells.now a.classes.now (length a.w.now) t.result t.ensures.ends z _ _ _
          t.auto.w c.requires.2 c.requires.0,
      omega (arith, c.requires.1, t.auto.own),
    )

pub returns-in-None : goal.returns-in-None
returns-in-None c =
    let a = c.args in
    let t = c.run_copied-t in
    let k = t.auto.w in
    let z = c.in-None.is in record {
      plans = plans_stages a.code.now a.setting a.cells.now a.classes.now (length a.w.now) t.result t.ensures.ends z a.list.now _ _ _ k
          c.sweep_copied.ensures.sweeps;
      w_after = c.sweep_copied.ensures.w_after ∙ ap (λ (n : ℕ). replicate {A = ℕ} n 0) k;
    }
