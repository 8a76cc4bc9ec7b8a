-- `preparing::prepare` meets its contract.
use mathlib.Core.Path.{◌≡◌, refl}
use native.Mathlib.Omega.{arith}
use mir.Syntax.{w32}
use mir.Val.{to_z, of_z}
use Rattle.preparing.proofs.Preparing.{few_cells, few_places, prepared}
use borrow.Author.Rules.{rules}
use Rattle.preparing.proofs.prepare.Goals as goal

pub classes-requires : goal.classes-requires
classes-requires c = omega (arith, few_cells _ _ _ _ _ c.in_ok-p.ensures.accepted, c.requires.1)

pub overflow_mul-result : goal.overflow_mul-result
overflow_mul-result c = omega (arith, few_places _ _ _ _ _ c.in_ok-p.ensures.accepted)

pub returns-clause-ready : goal.returns-clause-ready
returns-clause-ready c =
    let e : to_z w32 (of_z w32 c.in_ok-p.p.from) ≡ c.in_ok-p.p.from = search rules in
    prepared _ _ _ _ _ c.in_ok-p.ensures.accepted _ _ _ c.requires.1 c.classes.ensures refl refl refl refl e refl
