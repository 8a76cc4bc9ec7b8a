-- `trial::role_of` meets its contract.
use borrow.Author.Rules.{rules}
use mathlib.Core.Path.{◌≡◌, ◌∙◌, ap}
use native.Mathlib.Numerals.{add-one}
use mir.Syntax.{w32}
use mir.Val.{to_z, of_z}
use Rattle.rules.specs.Blocks.{block_start}
use Rattle.trial.specs.Running.{role_to}
use Rattle.trial.proofs.role_of.Goals as goal

pub returns : goal.returns
returns c =
    let g = c.args.setting in
    let e : to_z w32 (of_z w32 g.from) ≡ g.from = search rules in
    rw e
    (ap (role_to g c.args.p.0)
    (c.block_start-end.ensures ∙ ap (block_start g.iterations g.processors) (add-one c.args.p.0)))
