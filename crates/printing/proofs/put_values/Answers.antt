-- `printing::put_values` meets its contract: the first k values stand in the buffer.
use mathlib.Core.Path.{◌≡◌}
use native.Mathlib.Omega.{arith}
use borrow.Author.Rules.{rules}
use lib.ListN.{get_or}
use lib.IntN.{pos}
use mir.Syntax.{w32}
use mir.Val.{to_z, of_z}
use Rattle.printing.proofs.Writing.{values_none, values_more, values_reach}
use Rattle.printing.proofs.put_values.Goals as goal

pub loop-k-init : goal.loop-k-init
loop-k-init c = values_none _ _ c.args.vs.now

pub put_value-p-requires : goal.put_value-p-requires
put_value-p-requires c =
    let loop = c.loop-k in
    omega (arith, values_reach c.args.vs.now loop.k (omega arith) loop.invariant)

pub loop-k-preserved : goal.loop-k-preserved
loop-k-preserved c =
    let vs = c.args.vs.now in
    let loop = c.loop-k in
    let e : to_z w32 (of_z w32 (get_or vs loop.k (pos 0))) ≡ get_or vs loop.k (pos 0) = search rules in
    values_more vs loop.k _ (omega arith) e loop.invariant c.put_value-p.ensures
