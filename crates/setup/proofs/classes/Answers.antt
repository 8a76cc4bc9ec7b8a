-- `setup::classes` meets its contract: the classes are those by the names from i on.
use Rattle.std.proofs.Common.{◌-◌, arith, rules}
use Rattle.rules.specs.declared.Class.TheVariants.{Shared as shared}
use Rattle.setup.proofs.ClassLaws.{filled_front, classing_none, classing_more, classing_all}
use Rattle.setup.proofs.classes.Goals as goal

pub loop-i-init : goal.loop-i-init
loop-i-init c = classing_none _ _ _ _ _ c.count-i.ensures (filled_front c.args.out.now c.fill.new.self c.args.count shared (search rules) (omega arith))

pub loop-i-preserved : goal.loop-i-preserved
loop-i-preserved c =
    let l = c.loop-i in classing_more _ _ _ _ _ (l.i - 1) l.i (omega arith) l.invariant c.mark.ensures

pub returns : goal.returns
returns c = classing_all _ _ _ _ _ _ (omega arith) (filled_front c.args.out.now c.fill.new.self c.args.count shared (search rules) (omega arith)) c.loop-i.invariant
