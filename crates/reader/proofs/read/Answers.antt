-- `reader::read` meets its contract.
use mathlib.Core.Path.{refl}
use native.Mathlib.Omega.{arith}
use lib.ListN.{replicate}
use Rattle.reader.proofs.Whole.{over_long, in_lower, lowered_at}
use Rattle.reader.proofs.read.Goals as goal

pub returns-then-n-gt2048 : goal.returns-then-n-gt2048
returns-then-n-gt2048 c = over_long _ _ _ _ _ c.if-n-gt2048.true refl

pub returns : goal.returns
returns c =
    in_lower c.args.text.now _ _ _ _ (λ h. omega (arith, h, c.if-n-gt2048.false)) _
    (lowered_at c.args.text.now (replicate 2048 0) _ _ c.lowered.ensures refl (omega (arith, c.if-n-gt2048.false))) c.read_lines.ensures
