-- `printing::put_signed` meets its contract.
use mathlib.Core.Path.{◌∙◌, ap}
use lib.IntN.{nat_abs}
use mir.Syntax.{w32}
use mir.ValLaws.{to_z-of_z}
use Rattle.printing.proofs.Writing.{signed_plain, signed_negative}
use Rattle.printing.proofs.put_signed.Goals as goal

pub returns-then-v-ge0 : goal.returns-then-v-ge0
returns-then-v-ge0 c =
    let e = to_z-of_z w32 c.args.v c.ranges.v in
    signed_plain c.args.v (rw e at c.if-v-ge0.true) (c.unsigned_abs.ensures.value ∙ ap nat_abs e) c.put_digits.ensures

pub returns : goal.returns
returns c =
    let e = to_z-of_z w32 c.args.v c.ranges.v in
    signed_negative c.args.v (rw e at c.if-v-ge0.false) (c.unsigned_abs-2.ensures.value ∙ ap nat_abs e) c.put-p.ensures c.put_digits-2.ensures
