-- `lrpd::print` meets its contract.
use mathlib.Core.Path.{sym}
use lib.ListN.{replicate}
use lib.Seq.{length-take-le}
use lib.IntN.{pos}
use Rattle.lrpd.proofs.Answering.{lent_few, prints_lent}
use native.Mathlib.Omega.{arith}
use Rattle.lrpd.proofs.print.Goals as goal

pub slice_bounds-cells-end : goal.slice_bounds-cells-end
slice_bounds-cells-end c = omega (arith, lent_few c.check.result, c.lent-n.ensures)

pub slice_bounds-print_over-end : goal.slice_bounds-print_over-end
slice_bounds-print_over-end c = sym (length-take-le c.lent-n.result (replicate 128 (pos 0))
    (omega (arith, lent_few c.check.result, c.lent-n.ensures)))

pub print_over-requires : goal.print_over-requires
print_over-requires c = (
  c.requires,
  omega (
    arith,
    lent_few c.check.result,
    c.lent-n.ensures,
    length-take-le c.lent-n.result (replicate 128 (pos 0))
        (omega (arith, lent_few c.check.result, c.lent-n.ensures)),
  ),
)

pub returns : goal.returns
returns c =
    prints_lent _ c.check.result c.lent-n.result c.check.ensures c.lent-n.ensures c.print_over.ensures
