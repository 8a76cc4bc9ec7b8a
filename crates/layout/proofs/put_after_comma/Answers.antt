-- `layout::put_after_comma` meets its contract.
use mathlib.Core.Path.{ap}
use native.Mathlib.Omega.{arith}
use lib.ListN.{length}
use Rattle.writing.proofs.Writing.{writes_as, writes_then}
use Rattle.layout.specs.Copied.{literal_bytes}
use Rattle.layout.proofs.Literals.{comma_one}
use Rattle.layout.proofs.put_after_comma.Goals as goal

pub put-p-requires : goal.put-p-requires
put-p-requires c =
    omega (
      arith,
      ap length (comma_one (literal_bytes c.args.s.now c.args.l)),
      c.requires.1,
    )

pub put-q-requires : goal.put-q-requires
put-q-requires c =
    omega (arith, ap length (comma_one (literal_bytes c.args.s.now c.args.l)), c.put-p.ensures.place, c.requires.1)

pub put_literal-requires : goal.put_literal-requires
put_literal-requires c = (
  c.requires.0,
  omega (arith, ap length (comma_one (literal_bytes c.args.s.now c.args.l)), c.put-p.ensures.place, c.put-q.ensures.place, c.requires.1),
)

pub returns : goal.returns
returns c =
    writes_as (comma_one (literal_bytes c.args.s.now c.args.l))
    (writes_then c.put-p.ensures (writes_then c.put-q.ensures c.put_literal.ensures))
