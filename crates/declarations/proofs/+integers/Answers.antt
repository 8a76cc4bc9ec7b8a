-- `declarations::integers` meets its contract: a declared name, and then none or a comma and others.
use native.Mathlib.Omega.{arith}
use Rattle.syntax.specs.Reader.{read_declared, peek_in, skip_in}
use Rattle.heading.proofs.Turns.{onward}
use Rattle.declarations.proofs.IntegerLines.{integers_last, integers_more}
use Rattle.declarations.proofs.+integers.Goals as goal

pub integers-requires : goal.integers-requires
integers-requires t c = (
  omega (arith, c.decreases, onward (read_declared peek_in skip_in) c.in_ok-d.ensures.finds c.in-Some.ensures, c.in-Some.ensures.within),
  c.in_ok-d.ensures.few_cells,
)

pub returns-in-Some-clause-integers : goal.returns-in-Some-clause-integers
returns-in-Some-clause-integers t c = integers_more _ _ _ _ _ c.in_ok-d.ensures.finds c.in-Some.ensures _ _ c.integers.ensures.integers

pub returns-in-None-clause-integers : goal.returns-in-None-clause-integers
returns-in-None-clause-integers t c =
    integers_last _ _ _ _ _ c.in_ok-d.ensures.finds c.in-None.ensures c.in_ok-d.ensures.few_cells
