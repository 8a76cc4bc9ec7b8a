-- `lexer::run_end` meets its contract: the run from i on ends where the run from the place on does.
use mathlib.Core.Path.{refl, sym, ◌∙◌}
use native.Mathlib.Omega.{arith}
use Rattle.lexer.proofs.Laws.{run_on, run_off, run_out}
use Rattle.lexer.proofs.run_end.Goals as goal

pub loop-i-init : goal.loop-i-init
loop-i-init g c = (omega arith, λ p h. refl)

pub loop-i-preserved : goal.loop-i-preserved
loop-i-preserved g c = (
  omega arith,
  λ p h. c.loop-i.invariant.1 p h ∙ run_on p c.args.s.now c.loop-i.i c.loop-i-test.true (sym (h _ _ (c.type_inv.s c.loop-i.i).fits c.goes_on.ensures) ∙ c.if-not-goes_on.false),
)

pub returns-then-not-goes_on-clause-value : goal.returns-then-not-goes_on-clause-value
returns-then-not-goes_on-clause-value g c = λ p h.
    sym (c.loop-i.invariant.1 p h ∙ run_off p c.args.s.now c.loop-i.i c.loop-i-test.true
    (sym (h _ _ (c.type_inv.s c.loop-i.i).fits c.goes_on.ensures) ∙ c.if-not-goes_on.true))

pub returns-clause-value : goal.returns-clause-value
returns-clause-value g c = λ p h. omega (arith, c.loop-i.invariant.1 p h, run_out p c.args.s.now c.loop-i.i c.loop-i-test.false)
