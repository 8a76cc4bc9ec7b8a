-- `lexer::reserved` meets its contract: only the words of the same length are asked.
use mathlib.Core.Path.{sym, ◌∙◌}
use native.Mathlib.Omega.{arith}
use Rattle.std.proofs.Common.{rules}
use Rattle.lexer.proofs.Laws.{reserved_two, reserved_three, reserved_four, reserved_five, reserved_seven, reserved_none}
use Rattle.lexer.proofs.reserved.Goals as goal

pub returns-else-is : goal.returns-else-is
returns-else-is c = search rules ∙ sym (reserved_two _ c.in-2.is)

pub returns-else-is-2 : goal.returns-else-is-2
returns-else-is-2 c = search rules ∙ sym (reserved_three _ c.in-3.is)

pub returns-else-is-5 : goal.returns-else-is-5
returns-else-is-5 c = search rules ∙ sym (reserved_four _ c.in-4.is)

pub returns-else-is-6 : goal.returns-else-is-6
returns-else-is-6 c = search rules ∙ sym (reserved_five _ c.in-5.is)

pub returns-in-7 : goal.returns-in-7
returns-in-7 c = search rules ∙ sym (reserved_seven _ c.in-7.is)

pub returns-in_default : goal.returns-in_default
returns-in_default c = sym (reserved_none c.args.w.now (λ e. omega (arith, e)) (λ e. omega (arith, e)) (λ e. omega (arith, e)) (λ e. omega (arith, e)) (λ e. omega (arith, e)))
