-- `lexer::line_end` meets its contract: the run of the bytes that are no newline ends there.
use Prim.Native.Nat.{ℕ}
use mathlib.Core.Bool.{not}
use lib.Dec.{eqb}
use Rattle.std.proofs.Common.{of_calls}
use Rattle.lexer.specs.Lex.{ended}
use Rattle.lexer.proofs.line_end.Goals as goal

pub returns : goal.returns
unfolding ended
returns c = c.run_end.ensures.value (λ (b : ℕ). not (eqb b 10)) (λ b r l e. search of_calls)
