-- `kinds::trimmed` meets its contract.
use Rattle.std.proofs.Common.{rules}
use Rattle.lexer.specs.Lex.{blank}
use Rattle.kinds.proofs.WholeLines.{trimmed_from}
use Rattle.kinds.proofs.trimmed.Goals as goal

pub returns : goal.returns
returns c = trimmed_from c.args.s.now c.run_end.result (c.run_end.ensures.value blank (λ b r l e. search rules))
