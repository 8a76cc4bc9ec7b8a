-- `parts::call_operation` meets its contract, function by function.
use mathlib.Core.Path.{sym, ap}
use Rattle.code.specs.Instr.{operation}
use Rattle.code.specs.Compile.{calls}
use Rattle.syntax.specs.declared.Function.{Function}
use Rattle.parts.proofs.call_operation.Goals as goal

pub returns-in-Rdiv : goal.returns-in-Rdiv
returns-in-Rdiv c = ap (λ (f : Function). operation (calls c.args.line f)) (sym c.in-Rdiv.is)

pub returns-in-Max : goal.returns-in-Max
returns-in-Max c = ap (λ (f : Function). operation (calls c.args.line f)) (sym c.in-Max.is)
