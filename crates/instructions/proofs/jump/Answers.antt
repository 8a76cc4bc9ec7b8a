-- `instructions::jump` meets its contract.
use mathlib.Core.Path.{refl}
use native.Mathlib.Omega.{arith}
use Rattle.code.specs.Instr.{perform}
use Rattle.operands.proofs.Performing.{goes}
use Rattle.instructions.proofs.jump.Goals as goal

pub returns : goal.returns
unfolding perform
returns c = λ a v h. goes _ _ _ _ h _ c.requires.0 (omega arith) c.go_on.ensures (λ go. refl)
