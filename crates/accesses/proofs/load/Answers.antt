-- `accesses::load` meets its contract.
use native.Mathlib.Omega.{arith}
use Rattle.code.specs.Instr.{perform}
use Rattle.operands.specs.Performing.{left}
use Rattle.operands.proofs.Pending.{room_in, room_out}
use Rattle.operands.proofs.Performing.{moves, ends}
use Rattle.accesses.proofs.load.Goals as goal

pub returns-then-depth-ge32 : goal.returns-then-depth-ge32
unfolding perform
returns-then-depth-ge32 c = λ a v h. ends _ _ _ _ h c.requires c.stop.ensures (λ go. room_out _ _ _ c.if-depth-ge32.true)

pub returns : goal.returns
unfolding perform left
returns c = λ a v h. moves _ _ _ _ h _ (omega arith) c.stop-2.ensures (λ go. room_in _ _ _ c.if-depth-ge32.false)
