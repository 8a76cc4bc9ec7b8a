-- `describing::located` meets its contract.
use mathlib.Core.Path.{refl}
use native.Mathlib.Omega.{arith}
use lib.ListN.{replicate}
use Rattle.reader.proofs.Whole.{lowered_at}
use Rattle.describing.proofs.Answering.{declared, undeclared}
use Rattle.describing.proofs.located.Goals as goal

pub returns-in-Some : goal.returns-in-Some
returns-in-Some c =
    let x = c.args.name.now in
    let l = lowered_at x (replicate 32 0) _ _ c.lowered.ensures refl (omega arith) in
    λ t d. declared _ t d x _ l _ (c.in-Some.ensures.known t d).0 _ c.subscripts_of.ensures

pub returns-in-None : goal.returns-in-None
returns-in-None c =
    let x = c.args.name.now in
    let l = lowered_at x (replicate 32 0) _ _ c.lowered.ensures refl (omega arith) in
    λ t d. rw c.of_lent-in-None.ensures (undeclared _ t d x _ l (c.in-None.ensures.known t d))
