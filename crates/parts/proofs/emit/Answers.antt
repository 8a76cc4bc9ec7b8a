-- `parts::emit` meets its contract.
use native.Mathlib.Omega.{arith}
use native.Mathlib.Numerals.{add-one}
use lib.ListN.{length-set}
use Rattle.parts.proofs.emit.Goals as goal

pub bounds-code-i-2 : goal.bounds-code-i-2
bounds-code-i-2 c = simp length-set (omega arith)

pub returns : goal.returns
returns c = rw add-one
