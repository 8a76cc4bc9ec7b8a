-- `operands::put` meets its contract.
use mathlib.Core.Path.{◌≡◌, refl}
use native.Mathlib.Omega.{arith}
use borrow.Author.Rules.{rules}
use mir.Syntax.{w32}
use mir.Val.{to_z, of_z}
use lib.ListN.{length-set}
use Rattle.operands.proofs.Pending.{pendings_push}
use Rattle.operands.proofs.put.Goals as goal

pub returns : goal.returns
returns c =
    let e : to_z w32 (of_z w32 c.args.x) ≡ c.args.x = search rules in
    let a = c.args in
    record { array = rw e; values = rw e (pendings_push a.pending.now a.depth a.x (omega arith)); deeper = refl; size = simp length-set c.requires.0 }
