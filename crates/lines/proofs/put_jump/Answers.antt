-- `lines::put_jump` meets its contract.
use Prim.Native.Nat.{◌*◌}
use native.Mathlib.Omega.{arith}
use lib.ListN.{length-set}
use Rattle.lines.proofs.put_jump.Goals as goal

pub bounds-code-i-2 : goal.bounds-code-i-2
bounds-code-i-2 c = omega (arith, length-set c.args.code.now (2 * c.args.place) 16)
