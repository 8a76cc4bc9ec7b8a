-- `layout::put_rest` meets its contract: the tokens up to i are written, and those from i on are left.
use Prim.Native.Nat.{◌-◌, ◌≤◌}
use lib.ListN.{length, drop}
use Rattle.syntax.specs.Bytes.{tokens}
use Rattle.writing.specs.Written.{blanked}
use Rattle.writing.proofs.Writing.{Along}
use Rattle.layout.specs.Copied.{spread}
use Rattle.layout.proofs.put_rest.Given as goal

abbrev pub invariant-loop-m : goal.invariant-loop-m
invariant-loop-m l =
    (l.m.at ≤ length l.s) × Along (blanked (spread l.copying (tokens (drop l.at l.s)))) (blanked (spread l.copying (tokens (drop l.m.at l.s)))) l.initial.out l.to l.out l.m.to

abbrev pub decreases-loop-m : goal.decreases-loop-m
decreases-loop-m l = length l.s - l.m.at
