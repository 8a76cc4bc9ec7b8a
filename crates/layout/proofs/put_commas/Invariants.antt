-- `layout::put_commas` meets its contract: k copies are written, the first of them before.
use Prim.Native.Nat.{◌-◌, ◌≤◌}
use Rattle.writing.proofs.Writing.{Along}
use Rattle.layout.specs.Copied.{literal_bytes, comma_bytes}
use Rattle.layout.proofs.put_commas.Given as goal

abbrev pub invariant-loop-copy : goal.invariant-loop-copy
invariant-loop-copy l =
    let b = literal_bytes l.s l.l in
    (1 ≤ l._copy) × Along (comma_bytes (l.copies - 1) b) (comma_bytes (l.copies - l._copy) b) l.initial.out l.to l.out l.p
