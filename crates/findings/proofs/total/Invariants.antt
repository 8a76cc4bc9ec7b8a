-- `findings::total` meets its contract: the result is that of the processors passed.
use Rattle.std.proofs.Common.{◌≡◌}
use Rattle.rules.specs.Operation.{operation}
use Rattle.findings.specs.Findings.{gathered}
use Rattle.findings.proofs.total.Given as goal

abbrev pub invariant-loop-q : goal.invariant-loop-q
invariant-loop-q l = l.x ≡ gathered (operation l.operator) l.w l.row l.q
