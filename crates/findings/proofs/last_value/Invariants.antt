-- `findings::last_value` meets its contract: the word is that of the processors passed.
use Rattle.std.proofs.Common.{◌≡◌}
use Rattle.findings.specs.Findings.{last_word}
use Rattle.findings.proofs.last_value.Given as goal

abbrev pub invariant-loop-q : goal.invariant-loop-q
invariant-loop-q l = l.x ≡ last_word l.w l.row l.q
