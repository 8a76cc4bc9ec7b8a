-- `preparing::read` meets its contract.
use Rattle.preparing.proofs.Verdicts.{refuses, accepts}
use Rattle.preparing.proofs.read.Goals as goal

pub returns-in-Ok-clause-accepted : goal.returns-in-Ok-clause-accepted
returns-in-Ok-clause-accepted c = accepts _ _ _ _ _ c.in-Ok.ensures

pub returns-in-Err-clause-refused : goal.returns-in-Err-clause-refused
returns-in-Err-clause-refused c = refuses _ _ _ _ _ _ c.in-Err.ensures c.number.ensures
