-- The conversion to `NameAnswer` meets its contract.
use mathlib.Core.Path.{sym, ap}
use Rattle.exports.specs.Numbers.{name_numbers}
use Rattle.exports.proofs.NameAnswerFromResultLocatedRefusal.from.Goals as goal

pub returns-in-Ok : goal.returns-in-Ok
unfolding name_numbers
returns-in-Ok c = rw c.number.ensures.0 (ap name_numbers (sym c.in-Ok.is))

pub returns-in-Err : goal.returns-in-Err
unfolding name_numbers
returns-in-Err c = ap name_numbers (sym c.in-Err.is)
