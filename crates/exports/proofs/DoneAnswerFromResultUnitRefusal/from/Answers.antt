-- The conversion to `DoneAnswer` meets its contract.
use mathlib.Core.Path.{sym, ap}
use Rattle.exports.specs.Numbers.{done_numbers}
use Rattle.exports.proofs.DoneAnswerFromResultUnitRefusal.from.Goals as goal

pub returns-in-Ok : goal.returns-in-Ok
unfolding done_numbers
returns-in-Ok c = ap done_numbers (sym c.in-Ok.is)

pub returns-in-Err : goal.returns-in-Err
unfolding done_numbers
returns-in-Err c = ap done_numbers (sym c.in-Err.is)
