-- The conversion to `CheckAnswer` meets its contract.
use mathlib.Core.Path.{sym, ap}
use Rattle.exports.specs.Numbers.{check_numbers}
use Rattle.exports.proofs.CheckAnswerFromResultSizesRefusal.from.Goals as goal

pub returns-in-Ok : goal.returns-in-Ok
unfolding check_numbers
returns-in-Ok c = ap check_numbers (sym c.in-Ok.is)

pub returns-in-Err : goal.returns-in-Err
unfolding check_numbers
returns-in-Err c = ap check_numbers (sym c.in-Err.is)
