-- The conversion to `PrintAnswer` meets its contract.
use mathlib.Core.Path.{sym, ap}
use Rattle.exports.specs.Numbers.{print_numbers}
use Rattle.exports.proofs.PrintAnswerFromResultU32Refusal.from.Goals as goal

pub returns-in-Ok : goal.returns-in-Ok
unfolding print_numbers
returns-in-Ok c = ap print_numbers (sym c.in-Ok.is)

pub returns-in-Err : goal.returns-in-Err
unfolding print_numbers
returns-in-Err c = ap print_numbers (sym c.in-Err.is)
