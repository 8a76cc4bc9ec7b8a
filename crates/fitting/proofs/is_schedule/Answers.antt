-- `fitting::is_schedule` meets its contract.
use Rattle.std.proofs.Common.{arith}
use Rattle.std.proofs.lemmas.Grind.{common_steps}
use Rattle.fitting.proofs.Schedules.{tested}
use Rattle.fitting.proofs.is_schedule.Goals as goal

pub returns : goal.returns
returns c = tested c.args.processors c.args.schedule.now c.all.result (grind (arith, common_steps))
