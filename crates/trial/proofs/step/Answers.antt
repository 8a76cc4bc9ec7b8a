-- `trial::step` meets its contract.
use Rattle.trial.specs.Running.{along}
use Rattle.trial.proofs.step.Goals as goal

pub returns : goal.returns
unfolding along
returns c = (c.carry.ensures c.args.setting c.args.p.0 c.role_of.ensures).turns
