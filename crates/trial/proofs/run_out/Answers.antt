-- `trial::run_out` meets its contract.
use Rattle.trial.specs.Running.{along, Ends}
use Rattle.trial.proofs.run_out.Goals as goal

pub returns : goal.returns
unfolding along Ends
returns c =
    let r = c.carry.ensures c.args.setting c.args.p.0 c.role_of.ensures in record {
      runs_out = r.turns;
      over = r.ends;
    }
