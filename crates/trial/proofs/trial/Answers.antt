-- `trial::trial` meets its contract.
use Rattle.rules.specs.Steps.{start, steps}
use Rattle.trial.specs.Running.{dealt}
use Rattle.trial.proofs.Starting.{run_tried}
use Rattle.trial.proofs.trial.Goals as goal

pub follow-requires : goal.follow-requires
follow-requires c =
    let a = c.args in
    let (l, h, n) = c.requires in
    (l, start l (dealt a.setting), c.begin-workers.ensures a.code.now l h, n)

pub run_on-requires : goal.run_on-requires
run_on-requires c =
    let a = c.args in
    let (l, h, n) =
    c.requires in (
      l,
      steps l (dealt a.setting) a.schedule.now (start l (dealt a.setting)),
      c.follow.ensures l (start l (dealt a.setting))
          (c.begin-workers.ensures a.code.now l h),
    )

pub returns : goal.returns
returns c =
    let a = c.args in
    let u = c.run_on in
    let f = c.follow in
    let b = c.begin-workers in record {
      tries = λ l h. run_tried _ a.setting l _ _ _ h a.schedule.now _ _ _
          (u.ensures.runs_on l (steps l (dealt a.setting) a.schedule.now (start l (dealt a.setting)))
          (f.ensures l (start l (dealt a.setting)) (b.ensures a.code.now l h)));
      all_over = u.ensures.all_over;
    }
