-- `trial::begin` meets its contract.
use Rattle.trial.proofs.Starting.{starts_run}
use Rattle.trial.proofs.begin.Goals as goal

pub returns : goal.returns
returns c =
    let a = c.args in
    λ code l h. starts_run code a.setting l a.cells.now a.classes.now _ h _ _ (c.enter.ensures l _ h.entry) c.crew.ensures
