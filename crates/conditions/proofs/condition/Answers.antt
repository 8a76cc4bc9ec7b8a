-- `conditions::condition` meets its contract.
use Rattle.conditions.proofs.Comparisons.{condition_unsaid, condition_unopened, condition_unread, condition_compiles}
use Rattle.conditions.proofs.condition.Goals as goal

pub returns-in_err-bracket : goal.returns-in_err-bracket
returns-in_err-bracket c = rw c.from_residual.ensures (condition_unsaid _ _ _ _ _ _ c.in_err-bracket.ensures)

pub returns-in_err-at : goal.returns-in_err-at
returns-in_err-at c =
    rw c.from_residual-in_err-at.ensures (condition_unopened _ _ _ _ _ c.in_ok-bracket.ensures _ c.in_err-at.ensures)

pub returns-in_err-g : goal.returns-in_err-g
returns-in_err-g c =
    rw c.from_residual-in_err-g.ensures
    (condition_unread _ _ _ _ _ c.in_ok-bracket.ensures c.in_ok-at.ensures _ c.in_err-g.ensures)

pub returns : goal.returns
returns c =
    condition_compiles _ _ _ _ _ c.in_ok-bracket.ensures c.in_ok-at.ensures _ _ _ _ c.requires.2 c.in_ok-g.ensures
    c.comparison.ensures
