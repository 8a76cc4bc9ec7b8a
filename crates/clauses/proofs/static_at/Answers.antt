-- `clauses::static_at` meets its contract.
use Rattle.clauses.proofs.ClauseWords.{static_unopened, no_static, static_found}
use Rattle.clauses.proofs.static_at.Goals as goal

pub returns-in_err-open : goal.returns-in_err-open
returns-in_err-open c = rw c.from_residual.ensures (static_unopened c.in_err-open.ensures)

pub returns-in_err-word : goal.returns-in_err-word
returns-in_err-word c = rw c.from_residual-in_err-word.ensures (no_static c.in_ok-open.ensures c.in_err-word.ensures)

pub returns : goal.returns
returns c = static_found c.in_ok-open.ensures c.in_ok-word.ensures _ c.pass-3.ensures
