-- `clauses::threads_at` meets its contract.
use Rattle.clauses.proofs.ClauseWords.{no_threads, threads_open, threads_read, threads_unopened}
use Rattle.clauses.proofs.threads_at.Goals as goal

pub returns-in_err-open : goal.returns-in_err-open
returns-in_err-open c = rw c.from_residual.ensures (threads_unopened c.in_err-open.ensures)

pub returns-in_err-d : goal.returns-in_err-d
returns-in_err-d c = rw c.from_residual-in_err-d.ensures (no_threads c.in_ok-open.ensures c.in_err-d.ensures)

pub returns-in_err-pass : goal.returns-in_err-pass
returns-in_err-pass c = rw c.from_residual-in_err-pass.ensures (threads_open c.in_ok-open.ensures c.in_ok-d.d c.in_ok-d.ensures c.in_err-pass.ensures)

pub returns : goal.returns
returns c = threads_read c.in_ok-open.ensures c.in_ok-d.d c.in_ok-d.ensures c.in_ok-pass.ensures
