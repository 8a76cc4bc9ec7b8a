-- `names::find` meets its contract: what the entry found says.
use Rattle.names.proofs.Laws.{found_there}
use Rattle.names.proofs.find.Goals as goal

pub returns-clause-known : goal.returns-clause-known
returns-clause-known c = λ t d. rw c.of_number.ensures (found_there c.args.table.now t d c.args.w.now c.in_ok-index.index c.in_ok-index.ensures)
