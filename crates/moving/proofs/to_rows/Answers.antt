-- `moving::to_rows` meets its contract.
use native.Mathlib.Omega.{arith}
use borrow.Author.Rules.{rules}
use Rattle.std.proofs.lemmas.List.{places}
use Rattle.moving.proofs.Steps.{put_in_order}
use Rattle.moving.proofs.to_rows.Goals as goal

pub returns : goal.returns
returns c = rw c.copy_from_slice.ensures.after (put_in_order _ _ _ (omega arith) (search (rules, places)) c.gather.ensures)
