-- `clauses::claim_at` meets its contract: the name at a place, which is disposed of.
use Rattle.lexer.proofs.InTurn.{to_saying}
use Rattle.clauses.proofs.ClaimsRead.{claiming_at}
use Rattle.clauses.proofs.claim_at.Goals as goal

pub returns : goal.returns
returns c =
    let d = c.dispose.ensures in record {
      claim_at = λ σ m. to_saying c.in_ok-x.ensures (λ w p. claiming_at _ σ _ _ _ _ w _ p.bytes d.claims_one m);
      keeps = d.keeps;
    }
