-- `clauses::claims` meets its contract: a name, and then none or a comma and others.
use native.Mathlib.Omega.{arith}
use Rattle.heading.proofs.Lists.{keeps_on}
use Rattle.clauses.proofs.ClaimsRead.{claims_not, claims_last, claims_more, claims_onward}
use Rattle.clauses.proofs.+claims.Goals as goal

pub returns-in_err-c : goal.returns-in_err-c
returns-in_err-c t c = record {
  claims = rw c.from_residual.ensures (claims_not c.args.deed c.args.table.now _ c.args.before c.claim_at.new.table c.in_err-c.ensures.claim_at);
  keeps = c.in_err-c.ensures.keeps;
}

pub claims-requires : goal.claims-requires
claims-requires t c = (
  omega (arith, c.decreases, claims_onward _ _ _ c.args.before _ c.in_ok-c.c c.in_ok-c.ensures.claim_at c.in-Some.ensures c.requires, c.in-Some.ensures.within),
  c.in_ok-c.ensures.keeps.1,
)

pub returns-in-Some : goal.returns-in-Some
returns-in-Some t c = record {
  claims = claims_more _ _ _ c.args.before _ c.in_ok-c.c c.in_ok-c.ensures.claim_at c.in-Some.ensures _ _ c.claims.ensures.claims;
  keeps = (keeps_on _ _ _ c.in_ok-c.ensures.keeps.0 c.claims.ensures.keeps.0, c.claims.ensures.keeps.1);
}

pub returns-in-None : goal.returns-in-None
returns-in-None t c = record {
  claims = claims_last _ _ _ c.args.before _ c.in_ok-c.c c.in_ok-c.ensures.claim_at c.in-None.ensures;
  keeps = c.in_ok-c.ensures.keeps;
}
