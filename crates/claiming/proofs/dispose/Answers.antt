-- `claiming::dispose` meets its contract, by what is to be done.
use mathlib.Core.Path.{refl}
use Rattle.claiming.proofs.NamesClaimed.{as_deed, skipped}
use Rattle.claiming.proofs.dispose.Goals as goal

pub returns-in-Skip : goal.returns-in-Skip
returns-in-Skip c = record {
  claims_one = as_deed c.in-Skip.is (skipped _ _ _);
  keeps = (λ h. (h, refl), c.requires.1);
}

pub returns-in-Claim : goal.returns-in-Claim
returns-in-Claim c = record {
  claims_one = as_deed c.in-Claim.is c.claim.ensures.claims_one;
  keeps = c.claim.ensures.keeps;
}

pub returns-in-CopyIn : goal.returns-in-CopyIn
returns-in-CopyIn c = record {
  claims_one = as_deed c.in-CopyIn.is c.copy.ensures.claims_one;
  keeps = c.copy.ensures.keeps;
}
