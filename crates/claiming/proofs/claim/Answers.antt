-- `claiming::claim` meets its contract: a name that is unknown, stands in a clause already, or gets its class.
use mathlib.Core.Path.{refl}
use Rattle.claiming.proofs.NamesClaimed.{claims_none, claims_taken, claims_free, variable_keeps}
use Rattle.claiming.proofs.claim.Goals as goal

pub classify-requires : goal.classify-requires
classify-requires c = c.in-Some.ensures.within

pub returns-in-Some : goal.returns-in-Some
returns-in-Some c =
    let n = c.in-Some.ensures.known in
    let (t, tab) = c.requires.1 in
    let done = rw c.class_of.ensures at c.classify.ensures in record {
      claims_one = claims_free _ _ _ c.in-Some.n n _ c.args.kind c.if-not-n.true done;
      keeps = (variable_keeps _ _ done.variable, (_, done.table t tab (n t tab).1.within));
    }

pub returns-in_default : goal.returns-in_default
returns-in_default c = record {
  claims_one = claims_taken _ _ c.args.rank c.in-Some.n c.in-Some.ensures.known _ c.if-not-n.false;
  keeps = (λ h. (h, refl), c.requires.1);
}

pub returns-in_default-2 : goal.returns-in_default-2
returns-in_default-2 c = record {
  claims_one = claims_none _ _ c.args.rank _ c.in_default.ensures.known;
  keeps = (λ h. (h, refl), c.requires.1);
}
