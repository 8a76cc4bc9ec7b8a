-- `claiming::copy` meets its contract: a name that is unknown, is not lastprivate, or is copied in.
use mathlib.Core.Path.{◌≡◌, refl}
use borrow.Author.Rules.{rules}
use Rattle.rules.specs.declared.Class.TheVariants.{Lastprivate as lastprivate}
use Rattle.claiming.proofs.NamesClaimed.{copies_none, copies_other, copies_last, variable_keeps}
use Rattle.claiming.proofs.copy.Goals as goal

pub copy_in-requires : goal.copy_in-requires
copy_in-requires c = c.in-Some.ensures.within

pub returns-in-Some : goal.returns-in-Some
returns-in-Some c =
    let n = c.in-Some.ensures.known in
    let (t, tab) = c.requires.1 in
    let done = c.copy_in.ensures in
    let e : c.in-Some.n.class ≡ lastprivate = search rules in record {
      claims_one = copies_last _ _ _ c.in-Some.n n _ e done;
      keeps = (variable_keeps _ _ done.variable, (_, done.table t tab (n t tab).1.within));
    }

pub returns-in_default : goal.returns-in_default
returns-in_default c = record {
  claims_one = copies_other _ _ c.args.rank c.in-Some.n c.in-Some.ensures.known (λ (e : c.in-Some.n.class ≡ lastprivate). search rules);
  keeps = (λ h. (h, refl), c.requires.1);
}

pub returns-in_default-2 : goal.returns-in_default-2
returns-in_default-2 c = record {
  claims_one = copies_none _ _ c.args.rank (rw c.in_default.is at c.find.ensures.known);
  keeps = (λ h. (h, refl), c.requires.1);
}
