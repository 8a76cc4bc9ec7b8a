-- `clauses::directive` meets its contract: both readings of the clauses, one after the other.
use Rattle.std.specs.Prelude.{None, Some}
use Rattle.claiming.specs.declared.Reading.TheVariants.{Classes}
use Rattle.heading.proofs.Lists.{keeps_on}
use Rattle.clauses.proofs.DirectiveRead.{after, directive_not, directive_read}
use Rattle.clauses.proofs.directive.Goals as goal

pub returns-in_err-classes : goal.returns-in_err-classes
returns-in_err-classes c = record {
  directive = rw c.from_residual.ensures (directive_not c.args.table.now c.args.s.now c.args.at c.clauses.new.table
      (after Classes c.args.table.now c.args.s.now c.clauses.new.table None c.none_before.ensures c.in_err-classes.ensures.clauses));
  keeps = c.in_err-classes.ensures.keeps.0;
}

pub returns : goal.returns
returns c =
    let one = c.in_ok-classes in
    let two = c.clauses-2.ensures in record {
      directive = directive_read _ _ _ _ one.classes (after _ _ _ _ (Some one.classes) c.none_before.ensures one.ensures.clauses) _ _
          (after _ _ _ _ _ c.none_before-2.ensures two.clauses);
      keeps = keeps_on _ _ _ one.ensures.keeps.0 two.keeps.0;
    }
