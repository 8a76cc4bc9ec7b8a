-- `clauses::clauses` meets its contract: none, one that is broken, or one and others.
use mathlib.Core.Path.{refl, sym, ◌∙◌}
use native.Mathlib.Omega.{arith}
use Rattle.heading.proofs.Lists.{keeps_on}
use Rattle.clauses.proofs.ClausesRead.{clauses_lost, clauses_done, clauses_broken, clauses_more, clause_within}
use Rattle.clauses.proofs.+clauses.Goals as goal

pub returns-then-s-before : goal.returns-then-s-before
returns-then-s-before t c = record {
  clauses = clauses_lost c.args.reading _ c.args.before c.args.table.now (omega arith);
  keeps = (λ h. (h, refl), c.requires);
}

pub returns-then-is_end : goal.returns-then-is_end
returns-then-is_end t c = record {
  clauses = clauses_done _ _ c.args.before _ (omega arith) (sym c.is_end.ensures ∙ c.if-is_end.true);
  keeps = (λ h. (h, refl), c.requires);
}

pub returns-in_err-c : goal.returns-in_err-c
returns-in_err-c t c = record {
  clauses = rw c.from_residual.ensures
      (clauses_broken c.args.reading _ c.args.before c.args.table.now c.clause_at.new.table (sym c.is_end.ensures ∙ c.if-is_end.false) c.in_err-c.ensures.clause_at);
  keeps = c.in_err-c.ensures.keeps;
}

pub clauses-requires : goal.clauses-requires
clauses-requires t c =
    let one = c.in_ok-c.ensures in (
      omega (arith, c.decreases, one.next_lt_next, clause_within _ _ _ c.args.before _ c.in_ok-c.c c.requires one.clause_at),
      one.keeps.1,
    )

pub returns : goal.returns
returns t c =
    let one = c.in_ok-c.ensures in
    let rest = c.clauses.ensures in record {
      clauses = clauses_more _ _ c.args.before _ _ (sym c.is_end.ensures ∙ c.if-is_end.false) c.in_ok-c.c one.clause_at one.next_lt_next _ _ rest.clauses;
      keeps = (keeps_on _ _ _ one.keeps.0 rest.keeps.0, rest.keeps.1);
    }
