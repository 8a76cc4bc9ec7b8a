-- `clauses::clause_at` meets its contract: `num_threads`, `schedule(static)`, or a clause with names.
use mathlib.Core.Path.{refl, ◌∙◌, ap}
use mathlib.Core.Bool.{Bool, true}
use Prim.Native.Nat.{max}
use native.Mathlib.Omega.{arith}
use Rattle.syntax.specs.Bytes.{bytes}
use Rattle.syntax.specs.Ranks.{level}
use Rattle.lexer.proofs.InTurn.{stands_onward}
use Rattle.heading.specs.Lists.{order}
use Rattle.clauses.proofs.ClausesRead.{threads_not, clause_threads, static_not, clause_static, names_not, clause_names, once_more}
use Rattle.clauses.proofs.clause_at.Goals as goal

pub returns-in_err-n : goal.returns-in_err-n
returns-in_err-n c = record {
  clause_at = rw c.from_residual.ensures (threads_not c.args.reading c.args.table.now _ c.args.before c.in-Some.ensures c.in_err-n.ensures);
  keeps = (λ h. (h, refl), c.requires);
  next_lt_next = rw c.from_residual.ensures tt;
}

pub returns-in-Some : goal.returns-in-Some
returns-in-Some c =
    let n = c.in_ok-n in
    let worst = c.ranked.ensures ∙ ap (λ (b : Bool). max (level c.args.before.rank) (order true b)) c.few.ensures in record {
      clause_at = once_more c.again.ensures refl (clause_threads _ _ _ c.args.before c.in-Some.ensures n.n _ n.ensures worst);
      keeps = (λ h. (h, refl), c.requires);
      next_lt_next = omega (arith, stands_onward (bytes "num_threads") c.in-Some.ensures (omega arith), n.ensures.from);
    }

pub returns-in_err-static_at : goal.returns-in_err-static_at
returns-in_err-static_at c = record {
  clause_at = rw c.from_residual-in_err-static_at.ensures (static_not c.args.reading c.args.table.now _ c.args.before c.in_default.ensures c.in-Some-pass.ensures c.in_err-static_at.ensures);
  keeps = (λ h. (h, refl), c.requires);
  next_lt_next = rw c.from_residual-in_err-static_at.ensures tt;
}

pub returns-in-Some-pass : goal.returns-in-Some-pass
returns-in-Some-pass c =
    let r = c.in_ok-static_at in record {
      clause_at = once_more refl c.again-in-Some-pass.ensures
          (clause_static _ _ _ c.args.before c.in_default.ensures c.in-Some-pass.ensures _ r.ensures);
      keeps = (λ h. (h, refl), c.requires);
      next_lt_next = omega (arith, stands_onward (bytes "schedule") c.in-Some-pass.ensures (omega arith), r.ensures.from);
    }

pub returns-in_err-c : goal.returns-in_err-c
returns-in_err-c c = record {
  clause_at = rw c.from_residual-in_err-c.ensures
      (names_not c.args.reading c.args.table.now _ c.args.before c.in_default.ensures c.in_default-pass.ensures c.names_at.new.table c.in_err-c.ensures.names_at);
  keeps = c.in_err-c.ensures.keeps;
  next_lt_next = rw c.from_residual-in_err-c.ensures tt;
}

pub returns : goal.returns
returns c =
    let n = c.in_ok-c in record {
      clause_at = clause_names _ _ _ c.args.before c.in_default.ensures c.in_default-pass.ensures _ n.c n.ensures.names_at;
      keeps = n.ensures.keeps;
      next_lt_next = n.ensures.at_lt_next;
    }
