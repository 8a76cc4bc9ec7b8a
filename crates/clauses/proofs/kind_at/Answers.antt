-- `clauses::kind_at` meets its contract, word by word.
use native.Mathlib.Omega.{arith}
use Rattle.syntax.specs.Bytes.{bytes}
use Rattle.lexer.proofs.InTurn.{stands_onward}
use Rattle.clauses.proofs.ClauseWords.{kind_shared, kind_lastprivate, kind_firstprivate, kind_reduction}
use Rattle.clauses.proofs.kind_at.Goals as goal

pub returns-in-Some-clause-finds : goal.returns-in-Some-clause-finds
returns-in-Some-clause-finds c = kind_shared c.in-Some.ensures c.in_ok-pass.ensures

pub returns-in-Some-pass-clause-finds : goal.returns-in-Some-pass-clause-finds
returns-in-Some-pass-clause-finds c = kind_lastprivate c.in_default.ensures c.in-Some-pass.ensures c.in_ok-pass-2.ensures

pub returns-in-Some-pass-2-clause-finds : goal.returns-in-Some-pass-2-clause-finds
returns-in-Some-pass-2-clause-finds c = kind_firstprivate c.in_default.ensures c.in_default-pass.ensures c.in-Some-pass-2.ensures c.in_ok-pass-3.ensures

pub returns : goal.returns
returns c = record {
  finds = kind_reduction c.in_default.ensures c.in_default-pass.ensures c.in_default-pass-2.ensures c.in_ok-word.ensures c.in_ok-open.ensures
      c.in_ok-o.ensures c.in_ok-pass-4.ensures;
  at_lt_next = omega (
    arith,
    stands_onward (bytes "reduction") c.in_ok-word.ensures (omega arith),
    c.in_ok-open.ensures.from,
    c.in_ok-o.ensures.from,
    c.in_ok-pass-4.ensures.from,
  );
}
