-- `assignments::target_of` meets its contract.
use mathlib.Core.Path.{sym, ◌∙◌, ap}
use native.Mathlib.Omega.{arith}
use lib.ListN.{length, drop}
use borrow.Author.Tests.{not-true, not-false, eqb-true, eqb-false}
use Rattle.lexer.proofs.Said.{name_short}
use Rattle.parts.proofs.KindNumbers.{name_number}
use Rattle.assignments.proofs.Assigned.{targets_none, targets_unknown, targets_some}
use Rattle.assignments.proofs.target_of.Goals as goal

pub returns-then-ne : goal.returns-then-ne
returns-then-ne c =
    targets_none _ _ c.token-t.ensures c.token-u.ensures c.reads-subscripted.ensures
    (eqb-false _ 1 (sym (name_number _) ∙ not-true _ (sym c.ne.ensures ∙ c.if-ne.true)))

pub is_named-variable-requires : goal.is_named-variable-requires
is_named-variable-requires c = (
  omega arith,
  omega (
    arith,
    name_short (drop 0 c.args.s.now)
        (c.token-t.ensures.kinds ∙ eqb-true _ 1 (sym (name_number _) ∙ not-false _ (sym c.ne.ensures ∙ c.if-ne.false))),
    ap length c.token-t.ensures.bytes,
  ),
)

pub find-requires : goal.find-requires
find-requires c = omega (
  arith,
  name_short (drop 0 c.args.s.now)
      (c.token-t.ensures.kinds ∙ eqb-true _ 1 (sym (name_number _) ∙ not-false _ (sym c.ne.ensures ∙ c.if-ne.false))),
  ap length c.token-t.ensures.bytes,
)

pub returns-in-Some : goal.returns-in-Some
returns-in-Some c =
    targets_some _ _ c.token-t.ensures c.token-u.ensures c.reads-subscripted.ensures _ c.is_named-variable.ensures _ _ _ c.in-Some.ensures.known
    c.reduction_of.ensures c.operand_of.ensures

pub returns-in-None : goal.returns-in-None
returns-in-None c =
    targets_unknown _ _ c.token-t.ensures c.token-u.ensures c.reads-subscripted.ensures _ c.is_named-variable.ensures c.in-None.ensures.known
