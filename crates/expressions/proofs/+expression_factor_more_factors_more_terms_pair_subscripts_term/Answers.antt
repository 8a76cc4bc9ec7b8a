-- The readers of expressions call each other. Each answer hands what is known to one law of `Sums` or `Factors`.
use mathlib.Core.Path.{refl, sym, ◌∙◌}
use native.Mathlib.Numerals.{add-one}
use Rattle.expressions.proofs.Shapes.{is_neither, is_sign}
use Rattle.expressions.proofs.Sums.{expression_answers, expression_unread, term_answers, term_unread, terms_ended, terms_unread, terms_some, factors_ended, factors_unread, factors_some}
use Rattle.expressions.proofs.Factors.{factor_none, factor_literal, factor_name, bracket_unread, bracket_read, factor_call, element_unread, factor_element, call_unread, call_unparted, second_unread, call_unclosed, call_answers, subscripts_unread, subscripts_unclosed, subscripts_one, other_unread, other_unclosed, subscripts_two}
use Rattle.expressions.proofs.+expression_factor_more_factors_more_terms_pair_subscripts_term.Goals as goal

pub expression-returns-in_err-first : goal.expression-returns-in_err-first
expression-returns-in_err-first t c = rw c.from_residual.ensures
    (expression_unread _ _ _ _ _ _ _ _ _ _ c.join-lead.ensures c.in_err-first.ensures)

pub expression-returns : goal.expression-returns
expression-returns t c =
    expression_answers _ _ _ _ _ _ _ _ _ _ c.join-lead.ensures _ _ _ _ _ c.then_negate-g.ensures c.in_ok-first.ensures
    c.more_terms.ensures

pub term-returns-in_err-g : goal.term-returns-in_err-g
term-returns-in_err-g t c = rw c.from_residual.ensures
    (term_unread _ _ _ _ _ _ _ _ _ c.in_err-g.ensures)

pub term-returns : goal.term-returns
term-returns t c =
    term_answers _ _ _ _ _ _ _ _ _ _ _ _ c.in_ok-g.ensures c.more_factors.ensures

pub more_terms-returns-then-eq : goal.more_terms-returns-then-eq
more_terms-returns-then-eq t c =
    terms_ended _ _ _ _ _ _ _ _ _ c.join-sign.ensures (is_neither _ (sym c.eq.ensures ∙ c.if-eq.true))
    c.requires.ready.inside

pub more_terms-returns-in_err-one : goal.more_terms-returns-in_err-one
more_terms-returns-in_err-one t c = rw c.from_residual.ensures
    (terms_unread _ _ _ _ _ _ _ _ _ c.join-sign.ensures (is_sign _ (sym c.eq.ensures ∙ c.if-eq.false)) _
    c.in_err-one.ensures)

pub more_terms-returns : goal.more_terms-returns
more_terms-returns t c =
    terms_some _ _ _ _ _ _ _ _ _ c.join-sign.ensures (is_sign _ (sym c.eq.ensures ∙ c.if-eq.false)) _ _ _ _ _ _ _
    c.term_operation.ensures c.then_emit-g.ensures c.in_ok-one.ensures c.more_terms.ensures

pub more_factors-returns-then-eq : goal.more_factors-returns-then-eq
more_factors-returns-then-eq t c =
    factors_ended _ _ _ _ _ _ _ _ _ c.join-sign.ensures (is_neither _ (sym c.eq.ensures ∙ c.if-eq.true))
    c.requires.ready.inside

pub more_factors-returns-in_err-one : goal.more_factors-returns-in_err-one
more_factors-returns-in_err-one t c = rw c.from_residual.ensures
    (factors_unread _ _ _ _ _ _ _ _ _ c.join-sign.ensures (is_sign _ (sym c.eq.ensures ∙ c.if-eq.false)) _
    c.in_err-one.ensures)

pub more_factors-returns : goal.more_factors-returns
more_factors-returns t c =
    factors_some _ _ _ _ _ _ _ _ _ c.join-sign.ensures (is_sign _ (sym c.eq.ensures ∙ c.if-eq.false)) _ _ _ _ _ _ _
    c.factor_operation.ensures c.then_emit-g.ensures c.in_ok-one.ensures c.more_factors.ensures

pub factor-returns-in_err-b : goal.factor-returns-in_err-b
factor-returns-in_err-b t c = rw c.from_residual.ensures
    (factor_none _ _ _ _ _ _ _ _ _ c.in_err-b.ensures)

pub factor-returns-in-Literal : goal.factor-returns-in-Literal
factor-returns-in-Literal t c =
    factor_literal _ _ _ _ _ _ _ _ _ _ c.in_ok-b.ensures _ c.in-Literal.is c.constant.ensures

pub factor-returns-in_err-g-in-Bracket : goal.factor-returns-in_err-g-in-Bracket
factor-returns-in_err-g-in-Bracket t c = rw c.from_residual-in_err-g-in-Bracket.ensures
    (bracket_unread _ _ _ _ _ _ _ _ _ _ c.in_ok-b.ensures _ _ c.in-Bracket.is (add-one _) c.opened.ensures
    c.in_err-g-in-Bracket.ensures)

pub factor-returns-in_ok-g-in-Bracket : goal.factor-returns-in_ok-g-in-Bracket
factor-returns-in_ok-g-in-Bracket t c =
    bracket_read _ _ _ _ _ _ _ _ _ _ c.in_ok-b.ensures _ _ c.in-Bracket.is (add-one _) c.opened.ensures _ _
    c.in_ok-g-in-Bracket.ensures c.expect.ensures

pub factor-returns-in-Call : goal.factor-returns-in-Call
factor-returns-in-Call t c =
    factor_call _ _ _ _ _ _ _ _ _ _ c.in_ok-b.ensures _ _ c.in-Call.is c.pair.ensures

pub factor-returns-in-Name : goal.factor-returns-in-Name
factor-returns-in-Name t c =
    factor_name _ _ _ _ _ _ _ _ _ _ c.in_ok-b.ensures _ c.in-Name.is c.variable.ensures

pub factor-returns-in_err-g-in-Element : goal.factor-returns-in_err-g-in-Element
factor-returns-in_err-g-in-Element t c = rw c.from_residual-in_err-g-in-Element.ensures
    (element_unread _ _ _ _ _ _ _ _ _ _ c.in_ok-b.ensures c.in-Element.is c.in_err-g-in-Element.ensures)

pub factor-returns-in_ok-g-in-Element : goal.factor-returns-in_ok-g-in-Element
factor-returns-in_ok-g-in-Element t c =
    factor_element _ _ _ _ _ _ _ _ _ _ c.in_ok-b.ensures _ _ _ c.in-Element.is c.in_ok-g-in-Element.ensures
    c.then_read.ensures

pub pair-returns-in_err-a : goal.pair-returns-in_err-a
pair-returns-in_err-a t c = rw c.from_residual.ensures
    (call_unread c.args.function _ _ _ _ _ _ _ _ _ _ _ _ (add-one _) c.opened.ensures c.in_err-a.ensures)

pub pair-returns-in_err-a-2 : goal.pair-returns-in_err-a-2
pair-returns-in_err-a-2 t c = rw c.from_residual-in_err-a-2.ensures
    (call_unparted c.args.function _ _ _ _ _ _ _ _ _ _ _ _ (add-one _) c.opened.ensures _ c.in_ok-a.ensures
    c.in_err-a-2.ensures)

pub pair-returns-in_err-b : goal.pair-returns-in_err-b
pair-returns-in_err-b t c = rw c.from_residual-in_err-b.ensures
    (second_unread c.args.function _ _ _ _ _ _ _ _ _ _ _ _ (add-one _) c.opened.ensures _ c.in_ok-a.ensures
    _ c.in_ok-a-2.ensures _ c.in_err-b.ensures)

pub pair-returns-in_err-b-2 : goal.pair-returns-in_err-b-2
pair-returns-in_err-b-2 t c = rw c.from_residual-in_err-b-2.ensures
    (call_unclosed c.args.function _ _ _ _ _ _ _ _ _ _ _ _ (add-one _) c.opened.ensures _ c.in_ok-a.ensures
    _ c.in_ok-a-2.ensures _ _ c.in_ok-b.ensures c.in_err-b-2.ensures)

pub pair-returns : goal.pair-returns
pair-returns t c =
    call_answers c.args.function _ _ _ _ _ _ _ _ _ _ _ _ (add-one _) c.opened.ensures _ c.in_ok-a.ensures
    _ c.in_ok-a-2.ensures _ _ c.in_ok-b.ensures _ _ _ c.call_operation.ensures
    c.in_ok-b-2.ensures c.then_emit.ensures

pub subscripts-returns-in_err-g : goal.subscripts-returns-in_err-g
subscripts-returns-in_err-g t c = rw c.from_residual.ensures
    (subscripts_unread _ _ _ _ _ _ _ c.args.name _ _ _ _ _ (add-one _) c.opened.ensures c.in_err-g.ensures)

pub subscripts-returns-in-Neither : goal.subscripts-returns-in-Neither
subscripts-returns-in-Neither t c =
    subscripts_unclosed _ _ _ _ _ _ _ c.args.name _ _ _ _ _ (add-one _) c.opened.ensures _ c.in_ok-g.ensures
    _ c.join-sign.ensures c.in-Neither.is

pub subscripts-returns-in-Second : goal.subscripts-returns-in-Second
subscripts-returns-in-Second t c =
    subscripts_one _ _ _ _ _ _ _ c.args.name _ _ _ _ _ (add-one _) c.opened.ensures _ c.in_ok-g.ensures
    _ c.join-sign.ensures _ c.in-Second.is c.named.ensures refl

pub subscripts-returns-in_err-h-in-First : goal.subscripts-returns-in_err-h-in-First
subscripts-returns-in_err-h-in-First t c = rw c.from_residual-in_err-h-in-First.ensures
    (other_unread _ _ _ _ _ _ _ c.args.name _ _ _ _ _ (add-one _) c.opened.ensures _ c.in_ok-g.ensures
    _ c.join-sign.ensures _ _ c.in-First.is c.named-in-First.ensures
    c.in_err-h-in-First.ensures)

pub subscripts-returns-in_err-h-in-First-2 : goal.subscripts-returns-in_err-h-in-First-2
subscripts-returns-in_err-h-in-First-2 t c = rw c.from_residual-in_err-h-in-First-2.ensures
    (other_unclosed _ _ _ _ _ _ _ c.args.name _ _ _ _ _ (add-one _) c.opened.ensures _ c.in_ok-g.ensures
    _ c.join-sign.ensures _ _ c.in-First.is c.named-in-First.ensures
    _ c.in_ok-h-in-First.ensures c.in_err-h-in-First-2.ensures)

pub subscripts-returns-in_ok-h-in-First-2 : goal.subscripts-returns-in_ok-h-in-First-2
subscripts-returns-in_ok-h-in-First-2 t c =
    subscripts_two _ _ _ _ _ _ _ c.args.name _ _ _ _ _ (add-one _) c.opened.ensures _ c.in_ok-g.ensures
    _ c.join-sign.ensures _ _ c.in-First.is c.named-in-First.ensures
    _ c.in_ok-h-in-First.ensures _ _ c.in_ok-h-in-First-2.ensures c.then_read.ensures
