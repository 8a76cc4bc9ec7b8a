-- `lines::assign_line` meets its contract.
use Rattle.std.proofs.lemmas.Result.{err_from_is_err_and}
use Rattle.std.specs.Prelude.{Option}
use Rattle.syntax.specs.Reader.{read_assign, peek_in, skip_in}
use Rattle.parts.specs.declared.Got.{Got}
use Rattle.statements.specs.Statement.{Compiles}
use Rattle.lines.specs.Progress.{held}
use Rattle.lines.proofs.Verdicts.{some_of, none_of, broken_form}
use Rattle.lines.proofs.StatementLines.{unread, assign_told, assign_line}
use Rattle.lines.proofs.assign_line.Goals as goal

pub returns-in_err-g : goal.returns-in_err-g
returns-in_err-g c =
    let a = c.args in
    let e = c.in_err-g.ensures.value in
    let w = none_of (λ (o : Option Got). Compiles (read_assign peek_in skip_in) a.table.now a.s.now a.line a.p.place a.code.now c.assignment.new.code o) _ _
    e c.assignment.ensures in
    let q = err_from_is_err_and c.from_residual.result c.from_residual.ensures.1 in
    rw (q.1, q.2) (λ I O. unread a.line a.s.now (held a.p a.table.now I a.code.now O) _ (read_assign peek_in skip_in) w O _ (broken_form _ _ e))

pub returns-in_err-judged : goal.returns-in_err-judged
returns-in_err-judged c =
    let a = c.args in
    let w = some_of (λ (o : Option Got). Compiles (read_assign peek_in skip_in) a.table.now a.s.now a.line a.p.place a.code.now c.assignment.new.code o) _ _
    c.in_ok-g.ensures.value c.assignment.ensures in
    let q = err_from_is_err_and c.from_residual-in_err-judged.result c.from_residual-in_err-judged.ensures.1 in
    rw (q.1, q.2) (λ I O. assign_told a.line a.s.now (held a.p a.table.now I a.code.now O) _ _ w _ c.in_err-judged.ensures.comes)

pub returns : goal.returns
returns c =
    let a = c.args in
    let w = some_of (λ (o : Option Got). Compiles (read_assign peek_in skip_in) a.table.now a.s.now a.line a.p.place a.code.now c.assignment.new.code o) _ _
    c.in_ok-g.ensures.value c.assignment.ensures in
    λ I O. assign_line a.line a.s.now (held a.p a.table.now I a.code.now O) _ _ w _ _ c.in_ok-judged.ensures.comes c.onward.ensures
