-- `lines::if_line` meets its contract.
use Rattle.std.proofs.lemmas.Result.{err_from_is_err_and}
use mathlib.Core.Path.{ap}
use mathlib.Core.List.{[]}
use Prim.Native.Nat.{ℕ}
use lib.ListN.{set}
use native.Mathlib.Omega.{arith}
use Rattle.std.specs.Prelude.{Option}
use Rattle.syntax.specs.Ranks.{level}
use Rattle.syntax.specs.Reader.{read_when, peek_in, skip_in}
use Rattle.parts.specs.declared.Got.{Got}
use Rattle.statements.specs.Statement.{Compiles}
use Rattle.lines.specs.Progress.{held}
use Rattle.lines.proofs.Verdicts.{some_of, none_of, broken_form, ended_well}
use Rattle.lines.proofs.StatementLines.{unread, when_told, when_shallow, when_line, compiled_bounded}
use Rattle.lines.proofs.if_line.Goals as goal

pub returns-in_err-g : goal.returns-in_err-g
returns-in_err-g c =
    let a = c.args in
    let e = c.in_err-g.ensures.value in
    let w = none_of (λ (o : Option Got). Compiles (read_when peek_in skip_in) a.table.now a.s.now a.line a.p.place a.code.now c.condition.new.code o) _ _
    e c.condition.ensures in
    let q = err_from_is_err_and c.from_residual.result c.from_residual.ensures.1 in
    rw (q.1, q.2) (λ I. unread a.line a.s.now (held a.p a.table.now I a.code.now a.opens.now) _ (read_when peek_in skip_in) w _ _ (broken_form _ _ e))

pub returns-in_err-judged : goal.returns-in_err-judged
returns-in_err-judged c =
    let a = c.args in
    let w = some_of (λ (o : Option Got). Compiles (read_when peek_in skip_in) a.table.now a.s.now a.line a.p.place a.code.now c.condition.new.code o) _ _
    c.in_ok-g.ensures.value c.condition.ensures in
    let q = err_from_is_err_and c.from_residual-in_err-judged.result c.from_residual-in_err-judged.ensures.1 in
    rw (q.1, q.2) (λ I. when_told a.line a.s.now (held a.p a.table.now I a.code.now a.opens.now) _ _ w _ c.opened.ensures _ _ c.in_err-judged.ensures.comes)

pub open_word-requires : goal.open_word-requires
open_word-requires c =
    let a = c.args in
    let w = some_of (λ (o : Option Got). Compiles (read_when peek_in skip_in) a.table.now a.s.now a.line a.p.place a.code.now c.condition.new.code o) _ _
    c.in_ok-g.ensures.value c.condition.ensures in
    omega (arith, (compiled_bounded _ _ _ _ _ _ _ _ w).1, c.requires.0, c.requires.3)

pub bounds-opens-p : goal.bounds-opens-p
bounds-opens-p c =
    let a = c.args in
    let w = some_of (λ (o : Option Got). Compiles (read_when peek_in skip_in) a.table.now a.s.now a.line a.p.place a.code.now c.condition.new.code o) _ _
    c.in_ok-g.ensures.value c.condition.ensures in
    let low = when_shallow a.line a.s.now (held a.p a.table.now [] a.code.now a.opens.now) c.condition.new.code _ w _ c.opened.ensures
    (ended_well a.s.now c.in_ok-g.g.at (level c.opened.result) _ (compiled_bounded _ _ _ _ _ _ _ _ w).0 c.in_ok-judged.ensures.comes) in
    omega (arith, low)

pub returns : goal.returns
returns c =
    let a = c.args in
    let w = some_of (λ (o : Option Got). Compiles (read_when peek_in skip_in) a.table.now a.s.now a.line a.p.place a.code.now c.condition.new.code o) _ _
    c.in_ok-g.ensures.value c.condition.ensures in
    λ I.
    let low = when_shallow a.line a.s.now (held a.p a.table.now I a.code.now a.opens.now) c.condition.new.code _ w _ c.opened.ensures
    (ended_well a.s.now c.in_ok-g.g.at (level c.opened.result) _ (compiled_bounded _ _ _ _ _ _ _ _ w).0 c.in_ok-judged.ensures.comes) in
    when_line a.line a.s.now (held a.p a.table.now I a.code.now a.opens.now) _ _ w _ c.opened.ensures low _
    (ap (λ (x : ℕ). set a.opens.now a.p.depth x) c.open_word.ensures) _ _ c.in_ok-judged.ensures.comes c.onward.ensures
