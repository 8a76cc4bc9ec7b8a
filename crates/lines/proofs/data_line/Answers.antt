-- `lines::data_line` meets its contract.
use Rattle.std.proofs.lemmas.Result.{err_from_is_err_and}
use Rattle.std.specs.Prelude.{Option}
use Rattle.values.specs.Data.{Data}
use Rattle.heading.specs.declared.Headed.{Headed}
use Rattle.lines.specs.Progress.{held}
use Rattle.lines.proofs.Verdicts.{passed, unpassed, some_of, broken_form}
use Rattle.lines.proofs.GiveLine.{give_wordless, give_missing, give_told, give_line}
use Rattle.lines.proofs.data_line.Goals as goal

pub returns-in_err-next : goal.returns-in_err-next
returns-in_err-next c =
    let s = c.args.s.now in
    let e = c.in_err-next.ensures.value in
    let q = err_from_is_err_and c.from_residual.result c.from_residual.ensures.1 in
    rw (q.1, q.2) (λ k C O. give_wordless s k _ _ _ (broken_form _ _ e) (unpassed "data" s 0 _ _ e c.pass.ensures))

pub returns-in_err-r : goal.returns-in_err-r
returns-in_err-r c =
    let a = c.args in
    let s = a.s.now in
    let g = passed "data" s 0 _ _ c.in_ok-next.ensures.value c.pass.ensures in
    let q = err_from_is_err_and c.from_residual-in_err-r.result c.from_residual-in_err-r.ensures.1 in
    rw (q.1, q.2) (λ k C O. give_missing k s (held a.p a.table.now a.initial.now C O) c.data_values.new.table c.data_values.new.cells _ g _ _ _ c.in_err-r.ensures.value
    c.data_values.ensures.fact)

pub returns-in_err-judged : goal.returns-in_err-judged
returns-in_err-judged c =
    let a = c.args in
    let s = a.s.now in
    let d = c.data_values in
    let g = passed "data" s 0 _ _ c.in_ok-next.ensures.value c.pass.ensures in
    let h = some_of (λ (o : Option Headed). Data a.table.now a.initial.now s c.in_ok-next.next d.new.table d.new.cells o) _ _ c.in_ok-r.ensures.value d.ensures.fact in
    let q = err_from_is_err_and c.from_residual-in_err-judged.result c.from_residual-in_err-judged.ensures.1 in
    rw (q.1, q.2) (λ k C O. give_told k s (held a.p a.table.now a.initial.now C O) d.new.table d.new.cells _ g _ h d.ensures.keeps.0 _ c.in_err-judged.ensures.comes)

pub returns : goal.returns
returns c =
    let a = c.args in
    let s = a.s.now in
    let d = c.data_values in
    let g = passed "data" s 0 _ _ c.in_ok-next.ensures.value c.pass.ensures in
    let h = some_of (λ (o : Option Headed). Data a.table.now a.initial.now s c.in_ok-next.next d.new.table d.new.cells o) _ _ c.in_ok-r.ensures.value d.ensures.fact in
    λ k C O. give_line k s (held a.p a.table.now a.initial.now C O) d.new.table d.new.cells _ g _ h d.ensures.keeps.0 _ _ c.in_ok-judged.ensures.comes c.before_do.ensures
