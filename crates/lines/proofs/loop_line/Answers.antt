-- `lines::loop_line` meets its contract.
use Rattle.std.proofs.lemmas.Result.{err_from_is_err_and}
use mathlib.Core.Path.{◌≡◌, refl}
use mir.Val.{to_z, of_z}
use mir.Syntax.{w32}
use Rattle.std.specs.Prelude.{Option}
use Rattle.bounds.specs.DoLine.{Do}
use Rattle.bounds.specs.declared.Looped.{Looped}
use Rattle.lines.specs.Progress.{held}
use Rattle.lines.proofs.Verdicts.{passed, unpassed, some_of, broken_form}
use Rattle.lines.proofs.LoopLine.{loop_wordless, loop_missing, loop_told, loop_line}
use borrow.Author.Rules.{rules}
use Rattle.lines.proofs.loop_line.Goals as goal

pub returns-in_err-a : goal.returns-in_err-a
returns-in_err-a c =
    let s = c.args.s.now in
    let e = c.in_err-a.ensures.value in
    let q = err_from_is_err_and c.from_residual.result c.from_residual.ensures.1 in
    rw (q.1, q.2) (λ k I C O. loop_wordless s k _ _ _ (broken_form _ _ e) (unpassed "do" s 0 _ _ e c.pass.ensures))

pub returns-in_err-r : goal.returns-in_err-r
returns-in_err-r c =
    let a = c.args in
    let s = a.s.now in
    let g = passed "do" s 0 _ _ c.in_ok-a.ensures.value c.pass.ensures in
    let q = err_from_is_err_and c.from_residual-in_err-r.result c.from_residual-in_err-r.ensures.1 in
    rw (q.1, q.2) (λ k I C O. loop_missing k s (held a.p a.table.now I C O) c.do_line.new.table _ g _ _ _ c.in_err-r.ensures.value c.do_line.ensures)

pub returns-in_err-judged : goal.returns-in_err-judged
returns-in_err-judged c =
    let a = c.args in
    let s = a.s.now in
    let g = passed "do" s 0 _ _ c.in_ok-a.ensures.value c.pass.ensures in
    let h = some_of (λ (o : Option Looped). Do a.table.now s c.in_ok-a.a c.do_line.new.table o) _ _ c.in_ok-r.ensures.value c.do_line.ensures in
    let q = err_from_is_err_and c.from_residual-in_err-judged.result c.from_residual-in_err-judged.ensures.1 in
    rw (q.1, q.2) (λ k I C O. loop_told k s (held a.p a.table.now I C O) c.do_line.new.table _ g _ h _ refl _ c.in_err-judged.ensures.comes)

pub returns : goal.returns
returns c =
    let a = c.args in
    let s = a.s.now in
    let g = passed "do" s 0 _ _ c.in_ok-a.ensures.value c.pass.ensures in
    let h = some_of (λ (o : Option Looped). Do a.table.now s c.in_ok-a.a c.do_line.new.table o) _ _ c.in_ok-r.ensures.value c.do_line.ensures in
    let e : to_z w32 (of_z w32 c.in_ok-r.r.from) ≡ c.in_ok-r.r.from = search rules in
    λ k I C O. loop_line k s (held a.p a.table.now I C O) c.do_line.new.table _ g _ h _ e _ _ c.in_ok-judged.ensures.comes refl
