-- `lines::directive_line` meets its contract: the clauses that may stand so often do, or not.
use Rattle.std.proofs.lemmas.Result.{err_from_is_err_and}
use mathlib.Core.Path.{refl, sym, ◌∙◌}
use Rattle.std.specs.Prelude.{Option}
use Rattle.clauses.specs.Directive.{Directive}
use Rattle.clauses.specs.declared.Directed.{Directed}
use Rattle.lines.specs.Progress.{held}
use Rattle.lines.proofs.Verdicts.{passed, unpassed, some_of, broken_form}
use Rattle.lines.proofs.DirectLine.{direct_signless, direct_alone, direct_idle, direct_missing, direct_broken, direct_told, direct_line}
use Rattle.lines.proofs.directive_line.Goals as goal

pub returns-in_err-a : goal.returns-in_err-a
returns-in_err-a c =
    let s = c.args.s.now in
    let e = c.in_err-a.ensures.value in
    let q = err_from_is_err_and c.from_residual.result c.from_residual.ensures.1 in
    rw (q.1, q.2) (λ k I C O. direct_signless s k _ _ _ (broken_form _ _ e) (unpassed "!$omp" s 0 _ _ e c.pass.ensures))

pub returns-in_err-b : goal.returns-in_err-b
returns-in_err-b c =
    let s = c.args.s.now in
    let e = c.in_err-b.ensures.value in
    let x = passed "!$omp" s 0 _ _ c.in_ok-a.ensures.value c.pass.ensures in
    let q = err_from_is_err_and c.from_residual-in_err-b.result c.from_residual-in_err-b.ensures.1 in
    rw (q.1, q.2) (λ k I C O. direct_alone s k _ _ _ (broken_form _ _ e) _ x (unpassed "parallel" s _ _ _ e c.pass-2.ensures))

pub returns-in_err-c : goal.returns-in_err-c
returns-in_err-c c =
    let s = c.args.s.now in
    let e = c.in_err-c.ensures.value in
    let x = passed "!$omp" s 0 _ _ c.in_ok-a.ensures.value c.pass.ensures in
    let y = passed "parallel" s _ _ _ c.in_ok-b.ensures.value c.pass-2.ensures in
    let q = err_from_is_err_and c.from_residual-in_err-c.result c.from_residual-in_err-c.ensures.1 in
    rw (q.1, q.2) (λ k I C O. direct_idle s k _ _ _ (broken_form _ _ e) _ x _ y (unpassed "do" s _ _ _ e c.pass-3.ensures))

pub returns-in_err-r : goal.returns-in_err-r
returns-in_err-r c =
    let a = c.args in
    let s = a.s.now in
    let x = passed "!$omp" s 0 _ _ c.in_ok-a.ensures.value c.pass.ensures in
    let y = passed "parallel" s _ _ _ c.in_ok-b.ensures.value c.pass-2.ensures in
    let z = passed "do" s _ _ _ c.in_ok-c.ensures.value c.pass-3.ensures in
    let q = err_from_is_err_and c.from_residual-in_err-r.result c.from_residual-in_err-r.ensures.1 in
    rw (q.1, q.2) (λ k I C O. direct_missing k s (held a.p a.table.now I C O) c.directive.new.table _ _ _ x y z _ _ _
    c.in_err-r.ensures.value c.directive.ensures.directive)

pub returns-then-not-stands_rightly : goal.returns-then-not-stands_rightly
returns-then-not-stands_rightly c =
    let a = c.args in
    let s = a.s.now in
    let d = c.directive in
    let x = passed "!$omp" s 0 _ _ c.in_ok-a.ensures.value c.pass.ensures in
    let y = passed "parallel" s _ _ _ c.in_ok-b.ensures.value c.pass-2.ensures in
    let z = passed "do" s _ _ _ c.in_ok-c.ensures.value c.pass-3.ensures in
    let h = some_of (λ (o : Option Directed). Directive a.table.now s c.in_ok-c.c d.new.table o) _ _ c.in_ok-r.ensures.value d.ensures.directive in
    λ k I C O. direct_broken k s (held a.p a.table.now I C O) d.new.table _ _ _ x y z _ h d.ensures.keeps _ refl
    (sym c.stands_rightly.ensures ∙ c.if-not-stands_rightly.true)

pub returns-in_err-judged : goal.returns-in_err-judged
returns-in_err-judged c =
    let a = c.args in
    let s = a.s.now in
    let d = c.directive in
    let x = passed "!$omp" s 0 _ _ c.in_ok-a.ensures.value c.pass.ensures in
    let y = passed "parallel" s _ _ _ c.in_ok-b.ensures.value c.pass-2.ensures in
    let z = passed "do" s _ _ _ c.in_ok-c.ensures.value c.pass-3.ensures in
    let h = some_of (λ (o : Option Directed). Directive a.table.now s c.in_ok-c.c d.new.table o) _ _ c.in_ok-r.ensures.value d.ensures.directive in
    let q = err_from_is_err_and c.from_residual-in_err-judged.result c.from_residual-in_err-judged.ensures.1 in
    rw (q.1, q.2) (λ k I C O. direct_told k s (held a.p a.table.now I C O) d.new.table _ _ _ x y z _ h d.ensures.keeps _ refl
    (sym c.stands_rightly.ensures ∙ c.if-not-stands_rightly.false) _ c.in_err-judged.ensures.comes)

pub returns : goal.returns
returns c =
    let a = c.args in
    let s = a.s.now in
    let d = c.directive in
    let x = passed "!$omp" s 0 _ _ c.in_ok-a.ensures.value c.pass.ensures in
    let y = passed "parallel" s _ _ _ c.in_ok-b.ensures.value c.pass-2.ensures in
    let z = passed "do" s _ _ _ c.in_ok-c.ensures.value c.pass-3.ensures in
    let h = some_of (λ (o : Option Directed). Directive a.table.now s c.in_ok-c.c d.new.table o) _ _ c.in_ok-r.ensures.value d.ensures.directive in
    λ k I C O. direct_line k s (held a.p a.table.now I C O) d.new.table _ _ _ x y z _ h d.ensures.keeps _ c.grouping_of.ensures
    (sym c.stands_rightly.ensures ∙ c.if-not-stands_rightly.false) _ _ c.in_ok-judged.ensures.comes c.before_do.ensures
