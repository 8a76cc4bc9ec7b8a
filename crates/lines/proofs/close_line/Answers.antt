-- `lines::close_line` meets its contract.
use Rattle.std.proofs.lemmas.Result.{err_from_is_err_and}
use Rattle.lines.specs.Progress.{held}
use Rattle.lines.proofs.Verdicts.{passed, unpassed, broken_form}
use Rattle.lines.proofs.EndLines.{close_signless, close_endless, close_alone, close_idle, close_more, close_line}
use Rattle.lines.proofs.close_line.Goals as goal

pub returns-in_err-a : goal.returns-in_err-a
returns-in_err-a c =
    let s = c.args.s.now in
    let e = c.in_err-a.ensures.value in
    let q = err_from_is_err_and c.from_residual.result c.from_residual.ensures.1 in
    rw (q.1, q.2) (λ k T I C O. close_signless k s (held c.args.p T I C O) _ (broken_form _ _ e) (unpassed "!$omp" s 0 _ _ e c.pass.ensures))

pub returns-in_err-b : goal.returns-in_err-b
returns-in_err-b c =
    let s = c.args.s.now in
    let e = c.in_err-b.ensures.value in
    let w = passed "!$omp" s 0 _ _ c.in_ok-a.ensures.value c.pass.ensures in
    let q = err_from_is_err_and c.from_residual-in_err-b.result c.from_residual-in_err-b.ensures.1 in
    rw (q.1, q.2) (λ k T I C O. close_endless k s (held c.args.p T I C O) _ w _ (broken_form _ _ e) (unpassed "end" s _ _ _ e c.pass-2.ensures))

pub returns-in_err-c : goal.returns-in_err-c
returns-in_err-c c =
    let s = c.args.s.now in
    let e = c.in_err-c.ensures.value in
    let w = passed "!$omp" s 0 _ _ c.in_ok-a.ensures.value c.pass.ensures in
    let x = passed "end" s _ _ _ c.in_ok-b.ensures.value c.pass-2.ensures in
    let q = err_from_is_err_and c.from_residual-in_err-c.result c.from_residual-in_err-c.ensures.1 in
    rw (q.1, q.2) (λ k T I C O. close_alone k s (held c.args.p T I C O) _ w _ x _ (broken_form _ _ e) (unpassed "parallel" s _ _ _ e c.pass-3.ensures))

pub returns-in_err-d : goal.returns-in_err-d
returns-in_err-d c =
    let s = c.args.s.now in
    let e = c.in_err-d.ensures.value in
    let w = passed "!$omp" s 0 _ _ c.in_ok-a.ensures.value c.pass.ensures in
    let x = passed "end" s _ _ _ c.in_ok-b.ensures.value c.pass-2.ensures in
    let y = passed "parallel" s _ _ _ c.in_ok-c.ensures.value c.pass-3.ensures in
    let q = err_from_is_err_and c.from_residual-in_err-d.result c.from_residual-in_err-d.ensures.1 in
    rw (q.1, q.2) (λ k T I C O. close_idle k s (held c.args.p T I C O) _ w _ x _ y _ (broken_form _ _ e) (unpassed "do" s _ _ _ e c.pass-4.ensures))

pub returns-in_err-judged : goal.returns-in_err-judged
returns-in_err-judged c =
    let s = c.args.s.now in
    let w = passed "!$omp" s 0 _ _ c.in_ok-a.ensures.value c.pass.ensures in
    let x = passed "end" s _ _ _ c.in_ok-b.ensures.value c.pass-2.ensures in
    let y = passed "parallel" s _ _ _ c.in_ok-c.ensures.value c.pass-3.ensures in
    let z = passed "do" s _ _ _ c.in_ok-d.ensures.value c.pass-4.ensures in
    let q = err_from_is_err_and c.from_residual-in_err-judged.result c.from_residual-in_err-judged.ensures.1 in
    rw (q.1, q.2) (λ k T I C O. close_more k s (held c.args.p T I C O) _ w _ x _ y _ z _ c.in_err-judged.ensures.comes)

pub returns : goal.returns
returns c =
    let s = c.args.s.now in
    let w = passed "!$omp" s 0 _ _ c.in_ok-a.ensures.value c.pass.ensures in
    let x = passed "end" s _ _ _ c.in_ok-b.ensures.value c.pass-2.ensures in
    let y = passed "parallel" s _ _ _ c.in_ok-c.ensures.value c.pass-3.ensures in
    let z = passed "do" s _ _ _ c.in_ok-d.ensures.value c.pass-4.ensures in
    λ k T I C O. close_line k s (held c.args.p T I C O) _ w _ x _ y _ z _ _ c.in_ok-judged.ensures.comes c.onward.ensures
