-- `lines::end_if_line` meets its contract.
use Rattle.std.proofs.lemmas.Result.{err_from_is_err_and}
use native.Mathlib.Omega.{arith}
use Rattle.lines.specs.Progress.{held}
use Rattle.lines.proofs.InnermostJump.{jumps}
use Rattle.lines.proofs.BranchLines.{end_if_none, end_if_more, end_if_ends}
use Rattle.lines.proofs.end_if_line.Goals as goal

pub returns-then-p-eq0 : goal.returns-then-p-eq0
returns-then-p-eq0 c = λ j k T I. end_if_none k _ _ c.requires.0 (held c.args.p T I c.args.code.now c.args.opens.now) _ j c.if-p-eq0.true

pub returns-in_err-judged : goal.returns-in_err-judged
returns-in_err-judged c =
    let q = err_from_is_err_and c.from_residual.result c.from_residual.ensures.1 in
    rw (q.1, q.2) (λ j k T I. end_if_more k _ _ c.requires.0 (held c.args.p T I c.args.code.now c.args.opens.now) c.if-p-eq0.false j _ c.in_err-judged.ensures.comes)

pub overflow_sub-p : goal.overflow_sub-p
overflow_sub-p c =
    (let u = jumps _ _ _ c.requires.3 c.if-p-eq0.false in omega (arith, u.before))

pub fill-requires : goal.fill-requires
fill-requires c =
    (let u = jumps _ _ _ c.requires.3 c.if-p-eq0.false in (omega (arith, u.before, u.long), u.small, omega (arith, c.requires.1)))

pub returns : goal.returns
returns c =
    λ j k T I. end_if_ends k _ _ c.requires.0 (held c.args.p T I c.args.code.now c.args.opens.now) c.if-p-eq0.false _ c.fill.ensures.code_after j _ _
    c.in_ok-judged.ensures.comes c.onward.ensures
