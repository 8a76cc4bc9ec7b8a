-- `lines::end_do_line` meets its contract.
use Rattle.std.proofs.lemmas.Result.{err_from_is_err_and}
use native.Mathlib.Omega.{arith}
use Rattle.lines.specs.Progress.{held}
use Rattle.lines.proofs.EndLines.{end_do_line, end_do_more, end_do_open}
use Rattle.lines.proofs.end_do_line.Goals as goal

pub returns-then-p-ne0 : goal.returns-then-p-ne0
returns-then-p-ne0 c = λ j k T I C O. end_do_open k _ _ c.requires (held c.args.p T I C O) j c.if-p-ne0.true

pub returns-in_err-judged : goal.returns-in_err-judged
returns-in_err-judged c =
    let q = err_from_is_err_and c.from_residual.result c.from_residual.ensures.1 in
    rw (q.1, q.2) (λ j k T I C O. end_do_more k _ _ c.requires (held c.args.p T I C O) j _ c.in_err-judged.ensures.comes (omega (arith, c.if-p-ne0.false)))

pub returns : goal.returns
returns c = λ j k T I C O. end_do_line k _ _ c.requires (held c.args.p T I C O) j _ _ c.in_ok-judged.ensures.comes c.onward.ensures (omega (arith, c.if-p-ne0.false))
