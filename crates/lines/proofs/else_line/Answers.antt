-- `lines::else_line` meets its contract.
use Rattle.std.proofs.lemmas.Result.{err_from_is_err_and}
use mathlib.Core.Path.{refl, ap, ◌∙◌}
use mathlib.Core.List.{List}
use Prim.Native.Nat.{ℕ, ◌+◌, ◌*◌}
use native.Mathlib.Omega.{arith}
use lib.ListN.{set}
use Rattle.lines.specs.Progress.{held}
use Rattle.lines.proofs.InnermostJump.{jumps}
use Rattle.lines.proofs.BranchLines.{else_none, else_again, else_more, else_turns}
use Rattle.lines.proofs.else_line.Goals as goal

pub returns-then-p-eq0 : goal.returns-then-p-eq0
returns-then-p-eq0 c = λ k T I. else_none k _ _ c.requires.0 (held c.args.p T I c.args.code.now c.args.opens.now) c.if-p-eq0.true

pub returns-then-w-eq1 : goal.returns-then-w-eq1
returns-then-w-eq1 c = λ k T I. else_again k _ _ c.requires.0 (held c.args.p T I c.args.code.now c.args.opens.now) c.if-p-eq0.false c.if-w-eq1.true

pub returns-in_err-judged : goal.returns-in_err-judged
returns-in_err-judged c =
    let q = err_from_is_err_and c.from_residual.result c.from_residual.ensures.1 in
    rw (q.1, q.2) (λ k T I. else_more k _ _ c.requires.0 (held c.args.p T I c.args.code.now c.args.opens.now)
    c.if-p-eq0.false c.if-w-eq1.false _ c.in_err-judged.ensures.comes)

pub overflow_sub-p : goal.overflow_sub-p
overflow_sub-p c =
    (let u = jumps _ _ _ c.requires.3 c.if-p-eq0.false in omega (arith, u.before))

pub fill-requires : goal.fill-requires
fill-requires c =
    (let u = jumps _ _ _ c.requires.3 c.if-p-eq0.false in (omega (arith, u.before, u.long), u.small, omega (arith, c.requires.1)))

pub returns : goal.returns
returns c =
    λ k T I. else_turns k _ _ c.requires.0 (held c.args.p T I c.args.code.now c.args.opens.now) c.if-p-eq0.false c.if-w-eq1.false c.requires.2 _
    (c.put_jump.ensures ∙ ap (λ (l : List ℕ). set (set l (2 * c.args.p.place) 16) (2 * c.args.p.place + 1) 0) c.fill.ensures.code_after) _ refl _ _
    c.in_ok-judged.ensures.comes c.onward.ensures
