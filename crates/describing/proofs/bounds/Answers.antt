-- `describing::bounds` meets its contract.
use mathlib.Core.Path.{◌≡◌, ◌∙◌, ap}
use mir.Syntax.{w32}
use mir.Val.{to_z, of_z}
use lib.IntN.{ℤ}
use Rattle.std.specs.Prelude.{Result, Ok}
use Rattle.std.proofs.lemmas.Result.{err_from_is_err_and}
use Rattle.answers.specs.declared.Bounds.{Bounds}
use Rattle.answers.specs.declared.Refusal.{Refusal}
use Rattle.describing.proofs.Answering.{bounds_refused, bounds_accepted}
use borrow.Author.Rules.{rules}
use Rattle.describing.proofs.bounds.Goals as goal

pub returns-in_err-p : goal.returns-in_err-p
returns-in_err-p c =
    let q = err_from_is_err_and c.from_residual.result c.from_residual.ensures.1 in
    rw (q.1, q.2) (bounds_refused _ _ c.in_err-p.ensures.refused)

pub returns : goal.returns
returns c =
    let p = c.in_ok-p.p in
    let m : to_z w32 (of_z w32 p.from) ≡ p.from = search rules in
    let whole : ℤ → Result Bounds Refusal = λ x. Ok (record { from = x; iterations = p.count; grouping = p.grouping }) in
    ap whole m ∙ bounds_accepted _ _ _ _ _ c.in_ok-p.ensures.accepted
