-- `reader::spoken_line` meets its contract.
use mathlib.Core.Path.{sym, ◌∙◌}
use native.Mathlib.Omega.{arith}
use Rattle.syntax.specs.Conditions.{may_follow}
use Rattle.reader.proofs.Judging.{stands_not, ends_early, judged_line, ends_right}
use Rattle.reader.proofs.spoken_line.Goals as goal

pub returns-then-not-is_next : goal.returns-then-not-is_next
returns-then-not-is_next c =
    λ h g st rp sane. stands_not _ _ _ st _ h g _ c.kind_of-k.ensures
    (sym ((λ i. may_follow (sym rp.stage i) (sym c.stage_of-stage.ensures.0 i)) ∙ sym c.is_next.ensures ∙ c.if-not-is_next.true))

pub returns-then-stage-lt6 : goal.returns-then-stage-lt6
returns-then-stage-lt6 c =
    λ h g st rp sane. ends_early _ _ _ st _ h g _ c.kind_of-k.ensures c.if-last.true
    (omega (arith, c.if-stage-lt6.true, c.stage_of-stage.ensures.0))

pub returns : goal.returns
returns c =
    λ h g st rp sane.
    let fo = (λ i. may_follow (sym rp.stage i) (sym c.stage_of-stage.ensures.0 i)) ∙ sym c.is_next.ensures ∙ c.if-not-is_next.false in
    judged_line _ _ _ st _ h g _ c.kind_of-k.ensures fo
    (ends_right c.args.last _ _ c.stage_of-stage.ensures.0 c.else-last.either) _
    (c.line_by.ensures st rp sane fo _ (omega arith))
