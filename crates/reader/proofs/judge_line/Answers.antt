-- `reader::judge_line` meets its contract.
use mathlib.Core.Path.{sym, ◌∙◌}
use native.Mathlib.Omega.{arith}
use Rattle.reader.proofs.Judging.{bad_bytes, skipped_early, skipped_good, ends_right}
use Rattle.reader.proofs.judge_line.Goals as goal

pub returns-then-not-is_sound : goal.returns-then-not-is_sound
returns-then-not-is_sound c = λ st rp sane. bad_bytes _ _ _ st _ (sym (sym c.is_sound.ensures ∙ c.if-not-is_sound.true))

pub returns-then-p-lt6 : goal.returns-then-p-lt6
returns-then-p-lt6 c =
    λ st rp sane. skipped_early _ _ _ st _ (sym (sym c.is_sound.ensures ∙ c.if-not-is_sound.false))
    (sym (sym c.is_skipped.ensures ∙ c.if-not-is_skipped.false)) c.if-last.true (omega (arith, c.if-p-lt6.true, rp.stage))

pub returns : goal.returns
returns c =
    λ st rp sane. skipped_good _ _ _ st _ (sym (sym c.is_sound.ensures ∙ c.if-not-is_sound.false))
    (sym (sym c.is_skipped.ensures ∙ c.if-not-is_skipped.false)) (ends_right c.args.last _ st.stage rp.stage c.else-last.either) c.args.p rp
