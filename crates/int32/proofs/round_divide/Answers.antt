use Rattle.std.proofs.Common.{ℕ, ◌<◌, ◌≤◌, ℤ, nat_abs, sym, ap, ◌∙◌, subst, w32, of_z}
use lib.Signed.{nat_abs-le}
use mir.ValLaws.{to_z-of_z}
use Rattle.std.specs.Prelude.{Some}
use Rattle.int32.specs.Integers.{rdiv}
use Rattle.int32.specs.SignWord.{sign_word}
use Rattle.int32.proofs.Laws.{landed}
use Rattle.int32.proofs.Division.{divided_value, rdiv_words, rdiv_fits}
use Rattle.int32.proofs.Sizes.{size_pos}
use Rattle.int32.proofs.round_divide.Goals as goal

pub round_half_even-m-requires : goal.round_half_even-m-requires
round_half_even-m-requires c = (
  subst (λ (n : ℕ). n ≤ 2147483648) (sym (c.unsigned_abs.ensures.value ∙ ap nat_abs (to_z-of_z w32 c.args.x c.ranges.x)))
      (nat_abs-le c.args.x c.ranges.x.sfits),
  subst (λ (n : ℕ). 0 < n) (sym (c.unsigned_abs-2.ensures.value ∙ ap nat_abs (to_z-of_z w32 c.args.y c.ranges.y)))
      (size_pos c.args.y (λ e. c.if-y-eq0.false (ap (of_z w32) e))),
)

pub returns : goal.returns
returns c =
    let bx = to_z-of_z w32 c.args.x c.ranges.x in
    let by = to_z-of_z w32 c.args.y c.ranges.y in
    ap Some
    (landed
    (c.of_word.ensures
    ∙ rdiv_words c.args.x c.args.y (c.unsigned_abs.ensures.value ∙ ap nat_abs bx) (c.unsigned_abs-2.ensures.value ∙ ap nat_abs by)
    c.round_half_even-m.ensures c.round_half_even-m.type_inv
    (c.with_sign.ensures ∙ ap (λ (z : ℤ). sign_word z c.round_half_even-m.result) by)
    (c.with_sign-2.ensures ∙ ap (λ (z : ℤ). sign_word z c.with_sign.result) bx))
    (rdiv_fits c.args.x c.args.y))
    ∙ divided_value rdiv c.args.x c.args.y c.if-y-eq0.false
