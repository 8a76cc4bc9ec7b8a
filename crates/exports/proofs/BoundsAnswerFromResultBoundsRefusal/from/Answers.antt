-- The conversion to `BoundsAnswer` meets its contract.
use mathlib.Core.Path.{◌≡◌, sym, ap, ◌∙◌}
use lib.IntN.{pos}
use mir.Syntax.{w32}
use mir.Val.{to_z, of_z}
use Rattle.exports.specs.Numbers.{bounds_numbers}
use borrow.Author.Rules.{rules}
use Rattle.exports.proofs.BoundsAnswerFromResultBoundsRefusal.from.Goals as goal

pub returns-in-Ok : goal.returns-in-Ok
unfolding bounds_numbers
returns-in-Ok c =
    let g = c.in-Ok.b in
    let m : to_z w32 (of_z w32 g.from) ≡ g.from = search rules in
    (λ i. record { number = 0; line = 0; v = pos 0; from = m i; iterations = g.iterations; blocks = c.blocks_of.ensures i })
    ∙ ap bounds_numbers (sym c.in-Ok.is)

pub returns-in-Err : goal.returns-in-Err
unfolding bounds_numbers
returns-in-Err c = ap bounds_numbers (sym c.in-Err.is)
