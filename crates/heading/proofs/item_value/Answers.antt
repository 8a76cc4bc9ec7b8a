-- `heading::item_value` meets its contract, sign by sign.
use mathlib.Core.Logic.{inl, inr}
use mathlib.Core.Path.{◌≡◌, sym, ◌∙◌, ap}
use native.Mathlib.Omega.{arith}
use lib.IntN.{ℤ}
use Rattle.int32.specs.Integers.{value, negation}
use Rattle.int32.proofs.Laws.{landed, value_fits, negation_fits}
use Rattle.syntax.specs.Meaning.{led}
use Rattle.lexer.specs.Places.{lead_of}
use Rattle.lexer.specs.declared.Leading.{Leading}
use Rattle.heading.proofs.item_value.Goals as goal

-- the sign of the arm
arm : {l k : Leading} (x : ℤ) → l ≡ k → led (lead_of k) x ≡ led (lead_of l) x
arm x e = ap (λ (l : Leading). led (lead_of l) x) (sym e)

pub returns-in-Bare : goal.returns-in-Bare
returns-in-Bare c =
    landed c.of_word-n.ensures (value_fits c.args.size (omega (arith, c.ranges.size)))
    ∙ (elim c.in-Bare.is [ inl e ↦ arm (value c.args.size) e | inr e ↦ arm (value c.args.size) e ])

pub returns-in-Minus : goal.returns-in-Minus
returns-in-Minus c =
    landed c.negate.ensures (negation_fits _)
    ∙ ap negation (landed c.of_word-n.ensures (value_fits c.args.size (omega (arith, c.ranges.size))))
    ∙ arm (value c.args.size) c.in-Minus.is
