-- `updates::signed` meets its contract.
use denote.Enum.Bare.{sameb}
use mathlib.Core.Path.{◌≡◌, refl, ◌∙◌, ap}
use mathlib.Core.Bool.{Bool, true, false, ◌||◌, not}
use Rattle.parts.specs.Parts.{either}
use Rattle.parts.specs.contracts.Joint.{the_type}
use Rattle.parts.specs.declared.Joint.{Joint}
use Rattle.parts.specs.declared.Joint.TheVariants.{Neither}
use Rattle.updates.proofs.signed.Goals as goal

-- the code's test of which sign stands there
by_test : (p q : Bool) → not (sameb the_type (either p q) Neither) ≡ p || q
by_test true q = refl
by_test false true = refl
by_test false false = refl

pub returns : goal.returns
returns c = c.ne.ensures ∙ ap (λ (j : Joint). not (sameb the_type j Neither)) c.join.ensures.joint ∙ by_test _ _
