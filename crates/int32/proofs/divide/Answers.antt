use Rattle.std.proofs.Common.{sym, ap, ◌∙◌, w32, Some, rules}
use mir.ValLaws.{to_z-of_z}
use Rattle.int32.specs.Integers.{truncated, quotient}
use Rattle.int32.proofs.Division.{divided_value}
use Rattle.int32.proofs.Rounding.{End}
use Rattle.int32.proofs.Truncation.{quotient_truncated, truncated_fits}
use Rattle.int32.proofs.Wide.{wide_back, narrowed}
use Rattle.int32.proofs.divide.Goals as goal

-- what the test of the end leaves
apart : (c : goal.After-truncate) → End c.args.x c.args.y → ⊥
apart c e = search (rules, e)

pub returns : goal.returns
returns c =
    let back-x = wide_back (c.from.ensures ∙ to_z-of_z w32 c.args.x c.ranges.x) c.ranges.x in
    let back-y = wide_back (c.from-2.ensures ∙ to_z-of_z w32 c.args.y c.ranges.y) c.ranges.y in
    ap Some (narrowed (c.truncate.ensures ∙ (λ i. truncated (back-x i) (back-y i))) (truncated_fits c.args.x c.args.y c.ranges.x (apart c))
    ∙ sym (quotient_truncated c.args.x c.args.y (apart c)))
    ∙ divided_value quotient c.args.x c.args.y c.if-y-eq0.false
