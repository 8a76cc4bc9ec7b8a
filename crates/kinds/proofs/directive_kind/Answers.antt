-- `kinds::directive_kind` meets its contract.
use mathlib.Core.Path.{refl, ◌∙◌}
use Rattle.kinds.proofs.Starts.{said, directive_closing, directive_opening}
use Rattle.kinds.proofs.directive_kind.Goals as goal

pub returns-then-reads : goal.returns-then-reads
returns-then-reads c =
    λ e. directive_closing _ _ e (said c.args.s.now c.args.at _ c.token.ensures "end" _ c.reads.ensures refl ∙ c.if-reads.true)

pub returns-else-reads : goal.returns-else-reads
returns-else-reads c =
    λ e. directive_opening _ _ e (said c.args.s.now c.args.at _ c.token.ensures "end" _ c.reads.ensures refl ∙ c.if-reads.false)
