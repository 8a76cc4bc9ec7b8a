-- `kinds::end_kind` meets its contract.
use mathlib.Core.Path.{refl, ◌∙◌}
use Rattle.kinds.proofs.Starts.{said, end_of_if, end_of_do, end_of_none}
use Rattle.kinds.proofs.end_kind.Goals as goal

pub returns-then-reads : goal.returns-then-reads
returns-then-reads c =
    λ e. end_of_if _ _ _ e c.token-t.ensures.next c.token-t.ensures.within
    (said c.args.s.now c.args.at _ c.token-t.ensures "if" _ c.reads.ensures refl ∙ c.if-reads.true)

pub returns-then-reads-2 : goal.returns-then-reads-2
returns-then-reads-2 c =
    λ e. end_of_do _ _ _ e c.token-t.ensures.next c.token-t.ensures.within
    (said c.args.s.now c.args.at _ c.token-t.ensures "if" _ c.reads.ensures refl ∙ c.if-reads.false)
    (said c.args.s.now c.args.at _ c.token-t.ensures "do" _ c.reads-else-reads.ensures refl ∙ c.if-reads-2.true)

pub returns-else-reads-2 : goal.returns-else-reads-2
returns-else-reads-2 c =
    λ e. end_of_none _ _ e (said c.args.s.now c.args.at _ c.token-t.ensures "if" _ c.reads.ensures refl ∙ c.if-reads.false)
    (said c.args.s.now c.args.at _ c.token-t.ensures "do" _ c.reads-else-reads.ensures refl ∙ c.if-reads-2.false)
