-- `trial::carry` meets its contract.
use Rattle.stepping.specs.Step.{scene}
use Rattle.trial.proofs.RunningOut.{can_carry, carried, carried_ends}
use Rattle.trial.proofs.carry.Goals as goal

pub carry_on-r-requires : goal.carry_on-r-requires
carry_on-r-requires c =
    let a = c.args in
    let (g, p, q, (l, s, t)) = c.requires in
    can_carry a.code.now g l p a.role q s (scene a.cells.now a.w.now a.worker.now.pending a.worker.now.point) t

pub returns : goal.returns
returns c = λ g p q.
    let a = c.args in
    let (g₀, p₀, q₀, (l₀, s₀, t₀)) = c.requires in
    let r = c.carry_on-r.ensures.carries in
    record {
      turns = λ l s t. carried a.code.now g l p a.extent a.role q s _ _ r t;
      ends = carried_ends a.code.now g l₀ p a.extent a.role q _ _ r;
    }
