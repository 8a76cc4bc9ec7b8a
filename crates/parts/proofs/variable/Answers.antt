-- `parts::variable` meets its contract.
use mathlib.Core.Path.{sym, ◌∙◌}
use native.Mathlib.Omega.{arith}
use Rattle.parts.proofs.Leaves.{name_loads}
use Rattle.parts.proofs.variable.Goals as goal

pub returns : goal.returns
returns c =
    name_loads c.token-t.ensures (λ z. omega (arith, sym c.token-t.ensures.kinds ∙ c.requires.1)) _ _ _ _ _ _ _ _
    c.then_read.ensures c.named.ensures
