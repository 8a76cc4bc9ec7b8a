-- `parts::constant` meets its contract.
use mathlib.Core.Path.{sym, ◌∙◌, ap}
use native.Mathlib.Omega.{arith}
use Prim.Native.Nat.{max}
use Rattle.syntax.specs.Ranks.{level}
use Rattle.parts.proofs.Leaves.{literal_pushes}
use Rattle.parts.proofs.constant.Goals as goal

pub returns : goal.returns
returns c =
    literal_pushes c.token-t.ensures (λ z. omega (arith, sym c.token-t.ensures.kinds ∙ c.requires.1)) _ _ _ _ _ _ _ c.literal-n.ensures
    (c.worse.ensures ∙ ap (max (level c.args.from.rank)) c.literal_rank.ensures) c.then_emit.ensures
