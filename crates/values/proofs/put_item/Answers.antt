-- `values::put_item` meets its contract.
use mathlib.Core.Path.{◌∙◌, ap}
use mathlib.Core.Bool.{Bool, true}
use Prim.Native.Nat.{max}
use native.Mathlib.Omega.{arith}
use Rattle.lexer.specs.Places.{lead_of}
use Rattle.int32.proofs.Laws.{landed}
use Rattle.heading.specs.Lists.{order}
use Rattle.syntax.specs.Ranks.{level}
use Rattle.values.proofs.DataLines.{item_some, put}
use Rattle.heading.proofs.Literals.{led_fits}
use Rattle.values.proofs.put_item.Goals as goal

pub returns-clause-finds : goal.returns-clause-finds
returns-clause-finds c =
    let a = c.args in
    let d = c.in_ok-d.d in
    let h = c.in_ok-d.ensures in
    let e = landed c.item_value.ensures (led_fits (lead_of d.sign) d.size (omega (arith, h.holds.size))) in
    let r = c.ranked-rank.ensures ∙ ap (λ (b : Bool). max (level a.before.rank) (order true b)) c.limited.ensures in
    item_some h (λ z. omega (arith, z)) (put a.cells.now a.before.values (level a.before.rank) _ (omega arith) d _ _ _ e c.place-values.ensures r)
