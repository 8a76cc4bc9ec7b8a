-- `bounds::do_line` meets its contract.
use mathlib.Core.Path.{◌≡◌, sym, ◌∙◌, ap}
use mathlib.Core.Bool.{Bool, ◌&&◌}
use Prim.Native.Nat.{max}
use native.Mathlib.Omega.{arith}
use lib.Dec.{leb}
use Rattle.int32.proofs.Laws.{landed}
use Rattle.lexer.specs.Places.{lead_of}
use Rattle.lexer.proofs.InTurn.{to_saying}
use Rattle.heading.specs.Lists.{order}
use Rattle.heading.proofs.Literals.{led_fits}
use Rattle.bounds.proofs.DoLines.{looping, turned}
use Rattle.bounds.proofs.do_line.Goals as goal
use Rattle.bounds.proofs.do_line.Goals.{then-limited, else-limited}

pub returns : goal.returns
returns c = λ t tab.
    let b = c.in_ok-b.b in
    let h = c.in_ok-b.ensures in
    let count = c.saturating_sub-count in
    let few = leb count.result 65535 in
    let o = landed c.item_value.ensures (led_fits (lead_of b.lead) b.first (omega (arith, h.holds.size))) in
    let small : c.if-limited.small ≡ c.limited.result && few = elim c.if-limited.branch [
      | then-limited w ↦ w.small-is ∙ sym (ap (λ (x : Bool). x && few) w.if-limited.true)
      | else-limited w ↦ w.small-is ∙ w.if-limited.false ∙ sym (ap (λ (x : Bool). x && few) w.if-limited.false)
    ] in
    let rank = c.ranked.ensures ∙ (λ i. max 0 (order (turned _ _ c.is_none-named.ensures i) (small i))) in
    to_saying h (λ e p. looping t _ _ _ tab b e p c.find.result (c.find.ensures.known t tab) _ _ c.raised-first.ensures c.raised-last.ensures _
    count.ensures _ c.limited.ensures _ rank _ o c.put_name.ensures _)
