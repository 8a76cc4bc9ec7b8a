-- `declarations::later` meets its contract: none follows, or the first that follows has the name, or one after it.
use mathlib.Core.Path.{sym, ◌∙◌}
use native.Mathlib.Omega.{arith}
use Rattle.syntax.specs.Bytes.{bytes}
use Rattle.lexer.proofs.Laws.{same_is}
use Rattle.lexer.proofs.InTurn.{stands_onward}
use Rattle.declarations.proofs.IntegerLines.{later_none, later_broken, later_here, later_on}
use Rattle.declarations.proofs.+later.Goals as goal

pub returns-in_default : goal.returns-in_default
returns-in_default t c = later_none _ _ _ c.requires c.in_default.ensures

pub later-requires : goal.later-requires
later-requires t c =
    let d = c.in-Some-declared.ensures in
    (omega (arith, c.decreases, stands_onward (bytes ",") c.in-Some.ensures (omega arith), d.from, d.within), d.within)

pub returns-then-eq : goal.returns-then-eq
returns-then-eq t c = rw c.if-eq.true
    (later_here c.args.s.now _ c.args.w.now c.in-Some.ensures _ c.in-Some-declared.ensures (sym (same_is c.args.w.now _) ∙ sym c.eq.ensures ∙ c.if-eq.true))

pub returns-else-eq : goal.returns-else-eq
returns-else-eq t c =
    later_on c.args.s.now _ c.args.w.now c.in-Some.ensures _ c.in-Some-declared.ensures (sym (same_is c.args.w.now _) ∙ sym c.eq.ensures ∙ c.if-eq.false) _
    c.later.ensures

pub returns-in-None : goal.returns-in-None
returns-in-None t c = later_broken _ _ _ c.in-Some.ensures c.in-None.ensures
