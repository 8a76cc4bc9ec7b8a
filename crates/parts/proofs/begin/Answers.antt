-- `parts::begin` meets its contract: the tests are those of the definition, in its order.
use mathlib.Core.Path.{refl, sym, ◌∙◌}
use borrow.Author.Tests.{eqb-true, eqb-false, not-true, not-false}
use Rattle.syntax.specs.Bytes.{bytes}
use Rattle.lexer.proofs.Said.{says_said}
use Rattle.parts.proofs.KindNumbers.{digits_number, name_number}
use Rattle.parts.proofs.Signs.{sign_seen, begins_literal, begins_bracket, begins_rdiv, begins_max, begins_element, begins_name, begins_none}
use Rattle.parts.proofs.begin.Goals as goal

pub returns-then-eq : goal.returns-then-eq
returns-then-eq c = begins_literal c.token-t.ensures (eqb-true _ 3 (sym (digits_number _) ∙ sym c.eq.ensures ∙ c.if-eq.true))

pub returns-then-reads : goal.returns-then-reads
returns-then-reads c =
    let l = c.token-t.ensures in
    let d = eqb-false _ 3 (sym (digits_number _) ∙ sym c.eq.ensures ∙ c.if-eq.false) in
    begins_bracket l d (sign_seen l 40 refl c.reads.ensures c.if-reads.true)

pub returns-then-reads-2 : goal.returns-then-reads-2
returns-then-reads-2 c =
    let l = c.token-t.ensures in
    let d = eqb-false _ 3 (sym (digits_number _) ∙ sym c.eq.ensures ∙ c.if-eq.false) in
    let o = sign_seen l 40 refl c.reads.ensures c.if-reads.false in
    let u = c.token-u.ensures in
    let p = sign_seen u 40 refl c.reads-open.ensures refl in
    let r = says_said l (bytes "rdiv") refl ∙ sym c.reads-2.ensures ∙ c.if-reads-2.true in
    begins_rdiv l d o u p r c.called.ensures

pub returns-then-reads-3 : goal.returns-then-reads-3
returns-then-reads-3 c =
    let l = c.token-t.ensures in
    let d = eqb-false _ 3 (sym (digits_number _) ∙ sym c.eq.ensures ∙ c.if-eq.false) in
    let o = sign_seen l 40 refl c.reads.ensures c.if-reads.false in
    let u = c.token-u.ensures in
    let p = sign_seen u 40 refl c.reads-open.ensures refl in
    let r = says_said l (bytes "rdiv") refl ∙ sym c.reads-2.ensures ∙ c.if-reads-2.false in
    let m = says_said l (bytes "max") refl ∙ sym c.reads-3.ensures ∙ c.if-reads-3.true in
    begins_max l d o u p r m c.called-then-reads-3.ensures

pub returns-then-ne : goal.returns-then-ne
returns-then-ne c =
    let l = c.token-t.ensures in
    let d = eqb-false _ 3 (sym (digits_number _) ∙ sym c.eq.ensures ∙ c.if-eq.false) in
    let o = sign_seen l 40 refl c.reads.ensures c.if-reads.false in
    let u = c.token-u.ensures in
    let p = sign_seen u 40 refl c.reads-open.ensures refl in
    let r = says_said l (bytes "rdiv") refl ∙ sym c.reads-2.ensures ∙ c.if-reads-2.false in
    let m = says_said l (bytes "max") refl ∙ sym c.reads-3.ensures ∙ c.if-reads-3.false in
    begins_none l d o u p r m (eqb-false _ 1 (sym (name_number _) ∙ not-true _ (sym c.ne.ensures ∙ c.if-ne.true)))

pub returns-then-open : goal.returns-then-open
returns-then-open c =
    let l = c.token-t.ensures in
    let d = eqb-false _ 3 (sym (digits_number _) ∙ sym c.eq.ensures ∙ c.if-eq.false) in
    let o = sign_seen l 40 refl c.reads.ensures c.if-reads.false in
    let u = c.token-u.ensures in
    let p = sign_seen u 40 refl c.reads-open.ensures refl in
    let r = says_said l (bytes "rdiv") refl ∙ sym c.reads-2.ensures ∙ c.if-reads-2.false in
    let m = says_said l (bytes "max") refl ∙ sym c.reads-3.ensures ∙ c.if-reads-3.false in
    begins_element l d o u p r m (eqb-true _ 1 (sym (name_number _) ∙ not-false _ (sym c.ne.ensures ∙ c.if-ne.false))) c.if-open.true

pub returns-else-open : goal.returns-else-open
returns-else-open c =
    let l = c.token-t.ensures in
    let d = eqb-false _ 3 (sym (digits_number _) ∙ sym c.eq.ensures ∙ c.if-eq.false) in
    let o = sign_seen l 40 refl c.reads.ensures c.if-reads.false in
    let u = c.token-u.ensures in
    let p = sign_seen u 40 refl c.reads-open.ensures refl in
    let r = says_said l (bytes "rdiv") refl ∙ sym c.reads-2.ensures ∙ c.if-reads-2.false in
    let m = says_said l (bytes "max") refl ∙ sym c.reads-3.ensures ∙ c.if-reads-3.false in
    begins_name l d o u p r m (eqb-true _ 1 (sym (name_number _) ∙ not-false _ (sym c.ne.ensures ∙ c.if-ne.false))) c.if-open.false
