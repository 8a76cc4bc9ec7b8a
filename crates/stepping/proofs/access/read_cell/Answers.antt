-- `stepping::access::read_cell` meets its contract.
use mathlib.Core.Path.{◌≡◌, ◌∙◌}
use mir.Syntax.{w32}
use mir.Val.{to_z, of_z}
use borrow.Author.Rules.{rules}
use Rattle.stepping.proofs.access.read_cell.Goals as goal

pub note_read-requires : goal.note_read-requires
note_read-requires c = rw c.places_of-at.ensures.places (c.requires.0.ready, rw c.places_of-at.ensures.places at c.places_of-at.ensures.low)

pub returns : goal.returns
returns c =
    let e : to_z w32 (of_z w32 c.seen-x.result) ≡ c.seen-x.result = search rules in
    record {
      value = e ∙ rw c.places_of-at.ensures.places at c.seen-x.ensures;
      words = rw c.places_of-at.ensures.places at c.note_read.ensures;
    }
