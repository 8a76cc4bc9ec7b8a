-- `stepping::access::update_cell` meets its contract.
use mathlib.Core.Path.{◌≡◌}
use native.Mathlib.Omega.{arith}
use mir.Syntax.{w32}
use mir.Val.{to_z, of_z}
use borrow.Author.Rules.{rules}
use Rattle.stepping.proofs.access.update_cell.Goals as goal

pub note_update-requires : goal.note_update-requires
note_update-requires c = rw c.places_of-at.ensures.places (c.requires.0.ready, omega arith)

pub returns : goal.returns
returns c =
    let e : to_z w32 (of_z w32 c.args.value) ≡ c.args.value = search rules in
    record {
      cells = rw (e, c.places_of-at.ensures.places) at c.join_in.ensures;
      words = rw (e, c.places_of-at.ensures.places) at c.note_update.ensures;
    }
