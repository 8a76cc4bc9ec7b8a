-- `stepping::access::write_cell` meets its contract.
use mathlib.Core.Path.{◌≡◌}
use native.Mathlib.Omega.{arith}
use mir.Syntax.{w32}
use mir.Val.{to_z, of_z}
use borrow.Author.Rules.{rules}
use Rattle.stepping.proofs.access.write_cell.Goals as goal

pub note_write-requires : goal.note_write-requires
note_write-requires c = rw c.places_of-at.ensures.places (c.requires.0.ready, rw c.places_of-at.ensures.places at c.places_of-at.ensures.low, omega arith)

pub returns : goal.returns
returns c =
    let e : to_z w32 (of_z w32 c.args.value) ≡ c.args.value = search rules in
    record {
      cells = rw (e, c.is_shared-shared.ensures, c.places_of-at.ensures.places) at c.store.ensures;
      words = rw (e, c.places_of-at.ensures.places) at c.note_write.ensures;
    }
