-- `values::items` meets its contract: an item, and then none or a comma and others.
use native.Mathlib.Omega.{arith}
use Rattle.values.specs.Data.{read_counted}
use Rattle.heading.proofs.Turns.{onward}
use Rattle.values.proofs.DataLines.{items_last, items_more}
use Rattle.values.proofs.+items.Goals as goal

pub items-requires : goal.items-requires
items-requires t c =
    let d = c.in_ok-d.ensures in (
      omega (arith, c.decreases, onward read_counted d.finds c.in-Some.ensures, c.in-Some.ensures.within),
      (c.in-Some.ensures.within, omega (arith, d.cells_len_unchanged, c.requires), omega (arith, d.few_values, d.cells_len_unchanged)),
    )

pub returns-in-Some-clause-items : goal.returns-in-Some-clause-items
returns-in-Some-clause-items t c =
    items_more _ _ _ _ c.in_ok-d.ensures.cells_len_unchanged _ c.in_ok-d.ensures.finds c.in-Some.ensures _ _ c.items.ensures.items

pub returns-in-None-clause-items : goal.returns-in-None-clause-items
returns-in-None-clause-items t c =
    let d = c.in_ok-d.ensures in
    items_last _ _ _ _ d.cells_len_unchanged _ d.finds c.in-None.ensures (omega (arith, d.few_values, d.cells_len_unchanged))
