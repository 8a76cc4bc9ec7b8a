-- `outcome::merge` meets its contract: the cells passed are merged.
use borrow.Author.Rules.{rules}
use mathlib.Core.Path.{◌≡◌, ◌∙◌, ap}
use Prim.Native.Nat.{ℕ}
use native.Mathlib.Numerals.{add-one}
use native.Mathlib.Omega.{arith}
use mir.Syntax.{w32}
use mir.Val.{to_z, of_z}
use lib.IntN.{pos}
use lib.ListN.{get_or}
use Rattle.rules.specs.Cells.{cell_of, listed}
use Rattle.rules.specs.Merge.{merged}
use Rattle.tables.specs.Layout.{row_at}
use Rattle.trial.proofs.StandingLaws.{suits_low, standing_size, standing_room}
use Rattle.outcome.proofs.ReadingOff.{set_none, set_more, set_all, standing_merged}
use Rattle.tables.proofs.Held.{row_small}
use Rattle.findings.specs.Findings as findings
use Rattle.outcome.proofs.merge.Goals as goal

pub loop-c-init : goal.loop-c-init
loop-c-init c =
    let a = c.args in
    set_none (λ j. findings.merged a.w.now (row_at a.processors j) a.processors (cell_of a.cells.now j)) a.cells.now

pub row_of-row-requires : goal.row_of-row-requires
row_of-row-requires c =
    let a = c.args in
    let (l, δ, s, h) = c.requires in
    suits_low h.suits (standing_size a.processors l δ a.cells.now a.w.now s h) c.loop-c.c
    c.loop-c-test.true

pub merged_value-requires : goal.merged_value-requires
merged_value-requires c =
    let a = c.args in
    let (l, δ, s, h) = c.requires in
    let y = suits_low h.suits (standing_size a.processors l δ a.cells.now a.w.now s h) c.loop-c.c
    c.loop-c-test.true in
    omega (
      arith,
      c.row_of-row.ensures,
      row_small a.processors c.loop-c.c y.0 y.1,
      standing_room a.processors l δ a.cells.now a.w.now s h c.loop-c.c
          c.loop-c-test.true,
    )

pub loop-c-preserved : goal.loop-c-preserved
unfolding cell_of
loop-c-preserved c =
    let a = c.args in
    let u = c.loop-c in
    let e : to_z w32 (of_z w32 (get_or u.cells u.c (pos 0))) ≡ get_or u.cells u.c (pos 0) = search rules in
    let f : to_z w32 (of_z w32 c.merged_value.result) ≡ c.merged_value.result = search rules in
    let r : c.merged_value.result ≡ findings.merged a.w.now (row_at a.processors u.c) a.processors (cell_of a.cells.now u.c) =
    c.merged_value.ensures
    ∙ rw (e, c.row_of-row.ensures)
    (ap (findings.merged a.w.now (row_at a.processors u.c) a.processors) (u.invariant.rest u.c (omega arith))) in
    rw (add-one, f, r)
    (set_more (λ j. findings.merged a.w.now (row_at a.processors j) a.processors (cell_of a.cells.now j)) a.cells.now u.c
    u.cells u.invariant (omega (arith, u.invariant.size)))

pub returns : goal.returns
returns c =
    let a = c.args in
    let u = c.loop-c in
    λ l δ s h.
    set_all (λ j. findings.merged a.w.now (row_at a.processors j) a.processors (cell_of a.cells.now j)) a.cells.now u.c u.cells
    u.invariant (omega (arith, u.invariant.size, c.loop-c-test.false)) (merged l δ s)
    (λ j b. standing_merged a.processors l δ a.cells.now a.w.now s h j b)
    ∙ ap (λ (n : ℕ). listed n (merged l δ s)) (standing_size a.processors l δ a.cells.now a.w.now s h)
