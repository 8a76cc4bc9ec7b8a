-- `view::show` meets its contract: the cells passed are shown.
use borrow.Author.Rules.{rules}
use mathlib.Core.Path.{◌≡◌, refl}
use native.Mathlib.Numerals.{add-one}
use native.Mathlib.Omega.{arith}
use mir.Syntax.{w32}
use mir.Val.{to_z, of_z}
use lib.IntN.{pos}
use lib.ListN.{length, get_or, length-set}
use Rattle.int32.specs.Integers.{word}
use Rattle.rules.specs.Cells.{cell_of}
use Rattle.tables.specs.Layout.{row_at}
use Rattle.findings.specs.Findings.{marks_of}
use Rattle.view.proofs.Viewing.{showing_more, standing_shown}
use Rattle.trial.proofs.StandingLaws.{suits_low, standing_size, standing_room}
use Rattle.view.proofs.show.Goals as goal

pub loop-c-init : goal.loop-c-init
loop-c-init c = (refl, λ j b. absurd (omega (arith, b)))

pub row_of-row-requires : goal.row_of-row-requires
row_of-row-requires c =
    let a = c.args in
    let (l, δ, s, h) = c.requires.0 in
    suits_low h.suits (standing_size a.processors l δ a.cells.now a.w.now s h) c.loop-c.c c.loop-c-test.true

pub marks_of-requires : goal.marks_of-requires
marks_of-requires c =
    let a = c.args in
    let (l, δ, s, h) = c.requires.0 in
    omega (
      arith,
      c.row_of-row.ensures,
      standing_room a.processors l δ a.cells.now a.w.now s h c.loop-c.c
          c.loop-c-test.true,
    )

pub bounds-view-c-in-loop-c : goal.bounds-view-c-in-loop-c
bounds-view-c-in-loop-c c =
    simp length-set (omega (arith, c.requires.1, c.loop-c.invariant.0, c.loop-c-test.true))

pub loop-c-preserved : goal.loop-c-preserved
unfolding cell_of
loop-c-preserved c =
    let a = c.args in
    let u = c.loop-c in
    let e : to_z w32 (of_z w32 (get_or a.cells.now u.c (pos 0))) ≡ get_or a.cells.now u.c (pos 0) = search rules in (
      simp length-set u.invariant.0,
      rw (add-one, c.to_word.ensures, e, c.marks_of.ensures, c.row_of-row.ensures)
          (showing_more u.view u.c (λ j. word (cell_of a.cells.now j)) (λ j. marks_of a.w.now (row_at a.processors j))
          (omega (arith, c.requires.1, u.invariant.0)) u.invariant.1),
    )

pub returns : goal.returns
returns c =
    let a = c.args in
    let u = c.loop-c in
    let e : u.c ≡ length a.cells.now = omega (arith, c.loop-c-test.false) in
    λ l δ s h. standing_shown a.processors l δ a.cells.now a.w.now s h u.view (omega (arith, c.requires.1, u.invariant.0)) (rw e at u.invariant.1)
