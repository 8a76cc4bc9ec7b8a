-- `trial::enter` meets its contract: the rows of the cells passed have begun.
use borrow.Author.Rules.{rules}
use mathlib.Core.Path.{◌≡◌}
use native.Mathlib.Numerals.{add-one}
use native.Mathlib.Omega.{arith}
use mir.Syntax.{w32}
use mir.Val.{to_z, of_z}
use lib.IntN.{pos}
use lib.ListN.{length, get_or}
use Rattle.rules.specs.Cells.{cell_of}
use Rattle.tables.proofs.Held.{row_small}
use Rattle.trial.proofs.StandingLaws.{suits_low}
use Rattle.trial.proofs.Starting.{entry_size, entry_class, entry_room, entry_clear, entry_more, entry_all}
use Rattle.trial.proofs.enter.Goals as goal

pub loop-c-init : goal.loop-c-init
loop-c-init c =
    let a = c.args in
    let n : length c.clear.new.w ≡ length a.w.now = search rules in
    λ l δ h. rw c.clear.ensures (entry_clear a.processors l δ a.cells.now a.classes.now (length a.w.now) (rw n at h))

pub row_of-row-requires : goal.row_of-row-requires
row_of-row-requires c =
    let (l, δ, h) = c.requires in
    suits_low h.suits (entry_size _ l δ _ _ _ h) c.loop-c.c c.loop-c-test.true

pub bounds-classes-c : goal.bounds-classes-c
bounds-classes-c c =
    let (l, δ, h) = c.requires in
    entry_class _ l δ _ _ _ h c.loop-c.c c.loop-c-test.true

pub begin_row-requires : goal.begin_row-requires
begin_row-requires c =
    let a = c.args in
    let (l, δ, h) = c.requires in
    let i = c.loop-c.c in
    let lt = c.loop-c-test.true in
    let low = suits_low h.suits (entry_size _ l δ _ _ _ h) i lt in
    let n : length c.loop-c.w ≡ length a.w.now = search rules in (
      omega (arith, c.row_of-row.ensures, row_small a.processors i low.0 low.1),
      omega (arith, c.row_of-row.ensures, entry_room _ l δ _ _ _ h i lt),
    )

pub loop-c-preserved : goal.loop-c-preserved
unfolding cell_of
loop-c-preserved c =
    let a = c.args in
    let u = c.loop-c in
    let e : to_z w32 (of_z w32 (get_or a.cells.now u.c (pos 0))) ≡ get_or a.cells.now u.c (pos 0) = search rules in
    λ l δ h. rw (add-one, c.begin_row.ensures, c.row_of-row.ensures, e)
    (entry_more a.processors l δ a.cells.now a.classes.now _ h u.c u.w c.loop-c-test.true (search rules) (u.invariant l δ h))

pub returns : goal.returns
returns c =
    let a = c.args in
    let u = c.loop-c in
    let n : length c.clear.new.w ≡ length a.w.now = search rules in
    λ l δ h. entry_all _ l δ _ _ _ h u.c u.w (omega (arith, c.loop-c-test.false)) (u.invariant l δ (rw n h))
