-- `outcome::restore` meets its contract: the cells passed are as at entry.
use borrow.Author.Rules.{rules}
use mathlib.Core.Path.{◌≡◌, ◌∙◌, ap}
use Prim.Native.Nat.{ℕ}
use native.Mathlib.Numerals.{add-one}
use native.Mathlib.Omega.{arith}
use mir.Syntax.{w32}
use mir.Val.{to_z, of_z}
use lib.ListN.{get_or}
use Rattle.int32.specs.Integers.{value}
use Rattle.rules.specs.Cells.{listed}
use Rattle.tables.specs.Layout.{row_at}
use Rattle.trial.proofs.StandingLaws.{suits_low}
use Rattle.outcome.proofs.ReadingOff.{set_none, set_more, set_all, kept_room, kept_entry}
use Rattle.outcome.proofs.restore.Goals as goal

pub loop-c-init : goal.loop-c-init
loop-c-init c =
    let a = c.args in
    set_none (λ j. value (get_or a.w.now (row_at a.processors j) 0)) a.cells.now

pub row_of-requires : goal.row_of-requires
row_of-requires c =
    let a = c.args in
    let (l, δ, h) = c.requires in
    suits_low h.suits h.size c.loop-c.c c.loop-c-test.true

pub entry_value-requires : goal.entry_value-requires
entry_value-requires c =
    let a = c.args in
    let (l, δ, h) = c.requires in
    omega (
      arith,
      c.row_of.ensures,
      kept_room a.processors l δ a.cells.now a.w.now h c.loop-c.c
          c.loop-c-test.true,
    )

pub loop-c-preserved : goal.loop-c-preserved
loop-c-preserved c =
    let a = c.args in
    let u = c.loop-c in
    let f : to_z w32 (of_z w32 c.entry_value.result) ≡ c.entry_value.result = search rules in
    rw (add-one, f, c.entry_value.ensures, c.row_of.ensures)
    (set_more (λ j. value (get_or a.w.now (row_at a.processors j) 0)) a.cells.now u.c u.cells u.invariant
    (omega (arith, u.invariant.size)))

pub returns : goal.returns
returns c =
    let a = c.args in
    let u = c.loop-c in
    λ l δ h.
    set_all (λ j. value (get_or a.w.now (row_at a.processors j) 0)) a.cells.now u.c u.cells u.invariant
    (omega (arith, u.invariant.size, c.loop-c-test.false)) l.entry
    (λ j b. kept_entry a.processors l δ a.cells.now a.w.now h j b)
    ∙ ap (λ (n : ℕ). listed n l.entry) h.size
