-- `outcome::is_obstructed` meets its contract: none of the cells passed has an obstacle.
use mathlib.Core.Path.{◌≡◌, refl, sym, ◌∙◌}
use mathlib.Core.Bool.{true, false}
use Prim.Native.Nat.{ℕ}
use native.Mathlib.Omega.{arith}
use borrow.Author.Count.{below_more}
use Rattle.trial.proofs.StandingLaws.{suits_low, standing_size, standing_room}
use Rattle.outcome.proofs.ReadingOff.{blocked_at, standing_obstructed, standing_free}
use Rattle.outcome.proofs.is_obstructed.Goals as goal

pub row_of-requires : goal.row_of-requires
row_of-requires c =
    let a = c.args in
    let (l, δ, s, h) = c.requires in
    suits_low h.suits (standing_size a.processors l δ a.cells.now a.w.now s h) c.loop-c.c c.loop-c-test.true

pub is_blocked-requires : goal.is_blocked-requires
is_blocked-requires c =
    let a = c.args in
    let (l, δ, s, h) = c.requires in
    omega (
      arith,
      c.row_of.ensures,
      standing_room a.processors l δ a.cells.now a.w.now s h c.loop-c.c c.loop-c-test.true,
    )

pub returns-then-is_blocked : goal.returns-then-is_blocked
returns-then-is_blocked c =
    let a = c.args in
    let u = c.loop-c in
    let e : blocked_at a.w.now a.processors u.c ≡ true = rw c.row_of.ensures at
    (sym c.is_blocked.ensures ∙ c.if-is_blocked.true) in
    λ l δ s h. (λ _. refl, λ _. standing_obstructed a.processors l δ a.cells.now a.w.now s h u.c c.loop-c-test.true e)

pub loop-c-preserved : goal.loop-c-preserved
loop-c-preserved c =
    let a = c.args in
    let u = c.loop-c in
    let e : blocked_at a.w.now a.processors u.c ≡ false = rw c.row_of.ensures at
    (sym c.is_blocked.ensures ∙ c.if-is_blocked.false) in
    below_more _ _ u.invariant e

pub returns : goal.returns
returns c =
    let a = c.args in
    let u = c.loop-c in
    λ l δ s h. (
      λ o. absurd (standing_free a.processors l δ a.cells.now a.w.now s h (λ j b. u.invariant j (omega (arith, b, c.loop-c-test.false))) o),
      λ (e : false ≡ true). let z : ◌≡◌ {A = ℕ} 0 1 = cc in absurd (omega arith),
    )
