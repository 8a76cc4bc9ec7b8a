-- `stepping::go_on` meets its contract.
use mathlib.Core.Path.{◌≡◌, refl, ◌∙◌, ap}
use lib.IntN.{ℤ, pos, ◌+ℤ◌}
use mir.Syntax.{w32}
use mir.Val.{to_z, of_z}
use Rattle.stepping.specs.Step.{scene, variable}
use borrow.Author.Rules.{rules}
use Rattle.stepping.proofs.go_on.Goals as goal

pub make-requires : goal.make-requires
make-requires c =
    let e : to_z w32 (of_z w32 c.args.role.from)
    ≡ c.args.role.from = search rules in
    let a = c.args in
    let z = scene a.cells.now a.w.now a.pending.now a.t in
    let x = c.value_at-v in
    let f : to_z w32 (of_z w32 x.result) ≡ x.result = search rules in
    let v : to_z w32 (of_z w32 x.result) ≡ variable a.role z = f ∙ x.ensures ∙ ap (λ (y : ℤ). y +ℤ pos a.t.iteration.0) e in
    let h = rw v at c.advance-r.ensures in
    record { low = c.requires.low; can = c.requires.reach _ _ h; size = h.size; room = h.room }

pub returns : goal.returns
returns c =
    let e : to_z w32 (of_z w32 c.args.role.from)
    ≡ c.args.role.from = search rules in
    let a = c.args in
    let z = scene a.cells.now a.w.now a.pending.now a.t in
    let x = c.value_at-v in
    let f : to_z w32 (of_z w32 x.result) ≡ x.result = search rules in
    let v : to_z w32 (of_z w32 x.result) ≡ variable a.role z = f ∙ x.ensures ∙ ap (λ (y : ℤ). y +ℤ pos a.t.iteration.0) e in
    let h = rw v at c.advance-r.ensures in
    record { goes = record { pending = _; reached = c.advance-r.result; comes = h; makes = c.make.ensures }; by = refl }
