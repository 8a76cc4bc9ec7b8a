-- `values::place` meets its contract.
use mathlib.Core.Path.{◌≡◌, ◌∙◌, ap}
use borrow.Author.Rules.{rules}
use mir.Syntax.{w32}
use mir.Val.{to_z, of_z}
use lib.IntN.{ℤ}
use lib.ListN.{replicate}
use lib.Seq.{sets}
use native.Mathlib.Omega.{arith}
use Rattle.values.proofs.DataLines.{part_filled}
use Rattle.values.proofs.place.Goals as goal
use Rattle.values.proofs.place.Goals.{then-end-cells, else-end-cells}

pub returns : goal.returns
returns c =
    let a = c.args in
    let x = to_z w32 (of_z w32 a.x) in
    let e : x ≡ a.x = search rules in
    let m = c.if-end-cells.auto.cells in elim c.if-end-cells.branch [
      | then-end-cells w ↦ record {
        many = omega (arith, c.min.ensures, m);
        cells = λ b.
            w.cells-is ∙ part_filled a.cells.now a.values a.copies b _ x (w.fill.ensures.after (λ y e. e))
            ∙ ap (λ (z : ℤ). sets a.cells.now a.values (replicate a.copies z)) e;
        long = m;
      }
      | else-end-cells w ↦ record { many = omega (arith, c.min.ensures, m); cells = λ b. absurd (omega arith); long = m }
    ]
