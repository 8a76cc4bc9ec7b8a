-- `parts::fits` meets its contract: by each test that the definition makes.
use mathlib.Core.Path.{refl, sym, ◌∙◌, ap}
use mathlib.Core.List.{List}
use Prim.Native.Nat.{ℕ}
use lib.Dec.{eqb}
use lib.ListN.{length}
use Rattle.parts.proofs.Names.{fits_by}
use Rattle.parts.proofs.fits.Goals as goal

pub returns-then-is_named : goal.returns-then-is_named
returns-then-is_named c = λ t d. fits_by t _ c.args.w.now c.args.subscripts (sym c.is_named.ensures ∙ c.if-is_named.true) refl refl refl

pub returns-in-Some : goal.returns-in-Some
returns-in-Some c =
    λ t d.
    let k = (c.in-Some.ensures.known t d).0 in
    fits_by t _ c.args.w.now c.args.subscripts (sym c.is_named.ensures ∙ c.if-is_named.false) k.known refl
    (ap (eqb c.args.subscripts) (ap (λ (ns : List ℕ). length ns) (sym k.extents) ∙ sym c.subscripts_of.ensures))

pub returns-in-None : goal.returns-in-None
returns-in-None c =
    λ t d. fits_by t _ c.args.w.now c.args.subscripts (sym c.is_named.ensures ∙ c.if-is_named.false) (c.in-None.ensures.known t d).known refl refl
