-- What a group reads that has the cell for itself is what the tables show.
use mathlib.Core.Path.{◌≡◌, sym, ◌∙◌, ap}
use mathlib.Core.List.{List}
use mathlib.Core.Option.{Option, get_or}
use Prim.Native.Nat.{ℕ, suc, ◌<◌}
use native.Mathlib.Numerals.{add-one}
use native.Mathlib.Decide.{ℕ_discrete}
use lib.IntN.{ℤ}
use Rattle.int32.specs.Integers.{value}
use Rattle.rules.specs.ChooseLaws.{pick_same, pick_other}
use Rattle.rules.specs.declared.Class.{Class}
use Rattle.shadow.specs.Tables.{Row, own_value}
use Rattle.tables.specs.Layout.{own_at, RowHeld}
use Rattle.noting.specs.Changes.{own_seen}

pub own_value_held : (p : ℕ) (k : Class) (e : ℤ) (W : List ℕ) (row : ℕ) (r : Row) → RowHeld p k e W row r → (q g : ℕ) → q < p
    → own_seen W row (own_at row q) g ≡ get_or (own_value g (r.own q)) e
own_value_held p k e W row r x q g b =
    let o = x.own q b in
    rw (add-one g, o.wrote) (elim (ℕ_discrete (r.own q).wrote (suc g)) [
      | yes y ↦ ap value (pick_same y _ _) ∙ o.value ∙ ap (λ (u : Option ℤ). get_or u e) (sym (pick_same y _ _))
      | no y ↦ ap value (pick_other y _ _) ∙ x.entry ∙ ap (λ (u : Option ℤ). get_or u e) (sym (pick_other y _ _))
    ])
