-- Names in a clause, one after the other.
use mathlib.Core.Path.{◌≡◌, sym, ◌∙◌, ap, subst}
use mathlib.Core.Bool.{Bool, true, and-true}
use mathlib.Core.List.{List, [], ◌∷◌}
use Prim.Native.Nat.{ℕ, ◌<◌, max}
use Rattle.syntax.specs.Bytes.{bytes}
use Rattle.syntax.specs.Reader.{read_name, peek_in, skip_in}
use Rattle.std.specs.Prelude.{Option, None, Some}
use Rattle.syntax.specs.Ranks.{level}
use Rattle.lexer.specs.Places.{Any, passes, NotRead, ReadTo}
use Rattle.heading.specs.Lists.{order, Standing}
use Rattle.heading.specs.declared.Headed.{Headed}
use Rattle.heading.proofs.Turns.{list_not, list_last, list_more, onward}
use Rattle.claiming.specs.declared.Deed.{Deed}
use Rattle.claiming.specs.Claims.{Stand, fits, with_name, all_fit, Marked, Claiming, ClaimsOne}
use Rattle.clauses.specs.Directive.{ClaimAt, Claims}
use Rattle.clauses.proofs.Ranks.{both_ranks}
use Rattle.clauses.proofs.SomeMarked.{some_marked}

-- one and others
claiming_more : (d : Deed) (σ : Stand) (most : ℕ) (T₁ T₂ : List ℕ) (r₁ r₂ : ℕ) (y : List ℕ) (ys : List (List ℕ))
    → Claiming d σ most T₁ r₁ (y ∷ []) → Claiming d (with_name d σ y) r₁ T₂ r₂ ys → Claiming d σ most T₂ r₂ (y ∷ ys)
claiming_more d σ most T₁ T₂ r₁ r₂ y ys h k = record {
  rank_is =
      k.rank_is ∙ ap (λ (n : ℕ). max n (order (all_fit d (with_name d σ y) ys) true)) h.rank_is
      ∙ ap (λ (b : Bool). max (max most (order b true)) (order (all_fit d (with_name d σ y) ys) true)) (and-true (fits d σ y))
      ∙ both_ranks most (fits d σ y) true (all_fit d (with_name d σ y) ys) true;
  marked = k.marked;
}

pub claiming_at : (d : Deed) (σ : Stand) (most : ℕ) (T T' : List ℕ) (r : ℕ) (x w : List ℕ) → x ≡ w
    → ClaimsOne d T w most T' r → Marked T σ → Claiming d σ most T' r (x ∷ [])
claiming_at d σ most T T' r x w e h m = subst (λ (y : List ℕ). Claiming d σ most T' r (y ∷ [])) (sym e) (h σ m)

pub claims_not : (d : Deed) (T s : List ℕ) (b : Headed) (T₁ : List ℕ) → ClaimAt d T s b T₁ None → Claims d T s b T₁ None
claims_not d T s b T₁ h σ m f l = list_not (read_name peek_in skip_in) (h σ m) f

-- a name at a place, and then none or a comma and others
module _ (d : Deed) (T s : List ℕ) (b : Headed) (T₁ : List ℕ) (r₁ : Headed) (h : ClaimAt d T s b T₁ (Some r₁)) where
  pub claims_last : NotRead s r₁.next (passes (bytes ",")) → Claims d T s b T₁ (Some r₁)
  claims_last g σ m = list_last (read_name peek_in skip_in) (h σ m) g (λ _. (h σ m).holds)

  module _ {k : ℕ} (g : ReadTo Any s r₁.next (passes (bytes ",")) k) where
    pub claims_more : (T₂ : List ℕ) (o : Option Headed) → Claims d T₁ s (record { next = k; rank = r₁.rank }) T₂ o → Claims d T s b T₂ o
    claims_more T₂ o w σ m =
        let here = h σ m in
        list_more (read_name peek_in skip_in) here g (λ r. r.next)
        (λ r. Claiming d (with_name d σ here.what) (level r₁.rank) T₂ (level r.rank)) (λ r. Claiming d σ (level b.rank) T₂ (level r.rank)) o
        (w (with_name d σ here.what) here.holds.marked)
        (λ r₂ _ ys u q z. claiming_more d σ (level b.rank) T₁ T₂ (level r₁.rank) (level r₂.rank) here.what ys here.holds z)

    pub claims_onward : Standing T → b.next < k
    claims_onward st = let (σ, m) = some_marked T st in onward (read_name peek_in skip_in) (h σ m) g
