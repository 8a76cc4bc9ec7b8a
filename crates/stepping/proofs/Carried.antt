-- A run of steps that has come to where it is to go.
use mathlib.Core.Path.{◌≡◌, refl, sym, ◌∙◌, ap}
use mathlib.Core.Logic.{inl, inr}
use mathlib.Core.Bool.{true, false}
use mathlib.Core.List.{List}
use Prim.Native.Nat.{ℕ}
use native.Mathlib.Omega.{arith}
use Rattle.stepping.specs.declared.Extent.{Extent}
use Rattle.stepping.specs.declared.Extent.TheVariants.{Once, ToTheEnd}
use Rattle.stepping.specs.declared.Role.{Role}
use Rattle.operands.specs.declared.Move.{Move}
use Rattle.stepping.specs.Step.{Scene, Goes, Went}
use Rattle.stepping.specs.Carrying.{is_open, Reached, Carries, Does}

pub never : {k : Extent} → k ≡ Once → k ≡ ToTheEnd → ⊥
never p q = let z : ◌≡◌ {A = ℕ} 0 1 = cc in omega arith

module _ (x : Role) (code : List ℕ) (z y : Scene) where
  -- one step
  pub carried_once : (k : Extent) → k ≡ Once → z ≡ y → is_open x y ≡ true → (u : Scene) → Goes x code y u → Carries k x code z u
  unfolding Carries
  carried_once k q e o u g = rw (q, e) (inl (o, g))

  -- no step, or no more
  pub carried_over : (k : Extent) → (k ≡ Once → z ≡ y) → Reached x code z y → is_open x y ≡ false → Carries k x code z y
  unfolding Carries
  carried_over Once e r o = inr (ap (is_open x) (e refl) ∙ o, e refl)
  carried_over ToTheEnd e r o = (r, o)

-- the move of the one step
pub does_once : (x : Role) (code : List ℕ) (z y u : Scene) (m : Move) (k : Extent) → k ≡ Once → z ≡ y → Went x code y u m → Does k x code z u m
unfolding Does
does_once x code z y u m k q e w = rw (q, e) (λ o. w)

-- of none there is nothing to say
pub does_over : (x : Role) (code : List ℕ) (z y : Scene) (m : Move) (k : Extent) → (k ≡ Once → z ≡ y) → is_open x y ≡ false → Does k x code z y m
unfolding Does
does_over x code z y m Once e o = λ t. let q : true ≡ false = sym t ∙ ap (is_open x) (e refl) ∙ o in let n : ◌≡◌ {A = ℕ} 0 1 = cc in absurd (omega arith)
does_over x code z y m ToTheEnd e o = tt
