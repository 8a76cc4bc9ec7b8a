-- Whether a processor is neither stopped nor finished.
use mathlib.Core.Path.{◌≡◌, refl}
use mathlib.Core.Logic.{◌⊎◌, inl, inr}
use mathlib.Core.Bool.{Bool, true, false, ◌&&◌}
use Prim.Native.Nat.{ℕ, ◌≤◌, ◌<◌}
use native.Mathlib.Omega.{arith}
use lib.Dec.{ltb}
use borrow.Author.Tests.{ltb-true, ltb-false}
use Rattle.std.specs.declared.option.Option.{Option}
use Rattle.std.specs.declared.option.Option.TheVariants.{None, Some}
use Rattle.std.specs.Prelude.{is_none, IsSome}
use Rattle.stepping.specs.declared.Fault.{Fault}
use Rattle.stepping.specs.declared.Point.{Point}
use Rattle.stepping.specs.Step.{by_fault}
use Rattle.stepping.specs.Carrying.{opened}

opened_cases : (a b : Bool) → (a && b ≡ true → (a ≡ true) × (b ≡ true)) × (a && b ≡ false → (a ≡ false) ⊎ (b ≡ false))
opened_cases true b = (λ e. (refl, e), λ e. inr e)
opened_cases false b = (λ (e : false ≡ true). let z : ◌≡◌ {A = ℕ} 0 1 = cc in absurd (omega arith), λ e. inl refl)

none_is : (o : Option Fault) → is_none o ≡ true → o ≡ None
none_is None h = refl
none_is (Some f) h = let z : ◌≡◌ {A = ℕ} 0 1 = cc h in absurd (omega arith)

some_is : (o : Option Fault) → is_none o ≡ false → IsSome o
some_is None h = let z : ◌≡◌ {A = ℕ} 0 1 = cc h in absurd (omega arith)
some_is (Some f) h = refl

-- what stopped it, if it is not unstopped
pub stop_of : (o : Option Fault) → IsSome o → (f : Fault) × (o ≡ Some f)
stop_of None h = let z : ◌≡◌ {A = ℕ} 0 1 = cc h in absurd (omega arith)
stop_of (Some f) h = (f, refl)

pub none_stops : (o : Option Fault) → o ≡ None → IsSome o → ⊥
none_stops o e h = let q : false ≡ true = rw e at h in let z : ◌≡◌ {A = ℕ} 0 1 = cc in omega arith

pub not_both : (o : Option Fault) (f : Fault) → o ≡ None → o ≡ Some f → ⊥
not_both o f e q = none_stops o e (rw q refl)

pub by_none : {A : Type 0} {o : Option Fault} → o ≡ None → (x : A) (k : Fault → A) → by_fault o x k ≡ x
by_none e x k = rw e

pub by_some : {A : Type 0} {o : Option Fault} {f : Fault} → o ≡ Some f → (x : A) (k : Fault → A) → by_fault o x k ≡ k f
by_some e x k = rw e

pub opened_yes : (t : Point) (e : ℕ) → opened t e ≡ true → (t.fault ≡ None) × (t.iteration.0 < e)
unfolding opened
opened_yes t e h = let x = (opened_cases (is_none t.fault) (ltb t.iteration.0 e)).0 h in (none_is t.fault x.0, ltb-true t.iteration.0 e x.1)

pub opened_no : (t : Point) (e : ℕ) → opened t e ≡ false → IsSome t.fault ⊎ (e ≤ t.iteration.0)
unfolding opened
opened_no t e h = by ((opened_cases (is_none t.fault) (ltb t.iteration.0 e)).1 h)
  where
    by : (is_none t.fault ≡ false) ⊎ (ltb t.iteration.0 e ≡ false) → IsSome t.fault ⊎ (e ≤ t.iteration.0)
    by (inl x) = inl (some_is t.fault x)
    by (inr x) = inr (ltb-false t.iteration.0 e x)
