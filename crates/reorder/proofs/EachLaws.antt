-- The accesses of one iteration among those of a run.
use mathlib.Core.Path.{◌≡◌, refl, ap}
use mathlib.Core.Logic.{◌≢◌}
use mathlib.Core.List.{[], ◌∷◌, ◌++◌}
use Prim.Native.Nat.{ℕ}
use native.Mathlib.Decide.{ℕ_discrete}
use lib.IntN.{ℤ}
use Rattle.rules.specs.Log.{Kind, access, iteration, Log, only, each}
use Rattle.rules.specs.LogLaws.{only_same, only_other}

-- all accesses are of iteration x
pub data Of (x : ℕ) : Log → Type 0 where
  of_nil : Of x []
  of_cons : {k : Kind} {c : ℕ} {v : ℤ} {g : Log} → Of x g → Of x (access k x c v ∷ g)

pub of_each : {x : ℕ} {g : Log} → Of x g → each x g ≡ g
unfolding only
of_each of_nil = refl
of_each {x} (of_cons {k = k} {c = c} {v = v} {g = g} h) = rw (only_same (λ j. j) (access k x c v) refl g) (ap (λ (r : Log). access k x c v ∷ r) (of_each h))

pub of_other : {x j : ℕ} {g : Log} → x ≢ j → Of x g → each j g ≡ []
unfolding only
of_other n of_nil = refl
of_other {x} n (of_cons {k = k} {c = c} {v = v} {g = g} h) = rw (only_other (λ j. j) (access k x c v) n g) (of_other n h)

pub each_of : (i : ℕ) (g : Log) → Of i (each i g)
unfolding only
each_of i [] = of_nil
each_of i (access k j c v ∷ g) = elim (ℕ_discrete j i) [
  | yes p ↦ rw (only_same (λ x. x) (access k j c v) p g, p) (of_cons (each_of i g))
  | no p ↦ rw (only_other (λ x. x) (access k j c v) p g) (each_of i g)
]

pub each_append : (j : ℕ) (h g : Log) → each j (h ++ g) ≡ each j h ++ each j g
unfolding only
each_append j [] g = refl
each_append j (e ∷ h) g = elim (ℕ_discrete (iteration e) j) [
  | yes p ↦ rw (only_same (λ i. i) e p (h ++ g), only_same (λ i. i) e p h) (ap (λ (r : Log). e ∷ r) (each_append j h g))
  | no p ↦ rw (only_other (λ i. i) e p (h ++ g), only_other (λ i. i) e p h) (each_append j h g)
]
