-- Obstacles only grow with the log, and one of them is another.
use mathlib.Core.Logic.{inl, inr}
use mathlib.Core.List.{◌∷◌}
use Prim.Native.Nat.{ℕ}
use native.Mathlib.Omega.{arith}
use Rattle.rules.specs.declared.Class.{Class}
use Rattle.rules.specs.declared.Class.TheVariants.{Shared as shared, Lastprivate as lastprivate, Copied as copied, Reduction as reduction}
use Rattle.rules.specs.Loop.{Reduces, Loop}
use Rattle.rules.specs.Obstacles.{Clash, Stale, Late, Mixed, ObstacleAt, Obstacle, Obstructed}
use Rattle.rules.specs.Log.{Access, Log, only}
use Rattle.rules.specs.LogLaws.{Extends, extends_only, has_more, exposed_more, ordinary_more}

-- a copied cell's obstacle would be a lastprivate cell's
pub stale_of_late : {f : ℕ → Log} {c : ℕ} → Late f c → Stale f c
stale_of_late (i, j, n, w, o) = (i, j, omega arith, w, o)

-- an update beside an ordinary access is one in any class that has updates
pub obstacle_of_mixed : {f : ℕ → Log} {c : ℕ} (k : Class) → Reduces k → Mixed f c → ObstacleAt k f c
obstacle_of_mixed shared r m = absurd r
obstacle_of_mixed lastprivate r m = absurd r
obstacle_of_mixed copied r m = absurd r
obstacle_of_mixed (reduction o) r m = inr m

module _ (f g : ℕ → Log) (x : (i : ℕ) → Extends (f i) (g i)) where
  pub clash_more : (c : ℕ) → Clash f c → Clash g c
  clash_more c (i, j, n, w, o) = (i, j, n, has_more (x i) w, ordinary_more (x j) o)

  obstacle_at_more : (k : Class) (c : ℕ) → ObstacleAt k f c → ObstacleAt k g c
  obstacle_at_more shared c o = clash_more c o
  obstacle_at_more lastprivate c (i, j, n, w, o) = (i, j, n, has_more (x i) w, exposed_more (x j) o)
  obstacle_at_more copied c (i, j, n, w, o) = (i, j, n, has_more (x i) w, exposed_more (x j) o)
  obstacle_at_more (reduction q) c (inl (i, j, n, w, o)) = inl (i, j, n, has_more (x i) w, exposed_more (x j) o)
  obstacle_at_more (reduction q) c (inr (i, j, u, o)) = inr (i, j, has_more (x i) u, ordinary_more (x j) o)

  pub obstacle_more : (l : Loop) → Obstacle l f → Obstacle l g
  obstacle_more l (c, o) = (c, obstacle_at_more (l.class c) c o)

pub obstructed_more : (l : Loop) (γ : ℕ → ℕ) (e : Access) (g : Log) → Obstructed l γ g → Obstructed l γ (e ∷ g)
obstructed_more l γ e g = obstacle_more (λ i. only γ i g) (λ i. only γ i (e ∷ g)) (λ i. extends_only γ i e g) l
