-- RULES 7.1 (document 01, Obstacles): "found by cell, in a run carried to its end". `f i` holds the accesses of group i, an iteration or, by document 02,
-- Point 3, a block.
use Rattle.std.specs.Prelude.{◌≢◌, ◌⊎◌, ℕ, ◌<◌}
use Rattle.std.proofs.Common.{inl, inr, subst, arith}
use Rattle.std.proofs.Math.Decide.{ℕ_discrete, dec_lt}
use Rattle.rules.specs.declared.Class.{Class}
use Rattle.rules.specs.declared.Class.TheVariants.{Shared as shared, Lastprivate as lastprivate, Copied as copied, Reduction as reduction}
use Rattle.rules.specs.Loop.{Loop}
use Rattle.rules.specs.Log.{Kind, writes, updates, Access, access, Log, only, Has, newest, older, Exposed, Ordinary}
use Rattle.rules.specs.LogLaws.{has_all, exposed_nil, ordinary_nil}
use Rattle.rules.specs.Decide.{change, either?, both?, not?, find, has?, exposed?, ordinary?, over, two?}
use Rattle.rules.specs.Marks.{has_some}

-- shared: "one iteration writes it and a different one reads or writes it"
abbrev pub Clash : (ℕ → Log) → ℕ → Type 0
Clash f c = (i : ℕ) × (j : ℕ) × (i ≢ j) × Has writes c (f i) × Ordinary c (f j)

-- lastprivate, and ordinary accesses of reduction cells: "one iteration writes it and a different one reads it before writing it"
abbrev pub Stale : (ℕ → Log) → ℕ → Type 0
Stale f c = (i : ℕ) × (j : ℕ) × (i ≢ j) × Has writes c (f i) × Exposed c (f j)

-- document 02, Point 5: "an iteration reads it before writing it and a lower-numbered iteration writes it, whichever of the two steps came first"
abbrev pub Late : (ℕ → Log) → ℕ → Type 0
Late f c = (i : ℕ) × (j : ℕ) × (i < j) × Has writes c (f i) × Exposed c (f j)

-- reduction: "it has an update and an ordinary access, even in one iteration"
abbrev pub Mixed : (ℕ → Log) → ℕ → Type 0
Mixed f c = (i : ℕ) × (j : ℕ) × Has updates c (f i) × Ordinary c (f j)

abbrev pub ObstacleAt : Class → (ℕ → Log) → ℕ → Type 0
ObstacleAt shared f c = Clash f c
ObstacleAt lastprivate f c = Stale f c
ObstacleAt copied f c = Late f c
ObstacleAt (reduction o) f c = Stale f c ⊎ Mixed f c

-- some cell has an obstacle
abbrev pub Obstacle : Loop → (ℕ → Log) → Type 0
Obstacle l f = (c : ℕ) × ObstacleAt (l.class c) f c

-- a log has an obstacle
abbrev pub Obstructed : Loop → (ℕ → ℕ) → Log → Type 0
Obstructed l γ g = Obstacle l (λ i. only γ i g)

-- ---- each is decided

module _ (γ : ℕ → ℕ) (g : Log) (c : ℕ) where
  abbrev f : ℕ → Log
  f i = only γ i g

  unfoldable pub clash? : Dec (Clash (λ i. only γ i g) c)
  clash? = change (λ (i, j, (n, (w, o))). (i, j, n, w, o)) (λ (i, j, n, w, o). (i, j, (n, (w, o))))
      (two? γ g (λ i j. (i ≢ j) × (Has writes c (f i) × Ordinary c (f j)))
      (λ i j. both? (not? (ℕ_discrete i j)) (both? (has? writes c (f i)) (ordinary? c (f j))))
      (λ i j q. (has_some q.1.0, λ e. ordinary_nil (subst (Ordinary c) e q.1.1))))

  unfoldable pub stale? : Dec (Stale (λ i. only γ i g) c)
  stale? = change (λ (i, j, (n, (w, o))). (i, j, n, w, o)) (λ (i, j, n, w, o). (i, j, (n, (w, o))))
      (two? γ g (λ i j. (i ≢ j) × (Has writes c (f i) × Exposed c (f j)))
      (λ i j. both? (not? (ℕ_discrete i j)) (both? (has? writes c (f i)) (exposed? c (f j))))
      (λ i j q. (has_some q.1.0, λ e. exposed_nil (subst (Exposed c) e q.1.1))))

  unfoldable pub late? : Dec (Late (λ i. only γ i g) c)
  late? = change (λ (i, j, (n, (w, o))). (i, j, n, w, o)) (λ (i, j, n, w, o). (i, j, (n, (w, o))))
      (two? γ g (λ i j. (i < j) × (Has writes c (f i) × Exposed c (f j)))
      (λ i j. both? (dec_lt i j) (both? (has? writes c (f i)) (exposed? c (f j))))
      (λ i j q. (has_some q.1.0, λ e. exposed_nil (subst (Exposed c) e q.1.1))))

  unfoldable pub mixed? : Dec (Mixed (λ i. only γ i g) c)
  mixed? = change (λ (i, j, (u, o)). (i, j, u, o)) (λ (i, j, u, o). (i, j, (u, o)))
      (two? γ g (λ i j. Has updates c (f i) × Ordinary c (f j)) (λ i j. both? (has? updates c (f i)) (ordinary? c (f j)))
      (λ i j q. (has_some q.0, λ e. ordinary_nil (subst (Ordinary c) e q.1))))

  unfoldable pub obstacle_at? : (k : Class) → Dec (ObstacleAt k (λ i. only γ i g) c)
  obstacle_at? shared = clash?
  obstacle_at? lastprivate = stale?
  obstacle_at? copied = late?
  obstacle_at? (reduction o) = either? stale? mixed?

abbrev pub cell : Access → ℕ
cell (access k i c v) = c

has_over : {k : Kind} {c : ℕ} {g : Log} → Has k c g → c < over cell g
unfolding over
has_over newest = omega arith
has_over (older h) = omega (arith, has_over h)

module _ (l : Loop) (γ : ℕ → ℕ) (g : Log) where
  pub at_below : (k : Class) (c : ℕ) → ObstacleAt k (λ i. only γ i g) c → c < over cell g
  at_below shared c (i, j, n, w, o) = has_over (has_all γ i g w)
  at_below lastprivate c (i, j, n, w, o) = has_over (has_all γ i g w)
  at_below copied c (i, j, n, w, o) = has_over (has_all γ i g w)
  at_below (reduction q) c (inl (i, j, n, w, o)) = has_over (has_all γ i g w)
  at_below (reduction q) c (inr (i, j, u, o)) = has_over (has_all γ i g u)

  unfoldable pub obstructed? : Dec (Obstructed l γ g)
  obstructed? = change (λ (c, b, o). (c, o)) (λ (c, o). (c, at_below (l.class c) c o, o))
      (find (over cell g) (λ c. ObstacleAt (l.class c) (λ i. only γ i g) c) (λ c. obstacle_at? γ g c (l.class c)))
