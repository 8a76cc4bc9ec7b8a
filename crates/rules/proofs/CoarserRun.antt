-- A loop that passes with each iteration tested by itself passes with iterations tested together.
use mathlib.Core.Path.{◌≡◌, refl, sym, ◌∙◌, ap, subst}
use mathlib.Core.Logic.{◌≢◌, inl, inr}
use mathlib.Core.List.{[], ◌∷◌}
use Prim.Native.Nat.{ℕ, ◌<◌}
use native.Mathlib.Decide.{ℕ_discrete, dec_lt}
use native.Mathlib.Omega.{arith}
use Rattle.rules.specs.declared.Class.{Class}
use Rattle.rules.specs.declared.Class.TheVariants.{Shared as shared, Lastprivate as lastprivate, Copied as copied, Reduction as reduction}
use Rattle.rules.specs.Loop.{Loop, Partition}
use Rattle.rules.specs.Log.{Kind, reads, writes, Access, access, iteration, Log, only, each, Has, newest, older, Exposed, first, earlier, Ordinary, a_read, a_write}
use Rattle.rules.specs.LogLaws.{only_same, only_other, extends_only, has_more, exposed_more, has_all, has_nil, exposed_nil, only_only}
use Rattle.rules.specs.Marks.{has_some}
use Rattle.rules.specs.Obstacles.{Stale, ObstacleAt}
use Rattle.rules.specs.Proper.{Proper}
use Rattle.rules.specs.Serial.{Outcome, finished, failed, serial}
use Rattle.rules.specs.Answer.{Answer, passed, rerun, faulted, SerialPasses, serial_passes?, again, settled_by, settled}
use Rattle.rules.proofs.Progress.{group_grows}
use Rattle.rules.proofs.SerialRun.{serial_ends}

module _ (γ : ℕ → ℕ) (c : ℕ) where
  -- an iteration of group j has Q
  abbrev Some : (Log → Type 0) → ℕ → Log → Type 0
  Some Q j g = (i : ℕ) × (γ i ≡ j) × Q (each i g)

  has_each : {k : Kind} (j : ℕ) (g : Log) → Has k c (only γ j g) → Some (Has k c) j g
  unfolding only
  has_each j [] h = absurd (has_nil h)
  has_each {k} j (e ∷ g) h = elim (ℕ_discrete (γ (iteration e)) j) [
    | yes p ↦ go p (rw (only_same γ e p g) at h) (has_each j g)
    | no p ↦ on e (has_each j g (rw (only_other γ e p g) at h))
  ]
    where
      on : (e : Access) → Some (Has k c) j g → Some (Has k c) j (e ∷ g)
      on e (i, q, x) = (i, q, has_more (extends_only (λ n. n) i e g) x)

      go : {e : Access} → γ (iteration e) ≡ j → Has k c (e ∷ only γ j g) → (Has k c (only γ j g) → Some (Has k c) j g) → Some (Has k c) j (e ∷ g)
      go p (newest {i = i} {v = v}) f = (i, p, rw (only_same (λ n. n) (access k i c v) refl g) newest)
      go p (older {e = e} x) f = on e (f x)

  exposed_each : (j : ℕ) (g : Log) → Exposed c (only γ j g) → Some (Exposed c) j g
  unfolding only
  exposed_each j [] h = absurd (exposed_nil h)
  exposed_each j (e ∷ g) h = elim (ℕ_discrete (γ (iteration e)) j) [
    | yes p ↦ go p (rw (only_same γ e p g) at h) (exposed_each j g)
    | no p ↦ on e (exposed_each j g (rw (only_other γ e p g) at h))
  ]
    where
      on : (e : Access) → Some (Exposed c) j g → Some (Exposed c) j (e ∷ g)
      on e (i, q, x) = (i, q, exposed_more (extends_only (λ n. n) i e g) x)

      -- what an iteration wrote, its group wrote
      wider : (i : ℕ) → γ i ≡ j → Has writes c (each i g) → Has writes c (only γ j g)
      wider i p x = subst (λ (n : ℕ). Has writes c (only γ n g)) p (has_all (λ n. n) i (only γ (γ i) g) (rw (only_only γ i g) x))

      go : {e : Access} → γ (iteration e) ≡ j → Exposed c (e ∷ only γ j g) → (Exposed c (only γ j g) → Some (Exposed c) j g)
          → Some (Exposed c) j (e ∷ g)
      go p (first {i = i} {v = v} n) f = (i, p, rw (only_same (λ n. n) (access reads i c v) refl g) (first (λ x. n (wider i p x))))
      go p (earlier {e = e} x) f = on e (f x)

  ordinary_each : (j : ℕ) (g : Log) → Ordinary c (only γ j g) → Some (Ordinary c) j g
  ordinary_each j g (a_read x) = let r = has_each j g x in (r.0, r.1, a_read r.2)
  ordinary_each j g (a_write x) = let r = has_each j g x in (r.0, r.1, a_write r.2)

-- so what obstructs groups obstructs the iterations in them, as groups ascend with iterations
module _ (γ : ℕ → ℕ) (g : Log) (grows : (a b : ℕ) → each a g ≢ [] → each b g ≢ [] → γ a < γ b → a < b) where
  apart : {i j a b : ℕ} → i ≢ j → γ a ≡ i → γ b ≡ j → a ≢ b
  apart n p q e = n (sym p ∙ ap γ e ∙ q)

  stale : (c : ℕ) → Stale (λ i. only γ i g) c → Stale (λ i. each i g) c
  stale c (i, j, n, w, o) = let a = has_each γ c i g w in let b = exposed_each γ c j g o in (a.0, b.0, apart n a.1 b.1, a.2, b.2)

  at_each : (k : Class) (c : ℕ) → ObstacleAt k (λ i. only γ i g) c → ObstacleAt k (λ i. each i g) c
  at_each shared c (i, j, n, w, o) = let a = has_each γ c i g w in let b = ordinary_each γ c j g o in (a.0, b.0, apart n a.1 b.1, a.2, b.2)
  at_each lastprivate c o = stale c o
  at_each copied c (i, j, n, w, o) =
      let a = has_each γ c i g w in
      let b = exposed_each γ c j g o in
      (a.0, b.0, grows a.0 b.0 (has_some a.2) (λ e. exposed_nil (subst (Exposed c) e b.2)) (omega (arith, a.1, b.1)), a.2, b.2)
  at_each (reduction q) c (inl o) = inl (stale c o)
  at_each (reduction q) c (inr (i, j, u, o)) = let a = has_each γ c i g u in let b = ordinary_each γ c j g o in inr (a.0, b.0, a.2, b.2)

pub passes_coarser : (l : Loop) (δ : Partition) → Proper l δ → SerialPasses l (λ i. i) → SerialPasses l δ.group
passes_coarser l δ h s = record { faultless = s.faultless; free = λ (c, o). s.free (c, at_each δ.group (serial l).log grows (l.class c) c o) }
  where
    inside : (a : ℕ) → each a (serial l).log ≢ [] → a < l.iterations
    inside a n = elim (dec_lt a l.iterations) [ yes y ↦ y | no y ↦ absurd (n ((serial_ends l δ h).within a (omega arith))) ]

    grows : (a b : ℕ) → each a (serial l).log ≢ [] → each b (serial l).log ≢ [] → δ.group a < δ.group b → a < b
    grows a b x y = group_grows l δ h a b (inside a x) (inside b y)

-- what the serial run settles as passed by iterations it settles so by groups
abbrev pub has_passed : Answer → ℕ
has_passed (passed a b) = 1
has_passed (rerun a b) = 0
has_passed (faulted n t i) = 0

never_passed : (l : Loop) (o : Outcome) (a b : ℕ) → (again l o).answer ≡ passed a b → ⊥
unfolding again
never_passed l finished a b h = let z : ◌≡◌ {A = ℕ} 0 1 = ap has_passed h in omega arith
never_passed l (failed n t i) a b h = let z : ◌≡◌ {A = ℕ} 0 1 = ap has_passed h in omega arith

by_cases : (l : Loop) (δ : Partition) → Proper l δ → (d : Dec (SerialPasses l (λ i. i))) (e : Dec (SerialPasses l δ.group)) (a b : ℕ)
    → (settled_by l (λ i. i) d).answer ≡ passed a b → settled_by l δ.group e ≡ settled_by l (λ i. i) d
unfolding settled_by
by_cases l δ p (yes s) (yes t) a b h = refl
by_cases l δ p (yes s) (no f) a b h = absurd (f (passes_coarser l δ p s))
by_cases l δ p (no f) e a b h = absurd (never_passed l (serial l).outcome a b h)

pub settled_coarser : (l : Loop) (δ : Partition) → Proper l δ → (a b : ℕ) → (settled l (λ i. i)).answer ≡ passed a b
    → settled l δ.group ≡ settled l (λ i. i)
unfolding settled
settled_coarser l δ p a b h = by_cases l δ p (serial_passes? l (λ i. i)) (serial_passes? l δ.group) a b h
