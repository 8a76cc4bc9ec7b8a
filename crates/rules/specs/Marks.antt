-- RULES 5 (document 01, Steps): "Marks of a cell, over the accesses so far, are the sum of" four numbers. They go by groups of iterations, those
-- that γ takes to one number: with the identity for γ, by iterations; document 02, Point 3: "marks and obstacles are by block".
use Rattle.std.specs.Prelude.{◌≢◌, [], ℕ, ◌+◌}
use Rattle.std.proofs.Common.{subst}
use Rattle.rules.specs.Log.{Kind, reads, writes, updates, Log, only, Has, Exposed}
use Rattle.rules.specs.LogLaws.{has_nil}
use Rattle.rules.specs.Decide.{change, both?, not?, has?, exposed?, one?}

module _ (γ : ℕ → ℕ) (c : ℕ) (l : Log) where
  -- "1, some iteration wrote it ordinarily"
  abbrev pub Mark1 : Type 0
  Mark1 = (g : ℕ) × Has writes c (only γ g l)

  -- "2, some iteration read it ordinarily and has not written it ordinarily"
  abbrev pub Mark2 : Type 0
  Mark2 = (g : ℕ) × Has reads c (only γ g l) × ¬ Has writes c (only γ g l)

  -- "4, some iteration read it first and then wrote it"
  abbrev pub Mark4 : Type 0
  Mark4 = (g : ℕ) × Exposed c (only γ g l) × Has writes c (only γ g l)

  -- "8, it was updated"
  abbrev pub Mark8 : Type 0
  Mark8 = Has updates c l

pub has_some : {k : Kind} {c : ℕ} {l : Log} → Has k c l → l ≢ []
has_some {k} {c} h e = has_nil (subst (λ (m : Log). Has k c m) e h)

-- each is decided
module _ (γ : ℕ → ℕ) (c : ℕ) (l : Log) where
  unfoldable pub mark1? : Dec (Mark1 γ c l)
  mark1? = one? γ l (λ g. Has writes c (only γ g l)) (λ g. has? writes c (only γ g l)) (λ g h. has_some h)

  unfoldable pub mark2? : Dec (Mark2 γ c l)
  mark2? = change (λ (g, h). (g, h.0, h.1)) (λ (g, r, n). (g, (r, n)))
      (one? γ l (λ g. Has reads c (only γ g l) × ¬ Has writes c (only γ g l))
      (λ g. both? (has? reads c (only γ g l)) (not? (has? writes c (only γ g l)))) (λ g h. has_some h.0))

  unfoldable pub mark4? : Dec (Mark4 γ c l)
  mark4? = change (λ (g, h). (g, h.0, h.1)) (λ (g, x, w). (g, (x, w)))
      (one? γ l (λ g. Exposed c (only γ g l) × Has writes c (only γ g l)) (λ g. both? (exposed? c (only γ g l)) (has? writes c (only γ g l)))
      (λ g h. has_some h.1))

-- w if it holds, else 0
unfoldable pub weight : {A : Type 0} → Dec A → ℕ → ℕ
weight (yes a) w = w
weight (no n) w = 0

-- "the sum of"
unfoldable pub marks : (ℕ → ℕ) → ℕ → Log → ℕ
marks γ c l = weight (mark1? γ c l) 1 + weight (mark2? γ c l) 2 + weight (mark4? γ c l) 4 + weight (has? updates c l) 8
