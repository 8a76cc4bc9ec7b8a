-- Decisions. The type of each says what it decides, so nothing here has to be believed; they make marks, answers and examples compute.
use Rattle.std.specs.Prelude.{◌≡◌, refl, ◌≢◌, ◌⊎◌, [], ◌∷◌, ℕ, zero, suc, max, ◌≤◌, ◌<◌}
use Rattle.std.proofs.Common.{◌∙◌, subst, inl, inr, arith}
use Rattle.std.proofs.Math.Decide.{ℕ_discrete, dec_lt}
use Rattle.rules.specs.Log.{Kind, reads, writes, updates, Access, access, iteration, Log, only, Has, newest, older, Exposed, first, earlier, Ordinary, a_read, a_write}
use Rattle.rules.specs.LogLaws.{has_cases, has_nil, exposed_cases, exposed_nil, only_other}

-- ---- connectives

unfoldable pub change : {A B : Type 0} → (A → B) → (B → A) → Dec A → Dec B
change f g (yes a) = yes (f a)
change f g (no h) = no (λ b. h (g b))

unfoldable pub either? : {A B : Type 0} → Dec A → Dec B → Dec (A ⊎ B)
either? (yes a) d = yes (inl a)
either? (no f) (yes b) = yes (inr b)
either? (no f) (no g) = no (λ s. elim s [ inl a ↦ f a | inr b ↦ g b ])

unfoldable pub both? : {A B : Type 0} → Dec A → Dec B → Dec (A × B)
both? (no f) d = no (λ s. f s.0)
both? (yes a) (no g) = no (λ s. g s.1)
both? (yes a) (yes b) = yes (a, b)

unfoldable pub not? : {A : Type 0} → Dec A → Dec (¬ A)
not? (yes a) = no (λ f. f a)
not? (no f) = yes f

-- a number below n with P
unfoldable pub find : (n : ℕ) (P : ℕ → Type 0) → ((i : ℕ) → Dec (P i)) → Dec ((i : ℕ) × (i < n) × P i)
find zero P d = no (λ s. omega (arith, s.1))
find (suc n) P d = change to from (either? (d n) (find n P d))
  where
    to : P n ⊎ ((i : ℕ) × (i < n) × P i) → (i : ℕ) × (i < suc n) × P i
    to (inl x) = (n, omega arith, x)
    to (inr (i, b, x)) = (i, omega arith, x)

    from : (i : ℕ) × (i < suc n) × P i → P n ⊎ ((i : ℕ) × (i < n) × P i)
    from (i, b, x) = elim (ℕ_discrete i n) [ yes e ↦ inl (subst P e x) | no e ↦ inr (i, omega arith, x) ]

-- ---- accesses

unfoldable pub kind? : (k q : Kind) → Dec (k ≡ q)
kind? reads reads = yes refl
kind? reads writes = no (λ (e : reads ≡ writes). let z : ◌≡◌ {A = ℕ} 0 1 = cc in omega arith)
kind? reads updates = no (λ (e : reads ≡ updates). let z : ◌≡◌ {A = ℕ} 0 1 = cc in omega arith)
kind? writes reads = no (λ (e : writes ≡ reads). let z : ◌≡◌ {A = ℕ} 0 1 = cc in omega arith)
kind? writes writes = yes refl
kind? writes updates = no (λ (e : writes ≡ updates). let z : ◌≡◌ {A = ℕ} 0 1 = cc in omega arith)
kind? updates reads = no (λ (e : updates ≡ reads). let z : ◌≡◌ {A = ℕ} 0 1 = cc in omega arith)
kind? updates writes = no (λ (e : updates ≡ writes). let z : ◌≡◌ {A = ℕ} 0 1 = cc in omega arith)
kind? updates updates = yes refl

unfoldable pub has? : (k : Kind) (c : ℕ) (g : Log) → Dec (Has k c g)
has? k c [] = no has_nil
has? k c (access h i d v ∷ g) = change to has_cases (either? (both? (kind? h k) (ℕ_discrete d c)) (has? k c g))
  where
    to : ((h ≡ k) × (d ≡ c)) ⊎ Has k c g → Has k c (access h i d v ∷ g)
    to (inl (p, q)) = rw (p, q) newest
    to (inr x) = older x

unfoldable pub exposed? : (c : ℕ) (g : Log) → Dec (Exposed c g)
exposed? c [] = no exposed_nil
exposed? c (access h i d v ∷ g) = change to exposed_cases (either? (both? (kind? h reads) (both? (ℕ_discrete d c) (not? (has? writes c g)))) (exposed? c g))
  where
    to : ((h ≡ reads) × ((d ≡ c) × ¬ Has writes c g)) ⊎ Exposed c g → Exposed c (access h i d v ∷ g)
    to (inl (p, (q, n))) = rw (p, q) (first n)
    to (inr x) = earlier x

unfoldable pub ordinary? : (c : ℕ) (g : Log) → Dec (Ordinary c g)
ordinary? c g = change (λ s. elim s [ inl x ↦ a_read x | inr x ↦ a_write x ]) (λ s. elim s [ a_read x ↦ inl x | a_write x ↦ inr x ])
    (either? (has? reads c g) (has? writes c g))

-- ---- groups with accesses

-- more than any number that h gives of an access
unfoldable pub over : (Access → ℕ) → Log → ℕ
over h [] = 0
over h (e ∷ g) = max (suc (h e)) (over h g)

-- a group from there on has none
pub only_over : (γ : ℕ → ℕ) (g : Log) (j : ℕ) → over (λ e. γ (iteration e)) g ≤ j → only γ j g ≡ []
unfolding over only
only_over γ [] j b = refl
only_over γ (e ∷ g) j b = only_other γ e (omega arith) g ∙ only_over γ g j (omega arith)

-- Statements about one group, or about two, that hold only of groups with accesses
module _ (γ : ℕ → ℕ) (g : Log) where
  pub active : (i : ℕ) → only γ i g ≢ [] → i < over (λ e. γ (iteration e)) g
  active i f = elim (dec_lt i (over (λ e. γ (iteration e)) g)) [ yes y ↦ y | no y ↦ absurd (f (only_over γ g i (omega arith))) ]

  unfoldable pub one? : (Q : ℕ → Type 0) → ((i : ℕ) → Dec (Q i)) → ((i : ℕ) → Q i → only γ i g ≢ []) → Dec ((i : ℕ) × Q i)
  one? Q d b = change (λ (i, _, q). (i, q)) (λ (i, q). (i, active i (b i q), q)) (find (over (λ e. γ (iteration e)) g) Q d)

  unfoldable pub two? : (Q : ℕ → ℕ → Type 0) → ((i j : ℕ) → Dec (Q i j)) → ((i j : ℕ) → Q i j → (only γ i g ≢ []) × (only γ j g ≢ []))
      → Dec ((i : ℕ) × (j : ℕ) × Q i j)
  two? Q d b = change (λ (i, (j, q)). (i, j, q)) (λ (i, j, q). (i, (j, q)))
      (one? (λ i. (j : ℕ) × Q i j) (λ i. one? (Q i) (d i) (λ j q. (b i j q).1)) (λ i (j, q). (b i j q).0))
