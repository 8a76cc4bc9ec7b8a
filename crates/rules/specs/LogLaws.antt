-- What holds of logs: what longer logs keep, the last value written, and the parts of a log by groups.
use Rattle.std.specs.Prelude.{◌≡◌, ◌≢◌, ◌⊎◌, ℕ, ℤ}
use Rattle.std.proofs.Math.Path.{refl, sym}
use Rattle.std.proofs.Common.{◌∙◌, ap, subst, arith}
use Rattle.std.proofs.Math.Logic.{inl, inr}
use mathlib.Core.List.{[], ◌∷◌}
use Rattle.std.proofs.Math.Option.{Option, none, some}
use Rattle.std.proofs.Math.Decide.{ℕ_discrete}
use Rattle.rules.specs.ChooseLaws.{pick_same, pick_other}
use Rattle.rules.specs.Log.{Kind, reads, writes, updates, Access, access, Log, iteration, only, written, Has, newest, older, Exposed, first, earlier, Ordinary, a_read, a_write}

-- ---- one access

pub has_cases : {k q : Kind} {c i d : ℕ} {v : ℤ} {l : Log} → Has k c (access q i d v ∷ l) → ((q ≡ k) × (d ≡ c)) ⊎ Has k c l
has_cases newest = inl (refl, refl)
has_cases (older h) = inr h

pub has_nil : {k : Kind} {c : ℕ} → Has k c [] → ⊥
has_nil h = elim h [ ]

pub exposed_cases : {c i d : ℕ} {q : Kind} {v : ℤ} {l : Log} → Exposed c (access q i d v ∷ l) → ((q ≡ reads) × ((d ≡ c) × ¬ Has writes c l)) ⊎ Exposed c l
exposed_cases (first n) = inl (refl, (refl, n))
exposed_cases (earlier h) = inr h

pub exposed_nil : {c : ℕ} → Exposed c [] → ⊥
exposed_nil h = elim h [ ]

pub ordinary_nil : {c : ℕ} → Ordinary c [] → ⊥
ordinary_nil (a_read h) = has_nil h
ordinary_nil (a_write h) = has_nil h

-- ---- longer logs

-- the second log is the first with newer accesses
pub data Extends (l : Log) : Log → Type 0 where
  same : Extends l l
  more : {e : Access} {m : Log} → Extends l m → Extends l (e ∷ m)

pub extends_trans : {a b c : Log} → Extends a b → Extends b c → Extends a c
extends_trans h same = h
extends_trans h (more k) = more (extends_trans h k)

pub has_more : {k : Kind} {c : ℕ} {l m : Log} → Extends l m → Has k c l → Has k c m
has_more same h = h
has_more (more x) h = older (has_more x h)

pub exposed_more : {c : ℕ} {l m : Log} → Extends l m → Exposed c l → Exposed c m
exposed_more same h = h
exposed_more (more x) h = earlier (exposed_more x h)

pub ordinary_more : {c : ℕ} {l m : Log} → Extends l m → Ordinary c l → Ordinary c m
ordinary_more x (a_read h) = a_read (has_more x h)
ordinary_more x (a_write h) = a_write (has_more x h)

-- ---- the last value written

-- an access that writes c, or one that leaves the last value written to c
pub data Writing (c : ℕ) : Access → Type 0 where
  writing : {i : ℕ} {v : ℤ} → Writing c (access writes i c v)
  leaving : {e : Access} → ((l : Log) → written c (e ∷ l) ≡ written c l) → Writing c e

pub writing? : (c : ℕ) (e : Access) → Writing c e
unfolding written
writing? c (access reads i d v) = leaving (λ l. refl)
writing? c (access updates i d v) = leaving (λ l. refl)
writing? c (access writes i d v) = elim (ℕ_discrete d c) [
  | yes h ↦ subst (λ (x : ℕ). Writing c (access writes i x v)) (sym h) writing
  | no h ↦ leaving (λ l. pick_other h (some v) (written c l))
]

pub written_newest : (c i : ℕ) (v : ℤ) (l : Log) → written c (access writes i c v ∷ l) ≡ some v
unfolding written
written_newest c i v l = pick_same refl (some v) (written c l)

pub some_or_none : {x : ℤ} {o : Option ℤ} → o ≡ some x → o ≡ none → ⊥
some_or_none {x} {o} p q = let z : ◌≡◌ {A = ℕ} 0 1 = cc in omega arith

pub written_none : (c : ℕ) {l : Log} → Has writes c l → written c l ≡ none → ⊥
written_none c (newest {i = i} {v = v} {l = l}) h = some_or_none (written_newest c i v l) h
written_none c (older {e = e} {l = l} w) h = go e (writing? c e) (written_none c w) h
  where
    go : (e : Access) → Writing c e → (written c l ≡ none → ⊥) → written c (e ∷ l) ≡ none → ⊥
    go e (writing {i = i} {v = v}) ih h = some_or_none (written_newest c i v l) h
    go e (leaving k) ih h = ih (sym (k l) ∙ h)

pub written_some : (c : ℕ) (l : Log) (v : ℤ) → written c l ≡ some v → Has writes c l
unfolding written
written_some c [] v h = absurd (some_or_none h refl)
written_some c (e ∷ l) v h = go e (writing? c e) h (written_some c l v)
  where
    go : (e : Access) → Writing c e → written c (e ∷ l) ≡ some v → (written c l ≡ some v → Has writes c l) → Has writes c (e ∷ l)
    go e writing h ih = newest
    go e (leaving k) h ih = older (ih (sym (k l) ∙ h))

pub not_read : {c i d : ℕ} {v : ℤ} {l : Log} → Has updates c (access reads i d v ∷ l) → Has updates c l
not_read (older h) = h

pub not_written : {c i d : ℕ} {v : ℤ} {l : Log} → Has updates c (access writes i d v ∷ l) → Has updates c l
not_written (older h) = h

-- ---- the accesses of a group

module _ (γ : ℕ → ℕ) where
  pub only_same : {i : ℕ} (e : Access) → γ (iteration e) ≡ i → (l : Log) → only γ i (e ∷ l) ≡ e ∷ only γ i l
  unfolding only
  only_same {i} e h l = pick_same h (e ∷ only γ i l) (only γ i l)

  pub only_other : {i : ℕ} (e : Access) → γ (iteration e) ≢ i → (l : Log) → only γ i (e ∷ l) ≡ only γ i l
  unfolding only
  only_other {i} e h l = pick_other h (e ∷ only γ i l) (only γ i l)

  pub extends_only : (i : ℕ) (e : Access) (l : Log) → Extends (only γ i l) (only γ i (e ∷ l))
  extends_only i e l = elim (ℕ_discrete (γ (iteration e)) i) [ yes h ↦ rw (only_same e h l) (more same) | no h ↦ rw (only_other e h l) same ]

  pub only_nil : (j : ℕ) (e : Access) (l : Log) → only γ j (e ∷ l) ≡ [] → (γ (iteration e) ≢ j) × (only γ j l ≡ [])
  only_nil j e l h = elim (ℕ_discrete (γ (iteration e)) j) [
    | yes p ↦ absurd (let q : e ∷ only γ j l ≡ [] = rw (only_same e p l) at h in let z : ◌≡◌ {A = ℕ} 0 1 = cc in omega arith)
    | no n ↦ (n, rw (only_other e n l) at h)
  ]

  pub written_only_leaving : (c i : ℕ) (e : Access) (l : Log) → ((k : Log) → written c (e ∷ k) ≡ written c k)
      → written c (only γ i (e ∷ l)) ≡ written c (only γ i l)
  written_only_leaving c i e l h = elim (ℕ_discrete (γ (iteration e)) i) [ yes p ↦ rw (only_same e p l) (h (only γ i l)) | no p ↦ rw (only_other e p l) ]

  -- the last value written to c is that of group g, or another group wrote c
  pub own_or_other : (c g : ℕ) (l : Log) → (written c l ≡ written c (only γ g l)) ⊎ ((j : ℕ) × (j ≢ g) × Has writes c (only γ j l))
  unfolding only
  own_or_other c g [] = inl refl
  own_or_other c g (e ∷ l) = go e (writing? c e) (own_or_other c g l)
    where
      go : (e : Access) → Writing c e → (written c l ≡ written c (only γ g l)) ⊎ ((j : ℕ) × (j ≢ g) × Has writes c (only γ j l))
          → (written c (e ∷ l) ≡ written c (only γ g (e ∷ l))) ⊎ ((j : ℕ) × (j ≢ g) × Has writes c (only γ j (e ∷ l)))
      go e w (inr (j, n, h)) = inr (j, n, has_more (extends_only j e l) h)
      go e (leaving h) (inl q) = inl (h l ∙ q ∙ sym (written_only_leaving c g e l h))
      go e (writing {i = j} {v = v}) (inl q) = elim (ℕ_discrete (γ j) g) [
        | yes p ↦ inl (rw (only_same (access writes j c v) p l, written_newest c j v l, written_newest c j v (only γ g l)))
        | no p ↦ inr (γ j, p, rw (only_same (access writes j c v) refl l) newest)
      ]

  -- an access in a log is among those of its group
  pub has_only : {k : Kind} {c : ℕ} {l : Log} → Has k c l → (j : ℕ) × Has k c (only γ j l)
  has_only {k} {c} (newest {i = i} {v = v} {l = l}) = (γ i, rw (only_same (access k i c v) refl l) newest)
  has_only (older {e = e} {l = l} h) = let r = has_only h in (r.0, has_more (extends_only r.0 e l) r.1)

  pub has_all : {k : Kind} {c : ℕ} (j : ℕ) (l : Log) → Has k c (only γ j l) → Has k c l
  unfolding only
  has_all j [] h = h
  has_all {k} {c} j (e ∷ l) h = elim (ℕ_discrete (γ (iteration e)) j) [
    | yes p ↦ go (rw (only_same e p l) at h) (has_all j l)
    | no p ↦ older (has_all j l (rw (only_other e p l) at h))
  ]
    where
      go : {e : Access} {a : Log} → Has k c (e ∷ a) → (Has k c a → Has k c l) → Has k c (e ∷ l)
      go newest f = newest
      go (older x) f = older (f x)

-- the accesses of one iteration are among those of its group
pub only_only : (γ : ℕ → ℕ) (i : ℕ) (l : Log) → only (λ j. j) i (only γ (γ i) l) ≡ only (λ j. j) i l
unfolding only
only_only γ i [] = refl
only_only γ i (e ∷ l) = elim (ℕ_discrete (iteration e) i) [
  | yes p ↦
      ap (only (λ j. j) i) (only_same γ e (ap γ p) l) ∙ only_same (λ j. j) e p (only γ (γ i) l) ∙ ap (λ (t : Log). e ∷ t) (only_only γ i l)
      ∙ sym (only_same (λ j. j) e p l)
  | no n ↦ elim (ℕ_discrete (γ (iteration e)) (γ i)) [
    | yes q ↦ ap (only (λ j. j) i) (only_same γ e q l) ∙ only_other (λ j. j) e n (only γ (γ i) l) ∙ only_only γ i l ∙ sym (only_other (λ j. j) e n l)
    | no q ↦ ap (only (λ j. j) i) (only_other γ e q l) ∙ only_only γ i l ∙ sym (only_other (λ j. j) e n l)
  ]
]
