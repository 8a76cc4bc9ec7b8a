-- What one more access changes of the sets that a log gives for a cell.
use mathlib.Core.Path.{◌≡◌, refl, sym, subst}
use mathlib.Core.Logic.{◌≢◌, inl, inr, ◌↔◌}
use mathlib.Core.List.{[], ◌∷◌}
use mathlib.Core.Bool.{true}
use mathlib.Core.Option.{some}
use Prim.Native.Nat.{ℕ}
use native.Mathlib.Decide.{ℕ_discrete, dec_le}
use native.Mathlib.Omega.{arith}
use lib.IntN.{ℤ}
use Rattle.rules.specs.ChooseLaws.{pick_other}
use Rattle.rules.specs.Log.{Kind, reads, writes, updates, Access, access, iteration, Log, only, written, Has, older, Exposed, earlier}
use Rattle.rules.specs.LogLaws.{only_same, only_other, has_cases, exposed_cases}
use Rattle.rules.specs.Merge.{touches}
use Rattle.shadow.specs.Orderly.{Latest}
use Rattle.shadow.proofs.Sets.{Same, Adds, Tops}

module _ (γ π : ℕ → ℕ) where
  pub latest_tops : (Q : Log → Type 0) → ¬ Q [] → (i : ℕ) (l : Log) → Latest γ π i l → Tops π i (λ g. Q (only γ g l))
  latest_tops Q z i l h g x e = elim (dec_le g i) [ yes y ↦ y | no y ↦ absurd (z (subst Q (h g e (omega arith)) x)) ]

module _ (γ : ℕ → ℕ) (e : Access) (l : Log) (Q : Log → Type 0) where
  abbrev pub mine : Log
  mine = only γ (γ (iteration e)) l

  pub same_of : Q mine ↔ Q (e ∷ mine) → Same (λ g. Q (only γ g l)) (λ g. Q (only γ g (e ∷ l)))
  same_of h g = elim (ℕ_discrete (γ (iteration e)) g) [
    | yes p ↦ rw (only_same γ e p l, ← p) h
    | no n ↦ rw (only_other γ e n l) (λ x. x, λ x. x)
  ]

  pub adds_of : (Q mine → Q (e ∷ mine)) → Q (e ∷ mine) → Adds (γ (iteration e)) (λ g. Q (only γ g l)) (λ g. Q (only γ g (e ∷ l)))
  adds_of f m = record {
    member = rw (only_same γ e refl l) m;
    keeps = λ g x. elim (ℕ_discrete (γ (iteration e)) g) [
      | yes p ↦ rw (only_same γ e p l, ← p) (f (subst (λ (j : ℕ). Q (only γ j l)) (sym p) x))
      | no n ↦ rw (only_other γ e n l) x
    ];
    others = λ g n x. rw (only_other γ e (λ (p : γ (iteration e) ≡ g). n (sym p)) l) at x;
  }

module _ {q : Kind} {i d : ℕ} {v : ℤ} (c : ℕ) where
  -- an access of another kind or cell
  pub has_leaves : (k : Kind) (m : Log) → ¬ ((q ≡ k) × (d ≡ c)) → Has k c m ↔ Has k c (access q i d v ∷ m)
  has_leaves k m n = (older, λ h. elim (has_cases h) [ inl x ↦ absurd (n x) | inr x ↦ x ])

  pub exposed_leaves : (m : Log) → ¬ ((q ≡ reads) × ((d ≡ c) × ¬ Has writes c m)) → Exposed c m ↔ Exposed c (access q i d v ∷ m)
  exposed_leaves m n = (earlier, λ h. elim (exposed_cases h) [ inl x ↦ absurd (n x) | inr x ↦ x ])

pub touches_else : (c : ℕ) (q : Kind) (i d : ℕ) (v : ℤ) (m : Log) → d ≢ c → touches c (access q i d v ∷ m) ≡ touches c m
unfolding touches
touches_else c reads i d v m n = refl
touches_else c writes i d v m n = pick_other n true (touches c m)
touches_else c updates i d v m n = pick_other n true (touches c m)

pub written_else : (c : ℕ) (q : Kind) (i d : ℕ) (v : ℤ) (m : Log) → d ≢ c → written c (access q i d v ∷ m) ≡ written c m
unfolding written
written_else c reads i d v m n = refl
written_else c writes i d v m n = pick_other n (some v) (written c m)
written_else c updates i d v m n = refl
