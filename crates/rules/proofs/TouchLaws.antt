-- The write counts go only by the accesses of each iteration.
use mathlib.Core.Path.{◌≡◌, refl, sym, ◌∙◌, ap, fun_ext}
use mathlib.Core.Logic.{◌⊎◌, inl, inr}
use mathlib.Core.List.{[], ◌∷◌}
use mathlib.Core.Bool.{Bool, true, false}
use Prim.Native.Nat.{ℕ}
use native.Mathlib.Decide.{ℕ_discrete}
use native.Mathlib.Omega.{arith}
use Rattle.rules.specs.ChooseLaws.{pick_same, pick_other}
use Rattle.rules.specs.Loop.{Loop}
use Rattle.rules.specs.Log.{Kind, reads, writes, updates, Access, access, Log, each, Has, newest, older}
use Rattle.rules.specs.LogLaws.{has_only, has_all}
use Rattle.rules.specs.Merge.{touches, updated, count, sum, pairs, written_cells}

abbrev pub Touch : ℕ → Log → Type 0
Touch c g = Has writes c g ⊎ Has updates c g

later : {c : ℕ} {e : Access} {g : Log} → Touch c g → Touch c (e ∷ g)
later (inl h) = inl (older h)
later (inr h) = inr (older h)

pub touch_of : (c : ℕ) (g : Log) → touches c g ≡ true → Touch c g
unfolding touches
touch_of c [] h = let z : ◌≡◌ {A = ℕ} 0 1 = cc in absurd (omega arith)
touch_of c (access reads i d v ∷ g) h = later (touch_of c g h)
touch_of c (access writes i d v ∷ g) h = elim (ℕ_discrete d c) [
  | yes p ↦ inl (rw p newest)
  | no p ↦ later (touch_of c g (rw (pick_other p true (touches c g)) at h))
]
touch_of c (access updates i d v ∷ g) h = elim (ℕ_discrete d c) [
  | yes p ↦ inr (rw p newest)
  | no p ↦ later (touch_of c g (rw (pick_other p true (touches c g)) at h))
]

touches_more : (c : ℕ) (e : Access) (g : Log) → touches c g ≡ true → touches c (e ∷ g) ≡ true
unfolding touches
touches_more c (access reads i d v) g h = h
touches_more c (access writes i d v) g h = elim (ℕ_discrete d c) [ yes p ↦ pick_same p true (touches c g) | no p ↦ pick_other p true (touches c g) ∙ h ]
touches_more c (access updates i d v) g h = elim (ℕ_discrete d c) [ yes p ↦ pick_same p true (touches c g) | no p ↦ pick_other p true (touches c g) ∙ h ]

pub touches_write : {c : ℕ} {g : Log} → Has writes c g → touches c g ≡ true
unfolding touches
touches_write {c} (newest {l = g}) = pick_same refl true (touches c g)
touches_write {c} (older {e = e} {l = g} h) = touches_more c e g (touches_write h)

pub touches_update : {c : ℕ} {g : Log} → Has updates c g → touches c g ≡ true
unfolding touches
touches_update {c} (newest {l = g}) = pick_same refl true (touches c g)
touches_update {c} (older {e = e} {l = g} h) = touches_more c e g (touches_update h)

pub updated_has : (c : ℕ) (g : Log) → updated c g ≡ true → Has updates c g
unfolding updated
updated_has c [] h = let z : ◌≡◌ {A = ℕ} 0 1 = cc in absurd (omega arith)
updated_has c (access reads i d v ∷ g) h = older (updated_has c g h)
updated_has c (access writes i d v ∷ g) h = older (updated_has c g h)
updated_has c (access updates i d v ∷ g) h = elim (ℕ_discrete d c) [
  | yes p ↦ rw p newest
  | no p ↦ older (updated_has c g (rw (pick_other p true (updated c g)) at h))
]

updated_more : (c : ℕ) (e : Access) (g : Log) → updated c g ≡ true → updated c (e ∷ g) ≡ true
unfolding updated
updated_more c (access reads i d v) g h = h
updated_more c (access writes i d v) g h = h
updated_more c (access updates i d v) g h = elim (ℕ_discrete d c) [ yes p ↦ pick_same p true (updated c g) | no p ↦ pick_other p true (updated c g) ∙ h ]

pub has_updated : {c : ℕ} {g : Log} → Has updates c g → updated c g ≡ true
unfolding updated
has_updated {c} (newest {l = g}) = pick_same refl true (updated c g)
has_updated {c} (older {e = e} {l = g} h) = updated_more c e g (has_updated h)

pub both_ways : (a b : Bool) → (a ≡ true → b ≡ true) → (b ≡ true → a ≡ true) → a ≡ b
both_ways true b f g = sym (f refl)
both_ways false true f g = g refl
both_ways false false f g = refl

module _ (g g' : Log) (same : (i : ℕ) → each i g ≡ each i g') where
  has_over : {k : Kind} {c : ℕ} → Has k c g → Has k c g'
  has_over h = let r = has_only (λ j. j) h in has_all (λ j. j) r.0 g' (rw (same r.0) at r.1)

  touches_over : (c : ℕ) → touches c g ≡ true → touches c g' ≡ true
  touches_over c h = elim (touch_of c g h) [ inl w ↦ touches_write (has_over w) | inr u ↦ touches_update (has_over u) ]

  updated_over : (c : ℕ) → updated c g ≡ true → updated c g' ≡ true
  updated_over c h = has_updated (has_over (updated_has c g h))

pub same_updated : (g g' : Log) → ((i : ℕ) → each i g ≡ each i g') → (c : ℕ) → updated c g ≡ updated c g'
same_updated g g' s c = both_ways (updated c g) (updated c g') (updated_over g g' s c) (updated_over g' g (λ i. sym (s i)) c)

pub same_written_cells : (l : Loop) (g g' : Log) → ((i : ℕ) → each i g ≡ each i g') → written_cells l g ≡ written_cells l g'
unfolding written_cells
same_written_cells l g g' s = ap (count l.size)
    (fun_ext (λ c. both_ways (touches c g) (touches c g') (touches_over g g' s c) (touches_over g' g (λ i. sym (s i)) c)))

pub same_pairs : (l : Loop) (g g' : Log) → ((i : ℕ) → each i g ≡ each i g') → pairs l g ≡ pairs l g'
unfolding pairs
same_pairs l g g' s = ap (λ (f : ℕ → Log). sum l.iterations (λ i. count l.size (λ c. touches c (f i)))) (fun_ext s)
