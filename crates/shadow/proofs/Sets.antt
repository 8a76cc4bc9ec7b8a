-- Sets of numbers: how many members below n, the lowest and the highest, and the highest of each processor.
use mathlib.Core.Path.{◌≡◌, refl, sym, ◌∙◌, ap, subst}
use mathlib.Core.Logic.{◌≢◌, ◌↔◌}
use Prim.Native.Nat.{ℕ, zero, suc, min, max, ◌≤◌, ◌<◌}
use native.Mathlib.Decide.{ℕ_discrete}
use native.Mathlib.Omega.{arith}
use Rattle.rules.specs.Choose.{put}
use Rattle.rules.specs.ChooseLaws.{pick_same, pick_other, put_same, put_other}
use Rattle.rules.specs.Record.{Lowest, Highest}
use Rattle.shadow.specs.Tables.{lower}

-- the same set
abbrev pub Same : (ℕ → Type 0) → (ℕ → Type 0) → Type 0
Same S S' = (g : ℕ) → S g ↔ S' g

-- the second set is the first with i
pub record Adds (i : ℕ) (S S' : ℕ → Type 0) : Type 0 where
  pub member : S' i
  pub keeps : (g : ℕ) → S g → S' g
  pub others : (g : ℕ) → g ≢ i → S' g → S g

pub adds_same : {i : ℕ} {S S' : ℕ → Type 0} → Adds i S S' → S i → Same S S'
adds_same {i} {S} a s g = (a.keeps g, λ h. elim (ℕ_discrete g i) [ yes e ↦ subst S (sym e) s | no n ↦ a.others g n h ])

-- S has k members below n
pub data Size (S : ℕ → Type 0) : ℕ → ℕ → Type 0 where
  size_zero : Size S zero zero
  size_out : {n k : ℕ} → ¬ S n → Size S n k → Size S (suc n) k
  size_in : {n k : ℕ} → S n → Size S n k → Size S (suc n) (suc k)

pub size_none : {S : ℕ → Type 0} → ((g : ℕ) → ¬ S g) → (n : ℕ) → Size S n 0
size_none f zero = size_zero
size_none f (suc n) = size_out (f n) (size_none f n)

module _ {S S' : ℕ → Type 0} where
  size_below : {n k : ℕ} → ((g : ℕ) → g < n → S g ↔ S' g) → Size S n k → Size S' n k
  size_below f size_zero = size_zero
  size_below f (size_out {n = n} h s) = size_out (λ x. h ((f n (omega arith)).1 x)) (size_below (λ g b. f g (omega arith)) s)
  size_below f (size_in {n = n} h s) = size_in ((f n (omega arith)).0 h) (size_below (λ g b. f g (omega arith)) s)

  pub size_same : {n k : ℕ} → Same S S' → Size S n k → Size S' n k
  size_same f = size_below (λ g b. f g)

  pub size_add : {n k i : ℕ} → Adds i S S' → ¬ S i → i < n → Size S n k → Size S' n (suc k)
  size_add a m b size_zero = absurd (omega arith)
  size_add {i = i} a m b (size_out {n = n} h s) = elim (ℕ_discrete n i) [
    | yes e ↦ size_in (subst S' (sym e) a.member) (size_below (λ g c. (a.keeps g, a.others g (omega arith))) s)
    | no x ↦ size_out (λ y. h (a.others n x y)) (size_add a m (omega arith) s)
  ]
  size_add {i = i} a m b (size_in {n = n} h s) = elim (ℕ_discrete n i) [
    | yes e ↦ absurd (m (subst S e h))
    | no x ↦ size_in (a.keeps n h) (size_add a m (omega arith) s)
  ]

  -- a part of a set, and what is outside the part
  pub size_part : {n j k : ℕ} → ((g : ℕ) → S g → S' g) → Size S n j → Size S' n k → j ≤ k
  size_part f size_zero size_zero = omega arith
  size_part f (size_out h s) (size_out h' s') = size_part f s s'
  size_part f (size_out h s) (size_in h' s') = omega (arith, size_part f s s')
  size_part f (size_in {n = n} h s) (size_out h' s') = absurd (h' (f n h))
  size_part f (size_in h s) (size_in h' s') = omega (arith, size_part f s s')

  pub size_rest : {n j k : ℕ} → ((g : ℕ) → S g → S' g) → Size S n j → Size S' n k → j < k → (g : ℕ) × S' g × ¬ S g
  size_rest f size_zero size_zero b = absurd (omega arith)
  size_rest f (size_out h s) (size_out h' s') b = size_rest f s s' b
  size_rest f (size_out {n = n} h s) (size_in h' s') b = (n, h', h)
  size_rest f (size_in {n = n} h s) (size_out h' s') b = absurd (h' (f n h))
  size_rest f (size_in h s) (size_in h' s') b = size_rest f s s' (omega arith)

  pub size_less : {n j k g : ℕ} → ((g : ℕ) → S g → S' g) → Size S n j → Size S' n k → g < n → S' g → ¬ S g → j < k
  size_less f size_zero size_zero b x m = absurd (omega arith)
  size_less {g = g} f (size_out {n = n} h s) (size_out h' s') b x m = elim (ℕ_discrete n g) [
    | yes e ↦ absurd (h' (subst S' (sym e) x))
    | no y ↦ size_less f s s' (omega arith) x m
  ]
  size_less f (size_out h s) (size_in h' s') b x m = omega (arith, size_part f s s')
  size_less f (size_in {n = n} h s) (size_out h' s') b x m = absurd (h' (f n h))
  size_less {g = g} f (size_in {n = n} h s) (size_in h' s') b x m = elim (ℕ_discrete n g) [
    | yes e ↦ absurd (m (subst S e h))
    | no y ↦ omega (arith, size_less f s s' (omega arith) x m)
  ]

module _ {S : ℕ → Type 0} where
  pub size_some : {n k : ℕ} → Size S n k → 0 < k → (g : ℕ) × (g < n) × S g
  size_some size_zero b = absurd (omega arith)
  size_some (size_out h s) b = let r = size_some s b in (r.0, omega arith, r.2)
  size_some (size_in {n = n} h s) b = (n, omega arith, h)

  pub size_has : {n k g : ℕ} → Size S n k → g < n → S g → 0 < k
  size_has size_zero b x = absurd (omega arith)
  size_has {g = g} (size_out {n = n} h s) b x = elim (ℕ_discrete n g) [ yes e ↦ absurd (h (subst S (sym e) x)) | no y ↦ size_has s (omega arith) x ]
  size_has (size_in h s) b x = omega arith

  pub size_two : {n k : ℕ} → Size S n k → 1 < k → (i : ℕ) × (j : ℕ) × (i ≢ j) × S i × S j
  size_two size_zero b = absurd (omega arith)
  size_two (size_out h s) b = size_two s b
  size_two (size_in {n = n} h s) b = let r = size_some s (omega arith) in (r.0, n, omega arith, r.2, h)

  pub size_both : {n k i j : ℕ} → Size S n k → i < n → j < n → i ≢ j → S i → S j → 1 < k
  size_both size_zero a b m x y = absurd (omega arith)
  size_both {i = i} {j = j} (size_out {n = n} h s) a b m x y = elim (ℕ_discrete n i) [
    | yes e ↦ absurd (h (subst S (sym e) x))
    | no p ↦ elim (ℕ_discrete n j) [ yes e ↦ absurd (h (subst S (sym e) y)) | no q ↦ size_both s (omega arith) (omega arith) m x y ]
  ]
  size_both {i = i} {j = j} (size_in {n = n} h s) a b m x y = elim (ℕ_discrete n i) [
    | yes e ↦ omega (arith, size_has s (omega arith) y)
    | no p ↦ omega (arith, size_has s (omega arith) x)
  ]

-- 1 + the lowest member and 1 + the highest
pub lowest_none : {S : ℕ → Type 0} → ((g : ℕ) → ¬ S g) → Lowest S 0
lowest_none f = record { least = λ g x. absurd (f g x); holds = λ g (e : 0 ≡ suc g). absurd (omega arith) }

pub highest_none : {S : ℕ → Type 0} → ((g : ℕ) → ¬ S g) → Highest S 0
highest_none f = record { most = λ g x. absurd (f g x); holds = λ g (e : 0 ≡ suc g). absurd (omega arith) }

module _ {S S' : ℕ → Type 0} where
  pub lowest_same : {n : ℕ} → Same S S' → Lowest S n → Lowest S' n
  lowest_same f t = record { least = λ g x. t.least g ((f g).1 x); holds = λ g e. (f g).0 (t.holds g e) }

  pub highest_same : {n : ℕ} → Same S S' → Highest S n → Highest S' n
  highest_same f t = record { most = λ g x. t.most g ((f g).1 x); holds = λ g e. (f g).0 (t.holds g e) }

  pub lowest_add : {n i : ℕ} → Adds i S S' → Lowest S n → Lowest S' (lower (suc i) n)
  lowest_add {n} {i} a t = elim (ℕ_discrete n 0) [
    | yes z ↦ rw (pick_same z (suc i) (min (suc i) n)) (record {
      least = λ g x. elim (ℕ_discrete g i) [ yes e ↦ (omega arith, omega arith) | no m ↦ absurd (omega (arith, (t.least g (a.others g m x)).0)) ];
      holds = λ g e. subst S' (omega arith) a.member;
    })
    | no z ↦ rw (pick_other z (suc i) (min (suc i) n)) (record {
      least = λ g x. elim (ℕ_discrete g i) [ yes e ↦ (omega arith, omega arith) | no m ↦ (omega arith, omega (arith, (t.least g (a.others g m x)).1)) ];
      holds = λ g e. elim (ℕ_discrete g i) [ yes q ↦ subst S' (sym q) a.member | no m ↦ a.keeps g (t.holds g (omega arith)) ];
    })
  ]

  pub highest_add : {n i : ℕ} → Adds i S S' → Highest S n → Highest S' (max (suc i) n)
  highest_add {n} {i} a t = record {
    most = λ g x. elim (ℕ_discrete g i) [ yes e ↦ omega arith | no m ↦ omega (arith, t.most g (a.others g m x)) ];
    holds = λ g e. elim (ℕ_discrete g i) [ yes q ↦ subst S' (sym q) a.member | no m ↦ a.keeps g (t.holds g (omega arith)) ];
  }

-- what one processor keeps changes, and the part f of it does not
pub put_keeps : {A B : Type 0} (f : A → B) (own : ℕ → A) (p : ℕ) (o : A) → f o ≡ f (own p) → (q : ℕ) → f (put own p o q) ≡ f (own q)
put_keeps {B} f own p o e q = elim (ℕ_discrete p q) [
  | yes z ↦ ap f (put_same z own o) ∙ e ∙ ap {B = B} (λ (j : ℕ). f (own j)) z
  | no z ↦ ap f (put_other z own o)
]

-- s p is 1 + the highest member of processor p, 0 if it has none
pub record Stamp (π : ℕ → ℕ) (S : ℕ → Type 0) (s : ℕ → ℕ) : Type 0 where
  pub up : (g : ℕ) → S g → g < s (π g)
  pub down : (p g : ℕ) → s p ≡ suc g → (π g ≡ p) × S g

module _ (π : ℕ → ℕ) where
  pub stamp_same : {S S' : ℕ → Type 0} {s : ℕ → ℕ} → Same S S' → Stamp π S s → Stamp π S' s
  stamp_same f t = record { up = λ g x. t.up g ((f g).1 x); down = λ p g e. let r = t.down p g e in (r.0, (f g).0 r.1) }

  -- none of i's processor is above i
  abbrev pub Tops : ℕ → (ℕ → Type 0) → Type 0
  Tops i S = (g : ℕ) → S g → π g ≡ π i → g ≤ i

  -- the stamp of i's processor says whether i is a member
  pub stamp_has : {S : ℕ → Type 0} {s : ℕ → ℕ} {i : ℕ} → Stamp π S s → Tops i S → S i → s (π i) ≡ suc i
  stamp_has {S} {s} {i} t a x = go (s (π i)) refl (t.up i x)
    where
      go : (m : ℕ) → s (π i) ≡ m → i < m → m ≡ suc i
      go zero e b = absurd (omega arith)
      go (suc g) e b = let r = t.down (π i) g e in omega (arith, a g r.1 r.0)

  pub stamp_add : {S S' : ℕ → Type 0} {s s' : ℕ → ℕ} {i : ℕ} → Adds i S S' → Tops i S → s' (π i) ≡ suc i → ((p : ℕ) → p ≢ π i → s' p ≡ s p)
      → Stamp π S s → Stamp π S' s'
  stamp_add {S} {S'} {s} {s'} {i} a t e o h = record {
    up = λ g x. elim (ℕ_discrete g i) [
      | yes q ↦ omega (arith, ap (λ (j : ℕ). s' (π j)) q)
      | no m ↦ elim (ℕ_discrete (π g) (π i)) [
        | yes q ↦ omega (arith, t g (a.others g m x) q, ap s' q)
        | no w ↦ omega (arith, o (π g) w, h.up g (a.others g m x))
      ]
    ];
    down = λ p g q. elim (ℕ_discrete p (π i)) [
      | yes w ↦ let z : g ≡ i = omega (arith, ap s' w) in (ap π z ∙ sym w, subst S' (sym z) a.member)
      | no w ↦ let r = h.down p g (sym (o p w) ∙ q) in (r.0, a.keeps g r.1)
    ];
  }

  -- the same, where a stamp is part of what a processor keeps
  module _ {A : Type 0} (f : A → ℕ) (own : ℕ → A) {S S' : ℕ → Type 0} where
    pub stamp_put : {o : A} {i : ℕ} → Adds i S S' → Tops i S → f o ≡ suc i → Stamp π S (λ p. f (own p)) → Stamp π S' (λ p. f (put own (π i) o p))
    stamp_put {o} {i} a t e h = stamp_add a t (ap f (put_same refl own o) ∙ e) (λ p n. ap f (put_other (λ (q : π i ≡ p). n (sym q)) own o)) h

    pub stamp_keep : {o : A} {i : ℕ} → Same S S' → f o ≡ f (own (π i)) → Stamp π S (λ p. f (own p)) → Stamp π S' (λ p. f (put own (π i) o p))
    stamp_keep {o} {i} a e h = record {
      up = λ g x. rw (put_keeps f own (π i) o e (π g)) (h.up g ((a g).1 x));
      down = λ p g q. let r = h.down p g (sym (put_keeps f own (π i) o e p) ∙ q) in (r.0, (a g).0 r.1);
    }
