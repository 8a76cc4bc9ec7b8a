-- Orders: what stands where, orders one after another, orders that keep a relation, and the order of the numbers.
use mathlib.Core.Path.{◌≡◌, refl, sym, subst}
use mathlib.Core.Logic.{◌≢◌, ◌⊎◌, inl, inr}
use mathlib.Core.List.{List, [], ◌∷◌, ◌++◌}
use Prim.Native.Nat.{ℕ, zero, suc, ◌+◌, ◌≤◌, ◌<◌}
use native.Mathlib.Decide.{ℕ_discrete}
use native.Mathlib.Omega.{arith}
use Rattle.reorder.specs.Orders.{In, at, after, Before, first, later, Once, once_nil, once_cons, Order, range}

-- ---- what stands where

pub in_nil : {i : ℕ} → In i [] → ⊥
in_nil h = elim h [ ]

pub in_cases : {i j : ℕ} {o : List ℕ} → In i (j ∷ o) → (i ≡ j) ⊎ In i o
in_cases at = inl refl
in_cases (after h) = inr h

in_same : {i j : ℕ} {o : List ℕ} → i ≡ j → In i o → In j o
in_same {o} p h = subst (λ (x : ℕ). In x o) p h

pub in_first : {i j : ℕ} {o : List ℕ} → Before i j o → In i o
in_first (first h) = at
in_first (later b) = after (in_first b)

pub in_second : {i j : ℕ} {o : List ℕ} → Before i j o → In j o
in_second (first h) = after h
in_second (later b) = after (in_second b)

before_cases : {i j k : ℕ} {o : List ℕ} → Before i j (k ∷ o) → ((i ≡ k) × In j o) ⊎ Before i j o
before_cases (first h) = inl (refl, h)
before_cases (later b) = inr b

-- of two different numbers one stands before the other
pub before_or : {i j : ℕ} {o : List ℕ} → i ≢ j → In i o → In j o → Before i j o ⊎ Before j i o
before_or n at h = elim (in_cases h) [ inl p ↦ absurd (n (sym p)) | inr t ↦ inl (first t) ]
before_or n (after g) h = elim (in_cases h) [ inl p ↦ inr (rw p (first g)) | inr t ↦ elim (before_or n g t) [ inl b ↦ inl (later b) | inr b ↦ inr (later b) ] ]

-- ---- one list after another

pub in_append : {i : ℕ} (o p : List ℕ) → In i (o ++ p) → In i o ⊎ In i p
in_append [] p h = inr h
in_append (j ∷ o) p h = elim (in_cases h) [ inl e ↦ inl (rw e at) | inr t ↦ elim (in_append o p t) [ inl u ↦ inl (after u) | inr u ↦ inr u ] ]

pub in_left : {i : ℕ} {o : List ℕ} (p : List ℕ) → In i o → In i (o ++ p)
in_left p at = at
in_left p (after h) = after (in_left p h)

pub in_right : {i : ℕ} (o : List ℕ) {p : List ℕ} → In i p → In i (o ++ p)
in_right [] h = h
in_right (j ∷ o) h = after (in_right o h)

pub before_append : {i j : ℕ} (o p : List ℕ) → Before i j (o ++ p) → Before i j o ⊎ ((In i o × In j p) ⊎ Before i j p)
before_append [] p b = inr (inr b)
before_append (k ∷ o) p b = elim (before_cases b) [
  | inl e ↦ elim (in_append o p e.1) [ inl u ↦ inl (rw e.0 (first u)) | inr u ↦ inr (inl (rw e.0 at, u)) ]
  | inr c ↦ elim (before_append o p c) [ inl u ↦ inl (later u) | inr (inl u) ↦ inr (inl (after u.0, u.1)) | inr (inr u) ↦ inr (inr u) ]
]

pub once_append : (o p : List ℕ) → Once o → Once p → ((i : ℕ) → In i o → ¬ In i p) → Once (o ++ p)
once_append [] p a b h = b
once_append (j ∷ o) p (once_cons n a) b h = once_cons (λ (x : In j (o ++ p)). elim (in_append o p x) [ inl u ↦ n u | inr u ↦ h j at u ])
    (once_append o p a b (λ i x. h i (after x)))

-- ---- orders that keep a relation

-- no number stands before a lower one that it depends on
pub data Keeps (D : ℕ → ℕ → Type 0) : List ℕ → Type 0 where
  keeps_nil : Keeps D []
  keeps_cons : {i : ℕ} {o : List ℕ} → ((j : ℕ) → j < i → In j o → ¬ D j i) → ¬ In i o → Keeps D o → Keeps D (i ∷ o)

pub keeps : (D : ℕ → ℕ → Type 0) {o : List ℕ} → Once o → ((i j : ℕ) → i < j → In i o → In j o → D i j → Before i j o) → Keeps D o
keeps D once_nil h = keeps_nil
keeps D (once_cons {i = i} n s) h = keeps_cons
    (λ j y t d. elim (before_cases (h j i y (after t) at d)) [ inl p ↦ absurd (let q : j ≡ i = p.0 in omega arith) | inr b ↦ n (in_second b) ])
    n
    (keeps D s (λ j k y t u d. elim (before_cases (h j k y (after t) (after u) d)) [ inl p ↦ absurd (n (in_same p.0 t)) | inr b ↦ b ]))

-- ---- the order of the numbers

range_in : (k i j : ℕ) → i ≤ j → j < i + k → In j (range k i)
unfolding range
range_in zero i j x y = absurd (omega arith)
range_in (suc k) i j x y = elim (ℕ_discrete i j) [ yes p ↦ rw p at | no p ↦ after (range_in k (suc i) j (omega arith) (omega arith)) ]

pub range_bounds : (k i j : ℕ) → In j (range k i) → (i ≤ j) × (j < i + k)
unfolding range
range_bounds zero i j h = absurd (in_nil h)
range_bounds (suc k) i j h = elim (in_cases h) [ inl p ↦ omega arith | inr t ↦ let b = range_bounds k (suc i) j t in omega arith ]

range_once : (k i : ℕ) → Once (range k i)
unfolding range
range_once zero i = once_nil
range_once (suc k) i = once_cons (λ h. let b = range_bounds k (suc i) i h in omega arith) (range_once k (suc i))

pub range_before : (k s i j : ℕ) → i < j → In i (range k s) → In j (range k s) → Before i j (range k s)
unfolding range
range_before zero s i j x g h = absurd (in_nil g)
range_before (suc k) s i j x g h = elim (in_cases h) [
  | inl p ↦ absurd (let b = range_bounds (suc k) s i g in omega arith)
  | inr t ↦ elim (in_cases g) [ inl p ↦ rw p (first t) | inr u ↦ later (range_before k (suc s) i j x u t) ]
]

pub range_order : (n : ℕ) → Order n (range n 0)
range_order n = record {
  once = range_once n 0;
  has = λ i h. range_in n 0 i (omega arith) (omega arith);
  small = λ i h. let b = range_bounds n 0 i h in omega arith;
}
