-- The result of the updates in a log is that of its parts, taken together: by iteration, and by processor. It is shown for any lawful operation.
use mathlib.Core.Path.{◌≡◌, refl, sym, ◌∙◌, ap}
use mathlib.Core.Logic.{◌≢◌}
use mathlib.Core.List.{[], ◌∷◌}
use Prim.Native.Nat.{ℕ, zero, suc, ◌≤◌, ◌<◌}
use native.Mathlib.Decide.{ℕ_discrete, dec_lt}
use native.Mathlib.Omega.{arith}
use lib.IntN.{ℤ}
use Rattle.rules.specs.ChooseLaws.{pick_same, pick_other, below_yes, below_no}
use Rattle.rules.specs.Choose.{below}
use Rattle.rules.specs.Operation.{Operation, Lawful}
use Rattle.rules.specs.Loop.{Loop, bound, Partition}
use Rattle.rules.specs.Log.{reads, writes, updates, Access, access, iteration, Log, only, each}
use Rattle.rules.specs.LogLaws.{only_same, only_other, only_nil}
use Rattle.rules.proofs.Progress.{owner_from, owner_to, bounds_grow, bound_first, bound_grows, bound_last}
use Rattle.rules.specs.Owner.{owner}
use Rattle.rules.specs.Proper.{Proper}
use Rattle.rules.specs.Merge.{block, add, total, join_all, gathered}

module _ (γ : ℕ → ℕ) where
  -- all accesses are of groups below n
  abbrev pub Within : ℕ → Log → Type 0
  Within n g = (j : ℕ) → n ≤ j → only γ j g ≡ []

  pub within_tail : (n : ℕ) (e : Access) (g : Log) → Within n (e ∷ g) → Within n g
  within_tail n e g u j h = (only_nil γ j e g (u j h)).1

  pub within_newest : (n : ℕ) (e : Access) (g : Log) → Within n (e ∷ g) → γ (iteration e) < n
  within_newest n e g u = elim (dec_lt (γ (iteration e)) n) [
    | yes y ↦ y
    | no y ↦ absurd ((only_nil γ (γ (iteration e)) e g (u (γ (iteration e)) (omega arith))).0 refl)
  ]

-- for any operation
pub join_same : (o : Operation) (k : ℕ) (f f' : ℕ → ℤ) → ((j : ℕ) → j < k → f j ≡ f' j) → join_all o k f ≡ join_all o k f'
unfolding join_all
join_same o zero f f' z = refl
join_same o (suc k) f f' z = cc (z k (omega arith), join_same o k f f' (λ j b. z j (omega arith)))

-- for any operation that is commutative, associative and has a neutral number
module _ (o : Operation) (w : Lawful o) where
  -- e adds to two results as it adds to either
  add_left : (c : ℕ) (e : Access) (x y : ℤ) → add o c e (o.join x y) ≡ o.join (add o c e x) y
  unfolding add
  add_left c (access reads i d v) x y = refl
  add_left c (access writes i d v) x y = refl
  add_left c (access updates i d v) x y = elim (ℕ_discrete d c) [
    | yes p ↦ rw (pick_same p (o.join v (o.join x y)) (o.join x y), pick_same p (o.join v x) x) (sym (w.assoc v x y))
    | no p ↦ rw (pick_other p (o.join v (o.join x y)) (o.join x y), pick_other p (o.join v x) x)
  ]

  add_right : (c : ℕ) (e : Access) (x y : ℤ) → add o c e (o.join x y) ≡ o.join x (add o c e y)
  add_right c e x y = ap (add o c e) (w.comm x y) ∙ add_left c e y x ∙ w.comm (add o c e y) x

  join_starts : (k : ℕ) (f : ℕ → ℤ) → ((j : ℕ) → f j ≡ o.start) → join_all o k f ≡ o.start
  unfolding join_all
  join_starts zero f z = refl
  join_starts (suc k) f z = cc (z k, join_starts k f z, w.starts)

  -- results with e added to one of them
  join_add : (c : ℕ) (e : Access) (k i : ℕ) (f f' : ℕ → ℤ) → i < k → f' i ≡ add o c e (f i) → ((j : ℕ) → j ≢ i → f' j ≡ f j)
      → join_all o k f' ≡ add o c e (join_all o k f)
  unfolding join_all
  join_add c e zero i f f' b p q = absurd (omega arith)
  join_add c e (suc k) i f f' b p q = elim (ℕ_discrete k i) [
    | yes r ↦ cc (join_same o k f' f (λ j x. q j (omega arith)), add_right c e (join_all o k f) (f k), ap f r, ap f' r)
    | no n ↦ cc (join_add c e k i f f' (omega arith) p q, q k n, add_left c e (join_all o k f) (f k))
  ]

  -- parts of a log, each access in one of them
  module _ (n : ℕ) (part : ℕ → Log → Log) (k : ℕ) (nil : (j : ℕ) → part j [] ≡ [])
      (home : (e : Access) → iteration e < n
      → (i : ℕ) × (i < k) × ((g : Log) → part i (e ∷ g) ≡ e ∷ part i g) × ((j : ℕ) (g : Log) → j ≢ i → part j (e ∷ g) ≡ part j g))
    where
      total_parts : (c : ℕ) (g : Log) → Within (λ j. j) n g → total o c g ≡ join_all o k (λ j. total o c (part j g))
      unfolding total
      total_parts c [] u = sym (join_starts k (λ j. total o c (part j [])) (λ j. ap (total o c) (nil j)))
      total_parts c (e ∷ g) u =
          let r = home e (within_newest (λ j. j) n e g u) in
          ap (add o c e) (total_parts c g (within_tail (λ j. j) n e g u))
          ∙ sym (join_add c e k r.0 (λ j. total o c (part j g)) (λ j. total o c (part j (e ∷ g))) r.1 (ap (total o c) (r.2 g))
          (λ j n. ap (total o c) (r.3 j g n)))

  pub total_iterations : (n c : ℕ) (g : Log) → Within (λ j. j) n g → total o c g ≡ join_all o n (λ i. total o c (each i g))
  unfolding only
  total_iterations n = total_parts n each n (λ j. refl)
      (λ e b. (iteration e, b, λ g. only_same (λ k. k) e refl g, λ j g n. only_other (λ k. k) e (λ (p : iteration e ≡ j). n (sym p)) g))

module _ (l : Loop) (δ : Partition) (h : Proper l δ) where
  module _ (e : Access) (g : Log) (p : ℕ) (from : bound δ p ≤ iteration e) (to : iteration e < bound δ (suc p)) where
    block_in : block δ p (e ∷ g) ≡ e ∷ block δ p g
    unfolding block
    block_in =
        below_no from (block δ p g) (below (iteration e) (bound δ (suc p)) (e ∷ block δ p g) (block δ p g))
        ∙ below_yes to (e ∷ block δ p g) (block δ p g)

    block_out : (q : ℕ) → q ≢ p → block δ q (e ∷ g) ≡ block δ q g
    unfolding block
    block_out q n = elim (dec_lt (iteration e) (bound δ q)) [
      | yes y ↦ below_yes y (block δ q g) (below (iteration e) (bound δ (suc q)) (e ∷ block δ q g) (block δ q g))
      | no y ↦ below_no (omega arith) (block δ q g) (below (iteration e) (bound δ (suc q)) (e ∷ block δ q g) (block δ q g)) ∙ below_no (elim (dec_lt p q) [
        | yes z ↦ absurd (omega (arith, bounds_grow (bound δ) (bound_grows l δ h) (suc p) q z))
        | no z ↦ omega (arith, bounds_grow (bound δ) (bound_grows l δ h) (suc q) p (omega arith))
      ]) (e ∷ block δ q g) (block δ q g)
    ]

  -- the merge: the processors' partial results, taken together, are the result
  pub total_gathered : (o : Operation) → Lawful o → (c : ℕ) (g : Log) → Within (λ j. j) l.iterations g → total o c g ≡ gathered o δ c g
  unfolding gathered block
  total_gathered o w = total_parts o w l.iterations (block δ) δ.processors (λ j. refl) home
    where
      home : (e : Access) → iteration e < l.iterations
          → (i : ℕ) × (i < δ.processors) × ((g : Log) → block δ i (e ∷ g) ≡ e ∷ block δ i g)
          × ((j : ℕ) (g : Log) → j ≢ i → block δ j (e ∷ g) ≡ block δ j g)
      home e b =
          let k = δ.processors in
          let i = owner (bound δ) k (iteration e) in
          let from : bound δ i ≤ iteration e = owner_from (bound δ) (bound_grows l δ h) (bound_first l δ h) k (iteration e) in
          let r = owner_to (bound δ) (bound_grows l δ h) (bound_first l δ h) k (iteration e) (omega (arith, bound_last l δ h k (omega arith))) in
          (i, r.1, λ g. block_in e g i from r.0, λ j g n. block_out e g i from r.0 j n)
