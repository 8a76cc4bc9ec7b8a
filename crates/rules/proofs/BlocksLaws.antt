-- The blocks of the processors follow one another and cover the iterations, so they are a proper partition, iteration by iteration and as they
-- are.
use mathlib.Core.Path.{◌≡◌, refl, ◌∙◌, ap}
use Prim.Native.Nat.{ℕ, suc, ◌*◌, ◌/◌, min, ◌≤◌, ◌<◌}
use native.Mathlib.Nat.{mul-zero, zero-div, mul-le-mul_left, le-div_iff_mul-le, div-mul-le_self, le_trans, mul-div_cancel}
use native.Mathlib.Decide.{dec_le}
use native.Mathlib.Omega.{arith}
use Rattle.rules.specs.declared.Grouping.{Grouping}
use Rattle.rules.specs.declared.Grouping.TheVariants.{Iterations, Blocks}
use Rattle.rules.specs.Loop.{Loop, bound}
use Rattle.rules.specs.Owner.{owner}
use Rattle.rules.specs.Blocks.{block_start, singles, blocks, tested}
use Rattle.rules.specs.Numbers.{grouped}
use Rattle.rules.specs.Proper.{Sums, Sized, Proper}
use Rattle.rules.proofs.Progress.{owner_is}

module _ (n k : ℕ) (some : 0 < k) where
  pub start_last : block_start n k k ≡ n
  unfolding block_start
  start_last = mul-div_cancel n some

  start_grows : (p q : ℕ) → p ≤ q → block_start n k p ≤ block_start n k q
  unfolding block_start
  start_grows p q h = (le-div_iff_mul-le some).1 (le_trans (div-mul-le_self (n * p) k) (mul-le-mul_left n h))

  start_first : block_start n k 0 ≡ 0
  unfolding block_start
  start_first = ap (λ (x : ℕ). x / k) (mul-zero n) ∙ zero-div k

  pub start_within : (p : ℕ) → p ≤ k → block_start n k p ≤ n
  start_within p h = omega (arith, start_grows p k h, start_last)

  -- the processors' blocks, none past the last iteration
  abbrev block_cut : ℕ → ℕ
  block_cut p = min n (block_start n k p)

  cut_grows : (p : ℕ) → block_cut p ≤ block_cut (suc p)
  cut_grows p = omega (arith, start_grows p (suc p) (omega arith))

  cut_last : (p : ℕ) → k ≤ p → block_cut p ≡ n
  cut_last p b = omega (arith, start_grows k p b, start_last)

  cut_owner : (p i : ℕ) → block_cut p ≤ i → i < block_cut (suc p) → owner block_cut k i ≡ p
  cut_owner p i a b = owner_is block_cut cut_grows k i p a b (elim (dec_le p k) [
    | yes y ↦ y
    | no y ↦ absurd (omega (arith, cut_last p (omega arith), cut_last (suc p) (omega arith)))
  ])

  -- in either test the processors' blocks are as RULES 4.1 has them
  pub tested_bound : (γ : Grouping) (p : ℕ) → p ≤ k → bound (tested γ n k) p ≡ block_start n k p
  unfolding tested singles blocks
  tested_bound Iterations p h = omega (arith, start_within p h)
  tested_bound Blocks p h = let e : min k p ≡ p = omega arith in ap block_cut e ∙ omega (arith, start_within p h)

  -- the group of an iteration of processor p
  pub tested_group : (γ : Grouping) (p i : ℕ) → p < k → block_start n k p ≤ i → i < block_start n k (suc p) → (tested γ n k).group i ≡ grouped γ i p
  unfolding tested singles blocks
  tested_group Iterations p i h a b = refl
  tested_group Blocks p i h a b = cut_owner p i (omega arith) (omega (arith, start_within (suc p) h))

-- either test is over the processors that there are, with as many groups as iterations or processors
pub tested_processors : (γ : Grouping) (n k : ℕ) → (tested γ n k).processors ≡ k
unfolding tested singles blocks
tested_processors Iterations n k = refl
tested_processors Blocks n k = refl

pub tested_groups : (γ : Grouping) (n k b : ℕ) → n ≤ b → k ≤ b → (tested γ n k).groups ≤ b
unfolding tested singles blocks
tested_groups Iterations n k b x y = x
tested_groups Blocks n k b x y = y

-- an iteration's group is one of two numbers
pub grouped_below : (γ : Grouping) (i p b : ℕ) → i < b → p < b → grouped γ i p < b
grouped_below Iterations i p b x y = x
grouped_below Blocks i p b x y = y

-- a loop is proper over either
module _ (l : Loop) (k : ℕ) (some : 0 < k) (sums : (i : ℕ) → Sums l.class (l.body i)) (sized : (i : ℕ) → Sized l.size (l.body i)) where
  pub singles_proper : Proper l (singles l.iterations k)
  unfolding singles
  singles_proper = record {
    cut_first = omega arith;
    cut_grows = λ g. omega arith;
    cut_last = λ g b. omega arith;
    group_is = λ g i a b. omega arith;
    share_first = omega (arith, start_first l.iterations k some);
    share_grows = cut_grows l.iterations k some;
    share_last = cut_last l.iterations k some;
    sums = sums;
    sized = sized;
  }

  pub blocks_proper : Proper l (blocks l.iterations k)
  unfolding blocks
  blocks_proper = record {
    cut_first = omega (arith, start_first l.iterations k some);
    cut_grows = cut_grows l.iterations k some;
    cut_last = cut_last l.iterations k some;
    group_is = cut_owner l.iterations k some;
    share_first = omega arith;
    share_grows = λ p. omega arith;
    share_last = λ p b. omega arith;
    sums = sums;
    sized = sized;
  }

  pub tested_proper : (γ : Grouping) → Proper l (tested γ l.iterations k)
  unfolding tested
  tested_proper Iterations = singles_proper
  tested_proper Blocks = blocks_proper
