-- What a group of iterations still does: the accesses of its iterations, one iteration after another.
use mathlib.Core.Path.{◌≡◌, ap}
use Prim.Native.Nat.{ℕ, zero, suc, ◌-◌, ◌<◌, ◌≤◌}
use native.Mathlib.Omega.{arith}
use lib.IntN.{ℤ}
use Rattle.rules.specs.Loop.{Act, read, write, update, fault, done, Loop, Partition}

-- as Act, with the iteration of each access
pub data Job : Type 0 where
  reading : ℕ → ℕ → (ℤ → Job) → Job
  writing : ℕ → ℕ → ℤ → Job → Job
  updating : ℕ → ℕ → ℤ → Job → Job
  failing : ℕ → ℕ → ℕ → Job
  idle : Job

-- iteration i with a left, then b
unfoldable pub before : ℕ → Act → Job → Job
before i (read c k) b = reading i c (λ x. before i (k x) b)
before i (write c v a) b = writing i c v (before i a b)
before i (update c v a) b = updating i c v (before i a b)
before i (fault n t) b = failing i n t
before i done b = b

module _ (l : Loop) where
  -- k iterations, the first of them i
  unfoldable pub chain : ℕ → ℕ → Job
  chain zero i = idle
  chain (suc k) i = before i (l.body i) (chain k (suc i))

  -- the iterations from i up to below b
  abbrev pub span : ℕ → ℕ → Job
  span i b = chain (b - i) i

  pub span_open : (i b : ℕ) → i < b → span i b ≡ before i (l.body i) (span (suc i) b)
  unfolding chain
  span_open i b h = ap (λ (k : ℕ). chain k i) e
    where
      e : b - i ≡ suc (b - suc i)
      e = omega arith

  pub span_none : (i b : ℕ) → b ≤ i → span i b ≡ idle
  unfolding chain
  span_none i b h = ap (λ (k : ℕ). chain k i) e
    where
      e : b - i ≡ 0
      e = omega arith

-- group g
abbrev pub job : Loop → Partition → ℕ → Job
job l δ g = span l (δ.cut g) (δ.cut (suc g))
