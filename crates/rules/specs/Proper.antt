-- What is asked of a loop and of the way its iterations are dealt out. Each holds for every accepted text, for the reason given.
use Rattle.std.specs.Prelude.{◌≡◌, ℕ, suc, ◌≤◌, ◌<◌, ℤ}
use Rattle.rules.specs.declared.Class.{Class}
use Rattle.rules.specs.Loop.{Act, read, write, update, fault, done, Reduces, Loop, Partition}

-- only reduction cells are updated
abbrev pub Sums : (ℕ → Class) → Act → Type 0
Sums k (read c a) = (x : ℤ) → Sums k (a x)
Sums k (write c v a) = Sums k a
Sums k (update c v a) = Reduces (k c) × Sums k a
Sums k (fault n t) = Unit {0}
Sums k done = Unit {0}

-- all accesses are of cells below k
abbrev pub Sized : ℕ → Act → Type 0
Sized k (read c a) = (c < k) × ((x : ℤ) → Sized k (a x))
Sized k (write c v a) = (c < k) × Sized k a
Sized k (update c v a) = (c < k) × Sized k a
Sized k (fault n t) = Unit {0}
Sized k done = Unit {0}

pub record Proper (l : Loop) (δ : Partition) : Type 0 where
  -- groups follow one another and cover the iterations: with single iterations by definition, with blocks as processors' shares below
  pub cut_first : δ.cut 0 ≡ 0
  pub cut_grows : (g : ℕ) → δ.cut g ≤ δ.cut (suc g)
  pub cut_last : (g : ℕ) → δ.groups ≤ g → δ.cut g ≡ l.iterations
  pub group_is : (g i : ℕ) → δ.cut g ≤ i → i < δ.cut (suc g) → δ.group i ≡ g
  -- processors' shares follow one another and cover the groups: floor(n p / P) is 0 at 0, does not fall, and is n at P, since P is at least 1
  pub share_first : δ.share 0 ≡ 0
  pub share_grows : (p : ℕ) → δ.share p ≤ δ.share (suc p)
  pub share_last : (p : ℕ) → δ.processors ≤ p → δ.share p ≡ δ.groups
  -- "An update is an assignment to a cell of a reduction name"
  pub sums : (i : ℕ) → Sums l.class (l.body i)
  -- "A subscript is tested against its array ... as soon as it is worked out", so before the access
  pub sized : (i : ℕ) → Sized l.size (l.body i)
