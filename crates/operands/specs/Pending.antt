-- The pending values: an array, and how many of its values count.
use Rattle.std.specs.Prelude.{◌≡◌, List, [], ◌∷◌, ℕ, zero, suc, ◌+◌, ◌≤◌, length, get_or, set, ℤ, pos}

-- the first d values of an array, the last first
unfoldable pub pendings : List ℤ → ℕ → List ℤ
pendings a zero = []
pendings a (suc d) = get_or a d (pos 0) ∷ pendings a d

-- an array of 32, of which d values are pending
pub record Holding (a : List ℤ) (d : ℕ) : Type 0 where
  pub size : length a ≡ 32
  pub most : d ≤ 32

-- b is a with x as one value more pending, and r are pending
pub record Pushed (a : List ℤ) (d : ℕ) (x : ℤ) (b : List ℤ) (r : ℕ) : Type 0 where
  pub array : b ≡ set a d x
  pub values : pendings b r ≡ x ∷ pendings a d
  pub deeper : r ≡ d + 1
  pub size : length b ≡ 32
