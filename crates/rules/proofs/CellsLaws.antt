-- Lists of cells and functions from a cell's number are the same thing, for as many cells as there are.
use mathlib.Core.Path.{◌≡◌, refl, sym, ◌∙◌, ap, fun_ext}
use mathlib.Core.List.{List, [], ◌∷◌}
use Prim.Native.Nat.{ℕ, zero, suc, ◌<◌}
use native.Mathlib.Decide.{ℕ_discrete}
use native.Mathlib.Omega.{arith}
use lib.ListN.{length, get_or, set}
use lib.Seq.{get_or-set_same, get_or-set_other}
use lib.IntN.{ℤ, pos}
use Rattle.rules.specs.Choose.{put}
use Rattle.rules.specs.ChooseLaws.{put_same, put_other}
use Rattle.rules.specs.Cells.{cell_of, listed}

pub listed_length : {A : Type 0} (n : ℕ) (f : ℕ → A) → length (listed n f) ≡ n
unfolding listed
listed_length zero f = refl
listed_length (suc n) f = ap suc (listed_length n (λ c. f (suc c)))

pub listed_at : {A : Type 0} (n : ℕ) (f : ℕ → A) (c : ℕ) (z : A) → c < n → get_or (listed n f) c z ≡ f c
unfolding listed
listed_at zero f c z h = absurd (omega arith)
listed_at (suc n) f zero z h = refl
listed_at (suc n) f (suc c) z h = listed_at n (λ d. f (suc d)) c z (omega arith)

-- the list of a function, read back
pub cell_listed : (n : ℕ) (f : ℕ → ℤ) (c : ℕ) → c < n → cell_of (listed n f) c ≡ f c
unfolding cell_of
cell_listed n f c h = listed_at n f c (pos 0) h

-- only the first n values count
pub listed_same : {A : Type 0} (n : ℕ) (f g : ℕ → A) → ((c : ℕ) → c < n → f c ≡ g c) → listed n f ≡ listed n g
unfolding listed
listed_same zero f g h = refl
listed_same (suc n) f g h = cc (h zero (omega arith), listed_same n (λ c. f (suc c)) (λ c. g (suc c)) (λ c b. h (suc c) (omega arith)))

-- the function of a list, listed
pub listed_cells : (m : List ℤ) → listed (length m) (cell_of m) ≡ m
unfolding listed cell_of
listed_cells [] = refl
listed_cells (x ∷ m) = ap (λ (t : List ℤ). x ∷ t) (listed_cells m)

-- a store in the list is a change of the function
pub cell_set : (m : List ℤ) (c : ℕ) (v : ℤ) → c < length m → cell_of (set m c v) ≡ put (cell_of m) c v
unfolding cell_of
cell_set m c v h = fun_ext (λ d. elim (ℕ_discrete c d) [
  | yes e ↦ ap (cell_of (set m c v)) (sym e) ∙ get_or-set_same m c v (pos 0) h ∙ sym (put_same e (cell_of m) v)
  | no n ↦ get_or-set_other m c d v (pos 0) (λ (x : d ≡ c). n (sym x)) ∙ sym (put_other n (cell_of m) v)
])
