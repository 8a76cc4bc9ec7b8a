-- A subscript inside its array, and outside; the two of a grid.
use mathlib.Core.Path.{◌≡◌, refl, sym, ◌∙◌, ap, fun_ext, subst}
use mathlib.Core.Bool.{true, false}
use mir.Syntax.{w32, w64}
use mir.Val.{Fits, SFits, to_z, of_z}
use mir.ValLaws.{to_z-of_z}
use Prim.Native.Nat.{ℕ, zero, suc, ◌+◌, ◌-◌, ◌*◌, ◌≤◌, ◌<◌}
use native.Mathlib.Nat.{mul-le-mul}
use native.Mathlib.Omega.{arith}
use borrow.Author.Tests.{lt-leb, le-leb, ltb-true, ltb-false}
use lib.Dec.{T}
use lib.IntN.{ℤ, pos, negsuc, nat_abs}
use lib.Signed.{lt_z, non_neg, mag}
use Rattle.rules.specs.Loop.{Act, read, write, update, fault, done}
use Rattle.syntax.specs.Meaning.{located, in_grid}
use Rattle.syntax.proofs.Placing.{located_among, in_grid_among}
use Rattle.std.specs.Prelude.{Option, Some, None}
use Rattle.accesses.specs.Cells.{at_cell}

pub located_low : (line b n : ℕ) (i : ℤ) (k : ℕ → Act) → lt_z i (pos 1) ≡ true → located line b n i k ≡ fault 9 line
unfolding located
located_low line b n (pos zero) k h = refl
located_low line b n (pos (suc m)) k h = absurd (omega (arith, ltb-true (suc m) 1 h))
located_low line b n (negsuc m) k h = refl

pub positive : (i : ℤ) → lt_z i (pos 1) ≡ false → T (non_neg i) × (1 ≤ nat_abs i) × (mag i ≡ nat_abs i)
positive (pos n) h = (tt, ltb-false n 1 h, refl)
positive (negsuc n) h = absurd (let z : ◌≡◌ {A = ℕ} 0 1 = cc in omega arith)

pub located_far : (line b n : ℕ) (i : ℤ) (k : ℕ → Act) → lt_z i (pos 1) ≡ false → n ≤ nat_abs i - 1 → located line b n i k ≡ fault 9 line
unfolding located
located_far line b n (pos zero) k h l = refl
located_far line b n (pos (suc m)) k h l = rw (le-leb 1 (suc m) (omega arith), lt-leb (suc m) n (omega arith))
located_far line b n (negsuc m) k h l = refl

pub located_at : (line b n : ℕ) (i : ℤ) (k : ℕ → Act) → lt_z i (pos 1) ≡ false → nat_abs i - 1 < n → located line b n i k ≡ k (b + (nat_abs i - 1))
unfolding located
located_at line b n (pos zero) k h l = absurd (omega (arith, ltb-false 0 1 h))
located_at line b n (pos (suc m)) k h l = rw (le-leb 1 (suc m) (omega arith), le-leb (suc m) n (omega arith))
located_at line b n (negsuc m) k h l = absurd (let z : ◌≡◌ {A = ℕ} 0 1 = cc in omega arith)

-- what `locate` found for a subscript that was read
pub located_found : (line b n : ℕ) (i : ℤ) (q : Option ℕ) (k : ℕ → Act) → SFits w32 i
    → ((line : ℕ) (k : ℕ → Act) → located line b n (to_z w32 (of_z w32 i)) k ≡ at_cell q line k) → located line b n i k ≡ at_cell q line k
located_found line b n i q k f l = ap (λ (j : ℤ). located line b n j k) (sym (to_z-of_z w32 i f)) ∙ l line k

-- ---- the two subscripts of a grid

-- what `locate` found for two subscripts that were read
pub in_grid_found : (line m n : ℕ) (i j : ℤ) (p q : Option ℕ) (k : ℕ → Act) → SFits w32 i → SFits w32 j
    → ((line : ℕ) (k : ℕ → Act) → located line 0 m (to_z w32 (of_z w32 i)) k ≡ at_cell p line k)
    → ((line : ℕ) (k : ℕ → Act) → located line 0 n (to_z w32 (of_z w32 j)) k ≡ at_cell q line k)
    → in_grid line 0 m n i j k ≡ at_cell p line (λ a. at_cell q line (λ b. k (a + b * m)))
unfolding in_grid
in_grid_found line m n i j p q k f g l o =
    located_found line 0 m i p _ f l ∙ ap (at_cell p line) (fun_ext (λ a. located_found line 0 n j q _ g o))

-- with the first outside its bounds the second has no part
pub in_grid_outside : (line m n : ℕ) (i j : ℤ) (k : ℕ → Act) → SFits w32 i
    → ((line : ℕ) (k : ℕ → Act) → located line 0 m (to_z w32 (of_z w32 i)) k ≡ at_cell None line k) → in_grid line 0 m n i j k ≡ at_cell None line k
unfolding in_grid at_cell
in_grid_outside line m n i j k f l = located_found line 0 m i None _ f l

-- what `locate_both` found for them
pub place_found : (line m n : ℕ) (i j : ℤ) (q : Option ℕ) (k : ℕ → Act) → SFits w32 i → SFits w32 j
    → ((line : ℕ) (k : ℕ → Act) → in_grid line 0 m n (to_z w32 (of_z w32 i)) (to_z w32 (of_z w32 j)) k ≡ at_cell q line k)
    → in_grid line 0 m n i j k ≡ at_cell q line k
place_found line m n i j q k f g l = sym (λ d. in_grid line 0 m n (to_z-of_z w32 i f d) (to_z-of_z w32 j g d) k) ∙ l line k

-- a write is to one of the first z cells
abbrev Among : ℕ → Act → Type 0
Among z (read c k) = Unit {0}
Among z (write c v a) = c < z
Among z (update c v a) = Unit {0}
Among z (fault n l) = Unit {0}
Among z done = Unit {0}

-- so the cell that was found is one of them
found_among : (z c : ℕ) {t : Act} → Among z t → t ≡ at_cell (Some c) 0 (λ d. write d (pos 0) done) → c < z
unfolding at_cell
found_among z c h l = subst (Among z) l h

pub located_below : (n c : ℕ) (i : ℤ) → ((line : ℕ) (k : ℕ → Act) → located line 0 n i k ≡ at_cell (Some c) line k) → c < n
located_below n c i l = found_among n c (located_among (Among n) 0 tt 0 n i _ (λ d h. omega arith)) (l 0 _)

pub in_grid_below : (m n c : ℕ) (i j : ℤ) → ((line : ℕ) (k : ℕ → Act) → in_grid line 0 m n i j k ≡ at_cell (Some c) line k) → c < m * n
in_grid_below m n c i j l = found_among (m * n) c (in_grid_among (Among (m * n)) 0 tt 0 m n i j _ (λ d h. omega arith)) (l 0 _)

-- a row and a column, with numbers of 32 bits
pub sum_fits : (a b x : ℕ) → a < 4294967295 → b < 4294967295 → x < 4294967296 → Fits w64 (a + b * x)
sum_fits a b x h k l =
    let p : b ≤ 4294967294 = omega arith in
    let q : x ≤ 4294967295 = omega arith in
    record { fits = omega (arith, mul-le-mul p q) }
