-- How often a clause stands.
use mathlib.Core.Path.{◌≡◌, refl, ◌∙◌, ap}
use mathlib.Core.List.{List, [], ◌∷◌}
use Prim.Native.Nat.{ℕ, zero, suc, min}
use native.Mathlib.Omega.{arith}
use borrow.Author.Tests.{eq-eqb, eqb-true, le-leb, leb-true}
use lib.Dec.{eqb, leb}
use lib.ListN.{length}
use Rattle.syntax.specs.Known.{processors_by, grouping_by}
use Rattle.syntax.proofs.TestLaws.{same_truth}
use Rattle.clauses.specs.Directive.{counted, last_threads}

counted_on : (n : ℕ) → counted 2 n ≡ 2
counted_on zero = refl
counted_on (suc n) = counted_on n

-- up to 2, so once and at most once are told
pub counted_is : (n : ℕ) → counted 0 n ≡ min n 2
counted_is zero = refl
counted_is (suc zero) = refl
counted_is (suc (suc n)) = counted_on n ∙ omega arith

pub counted_once : (n : ℕ) → eqb (counted 0 n) 1 ≡ eqb n 1
counted_once n = same_truth _ _ (λ h. eq-eqb n 1 (omega (arith, counted_is n, eqb-true (counted 0 n) 1 h)))
    (λ h. eq-eqb (counted 0 n) 1 (omega (arith, counted_is n, eqb-true n 1 h)))

pub counted_most : (n : ℕ) → leb (counted 0 n) 1 ≡ leb n 1
counted_most n = same_truth _ _ (λ h. le-leb n 1 (omega (arith, counted_is n, leb-true (counted 0 n) 1 h)))
    (λ h. le-leb (counted 0 n) 1 (omega (arith, counted_is n, leb-true n 1 h)))

pub counted_grouping : (n : ℕ) → grouping_by (counted 0 n) ≡ grouping_by n
counted_grouping zero = refl
counted_grouping (suc zero) = refl
counted_grouping (suc (suc n)) = ap grouping_by (counted_on n)

-- the number that `num_threads` gives, where it stands once
pub last_once : (ps : List (List ℕ)) → length ps ≡ 1 → last_threads 0 ps ≡ min (processors_by ps) 2147483648
last_once [] e = absurd (omega arith)
last_once (p ∷ []) e = refl
last_once (p ∷ q ∷ ps) e = absurd (omega arith)
