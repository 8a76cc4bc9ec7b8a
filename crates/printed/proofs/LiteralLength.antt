-- A literal within its limit has at most ten digits, leading zeros aside.
use mathlib.Core.Path.{◌≡◌, refl, subst}
use mathlib.Core.Bool.{Bool, true, false}
use mathlib.Core.List.{List, [], ◌∷◌}
use Prim.Native.Nat.{ℕ, zero, suc, ◌+◌, ◌-◌, ◌*◌, ◌≤◌}
use native.Mathlib.Omega.{arith}
use lib.Dec.{eqb, leb}
use lib.ListN.{length}
use borrow.Author.Tests.{eqb-true, eqb-false, leb-true, leb-false}
use Rattle.syntax.specs.Bytes.{choose, all, digit}
use Rattle.syntax.specs.Grammar.{number, number_from}
use Rattle.syntax.proofs.Spelling.{both_true}
use Rattle.printed.specs.Form.{shortest}
use Rattle.printed.proofs.RoundTrip.{Numeral}

-- n with so many zeros after it
tens : ℕ → ℕ → ℕ
tens zero n = n
tens (suc k) n = tens k (10 * n)

tens_grows : (k m n : ℕ) → m ≤ n → tens k m ≤ tens k n
unfolding tens
tens_grows zero m n h = h
tens_grows (suc k) m n h = tens_grows k (10 * m) (10 * n) (omega arith)

tens_least : (k n : ℕ) → n ≤ tens k n
unfolding tens
tens_least zero n = omega arith
tens_least (suc k) n = omega (arith, tens_least k (10 * n))

number_tens : (n : ℕ) (ds : List ℕ) → tens (length ds) n ≤ number_from n ds
unfolding tens number_from
number_tens n [] = omega arith
number_tens n (d ∷ ds) = omega (arith, number_tens (10 * n + (d - 48)) ds, tens_grows (length ds) (10 * n) (10 * n + (d - 48)) (omega arith))

ten_digits : (n : ℕ) (ds : List ℕ) → 1 ≤ n → number_from n ds ≤ 2147483647 → length ds ≤ 9
unfolding tens
ten_digits n ds h k = go (leb (length ds) 9) refl
  where
    go : (c : Bool) → leb (length ds) 9 ≡ c → length ds ≤ 9
    go true e = leb-true (length ds) 9 e
    go false e =
        let j = length ds - 10 in
        let l = leb-false (length ds) 9 e in
        let i : length ds ≡ suc (suc (suc (suc (suc (suc (suc (suc (suc (suc j))))))))) = omega arith in
        let a = subst (λ (m : ℕ). tens m n ≤ number_from n ds) i (number_tens n ds) in
        absurd (omega (arith, a, tens_least j (10 * (10 * (10 * (10 * (10 * (10 * (10 * (10 * (10 * (10 * n))))))))))))

pub shortest_length : (d : List ℕ) → Numeral d → number d ≤ 2147483647 → length (shortest d) ≤ 10
unfolding shortest number_from
shortest_length [] h k = absurd h
shortest_length (d ∷ []) h k = omega arith
shortest_length (d ∷ e ∷ ds) h k = go (eqb d 48) refl (shortest_length (e ∷ ds) (both_true (digit e) (all digit ds) h.1))
  where
    go : (c : Bool) → eqb d 48 ≡ c → (number (e ∷ ds) ≤ 2147483647 → length (shortest (e ∷ ds)) ≤ 10)
        → length (choose c (λ _. shortest (e ∷ ds)) (λ _. d ∷ e ∷ ds)) ≤ 10
    go true q ih = ih (subst (λ (x : ℕ). number_from (10 * 0 + (x - 48)) (e ∷ ds) ≤ 2147483647) (eqb-true d 48 q) k)
    go false q ih =
        let l = leb-true 48 d (both_true (leb 48 d) (leb d 57) h.0).0 in
        let n = eqb-false d 48 q in
        omega (arith, ten_digits (10 * 0 + (d - 48)) (e ∷ ds) (omega arith) k)
