-- Names of which none stands twice.
use mathlib.Core.Path.{◌≡◌, refl, sym, ◌∙◌, ap}
use mathlib.Core.Bool.{Bool, true, false, cond, not, ◌&&◌, ◌||◌, or-false, and_assoc}
use mathlib.Core.List.{List, [], ◌∷◌, ◌++◌, append_assoc, append-nil}
use Prim.Native.Nat.{ℕ}
use borrow.Author.Tests.{not-true}
use native.Mathlib.Omega.{arith}
use Rattle.syntax.specs.Bytes.{all, any, same}
use Rattle.syntax.specs.Conditions.{different, each_once}
use Rattle.syntax.proofs.Spelling.{both_true, same_true}
use Rattle.syntax.proofs.TestLaws.{both_hold, neither_holds, any_append, same_refl, same_comm_false, same_truth}
use Rattle.claiming.specs.Claims.{free}

-- names as K says, none of them twice and none among zs
abbrev pub frees : (List ℕ → Bool) → List (List ℕ) → List (List ℕ) → Bool
frees K zs [] = true
frees K zs (x ∷ xs) = free K zs x && frees K (zs ++ (x ∷ [])) xs

pub frees_append : (K : List ℕ → Bool) (zs xs ys : List (List ℕ)) → frees K zs (xs ++ ys) ≡ frees K zs xs && frees K (zs ++ xs) ys
frees_append K zs [] ys = ap (λ (l : List (List ℕ)). frees K l ys) (sym (append-nil zs))
frees_append K zs (x ∷ xs) ys =
    let ws = zs ++ (x ∷ []) in
    ap (λ (b : Bool). free K zs x && b) (frees_append K ws xs ys ∙ ap (λ (l : List (List ℕ)). frees K ws xs && frees K l ys) (append_assoc zs (x ∷ []) xs))
    ∙ sym (and_assoc (free K zs x) (frees K ws xs) (frees K (zs ++ (x ∷ xs)) ys))

pub frees_same : (K L : List ℕ → Bool) → ((x : List ℕ) → K x ≡ L x) → (zs xs : List (List ℕ)) → frees K zs xs ≡ frees L zs xs
frees_same K L h zs [] = refl
frees_same K L h zs (x ∷ xs) = λ i. (h x i && not (any (same x) zs)) && frees_same K L h (zs ++ (x ∷ [])) xs i

-- none of xs is among zs
abbrev Disjoint : List (List ℕ) → List (List ℕ) → Type 0
Disjoint zs xs = any (λ x. any (same x) zs) xs ≡ false

disjoint_more : (zs : List (List ℕ)) (x : List ℕ) (xs : List (List ℕ))
    → any (λ y. any (same y) (zs ++ (x ∷ []))) xs ≡ any (λ y. any (same y) zs) xs || any (λ y. same y x) xs
disjoint_more zs x [] = refl
disjoint_more zs x (y ∷ xs) =
    let last = any_append (same y) zs (x ∷ []) ∙ ap (λ (b : Bool). any (same y) zs || b) (or-false (same y x)) in
    (λ i. last i || disjoint_more zs x xs i) ∙ swap (any (same y) zs) (same y x) (any (λ y. any (same y) zs) xs) (any (λ y. same y x) xs)
  where
    swap : (a b c d : Bool) → (a || b) || (c || d) ≡ (a || c) || (b || d)
    swap true b c d = refl
    swap false true true d = refl
    swap false true false d = refl
    swap false false c d = refl

pub same_turned : (x y : List ℕ) → same x y ≡ same y x
same_turned x y = go (same x y) refl
  where
    go : (b : Bool) → same x y ≡ b → same x y ≡ same y x
    go true e = e ∙ sym (ap (same y) (same_true x y e) ∙ same_refl y)
    go false e = e ∙ sym (same_comm_false x y e)

any_turned : (x : List ℕ) (xs : List (List ℕ)) → any (λ y. same y x) xs ≡ any (same x) xs
any_turned x [] = refl
any_turned x (y ∷ xs) = λ i. same_turned y x i || any_turned x xs i

-- the names are free one after the other exactly where each is as K says and none stands twice
pub frees_true : (K : List ℕ → Bool) (zs xs : List (List ℕ)) → frees K zs xs ≡ true → (different xs ≡ true) × (all K xs ≡ true) × Disjoint zs xs
frees_true K zs [] h = (refl, refl, refl)
frees_true K zs (x ∷ xs) h =
    let (p, q) = both_true (free K zs x) _ h in
    let (k, n) = both_true (K x) _ p in
    let (d, a, j) = frees_true K (zs ++ (x ∷ [])) xs q in
    let (u, v) = neither_holds (any (λ y. any (same y) zs) xs) _ (sym (disjoint_more zs x xs) ∙ j) in
    (both_hold (ap not (sym (any_turned x xs) ∙ v)) d, both_hold k a, λ i. not-true (any (same x) zs) n i || u i)

true_frees : (K : List ℕ → Bool) (zs xs : List (List ℕ)) → different xs ≡ true → all K xs ≡ true → Disjoint zs xs → frees K zs xs ≡ true
true_frees K zs [] d a j = refl
true_frees K zs (x ∷ xs) d a j =
    let (n, e) = both_true (not (any (same x) xs)) _ d in
    let (k, b) = both_true (K x) _ a in
    let (u, v) = neither_holds (any (same x) zs) _ j in
    let apart = disjoint_more zs x xs ∙ (λ i. v i || (any_turned x xs ∙ not-true (any (same x) xs) n) i) in
    both_hold (both_hold k (ap not u)) (true_frees K (zs ++ (x ∷ [])) xs e b apart)

disjoint_none : (xs : List (List ℕ)) → Disjoint [] xs
disjoint_none [] = refl
disjoint_none (x ∷ xs) = disjoint_none xs

pub frees_are : (K : List ℕ → Bool) (xs : List (List ℕ)) → frees K [] xs ≡ each_once K xs
frees_are K xs = same_truth _ _
    (λ h. let (d, a, _) = frees_true K [] xs h in both_hold d a)
    (λ h. let (d, a) = both_true (different xs) _ h in true_frees K [] xs d a (disjoint_none xs))

-- where none stands twice, one of the first is none of the others
pub different_apart : (x : List ℕ) (xs ys : List (List ℕ)) → different (xs ++ ys) ≡ true → any (same x) xs ≡ true → any (same x) ys ≡ false
different_apart x [] ys d a = absurd (let z : ◌≡◌ {A = ℕ} 0 1 = ap (λ (b : Bool). cond b 1 0) a in omega arith)
different_apart x (y ∷ xs) ys d a = go (same x y) refl a (λ b. different_apart x xs ys (both_true (not (any (same y) (xs ++ ys))) _ d).1 b)
  where
    none_after : any (same y) (xs ++ ys) ≡ false
    none_after = not-true (any (same y) (xs ++ ys)) (both_true (not (any (same y) (xs ++ ys))) _ d).0

    go : (b : Bool) → same x y ≡ b → b || any (same x) xs ≡ true → (any (same x) xs ≡ true → any (same x) ys ≡ false) → any (same x) ys ≡ false
    go true e h k = ap (λ (z : List ℕ). any (same z) ys) (same_true x y e) ∙ (neither_holds (any (same y) xs) _ (sym (any_append (same y) xs ys) ∙ none_after)).1
    go false e h k = k h

pub different_rest : (xs ys : List (List ℕ)) → different (xs ++ ys) ≡ true → different ys ≡ true
different_rest [] ys d = d
different_rest (x ∷ xs) ys d = different_rest xs ys (both_true (not (any (same x) (xs ++ ys))) _ d).1
