-- Laws of the tests over lists that the definitions are written with (`all`, `any`, `same`, `starts`), and of `Each`, the like of `all` for what is no test.
use mathlib.Core.Path.{◌≡◌, refl, sym, ◌∙◌, ap}
use mathlib.Core.Logic.{◌⊎◌, inl, inr}
use mathlib.Core.Bool.{Bool, true, false, cond, ◌&&◌, ◌||◌, and_assoc, or_assoc}
use mathlib.Core.List.{List, [], ◌∷◌, ◌++◌, map}
use Prim.Native.Nat.{ℕ, zero, suc, ◌+◌, ◌≤◌, ◌<◌}
use native.Mathlib.Omega.{arith}
use lib.Dec.{eqb}
use lib.ListN.{length, get_or, replicate, drop}
use borrow.Author.Tests.{eq-eqb}
use Rattle.syntax.specs.Bytes.{choose, all, any, same, starts}
use Rattle.syntax.specs.Sane.{Each}
use Rattle.syntax.proofs.Spelling.{both_true, same_true}

-- ---- tests

pub both_hold : {a b : Bool} → a ≡ true → b ≡ true → a && b ≡ true
both_hold {b} p q = ap (λ (x : Bool). x && b) p ∙ q

pub either_holds : (a b : Bool) → a || b ≡ true → (a ≡ true) ⊎ (b ≡ true)
either_holds true b h = inl refl
either_holds false b h = inr h

pub neither_holds : (a b : Bool) → a || b ≡ false → (a ≡ false) × (b ≡ false)
neither_holds false false h = (refl, refl)
neither_holds false true h = let z : ◌≡◌ {A = ℕ} 0 1 = cc in absurd (omega arith)
neither_holds true b h = let z : ◌≡◌ {A = ℕ} 0 1 = cc in absurd (omega arith)

-- a choice, under any property of it
pub cond_each : {A : Type 0} (P : A → Type 0) (b : Bool) {x y : A} → P x → P y → P (cond b x y)
cond_each P true p q = p
cond_each P false p q = q

pub choose_each : {A : Type 0} (P : A → Type 0) (b : Bool) (f g : Unit {0} → A) → (b ≡ true → P (f tt)) → (b ≡ false → P (g tt)) → P (choose b f g)
choose_each P true f g p q = p refl
choose_each P false f g p q = q refl

pub same_refl : (a : List ℕ) → same a a ≡ true
same_refl [] = refl
same_refl (x ∷ xs) = both_hold (eq-eqb x x refl) (same_refl xs)

pub same_apart : (a b : List ℕ) → (a ≡ b → ⊥) → same a b ≡ false
same_apart a b n = go (same a b) refl
  where
    go : (c : Bool) → same a b ≡ c → c ≡ false
    go true e = absurd (n (same_true a b e))
    go false e = refl

pub same_comm_false : (a b : List ℕ) → same a b ≡ false → same b a ≡ false
same_comm_false a b h = same_apart b a (λ e. let r : same a b ≡ true = rw e (same_refl a) in let z : ◌≡◌ {A = ℕ} 0 1 = cc in omega arith)

pub starts_length : (x s : List ℕ) → starts x s ≡ true → length x ≤ length s
starts_length [] s h = omega arith
starts_length (b ∷ x) [] h = let z : ◌≡◌ {A = ℕ} 0 1 = cc in absurd (omega arith)
starts_length (b ∷ x) (c ∷ s) h = omega (arith, starts_length x s (both_true (eqb b c) (starts x s) h).1)

-- ---- lists

pub all_append : {A : Type 0} (p : A → Bool) (xs ys : List A) → all p (xs ++ ys) ≡ all p xs && all p ys
all_append p [] ys = refl
all_append p (x ∷ xs) ys = ap (◌&&◌ (p x)) (all_append p xs ys) ∙ sym (and_assoc (p x) (all p xs) (all p ys))

pub all_parts : {A : Type 0} (p : A → Bool) (xs ys : List A) → all p (xs ++ ys) ≡ true → (all p xs ≡ true) × (all p ys ≡ true)
all_parts p xs ys h = both_true (all p xs) (all p ys) (sym (all_append p xs ys) ∙ h)

pub any_append : {A : Type 0} (p : A → Bool) (xs ys : List A) → any p (xs ++ ys) ≡ any p xs || any p ys
any_append p [] ys = refl
any_append p (x ∷ xs) ys = ap (◌||◌ (p x)) (any_append p xs ys) ∙ sym (or_assoc (p x) (any p xs) (any p ys))

-- ---- Each

module _ {A : Type 0} (P : A → Type 0) where
  pub each_append : (xs ys : List A) → Each P xs → Each P ys → Each P (xs ++ ys)
  each_append [] ys h k = k
  each_append (x ∷ xs) ys h k = (h.0, each_append xs ys h.1 k)

  pub each_at : (xs : List A) (i : ℕ) (d : A) → Each P xs → i < length xs → P (get_or xs i d)
  each_at [] i d h k = absurd (omega arith)
  each_at (x ∷ xs) zero d h k = h.0
  each_at (x ∷ xs) (suc i) d h k = each_at xs i d h.1 (omega arith)

  pub each_none : (p : A → Bool) → ((x : A) → p x ≡ false → P x) → (xs : List A) → any p xs ≡ false → Each P xs
  each_none p f [] h = tt
  each_none p f (x ∷ xs) h = let (a, b) = neither_holds (p x) (any p xs) h in (f x a, each_none p f xs b)

  pub none_each : (p : A → Bool) → ((x : A) → P x → p x ≡ false) → (xs : List A) → Each P xs → any p xs ≡ false
  none_each p f [] h = refl
  none_each p f (x ∷ xs) h = ap (λ (b : Bool). b || any p xs) (f x h.0) ∙ none_each p f xs h.1

  pub each_replicate : (n : ℕ) (x : A) → P x → Each P (replicate n x)
  each_replicate zero x p = tt
  each_replicate (suc n) x p = (p, each_replicate n x p)

pub each_weaken : {A : Type 0} (P Q : A → Type 0) → ((x : A) → P x → Q x) → (xs : List A) → Each P xs → Each Q xs
each_weaken P Q g [] h = tt
each_weaken P Q g (x ∷ xs) h = (g x h.0, each_weaken P Q g xs h.1)

pub each_map : {A B : Type 0} (P : A → Type 0) (Q : B → Type 0) (f : A → B) → ((x : A) → P x → Q (f x)) → (xs : List A) → Each P xs
    → Each Q (map f xs)
each_map P Q f g [] h = tt
each_map P Q f g (x ∷ xs) h = (g x h.0, each_map P Q f g xs h.1)

-- two tests that come out true together
pub same_truth : (a b : Bool) → (a ≡ true → b ≡ true) → (b ≡ true → a ≡ true) → a ≡ b
same_truth true true f g = refl
same_truth true false f g = sym (f refl)
same_truth false true f g = g refl
same_truth false false f g = refl

-- ---- a test of what is left of a list

pub all_on : (p : ℕ → Bool) (s : List ℕ) (i : ℕ) → i < length s → p (get_or s i 0) ≡ true → all p (drop i s) ≡ all p (drop (i + 1) s)
all_on p [] i h e = absurd (omega arith)
all_on p (b ∷ s) zero h e = ap (λ (x : Bool). x && all p s) e
all_on p (b ∷ s) (suc i) h e =
    let z : suc i + 1 ≡ suc (i + 1) = omega arith in all_on p s i (omega arith) e ∙ ap (λ (n : ℕ). all p (drop n (b ∷ s))) (sym z)

pub all_off : (p : ℕ → Bool) (s : List ℕ) (i : ℕ) → i < length s → p (get_or s i 0) ≡ false → all p (drop i s) ≡ false
all_off p [] i h e = absurd (omega arith)
all_off p (b ∷ s) zero h e = ap (λ (x : Bool). x && all p s) e
all_off p (b ∷ s) (suc i) h e = all_off p s i (omega arith) e

pub all_out : (p : ℕ → Bool) (s : List ℕ) (i : ℕ) → length s ≤ i → all p (drop i s) ≡ true
all_out p [] zero h = refl
all_out p [] (suc i) h = refl
all_out p (b ∷ s) zero h = absurd (omega arith)
all_out p (b ∷ s) (suc i) h = all_out p s i (omega arith)
