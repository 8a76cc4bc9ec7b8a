-- The laws of `Choose`: each choice by what its test says.
use Rattle.std.specs.Prelude.{◌≡◌, refl, ◌≢◌, Bool, true, false, cond, ℕ, ◌<◌, ◌≤◌, T, eqb, ltb}
use Rattle.std.proofs.Common.{subst, eqb→eq, ltb→lt, lt→ltb, arith}
use Rattle.std.proofs.Math.Dec.{eqb_refl}
use Rattle.rules.specs.Choose.{pick, below, put}

pub cond_yes : {A : Type 0} (b : Bool) → T b → (x y : A) → cond b x y ≡ x
cond_yes true t x y = refl
cond_yes false t x y = absurd t

pub cond_no : {A : Type 0} (b : Bool) → ¬ T b → (x y : A) → cond b x y ≡ y
cond_no true f x y = absurd (f tt)
cond_no false f x y = refl

pub pick_same : {A : Type 0} {i j : ℕ} → i ≡ j → (x y : A) → pick i j x y ≡ x
unfolding pick
pick_same {i} {j} e x y = cond_yes (eqb i j) (subst (λ (k : ℕ). T (eqb i k)) e (eqb_refl i)) x y

pub pick_other : {A : Type 0} {i j : ℕ} → i ≢ j → (x y : A) → pick i j x y ≡ y
unfolding pick
pick_other {i} {j} h x y = cond_no (eqb i j) (λ t. h (eqb→eq i j t)) x y

pub below_yes : {A : Type 0} {i j : ℕ} → i < j → (x y : A) → below i j x y ≡ x
unfolding below
below_yes {i} {j} h x y = cond_yes (ltb i j) (lt→ltb i j h) x y

pub below_no : {A : Type 0} {i j : ℕ} → j ≤ i → (x y : A) → below i j x y ≡ y
unfolding below
below_no {i} {j} h x y = cond_no (ltb i j) (λ t. omega (arith, ltb→lt i j t)) x y

pub put_same : {A : Type 0} {i j : ℕ} → i ≡ j → (f : ℕ → A) (a : A) → put f i a j ≡ a
unfolding put
put_same {j} e f a = pick_same e a (f j)

pub put_other : {A : Type 0} {i j : ℕ} → i ≢ j → (f : ℕ → A) (a : A) → put f i a j ≡ f j
unfolding put
put_other {j} h f a = pick_other h a (f j)
