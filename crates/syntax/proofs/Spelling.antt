-- Laws of the tokens from one place of a line to another (`Spells`), and what a reader that has read something has met.
use mathlib.Core.Path.{◌≡◌, refl, sym, ◌∙◌, ap, subst₂}
use mathlib.Core.Logic.{◌⊎◌, inl, inr}
use mathlib.Core.Bool.{Bool, true, false, cond, ◌&&◌}
use mathlib.Core.List.{List, [], ◌∷◌, ◌++◌}
use mathlib.Core.Option.{Option, none, some}
use Prim.Native.Nat.{ℕ, zero, suc}
use Prim.Native.String.{String}
use native.Mathlib.Omega.{arith}
use lib.Dec.{T, eqb, eqb→eq}
use Rattle.syntax.specs.Bytes.{choose, same, bytes, Token, name, other_word, digits, sign, word_of}
use Rattle.syntax.specs.Reader.{Parsed, broken, done, Reader, next, kind, text, is, expects, wants, read_name, read_digits}
use Rattle.syntax.specs.Spelled.{Spells, here, token}

-- Parsed

pub not_done : {S A : Type 0} {a : A} {u : S} → ◌≡◌ {A = Parsed S A} broken (done a u) → ⊥
not_done h = let z : ◌≡◌ {A = ℕ} 0 1 = cc in omega arith

-- what was read, under any property of it
pub same_done : {S A : Type 0} {a b : A} {s u : S} (Q : A → S → Type 0) → ◌≡◌ {A = Parsed S A} (done a s) (done b u) → Q a s → Q b u
same_done {a} {b} {s} {u} Q h q = let p : a ≡ b = cc in let e : s ≡ u = cc in subst₂ Q p e q

-- a reader after another has read something: then so has the first
pub bound : {S A B P : Type 0} (r : Parsed S A) (k : A → Reader S B) {b : B} {u : S} → next r k ≡ done b u
    → ((a : A) (m : S) → r ≡ done a m → k a m ≡ done b u → P) → P
bound broken k h go = absurd (not_done h)
bound (done a m) k h go = go a m refl h

pub chosen : {A : Type 0} (c : Bool) (p q : Unit {0} → A) {a : A} → choose c p q ≡ a → ((c ≡ true) × (p tt ≡ a)) ⊎ ((c ≡ false) × (q tt ≡ a))
chosen true p q h = inl (refl, h)
chosen false p q h = inr (refl, h)

pub conded : {S A : Type 0} (c : Bool) (r : Parsed S A) {a : A} {u : S} → cond c r broken ≡ done a u → (c ≡ true) × (r ≡ done a u)
conded true r h = (refl, h)
conded false r h = absurd (not_done h)

-- Tokens

pub both_true : (a b : Bool) → a && b ≡ true → (a ≡ true) × (b ≡ true)
both_true true true h = (refl, refl)
both_true true false h = absurd (let z : ◌≡◌ {A = ℕ} 0 1 = cc in omega arith)
both_true false b h = absurd (let z : ◌≡◌ {A = ℕ} 0 1 = cc in omega arith)

pub is_T : {b : Bool} → b ≡ true → T b
is_T h = rw h tt

pub same_true : (a b : List ℕ) → same a b ≡ true → a ≡ b
same_true [] [] h = refl
same_true [] (y ∷ ys) h = absurd (let z : ◌≡◌ {A = ℕ} 0 1 = cc in omega arith)
same_true (x ∷ xs) [] h = absurd (let z : ◌≡◌ {A = ℕ} 0 1 = cc in omega arith)
same_true (x ∷ xs) (y ∷ ys) h =
    let (p, q) = both_true (eqb x y) (same xs ys) h in
    let e : x ≡ y = eqb→eq x y (is_T p) in
    let d : xs ≡ ys = same_true xs ys q in
    cc

-- a token from its kind and its bytes
unfoldable pub tokenly : ℕ → List ℕ → Option Token
tokenly zero b = none
tokenly (suc zero) b = some (name b)
tokenly (suc (suc zero)) b = some (other_word b)
tokenly (suc (suc (suc zero))) b = some (digits b)
tokenly (suc (suc (suc (suc n)))) b = some (sign b)

pub tokenly_is : (o : Option Token) → tokenly (kind o) (text o) ≡ o
unfolding tokenly
tokenly_is none = refl
tokenly_is (some (name b)) = refl
tokenly_is (some (other_word b)) = refl
tokenly_is (some (digits b)) = refl
tokenly_is (some (sign b)) = refl

pub kind_is : (o : Option Token) (k : ℕ) → eqb (kind o) k ≡ true → tokenly k (text o) ≡ o
kind_is o k h = let e : kind o ≡ k = eqb→eq (kind o) k (is_T h) in rw (← e) (tokenly_is o)

pub is_true : (t : Token) (o : Option Token) → is t o ≡ true → o ≡ some t
is_true t o h =
    let (p, q) = both_true (eqb (kind (some t)) (kind o)) (same (text (some t)) (text o)) h in
    let e : kind (some t) ≡ kind o = eqb→eq _ _ (is_T p) in
    let d : text (some t) ≡ text o = same_true _ _ q in
    sym (tokenly_is o) ∙ sym (ap (λ k. tokenly k (text (some t))) e ∙ ap (tokenly (kind o)) d) ∙ tokenly_is (some t)

infixr 30 ◌▸◌
-- one after the other
pub ◌▸◌ : {S : Type 0} {peek : S → Option Token} {skip : S → S} {s m u : S} {xs ys : List Token} → Spells peek skip s xs m
    → Spells peek skip m ys u → Spells peek skip s (xs ++ ys) u
◌▸◌ here k = k
◌▸◌ (token e h) k = token e (h ▸ k)

module _ {S : Type 0} (peek : S → Option Token) (skip : S → S) where
  pub spells_split : {s u : S} (xs : List Token) {ys : List Token} → Spells peek skip s (xs ++ ys) u
      → (m : S) × Spells peek skip s xs m × Spells peek skip m ys u
  spells_split {s} [] h = (s, here, h)
  spells_split {s = s} {u = u} (x ∷ xs) {ys = ys} (token e h) = let (m, a, b) = spells_split {s = skip s} {u = u} xs {ys = ys} h in (m, token e a, b)

  pub one_token : {s : S} {t : Token} → peek s ≡ some t → Spells peek skip s (t ∷ []) (skip s)
  one_token e = token e here

  -- what the readers of one token have met
  pub expects_sound : (t : String) (s : S) {a : Unit {0}} {u : S} → expects peek skip t s ≡ done a u → Spells peek skip s (sign (bytes t) ∷ []) u
  expects_sound t s h =
      let (p, q) = conded (is (sign (bytes t)) (peek s)) (done tt (skip s)) h in
      same_done (λ a u. Spells peek skip s (sign (bytes t) ∷ []) u) q (one_token (is_true (sign (bytes t)) (peek s) p))

  pub wants_sound : (t : String) (s : S) {a : Unit {0}} {u : S} → wants peek skip t s ≡ done a u → Spells peek skip s (word_of (bytes t) ∷ []) u
  wants_sound t s h =
      let (p, q) = conded (is (word_of (bytes t)) (peek s)) (done tt (skip s)) h in
      same_done (λ a u. Spells peek skip s (word_of (bytes t) ∷ []) u) q (one_token (is_true (word_of (bytes t)) (peek s) p))

  pub name_sound : (s : S) {x : List ℕ} {u : S} → read_name peek skip s ≡ done x u → Spells peek skip s (name x ∷ []) u
  unfolding tokenly
  name_sound s h =
      let (p, q) = conded (eqb (kind (peek s)) 1) (done (text (peek s)) (skip s)) h in
      same_done (λ x u. Spells peek skip s (name x ∷ []) u) q (one_token (sym (kind_is (peek s) 1 p)))

  pub digits_sound : (s : S) {x : List ℕ} {u : S} → read_digits peek skip s ≡ done x u → Spells peek skip s (digits x ∷ []) u
  unfolding tokenly
  digits_sound s h =
      let (p, q) = conded (eqb (kind (peek s)) 3) (done (text (peek s)) (skip s)) h in
      same_done (λ x u. Spells peek skip s (digits x ∷ []) u) q (one_token (sym (kind_is (peek s) 3 p)))
