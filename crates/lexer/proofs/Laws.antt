-- Laws of runs of bytes, of equal strings, and of stores one after another.
use mathlib.Core.Path.{◌≡◌, refl, sym, ◌∙◌, ap}
use mathlib.Core.Bool.{Bool, true, false, cond, ◌&&◌, ◌||◌}
use mathlib.Core.List.{List, [], ◌∷◌, ◌++◌, map, map-append}
use Prim.Native.Nat.{ℕ, suc, ◌+◌, ◌-◌, ◌*◌, ◌≤◌, ◌<◌}
use native.Mathlib.Numerals.{add-one}
use native.Mathlib.Omega.{arith}
use lib.Dec.{eqb}
use lib.Pointwise.{pointwise}
use lib.ListN.{length, get_or, set, take, drop, drop_of_length-le, length-map}
use lib.Seq.{sets, drop-cons, take-suc, length-take-le}
use Rattle.std.specs.Char.{to_ascii_lowercase}
use Rattle.syntax.specs.Bytes.{choose, run, any, same, lower, bytes, reserved}
use Rattle.syntax.specs.Grammar.{number, number_from}
use Rattle.lexer.specs.Lex.{part}

-- ---- runs

module _ (p : ℕ → Bool) (s : List ℕ) (i : ℕ) where
  here : i < length s → run p (drop i s) ≡ choose (p (get_or s i 0)) (λ _. suc (run p (drop (suc i) s))) (λ _. 0)
  unfolding run
  here h = ap (run p) (drop-cons s i 0 h)

  -- the run goes on over the byte at i
  pub run_on : i < length s → p (get_or s i 0) ≡ true → i + run p (drop i s) ≡ (i + 1) + run p (drop (i + 1) s)
  run_on h e =
      let q : run p (drop i s) ≡ suc (run p (drop (suc i) s)) = here h ∙ ap (λ (b : Bool). choose b (λ _. suc (run p (drop (suc i) s))) (λ _. 0)) e in
      rw (add-one) (omega arith)

  -- or stops there
  pub run_off : i < length s → p (get_or s i 0) ≡ false → i + run p (drop i s) ≡ i
  run_off h e = let q : run p (drop i s) ≡ 0 = here h ∙ ap (λ (b : Bool). choose b (λ _. suc (run p (drop (suc i) s))) (λ _. 0)) e in omega arith

  -- or at the end
  pub run_out : length s ≤ i → i + run p (drop i s) ≡ i
  unfolding run
  run_out h = let q : run p (drop i s) ≡ 0 = ap (run p) (drop_of_length-le s h) in omega arith

-- ---- equal strings

pub same_lengths : (a b : List ℕ) → (length a ≡ length b → ⊥) → same a b ≡ false
same_lengths [] [] n = absurd (n refl)
same_lengths [] (y ∷ b) n = refl
same_lengths (x ∷ a) [] n = refl
same_lengths (x ∷ a) (y ∷ b) n = go (eqb x y) (same_lengths a b (λ e. n (ap suc e)))
  where
    go : (c : Bool) → same a b ≡ false → c && same a b ≡ false
    go true h = h
    go false h = refl

-- ---- stores

pub sets_append : {A : Type 0} (l : List A) (i : ℕ) (vs ws : List A) → sets (sets l i vs) (i + length vs) ws ≡ sets l i (vs ++ ws)
sets_append l i [] ws = let e : i + 0 ≡ i = omega arith in rw e
sets_append l i (v ∷ vs) ws = let e : i + suc (length vs) ≡ suc i + length vs = omega arith in rw e (sets_append (set l i v) (suc i) vs ws)

pub sets_snoc : {A : Type 0} (l : List A) (i : ℕ) (vs : List A) (a : A) → sets l i (vs ++ (a ∷ [])) ≡ set (sets l i vs) (i + length vs) a
sets_snoc l i vs a = sym (sets_append l i vs (a ∷ []))

-- one element more of a list that is written out through f
pub sets_map : {A B : Type 0} (f : A → B) (l : List B) (s : List A) (i : ℕ) (d : A) → i < length s
    → sets l 0 (map f (take (i + 1) s)) ≡ set (sets l 0 (map f (take i s))) i (f (get_or s i d))
sets_map f l s i d h =
    ap (λ (t : List _). sets l 0 (map f t)) (ap (λ (n : ℕ). take n s) (add-one i) ∙ take-suc s i d h)
    ∙ ap (sets l 0) (map-append f (take i s) (get_or s i d ∷ []))
    ∙ sets_snoc l 0 (map f (take i s)) (f (get_or s i d))
    ∙ ap (λ (n : ℕ). set (sets l 0 (map f (take i s))) n (f (get_or s i d))) (omega (arith, length-map (take i s) f, length-take-le i s (omega arith)))

-- ---- parts of a line

pub part_none : (s : List ℕ) (a : ℕ) → part s a a ≡ []
part_none s a = let e : a - a ≡ 0 = omega arith in rw e

pub part_cons : (s : List ℕ) (a e : ℕ) → a < e → e ≤ length s → part s a e ≡ get_or s a 0 ∷ part s (a + 1) e
part_cons s a e h k =
    let n : e - a ≡ suc (e - (a + 1)) = omega arith in
    (λ j. take (n j) (drop-cons s a 0 (omega arith) j)) ∙ ap (λ (q : ℕ). get_or s a 0 ∷ take (e - (a + 1)) (drop q s)) (sym (add-one a))

number_snoc : (n : ℕ) (ds : List ℕ) (d : ℕ) → number_from n (ds ++ (d ∷ [])) ≡ 10 * number_from n ds + (d - 48)
unfolding number_from
number_snoc n [] d = refl
number_snoc n (x ∷ ds) d = number_snoc (10 * n + (x - 48)) ds d

-- a digit more
pub number_take : (w : List ℕ) (i : ℕ) → i < length w → number (take (i + 1) w) ≡ 10 * number (take i w) + (get_or w i 0 - 48)
number_take w i h =
    ap (λ (n : ℕ). number (take n w)) (add-one i) ∙ ap number (take-suc w i 0 h) ∙ number_snoc 0 (take i w) (get_or w i 0)

-- ---- bytes

-- a word among others, by `==` from them to it
-- `==` at two strings of bytes
pub same_is : (w y : List ℕ) → pointwise eqb w y ≡ same w y
same_is [] [] = refl
same_is [] (b ∷ y) = refl
same_is (a ∷ w) [] = refl
same_is (a ∷ w) (b ∷ y) = ap (λ (c : Bool). eqb a b && c) (same_is w y)

eqb_swap : (a b : ℕ) → eqb a b ≡ eqb b a
eqb_swap a b = grind arith

same_of : (w y : List ℕ) → pointwise eqb y w ≡ same w y
same_of [] [] = refl
same_of [] (b ∷ y) = refl
same_of (a ∷ w) [] = refl
same_of (a ∷ w) (b ∷ y) = λ i. eqb_swap b a i && same_of w y i

pub same_other : (w y : List ℕ) → (length w ≡ length y → ⊥) → same w y ≡ false
same_other [] [] h = absurd (h refl)
same_other [] (b ∷ y) h = refl
same_other (a ∷ w) [] h = refl
same_other (a ∷ w) (b ∷ y) h = rw (same_other w y (λ e. h (ap suc e))) (both_false (eqb a b))
  where
    both_false : (c : Bool) → c && false ≡ false
    both_false true = refl
    both_false false = refl

-- only the words as long as w can be w
sized : ℕ → List (List ℕ) → List (List ℕ)
sized n [] = []
sized n (y ∷ ws) = cond (eqb (length y) n) (y ∷ sized n ws) (sized n ws)

any_sized : (w : List ℕ) (n : ℕ) → length w ≡ n → (ws : List (List ℕ)) → any (same w) ws ≡ any (same w) (sized n ws)
unfolding sized
any_sized w n e [] = refl
any_sized w n e (y ∷ ws) = go (eqb (length y) n) refl (any_sized w n e ws)
  where
    eqb_not : (m n : ℕ) → eqb m n ≡ false → m ≡ n → ⊥
    eqb_not m n q h = grind arith

    go : (b : Bool) → eqb (length y) n ≡ b → any (same w) ws ≡ any (same w) (sized n ws) → any (same w) (y ∷ ws) ≡ any (same w) (cond b (y ∷ sized n ws) (sized n ws))
    go true q h = ap (λ (c : Bool). same w y || c) h
    go false q h = ap (λ (c : Bool). c || any (same w) ws) (same_other w y (λ k. eqb_not (length y) n q (sym k ∙ e))) ∙ h

pub reserved_two : (w : List ℕ) → length w ≡ 2 → any (same w) reserved ≡ (same w (bytes "do") || (same w (bytes "if") || false))
unfolding sized
reserved_two w e = any_sized w 2 e reserved

pub reserved_three : (w : List ℕ) → length w ≡ 3 → any (same w) reserved ≡ (same w (bytes "end") || (same w (bytes "max") || false))
unfolding sized
reserved_three w e = any_sized w 3 e reserved

pub reserved_four : (w : List ℕ) → length w ≡ 4
    → any (same w) reserved ≡ (same w (bytes "data") || (same w (bytes "then") || (same w (bytes "else") || (same w (bytes "rdiv") || false))))
unfolding sized
reserved_four w e = any_sized w 4 e reserved

pub reserved_five : (w : List ℕ) → length w ≡ 5 → any (same w) reserved ≡ (same w (bytes "enddo") || (same w (bytes "endif") || false))
unfolding sized
reserved_five w e = any_sized w 5 e reserved

pub reserved_seven : (w : List ℕ) → length w ≡ 7 → any (same w) reserved ≡ (same w (bytes "integer") || false)
unfolding sized
reserved_seven w e = any_sized w 7 e reserved

-- and no word where none is as long
none_sized : (n : ℕ) → (n ≡ 2 → ⊥) → (n ≡ 3 → ⊥) → (n ≡ 4 → ⊥) → (n ≡ 5 → ⊥) → (n ≡ 7 → ⊥) → sized n reserved ≡ []
unfolding sized
none_sized n a b c d e =
    let two : eqb 2 n ≡ false = grind arith in
    let three : eqb 3 n ≡ false = grind arith in
    let four : eqb 4 n ≡ false = grind arith in
    let five : eqb 5 n ≡ false = grind arith in
    let seven : eqb 7 n ≡ false = grind arith in
    rw (two, three, four, five, seven) (refl {a = []})

pub reserved_none : (w : List ℕ) → (length w ≡ 2 → ⊥) → (length w ≡ 3 → ⊥) → (length w ≡ 4 → ⊥) → (length w ≡ 5 → ⊥) → (length w ≡ 7 → ⊥)
    → any (same w) reserved ≡ false
reserved_none w a b c d e = any_sized w (length w) refl reserved ∙ ap (any (same w)) (none_sized (length w) a b c d e)

pub any_word : (w : List ℕ) (ws : List (List ℕ)) → any (λ y. pointwise eqb y w) ws ≡ any (same w) ws
any_word w [] = refl
any_word w (y ∷ ws) = λ i. same_of w y i || any_word w ws i

pub lower_is : (b : ℕ) → to_ascii_lowercase b ≡ lower b
lower_is b = grind arith

-- ---- a test before another

pub or_yes : {a : Bool} (b : Bool) → a ≡ true → a || b ≡ true
or_yes b e = ap (λ (a : Bool). a || b) e
