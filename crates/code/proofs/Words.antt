-- Instructions and their words: two words for each, from which it is read back.
use mathlib.Core.Path.{◌≡◌, refl, ◌∙◌, ap}
use mathlib.Core.List.{List, [], ◌∷◌, ◌++◌}
use Prim.Native.Nat.{ℕ, zero, suc, ◌+◌, ◌*◌, ◌/◌, ◌%◌, ◌<◌}
use native.Mathlib.Omega.{arith}
use lib.ListN.{length, get_or, set}
use Rattle.int32.specs.declared.Relation.{Relation}
use Rattle.int32.specs.declared.Relation.TheVariants.{Equal, Unequal, Less, AtMost, Greater, AtLeast}
use Rattle.syntax.specs.Sane.{Each}
use Rattle.code.specs.Instr.{Instr, push, push_v, load, load_at, add, subtract, multiply, negate, divide, round, store, store_at, check, update, update_at, jump_unless, jump, maximum, flatten, end, relation_number, relation_of, operation, argument, words, numbered, decode, instructions}

-- an array's first cell leaves room for its length in the argument, and a grid's first extent for its second
abbrev pub Ranged : Instr → Type 0
Ranged (push n) = Unit {0}
Ranged push_v = Unit {0}
Ranged (load c) = Unit {0}
Ranged (load_at b n l) = b < 4096
Ranged add = Unit {0}
Ranged subtract = Unit {0}
Ranged multiply = Unit {0}
Ranged negate = Unit {0}
Ranged (divide l) = Unit {0}
Ranged (round l) = Unit {0}
Ranged (store c) = Unit {0}
Ranged (store_at b n l) = b < 4096
Ranged (check b n l) = b < 4096
Ranged (update c) = Unit {0}
Ranged (update_at b n l) = b < 4096
Ranged (jump_unless r n) = Unit {0}
Ranged (jump n) = Unit {0}
Ranged maximum = Unit {0}
Ranged (flatten m n l) = (m < 8192) × (n < 8192)
Ranged end = Unit {0}

-- ---- one instruction

-- o is the instruction's number and l its line
decode_line : (o l a : ℕ) → o < 32 → decode (o + 32 * l) a ≡ get_or (numbered l a) o end
unfolding decode
decode_line o l a h =
    let p : (o + 32 * l) % 32 ≡ o = omega arith in
    let q : (o + 32 * l) / 32 ≡ l = omega arith in
    λ k. get_or (numbered (q k) a) (p k) end

-- b is the array's first cell and n its length
split_array : (b n l : ℕ) (f : ℕ → ℕ → ℕ → Instr) → b < 4096 → f ((b + 4096 * n) % 4096) ((b + 4096 * n) / 4096) l ≡ f b n l
split_array b n l f h =
    let p : (b + 4096 * n) % 4096 ≡ b = omega arith in
    let q : (b + 4096 * n) / 4096 ≡ n = omega arith in
    rw (p, q)

-- m and n are the grid's extents
split_grid : (m n l : ℕ) → m < 8192 → n < 8192 → flatten ((m + 8192 * n) % 8192) ((m + 8192 * n) / 8192 % 8192) l ≡ flatten m n l
split_grid m n l h k =
    let p : (m + 8192 * n) % 8192 ≡ m = omega arith in
    let q : (m + 8192 * n) / 8192 ≡ n = omega arith in
    let r : n % 8192 ≡ n = omega arith in
    rw (p, q, r)

split_relation : (r : Relation) (n : ℕ) → jump_unless (relation_of ((relation_number r + 8 * n) % 8)) ((relation_number r + 8 * n) / 8) ≡ jump_unless r n
split_relation r n =
    let p : (relation_number r + 8 * n) % 8 ≡ relation_number r = omega (arith, small r) in
    let q : (relation_number r + 8 * n) / 8 ≡ n = omega (arith, small r) in
    rw (p, q) (ap (λ (s : Relation). jump_unless s n) (back r))
  where
    small : (r : Relation) → relation_number r < 8
    small Equal = omega arith
    small Unequal = omega arith
    small Less = omega arith
    small AtMost = omega arith
    small Greater = omega arith
    small AtLeast = omega arith

    back : (r : Relation) → relation_of (relation_number r) ≡ r
    back Equal = refl
    back Unequal = refl
    back Less = refl
    back AtMost = refl
    back Greater = refl
    back AtLeast = refl

pub decode_words : (i : Instr) → Ranged i → decode (operation i) (argument i) ≡ i
unfolding decode
decode_words (push n) h = refl
decode_words push_v h = refl
decode_words (load c) h = refl
decode_words (load_at b n l) h = decode_line 3 l _ (omega arith) ∙ split_array b n l load_at h
decode_words add h = refl
decode_words subtract h = refl
decode_words multiply h = refl
decode_words negate h = refl
decode_words (divide l) h = decode_line 8 l 0 (omega arith)
decode_words (round l) h = decode_line 9 l 0 (omega arith)
decode_words (store c) h = refl
decode_words (store_at b n l) h = decode_line 11 l _ (omega arith) ∙ split_array b n l store_at h
decode_words (check b n l) h = decode_line 12 l _ (omega arith) ∙ split_array b n l check h
decode_words (update c) h = refl
decode_words (update_at b n l) h = decode_line 14 l _ (omega arith) ∙ split_array b n l update_at h
decode_words (jump_unless r n) h = split_relation r n
decode_words (jump n) h = let e : 8 * n / 8 ≡ n = omega arith in rw e
decode_words maximum h = refl
decode_words (flatten m n l) h = decode_line 18 l _ (omega arith) ∙ split_grid m n l h.0 h.1
decode_words end h = refl

-- ---- lists of them

pub words_append : (a b : List Instr) → words (a ++ b) ≡ words a ++ words b
unfolding words
words_append [] b = refl
words_append (i ∷ a) b = ap (λ (w : List ℕ). operation i ∷ argument i ∷ w) (words_append a b)

pub words_length : (is : List Instr) → length (words is) ≡ 2 * length is
unfolding words
words_length [] = refl
words_length (i ∷ is) = omega (arith, words_length is)

-- words of instructions are read back
pub instructions_words : (is : List Instr) (rest : List ℕ) → Each Ranged is → instructions (words is ++ rest) ≡ is ++ instructions rest
unfolding words instructions
instructions_words [] rest h = refl
instructions_words (i ∷ is) rest h = λ k. decode_words i h.0 k ∷ instructions_words is rest h.1 k

-- the two words of the instruction at a place
pub words_get_d : (is : List Instr) (p : ℕ) → p < length is
    → (get_or (words is) (2 * p) 0 ≡ operation (get_or is p end)) × (get_or (words is) (2 * p + 1) 0 ≡ argument (get_or is p end))
unfolding words
words_get_d [] p h = absurd (omega arith)
words_get_d (i ∷ is) zero h = (refl, refl)
words_get_d (i ∷ is) (suc p) h =
    let a : 2 * suc p ≡ suc (suc (2 * p)) = omega arith in
    let b : suc (suc (2 * p)) + 1 ≡ suc (suc (2 * p + 1)) = omega arith in
    rw (a, b) (words_get_d is p (omega arith))

-- a jump is filled in by its argument's word
pub words_set : (is : List Instr) (p : ℕ) (j : Instr) → p < length is → operation (get_or is p end) ≡ operation j
    → set (words is) (2 * p + 1) (argument j) ≡ words (set is p j)
unfolding words
words_set [] p j h e = absurd (omega arith)
words_set (i ∷ is) zero j h e = ap (λ (w : ℕ). w ∷ argument j ∷ words is) e
words_set (i ∷ is) (suc p) j h e =
    let q : 2 * suc p + 1 ≡ suc (suc (2 * p + 1)) = omega arith in
    rw q (ap (λ (w : List ℕ). operation i ∷ argument i ∷ w) (words_set is p j (omega arith) e))
