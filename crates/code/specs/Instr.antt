-- Instructions, their two words, and what is still to be done from a place in the code. Nothing here has to be believed: the code of a body does
-- what the body means (proofs/Compiled.antt).
use Rattle.std.specs.Prelude.{cond, List, [], ◌∷◌, ℕ, zero, suc, ◌+◌, ◌*◌, ◌/◌, ◌%◌, ltb, length, get_or, ℤ, pos}
use Rattle.int32.specs.declared.Relation.{Relation}
use Rattle.int32.specs.declared.Relation.TheVariants.{Equal, Unequal, Less, AtMost, Greater, AtLeast}
use Rattle.int32.specs.Integers.{value, sum, difference, product, negation, larger, quotient, rdiv, related}
use Rattle.rules.specs.Loop.{Act, read, write, done}
use Rattle.syntax.specs.Meaning.{located, in_grid, divides}
use Rattle.rules.specs.Loop as loop

-- A literal by its word, v, a cell; an element of an array with its first cell, its length and the line; the operations, a division with its line; the larger of two; the
-- store of a value in a cell or an element; the test of an update's subscript, which stays pending, and the update; jumps over so many
-- instructions; the two subscripts of a grid tested against its extents and made one, the place among its cells, with the line.
pub data Instr : Type 0 where
  push : ℕ → Instr
  push_v : Instr
  load : ℕ → Instr
  load_at : ℕ → ℕ → ℕ → Instr
  add subtract multiply negate : Instr
  divide round : ℕ → Instr
  store : ℕ → Instr
  store_at : ℕ → ℕ → ℕ → Instr
  check : ℕ → ℕ → ℕ → Instr
  update : ℕ → Instr
  update_at : ℕ → ℕ → ℕ → Instr
  jump_unless : Relation → ℕ → Instr
  jump : ℕ → Instr
  maximum : Instr
  flatten : ℕ → ℕ → ℕ → Instr
  end : Instr

-- ---- words

-- a relation's number
abbrev pub relation_number : Relation → ℕ
relation_number Equal = 0
relation_number Unequal = 1
relation_number Less = 2
relation_number AtMost = 3
relation_number Greater = 4
relation_number AtLeast = 5

abbrev pub relations : List Relation
relations = Equal ∷ Unequal ∷ Less ∷ AtMost ∷ Greater ∷ []

abbrev pub relation_of : ℕ → Relation
relation_of n = get_or relations n AtLeast

-- the first word: the operation's number and the line; the second: the argument
abbrev pub operation : Instr → ℕ
operation (push n) = 0
operation push_v = 1
operation (load c) = 2
operation (load_at b n l) = 3 + 32 * l
operation add = 4
operation subtract = 5
operation multiply = 6
operation negate = 7
operation (divide l) = 8 + 32 * l
operation (round l) = 9 + 32 * l
operation (store c) = 10
operation (store_at b n l) = 11 + 32 * l
operation (check b n l) = 12 + 32 * l
operation (update c) = 13
operation (update_at b n l) = 14 + 32 * l
operation (jump_unless r n) = 15
operation (jump n) = 16
operation maximum = 17
operation (flatten m n l) = 18 + 32 * l
operation end = 19

abbrev pub argument : Instr → ℕ
argument (push n) = n
argument push_v = 0
argument (load c) = c
argument (load_at b n l) = b + 4096 * n
argument add = 0
argument subtract = 0
argument multiply = 0
argument negate = 0
argument (divide l) = 0
argument (round l) = 0
argument (store c) = c
argument (store_at b n l) = b + 4096 * n
argument (check b n l) = b + 4096 * n
argument (update c) = c
argument (update_at b n l) = b + 4096 * n
argument (jump_unless r n) = relation_number r + 8 * n
argument (jump n) = 8 * n
argument maximum = 0
argument (flatten m n l) = m + 8192 * n
argument end = 0

-- the words of instructions
unfoldable pub words : List Instr → List ℕ
words [] = []
words (i ∷ is) = operation i ∷ argument i ∷ words is

-- the instructions of line l with argument a, by their numbers
abbrev pub numbered : ℕ → ℕ → List Instr
numbered l a =
    push a
    ∷ push_v
    ∷ load a
    ∷ load_at (a % 4096) (a / 4096) l
    ∷ add
    ∷ subtract
    ∷ multiply
    ∷ negate
    ∷ divide l
    ∷ round l
    ∷ store a
    ∷ store_at (a % 4096) (a / 4096) l
    ∷ check (a % 4096) (a / 4096) l
    ∷ update a
    ∷ update_at (a % 4096) (a / 4096) l
    ∷ jump_unless (relation_of (a % 8)) (a / 8)
    ∷ jump (a / 8)
    ∷ maximum
    ∷ flatten (a % 8192) (a / 8192 % 8192) l
    ∷ []

-- the instruction of two words; others are `end`
unfoldable pub decode : ℕ → ℕ → Instr
decode w a = get_or (numbered (w / 32) a) (w % 32) end

-- the instructions of words
unfoldable pub instructions : List ℕ → List Instr
instructions [] = []
instructions (w ∷ []) = []
instructions (w ∷ a ∷ code) = decode w a ∷ instructions code

-- ---- what is done

-- with fewer than 32 values pending, and else nothing
unfoldable pub room : List ℤ → Act → Act
room s a = cond (ltb (length s) 32) a done

-- with the last value, or the last two, taken off, and else nothing
unfoldable pub with1 : List ℤ → (ℤ → List ℤ → Act) → Act
with1 [] k = done
with1 (x ∷ s) k = k x s

unfoldable pub with2 : List ℤ → (ℤ → ℤ → List ℤ → Act) → Act
with2 [] k = done
with2 (y ∷ []) k = done
with2 (y ∷ x ∷ s) k = k x y s

-- one instruction at pending values s, the last first, and value v of the loop's variable; `on` is what is done next, and `past n` after n
-- instructions more
unfoldable pub perform : Instr → (List ℤ → Act) → (ℕ → List ℤ → Act) → List ℤ → ℤ → Act
perform (push n) on past s v = room s (on (value n ∷ s))
perform push_v on past s v = room s (on (v ∷ s))
perform (load c) on past s v = room s (read c (λ x. on (x ∷ s)))
perform (load_at b n l) on past s v = with1 s (λ i t. located l b n i (λ c. read c (λ x. on (x ∷ t))))
perform add on past s v = with2 s (λ x y t. on (sum x y ∷ t))
perform subtract on past s v = with2 s (λ x y t. on (difference x y ∷ t))
perform multiply on past s v = with2 s (λ x y t. on (product x y ∷ t))
perform negate on past s v = with1 s (λ x t. on (negation x ∷ t))
perform (divide l) on past s v = with2 s (λ x y t. divides l quotient x y (λ z. on (z ∷ t)))
perform (round l) on past s v = with2 s (λ x y t. divides l rdiv x y (λ z. on (z ∷ t)))
perform (store c) on past s v = with1 s (λ x t. write c x (on t))
perform (store_at b n l) on past s v = with2 s (λ x i t. located l b n i (λ c. write c x (on t)))
perform (check b n l) on past s v = with1 s (λ i t. located l b n i (λ c. on (i ∷ t)))
perform (update c) on past s v = with1 s (λ x t. loop.update c x (on t))
perform (update_at b n l) on past s v = with2 s (λ i x t. located l b n i (λ c. loop.update c x (on t)))
perform (jump_unless r n) on past s v = with2 s (λ x y t. cond (related r x y) (on t) (past n t))
perform (jump n) on past s v = past n s
perform maximum on past s v = with2 s (λ x y t. on (larger x y ∷ t))
perform (flatten m n l) on past s v = with2 s (λ i j t. in_grid l 0 m n i j (λ c. on (pos (suc c) ∷ t)))
perform end on past s v = done

-- from place p of the code on
unfoldable pub resume : List Instr → ℕ → List ℤ → ℤ → Act
resume [] p s v = done
resume (i ∷ rest) (suc p) s v = resume rest p s v
resume (i ∷ rest) zero s v = perform i (λ t. resume rest 0 t v) (λ n t. resume rest n t v) s v
