-- RULES 2.1 to 2.4 (document 01, Integers; document 02, Points 2, 4 and 6). A cell's value is a number of ℤ from -2^31 to 2^31 - 1. Each operation is
-- done on ℤ and its result wrapped, so that "wrap at 32 bits" is said once; `/` goes by cases instead. Assumes nothing.
use Rattle.std.specs.Prelude.{ℕ, suc, ◌+◌, ◌-◌, ◌/◌, ◌%◌, ◌^◌, min, max, Bool, false, cond, not, ℤ, pos, negsuc, ◌+ℤ◌, ◌-ℤ◌, ◌*ℤ◌, neg_ℤ, ◌==◌, int_le, int_lt, nat_lt, Option, Some, None}
use Rattle.int32.specs.declared.Relation.{Relation}
use Rattle.int32.specs.declared.Relation.TheVariants.{Equal, Unequal, Less, AtMost, Greater, AtLeast}

-- "two's complement": the word of a number is its remainder modulo 2^32
unfoldable pub word : ℤ → ℕ
word (pos n) = n % 2 ^ 32
word (negsuc n) = 2 ^ 32 - suc (n % 2 ^ 32)

-- the number that a word stands for: the words from 2^31 up are the negative numbers
unfoldable pub value : ℕ → ℤ
value n = cond (nat_lt n (2 ^ 31)) (pos n) (negsuc (2 ^ 32 - suc n))

-- "Sum, difference, product and negation wrap at 32 bits"
unfoldable pub wrap : ℤ → ℤ
wrap z = value (word z)

unfoldable pub sum : ℤ → ℤ → ℤ
sum x y = wrap (x +ℤ y)

unfoldable pub difference : ℤ → ℤ → ℤ
difference x y = wrap (x -ℤ y)

unfoldable pub product : ℤ → ℤ → ℤ
product x y = wrap (x *ℤ y)

unfoldable pub negation : ℤ → ℤ
negation x = wrap (neg_ℤ x)

-- Document 02, Point 6: "`max(e, e)`". Of two numbers that differ in sign the one that is not negative, of two negative ones (`negsuc n` is -(n + 1)) the
-- one with the smaller magnitude
unfoldable pub greater : ℤ → ℤ → ℤ
greater (pos a) (pos b) = pos (max a b)
greater (pos a) (negsuc b) = pos a
greater (negsuc a) (pos b) = pos b
greater (negsuc a) (negsuc b) = negsuc (min a b)

-- the numbers wrap first, as the result does in the operations above; those of cells stay as they are. So no result is below −2147483648
unfoldable pub larger : ℤ → ℤ → ℤ
larger x y = greater (wrap x) (wrap y)

-- whether two numbers are the same
unfoldable pub same : ℤ → ℤ → Bool
same (pos a) (pos b) = a == b
same (pos a) (negsuc b) = false
same (negsuc a) (pos b) = false
same (negsuc a) (negsuc b) = a == b

-- `/`. Document 02, Point 4: "Write it as the cases of the operands' signs, with the end of the range as a case of its own."

-- "`/` truncates toward zero": of the whole numbers from zero to the exact quotient, the one nearest to it. In each case the magnitudes are
-- divided, rounding down, and the case gives the sign. `negsuc n` is -(n + 1)
abbrev pub truncated : ℤ → ℤ → ℤ
-- neither is negative, so the exact quotient is not either: the largest whole number not above it
truncated (pos a) (pos b) = pos (a / b)
-- the divisor alone is negative, so the exact quotient is 0 or negative: the smallest whole number not below it
truncated (pos a) (negsuc b) = neg_ℤ (pos (a / suc b))
-- the dividend alone is negative, so the exact quotient is 0 or negative: the smallest whole number not below it
truncated (negsuc a) (pos b) = neg_ℤ (pos (suc a / b))
-- both are negative, so the exact quotient is positive: the largest whole number not above it
truncated (negsuc a) (negsuc b) = pos (suc a / suc b)

-- the end of the range: −2147483648 over −1. The exact quotient is 2147483648, one more than the largest number
abbrev pub at_end : ℤ → ℤ → Bool
at_end x y = cond (same x (negsuc 2147483647)) (same y (negsuc 0)) false

-- "−2147483648 divided by −1, either way, gives −2147483648"; elsewhere the signs decide
unfoldable pub quotient : ℤ → ℤ → ℤ
quotient x y = cond (at_end x y) (negsuc 2147483647) (truncated x y)

-- a division of the magnitudes, with the sign that the quotient has
unfoldable pub by_signs : (ℕ → ℕ → ℕ) → ℤ → ℤ → ℤ
by_signs f (pos a) (pos b) = pos (f a b)
by_signs f (pos a) (negsuc b) = neg_ℤ (pos (f a (suc b)))
by_signs f (negsuc a) (pos b) = neg_ℤ (pos (f (suc a) b))
by_signs f (negsuc a) (negsuc b) = pos (f (suc a) (suc b))

-- Document 02, Point 2: "to the even neighbour", of q and q + 1 the even one
unfoldable pub even_of : ℕ → ℕ
even_of q = q + q % 2

-- of the neighbours q and q + 1, at the distances d and e, the nearer one, and of two nearest ones the even one
unfoldable pub nearer : ℕ → ℕ → ℕ → ℕ
nearer q d e = cond (nat_lt d e) q (cond (nat_lt e d) (q + 1) (even_of q))

-- "the nearest whole number", of magnitudes: a over b lies a % b above a / b and b - a % b below the next, in parts of b
unfoldable pub nearest : ℕ → ℕ → ℕ
nearest a b = nearer (a / b) (a % b) (b - a % b)

-- the whole number nearest to the exact quotient, and of two nearest ones the even one; −2147483648 over −1 wraps to −2147483648
unfoldable pub rdiv : ℤ → ℤ → ℤ
rdiv x y = wrap (by_signs nearest x y)

-- "a divisor against zero": a division by f has a value unless the divisor is 0
unfoldable pub divided : (ℤ → ℤ → ℤ) → ℤ → ℤ → Option ℤ
divided f x y = cond (same y (pos 0)) None (Some (f x y))

-- "rel is ==, /=, <, <=, > or >="
unfoldable pub related : Relation → ℤ → ℤ → Bool
related Equal x y = same x y
related Unequal x y = not (same x y)
related Less x y = int_lt x y
related AtMost x y = int_le x y
related Greater x y = int_lt y x
related AtLeast x y = int_le y x
