-- A step of the code of rdiv, which works on the words of magnitudes. Nothing here is part of RULES. Assumes nothing.
use Rattle.std.specs.Prelude.{ℕ, ◌-◌, ◌%◌, ◌^◌, ℤ, pos, negsuc}

-- the word m, negated where the number is negative
unfoldable pub sign_word : ℤ → ℕ → ℕ
sign_word (pos n) m = m
sign_word (negsuc n) m = (2 ^ 32 - m) % 2 ^ 32
