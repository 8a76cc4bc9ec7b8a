-- Ranks by their numbers.
use mathlib.Core.Path.{◌≡◌, refl}
use Prim.Native.Nat.{◌≤◌}
use native.Mathlib.Omega.{arith}
use Rattle.syntax.specs.declared.Rank.{Rank}
use Rattle.syntax.specs.declared.Rank.TheVariants.{InOrder, OverLimit, WrongName}
use Rattle.syntax.specs.Ranks.{level}

-- a rank is known by its number
pub same_level : (a b : Rank) → level a ≡ level b → a ≡ b
same_level InOrder InOrder e = refl
same_level InOrder OverLimit e = absurd (omega (arith, e))
same_level InOrder WrongName e = absurd (omega (arith, e))
same_level OverLimit InOrder e = absurd (omega (arith, e))
same_level OverLimit OverLimit e = refl
same_level OverLimit WrongName e = absurd (omega (arith, e))
same_level WrongName InOrder e = absurd (omega (arith, e))
same_level WrongName OverLimit e = absurd (omega (arith, e))
same_level WrongName WrongName e = refl

pub level_most : (a : Rank) → level a ≤ 2
level_most InOrder = omega arith
level_most OverLimit = omega arith
level_most WrongName = omega arith
