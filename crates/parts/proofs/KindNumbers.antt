-- The code's tests of a token's kind, by its number.
use mathlib.Core.Path.{◌≡◌, refl}
use lib.Dec.{eqb}
use Rattle.lexer.specs.Lex.{kind_number}
use denote.Enum.Bare.{sameb}
use Rattle.lexer.specs.contracts.Kind.{the_type}
use Rattle.lexer.specs.declared.Kind.{Kind}
use Rattle.lexer.specs.declared.Kind.TheVariants.{End, Name, Word, Digits, Sign}

pub digits_number : (k : Kind) → sameb the_type k Digits ≡ eqb (kind_number k) 3
digits_number End = refl
digits_number Name = refl
digits_number Word = refl
digits_number Digits = refl
digits_number Sign = refl

pub name_number : (k : Kind) → sameb the_type k Name ≡ eqb (kind_number k) 1
name_number End = refl
name_number Name = refl
name_number Word = refl
name_number Digits = refl
name_number Sign = refl
