-- `==` at two kinds of tokens compares their numbers.
use mathlib.Core.Path.{◌≡◌, refl}
use denote.Enum.Bare.{sameb}
use denote.Enum.Declared.{tag_of}
use lib.Dec.{eqb}
use Rattle.lexer.specs.contracts.Kind.{the_type}
use Rattle.lexer.specs.declared.Kind.{Kind}
use Rattle.lexer.specs.declared.Kind.TheVariants.{End, Name, Word, Digits, Sign}
use Rattle.lexer.specs.Lex.{kind_number}

tag : (k : Kind) → tag_of the_type k ≡ kind_number k
tag End = refl
tag Name = refl
tag Word = refl
tag Digits = refl
tag Sign = refl

pub kind_same : (k j : Kind) → sameb the_type k j ≡ eqb (kind_number k) (kind_number j)
kind_same k j = λ i. eqb (tag k i) (tag j i)
