-- What Name tells of a name (RULES 9.2 c), as its theorems say it.
use Rattle.std.specs.Prelude.{◌≡◌, List, ℕ, Ok}
use Rattle.rules.specs.declared.Class.{Class}
use Rattle.syntax.specs.Text.{read}
use Rattle.answers.specs.Answers.{name_of}

-- of the text, that x has n cells, from number f on
pub record Has (text x : List ℕ) (f n : ℕ) : Type 0 where
  pub subscripts : ℕ
  pub clause : Class
  pub rows : ℕ
  pub columns : ℕ
  pub answer : name_of (read text) x
      ≡ Ok (record { first = f; count = n; subscripts = subscripts; class = clause; rows = rows; columns = columns })
