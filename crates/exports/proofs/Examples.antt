-- Name's rows of small texts (`name_rows`) in the numbers that C is told, and what RULES 9.2 c and 10 say: each clause has its own number.
use mathlib.Core.Path.{◌≡◌, refl, ◌∙◌, ap}
use mathlib.Core.List.{List, [], ◌∷◌, map}
use Prim.Native.Nat.{ℕ}
use Rattle.std.specs.Prelude.{Result, pos}
use Rattle.answers.specs.declared.Located.{Located}
use Rattle.answers.specs.declared.Refusal.{Refusal}
use Rattle.describing.proofs.Examples.{Row, name_rows, name_examples}
use Rattle.exports.specs.declared.NameAnswer.{NameAnswer}
use Rattle.exports.specs.Numbers.{name_numbers}

abbrev told : ℕ → ℕ → ℕ → ℕ → ℕ → ℕ → NameAnswer
told f z k c m n = record { number = 0; line = 0; v = pos 0; first = f; cells = z; subscripts = k; clause = c; rows = m; columns = n }

abbrev untold : ℕ → ℕ → NameAnswer
untold n k = record { number = n; line = k; v = pos 0; first = 0; cells = 0; subscripts = 0; clause = 0; rows = 0; columns = 0 }

pub told_rows : List NameAnswer
told_rows =
    -- first cell, how many, how many subscripts, the clause (each of the six), and the extents
    told 0 1 0 0 0 0
    ∷ told 1 3 1 1 3 0
    ∷ told 4 1 0 2 0 0
    ∷ told 5 2 1 4 2 0
    ∷ told 7 1 0 5 0 0
    ∷ told 8 1 0 3 0 0
    -- grids
    ∷ told 9 6 2 0 2 3
    ∷ told 15 1 2 0 1 1
    -- upper case reads as lower case
    ∷ told 5 2 1 4 2 0
    ∷ told 9 6 2 0 2 3
    -- what is not declared
    ∷ untold 3 0
    ∷ untold 3 0
    ∷ untold 3 0
    ∷ untold 3 0
    ∷ untold 3 0
    -- refusals of the text come first
    ∷ untold 3 5
    ∷ untold 2 1
    ∷ []

-- every row gives what the rules say
pub told_examples : map (λ (r : Row (Result Located Refusal)). name_numbers r.got) name_rows ≡ told_rows
unfolding name_rows name_numbers told_rows
told_examples = ap (map name_numbers) name_examples
