-- What the theorems about Plan are stated with.
use Rattle.std.specs.Prelude.{List, ℕ, get_or, ℤ}
use Rattle.syntax.specs.Text.{read}
use Rattle.answers.specs.Answers.{list_planned}

-- the stage of iteration i by the list that Plan leaves, of a text, the cells m, w words of a workspace and the list q
abbrev pub stage_of : List ℕ → List ℤ → ℕ → List ℕ → ℕ → ℕ
stage_of text m w q i = get_or (list_planned (read text) m w q) i 0
