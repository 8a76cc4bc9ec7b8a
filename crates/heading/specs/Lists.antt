-- Lists of parts with a comma between them, and ranks.
use Rattle.std.specs.Prelude.{Bool, cond, List, ◌∷◌, ◌≡◌, ℕ, ◌≤◌}
use Rattle.syntax.specs.Reader.{Reader, read_list, peek_in, skip_in}
use Rattle.syntax.specs.Known.{Entry}
use Rattle.names.specs.Table.{variable_of, Tabled, length_at, variable_entry, name_words}

-- one part, and further ones
abbrev pub read_some : {A : Type 0} → ℕ → Reader (List ℕ) A → Reader (List ℕ) (List A)
read_some f r = read_list peek_in skip_in f r (λ a more. a ∷ more)

-- 0 in order, 1 over a limit (number 4), 2 a wrong name (number 3)
abbrev pub order : Bool → Bool → ℕ
order named small = cond named (cond small 0 1) 2

-- the loop's variable stays as it is
abbrev pub Keeps : List ℕ → List ℕ → Type 0
Keeps T T' = length_at T variable_entry ≤ name_words → (length_at T' variable_entry ≤ name_words) × (variable_of T' ≡ variable_of T)

-- the table stands for some names
abbrev pub Standing : List ℕ → Type 0
Standing T = (t : List Entry) × Tabled T t
