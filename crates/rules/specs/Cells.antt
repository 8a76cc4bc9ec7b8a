-- From the cells that the code holds, a list, to a function from a cell's number, and back. Their laws are in proofs/CellsLaws.antt.
use Rattle.std.specs.Prelude.{List, [], ◌∷◌, ℕ, zero, suc, get_or, ℤ, pos}

-- the cell of a number; past the end, 0
unfoldable pub cell_of : List ℤ → ℕ → ℤ
cell_of m c = get_or m c (pos 0)

-- the first n values of f
unfoldable pub listed : {A : Type 0} → ℕ → (ℕ → A) → List A
listed zero f = []
listed (suc n) f = f zero ∷ listed n (λ c. f (suc c))
