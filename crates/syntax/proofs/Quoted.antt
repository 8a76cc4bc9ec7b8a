-- Texts in examples.
use mathlib.Core.List.{List, [], ◌∷◌, ◌++◌}
use Prim.Native.Nat.{ℕ}
use Prim.Native.String.{String}
use Rattle.syntax.specs.Bytes.{bytes}

-- lines, each ended by a newline
abbrev pub text : List String → List ℕ
text [] = []
text (l ∷ ls) = bytes l ++ (10 ∷ text ls)
