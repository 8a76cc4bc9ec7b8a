-- What the functions that write leave in the bytes lent, and the tokens of a line as they are written.
use Rattle.std.specs.Prelude.{◌≡◌, cond, List, [], ◌∷◌, map, ℕ, ◌+◌, ◌≤◌, ◌<◌, eqb, length, drop}
use Rattle.std.proofs.lemmas.List.Edits.{sets}
use Rattle.syntax.specs.Bytes.{Token, tokens}
use Rattle.printed.specs.Form.{shortest, zeros_gone, after_blanks}
use Rattle.writing.specs.declared.Moved.{Moved}

-- the bytes xs stand from a place on, as far as bytes are lent there, and r is the place after them; all else is as it was
pub record Writes (before : List ℕ) (at : ℕ) (xs after : List ℕ) (r : ℕ) : Type 0 where
  pub place : r ≡ at + length xs
  pub bytes : after ≡ sets before at xs

-- no printed form is longer
abbrev pub most_bytes : ℕ
most_bytes = 65535

abbrev pub Fits : ℕ → List ℕ → Type 0
Fits at xs = at + length xs ≤ most_bytes

-- the bytes of a token of this kind, without leading zeros
abbrev pub told : ℕ → List ℕ → List ℕ
told k b = cond (eqb k 3) (shortest b) b

-- bytes after a blank, if there are any
abbrev pub spanned : List ℕ → List ℕ
spanned [] = []
spanned (b ∷ bs) = 32 ∷ b ∷ bs

-- tokens without leading zeros, each after a blank
unfoldable pub blanked : List Token → List ℕ
blanked ts = after_blanks (map zeros_gone ts)

-- of the tokens from a place of a line on, the front is written to the bytes lent, and the back is left
pub record Moves (before : List ℕ) (to : ℕ) (s : List ℕ) (at : ℕ) (front back : List Token → List Token) (after : List ℕ) (r : Moved) : Type 0 where
  pub writes : Writes before to (blanked (front (tokens (drop at s)))) after r.to
  pub left : tokens (drop r.at s) ≡ back (tokens (drop at s))
  pub from : at ≤ r.at
  pub onward : at < length s → at < r.at
  pub within : r.at ≤ length s
