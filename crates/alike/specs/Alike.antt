-- Tokens that are the same, "a literal's leading zeros aside", as the code compares them.
use Rattle.std.specs.Prelude.{◌≡◌, Bool, cond, ◌&&◌, not, List, ℕ, eqb, drop}
use Rattle.syntax.specs.Bytes.{same, Token}
use Rattle.syntax.specs.Meaning.{no_zeros, alike}
use Rattle.syntax.specs.Reader.{peek_in, skip_in}
use Rattle.syntax.specs.Spelled.{Spells}

-- two tokens by their kinds and bytes; the end of a line is none
abbrev pub same_token : ℕ → List ℕ → ℕ → List ℕ → Bool
same_token k x j y = not (eqb k 0) && (eqb k j && cond (eqb k 3) (same (no_zeros x) (no_zeros y)) (same x y))

-- whether the tokens of a line up to n are those from one place to another
abbrev pub Alike : List ℕ → ℕ → ℕ → ℕ → Bool → Type 0
Alike s n from to r = (ts us : List Token) → Spells peek_in skip_in s ts (drop n s) → Spells peek_in skip_in (drop from s) us (drop to s) → r ≡ alike ts us
