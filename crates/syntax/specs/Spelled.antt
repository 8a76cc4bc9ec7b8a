-- The tokens from one place of a line to another, over any kind of place (`Reader`). Nothing here has to be believed.
use Rattle.std.specs.Prelude.{◌≡◌, List, [], ◌∷◌}
use Rattle.std.proofs.Math.Option.{Option, some}
use Rattle.syntax.specs.Bytes.{Token}

-- from one place on stand these tokens, and then comes the other place
pub data Spells {S : Type 0} (peek : S → Option Token) (skip : S → S) : S → List Token → S → Type 0 where
  here : {s : S} → Spells peek skip s [] s
  token : {s u : S} {t : Token} {ts : List Token} → peek s ≡ some t → Spells peek skip (skip s) ts u → Spells peek skip s (t ∷ ts) u
