-- What a reader that begins at a place of a line finds there: nothing, or a part and the place after it.
use Rattle.std.specs.Prelude.{◌≡◌, cond, List, ℕ, ◌+◌, ◌≤◌, ◌<◌, min, length, drop, Option, None, Some}
use Rattle.syntax.specs.Bytes.{same}
use Rattle.syntax.specs.Grammar.{Lead, bare, plus, minus, number as number_of}
use Rattle.syntax.specs.Reader.{Parsed, broken, done, Reader, text, peek_in, skip_in}
use Rattle.lexer.specs.declared.Leading.{Leading}
use Rattle.lexer.specs.declared.Leading.TheVariants.{Bare, Plus, Minus}
use Rattle.lexer.specs.declared.Word.{Word}
use Rattle.lexer.specs.declared.Number.{Number}
use Rattle.lexer.specs.declared.Sign.{Sign}
use Rattle.lexer.specs.Lex.{part}

-- nothing is read at a place
pub record NotRead {A : Type 0} (s : List ℕ) (at : ℕ) (read : Reader (List ℕ) A) : Type 0 where
  pub fails : at ≤ length s → read (drop at s) ≡ broken

-- something is read from a place up to another, and P holds of it
pub record ReadTo {A : Type 0} (P : A → Type 0) (s : List ℕ) (at : ℕ) (read : Reader (List ℕ) A) (after : ℕ) : Type 0 where
  pub what : A
  pub reads : read (drop at s) ≡ done what (drop after s)
  pub holds : P what
  pub from : at ≤ after
  pub within : after ≤ length s

-- nothing, or r with the place after it, of which and of what is read P holds; a place past the line's end has nothing
abbrev pub Finds : {A R : Type 0} → (R → ℕ) → (R → A → Type 0) → List ℕ → ℕ → Reader (List ℕ) A → Option R → Type 0
Finds after P s at read None = NotRead s at read
Finds after P s at read (Some r) = ReadTo (P r) s at read (after r)

-- P holds of what is read
abbrev pub Lands : {A : Type 0} → (A → Type 0) → List ℕ → Parsed (List ℕ) A → ℕ → Type 0
Lands P s broken r = r ≡ length s + 1
Lands P s (done a u) r = (u ≡ drop r s) × (r ≤ length s) × P a

-- from a place, which may itself lie past the line's end
pub record Goes {A : Type 0} (P : A → Type 0) (s : List ℕ) (at : ℕ) (read : Reader (List ℕ) A) (r : ℕ) : Type 0 where
  pub lands : at ≤ length s → Lands P s (read (drop at s)) r
  pub from : at ≤ length s → at ≤ r
  pub lost : length s < at → r ≡ length s + 1

-- nothing is said of what is read
abbrev pub Any : {A : Type 0} → A → Type 0
Any a = Unit {0}

-- the token with the bytes w
abbrev pub passes : List ℕ → Reader (List ℕ) (Unit {0})
passes w u = cond (same w (text (peek_in u))) (done tt (skip_in u)) broken

-- these bytes lie where the code found a name; "a letter and up to 30 letters, digits or underscores"
pub record Spells (s : List ℕ) (r : Word) (w : List ℕ) : Type 0 where
  pub bytes : w ≡ part s r.start r.next
  pub order : r.start ≤ r.next
  pub short : length w ≤ 31

-- the sign that the code found
abbrev pub lead_of : Leading → Lead
lead_of Bare = bare
lead_of Plus = plus
lead_of Minus = minus

-- the number that the code found, up to 2^31
abbrev pub Numbers : Number → List ℕ → Type 0
Numbers r d = r.number ≡ min (number_of d) 2147483648

-- what the code found before digits
abbrev pub Leads : Sign → Lead → Type 0
Leads r l = lead_of r.sign ≡ l
