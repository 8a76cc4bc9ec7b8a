-- The tokens of a line as they are printed: in a data line `r*` before an item is r copies of it. Nothing here has to be believed: of an accepted text's
-- lines it comes to what Rattle.printed.specs.Form says (proofs/Data.antt).
use Rattle.std.specs.Prelude.{◌≡◌, Bool, true, false, cond, ◌&&◌, List, [], ◌∷◌, ◌++◌, ℕ, zero, suc, ◌-◌, ◌≤◌, ◌<◌, min, eqb, length, take, drop, Option, None, Some}
use Rattle.std.proofs.Math.Option.{some}
use Rattle.syntax.specs.Bytes.{choose, same, bytes, Token, tokens}
use Rattle.syntax.specs.Grammar.{number, sg}
use Rattle.syntax.specs.Reader.{kind, text, first, rest}
use Rattle.lexer.specs.Lex.{part}
use Rattle.writing.specs.Written.{told, spanned, blanked}
use Rattle.layout.specs.declared.Literal.{Literal}
use Rattle.layout.specs.declared.Repeat.{Repeat}

-- how many of the tokens are a literal with an optional sign
abbrev pub signed_size : List Token → ℕ
signed_size ts = cond (eqb (kind (first ts)) 3) 1 2

abbrev pub signed : List Token → List Token
signed ts = take (signed_size ts) ts

abbrev pub after_signed : List Token → List Token
after_signed ts = drop (signed_size ts) ts

-- so many copies, each after a comma
unfoldable pub commas : ℕ → List Token → List Token
commas zero xs = []
commas (suc n) xs = sg "," ++ (xs ++ commas n xs)

-- so many copies of the literal that stands first, with commas between them
abbrev pub listed : ℕ → List Token → List Token
listed n ts = signed ts ++ commas (n - 1) (signed ts)

-- where the code found the literal that stands first: its bytes, each token after a blank; that it lies in the line; and what is left after it
abbrev pub literal_bytes : List ℕ → Literal → List ℕ
literal_bytes s l = spanned (part s l.first l.stop) ++ spanned (part s l.second l.next)

pub record Within (s : List ℕ) (l : Literal) : Type 0 where
  pub first : l.first ≤ l.stop
  pub stop : l.stop ≤ length s
  pub second : l.second ≤ l.next
  pub next : l.next ≤ length s

pub record Stands (s : List ℕ) (at : ℕ) (l : Literal) : Type 0 where
  pub bytes : literal_bytes s l ≡ blanked (signed (tokens (drop at s)))
  pub within : Within s l
  pub left : tokens (drop l.next s) ≡ after_signed (tokens (drop at s))
  pub from : at ≤ l.next
  pub onward : at < length s → at < l.next

-- so many copies of a literal's bytes, each after a comma
unfoldable pub comma_bytes : ℕ → List ℕ → List ℕ
comma_bytes zero b = []
comma_bytes (suc n) b = 32 ∷ 44 ∷ (b ++ comma_bytes n b)

-- digits before * are a repeat
unfoldable pub repeats : Bool → List Token → Bool
repeats data? ts = data? && (eqb (kind (first ts)) 3 && same (bytes "*") (text (first (rest ts))))

-- what is printed next, and what is left then
unfoldable pub front : Bool → List Token → List Token
front data? ts = cond (repeats data? ts) (listed (number (text (first ts))) (drop 2 ts)) (take 1 ts)

unfoldable pub back : Bool → List Token → List Token
back data? ts = cond (repeats data? ts) (after_signed (drop 2 ts)) (drop 1 ts)

-- after so many tokens that are passed over
unfoldable pub spread_after : Bool → ℕ → List Token → List Token
spread_after data? k [] = []
spread_after data? zero (t ∷ ts) =
    choose (repeats data? (t ∷ ts))
    (λ _. listed (number (text (some t))) (drop 1 ts) ++ spread_after data? (suc (signed_size (drop 1 ts))) ts)
    (λ _. t ∷ spread_after data? zero ts)
spread_after data? (suc k) (t ∷ ts) = spread_after data? k ts

abbrev pub spread : Bool → List Token → List Token
spread data? = spread_after data? 0

-- a line's first token, the others, and a newline
unfoldable pub line_bytes : Bool → List Token → List ℕ
line_bytes data? ts = (told (kind (first ts)) (text (first ts)) ++ blanked (spread data? (rest ts))) ++ (10 ∷ [])

-- what the code finds of `r*` at a place of a line
abbrev pub Starred : Bool → List ℕ → ℕ → Option Repeat → Type 0
Starred true s at None = ⊥
Starred true s at (Some r) =
    (r.next ≤ length s) × (at < r.next) × (tokens (drop r.next s) ≡ drop 2 (tokens (drop at s)))
    × (r.copies ≡ min (number (text (first (tokens (drop at s))))) 2147483648)
Starred false s at None = Unit {0}
Starred false s at (Some r) = ⊥

abbrev pub Repeats : Bool → List ℕ → ℕ → Option Repeat → Type 0
Repeats data? s at r = Starred (repeats data? (tokens (drop at s))) s at r
