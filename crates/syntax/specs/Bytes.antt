-- RULES 1.1 to 1.3 and 1.11 (document 01, The loop text): bytes, lines and tokens. Upper case is read as lower case before all else (`lower`).
use Rattle.std.specs.Prelude.{Bool, true, false, cond, ◌&&◌, ◌||◌, not, List, [], ◌∷◌, ℕ, zero, suc, ◌+◌, ◌-◌, leb, eqb, length, take}
use Prim.Native.Char.{code}
use Prim.Native.String.{String, [] as []ˢ, ◌∷◌ as ◌∷ˢ◌}

-- ---- what the definitions are written with

-- a choice whose cases wait until it is made
abbrev pub choose : {A : Type 0} → Bool → (Unit {0} → A) → (Unit {0} → A) → A
choose true a b = a tt
choose false a b = b tt

abbrev pub all : {A : Type 0} → (A → Bool) → List A → Bool
all p [] = true
all p (x ∷ xs) = p x && all p xs

abbrev pub any : {A : Type 0} → (A → Bool) → List A → Bool
any p [] = false
any p (x ∷ xs) = p x || any p xs

abbrev pub same : List ℕ → List ℕ → Bool
same [] [] = true
same [] (y ∷ ys) = false
same (x ∷ xs) [] = false
same (x ∷ xs) (y ∷ ys) = eqb x y && same xs ys

-- the bytes of a quoted word
abbrev pub bytes : String → List ℕ
bytes []ˢ = []
bytes (c ∷ˢ s) = code c ∷ bytes s

-- ---- bytes

abbrev pub between : ℕ → ℕ → ℕ → Bool
between a z b = leb a b && leb b z

-- "Upper case reads as lower case"
abbrev pub lower : ℕ → ℕ
lower b = cond (between 65 90 b) (b + 32) b

-- "Bytes are 32 to 126 and newline"
abbrev pub printable : ℕ → Bool
printable = between 32 126

abbrev pub letter : ℕ → Bool
letter = between 97 122

abbrev pub digit : ℕ → Bool
digit = between 48 57

-- "letters, digits or underscores"
abbrev pub in_word : ℕ → Bool
in_word b = letter b || (digit b || eqb b 95)

-- ---- lines

-- "After a last newline no further line begins"
abbrev pub after_newline : List ℕ → List (List ℕ) → List (List ℕ)
after_newline [] ls = []
after_newline (b ∷ s) ls = ls

abbrev pub in_front : ℕ → List (List ℕ) → List (List ℕ)
in_front b [] = (b ∷ []) ∷ []
in_front b (l ∷ ls) = (b ∷ l) ∷ ls

-- "Lines end in a newline or the end of the text"; "the empty text is one line"
unfoldable pub lines : List ℕ → List (List ℕ)
lines [] = [] ∷ []
lines (b ∷ s) = cond (eqb b 10) ([] ∷ after_newline s (lines s)) (in_front b (lines s))

-- ---- tokens

-- a word that may be a name, a word that is no name, a string of digits or a sign, with its bytes
pub data Token : Type 0 where
  name other_word digits sign : List ℕ → Token

abbrev pub kind_of : Token → ℕ
kind_of (name b) = 1
kind_of (other_word b) = 2
kind_of (digits b) = 3
kind_of (sign b) = 4

abbrev pub bytes_of : Token → List ℕ
bytes_of (name b) = b
bytes_of (other_word b) = b
bytes_of (digits b) = b
bytes_of (sign b) = b

abbrev pub equal : Token → Token → Bool
equal t u = eqb (kind_of t) (kind_of u) && same (bytes_of t) (bytes_of u)

-- "The words integer, data, do, end, enddo, endif, if, then, else and rdiv are no names"; document 02, Point 6: "max is no longer free as a name"
abbrev pub reserved : List (List ℕ)
reserved =
    bytes "integer" ∷ bytes "data" ∷ bytes "do" ∷ bytes "end" ∷ bytes "enddo" ∷ bytes "endif" ∷ bytes "if" ∷ bytes "then" ∷ bytes "else"
    ∷ bytes "rdiv" ∷ bytes "max" ∷ []

-- "Names are a letter and up to 30 letters, digits or underscores"
abbrev pub word_of : List ℕ → Token
word_of w = cond (leb (length w) 31 && not (any (same w) reserved)) (name w) (other_word w)

-- how many bytes at the front have p
unfoldable pub run : (ℕ → Bool) → List ℕ → ℕ
run p [] = 0
run p (b ∷ s) = choose (p b) (λ _. suc (run p s)) (λ _. 0)

abbrev pub starts : List ℕ → List ℕ → Bool
starts [] s = true
starts (x ∷ xs) [] = false
starts (x ∷ xs) (b ∷ s) = eqb x b && starts xs s

-- "`!$omp`, `==`, `/=`, `<=`, `>=` and single signs, the longest first": the bytes of the sign at the front
abbrev pub sign_size : List ℕ → ℕ
sign_size s =
    cond (starts (bytes "!$omp") s) 5
    (cond (starts (bytes "==") s || (starts (bytes "/=") s || (starts (bytes "<=") s || starts (bytes ">=") s))) 2 1)

-- "words (a letter, then letters, digits or underscores), strings of digits": the bytes of the token that begins with b, where s comes after b
unfoldable pub token_size : ℕ → List ℕ → ℕ
token_size b s =
    choose (letter b) (λ _. suc (run in_word s)) (λ _.
    choose (digit b) (λ _. suc (run digit s)) (λ _. sign_size (b ∷ s)))

abbrev pub token_of : ℕ → List ℕ → Token
token_of b t = cond (letter b) (word_of t) (cond (digit b) (digits t) (sign t))

-- the tokens of a line after as many bytes are passed over; "blanks between tokens are free"
unfoldable pub tokens_after : ℕ → List ℕ → List Token
tokens_after k [] = []
tokens_after zero (b ∷ s) =
    choose (eqb b 32) (λ _. tokens_after zero s) (λ _.
    let n = token_size b s in token_of b (take n (b ∷ s)) ∷ tokens_after (n - 1) s)
tokens_after (suc k) (b ∷ s) = tokens_after k s

abbrev pub tokens : List ℕ → List Token
tokens = tokens_after 0

-- ---- skipped lines and directives

-- the line from its first nonblank byte on
unfoldable pub trimmed : List ℕ → List ℕ
trimmed [] = []
trimmed (b ∷ s) = choose (eqb b 32) (λ _. trimmed s) (λ _. b ∷ s)

-- "begins with the five bytes `!$omp`, blanks before them allowed"
abbrev pub directive_line : List ℕ → Bool
directive_line s = starts (bytes "!$omp") (trimmed s)

-- "Empty and blank lines are skipped, and so are lines whose first nonblank byte is `!`, unless the line is a directive"
abbrev pub skipped_line : List ℕ → Bool
skipped_line s = same (trimmed s) [] || (starts (bytes "!") (trimmed s) && not (directive_line s))

-- "and one needed after; any other line that starts so is broken"; and every byte is 32 to 126
abbrev pub sound_line : List ℕ → Bool
sound_line s = all printable s && (not (directive_line s) || starts (bytes "!$omp ") (trimmed s))
