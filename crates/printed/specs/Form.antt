-- RULES 1.15 (document 02, Point 8): "Write a text in one form": the printed form of an accepted text, from its lines' syntax (`Program`, which a text
-- has in one way). The tokens are the grammar's own (`show_line`), so "lower case", "no comments or empty lines" and "clauses and their names as they
-- stood" need no word here.
use Rattle.std.specs.Prelude.{Bool, true, false, cond, List, [], ◌∷◌, ◌++◌, map, ℕ, eqb, replicate}
use Rattle.std.proofs.Math.Option.{Option, none, some}
use Rattle.syntax.specs.Bytes.{choose, lower, lines, Token, name, other_word, digits, sign, bytes_of}
use Rattle.syntax.specs.Grammar.{Item, item, assign, when, otherwise, end_if, Line, declare, give, direct, loop, inside, end_do, close, show_line}
use Rattle.syntax.specs.Known.{copies}
use Rattle.syntax.specs.Conditions.{concat}
use Rattle.syntax.specs.Reader.{parse}
use Rattle.syntax.specs.Follows.{Program, spoken}

-- ---- tokens

-- "literals without leading zeros": of zeros alone the last stays
unfoldable pub shortest : List ℕ → List ℕ
shortest [] = []
shortest (d ∷ []) = d ∷ []
shortest (d ∷ e ∷ ds) = choose (eqb d 48) (λ _. shortest (e ∷ ds)) (λ _. d ∷ e ∷ ds)

abbrev pub zeros_gone : Token → Token
zeros_gone (name b) = name b
zeros_gone (other_word b) = other_word b
zeros_gone (digits b) = digits (shortest b)
zeros_gone (sign b) = sign b

-- ---- lines

-- "data with every copy written out": sign and literal, without `r*`, r times
abbrev pub once : Item → Item
once (item r l d) = item none l d

unfoldable pub written_out : List Item → List Item
written_out [] = []
written_out (i ∷ is) = replicate (copies i) (once i) ++ written_out is

-- a data line of these items (an accepted text's are never none: "a data repeat of 0 is 2")
abbrev pub data_line : List ℕ → Item → List Item → Line
data_line x i [] = give x i []
data_line x i (j ∷ js) = give x j js

-- "two-word endings", "data with every copy written out"
unfoldable pub plain : Line → Line
plain (declare d ds) = declare d ds
plain (give x i is) = data_line x (once i) (written_out (i ∷ is))
plain (direct cs) = direct cs
plain (loop v l m k n) = loop v l m k n
plain (inside (assign r e)) = inside (assign r e)
plain (inside (when a r b)) = inside (when a r b)
plain (inside otherwise) = inside otherwise
plain (inside (end_if joined?)) = inside (end_if false)
plain (end_do joined?) = end_do false
plain close = close

abbrev pub closing : Line → Bool
closing (declare d ds) = false
closing (give x i is) = false
closing (direct cs) = false
closing (loop v l m k n) = false
closing (inside t) = false
closing (end_do joined?) = false
closing close = true

-- "no closing directive"
unfoldable pub kept : Program → List Line
kept [] = []
kept (q ∷ p) = cond (closing q.1) (kept p) (q.1 ∷ kept p)

-- the tokens of a printed line, and of a printed text
abbrev pub formed_line : Line → List Token
formed_line l = map zeros_gone (show_line (plain l))

abbrev pub formed : Program → List (List Token)
formed p = map formed_line (kept p)

-- ---- bytes

-- "one blank between tokens"
unfoldable pub after_blanks : List Token → List ℕ
after_blanks [] = []
after_blanks (t ∷ ts) = 32 ∷ (bytes_of t ++ after_blanks ts)

abbrev pub spaced : List Token → List ℕ
spaced [] = []
spaced (t ∷ ts) = bytes_of t ++ after_blanks ts

-- "a newline after every line"
abbrev pub ended : List Token → List ℕ
ended ts = spaced ts ++ (10 ∷ [])

abbrev pub printed : Program → List ℕ
printed p = concat ended (formed p)

-- ---- texts

abbrev pub parsed : ℕ → Option Line → Program → Program
parsed k none p = p
parsed k (some l) p = (k, l) ∷ p

-- the lines' syntax of a text, as it is read: of an accepted text the one that it follows (`program_follows`)
unfoldable pub program_of : List (ℕ × List Token) → Program
program_of [] = []
program_of (q ∷ qs) = parsed q.0 (parse q.1) (program_of qs)

abbrev pub program : List ℕ → Program
program text = program_of (spoken 1 (lines (map lower text)))

-- the printed form of an accepted text
unfoldable pub form : List ℕ → List ℕ
form text = printed (program text)
