-- What the functions on bytes and tokens yield, by the definitions of texts.
use Rattle.std.specs.Prelude.{◌≡◌, Bool, not, List, ℕ, ◌+◌, ◌-◌, ◌*◌, ◌≤◌, ◌<◌, min, eqb, length, take, drop}
use Rattle.syntax.specs.Bytes.{run}
use Rattle.syntax.specs.Reader.{kind, text, peek_in, skip_in}
use Rattle.lexer.specs.declared.Kind.{Kind}
use Rattle.lexer.specs.declared.Kind.TheVariants.{End, Name, Word, Digits, Sign}
use Rattle.lexer.specs.declared.Tok.{Tok}

-- what stands between tokens
abbrev pub blank : ℕ → Bool
blank b = eqb b 32

-- the bytes from a up to e
abbrev pub part : List ℕ → ℕ → ℕ → List ℕ
part s a e = take (e - a) (drop a s)

-- the end of the line that begins at a place
unfoldable pub ended : List ℕ → ℕ → ℕ
ended s at = at + run (λ b. not (eqb b 10)) (drop at s)

-- a digit more, up to 2^31
unfoldable pub tens : ℕ → ℕ → ℕ
tens n d = min (10 * n + (d - 48)) 2147483648

-- a kind's number, as `kind_of` gives it
abbrev pub kind_number : Kind → ℕ
kind_number End = 0
kind_number Name = 1
kind_number Word = 2
kind_number Digits = 3
kind_number Sign = 4

-- t is the first token at or after a place of a line
pub record Lexed (s : List ℕ) (at : ℕ) (t : Tok) : Type 0 where
  pub kinds : kind (peek_in (drop at s)) ≡ kind_number t.kind
  pub bytes : text (peek_in (drop at s)) ≡ part s t.start t.stop
  pub next : skip_in (drop at s) ≡ drop t.stop s
  pub from : at ≤ t.start
  pub order : t.start ≤ t.stop
  pub within : t.stop ≤ length s
  pub some : (t.kind ≡ End → ⊥) → t.start < t.stop
