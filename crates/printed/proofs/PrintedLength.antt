-- The length of the printed form: its tokens, each with the blank or the newline after it.
use mathlib.Core.Path.{◌≡◌, refl, ◌∙◌, ap, ap₂}
use mathlib.Core.Bool.{true, false}
use mathlib.Core.List.{List, [], ◌∷◌, map}
use Prim.Native.Nat.{ℕ, suc, ◌+◌, ◌<◌}
use native.Mathlib.Omega.{arith}
use lib.ListN.{length, length-append, length-map}
use Rattle.syntax.specs.Bytes.{Token, bytes_of}
use Rattle.syntax.specs.Grammar.{single, element, assign, when, otherwise, end_if, Line, declare, give, direct, loop, inside, end_do, close, show_ref, show_line}
use Rattle.syntax.specs.Known.{total}
use Rattle.syntax.specs.Conditions.{concat}
use Rattle.syntax.specs.Follows.{Program}
use Rattle.printed.specs.Form.{zeros_gone, plain, kept, formed_line, formed, after_blanks, spaced, ended, printed}

-- a token with the blank or the newline after it
abbrev pub room : Token → ℕ
room t = suc (length (bytes_of t))

abbrev pub printed_size : Program → ℕ
printed_size p = total (total room) (formed p)

line_tokens : (l : Line) → 0 < length (show_line l)
unfolding show_line show_ref
line_tokens (declare d ds) = omega arith
line_tokens (give x i is) = omega arith
line_tokens (direct cs) = omega arith
line_tokens (loop v l m k n) = omega arith
line_tokens (inside (assign (single x) e)) = omega arith
line_tokens (inside (assign (element x is) e)) = omega arith
line_tokens (inside (when a r b)) = omega arith
line_tokens (inside otherwise) = omega arith
line_tokens (inside (end_if true)) = omega arith
line_tokens (inside (end_if false)) = omega arith
line_tokens (end_do true) = omega arith
line_tokens (end_do false) = omega arith
line_tokens close = omega arith

after_blanks_length : (ts : List Token) → length (after_blanks ts) ≡ total room ts
unfolding after_blanks
after_blanks_length [] = refl
after_blanks_length (t ∷ ts) =
    ap suc (length-append (bytes_of t) (after_blanks ts) ∙ ap (λ (n : ℕ). length (bytes_of t) + n) (after_blanks_length ts)) ∙ omega arith

ended_length : (ts : List Token) → 0 < length ts → length (ended ts) ≡ total room ts
ended_length [] h = absurd (omega arith)
ended_length (t ∷ ts) h =
    omega (arith, length-append (spaced (t ∷ ts)) (10 ∷ []), length-append (bytes_of t) (after_blanks ts), after_blanks_length ts)

lines_length : (ls : List Line) → length (concat ended (map formed_line ls)) ≡ total (total room) (map formed_line ls)
lines_length [] = refl
lines_length (l ∷ ls) =
    length-append (ended (formed_line l)) (concat ended (map formed_line ls))
    ∙ ap₂ ◌+◌ (ended_length (formed_line l) (omega (arith, length-map (show_line (plain l)) zeros_gone, line_tokens (plain l)))) (lines_length ls)

pub printed_length : (p : Program) → length (printed p) ≡ printed_size p
printed_length p = lines_length (kept p)
