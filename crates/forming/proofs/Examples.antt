-- Print by the definitions, of small texts and bytes lent: what the definitions give and what RULES 9.8 says.
use mathlib.Core.Path.{◌≡◌, refl}
use mathlib.Core.List.{List, [], ◌∷◌, ◌++◌, map}
use Prim.Native.Nat.{ℕ}
use Prim.Native.String.{String}
use lib.ListN.{length, replicate}
use Rattle.syntax.specs.Bytes.{bytes, lines, run, token_size, tokens_after, trimmed}
use Rattle.syntax.specs.Grammar.{number_from, show_more, show_clauses, show_line}
use Rattle.syntax.specs.Known.{find, values, class_in, after}
use Rattle.syntax.specs.Conditions.{in_line, names, limits, stands}
use Rattle.syntax.specs.Reader.{read_more, read_declare, read_give, read_clauses, read_directive, read_loop, read_end, read_start, read_line, parse}
use Rattle.syntax.specs.Text.{judged, judge_line, judge, read}
use Rattle.syntax.specs.Follows.{spoken}
use Rattle.syntax.proofs.Quoted.{text}
use Rattle.printed.specs.Form.{shortest, written_out, plain, kept, after_blanks, program_of, form}
use Rattle.std.specs.Prelude.{Result, Ok}
use Rattle.answers.specs.declared.Refusal.{Refusal}
use Rattle.answers.specs.Answers.{refuse, print_of, bytes_printed}

-- a loop without statements, with these data and this end
abbrev loop : String → String → List ℕ
loop given end = text ("! a comment" ∷ "INTEGER a(2)" ∷ given ∷ "!$omp parallel do num_threads(1)" ∷ "do i=1,2" ∷ []) ++ bytes end

abbrev small : List ℕ
small = loop "data a/2*-007/" "enddo"

-- its 93 bytes
abbrev printed : List ℕ
printed = text ("integer a ( 2 )" ∷ "data a / - 7 , - 7 /" ∷ "!$omp parallel do num_threads ( 1 )" ∷ "do i = 1 , 2" ∷ "end do" ∷ [])

abbrev lent : ℕ → List ℕ
lent n = replicate n 35

-- what is answered, and the bytes lent afterwards
pub record Row : Type 0 where
  pub got : Result ℕ Refusal × List ℕ
  pub want : Result ℕ Refusal × List ℕ

abbrev row : List ℕ → ℕ → Result ℕ Refusal → List ℕ → Row
row t n r b = record { got = (print_of (read t) t (length (lent n)), bytes_printed (read t) t (lent n)); want = (r, b) }

pub rows : List Row
rows =
    -- more bytes than it has: the rest is unchanged; just enough; one too few; none
    row small 96 (Ok 93) (printed ++ lent 3)
    ∷ row small 93 (Ok 93) printed
    ∷ row small 92 (refuse 12 0) (lent 92)
    ∷ row small 0 (refuse 12 0) []
    -- the closing directive goes
    ∷ row (small ++ text ("" ∷ "!$omp end parallel do" ∷ [])) 94 (Ok 93) (printed ++ lent 1)
    -- what is refused before 12, with its line
    ∷ row [] 3 (refuse 2 1) (lent 3)
    ∷ row (loop "data a/2*-007/" "do") 93 (refuse 2 6) (lent 93)
    ∷ row (loop "data a/1*-007/" "enddo") 0 (refuse 3 3) []
    ∷ row (loop "data a/2*2147483648/" "enddo") 2 (refuse 4 3) (lent 2)
    ∷ row (replicate 2049 32) 2 (refuse 1 0) (lent 2)
    ∷ []

pub rows_print : map (λ r. r.got) rows ≡ map (λ r. r.want) rows
unfolding rows lines run token_size tokens_after trimmed number_from show_more show_clauses show_line find values class_in after in_line names limits stands
    read_more read_declare read_give read_clauses read_directive read_loop read_end read_start read_line parse judged judge_line judge read spoken shortest
    written_out plain kept after_blanks program_of form print_of bytes_printed
rows_print = refl
