-- Texts and their printed forms, by computing: one with everything in it, and small ones (RULES 1.15 a and b).
use mathlib.Core.Path.{◌≡◌, refl}
use mathlib.Core.Bool.{Bool, true, false}
use mathlib.Core.List.{List, [], ◌∷◌, ◌++◌, map}
use Prim.Native.Nat.{ℕ}
use Prim.Native.String.{String}
use Rattle.syntax.specs.Bytes.{all, bytes, lines, run, token_size, tokens_after, trimmed}
use Rattle.syntax.specs.Grammar.{number_from, show_more, show, show_terms, show_term, show_factors, show_factor, show_ref, show_subscripts, show_clauses, show_line}
use Rattle.syntax.specs.Known.{find, then_do, values, class_in, after}
use Rattle.syntax.specs.Conditions.{mentions, in_terms, in_term, in_factors, in_factor, in_ref, in_subscripts, in_line, names, limits, stands}
use Rattle.syntax.specs.Reader.{read_expr, read_terms, read_term, read_factors, read_factor, read_ref, read_more, read_declare, read_give, read_clauses, read_directive, read_loop, read_assign, read_when, read_end, read_start, read_line, parse}
use Rattle.syntax.specs.Text.{Verdict, refused, good, judged, judge_line, judge, read}
use Rattle.syntax.specs.Follows.{spoken}
use Rattle.syntax.proofs.Quoted.{text}
use Rattle.printed.specs.Form.{shortest, written_out, plain, kept, after_blanks, program_of, form}

-- upper case, blanks, comments, empty lines, copies, signs, leading zeros, brackets, every clause, function and form of update, joined endings, a closing
-- directive and no newline at the end
pub everything : List ℕ
everything =
    text ("! a comment" ∷ "" ∷ "  INTEGER A(04), s" ∷ "integer z,p , m" ∷ "data a/2*-007, 1*+1,0 /" ∷ "Data z/00/" ∷ "   " ∷ [])
    ++ bytes " !$OMP parallel do reduction(+:S) num_threads(02)  lastprivate(z) shared(a)"
    ++ text ("reduction( * :p)schedule(STATIC) firstprivate(z) reduction(max:m)" ∷ "do I=+1,004" ∷ " ! within" ∷ "a(i)=-(a(i)+010)*2/rdiv(i,3)"
    ∷ "if(a(i)>=0)then" ∷ "s=s-a(i)+00" ∷ "else" ∷ "  z = Max(0,-01)" ∷ "endif" ∷ "p=p*(i+1)" ∷ "m = max(m,a(04))" ∷ "if (z /= s) then" ∷ "END IF"
    ∷ "EndDo" ∷ [])
    ++ bytes "!$omp end parallel do"

pub everything_printed : List ℕ
everything_printed =
    text ("integer a ( 4 ) , s" ∷ "integer z , p , m" ∷ "data a / - 7 , - 7 , + 1 , 0 /" ∷ "data z / 0 /" ∷ [])
    ++ bytes "!$omp parallel do reduction ( + : s ) num_threads ( 2 ) lastprivate ( z ) shared ( a ) "
    ++ text ("reduction ( * : p ) schedule ( static ) firstprivate ( z ) reduction ( max : m )" ∷ "do i = + 1 , 4"
    ∷ "a ( i ) = - ( a ( i ) + 10 ) * 2 / rdiv ( i , 3 )" ∷ "if ( a ( i ) >= 0 ) then" ∷ "s = s - a ( i ) + 0" ∷ "else" ∷ "z = max ( 0 , - 1 )" ∷ "end if"
    ∷ "p = p * ( i + 1 )" ∷ "m = max ( m , a ( 4 ) )" ∷ "if ( z /= s ) then" ∷ "end if" ∷ "end do" ∷ [])

-- a loop with nothing in it after these lines, with these bounds and this ending
abbrev above : List String → String → String → List ℕ
above ls bounds ending = text ls ++ text ("!$omp parallel do num_threads(1)" ∷ bounds ∷ ending ∷ [])

-- what it prints as
abbrev printed_above : List String → String → List ℕ
printed_above ls bounds = text ls ++ text ("!$omp parallel do num_threads ( 1 )" ∷ bounds ∷ "end do" ∷ [])

-- such a loop with these clauses, and no newline at the end
abbrev under : String → List ℕ
under clauses = text ("integer a, b" ∷ clauses ∷ "do i = 1, 0" ∷ []) ++ bytes "end do"

abbrev printed_under : String → List ℕ
printed_under clauses = text ("integer a , b" ∷ clauses ∷ "do i = 1 , 0" ∷ "end do" ∷ [])

-- a loop with one statement, after this line
abbrev with_statement : String → String → List ℕ
with_statement declared statement = text (declared ∷ "!$omp parallel do num_threads(1)" ∷ "do i=1,2" ∷ statement ∷ "end do" ∷ [])

abbrev printed_statement : String → String → List ℕ
printed_statement declared statement =
    text (declared ∷ "!$omp parallel do num_threads ( 1 )" ∷ "do i = 1 , 2" ∷ statement ∷ "end do" ∷ [])

-- a text and its printed form
pub rows : List (List ℕ × List ℕ)
rows =
    (everything, everything_printed)
    ∷ (everything_printed, everything_printed)
    -- signs stay, and of zeros alone the last
    ∷ (
      above ("integer a(002)" ∷ "data a/-00,1*+0000000000001/" ∷ []) "do i=-0,+01" "end do",
      printed_above ("integer a ( 2 )" ∷ "data a / - 0 , + 1 /" ∷ []) "do i = - 0 , + 1",
    )
    ∷ (above ("integer a" ∷ "data a/000/" ∷ []) "do i=+1,007" "enddo", printed_above ("integer a" ∷ "data a / 0 /" ∷ []) "do i = + 1 , 7")
    -- copies
    ∷ (
      above ("integer a(9)" ∷ "data a/2*-1, 3*007, 1*0, 03*+2/" ∷ []) "do I_1 = 0, 010" "End Do",
      printed_above ("integer a ( 9 )" ∷ "data a / - 1 , - 1 , 7 , 7 , 7 , 0 , + 2 , + 2 , + 2 /" ∷ []) "do i_1 = 0 , 10",
    )
    -- nothing is joined or sorted: names, data lines, clauses
    ∷ (
      above ("integer a,b" ∷ "data b/1/" ∷ "data a/1/" ∷ []) "do i=1,2" "end do",
      printed_above ("integer a , b" ∷ "data b / 1 /" ∷ "data a / 1 /" ∷ []) "do i = 1 , 2",
    )
    ∷ (
      above ("integer a" ∷ "integer b" ∷ "data a/1/" ∷ "data b/1/" ∷ []) "do i=1,2" "end do",
      printed_above ("integer a" ∷ "integer b" ∷ "data a / 1 /" ∷ "data b / 1 /" ∷ []) "do i = 1 , 2",
    )
    ∷ (under "!$omp parallel do num_threads(1) shared(a) shared(b)", printed_under "!$omp parallel do num_threads ( 1 ) shared ( a ) shared ( b )")
    ∷ (under "!$omp parallel do shared(b, a) num_threads(1)", printed_under "!$omp parallel do shared ( b , a ) num_threads ( 1 )")
    -- grids (Point 9): extents and subscripts, each in its place
    ∷ (
      with_statement "integer g(02,3)" "g(1,02) = g(2, 1)+1",
      printed_statement "integer g ( 2 , 3 )" "g ( 1 , 2 ) = g ( 2 , 1 ) + 1",
    )
    ∷ (
      with_statement "Integer g(3,002),h(01,1)" "G( 02,1 )=g(01, 2)+h(1,g(i,i))",
      printed_statement "integer g ( 3 , 2 ) , h ( 1 , 1 )" "g ( 2 , 1 ) = g ( 1 , 2 ) + h ( 1 , g ( i , i ) )",
    )
    ∷ (
      above ("integer g(2,2)" ∷ "data g/3*04,-1/" ∷ []) "do i=1,2" "end do",
      printed_above ("integer g ( 2 , 2 )" ∷ "data g / 4 , 4 , 4 , - 1 /" ∷ []) "do i = 1 , 2",
    )
    ∷ (with_statement "integer g(2,2)" "g(1, 2)=0", printed_statement "integer g ( 2 , 2 )" "g ( 1 , 2 ) = 0")
    ∷ (with_statement "integer g(2,2)" "g(2, 1)=0", printed_statement "integer g ( 2 , 2 )" "g ( 2 , 1 ) = 0")
    ∷ []

pub rows_printed : map (λ r. form r.0) rows ≡ map (λ r. r.1) rows
unfolding everything everything_printed rows lines run token_size tokens_after trimmed number_from show_more show show_terms show_term show_factors show_factor
    show_ref show_subscripts show_clauses show_line read_expr read_terms read_term read_factors read_factor read_ref read_more read_declare read_give read_clauses
    read_directive read_loop read_assign read_when read_end read_start read_line parse spoken shortest written_out plain kept after_blanks program_of form
rows_printed = refl

-- the theorems are about them: each is accepted
abbrev is_good : Verdict → Bool
is_good (refused n k) = false
is_good (good s) = true

pub rows_accepted : all (λ r. is_good (read r.0)) rows ≡ true
unfolding everything everything_printed rows lines run token_size tokens_after trimmed number_from find then_do values class_in after mentions in_terms in_term
    in_factors in_factor in_ref in_subscripts in_line names limits stands read_expr read_terms read_term read_factors read_factor read_ref read_more read_declare read_give
    read_clauses read_directive read_loop read_assign read_when read_end read_start read_line parse judged judge_line judge read
rows_accepted = refl
