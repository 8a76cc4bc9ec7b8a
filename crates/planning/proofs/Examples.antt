-- Plan by the definitions, of small texts: rows of one table, what the definitions give and what RULES 8 and 9.6 say.
use mathlib.Core.Path.{◌≡◌, refl}
use mathlib.Core.List.{List, [], ◌∷◌, ◌++◌, map}
use Prim.Native.Nat.{ℕ}
use Prim.Native.String.{String}
use native.Mathlib.Decide.{ℕ_discrete}
use lib.IntN.{ℤ, pos}
use lib.ListN.{get_or, replicate}
use Rattle.int32.specs.Integers.{word, value, wrap, sum, difference, negation, product, greater, larger, quotient, by_signs, related}
use Rattle.rules.specs.Choose.{pick, put}
use Rattle.rules.specs.Cells.{cell_of, listed}
use Rattle.rules.specs.Log.{only}
use Rattle.rules.specs.Decide.{change, either?, both?, kind?, has?}
use Rattle.rules.specs.Marks.{weight}
use Rattle.rules.specs.Serial.{along, from, serial}
use Rattle.reorder.specs.Depends.{changes?, touches?, at?, meet?, depends?}
use Rattle.reorder.specs.Stages.{greatest, behind, stages, stage, stage_count}
use Rattle.syntax.specs.Bytes.{bytes, lines, token_size, tokens_after, trimmed}
use Rattle.syntax.specs.Grammar.{number_from, show, show_terms, show_term, show_factors, show_factor, show_ref}
use Rattle.syntax.specs.Known.{find, then_do, values, class_in, after}
use Rattle.syntax.specs.Conditions.{mentions, in_terms, in_term, in_factors, in_factor, in_ref, in_line, names, limits, stands}
use Rattle.syntax.specs.Reader.{read_expr, read_terms, read_term, read_factors, read_factor, read_ref, read_more, read_declare, read_give, read_clauses, read_directive, read_loop, read_assign, read_when, read_end, read_start, read_line, parse}
use Rattle.syntax.specs.Text.{judged, judge_line, judge, read}
use Rattle.syntax.specs.Meaning.{no_zeros, alike, summand, multiplicand, alone, rival, is_update, remainder, located, divides, called, eval, eval_terms, eval_term, eval_factors, eval_factor, place, assigned, exec, class_of, loop_of}
use Rattle.syntax.proofs.Quoted.{text}
use Rattle.std.specs.Prelude.{Result, Ok, Err}
use Rattle.answers.specs.declared.Failure.{Failure}
use Rattle.answers.specs.declared.Failure.TheVariants.{Faulted}
use Rattle.answers.specs.Answers.{fault_at, fail, plan_of, list_planned, plan_workspace}
use Rattle.int32.specs.Integers as integers
use Rattle.syntax.specs.Bytes as bytes'

-- a loop of these names, clauses, bounds and statements
abbrev loop : String → String → String → List String → List ℕ
loop names clauses bounds body =
    bytes names ++ (10 ∷ (bytes "!$omp parallel do num_threads(2) " ++ (bytes clauses ++ (10 ∷ text (bounds ∷ (body ++ ("end do" ∷ [])))))))

-- the answer, the list, and the first word of the workspace
pub record Shown : Type 0 where
  pub answer : Result ℕ Failure
  pub list : List ℕ
  pub word : ℕ

pub record Row : Type 0 where
  pub got : Shown
  pub want : Shown

abbrev row : Shown → Shown → Row
row a b = record { got = a; want = b }

abbrev shown : Result ℕ Failure → List ℕ → ℕ → Shown
shown a l w = record { answer = a; list = l; word = w }

-- over the cells m, with w words of 7 and a list of n nines
abbrev lent : List ℕ → List ℤ → ℕ → ℕ → Shown
lent t m w n =
    shown (plan_of (read t) m w n) (list_planned (read t) m w (replicate n 9)) (get_or (plan_workspace (read t) m (replicate w 7) n) 0 0)

-- with enough words for four cells
abbrev planned : List ℕ → List ℤ → ℕ → Shown
planned t m n = lent t m 4560 n

-- what is answered when the stages are these, which are n
abbrev stages_are : ℕ → List ℕ → Shown
stages_are n l = shown (Ok n) l 0

-- the same iterations over two cells x and y, z and t
abbrev by_cases : List String → List ℕ
by_cases body = loop "integer x, y, z, t" "" "do i = 1, 4" body

abbrev zeros : List ℤ
zeros = pos 0 ∷ pos 0 ∷ pos 0 ∷ pos 0 ∷ []

-- iteration 3 divides by zero
abbrev failing : List ℕ
failing = loop "integer a(4)" "" "do i = 1, 4" ("a(i) = 12 / (3 - i)" ∷ [])

abbrev rising : List ℕ
rising = loop "integer a(4)" "" "do i = 2, 4" ("a(i) = a(i - 1)" ∷ [])

pub rows : List Row
rows =
    -- "A stage is 1 more than the highest stage of a lower iteration it depends on, else 1"
    row (planned rising zeros 3) (stages_are 3 (1 ∷ 2 ∷ 3 ∷ []))
    ∷ row (planned (loop "integer a(4)" "" "do i = 1, 4" ("a(i) = i" ∷ [])) zeros 4) (stages_are 1 (1 ∷ 1 ∷ 1 ∷ 1 ∷ []))
    ∷ row (planned (loop "integer a(4)" "" "do i = 3, 4" ("a(i) = a(i - 2)" ∷ [])) zeros 2) (stages_are 1 (1 ∷ 1 ∷ []))
    -- "if both touch a cell in the serial run and one writes or updates it": updates of one cell do, by whatever , and writes
    ∷ row (planned (loop "integer s" "reduction(+:s)" "do i = 1, 4" ("s = s + i" ∷ [])) (pos 5 ∷ []) 4) (stages_are 4 (1 ∷ 2 ∷ 3 ∷ 4 ∷ []))
    ∷ row (planned (loop "integer s" "reduction(*:s)" "do i = 1, 2" ("s = s * i" ∷ [])) (pos 5 ∷ []) 2) (stages_are 2 (1 ∷ 2 ∷ []))
    ∷ row (planned (loop "integer s" "reduction(max:s)" "do i = 1, 2" ("s = max(s, i)" ∷ [])) (pos 5 ∷ []) 2) (stages_are 2 (1 ∷ 2 ∷ []))
    ∷ row (planned (loop "integer z" "lastprivate(z)" "do i = 1, 2" ("z = i" ∷ [])) (pos 5 ∷ []) 2) (stages_are 2 (1 ∷ 2 ∷ []))
    -- reads alone don't
    ∷ row (planned (loop "integer z, a(3)" "" "do i = 1, 3" ("a(i) = z" ∷ [])) zeros 3) (stages_are 1 (1 ∷ 1 ∷ 1 ∷ []))
    -- a write depends on all that read before it, and they not on each other; a subscript held in a cell is read
    ∷ row (planned (by_cases ("if (i <= 2) then" ∷ "y = x" ∷ "else" ∷ "x = 1" ∷ "end if" ∷ [])) zeros 4) (stages_are 4 (1 ∷ 2 ∷ 3 ∷ 4 ∷ []))
    ∷ row (planned (loop "integer x, a(3)" "" "do i = 1, 3" ("if (i <= 2) then" ∷ "a(i) = x" ∷ "else" ∷ "x = 1" ∷ "end if" ∷ [])) zeros 3)
    (stages_are 2 (1 ∷ 1 ∷ 2 ∷ []))
    ∷ row (planned (loop "integer k, a(3)" "" "do i = 1, 2" ("if (i == 1) then" ∷ "a(k) = 1" ∷ "else" ∷ "k = 2" ∷ "end if" ∷ []))
    (pos 1 ∷ pos 0 ∷ pos 0 ∷ pos 0 ∷ []) 2) (stages_are 2 (1 ∷ 2 ∷ []))
    -- an iteration does not depend on itself; one that reads early and writes late comes after the lower readers of what it writes
    ∷ row (planned (loop "integer x" "" "do i = 1, 1" ("x = x * 2" ∷ [])) (pos 5 ∷ []) 1) (stages_are 1 (1 ∷ []))
    ∷ row (planned (by_cases ("if (i == 1) then" ∷ "y = x" ∷ "end if" ∷ "if (i == 2) then" ∷ "y = y + 1" ∷ "end if"
    ∷ "if (i == 3) then" ∷ "z = x" ∷ "x = y" ∷ "end if" ∷ "if (i == 4) then" ∷ "t = z" ∷ "end if" ∷ [])) zeros 4)
    (stages_are 4 (1 ∷ 2 ∷ 3 ∷ 4 ∷ []))
    -- an `if` not taken touches nothing
    ∷ row (planned (loop "integer x" "" "do i = 1, 3" ("if (i == 2) then" ∷ "x = i" ∷ "end if" ∷ [])) (pos 5 ∷ []) 3) (stages_are 1 (1 ∷ 1 ∷ 1 ∷ []))
    -- the cells as lent decide, and not the text's data
    ∷ row (planned (text ("integer k, a(2)" ∷ "data k /9/" ∷ "!$omp parallel do num_threads(2)" ∷ "do i = 1, 2" ∷ "a(k) = i" ∷ "end do" ∷ []))
    (pos 1 ∷ pos 0 ∷ pos 0 ∷ []) 2) (stages_are 2 (1 ∷ 2 ∷ []))
    -- no iterations
    ∷ row (planned (loop "integer a" "" "do i = 1, 0" ("a = i" ∷ [])) (pos 5 ∷ []) 0) (stages_are 0 [])
    -- "Faults are answered as in Run, and workspace ends as there"; "a refusal leaves the list as found"
    ∷ row (planned failing zeros 4) (shown (Err (Faulted (fault_at 10 4 (pos 3)))) (9 ∷ 9 ∷ 9 ∷ 9 ∷ []) 0)
    ∷ row (planned (loop "integer a(4)" "" "do i = 4, 5" ("a(i) = i" ∷ [])) zeros 2) (shown (Err (Faulted (fault_at 9 4 (pos 5)))) (9 ∷ 9 ∷ []) 0)
    -- "11, list length not n, after 6, workspace as found"
    ∷ row (planned rising zeros 2) (shown (fail 11 0) (9 ∷ 9 ∷ []) 7)
    ∷ row (planned rising zeros 4) (shown (fail 11 0) (9 ∷ 9 ∷ 9 ∷ 9 ∷ []) 7)
    ∷ row (planned failing zeros 0) (shown (fail 11 0) [] 7)
    ∷ row (lent rising zeros 4559 2) (shown (fail 6 0) (9 ∷ 9 ∷ []) 7)
    ∷ row (planned rising (pos 0 ∷ []) 2) (shown (fail 5 0) (9 ∷ 9 ∷ []) 7)
    ∷ row (planned [] zeros 2) (shown (fail 2 1) (9 ∷ 9 ∷ []) 7)
    ∷ []

-- every row gives what the document says
pub examples : map (λ (r : Row). r.got) rows ≡ map (λ (r : Row). r.want) rows
unfolding rows word value wrap sum difference negation product greater larger quotient by_signs integers.same related cell_of listed pick put only
    change either? both? kind? has? weight along from serial ℕ_discrete changes? touches? at? meet? depends? greatest behind stages stage stage_count
    lines bytes'.run token_size tokens_after trimmed number_from show show_terms show_term show_factors show_factor show_ref
    find then_do values class_in after mentions in_terms in_term in_factors in_factor in_ref in_line names limits stands
    read_expr read_terms read_term read_factors read_factor read_ref read_more read_declare read_give read_clauses read_directive read_loop read_assign read_when
    read_end read_start read_line parse
    judged judge_line judge read no_zeros alike summand multiplicand alone rival is_update remainder located divides called
    eval eval_terms eval_term eval_factors eval_factor place assigned exec class_of loop_of plan_of list_planned plan_workspace
examples = refl
