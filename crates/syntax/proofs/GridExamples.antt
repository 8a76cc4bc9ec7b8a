-- RULES 1.5, 1.10, 1.12, 1.13, 2.5 and 3 for grids (document 02, Point 9), as rows of one table: what the definitions give, and what the request says.
use mathlib.Core.Path.{◌≡◌, refl}
use mathlib.Core.List.{List, [], ◌∷◌, map}
use Prim.Native.Nat.{ℕ}
use Prim.Native.String.{String}
use native.Mathlib.Decide.{ℕ_discrete, dec_lt}
use lib.IntN.{ℤ, pos}
use Rattle.int32.specs.Integers.{word, value, wrap, sum, difference, negation, product, greater, larger, quotient, rdiv, by_signs, even_of, nearer, nearest, related}
use Rattle.rules.specs.Choose.{pick, below, put}
use Rattle.rules.specs.Cells.{cell_of, listed}
use Rattle.rules.specs.Owner.{owner}
use Rattle.rules.specs.Blocks.{block_start, singles, blocks, tested}
use Rattle.rules.specs.Log.{only, written}
use Rattle.rules.specs.Decide.{change, either?, both?, not?, find as find?, kind?, has?, exposed?, ordinary?, over, one?, two?}
use Rattle.rules.specs.Obstacles.{clash?, stale?, late?, mixed?, obstacle_at?, obstructed?}
use Rattle.rules.specs.Steps.{go_on, step, steps, through, through_all, run_out, run_on, trial, is_fault?, stopped?, faulty?}
use Rattle.rules.specs.Serial.{along, from, serial, finished?}
use Rattle.rules.specs.Merge.{highest, updated, add, total, join_all, block, gathered, merged, touches, count, pairs, written_cells}
use Rattle.rules.specs.Answer.{Answer, passed, rerun, faulted, trial_passes?, again, run_by, run}
use Rattle.syntax.specs.Bytes.{lines, token_size, tokens_after, trimmed}
use Rattle.syntax.specs.Grammar.{number_from, show, show_terms, show_term, show_factors, show_factor, show_ref}
use Rattle.syntax.specs.Known.{find, then_do, values, class_in, cells, after}
use Rattle.syntax.specs.Conditions.{mentions, in_terms, in_term, in_factors, in_factor, in_ref, in_line, names, limits, stands}
use Rattle.syntax.specs.Reader.{read_expr, read_terms, read_term, read_factors, read_factor, read_ref, read_more, read_declare, read_give, read_clauses, read_directive, read_loop, read_assign, read_when, read_end, read_start, read_line, parse}
use Rattle.syntax.specs.Flaws.{flaw_number}
use Rattle.syntax.specs.Text.{Verdict, refused, good, judged, judge_line, judge, read, loaded}
use Rattle.syntax.specs.Meaning.{no_zeros, alike, summand, multiplicand, alone, rival, is_update, remainder, located, in_grid, divides, called, eval, eval_terms, eval_term, eval_factors, eval_factor, place, assigned, exec, class_of, loop_of, partition_of}
use Rattle.syntax.proofs.Quoted.{text}
use Rattle.int32.specs.Integers as integers
use Rattle.rules.specs.Merge as merge
use Rattle.syntax.specs.Bytes as bytes'

-- ---- texts

-- one statement, line 5, in a loop of 3 over a single cell, a grid whose element (r, c) is 10 r + c, and an array
abbrev stating : String → String → List ℕ
stating directive l = text ("integer s, g(2, 3), a(2)" ∷ "data g /11, 21, 12, 22, 13, 23/" ∷ directive ∷ "do i = 1, 3" ∷ l ∷ "end do" ∷ [])

abbrev shared : String → List ℕ
shared = stating "!$omp parallel do num_threads(2)"

abbrev reducing : String → List ℕ
reducing = stating "!$omp parallel do num_threads(2) reduction(+:g)"

abbrev declaring : String → List ℕ
declaring l = text (l ∷ "!$omp parallel do num_threads(1)" ∷ "do i = 1, 1" ∷ "end do" ∷ [])

-- ---- the table

-- the number and the line of a refusal; N; what Run answers over the cells that Load fills, and the cells left
pub data Shown : Type 0 where
  refuses : ℕ → ℕ → Shown
  sizes : ℕ → Shown
  ends : Answer → List ℤ → Shown

pub record Row : Type 0 where
  pub got : Shown
  pub want : Shown

abbrev row : Shown → Shown → Row
row a b = record { got = a; want = b }

abbrev ran : Verdict → Shown
ran (refused f k) = refuses (flaw_number f) k
ran (good s) = let e = run (loop_of s (loaded s.table)) (partition_of s) [] in ends e.answer e.cells

abbrev sized : Verdict → Shown
sized (refused f k) = refuses (flaw_number f) k
sized (good s) = sizes (cells s.table)

-- the cells as Load fills them
abbrev filled : List ℤ
filled = pos 0 ∷ pos 11 ∷ pos 21 ∷ pos 12 ∷ pos 22 ∷ pos 13 ∷ pos 23 ∷ pos 0 ∷ pos 0 ∷ []

pub table : List Row
table =
    -- "stored in Fortran's element order, first subscript fastest"
    row (ran (read (shared "g(1, i) = g(2, i)")))
    (ends (passed 3 3) (pos 0 ∷ pos 21 ∷ pos 21 ∷ pos 22 ∷ pos 22 ∷ pos 23 ∷ pos 23 ∷ pos 0 ∷ pos 0 ∷ []))
    ∷ row (ran (read (shared "G ( 2,4 - i)=i")))
    (ends (passed 3 3) (pos 0 ∷ pos 11 ∷ pos 3 ∷ pos 12 ∷ pos 2 ∷ pos 13 ∷ pos 1 ∷ pos 0 ∷ pos 0 ∷ []))
    ∷ row (ran (read (shared "g(1, 2) = i")))
    (ends (rerun 3 1) (pos 0 ∷ pos 11 ∷ pos 21 ∷ pos 3 ∷ pos 22 ∷ pos 13 ∷ pos 23 ∷ pos 0 ∷ pos 0 ∷ []))
    -- an update is the same token for token over both subscripts
    ∷ row (ran (read (reducing "g(1, 2) = g(01, 2) + i")))
    (ends (passed 3 1) (pos 0 ∷ pos 11 ∷ pos 21 ∷ pos 18 ∷ pos 22 ∷ pos 13 ∷ pos 23 ∷ pos 0 ∷ pos 0 ∷ []))
    ∷ row (ran (read (reducing "g(1, 2) = g(1, 3 - 1) + i")))
    (ends (rerun 3 1) (pos 0 ∷ pos 11 ∷ pos 21 ∷ pos 18 ∷ pos 22 ∷ pos 13 ∷ pos 23 ∷ pos 0 ∷ pos 0 ∷ []))
    ∷ row (ran (read (reducing "g(1, 2) = g(2, 1) + i")))
    (ends (passed 3 1) (pos 0 ∷ pos 11 ∷ pos 21 ∷ pos 24 ∷ pos 22 ∷ pos 13 ∷ pos 23 ∷ pos 0 ∷ pos 0 ∷ []))
    -- "Both subscripts are worked out, then each is tested against its own bound"
    ∷ row (ran (read (shared "g(9, 1/0) = 1"))) (ends (faulted 10 5 0) filled)
    ∷ row (ran (read (shared "g(g(9, 1), 1/0) = 1"))) (ends (faulted 9 5 0) filled)
    ∷ row (ran (read (shared "g(3, 1) = 1"))) (ends (faulted 9 5 0) filled)
    ∷ row (ran (read (shared "g(1, 4) = 1"))) (ends (faulted 9 5 0) filled)
    ∷ row (ran (read (shared "g(0, 2) = 1"))) (ends (faulted 9 5 0) filled)
    ∷ row (ran (read (shared "g(1, 3 - i) = 1"))) (ends (faulted 9 5 2) filled)
    -- an update's subscripts before its remainder, an assignment's after its right side
    ∷ row (ran (read (reducing "g(9, 1) = g(9, 1) + 1/0"))) (ends (faulted 9 5 0) filled)
    ∷ row (ran (read (reducing "g(9, 1) = 1/0"))) (ends (faulted 10 5 0) filled)
    -- "One subscript where two belong, or two for one, is 3; three or more, declared or used, are 2"
    ∷ row (ran (read (shared "g(1) = 1"))) (refuses 3 5)
    ∷ row (ran (read (shared "g = 1"))) (refuses 3 5)
    ∷ row (ran (read (shared "s = g(1)"))) (refuses 3 5)
    ∷ row (ran (read (shared "a(1, 1) = 1"))) (refuses 3 5)
    ∷ row (ran (read (shared "s(1, 1) = 1"))) (refuses 3 5)
    ∷ row (ran (read (shared "s = i(1, 1)"))) (refuses 3 5)
    ∷ row (ran (read (shared "s = h(1, 1)"))) (refuses 3 5)
    ∷ row (ran (read (shared "g(1, 1, 1) = 1"))) (refuses 2 5)
    ∷ row (ran (read (shared "s = h(1, 1, 1)"))) (refuses 2 5)
    ∷ row (ran (read (shared "g(1,) = 1"))) (refuses 2 5)
    ∷ row (ran (read (shared "g() = 1"))) (refuses 2 5)
    -- both subscripts stand in one open bracket
    ∷ row (ran (read (shared "g(1, (((((((4)))))))) = 1"))) (ends (faulted 9 5 0) filled)
    ∷ row (ran (read (shared "g(((((((((1)))))))), 4) = 1"))) (refuses 4 5)
    -- "m × n up to 4,096"
    ∷ row (sized (read (declaring "integer g(64, 64)"))) (sizes 4096)
    ∷ row (sized (read (declaring "integer g(1, 1), h(4, 4), k(3), s"))) (sizes 21)
    ∷ row (sized (read (declaring "integer g(64, 65)"))) (refuses 4 1)
    ∷ row (sized (read (declaring "integer g(65536, 65536)"))) (refuses 4 1)
    ∷ row (sized (read (declaring "integer g(0, 3)"))) (refuses 4 1)
    ∷ row (sized (read (declaring "integer g(3, 0)"))) (refuses 4 1)
    ∷ row (sized (read (declaring "integer g(1, 4096), s"))) (refuses 4 1)
    ∷ row (sized (read (declaring "integer g(1, 2, 3)"))) (refuses 2 1)
    ∷ row (sized (read (declaring "integer g(2, -3)"))) (refuses 2 1)
    ∷ row (sized (read (declaring "integer g(2,)"))) (refuses 2 1)
    ∷ []

-- every row gives what the request says
pub examples : map (λ (r : Row). r.got) table ≡ map (λ (r : Row). r.want) table
unfolding table
    word value wrap sum difference negation product greater larger quotient rdiv by_signs even_of nearer nearest integers.same related
    block_start singles blocks tested owner cell_of listed pick below put only written
    change either? both? not? find? kind? has? exposed? ordinary? over one? two? clash? stale? late? mixed? obstacle_at? obstructed?
    go_on step steps through through_all run_out run_on trial is_fault? stopped? faulty? along from serial finished? highest updated add total join_all
    block gathered merged touches count merge.sum pairs written_cells
    trial_passes? again run_by run ℕ_discrete dec_lt
    lines bytes'.run token_size tokens_after trimmed number_from show show_terms show_term show_factors show_factor show_ref
    find then_do values class_in after mentions in_terms in_term in_factors in_factor in_ref in_line names limits stands
    read_expr read_terms read_term read_factors read_factor read_ref read_more read_declare read_give read_clauses read_directive read_loop read_assign read_when
    read_end read_start read_line parse
    judged judge_line judge read loaded no_zeros alike summand multiplicand alone rival is_update remainder located in_grid divides called eval eval_terms
    eval_term eval_factors eval_factor place assigned exec class_of loop_of partition_of
examples = refl
