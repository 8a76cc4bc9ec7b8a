-- RULES 9 and 10 (document 01, Services and answers; document 02, Points 7 to 9): what each service answers and leaves in what is lent, by the verdict on the text.
use Rattle.std.specs.Prelude.{cond, List, [], map, ◌++◌, ℕ, zero, suc, ◌+◌, ◌*◌, eqb, leb, ltb, length, replicate, drop, ℤ, pos, ◌+ℤ◌, Result, Ok, Err}
use Rattle.std.proofs.Math.Option.{Option, none, some}
use Rattle.rules.specs.Cells.{listed}
use Rattle.rules.specs.Loop.{Loop}
use Rattle.rules.specs.Serial.{Outcome, finished, failed, serial}
use Rattle.rules.specs.Answer.{look, Answer, passed, rerun, faulted, Ending, settled}
use Rattle.reorder.specs.Stages.{stage, stage_count}
use Rattle.syntax.specs.Bytes.{all, lower}
use Rattle.syntax.specs.Known.{Entry, rows, columns, State, cells, find, known}
use Rattle.syntax.specs.Flaws.{flaw_number}
use Rattle.syntax.specs.Text.{Verdict, refused, good, loaded}
use Rattle.syntax.specs.Meaning.{loop_of, partition_of}
use Rattle.printed.specs.Form.{form}
use Rattle.grids.specs.Arrange.{Grid, by_rows, by_columns, rearranged, grid_named}
use Rattle.answers.specs.declared.Bounds.{Bounds}
use Rattle.answers.specs.declared.Counts.{Counts}
use Rattle.answers.specs.declared.Failure.{Failure}
use Rattle.answers.specs.declared.Failure.TheVariants.{Refused, Faulted}
use Rattle.answers.specs.declared.Fault.{Fault}
use Rattle.answers.specs.declared.Located.{Located}
use Rattle.answers.specs.declared.Ran.{Ran}
use Rattle.answers.specs.declared.Ran.TheVariants.{Passed, Rerun}
use Rattle.answers.specs.declared.Refusal.{Refusal}
use Rattle.answers.specs.declared.Sizes.{Sizes}

-- ---- a refusal with its number and line, a fault with its v too, and both write counts

abbrev pub refusal_at : ℕ → ℕ → Refusal
refusal_at n k = record { number = n; line = k }

abbrev pub fault_at : ℕ → ℕ → ℤ → Fault
fault_at n k x = record { number = n; line = k; v = x }

abbrev pub counted : ℕ → ℕ → Counts
counted a b = record { pairs = a; cells = b }

-- the answers of those that refuse alone, and of those that may fault
abbrev pub refuse : {A : Type 0} → ℕ → ℕ → Result A Refusal
refuse n k = Err (refusal_at n k)

abbrev pub fail : {A : Type 0} → ℕ → ℕ → Result A Failure
fail n k = Err (Refused (refusal_at n k))

-- ---- Check

-- "Check takes the text and answers N and P"
unfoldable pub check_of : Verdict → Result Sizes Refusal
check_of (refused f k) = refuse (flaw_number f) k
check_of (good s) = Ok (record { cells = cells s.table; processors = s.processors })

-- ---- Bounds (RULES 9.2 b): m of `do v = m, n`, the number of iterations, and whether they are tested one by one or by blocks

unfoldable pub bounds_of : Verdict → Result Bounds Refusal
bounds_of (refused f k) = refuse (flaw_number f) k
bounds_of (good s) = Ok (record { from = s.from; iterations = s.count; grouping = s.grouping })

-- ---- Name (RULES 9.2 c): the cells of a declared name, how many subscripts it takes, its class and its extents; 3 and no line for a name that is
-- not declared

abbrev pub entry_cells : Entry → Located
entry_cells e = record {
  first = e.first;
  count = e.size;
  subscripts = length e.extents;
  class = e.class;
  rows = rows e;
  columns = columns e;
}

abbrev pub located_in : List Entry → List ℕ → Result Located Refusal
located_in t x = cond (known x t) (Ok (entry_cells (find x t))) (refuse 3 0)

-- "Upper case reads as lower case", in the name too
unfoldable pub name_of : Verdict → List ℕ → Result Located Refusal
name_of (refused f k) x = refuse (flaw_number f) k
name_of (good s) x = located_in s.table (map lower x)

-- ---- what can't be taken: 0, or its number

-- document 02, Point 5: "The workspace in document 01 becomes 4,352 + 64 × P + N × (4 + 8 × P) words"
abbrev pub needed : ℕ → ℕ → ℕ
needed n p = 4352 + 64 * p + n * (4 + 8 * p)

-- of n cells, where m are lent
abbrev pub cells_number : ℕ → ℕ → ℕ
cells_number n m = cond (eqb m n) 0 5

-- and p processors, where w words are lent and ps are the schedule's bytes: "a schedule byte of P or more"
abbrev pub fit_number : ℕ → ℕ → ℕ → ℕ → List ℕ → ℕ
fit_number n p m w ps = cond (eqb m n) (cond (leb (needed n p) w) (cond (all (λ b. ltb b p) ps) 0 7) 6) 5

abbrev pub load_number : State → ℕ → ℕ
load_number s m = cells_number (cells s.table) m

abbrev pub run_number : State → ℕ → ℕ → List ℕ → ℕ
run_number s m w ps = fit_number (cells s.table) s.processors m w ps

-- and v words of a view
abbrev pub view_number : State → ℕ → ℕ → ℕ
view_number s v zero = cond (eqb v (2 * cells s.table)) 0 8
view_number s v (suc n) = suc n

abbrev pub look_number : State → ℕ → ℕ → List ℕ → ℕ → ℕ
look_number s m w ps v = view_number s v (run_number s m w ps)

-- where nothing is refused, and else
abbrev pub taken : {A : Type 0} → ℕ → A → A → A
taken zero a b = a
taken (suc n) a b = b

abbrev pub completed : ℕ → Result Unit Refusal
completed n = taken n (Ok tt) (refuse n 0)

-- ---- Load

unfoldable pub load_of : Verdict → ℕ → Result Unit Refusal
load_of (refused f k) m = refuse (flaw_number f) k
load_of (good s) m = completed (load_number s m)

-- "Load fills the cells from the data"; "a refusal leaves cells ... as found"
unfoldable pub cells_loaded : Verdict → List ℤ → List ℤ
cells_loaded (refused f k) m = m
cells_loaded (good s) m = taken (load_number s (length m)) (loaded s.table) m

-- ---- Look, over the cells m, w words of a workspace, the schedule ps and a view of v words

unfoldable pub look_of : Verdict → List ℤ → ℕ → List ℕ → ℕ → Result Unit Refusal
look_of (refused f k) m w ps v = refuse (flaw_number f) k
look_of (good s) m w ps v = completed (look_number s (length m) w ps v)

-- "for each cell in turn ... the shared value and then the marks, as they are after the schedule's bytes, without running on"
unfoldable pub view_shown : Verdict → List ℤ → ℕ → List ℕ → List ℕ → List ℕ
view_shown (refused f k) m w ps v = v
view_shown (good s) m w ps v = taken (look_number s (length m) w ps (length v)) (look (loop_of s m) (partition_of s) ps) v

-- "After any other end of Look or Run the workspace is all zero"
unfoldable pub look_workspace : Verdict → List ℤ → List ℕ → List ℕ → ℕ → List ℕ
look_workspace (refused f k) m w ps v = w
look_workspace (good s) m w ps v = taken (look_number s (length m) (length w) ps v) (replicate (length w) 0) w

-- ---- Run

-- "passed or rerun, then the serial run's two write counts, pairs first"; a fault with its number, its line and v, "v being m + index"
abbrev pub answered : State → Answer → Result Ran Failure
answered s (passed a b) = Ok (Passed (counted a b))
answered s (rerun a b) = Ok (Rerun (counted a b))
answered s (faulted n t i) = Err (Faulted (fault_at n t (s.from +ℤ pos i)))

-- What the serial run alone settles: it is fed the text and the cells, and not the schedule
abbrev pub settles : State → List ℤ → Ending
settles s m = settled (loop_of s m) (partition_of s).group

unfoldable pub run_of : Verdict → List ℤ → ℕ → List ℕ → Result Ran Failure
run_of (refused f k) m w ps = fail (flaw_number f) k
run_of (good s) m w ps = let n = run_number s (length m) w ps in taken n (answered s (settles s m).answer) (fail n 0)

unfoldable pub cells_run : Verdict → List ℤ → ℕ → List ℕ → List ℤ
cells_run (refused f k) m w ps = m
cells_run (good s) m w ps = taken (run_number s (length m) w ps) (settles s m).cells m

unfoldable pub run_workspace : Verdict → List ℤ → List ℕ → List ℕ → List ℕ
run_workspace (refused f k) m w ps = w
run_workspace (good s) m w ps = taken (run_number s (length m) (length w) ps) (replicate (length w) 0) w

-- ---- Plan (document 02, Point 7), over the cells m, w words of a workspace and a list of p numbers

-- "11, list length not n, after 6"
abbrev pub list_number : State → ℕ → ℕ → ℕ
list_number s p zero = cond (eqb p s.count) 0 11
list_number s p (suc n) = suc n

abbrev pub plan_number : State → ℕ → ℕ → ℕ → ℕ
plan_number s m w p = list_number s p (run_number s m w [])

-- "answers the number of stages"; "Faults are answered as in Run"
abbrev pub staged : Loop → ℤ → Outcome → Result ℕ Failure
staged l v finished = Ok (stage_count (serial l).log l.iterations)
staged l v (failed n t i) = Err (Faulted (fault_at n t (v +ℤ pos i)))

-- "writes each iteration's stage"; "a refusal leaves the list as found"
abbrev pub stages_written : Loop → List ℕ → Outcome → List ℕ
stages_written l q finished = listed l.iterations (stage (serial l).log)
stages_written l q (failed n t i) = q

unfoldable pub plan_of : Verdict → List ℤ → ℕ → ℕ → Result ℕ Failure
plan_of (refused f k) m w p = fail (flaw_number f) k
plan_of (good s) m w p = let n = plan_number s (length m) w p in taken n (staged (loop_of s m) s.from (serial (loop_of s m)).outcome) (fail n 0)

unfoldable pub list_planned : Verdict → List ℤ → ℕ → List ℕ → List ℕ
list_planned (refused f k) m w q = q
list_planned (good s) m w q = taken (plan_number s (length m) w (length q)) (stages_written (loop_of s m) q (serial (loop_of s m)).outcome) q

-- "workspace ends as there"
unfoldable pub plan_workspace : Verdict → List ℤ → List ℕ → ℕ → List ℕ
plan_workspace (refused f k) m w p = w
plan_workspace (good s) m w p = taken (plan_number s (length m) (length w) p) (replicate (length w) 0) w

-- ---- Print (document 02, Point 8)

-- a form f, where n bytes are lent: "12, bytes lent fewer than the printed form"
abbrev pub form_number : List ℕ → ℕ → ℕ
form_number f n = cond (leb (length f) n) 0 12

-- "The answer is the length"
abbrev pub form_answered : List ℕ → ℕ → Result ℕ Refusal
form_answered f n = let m = form_number f n in taken m (Ok (length f)) (refuse m 0)

-- "the rest of the lent bytes is unchanged"; "a refusal writes nothing"
abbrev pub form_written : List ℕ → List ℕ → List ℕ
form_written f b = taken (form_number f (length b)) (f ++ drop (length f) b) b

-- "after 4"
unfoldable pub print_of : Verdict → List ℕ → ℕ → Result ℕ Refusal
print_of (refused f k) text n = refuse (flaw_number f) k
print_of (good s) text n = form_answered (form text) n

unfoldable pub bytes_printed : Verdict → List ℕ → List ℕ → List ℕ
bytes_printed (refused f k) text b = b
bytes_printed (good s) text b = form_written (form text) b

-- ---- Rows and Columns (document 02, Point 9), over the cells m and the name w

-- "13, name not a grid, after 5"
abbrev pub grid_number : Option Grid → ℕ → ℕ
grid_number none zero = 13
grid_number (some g) zero = 0
grid_number o (suc n) = suc n

abbrev pub arrange_number : State → List ℕ → ℕ → ℕ
arrange_number s w m = grid_number (grid_named s.table w) (load_number s m)

-- "answers only that it was done"
unfoldable pub arrange_of : Verdict → List ℕ → ℕ → Result Unit Refusal
arrange_of (refused f k) w m = refuse (flaw_number f) k
arrange_of (good s) w m = completed (arrange_number s w m)

-- the cells of the grid that is named, if it is one
abbrev pub arranged : (Grid → (ℕ → ℤ) → ℕ → ℤ) → Option Grid → List ℤ → List ℤ
arranged f none m = m
arranged f (some g) m = rearranged f g m

abbrev pub cells_arranged : (Grid → (ℕ → ℤ) → ℕ → ℤ) → Verdict → List ℕ → List ℤ → List ℤ
cells_arranged g (refused f k) w m = m
cells_arranged f (good s) w m = taken (arrange_number s w (length m)) (arranged f (grid_named s.table w) m) m

-- "into row order, and its inverse"
unfoldable pub cells_by_rows : Verdict → List ℕ → List ℤ → List ℤ
cells_by_rows = cells_arranged by_rows

unfoldable pub cells_by_columns : Verdict → List ℕ → List ℤ → List ℤ
cells_by_columns = cells_arranged by_columns
