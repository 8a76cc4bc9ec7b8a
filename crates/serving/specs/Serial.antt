-- RULES 9.7 b (document 01, The serial run): what it answers and leaves, by the verdict on the text.
use Rattle.std.specs.Prelude.{◌≡◌, List, [], ℕ, zero, suc, length, ℤ, pos, ◌+ℤ◌, Result, Ok, Err}
use Rattle.rules.specs.Cells.{listed}
use Rattle.rules.specs.Merge.{pairs, written_cells}
use Rattle.rules.specs.Serial.{Outcome, finished, failed, serial}
use Rattle.syntax.specs.Known.{State}
use Rattle.syntax.specs.Flaws.{flaw_number}
use Rattle.syntax.specs.Text.{Verdict, refused, good}
use Rattle.syntax.specs.Meaning.{loop_of}
use Rattle.trial.specs.Standing.{Kept}
use Rattle.serial.specs.Serving.{by_one}
use Rattle.answers.specs.declared.Counts.{Counts}
use Rattle.answers.specs.declared.Failure.{Failure}
use Rattle.answers.specs.declared.Failure.TheVariants.{Faulted}
use Rattle.answers.specs.Answers.{counted, fault_at, fail, run_number, taken}
use Rattle.answers.specs.Numbers.{Returned, refusal, served_numbers}

-- "its write counts are the different pairs of iteration and cell, and the different cells"; "The first fault ends the run and gives its number, the
-- line ... and v"
abbrev pub served_by : State → List ℤ → Outcome → Result Counts Failure
served_by s M finished = Ok (counted (pairs (loop_of s M) (serial (loop_of s M)).log) (written_cells (loop_of s M) (serial (loop_of s M)).log))
served_by s M (failed n t i) = Err (Faulted (fault_at n t (s.from +ℤ pos i)))

pub record Serves (s : State) (M : List ℤ) (r : Result Counts Failure) (M' : List ℤ) (W' : List ℕ) : Type 0 where
  pub answer : r ≡ served_by s M (serial (loop_of s M)).outcome
  pub cells : M' ≡ listed (loop_of s M).size (serial (loop_of s M)).cells
  -- the words keep the cells at entry, in the rows of tables for one processor
  pub kept : Kept 1 (loop_of s M) (by_one (loop_of s M)) M' W'

abbrev pub ServesBy : State → ℕ → List ℤ → List ℕ → Result Counts Failure → List ℤ → List ℕ → Type 0
ServesBy s zero M W r M' W' = Serves s M r M' W'
ServesBy s (suc n) M W r M' W' = (r ≡ fail (suc n) 0) × (M' ≡ M) × (W' ≡ W)

-- the answer and what is left, by the verdict on the text
unfoldable pub SerialOf : Verdict → List ℤ → List ℕ → Result Counts Failure → List ℤ → List ℕ → Type 0
SerialOf (refused f k) M W r M' W' = (r ≡ fail (flaw_number f) k) × (M' ≡ M) × (W' ≡ W)
SerialOf (good s) M W r M' W' = ServesBy s (run_number s (length M) (length W) []) M W r M' W'

-- the answer's numbers: 1 to 6, or 0 with both write counts, or 9 or 10 with line and v
unfoldable pub serial_numbers : Verdict → List ℤ → ℕ → Returned
serial_numbers (refused f k) M w = refusal (flaw_number f) k
serial_numbers (good s) M w =
    let n = run_number s (length M) w [] in
    taken n (served_numbers (served_by s M (serial (loop_of s M)).outcome)) (refusal n 0)
