-- RULES 11 a (document 01, Program): what is printed for a text.
use Rattle.std.specs.Prelude.{◌≡◌, List, [], ℕ, min, ◌≤◌, length, take, replicate, ℤ, pos, Result, Ok, Err}
use Rattle.syntax.specs.Known.{Entry}
use Rattle.syntax.specs.Text.{Verdict, refused, good}
use Rattle.answers.specs.Answers.{needed, check_of, cells_loaded, run_of, cells_run}
use Rattle.answers.specs.declared.Refusal.{Refusal}
use Rattle.answers.specs.declared.Sizes.{Sizes}
use Rattle.printing.specs.Printed.{report}

-- "lends 128 cells (the first N if N is less)"
abbrev pub lent_for : Result Sizes Refusal → ℕ
lent_for (Ok s) = min s.cells 128
lent_for (Err e) = 0

-- the names in declared order
abbrev pub names_of : Verdict → List Entry
names_of (refused n k) = []
names_of (good s) = s.table

-- the words that 128 cells and 8 processors need
abbrev pub lent_words : ℕ
lent_words = needed 128 8

-- Load fills the cells m as lent, Run goes over them with "an empty schedule" and so many words
unfoldable pub printed_over : Verdict → List ℤ → List ℕ
printed_over v m = let l = cells_loaded v m in report (run_of v l lent_words []) (names_of v) (cells_run v l lent_words [])

unfoldable pub printed : Verdict → List ℕ
printed v = printed_over v (replicate (lent_for (check_of v)) (pos 0))

-- the first r bytes of the buffer are these
pub record Prints (xs after : List ℕ) (r : ℕ) : Type 0 where
  pub within : r ≤ length after
  pub counted : r ≡ length (take r after)
  pub bytes : take r after ≡ xs
