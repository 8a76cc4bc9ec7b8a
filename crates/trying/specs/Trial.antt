-- RULES 9.7 a (document 01, Contracts and examples): what the trial leaves "by the step rule under this very schedule".
use Rattle.std.specs.Prelude.{◌≡◌, ◌↔◌, true, false, List, ℕ, zero, suc, ◌<◌, length, ℤ, Result, Ok, Err}
use Rattle.rules.specs.Obstacles.{Obstructed}
use Rattle.rules.specs.Steps.{Faulty, trial}
use Rattle.syntax.specs.Known.{State}
use Rattle.syntax.specs.Flaws.{flaw_number}
use Rattle.syntax.specs.Text.{Verdict, refused, good}
use Rattle.syntax.specs.Meaning.{loop_of, partition_of}
use Rattle.code.specs.Instr.{words}
use Rattle.code.specs.Compile.{code_of}
use Rattle.setup.specs.Settings.{setting_of}
use Rattle.trial.specs.Running.{Run}
use Rattle.outcome.specs.Leaves.{Leaves}
use Rattle.trying.specs.declared.Tried.{Tried}
use Rattle.answers.specs.declared.Refusal.{Refusal}
use Rattle.answers.specs.Answers.{refuse, run_number}

-- the trial of the text of s, over the cells M, under the schedule ps: the cells M', the words W' and the records that it leaves
pub record Tries (s : State) (M : List ℤ) (ps : List ℕ) (r : Tried) (M' : List ℤ) (W' : List ℕ) : Type 0 where
  pub processors : r.processors ≡ s.processors
  -- each by itself: cells, private values, sums, marks, records, counts, faults, obstacles
  pub leaves : Leaves (words (code_of s)) (setting_of s) (loop_of s M) (trial (loop_of s M) (partition_of s) ps) M' W' r.workers
  -- taken together
  pub faulty : Faulty (partition_of s) (trial (loop_of s M) (partition_of s) ps) ↔ (r.faulty ≡ true)
  pub obstructed : Obstructed (loop_of s M) (partition_of s).group (trial (loop_of s M) (partition_of s) ps).log ↔ (r.obstructed ≡ true)
  -- and as one state of the step rule
  pub run : Run (words (code_of s)) (setting_of s) (loop_of s M) M' W' r.workers (trial (loop_of s M) (partition_of s) ps)

-- a refusal with its number and line: no processor has moved, and all that is lent is as found
abbrev pub Found : ℕ → ℕ → List ℤ → List ℕ → Result Tried Refusal → List ℤ → List ℕ → Type 0
Found n k M W r M' W' = (r ≡ refuse n k) × (M' ≡ M) × (W' ≡ W) × (0 < n)

abbrev pub TriesBy : State → ℕ → List ℤ → List ℕ → List ℕ → Result Tried Refusal → List ℤ → List ℕ → Type 0
TriesBy s zero M W ps (Ok t) M' W' = Tries s M ps t M' W'
TriesBy s zero M W ps (Err e) M' W' = ⊥
TriesBy s (suc n) M W ps r M' W' = Found (suc n) 0 M W r M' W'

-- "1 to 8 also the workspace"
unfoldable pub TrialOf : Verdict → List ℤ → List ℕ → List ℕ → Result Tried Refusal → List ℤ → List ℕ → Type 0
TrialOf (refused f k) M W ps r M' W' = Found (flaw_number f) k M W r M' W'
TrialOf (good s) M W ps r M' W' = TriesBy s (run_number s (length M) (length W) ps) M W ps r M' W'
