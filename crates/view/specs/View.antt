-- What Look shows of a state, and after a schedule.
use Rattle.std.specs.Prelude.{◌≡◌, List, ℕ, ℤ}
use Rattle.rules.specs.declared.Class.{Class}
use Rattle.rules.specs.Loop.{Loop, Partition}
use Rattle.rules.specs.Marks.{marks}
use Rattle.rules.specs.Steps.{State}
use Rattle.rules.specs.Answer.{viewed, look}
use Rattle.trial.specs.declared.Setting.{Setting}
use Rattle.trial.specs.Standing.{Standing}
use Rattle.trial.specs.Running.{dealt}
use Rattle.trial.specs.Start.{Starts}

-- "for each cell in turn two 32-bit words, the shared value and then the marks"
abbrev pub Shown : ℕ → List ℤ → List ℕ → List ℕ → Type 0
Shown k M W V' =
    (l : Loop) (δ : Partition) (s : State) → Standing k l δ M W s → V' ≡ viewed l.size s.cells (λ c. marks δ.group c s.log)

-- the view V' of the loop's run after the schedule ps
abbrev pub ShowsAfter : List ℕ → Setting → List ℤ → List Class → List ℕ → ℕ → List ℕ → Type 0
ShowsAfter code g M C ps n V' = (l : Loop) → Starts code g l M C n → V' ≡ look l (dealt g) ps
