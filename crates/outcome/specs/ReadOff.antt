-- What is read off cells, words and records after a run.
use Rattle.std.specs.Prelude.{◌≡◌, ◌↔◌, Bool, true, false, List, ℕ, ◌<◌, get_or, ℤ, IsSome, IsNone}
use Rattle.rules.specs.Cells.{listed}
use Rattle.rules.specs.Loop.{Loop, Partition}
use Rattle.rules.specs.Obstacles.{Obstructed}
use Rattle.rules.specs.Merge.{merged}
use Rattle.rules.specs.Steps.{State}
use Rattle.trial.specs.declared.Worker.{Worker}
use Rattle.trial.specs.Standing.{Standing, Kept}
use Rattle.trial.specs.Running.{nobody}

-- whether one of k records has a fault
pub record Fails (k : ℕ) (ws : List Worker) (r : Bool) : Type 0 where
  pub some : r ≡ true → (q : ℕ) × (q < k) × IsSome (get_or ws q nobody).point.fault
  pub none : r ≡ false → (q : ℕ) → q < k → IsNone (get_or ws q nobody).point.fault

-- whether some cell has an obstacle
abbrev pub Judges : ℕ → List ℤ → List ℕ → Bool → Type 0
Judges k M W r = (l : Loop) (δ : Partition) (s : State) → Standing k l δ M W s → Obstructed l δ.group s.log ↔ (r ≡ true)

-- "a privately written cell takes the value of the highest iteration that wrote it, updates are added"
abbrev pub Merges : ℕ → List ℤ → List ℕ → List ℤ → Type 0
Merges k M W M' = (l : Loop) (δ : Partition) (s : State) → Standing k l δ M W s → M' ≡ listed l.size (merged l δ s)

-- "the cells return to entry"
abbrev pub CanRestore : ℕ → List ℤ → List ℕ → Type 0
CanRestore k M W = (l : Loop) × (δ : Partition) × Kept k l δ M W

abbrev pub Restores : ℕ → List ℤ → List ℕ → List ℤ → Type 0
Restores k M W M' = (l : Loop) (δ : Partition) → Kept k l δ M W → M' ≡ listed l.size l.entry
