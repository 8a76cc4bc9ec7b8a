-- How a run begins, and what its functions promise.
use Rattle.std.specs.Prelude.{◌≡◌, List, [], ℕ, ◌≤◌, ◌<◌, length, get_or, ℤ}
use Rattle.rules.specs.Cells.{listed}
use Rattle.rules.specs.Loop.{Loop, Partition}
use Rattle.rules.specs.Blocks.{block_start}
use Rattle.rules.specs.Steps.{start, trial}
use Rattle.rules.specs.declared.Class.{Class}
use Rattle.rules.specs.declared.Class.TheVariants.{Shared as shared}
use Rattle.tables.specs.Layout.{row_at}
use Rattle.tables.specs.Logged.{Logged}
use Rattle.trial.specs.declared.Worker.{Worker}
use Rattle.trial.specs.declared.Setting.{Setting}
use Rattle.trial.specs.Standing.{Suits, Coded}
use Rattle.trial.specs.Running.{dealt, waiting, nobody, Names, Run}

-- the cells as lent are those at entry, C has their classes, and n words are enough
pub record Entry (k : ℕ) (l : Loop) (δ : Partition) (M : List ℤ) (C : List Class) (n : ℕ) : Type 0 where
  pub suits : Suits k l δ
  pub cells : M ≡ listed l.size l.entry
  pub number : l.size ≤ length C
  pub classes : (c : ℕ) → c < l.size → get_or C c shared ≡ l.class c
  pub room : row_at k l.size ≤ n

-- and the code and the setting are the loop's
pub record Starts (code : List ℕ) (g : Setting) (l : Loop) (M : List ℤ) (C : List Class) (n : ℕ) : Type 0 where
  pub coded : Coded code g.from l
  pub iterations : l.iterations ≡ g.iterations
  pub entry : Entry g.processors l (dealt g) M C n

-- the tables of no access
abbrev pub Enters : ℕ → List ℤ → List Class → ℕ → List ℕ → Type 0
Enters k M C n W' = (l : Loop) (δ : Partition) → Entry k l δ M C n → Logged l δ [] W'

-- each processor at the start of its block
abbrev pub Crew : Setting → List Worker → Type 0
Crew g ws = (q : ℕ) → q < g.processors → get_or ws q nobody ≡ waiting (block_start g.iterations g.processors q)

abbrev pub CanBegin : Setting → List ℤ → List Class → ℕ → Type 0
CanBegin g M C n = (code : List ℕ) × (l : Loop) × Starts code g l M C n

abbrev pub Begins : Setting → List ℤ → List Class → ℕ → List ℕ → List Worker → Type 0
Begins g M C n W' ws = (code : List ℕ) (l : Loop) → Starts code g l M C n → Run code g l M W' ws (start l (dealt g))

-- ---- the trial

abbrev pub CanTry : List ℕ → Setting → List ℤ → List Class → List ℕ → ℕ → Type 0
CanTry code g M C ps n = (l : Loop) × Starts code g l M C n × Names g ps

-- it takes the schedule's bytes and runs on to the end
abbrev pub Tries : List ℕ → Setting → List ℤ → List Class → List ℕ → ℕ → List ℤ → List ℕ → List Worker → Type 0
Tries code g M C ps n M' W' ws = (l : Loop) → Starts code g l M C n → Run code g l M' W' ws (trial l (dealt g) ps)
