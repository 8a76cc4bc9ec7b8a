-- A run with its processors' records: what its state is, and what a step and a schedule do to it.
use Rattle.std.specs.Prelude.{◌≡◌, ◌⊎◌, List, [], ℕ, suc, ◌≤◌, ◌<◌, length, get_or, replicate, ℤ, pos, IsSome}
use Rattle.std.specs.declared.option.Option.TheVariants.{None}
use Rattle.rules.specs.Loop.{Loop, Partition, bound}
use Rattle.rules.specs.Blocks.{block_start, tested}
use Rattle.rules.specs.Steps.{Place, State, step, steps, run_out, run_on}
use Rattle.stepping.specs.declared.Extent.{Extent}
use Rattle.stepping.specs.declared.Extent.TheVariants.{Once, ToTheEnd}
use Rattle.stepping.specs.declared.Manner.TheVariants.{ByClass}
use Rattle.stepping.specs.declared.Point.{Point}
use Rattle.stepping.specs.declared.Role.{Role}
use Rattle.stepping.specs.Step.{unstopped}
use Rattle.trial.specs.declared.Worker.{Worker}
use Rattle.trial.specs.declared.Setting.{Setting}
use Rattle.trial.specs.Standing.{Coded, Standing, Placed}

-- the iterations over the processors, grouped as the setting says
abbrev pub dealt : Setting → Partition
dealt g = tested g.grouping g.iterations g.processors

-- the code, the setting, the cells and the words stand for a state of the loop's run
pub record Running (code : List ℕ) (g : Setting) (l : Loop) (M : List ℤ) (W : List ℕ) (s : State) : Type 0 where
  pub coded : Coded code g.from l
  pub iterations : l.iterations ≡ g.iterations
  pub standing : Standing g.processors l (dealt g) M W s

-- processor p has an iteration open, and no fault stopped it
pub record Open (code : List ℕ) (g : Setting) (l : Loop) (M : List ℤ) (W : List ℕ) (s : State) (p : ℕ) (a : List ℤ) (t : Point) : Type 0 where
  pub running : Running code g l M W s
  pub placed : Placed code g.from l a t (s.places p)
  pub low : p < g.processors
  pub unfinished : (s.places p).at < bound (dealt g) (suc p)
  pub unstopped : t.fault ≡ None

-- a record of pending values and a point
abbrev pub joined : List ℤ → Point → Worker
joined a t = record { pending = a; point = t }

-- a processor's record stands for its place
abbrev pub Held : List ℕ → Setting → Loop → Worker → Place → Type 0
Held code g l x w = Placed code g.from l x.pending x.point w

-- a record at the start of an iteration
abbrev pub waiting : ℕ → Worker
waiting i = joined (replicate 32 (pos 0)) (unstopped 0 0 i)

-- what stands past the records
abbrev pub nobody : Worker
nobody = joined [] (unstopped 0 0 0)

-- with the record of each processor
pub record Run (code : List ℕ) (g : Setting) (l : Loop) (M : List ℤ) (W : List ℕ) (ws : List Worker) (s : State) : Type 0 where
  pub running : Running code g l M W s
  pub crew : (q : ℕ) → q < g.processors → Held code g l (get_or ws q nobody) (s.places q)
  -- a stopped processor is in its block
  pub halted : (q : ℕ) → q < g.processors → IsSome (get_or ws q nobody).point.fault → (s.places q).at < bound (dealt g) (suc q)

-- ---- a step

-- processor p with its record
pub record Turn (code : List ℕ) (g : Setting) (l : Loop) (M : List ℤ) (W : List ℕ) (s : State) (p : ℕ) (x : Worker) : Type 0 where
  pub running : Running code g l M W s
  pub low : p < g.processors
  pub held : Held code g l x (s.places p)
  pub halted : IsSome x.point.fault → (s.places p).at < bound (dealt g) (suc p)

abbrev pub HasTurn : List ℕ → Setting → List ℤ → List ℕ → ℕ → Worker → Type 0
HasTurn code g M W p x = (l : Loop) × (s : State) × Turn code g l M W s p x

-- "each names the processor that takes one step"
abbrev pub TakesTurn : List ℕ → Setting → List ℤ → List ℕ → ℕ → Worker → List ℤ → List ℕ → Worker → Type 0
TakesTurn code g M W p x M' W' x' = (l : Loop) (s : State) → Turn code g l M W s p x → Turn code g l M' W' (step l (dealt g) p s) p x'

-- ---- a schedule

-- its bytes name processors
abbrev pub Names : Setting → List ℕ → Type 0
Names g ps = (j : ℕ) → j < length ps → get_or ps j 0 < g.processors

abbrev pub CanFollow : List ℕ → Setting → List ℤ → List ℕ → List Worker → List ℕ → Type 0
CanFollow code g M W ws ps = (l : Loop) × (s : State) × Run code g l M W ws s × Names g ps

-- "In order, each names the processor that takes one step"
abbrev pub Follows : List ℕ → Setting → List ℤ → List ℕ → List Worker → List ℕ → List ℤ → List ℕ → List Worker → Type 0
Follows code g M W ws ps M' W' ws' = (l : Loop) (s : State) → Run code g l M W ws s → Run code g l M' W' ws' (steps l (dealt g) ps s)

-- ---- the run to the end

-- a processor "to its end"
abbrev pub RunsOut : List ℕ → Setting → List ℤ → List ℕ → ℕ → Worker → List ℤ → List ℕ → Worker → Type 0
RunsOut code g M W p x M' W' x' = (l : Loop) (s : State) → Turn code g l M W s p x → Turn code g l M' W' (run_out l (dealt g) p s) p x'

-- it was stopped, or its block is done
abbrev pub Over : Setting → ℕ → Worker → Type 0
Over g p x = IsSome x.point.fault ⊎ (block_start g.iterations g.processors (suc p) ≤ x.point.iteration.0)

-- ---- both, by what is fixed for a processor

-- of processor p, whose block ends before e
abbrev pub role_to : Setting → ℕ → ℕ → Role
role_to g p e = record {
  manner = ByClass;
  grouping = g.grouping;
  processors = g.processors;
  number = record { 0 = p };
  from = g.from;
  end = record { 0 = e };
}

abbrev pub role_of : Setting → ℕ → Role
role_of g p = role_to g p (block_start g.iterations g.processors (suc p))

abbrev pub HasRole : List ℕ → Role → List ℤ → List ℕ → Worker → Type 0
HasRole code x M W y = (g : Setting) × (p : ℕ) × (x ≡ role_of g p) × HasTurn code g M W p y

-- one step, or all to the end
unfoldable pub along : Extent → Loop → Partition → ℕ → State → State
along Once l δ p s = step l δ p s
along ToTheEnd l δ p s = run_out l δ p s

-- where it then is
unfoldable pub Ends : Extent → Setting → ℕ → Worker → Type 0
Ends Once g p y = Unit {0}
Ends ToTheEnd g p y = Over g p y

pub record Carried (k : Extent) (code : List ℕ) (g : Setting) (M : List ℤ) (W : List ℕ) (p : ℕ) (y : Worker) (M' : List ℤ) (W' : List ℕ) (y' : Worker)
    : Type 0 where
  pub turns : (l : Loop) (s : State) → Turn code g l M W s p y → Turn code g l M' W' (along k l (dealt g) p s) p y'
  pub ends : Ends k g p y'

abbrev pub Carries : Extent → List ℕ → Role → List ℤ → List ℕ → Worker → List ℤ → List ℕ → Worker → Type 0
Carries k code x M W y M' W' y' = (g : Setting) (p : ℕ) → x ≡ role_of g p → Carried k code g M W p y M' W' y'

-- ---- all processors

-- each was stopped, or its block is done
abbrev pub AllOver : Setting → List Worker → Type 0
AllOver g ws = (q : ℕ) → q < g.processors → Over g q (get_or ws q nobody)

abbrev pub CanRun : List ℕ → Setting → List ℤ → List ℕ → List Worker → Type 0
CanRun code g M W ws = (l : Loop) × (s : State) × Run code g l M W ws s

-- "After the list, processors run to their end in number order"
abbrev pub RunsOn : List ℕ → Setting → List ℤ → List ℕ → List Worker → List ℤ → List ℕ → List Worker → Type 0
RunsOn code g M W ws M' W' ws' = (l : Loop) (s : State) → Run code g l M W ws s → Run code g l M' W' ws' (run_on l (dealt g) g.processors s)
