-- RULES 4.2 to 4.4 and 4.6 (document 01, Steps): what each step of a processor does, the steps of a schedule, and the run to the end.
use Rattle.std.specs.Prelude.{List, [], ◌∷◌, ℕ, zero, suc, ◌-◌, ◌<◌, ℤ}
use Rattle.std.proofs.Math.Option.{get_or}
use Rattle.std.proofs.Math.Decide.{dec_lt}
use Rattle.rules.specs.Choose.{put, below}
use Rattle.rules.specs.declared.Class.{Class}
use Rattle.rules.specs.declared.Class.TheVariants.{Shared as shared, Lastprivate as lastprivate, Copied as copied, Reduction as reduction}
use Rattle.rules.specs.Loop.{Act, read, write, update, fault, done, Loop, Partition, bound}
use Rattle.rules.specs.Log.{reads, writes, updates, Access, access, Log, only, written}
use Rattle.rules.specs.Decide.{both?, find}

-- the record of a processor: the iteration that it is at, and what is left of it
pub record Place : Type 0 where
  pub at : ℕ
  pub act : Act

-- the shared cells, the accesses so far, and the record of each processor
pub record State : Type 0 where
  pub cells : ℕ → ℤ
  pub log : Log
  pub places : ℕ → Place

-- an iteration that begins
abbrev pub opening : Loop → ℕ → Place
opening l i = record { at = i; act = l.body i }

-- the last value written to c in a log, else the cell at entry
abbrev pub latest : Loop → ℕ → Log → ℤ
latest l c g = get_or (written c g) (l.entry c)

-- "Shared cells are ... written in place"; "writes stay private"
abbrev pub stored : Class → (ℕ → ℤ) → ℕ → ℤ → ℕ → ℤ
stored shared m c v = put m c v
stored lastprivate m c v = m
stored copied m c v = m
stored (reduction o) m c v = m

-- processor p makes the access e, which leaves a of its iteration and the shared cells m
abbrev pub moved : ℕ → Access → Act → (ℕ → ℤ) → State → State
moved p e a m s = record { cells = m; log = e ∷ s.log; places = put s.places p (record { at = (s.places p).at; act = a }) }

module _ (l : Loop) (δ : Partition) where
  -- "Shared cells are read ... in place. Other cells are read as written earlier in this iteration, else as at entry"; document 02, Point 3:
  -- "private reads give what the block wrote before, else the entry value"
  abbrev pub given : Class → State → ℕ → ℕ → ℤ
  given shared s i c = s.cells c
  given lastprivate s i c = latest l c (only δ.group (δ.group i) s.log)
  given copied s i c = latest l c (only δ.group (δ.group i) s.log)
  given (reduction o) s i c = latest l c (only δ.group (δ.group i) s.log)

  -- processor p "goes on up to and including its next cell access, or ends its iteration if none is left"; "a fault stops its processor for good"
  unfoldable pub go_on : ℕ → Act → State → State
  go_on p (read c k) s =
      let i = (s.places p).at in
      let x = given (l.class c) s i c in
      moved p (access reads i c x) (k x) s.cells s
  go_on p (write c v a) s = moved p (access writes (s.places p).at c v) a (stored (l.class c) s.cells c v) s
  go_on p (update c v a) s = moved p (access updates (s.places p).at c v) a s.cells s
  go_on p (fault n t) s = s
  go_on p done s = record { cells = s.cells; log = s.log; places = put s.places p (opening l (suc (s.places p).at)) }

  -- a step of processor p; "a finished processor does nothing"
  unfoldable pub step : ℕ → State → State
  step p s = below (s.places p).at (bound δ (suc p)) (go_on p (s.places p).act s) s

  -- "In order, each names the processor that takes one step"
  unfoldable pub steps : List ℕ → State → State
  steps [] s = s
  steps (p ∷ ps) s = steps ps (step p s)

  -- processor p steps to the end of its iteration, of which a is left
  unfoldable pub through : ℕ → Act → State → State
  through p (read c k) s = through p (k (given (l.class c) s (s.places p).at c)) (step p s)
  through p (write c v a) s = through p a (step p s)
  through p (update c v a) s = through p a (step p s)
  through p (fault n t) s = s
  through p done s = step p s

  -- processor p steps to its end: through each iteration that it has left
  unfoldable pub through_all : ℕ → ℕ → State → State
  through_all zero p s = s
  through_all (suc k) p s = through_all k p (through p (s.places p).act s)

  unfoldable pub run_out : ℕ → State → State
  run_out p s = through_all (bound δ (suc p) - (s.places p).at) p s

  -- "After the list, processors run to their end in number order": those below p
  unfoldable pub run_on : ℕ → State → State
  run_on zero s = s
  run_on (suc p) s = run_out p (run_on p s)

  abbrev pub start : State
  start = record { cells = l.entry; log = []; places = λ p. opening l (bound δ p) }

  unfoldable pub trial : List ℕ → State
  trial ps = run_on δ.processors (steps ps start)

-- a fault is all that is left
abbrev pub IsFault : Act → Type 0
IsFault (read c k) = ⊥
IsFault (write c v a) = ⊥
IsFault (update c v a) = ⊥
IsFault (fault n t) = Unit {0}
IsFault done = ⊥

-- a fault stopped processor p
abbrev pub Stopped : Partition → State → ℕ → Type 0
Stopped δ s p = ((s.places p).at < bound δ (suc p)) × IsFault (s.places p).act

-- some processor met a fault
abbrev pub Faulty : Partition → State → Type 0
Faulty δ s = (p : ℕ) × (p < δ.processors) × Stopped δ s p

-- ---- each is decided

unfoldable pub is_fault? : (a : Act) → Dec (IsFault a)
is_fault? (read c k) = no (λ h. h)
is_fault? (write c v a) = no (λ h. h)
is_fault? (update c v a) = no (λ h. h)
is_fault? (fault n t) = yes tt
is_fault? done = no (λ h. h)

unfoldable pub stopped? : (δ : Partition) (s : State) (p : ℕ) → Dec (Stopped δ s p)
stopped? δ s p = both? (dec_lt (s.places p).at (bound δ (suc p))) (is_fault? (s.places p).act)

unfoldable pub faulty? : (δ : Partition) (s : State) → Dec (Faulty δ s)
faulty? δ s = find δ.processors (Stopped δ s) (stopped? δ s)
