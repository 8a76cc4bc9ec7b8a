-- What the sweep promises: the stages of the serial run, of a loop whose serial run meets no fault.
use Rattle.std.specs.Prelude.{◌≡◌, List, [], ℕ, suc, ◌*◌, ◌-◌, ◌≤◌, ◌<◌, length, replicate, ℤ}
use Rattle.rules.specs.declared.Class.{Class}
use Rattle.rules.specs.Cells.{listed}
use Rattle.rules.specs.Loop.{Loop}
use Rattle.rules.specs.Log.{reads, writes, updates, Log, each}
use Rattle.rules.specs.Serial.{finished, from, serial}
use Rattle.operands.specs.declared.Move.{Move}
use Rattle.operands.specs.declared.Move.TheVariants.{Read, Write, Update, Fault, End}
use Rattle.stepping.specs.declared.Role.{Role}
use Rattle.trial.specs.declared.Setting.{Setting}
use Rattle.trial.specs.Standing.{Coded}
use Rattle.serial.specs.Serving.{alone, Serially, Serials}
use Rattle.reorder.specs.Stages.{stage, stage_count}
use Rattle.reorder.specs.StageTable.{during}
use Rattle.staging.specs.Rows.{noted_in, over_in, Notable}
use Rattle.staging.specs.Kept.{Kept}

-- ---- the whole

-- the code and the setting are a loop's, the cells those at entry, and its serial run meets no fault
pub record Faultless (code : List ℕ) (s : Setting) (l : Loop) (M : List ℤ) (C : List Class) (w : ℕ) : Type 0 where
  pub serials : Serials code s l M C w
  pub faultless : (serial l).outcome ≡ finished

-- the rows R of the stage table are zero, and enough for the cells M
pub record Zeros (M : List ℤ) (R : List ℕ) : Type 0 where
  pub zero : R ≡ replicate (length R) 0
  pub room : length M * 4 ≤ length R

-- there is such a loop, with such rows, and the list has n numbers
pub record CanSweep (code : List ℕ) (s : Setting) (M : List ℤ) (C : List Class) (w : ℕ) (R : List ℕ) (n : ℕ) : Type 0 where
  pub loop : Loop
  pub runs : Faultless code s loop M C w
  pub rows : Zeros M R
  pub numbers : n ≡ s.iterations

-- the list then has the stages, and r is their number
pub record Planned (l : Loop) (L : List ℕ) (r : ℕ) : Type 0 where
  pub stages : L ≡ listed l.iterations (stage (serial l).log)
  pub number : r ≡ stage_count (serial l).log l.iterations

abbrev pub Sweeps : List ℕ → Setting → List ℤ → List Class → ℕ → List ℕ → ℕ → Type 0
Sweeps code s M C w L' r = (l : Loop) → Faultless code s l M C w → Planned l L' r

-- ---- one move of iteration i

-- its cell can be noted
unfoldable pub CanNote : List ℕ → ℕ → List ℕ → Move → Type 0
CanNote L i R (Read c) = Notable L i R c
CanNote L i R (Write c x) = Notable L i R c
CanNote L i R (Update c x) = Notable L i R c
CanNote L i R (Fault n t) = Unit {0}
CanNote L i R End = Unit {0}

-- the rows after it
unfoldable pub noted_by : List ℕ → ℕ → List ℕ → Move → List ℕ
noted_by L i R (Read c) = noted_in reads L i R c
noted_by L i R (Write c x) = noted_in writes L i R c
noted_by L i R (Update c x) = noted_in updates L i R c
noted_by L i R (Fault n t) = R
noted_by L i R End = R

-- what the iteration then has to come after, which was o
unfoldable pub over_by : List ℕ → ℕ → List ℕ → ℕ → Move → ℕ
over_by L i R o (Read c) = over_in reads L i R c o
over_by L i R o (Write c x) = over_in writes L i R c o
over_by L i R o (Update c x) = over_in updates L i R c o
over_by L i R o (Fault n t) = o
over_by L i R o End = o

pub record Notes (L : List ℕ) (i : ℕ) (R : List ℕ) (m : Move) (o : ℕ) (R' : List ℕ) (r : ℕ) : Type 0 where
  pub rows : R' ≡ noted_by L i R m
  pub over : r ≡ over_by L i R o m

-- ---- one iteration

-- before iteration i: the cells are m after the accesses g, of which rows and list keep the stage table, and from here the run comes to what it comes to
pub record Before (l : Loop) (i : ℕ) (M : List ℤ) (W R L : List ℕ) : Type 0 where
  pub m : ℕ → ℤ
  pub g : Log
  pub stands : Serially l i M W m g
  pub kept : Kept l.size l.iterations i R L (during g i)
  pub fresh : each i g ≡ []
  pub result : serial l ≡ from l (l.iterations - i) i m g

-- after it, where it has to come after o
pub record After (l : Loop) (i : ℕ) (M : List ℤ) (W R L : List ℕ) (o : ℕ) : Type 0 where
  pub m : ℕ → ℤ
  pub g : Log
  pub stands : Serially l i M W m g
  pub kept : Kept l.size l.iterations i R L (during g i)
  pub over : o ≡ (during g i).over
  pub result : serial l ≡ from l (l.iterations - suc i) (suc i) m g

-- the role and the code are the loop's, with its variable from v on
pub record Runs (code : List ℕ) (x : Role) (v : ℤ) (l : Loop) : Type 0 where
  pub role : x ≡ alone v l.iterations
  pub coded : Coded code v l
  pub faultless : (serial l).outcome ≡ finished

abbrev pub CanIterate : List ℕ → Role → ℕ → List ℤ → List ℕ → List ℕ → List ℕ → Type 0
CanIterate code x i M W R L = (v : ℤ) × (l : Loop) × Runs code x v l × (i < l.iterations) × Before l i M W R L

abbrev pub Iterates : List ℕ → Role → ℕ → List ℤ → List ℕ → List ℕ → List ℕ → List ℤ → List ℕ → List ℕ → ℕ → Type 0
Iterates code x i M W R L M' W' R' r = (v : ℤ) (l : Loop) → Runs code x v l → i < l.iterations → Before l i M W R L → After l i M' W' R' L r
