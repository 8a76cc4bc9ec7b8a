-- What a step does: to the cells, the words of the tables, the pending values and the point of one processor.
use Rattle.std.specs.Prelude.{◌≡◌, List, ℕ, ◌+◌, ◌≤◌, ◌<◌, length, set, ℤ, pos, ◌+ℤ◌}
use Rattle.std.specs.declared.option.Option.{Option}
use Rattle.std.specs.declared.option.Option.TheVariants.{None, Some}
use Rattle.std.specs.Int.{w32}
use Rattle.std.proofs.Common.{SFits}
use Rattle.operands.specs.declared.Move.{Move}
use Rattle.operands.specs.declared.Move.TheVariants.{Read, Write, Update, Fault, End}
use Rattle.machine.specs.declared.Advanced.{Advanced}
use Rattle.operands.specs.Pending.{Holding}
use Rattle.operands.specs.Performing.{coming}
use Rattle.machine.specs.Machine.{Advances}
use Rattle.stepping.specs.declared.Fault.{Fault as Stop}
use Rattle.stepping.specs.declared.Point.{Point}
use Rattle.stepping.specs.declared.Role.{Role}
use Rattle.stepping.specs.Access.{Accessible, seen, read_words, stored, written_words, joined, updated_words}

-- a point where no fault stopped the processor
abbrev pub unstopped : ℕ → ℕ → ℕ → Point
unstopped depth place i = record { depth = depth; place = place; iteration = record { 0 = i }; fault = None }

-- x where no fault stopped it, else k of the fault
abbrev pub by_fault : {A : Type 0} → Option Stop → A → (Stop → A) → A
by_fault None x k = x
by_fault (Some f) x k = k f

-- all that a step may change
pub record Scene : Type 0 where
  pub cells : List ℤ
  pub words : List ℕ
  pub pending : List ℤ
  pub point : Point

abbrev pub scene : List ℤ → List ℕ → List ℤ → Point → Scene
scene M W a t = record { cells = M; words = W; pending = a; point = t }

-- the iteration, and the value of the loop's variable in it
abbrev pub at : Scene → ℕ
at z = z.point.iteration.0

abbrev pub variable : Role → Scene → ℤ
variable x z = x.from +ℤ pos (at z)

-- from a scene the code comes to a move, with the pending values b
abbrev pub Comes : Role → List ℕ → Scene → List ℤ → Advanced → Type 0
Comes x code z b r = Advances code z.point.place z.point.depth z.pending (variable x z) b r

-- the scene after iteration i made a move over the cells M and the words W, at a place with d of the values b pending
unfoldable pub moved : Role → ℕ → List ℤ → List ℕ → List ℤ → ℕ → ℕ → Move → Scene
moved x i M W b place d (Read c) = scene M (read_words x i W c) (set b d (seen x i M W c)) (unstopped (d + 1) place i)
moved x i M W b place d (Write c v) = scene (stored x M W c v) (written_words x i W c v) b (unstopped d place i)
moved x i M W b place d (Update c v) = scene (joined x M W c v) (updated_words x i W c v) b (unstopped d place i)
moved x i M W b place d (Fault n k) = scene M W b (record { depth = d; place = place; iteration = record { 0 = i }; fault = Some (record { number = n; line = k }) })
moved x i M W b place d End = scene M W b (unstopped 0 0 (i + 1))

-- the cell of the move can be accessed
unfoldable pub CanMove : Role → List ℤ → List ℕ → Move → Type 0
CanMove x M W (Read c) = Accessible x M W c
CanMove x M W (Write c v) = Accessible x M W c
CanMove x M W (Update c v) = Accessible x M W c
CanMove x M W (Fault n k) = Unit {0}
CanMove x M W End = Unit {0}

-- what is written is a 32-bit number
unfoldable pub Fitting : Move → Type 0
Fitting (Read c) = Unit {0}
Fitting (Write c v) = SFits w32 v
Fitting (Update c v) = SFits w32 v
Fitting (Fault n k) = Unit {0}
Fitting End = Unit {0}

-- ---- a move

-- it can be made
pub record CanMake (x : Role) (i : ℕ) (M : List ℤ) (W : List ℕ) (b : List ℤ) (r : Advanced) : Type 0 where
  pub low : i < 65535
  pub can : CanMove x M W r.done
  pub size : length b ≡ 32
  pub room : r.depth + coming r.done ≤ 32

-- and leads to z'
pub record Makes (x : Role) (i : ℕ) (M : List ℤ) (W : List ℕ) (b : List ℤ) (r : Advanced) (z' : Scene) : Type 0 where
  pub fits : Fitting r.done
  pub after : z' ≡ moved x i M W b r.place r.depth r.done

-- ---- a step

-- it can be made
pub record CanGo (x : Role) (code : List ℕ) (z : Scene) : Type 0 where
  pub holding : Holding z.pending z.point.depth
  pub low : at z < 65535
  pub fits : SFits w32 (variable x z)
  pub reach : (b : List ℤ) (r : Advanced) → Comes x code z b r → CanMove x z.cells z.words r.done

-- and leads to z'
pub record Goes (x : Role) (code : List ℕ) (z z' : Scene) : Type 0 where
  pub pending : List ℤ
  pub reached : Advanced
  pub comes : Comes x code z pending reached
  pub makes : Makes x (at z) z.cells z.words pending reached z'

-- by the move m
pub record Went (x : Role) (code : List ℕ) (z z' : Scene) (m : Move) : Type 0 where
  pub goes : Goes x code z z'
  pub by : goes.reached.done ≡ m
