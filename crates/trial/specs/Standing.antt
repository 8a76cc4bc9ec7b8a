-- What the lent cells, the workspace's words and a processor's record stand for: a state of the step rule (crates/rules, Steps). The rule itself is there.
use Rattle.std.specs.Prelude.{◌≡◌, List, [], ℕ, ◌≤◌, ◌<◌, length, ℤ, pos, ◌+ℤ◌}
use Rattle.std.specs.Int.{w32}
use Rattle.std.proofs.Common.{SFits}
use Rattle.rules.specs.Cells.{listed}
use Rattle.rules.specs.Loop.{Act, fault, Loop, Partition}
use Rattle.rules.specs.Log.{Log}
use Rattle.rules.specs.Proper.{Proper}
use Rattle.rules.specs.Steps.{Place, State}
use Rattle.shadow.specs.Orderly.{Orderly}
use Rattle.tables.specs.Logged.{Logged}
use Rattle.code.specs.Instr.{instructions, resume}
use Rattle.operands.specs.Pending.{pendings, Holding}
use Rattle.stepping.specs.declared.Point.{Point}
use Rattle.stepping.specs.Step.{by_fault}

-- ---- the loop

-- a loop dealt out over k processors, however its iterations are grouped, within the limits of RULES 1.13
pub record Suits (k : ℕ) (l : Loop) (δ : Partition) : Type 0 where
  pub proper : Proper l δ
  pub processors : δ.processors ≡ k
  pub cells_most : l.size ≤ 4096
  pub iterations_most : l.iterations ≤ 65535
  pub groups_most : δ.groups ≤ 65535
  pub some : 0 < k
  pub most : k ≤ 8

-- its iterations do what the code does, with the loop's variable from m on
pub record Coded (code : List ℕ) (m : ℤ) (l : Loop) : Type 0 where
  pub body : (i : ℕ) → i < l.iterations → l.body i ≡ resume (instructions code) 0 [] (m +ℤ pos i)
  pub fits : (i : ℕ) → i < l.iterations → SFits w32 (m +ℤ pos i)

-- ---- a state

-- the cells and the words stand for it
pub record Standing (k : ℕ) (l : Loop) (δ : Partition) (M : List ℤ) (W : List ℕ) (s : State) : Type 0 where
  pub suits : Suits k l δ
  pub orderly : Orderly l δ s
  pub cells : M ≡ listed l.size s.cells
  pub words : Logged l δ s.log W

-- for some loop, dealt out in some way, and some state
abbrev pub Stands : ℕ → List ℤ → List ℕ → Type 0
Stands k M W = (l : Loop) × (δ : Partition) × (s : State) × Standing k l δ M W s

-- the words keep the entry values, whatever is noted in them
pub record Kept (k : ℕ) (l : Loop) (δ : Partition) (M : List ℤ) (W : List ℕ) : Type 0 where
  pub suits : Suits k l δ
  pub size : length M ≡ l.size
  pub log : Log
  pub words : Logged l δ log W

-- what is left of an iteration by a processor's record: its pending values are in a
unfoldable pub left_of : List ℕ → ℤ → List ℤ → Point → Act
left_of code v a t = by_fault t.fault (resume (instructions code) t.place (pendings a t.depth) v) (λ f. fault f.number f.line)

-- a processor's record stands for its place
pub record Placed (code : List ℕ) (m : ℤ) (l : Loop) (a : List ℤ) (t : Point) (w : Place) : Type 0 where
  pub holding : Holding a t.depth
  pub at : w.at ≡ t.iteration.0
  pub act : w.at < l.iterations → w.act ≡ left_of code (m +ℤ pos w.at) a t
