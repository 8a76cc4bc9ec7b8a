-- The machine's state is a place in the code, an array of pending values and how many of them count; what it means is the tree that `resume`
-- (crates/code) gives for it. Nothing here has to be believed: the promise is an equation of such trees.
use Rattle.std.specs.Prelude.{◌≡◌, List, ℕ, ◌+◌, ◌-◌, ◌/◌, ◌≤◌, length, ℤ}
use Rattle.code.specs.Instr.{instructions, resume}
use Rattle.operands.specs.declared.Move.{Move}
use Rattle.operands.specs.declared.Move.TheVariants.{Read, Write, Update, Fault, End}
use Rattle.operands.specs.Pending.{pendings}
use Rattle.operands.specs.Performing.{left, coming}
use Rattle.machine.specs.declared.Advanced.{Advanced}

-- 1 for an access, past which the processor then stands
abbrev pub accesses : Move → ℕ
accesses (Read c) = 1
accesses (Write c x) = 1
accesses (Update c x) = 1
accesses (Fault n l) = 0
accesses End = 0

-- from a place with d values of a pending, up to the move of r, where the first of b are pending; what b has above them is of no use
pub record Advances (code : List ℕ) (place d : ℕ) (a : List ℤ) (v : ℤ) (b : List ℤ) (r : Advanced) : Type 0 where
  pub meaning : resume (instructions code) place (pendings a d) v ≡ left r.done (λ s. resume (instructions code) r.place s v) (pendings b r.depth)
  pub size : length b ≡ 32
  pub room : r.depth + coming r.done ≤ 32
  pub forward : place + accesses r.done ≤ r.place
  pub inside : accesses r.done ≤ length code / 2 - place
