-- What an instruction does is the tree that `perform` (crates/code) gives for it. Nothing here has to be believed: each promise is an equation of such trees.
use Rattle.std.specs.Prelude.{◌≡◌, List, ◌∷◌, ℕ, ◌+◌, ◌≤◌, length, ℤ, FitsSigned, Option, Some, None}
use Rattle.std.specs.Int.{w32}
use Rattle.rules.specs.Loop.{Act, read, write, update, fault, done}
use Rattle.code.specs.Instr.{Instr, perform}
use Rattle.operands.specs.declared.Move.{Move}
use Rattle.operands.specs.declared.Move.TheVariants.{Read, Write, Update, Fault, End}
use Rattle.operands.specs.declared.Performed.{Performed}
use Rattle.operands.specs.Pending.{pendings}

-- ---- moves

-- a move, and then what is done with the pending values s; a read's value is one of them
unfoldable pub left : Move → (List ℤ → Act) → List ℤ → Act
left (Read c) on s = read c (λ x. on (x ∷ s))
left (Write c x) on s = write c x (on s)
left (Update c x) on s = update c x (on s)
left (Fault n l) on s = fault n l
left End on s = done

-- the values that a move will bring
abbrev pub coming : Move → ℕ
coming (Read c) = 1
coming (Write c x) = 0
coming (Update c x) = 0
coming (Fault n l) = 0
coming End = 0

-- ---- one instruction

-- where the machine stands after an instruction, and what comes then
abbrev pub onward : ℕ → ℕ → Performed
onward place d = record { place = place; depth = d; next = None }

abbrev pub stopped : ℕ → ℕ → Move → Performed
stopped place d m = record { place = place; depth = d; next = Some m }

-- what is done after an instruction: the next one, or a move
unfoldable pub then : Option Move → (List ℤ → Act) → List ℤ → Act
then None on s = on s
then (Some m) on s = left m on s

-- and the values that this will bring
abbrev pub coming_next : Option Move → ℕ
coming_next None = 0
coming_next (Some m) = coming m

-- what an instruction does that ends before `place`; `go p t` is what is done from place p with t pending
abbrev pub does : Instr → ℕ → ℕ → List ℤ → ℤ → (ℕ → List ℤ → Act) → Act
does i place d a v go = perform i (go place) (λ n. go (place + n)) (pendings a d) v

-- the tree comes to r, with the values of b pending
pub record Performs (tree : (ℕ → List ℤ → Act) → Act) (place : ℕ) (b : List ℤ) (r : Performed) : Type 0 where
  pub meaning : (go : ℕ → List ℤ → Act) → tree go ≡ then r.next (go r.place) (pendings b r.depth)
  pub size : length b ≡ 32
  pub room : r.depth + coming_next r.next ≤ 32
  pub forward : place ≤ r.place

-- an operation of two cells comes to f, by what its call gives
abbrev pub Is : {R : Type 0} → (ℤ → ℤ → R → Type 0) → (ℤ → ℤ → R) → Type 0
Is gives f = (x y : ℤ) → FitsSigned w32 x → FitsSigned w32 y → (r : _) → gives x y r → r ≡ f x y

-- with a quotient, or the fault of a zero divisor
unfoldable pub with_quotient : Option ℤ → ℕ → (ℤ → Act) → Act
with_quotient (Some z) line k = k z
with_quotient None line k = fault 10 line
