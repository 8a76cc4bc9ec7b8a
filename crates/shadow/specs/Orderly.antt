-- The states of a run, by what their logs and places have in common: for such a log the tables are right (proofs/Shows.antt).
use Rattle.std.specs.Prelude.{◌≡◌, [], ◌∷◌, ℕ, ◌≤◌, ◌<◌, ℤ}
use Rattle.rules.specs.Loop.{Loop, Partition, bound}
use Rattle.rules.specs.Log.{Kind, Access, access, iteration, Log, only, each}
use Rattle.rules.specs.Owner.{whose}
use Rattle.rules.specs.Proper.{Sized}
use Rattle.rules.specs.Steps.{State}

-- accesses are by iterations below n, of cells below k
pub data Inside (n k : ℕ) : Log → Type 0 where
  inside_nil : Inside n k []
  inside_cons : {q : Kind} {i c : ℕ} {v : ℤ} {l : Log} → i < n → c < k → Inside n k l → Inside n k (access q i c v ∷ l)

-- Within a processor the groups go in ascending order: none of its groups above the newest access's has an access before it.
module _ (γ π : ℕ → ℕ) where
  abbrev pub Latest : ℕ → Log → Type 0
  Latest g l = (j : ℕ) → π j ≡ π g → g < j → only γ j l ≡ []

  pub data InTurn : Log → Type 0 where
    turn_nil : InTurn []
    turn_cons : {e : Access} {l : Log} → Latest (γ (iteration e)) l → InTurn l → InTurn (e ∷ l)

module _ (l : Loop) (δ : Partition) where
  -- the processor of an iteration
  abbrev pub worker : ℕ → ℕ
  worker i = whose δ (δ.group i)

  -- each processor's iterations go in ascending order
  abbrev pub Ascending : Log → Type 0
  Ascending g = InTurn (λ i. i) worker g

  pub record Orderly (s : State) : Type 0 where
    pub inside : Inside l.iterations l.size s.log
    pub ascending : Ascending s.log
    -- nothing was accessed by iterations that a processor has not reached
    pub ahead : (p j : ℕ) → worker j ≡ p → (s.places p).at < j → each j s.log ≡ []
    -- a processor is past the start of its block
    pub placed : (p : ℕ) → bound δ p ≤ (s.places p).at
    -- what is left of its iteration accesses cells of the loop
    pub sized : (p : ℕ) → Sized l.size (s.places p).act
