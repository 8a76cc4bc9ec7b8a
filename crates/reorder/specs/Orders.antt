-- RULES 8 e: orders of the iterations, lists in which each number below n stands exactly once; those by stages, and those that keep each dependent pair.
use Rattle.std.specs.Prelude.{List, [], ◌∷◌, ℕ, zero, suc, ◌≤◌, ◌<◌}
use Rattle.rules.specs.Log.{Log}
use Rattle.reorder.specs.Depends.{Depends}

-- i stands in the list
pub data In (i : ℕ) : List ℕ → Type 0 where
  at : {o : List ℕ} → In i (i ∷ o)
  after : {j : ℕ} {o : List ℕ} → In i o → In i (j ∷ o)

-- i stands before j
pub data Before (i j : ℕ) : List ℕ → Type 0 where
  first : {o : List ℕ} → In j o → Before i j (i ∷ o)
  later : {k : ℕ} {o : List ℕ} → Before i j o → Before i j (k ∷ o)

-- no number stands twice
pub data Once : List ℕ → Type 0 where
  once_nil : Once []
  once_cons : {i : ℕ} {o : List ℕ} → ¬ In i o → Once o → Once (i ∷ o)

-- an order of the numbers below n
pub record Order (n : ℕ) (o : List ℕ) : Type 0 where
  pub once : Once o
  pub has : (i : ℕ) → i < n → In i o
  pub small : (i : ℕ) → In i o → i < n

-- "the stages in turn, the iterations of a stage in any order": none stands before one of a lower stage, by the stages s
pub record Staged (n : ℕ) (s : ℕ → ℕ) (o : List ℕ) : Type 0 where
  pub order : Order n o
  pub turn : (i j : ℕ) → Before i j o → s i ≤ s j

-- each dependent pair keeps its order
pub record Respects (n : ℕ) (g : Log) (o : List ℕ) : Type 0 where
  pub order : Order n o
  pub keeps : (i j : ℕ) → i < j → j < n → Depends g i j → Before i j o

-- k numbers, the first of them i, rising
unfoldable pub range : ℕ → ℕ → List ℕ
range zero i = []
range (suc k) i = i ∷ range k (suc i)
