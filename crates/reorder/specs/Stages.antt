-- RULES 8 c, d and f (document 02, Point 7, Wavefronts): the stages of the iterations, and plans. g are the accesses of the serial run.
use Rattle.std.specs.Prelude.{◌≡◌, ℕ, zero, suc, max, ◌+◌, ◌<◌}
use Rattle.std.proofs.Math.Decide.{ℕ_discrete}
use Rattle.rules.specs.Choose.{put}
use Rattle.rules.specs.Log.{Log}
use Rattle.rules.specs.Decide.{find}
use Rattle.rules.specs.Marks.{weight}
use Rattle.reorder.specs.Depends.{Depends, depends?}

-- the highest of the first k values, 0 if there are none
unfoldable pub greatest : ℕ → (ℕ → ℕ) → ℕ
greatest zero f = 0
greatest (suc k) f = max (greatest k f) (f k)

module _ (g : Log) where
  -- "the highest stage of a lower iteration it depends on", by the stages s; 0 if there is none
  unfoldable pub behind : (ℕ → ℕ) → ℕ → ℕ
  behind s i = greatest i (λ j. weight (depends? g j i) (s j))

  -- the stages of the iterations below k, each found from those before
  unfoldable pub stages : ℕ → ℕ → ℕ
  stages zero = λ j. 0
  stages (suc k) = put (stages k) k (suc (behind (stages k) k))

  -- "A stage is 1 more than the highest stage of a lower iteration it depends on, else 1": that it is, and that nothing else is, are `stage_is` and
  -- `stage_only` in proofs/Theorem.antt
  unfoldable pub stage : ℕ → ℕ
  stage i = stages (suc i) i

  -- "the number of stages"
  unfoldable pub stage_count : ℕ → ℕ
  stage_count n = greatest n stage

  -- a "plan that stages the higher of two dependent iterations later", of n iterations; s gives their stages, which are any numbers
  abbrev pub Plan : ℕ → (ℕ → ℕ) → Type 0
  Plan n s = (i j : ℕ) → i < j → j < n → Depends g i j → s i < s j

-- ---- how many stages a plan has: how many different numbers it gives

unfoldable pub used? : (n : ℕ) (s : ℕ → ℕ) (v : ℕ) → Dec ((i : ℕ) × (i < n) × (s i ≡ v))
used? n s v = find n (λ i. s i ≡ v) (λ i. ℕ_discrete (s i) v)

-- of those below b
unfoldable pub different : ℕ → (ℕ → ℕ) → ℕ → ℕ
different n s zero = 0
different n s (suc v) = different n s v + weight (used? n s v) 1

unfoldable pub plan_count : ℕ → (ℕ → ℕ) → ℕ
plan_count n s = different n s (suc (greatest n s))
