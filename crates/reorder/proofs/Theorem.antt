-- RULES 8 for any loop. The definitions are in specs/; nothing else has to be read to know what is proved. No operation for updates is asked to
-- commute. crates/planning/proofs/Theorem.antt has the same for texts.
use mathlib.Core.Path.{◌≡◌}
use mathlib.Core.List.{List}
use Prim.Native.Nat.{ℕ, suc, ◌≤◌, ◌<◌}
use Rattle.rules.specs.Loop.{Loop}
use Rattle.rules.specs.Log.{Log}
use Rattle.rules.specs.Serial.{finished, serial}
use Rattle.reorder.specs.Stages.{behind, stage, stage_count, Plan, plan_count}
use Rattle.reorder.specs.Orders.{Staged, Respects, range}
use Rattle.reorder.specs.Whole.{whole, in_order, Agrees}
use Rattle.reorder.specs.StageTable.{swept}
use Rattle.reorder.proofs.Reorder.{reorder}
use Rattle.reorder.proofs.AlongLaws.{whole_local}
use Rattle.reorder.proofs.WholeRun.{serial_order}
use Rattle.reorder.proofs.StageLaws.{stage_suc, stage_unique, stage_plan, stage_fewest, stage_counted, stage_small}
use Rattle.reorder.proofs.StageRun.{plan_respects, by_stages, by_stages_staged}
use Rattle.reorder.proofs.StageTableRight.{swept_stages, swept_count}

-- ---- the stages, of any list of accesses

module _ (g : Log) where
  -- "A stage is 1 more than the highest stage of a lower iteration it depends on, else 1"; and nothing else is.
  pub stage_is : (i : ℕ) → stage g i ≡ suc (behind g (stage g) i)
  stage_is = stage_suc g

  pub stage_only : (s : ℕ → ℕ) (n : ℕ) → ((i : ℕ) → i < n → s i ≡ suc (behind g s i)) → (i : ℕ) → i < n → s i ≡ stage g i
  stage_only = stage_unique g

  -- "no plan that stages the higher of two dependent iterations later has fewer stages", whatever numbers it gives them; the stages are such a plan.
  pub stages_plan : (n : ℕ) → Plan g n (stage g) × (plan_count n (stage g) ≡ stage_count g n)
  stages_plan n = (stage_plan g n, stage_counted g n)

  pub stages_fewest : (n : ℕ) (s : ℕ → ℕ) → Plan g n s → stage_count g n ≤ plan_count n s
  stages_fewest = stage_fewest g

  -- A stage is at most the number of iterations up to it, so 16 bits hold it.
  pub stages_small : (i : ℕ) → stage g i ≤ suc i
  stages_small = stage_small g

  -- They are computed in a few steps for each access.
  pub stages_computed : (n : ℕ) → ((i : ℕ) → i < n → (swept g n).stages i ≡ stage g i) × ((swept g n).count ≡ stage_count g n)
  stages_computed n = (swept_stages g n, swept_count g n)

-- ---- running them

module _ (l : Loop) where
  -- The serial run is the iterations in the order of their numbers.
  pub order_of_numbers : serial l ≡ in_order (whole l) (range l.iterations 0) l.entry
  order_of_numbers = serial_order l

  -- Every order of whole iterations in which each dependent pair keeps its order ends in the same cells, without a fault, each iteration with the same
  -- accesses.
  pub order_respecting : (serial l).outcome ≡ finished → (o : List ℕ) → Respects l.iterations (serial l).log o
      → Agrees (serial l) (in_order (whole l) o l.entry)
  order_respecting = rw order_of_numbers (reorder (whole l) l.iterations l.entry (λ i y. whole_local l i))

  module _ (f : (serial l).outcome ≡ finished) where
    -- "Running the stages in turn, the iterations of a stage in any order, must give the serial cells": of any plan, and so of the stages.
    pub plan_in_turn : (s : ℕ → ℕ) → Plan (serial l).log l.iterations s → (o : List ℕ) → Staged l.iterations s o
        → Agrees (serial l) (in_order (whole l) o l.entry)
    plan_in_turn s p o t = order_respecting f o (plan_respects (serial l).log l.iterations s p o t)

    pub stages_in_turn : (o : List ℕ) → Staged l.iterations (stage (serial l).log) o → Agrees (serial l) (in_order (whole l) o l.entry)
    stages_in_turn = plan_in_turn (stage (serial l).log) (stage_plan (serial l).log l.iterations)

-- There always is such an order.
pub stages_order : (g : Log) (n : ℕ) → (o : List ℕ) × Staged n (stage g) o
stages_order g n = (by_stages g n, by_stages_staged g n)
