-- RULES 8 e and f: what Plan's list is good for, of every accepted text whose serial run meets no fault, over any cells. The definitions are in
-- crates/reorder/specs; crates/reorder/proofs/Theorem.antt has the same for any loop, and what a stage is.
use mathlib.Core.Path.{◌≡◌, sym, ◌∙◌, ap}
use mathlib.Core.List.{List}
use Prim.Native.Nat.{ℕ, ◌≤◌}
use native.Mathlib.Omega.{arith}
use lib.ListN.{length}
use lib.IntN.{ℤ}
use Rattle.rules.specs.Loop.{Loop}
use Rattle.rules.specs.Serial.{finished, serial}
use Rattle.reorder.specs.Stages.{stage, stage_count, Plan, plan_count}
use Rattle.reorder.specs.Orders.{Staged}
use Rattle.reorder.specs.Whole.{whole, in_order, Agrees}
use Rattle.reorder.proofs.Theorem as any_loop
use Rattle.syntax.specs.Known.{State}
use Rattle.syntax.specs.Text.{Verdict, good, read}
use Rattle.syntax.specs.Meaning.{loop_of}
use Rattle.std.specs.Prelude.{Ok}
use Rattle.answers.specs.Answers.{fail, plan_number, taken, staged, plan_of}
use Rattle.planning.specs.Listed.{stage_of}
use Rattle.planning.proofs.Listing.{staged_same, stage_is}

-- The text is accepted, with the cells m, w words and the list q nothing is refused, and the serial run meets no fault.
module _ (text : List ℕ) (s : State) (e : read text ≡ good s) (m : List ℤ) (w : ℕ) (q : List ℕ) (z : plan_number s (length m) w (length q) ≡ 0)
    (f : (serial (loop_of s m)).outcome ≡ finished) where
  abbrev l : Loop
  l = loop_of s m

  -- Plan answers how many there are
  pub answers_stages : plan_of (read text) m w (length q) ≡ Ok (stage_count (serial l).log l.iterations)
  unfolding plan_of
  answers_stages =
      ap (λ (v : Verdict). plan_of v m w (length q)) e
      ∙ ap (λ (n : ℕ). taken n (staged l s.from (serial l).outcome) (fail n 0)) z ∙ ap (staged l s.from) f

  -- "Running the stages in turn, the iterations of a stage in any order, must give the serial cells": every such order ends without a fault, in the serial
  -- cells, each iteration with the accesses that it has in the serial run.
  pub stages_in_turn : (o : List ℕ) → Staged l.iterations (stage_of text m w q) o → Agrees (serial l) (in_order (whole l) o l.entry)
  stages_in_turn o h =
      any_loop.stages_in_turn l f o (staged_same l.iterations (stage_of text m w q) (stage (serial l).log) (stage_is text s e m w q z f) o h)

  -- And there is such an order.
  pub order_by_stages : (o : List ℕ) × Staged l.iterations (stage_of text m w q) o
  order_by_stages =
      let (o, h) = any_loop.stages_order (serial l).log l.iterations in
      (o, staged_same l.iterations (stage (serial l).log) (stage_of text m w q) (λ i b. sym (stage_is text s e m w q z f i b)) o h)

  -- The list "stages the higher of two dependent iterations later",
  pub list_is_a_plan : Plan (serial l).log l.iterations (stage_of text m w q)
  list_is_a_plan i j b c d =
      let is = stage_is text s e m w q z f in
      omega (arith, (any_loop.stages_plan (serial l).log l.iterations).0 i j b c d, is i (omega arith), is j c)

  -- and "no plan that stages the higher of two dependent iterations later has fewer stages", whatever numbers it gives them.
  pub fewest_stages : (t : ℕ → ℕ) → Plan (serial l).log l.iterations t → stage_count (serial l).log l.iterations ≤ plan_count l.iterations t
  fewest_stages = any_loop.stages_fewest (serial l).log l.iterations
