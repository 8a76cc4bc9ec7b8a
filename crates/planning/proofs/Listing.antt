-- The list that Plan leaves holds the stages.
use mathlib.Core.Path.{◌≡◌, ◌∙◌, ap}
use mathlib.Core.List.{List}
use Prim.Native.Nat.{ℕ, ◌<◌}
use native.Mathlib.Omega.{arith}
use lib.ListN.{length, get_or}
use lib.IntN.{ℤ}
use Rattle.rules.specs.Cells.{listed}
use Rattle.rules.proofs.CellsLaws.{listed_at}
use Rattle.rules.specs.Loop.{Loop}
use Rattle.rules.specs.Serial.{finished, serial}
use Rattle.reorder.specs.Stages.{stage}
use Rattle.reorder.specs.Orders.{Staged}
use Rattle.reorder.proofs.OrderLaws.{in_first, in_second}
use Rattle.syntax.specs.Known.{State}
use Rattle.syntax.specs.Text.{Verdict, good, read}
use Rattle.syntax.specs.Meaning.{loop_of}
use Rattle.answers.specs.Answers.{plan_number, taken, stages_written, list_planned}
use Rattle.planning.specs.Listed.{stage_of}

-- orders by stages that are the same
pub staged_same : (n : ℕ) (s t : ℕ → ℕ) → ((i : ℕ) → i < n → s i ≡ t i) → (o : List ℕ) → Staged n s o → Staged n t o
staged_same n s t e o h = record {
  order = h.order;
  turn = λ i j b. omega (arith, h.turn i j b, e i (h.order.small i (in_first b)), e j (h.order.small j (in_second b)));
}

module _ (text : List ℕ) (s : State) (e : read text ≡ good s) (m : List ℤ) (w : ℕ) (q : List ℕ) (z : plan_number s (length m) w (length q) ≡ 0)
    (f : (serial (loop_of s m)).outcome ≡ finished) where
  abbrev l : Loop
  l = loop_of s m

  list_is : list_planned (read text) m w q ≡ listed l.iterations (stage (serial l).log)
  unfolding list_planned
  list_is = ap (λ (v : Verdict). list_planned v m w q) e ∙ ap (λ (n : ℕ). taken n (stages_written l q (serial l).outcome) q) z ∙ ap (stages_written l q) f

  pub stage_is : (i : ℕ) → i < l.iterations → stage_of text m w q i ≡ stage (serial l).log i
  stage_is i b = ap (λ (x : List ℕ). get_or x i 0) list_is ∙ listed_at l.iterations (stage (serial l).log) i 0 b
