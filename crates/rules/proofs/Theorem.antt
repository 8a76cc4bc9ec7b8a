-- Order decides nothing (demand 3, for loops). The definitions are in specs/: what Run answers and leaves under a schedule (`run`), what the
-- serial run alone settles (`settled`), and what is asked of a loop (`Proper`). Nothing else has to be read to know what is proved.
use mathlib.Core.Path.{◌≡◌, sym, ◌∙◌}
use mathlib.Core.List.{List}
use Prim.Native.Nat.{ℕ}
use Rattle.rules.specs.Loop.{Loop, Partition}
use Rattle.rules.specs.Blocks.{singles}
use Rattle.rules.specs.Proper.{Proper}
use Rattle.rules.specs.Answer.{AlikeButForTheWord, TrialPasses, run, settled}
use Rattle.rules.proofs.Order.{passes}
use Rattle.rules.proofs.CoarserRun.{passes_coarser}
use Rattle.rules.proofs.AnswerRun.{run_settles, settled_alike}

-- Under every schedule Run's answer and cells are those that the serial run settles. The right side has no schedule and no processor;
-- of the partition it has only the groups by which obstacles are judged.
pub order_decides_nothing : (l : Loop) (δ : Partition) → Proper l δ → (ps : List ℕ) → run l δ ps ≡ settled l δ.group
order_decides_nothing = run_settles

-- With single iterations the groups are the iterations themselves, so the number of processors decides nothing either.
pub processors_decide_nothing : (l : Loop) (P Q : ℕ) → Proper l (singles l.iterations P) → Proper l (singles l.iterations Q)
    → (ps qs : List ℕ) → run l (singles l.iterations P) ps ≡ run l (singles l.iterations Q) qs
unfolding singles
processors_decide_nothing l P Q h k ps qs =
    order_decides_nothing l (singles l.iterations P) h ps ∙ sym (order_decides_nothing l (singles l.iterations Q) k qs)

-- However the iterations are dealt out, grouped into runs of neighbours and scheduled, only the word passed or rerun may change: with each
-- processor's block as a group (`blocks`) for any two numbers of processors, and between the two tests.
pub grouping_decides_the_word : (l : Loop) (δ ε : Partition) → Proper l δ → Proper l ε → (ps qs : List ℕ)
    → AlikeButForTheWord (run l δ ps) (run l ε qs)
grouping_decides_the_word l δ ε h k ps qs =
    rw (order_decides_nothing l δ h ps, order_decides_nothing l ε k qs) (settled_alike l δ.group ε.group)

-- A loop that passes with each iteration tested by itself passes with neighbours tested together, as by blocks, under any two schedules.
pub neighbours_pass_too : (l : Loop) (P : ℕ) (δ : Partition) → Proper l (singles l.iterations P) → Proper l δ
    → (ps qs : List ℕ) → TrialPasses l (singles l.iterations P) ps → TrialPasses l δ qs
unfolding singles
neighbours_pass_too l P δ h k ps qs t = (passes l δ k qs).1 (passes_coarser l δ k ((passes l (singles l.iterations P) h ps).0 t))
