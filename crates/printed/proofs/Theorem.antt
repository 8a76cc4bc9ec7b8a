-- RULES 1.15 (document 02, Point 8): what is proved of the printed form, `form`, of accepted texts.
use mathlib.Core.Path.{◌≡◌, sym, ◌∙◌, ap, subst}
use mathlib.Core.Logic.{◌↔◌}
use mathlib.Core.List.{List}
use Prim.Native.Nat.{ℕ, ◌≤◌}
use lib.ListN.{length}
use lib.IntN.{ℤ}
use Rattle.rules.specs.Serial.{serial}
use Rattle.rules.specs.Answer.{look, settled}
use Rattle.syntax.specs.Bytes.{tokens}
use Rattle.syntax.specs.Known.{State, nothing}
use Rattle.syntax.specs.Conditions.{concat}
use Rattle.syntax.specs.Text.{read, good}
use Rattle.syntax.specs.Meaning.{loop_of, partition_of}
use Rattle.syntax.specs.Follows.{learnt}
use Rattle.syntax.proofs.Theorem.{accepted_complete}
use Rattle.printed.specs.Form.{spaced, ended, printed, program, form}
use Rattle.printed.specs.Differ.{DifferOnly}
use Rattle.printed.specs.Restated.{restated, SameKnown, SameLoop, SameResult, SameEnding, Reprinted, AlikeKnown}
use Rattle.printed.proofs.RoundTrip.{spaced_tokens}
use Rattle.printed.proofs.LexedLaws.{tokens_proper}
use Rattle.printed.proofs.PrintedAlike.{formed_differ, differ_formed}
use Rattle.printed.proofs.PrintedAgain.{printed_follows, printed_known, formed_once, printed_again}
use Rattle.printed.proofs.SameLoops.{known_loop, loop_serial}
use Rattle.printed.proofs.SameEndings.{loop_settled}
use Rattle.printed.proofs.SameSteps.{look_same}
use Rattle.printed.proofs.SaidAlike.{said_alike, result_both, ending_both}
use Rattle.printed.proofs.PrintedBound.{printed_bound}
use Rattle.printed.proofs.Programs.{program_follows, accepted}

-- "Two accepted texts print alike exactly when they differ only in what this form removes."
pub print_alike : (s t : List ℕ) (u v : State) → read s ≡ good u → read t ≡ good v → (form s ≡ form t) ↔ DifferOnly s t
unfolding form
print_alike s t u v h k =
    let p = program s in
    let q = program t in
    let f = (accepted s u h).follows in
    let g = (accepted t v k).follows in
    (λ e. formed_differ s t p q f g (formed_once s t p q f g e), λ e. ap (concat ended) (differ_formed s t p q f g e))

-- "A printed text that fits in 2,048 bytes is accepted and prints as itself": and it says the same.
pub printed_accepted : (text : List ℕ) (s : State) → read text ≡ good s → length (form text) ≤ 2048 → Reprinted text s
unfolding form
printed_accepted text s h b =
    let p = program text in
    let a = accepted text s h in
    let g = printed_follows text p a.follows b in
    record {
      state = learnt nothing (restated p);
      accepted = accepted_complete (form text) (restated p) g;
      itself = ap printed (program_follows (form text) (restated p) g) ∙ printed_again text p a.follows;
      same = subst (λ (u : State). SameKnown u (learnt nothing (restated p))) a.known (printed_known text p a.follows);
    }

-- Its loop does the same over any cells: every iteration's tree is the same but for the lines of faults.
pub printed_loop : (s t : State) → SameKnown s t → (m : List ℤ) → SameLoop (loop_of s m) (loop_of t m)
printed_loop = known_loop

-- And its serial run: the same cells and accesses, and the same fault but for its line.
pub printed_serial : (s t : State) → SameKnown s t → (m : List ℤ) → SameResult (serial (loop_of s m)) (serial (loop_of t m))
printed_serial s t h m = loop_serial (loop_of s m) (loop_of t m) (known_loop s t h m)

-- And its iterations are grouped and shared among the processors alike.
pub printed_partition : (s t : State) → SameKnown s t → partition_of t ≡ partition_of s
unfolding partition_of
printed_partition s t h = rw (h.grouping, h.count, h.processors)

-- So Run, which answers what the serial run settles, answers the same of both under every schedule, but for the line of a fault, and leaves the same cells.
pub printed_run : (s t : State) → SameKnown s t → (m : List ℤ)
    → SameEnding (settled (loop_of s m) (partition_of s).group) (settled (loop_of t m) (partition_of t).group)
printed_run s t h m = rw (printed_partition s t h) (loop_settled (loop_of s m) (loop_of t m) (known_loop s t h m) (partition_of s).group)

-- Nor does Look show another view, after any schedule's steps.
pub printed_look : (s t : State) → SameKnown s t → (m : List ℤ) (ps : List ℕ) → look (loop_of t m) (partition_of t) ps ≡ look (loop_of s m) (partition_of s) ps
printed_look s t h m ps = rw (printed_partition s t h) (look_same (loop_of s m) (loop_of t m) (known_loop s t h m) (partition_of s) ps)

-- "Sites exchange loops and can't tell whether two are alike": of two accepted texts that print alike, however long their form is, the names with their
-- cells, extents, classes and data are the same, P, the grouping, v and the bounds;
pub alike_known : (s t : List ℕ) (u v : State) → read s ≡ good u → read t ≡ good v → form s ≡ form t → AlikeKnown u v
alike_known s t u v h k e =
    let a = said_alike s t u v h k e in
    record {
      table = sym a.first.table ∙ a.second.table;
      processors = sym a.first.processors ∙ a.second.processors;
      grouping = sym a.first.grouping ∙ a.second.grouping;
      variable = sym a.first.variable ∙ a.second.variable;
      from = sym a.first.from ∙ a.second.from;
      count = sym a.first.count ∙ a.second.count;
    }

-- and Run answers and leaves the same of both, but for the line of a fault.
pub alike_run : (s t : List ℕ) (u v : State) → read s ≡ good u → read t ≡ good v → form s ≡ form t → (m : List ℤ)
    → SameEnding (settled (loop_of u m) (partition_of u).group) (settled (loop_of v m) (partition_of v).group)
alike_run s t u v h k e m =
    let a = said_alike s t u v h k e in ending_both (printed_run u a.state a.first m) (printed_run v a.state a.second m)

-- So does their serial run, accesses included, by which Plan goes; and Look shows the same of both.
pub alike_serial : (s t : List ℕ) (u v : State) → read s ≡ good u → read t ≡ good v → form s ≡ form t → (m : List ℤ)
    → SameResult (serial (loop_of u m)) (serial (loop_of v m))
alike_serial s t u v h k e m =
    let a = said_alike s t u v h k e in result_both (printed_serial u a.state a.first m) (printed_serial v a.state a.second m)

pub alike_look : (s t : List ℕ) (u v : State) → read s ≡ good u → read t ≡ good v → form s ≡ form t → (m : List ℤ) (ps : List ℕ)
    → look (loop_of v m) (partition_of v) ps ≡ look (loop_of u m) (partition_of u) ps
alike_look s t u v h k e m ps =
    let a = said_alike s t u v h k e in sym (printed_look v a.state a.second m ps) ∙ printed_look u a.state a.first m ps

-- "The answer is the length": it is below 65,536, so 16 bits hold it.
pub form_bound : (text : List ℕ) (s : State) → read text ≡ good s → length (form text) ≤ 65530
unfolding form
form_bound text s h = printed_bound text (program text) (accepted text s h).follows

-- The lexer round trip: a line's tokens, written with one blank between them, are the tokens of these bytes.
pub round_trip : (s : List ℕ) → tokens (spaced (tokens s)) ≡ tokens s
round_trip s = spaced_tokens (tokens s) (tokens_proper 0 s)
