-- Run of texts alike but for P and the grouping, by what is known of them.
use mathlib.Core.Path.{◌≡◌, refl, sym, ◌∙◌, ap}
use mathlib.Core.List.{List}
use Prim.Native.Nat.{ℕ}
use native.Mathlib.Omega.{arith}
use lib.ListN.{length}
use lib.IntN.{ℤ}
use Rattle.rules.specs.declared.Grouping.{Grouping}
use Rattle.rules.specs.declared.Grouping.TheVariants.{Iterations, Blocks}
use Rattle.rules.specs.Answer.{Answer, passed, rerun, faulted, wordless, AlikeButForTheWord, settled}
use Rattle.rules.specs.Blocks.{singles, tested}
use Rattle.rules.specs.Numbers.{grouped}
use Rattle.rules.proofs.AnswerRun.{settled_alike}
use Rattle.rules.proofs.CoarserRun.{has_passed, settled_coarser}
use Rattle.syntax.specs.Grammar.{Clause}
use Rattle.syntax.specs.Known.{State, nothing}
use Rattle.syntax.specs.Follows.{Program, InOrder, Follows, learnt}
use Rattle.syntax.specs.Text.{Verdict, good, read}
use Rattle.syntax.specs.Meaning.{loop_of, partition_of}
use Rattle.syntax.proofs.ProperLoop.{accepted_proper}
use Rattle.syntax.proofs.Theorem.{accepted_complete}
use Rattle.answers.specs.Answers.{counted, fail, run_number, taken, answered, settles, run_of, cells_run}
use Rattle.std.specs.Prelude.{Result, Ok, Err}
use Rattle.answers.specs.declared.Failure.{Failure}
use Rattle.answers.specs.declared.Ran.{Ran}
use Rattle.answers.specs.declared.Counts.{Counts}
use Rattle.answers.specs.declared.Ran.TheVariants.{Passed, Rerun}
use Rattle.running.specs.Alike.{reclaused, redirected, dealing, ungrouping, but_for_the_word}
use Rattle.running.proofs.Redirected.{Redirects, relearnt}

-- Run of an accepted text that gets past 5 to 7
module _ (text : List ℕ) (s : State) (e : read text ≡ good s) (M : List ℤ) (w : ℕ) (ps : List ℕ) (z : run_number s (length M) w ps ≡ 0) where
  pub answer_is : run_of (read text) M w ps ≡ answered s (settles s M).answer
  unfolding run_of
  answer_is = ap (λ (v : Verdict). run_of v M w ps) e ∙ ap (λ (n : ℕ). taken n (answered s (settles s M).answer) (fail n 0)) z

  pub cells_are : cells_run (read text) M w ps ≡ (settles s M).cells
  unfolding cells_run
  cells_are = ap (λ (v : Verdict). cells_run v M w ps) e ∙ ap (λ (n : ℕ). taken n (settles s M).cells M) z

pub answered_alike : (P : ℕ → ℕ) (G : Grouping → Grouping) (s : State) (a : Answer) → answered s a ≡ answered (redirected P G s) a
answered_alike P G s (passed a b) = refl
answered_alike P G s (rerun a b) = refl
answered_alike P G s (faulted n t i) = refl

-- without the clause obstacles are judged iteration by iteration, for every number of processors
ungrouped : (γ : Grouping) (n p q : ℕ) → γ ≡ Iterations → (tested γ n p).group ≡ (tested γ n q).group
unfolding tested singles
ungrouped Iterations n p q e = refl
ungrouped Blocks n p q e = let z : ◌≡◌ {A = ℕ} 1 0 = ap (λ (g : Grouping). grouped g 0 1) e in absurd (omega arith)

pub settles_alike : (s : State) (p : ℕ) (M : List ℤ) → s.grouping ≡ Iterations → settles s M ≡ settles (dealing p s) M
unfolding loop_of partition_of
settles_alike s p M e = ap (settled (loop_of s M)) (ungrouped s.grouping s.count s.processors p e)

-- the word aside
pub word_aside : (s : State) (a : Answer) → but_for_the_word (answered s a) ≡ answered s (wordless a)
word_aside s (passed a b) = refl
word_aside s (rerun a b) = refl
word_aside s (faulted n t i) = refl

pub settles_but_for_the_word : (P : ℕ → ℕ) (G : Grouping → Grouping) (s : State) (M : List ℤ) → AlikeButForTheWord (settles s M) (settles (redirected P G s) M)
unfolding loop_of
settles_but_for_the_word P G s M = settled_alike (loop_of s M) (partition_of s).group (partition_of (redirected P G s)).group

-- an answer that is passed
abbrev if_passed : Result Ran Failure → Answer
if_passed (Ok (Passed c)) = passed c.pairs c.cells
if_passed (Ok (Rerun c)) = rerun 0 0
if_passed (Err f) = rerun 0 0

pub answered_passed : (s : State) (x : Answer) (a b : ℕ) → answered s x ≡ Ok (Passed (counted a b)) → x ≡ passed a b
answered_passed s (passed c d) a b h = ap if_passed h
answered_passed s (rerun c d) a b h =
    let z : ◌≡◌ {A = ℕ} 0 1 = ap (λ (r : Result Ran Failure). has_passed (if_passed r)) h in absurd (omega arith)
answered_passed s (faulted n t i) a b h =
    let z : ◌≡◌ {A = ℕ} 0 1 = ap (λ (r : Result Ran Failure). has_passed (if_passed r)) h in absurd (omega arith)

pub settles_too : (text : List ℕ) (s : State) → read text ≡ good s → (M : List ℤ) (a b : ℕ)
    → (settles (ungrouping s) M).answer ≡ passed a b → settles s M ≡ settles (ungrouping s) M
unfolding loop_of partition_of tested singles
settles_too text s e M a b h = settled_coarser (loop_of s M) (partition_of s) (accepted_proper text s M e) a b h

-- what each then makes known, and that Run takes it
module _ {f : List Clause → List Clause} {P : ℕ → ℕ} {G : Grouping → Grouping} (r : Redirects f P G) (text' : List ℕ) (p : Program)
    (o : InOrder nothing p) where
  pub read_so : Follows text' (reclaused f p) → read text' ≡ good (redirected P G (learnt nothing p))
  read_so h = accepted_complete text' (reclaused f p) h ∙ ap good (relearnt f P G r p o)

  pub fits_so : (m w : ℕ) (ps : List ℕ) → run_number (learnt nothing (reclaused f p)) m w ps ≡ 0 → run_number (redirected P G (learnt nothing p)) m w ps ≡ 0
  fits_so m w ps z = sym (ap (λ (u : State). run_number u m w ps) (relearnt f P G r p o)) ∙ z
