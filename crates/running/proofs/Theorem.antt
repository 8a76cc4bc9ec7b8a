-- RULES 12 d: what the clauses may decide of Run's answer. Demand 3: "Two accepted texts alike in all but the number of processors get the same answer
-- and final cells" (`alike_texts`). Document 02, Point 3: "Of what Run answers and leaves in the cells, the processor count may change that result
-- alone, and only in these texts", which have the clause `schedule(static)` (`alike_but_for_the_word`). And a text that passes without this clause passes
-- with it (`passes_with_the_clause_too`).
use mathlib.Core.Path.{◌≡◌, sym, ◌∙◌, ap}
use mathlib.Core.List.{List}
use Prim.Native.Nat.{ℕ}
use lib.ListN.{length}
use lib.IntN.{ℤ}
use Rattle.rules.specs.declared.Grouping.{Grouping}
use Rattle.rules.specs.declared.Grouping.TheVariants.{Iterations}
use Rattle.rules.specs.Answer.{Ending, wordless}
use Rattle.syntax.specs.Grammar.{number}
use Rattle.syntax.specs.Known.{State, nothing}
use Rattle.syntax.specs.Follows.{Program, Follows, learnt}
use Rattle.syntax.specs.Text.{good, read}
use Rattle.syntax.proofs.Theorem.{accepted_complete}
use Rattle.answers.specs.Answers.{counted, run_number, answered, settles, run_of, cells_run}
use Rattle.std.specs.Prelude.{Ok}
use Rattle.answers.specs.declared.Ran.TheVariants.{Passed}
use Rattle.running.specs.Alike.{reclaused, redealt, unscheduled, redirected, dealing, ungrouping, but_for_the_word}
use Rattle.running.proofs.Clauses.{rethreads, unschedules}
use Rattle.running.proofs.Known.{answer_is, cells_are, answered_alike, settles_alike, word_aside, settles_but_for_the_word, answered_passed, settles_too, read_so, fits_so}

-- ---- texts, by what is known of them

-- over the same cells, each with enough workspace and a schedule of its own processors
pub processors_decide_nothing : (text text' : List ℕ) (s : State) (p : ℕ) → s.grouping ≡ Iterations → read text ≡ good s
    → read text' ≡ good (dealing p s) → (M : List ℤ) (w w' : ℕ) (ps ps' : List ℕ)
    → run_number s (length M) w ps ≡ 0 → run_number (dealing p s) (length M) w' ps' ≡ 0
    → (run_of (read text) M w ps ≡ run_of (read text') M w' ps') × (cells_run (read text) M w ps ≡ cells_run (read text') M w' ps')
processors_decide_nothing text text' s p q e e' M w w' ps ps' z z' =
    let s' = dealing p s in
    let a = settles_alike s p M q in (
      answer_is text s e M w ps z ∙ ap (λ (x : Ending). answered s x.answer) a ∙ answered_alike (λ _. p) (λ γ. γ) s (settles s' M).answer
          ∙ sym (answer_is text' s' e' M w' ps' z'),
      cells_are text s e M w ps z ∙ ap (λ (x : Ending). x.cells) a ∙ sym (cells_are text' s' e' M w' ps' z'),
    )

-- with the clause or without it, in either text
pub clauses_decide_the_word : (P : ℕ → ℕ) (G : Grouping → Grouping) (text text' : List ℕ) (s : State) → read text ≡ good s
    → read text' ≡ good (redirected P G s) → (M : List ℤ) (w w' : ℕ) (ps ps' : List ℕ)
    → run_number s (length M) w ps ≡ 0 → run_number (redirected P G s) (length M) w' ps' ≡ 0
    → (but_for_the_word (run_of (read text) M w ps) ≡ but_for_the_word (run_of (read text') M w' ps'))
    × (cells_run (read text) M w ps ≡ cells_run (read text') M w' ps')
clauses_decide_the_word P G text text' s e e' M w w' ps ps' z z' =
    let s' = redirected P G s in
    let a = settles_but_for_the_word P G s M in (
      ap but_for_the_word (answer_is text s e M w ps z) ∙ word_aside s (settles s M).answer ∙ ap (answered s) a.answer
          ∙ answered_alike P G s (wordless (settles s' M).answer)
          ∙ sym (ap but_for_the_word (answer_is text' s' e' M w' ps' z') ∙ word_aside s' (settles s' M).answer),
      cells_are text s e M w ps z ∙ a.cells ∙ sym (cells_are text' s' e' M w' ps' z'),
    )

-- ---- texts, by their lines

-- both texts follow the subset, by the same lines but for the digits of `num_threads`, and without the clause `schedule(static)`
pub alike_texts : (text text' : List ℕ) (p : Program) (d : List ℕ) → Follows text p → Follows text' (redealt d p)
    → (learnt nothing p).grouping ≡ Iterations → (M : List ℤ) (w w' : ℕ) (ps ps' : List ℕ)
    → run_number (learnt nothing p) (length M) w ps ≡ 0 → run_number (learnt nothing (redealt d p)) (length M) w' ps' ≡ 0
    → (run_of (read text) M w ps ≡ run_of (read text') M w' ps') × (cells_run (read text) M w ps ≡ cells_run (read text') M w' ps')
alike_texts text text' p d f f' q M w w' ps ps' z z' =
    let o = f.ordered in
    processors_decide_nothing text text' (learnt nothing p) (number d) q (accepted_complete text p f) (read_so (rethreads d) text' p o f') M w w' ps ps'
    z (fits_so (rethreads d) text' p o (length M) w' ps' z')

-- the same with the clause, or without it: only the word passed or rerun may differ
pub alike_but_for_the_word : (text text' : List ℕ) (p : Program) (d : List ℕ) → Follows text p → Follows text' (redealt d p)
    → (M : List ℤ) (w w' : ℕ) (ps ps' : List ℕ)
    → run_number (learnt nothing p) (length M) w ps ≡ 0 → run_number (learnt nothing (redealt d p)) (length M) w' ps' ≡ 0
    → (but_for_the_word (run_of (read text) M w ps) ≡ but_for_the_word (run_of (read text') M w' ps'))
    × (cells_run (read text) M w ps ≡ cells_run (read text') M w' ps')
alike_but_for_the_word text text' p d f f' M w w' ps ps' z z' =
    let o = f.ordered in
    clauses_decide_the_word (λ _. number d) (λ γ. γ) text text' (learnt nothing p) (accepted_complete text p f) (read_so (rethreads d) text' p o f')
    M w w' ps ps' z (fits_so (rethreads d) text' p o (length M) w' ps' z')

-- where the text without the clause passes, the text with it passes, with the same counts and cells
pub passes_with_the_clause_too : (text text' : List ℕ) (p : Program) → Follows text p → Follows text' (reclaused unscheduled p)
    → (M : List ℤ) (w w' : ℕ) (ps ps' : List ℕ)
    → run_number (learnt nothing p) (length M) w ps ≡ 0 → run_number (learnt nothing (reclaused unscheduled p)) (length M) w' ps' ≡ 0
    → (a b : ℕ) → run_of (read text') M w' ps' ≡ Ok (Passed (counted a b))
    → (run_of (read text) M w ps ≡ Ok (Passed (counted a b))) × (cells_run (read text) M w ps ≡ cells_run (read text') M w' ps')
passes_with_the_clause_too text text' p f f' M w w' ps ps' z z' a b h =
    let s = learnt nothing p in
    let e = accepted_complete text p f in
    let e' = read_so unschedules text' p f.ordered f' in
    let y = fits_so unschedules text' p f.ordered (length M) w' ps' z' in
    let n = answered_passed (ungrouping s) (settles (ungrouping s) M).answer a b (sym (answer_is text' (ungrouping s) e' M w' ps' y) ∙ h) in
    let t = settles_too text s e M a b n in (
      answer_is text s e M w ps z ∙ ap (answered s) (ap (λ (x : Ending). x.answer) t ∙ n),
      cells_are text s e M w ps z ∙ ap (λ (x : Ending). x.cells) t ∙ sym (cells_are text' (ungrouping s) e' M w' ps' y),
    )
