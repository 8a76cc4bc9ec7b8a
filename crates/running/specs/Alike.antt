-- RULES 12 d: texts alike in all but the number of processors (demand 3) or the clause `schedule(static)` (document 02, Point 3), what is known of such
-- texts, and answers alike but for the word passed or rerun.
use Rattle.std.specs.Prelude.{List, [], ◌∷◌, ℕ, Result, Ok, Err}
use Rattle.rules.specs.declared.Grouping.{Grouping}
use Rattle.rules.specs.declared.Grouping.TheVariants.{Iterations}
use Rattle.syntax.specs.Grammar.{Clause, clause, threads, static, declare, give, direct, loop, inside, end_do, close}
use Rattle.syntax.specs.Known.{State}
use Rattle.syntax.specs.Follows.{Program}
use Rattle.answers.specs.declared.Failure.{Failure}
use Rattle.answers.specs.declared.Ran.{Ran}
use Rattle.answers.specs.declared.Ran.TheVariants.{Passed, Rerun}

-- ---- texts, by their lines

-- the same lines, with other clauses in the directive
abbrev pub reclaused : (List Clause → List Clause) → Program → Program
reclaused f [] = []
reclaused f ((k, direct cs) ∷ p) = (k, direct (f cs)) ∷ reclaused f p
reclaused f ((k, declare x xs) ∷ p) = (k, declare x xs) ∷ reclaused f p
reclaused f ((k, give x i is) ∷ p) = (k, give x i is) ∷ reclaused f p
reclaused f ((k, loop v l m j n) ∷ p) = (k, loop v l m j n) ∷ reclaused f p
reclaused f ((k, inside t) ∷ p) = (k, inside t) ∷ reclaused f p
reclaused f ((k, end_do j) ∷ p) = (k, end_do j) ∷ reclaused f p
reclaused f ((k, close) ∷ p) = (k, close) ∷ reclaused f p

-- the same clauses, with other digits in `num_threads`
abbrev pub rethreaded : List ℕ → List Clause → List Clause
rethreaded d [] = []
rethreaded d (clause k x xs ∷ cs) = clause k x xs ∷ rethreaded d cs
rethreaded d (threads p ∷ cs) = threads d ∷ rethreaded d cs
rethreaded d (static ∷ cs) = static ∷ rethreaded d cs

-- the same lines, with such a directive: "alike in all but the number of processors"
abbrev pub redealt : List ℕ → Program → Program
redealt d p = reclaused (rethreaded d) p

-- the same clauses, without `schedule(static)`
abbrev pub unscheduled : List Clause → List Clause
unscheduled [] = []
unscheduled (clause k x xs ∷ cs) = clause k x xs ∷ unscheduled cs
unscheduled (threads p ∷ cs) = threads p ∷ unscheduled cs
unscheduled (static ∷ cs) = unscheduled cs

-- ---- texts, by what is known of them

-- what is known of a text, with another number of processors and another grouping
abbrev pub redirected : (ℕ → ℕ) → (Grouping → Grouping) → State → State
redirected P G s = record {
  stage = s.stage;
  table = s.table;
  processors = P s.processors;
  grouping = G s.grouping;
  variable = s.variable;
  from = s.from;
  count = s.count;
  opens = s.opens;
  inner = s.inner;
}

-- with another number of processors
abbrev pub dealing : ℕ → State → State
dealing p = redirected (λ _. p) (λ γ. γ)

-- without `schedule(static)`
abbrev pub ungrouping : State → State
ungrouping = redirected (λ p. p) (λ _. Iterations)

-- ---- answers

-- without the word passed or rerun: the write counts, the fault or the refusal
abbrev pub but_for_the_word : Result Ran Failure → Result Ran Failure
but_for_the_word (Ok (Passed c)) = Ok (Rerun c)
but_for_the_word (Ok (Rerun c)) = Ok (Rerun c)
but_for_the_word (Err f) = Err f
