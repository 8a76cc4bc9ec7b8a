-- A directive with other digits in `num_threads`, or without `schedule(static)`, gives the same classes; what it gives of P and the grouping.
use mathlib.Core.Path.{◌≡◌, refl, sym, ◌∙◌, ap}
use mathlib.Core.Bool.{Bool, cond}
use mathlib.Core.List.{List, [], ◌∷◌, ◌++◌}
use Prim.Native.Nat.{ℕ, suc, ◌≤◌}
use native.Mathlib.Omega.{arith}
use lib.ListN.{length}
use Rattle.rules.specs.declared.Grouping.TheVariants.{Iterations}
use Rattle.rules.specs.declared.Class.TheVariants.{Lastprivate as lastprivate, Copied as copied, Reduction as reduction}
use Rattle.syntax.specs.Bytes.{any, same}
use Rattle.syntax.specs.declared.ClauseKind.{ClauseKind}
use Rattle.syntax.specs.declared.ClauseKind.TheVariants.{Shared, Lastprivate, Firstprivate, Reduction}
use Rattle.syntax.specs.Grammar.{number, Clause, clause, threads, static}
use Rattle.syntax.specs.Known.{threads_in, processors_by, statics_in, grouping_by, names_in, in_lastprivate, in_firstprivate, reduced_in, class_in}
use Rattle.running.specs.Alike.{rethreaded, unscheduled}
use Rattle.running.proofs.Redirected.{Redirects}

-- ---- the clauses with names, which alone give classes

named : List Clause → List Clause
named [] = []
named (clause k x xs ∷ cs) = clause k x xs ∷ named cs
named (threads p ∷ cs) = named cs
named (static ∷ cs) = named cs

named_names : (f : ClauseKind → Bool) (cs : List Clause) → names_in f cs ≡ names_in f (named cs)
unfolding named
named_names f [] = refl
named_names f (clause k y ys ∷ cs) = ap (λ (l : List (List ℕ)). cond (f k) (y ∷ (ys ++ l)) l) (named_names f cs)
named_names f (threads p ∷ cs) = named_names f cs
named_names f (static ∷ cs) = named_names f cs

named_reduced : (x : List ℕ) (cs : List Clause) → reduced_in cs x ≡ reduced_in (named cs) x
unfolding named
named_reduced x [] = refl
named_reduced x (clause Shared y ys ∷ cs) = named_reduced x cs
named_reduced x (clause Lastprivate y ys ∷ cs) = named_reduced x cs
named_reduced x (clause Firstprivate y ys ∷ cs) = named_reduced x cs
named_reduced x (clause (Reduction o) y ys ∷ cs) = ap (cond (any (same x) (y ∷ ys)) (reduction o)) (named_reduced x cs)
named_reduced x (threads p ∷ cs) = named_reduced x cs
named_reduced x (static ∷ cs) = named_reduced x cs

by_named : (cs : List Clause) (x : List ℕ) → class_in cs x ≡ class_in (named cs) x
unfolding class_in
by_named cs x = λ i. cond (any (same x) (named_names in_firstprivate cs i)) copied
    (cond (any (same x) (named_names in_lastprivate cs i)) lastprivate (named_reduced x cs i))

-- so clauses with the same names in them give the same classes
same_classes : (cs ds : List Clause) → named cs ≡ named ds → (x : List ℕ) → class_in cs x ≡ class_in ds x
same_classes cs ds e x = by_named cs x ∙ ap (λ (l : List Clause). class_in l x) e ∙ sym (by_named ds x)

-- ---- other digits in `num_threads`

named_rethreaded : (d : List ℕ) (cs : List Clause) → named (rethreaded d cs) ≡ named cs
unfolding named
named_rethreaded d [] = refl
named_rethreaded d (clause k y ys ∷ cs) = ap (◌∷◌ (clause k y ys)) (named_rethreaded d cs)
named_rethreaded d (threads p ∷ cs) = named_rethreaded d cs
named_rethreaded d (static ∷ cs) = named_rethreaded d cs

same_statics : (d : List ℕ) (cs : List Clause) → statics_in (rethreaded d cs) ≡ statics_in cs
same_statics d [] = refl
same_statics d (clause k y ys ∷ cs) = same_statics d cs
same_statics d (threads p ∷ cs) = same_statics d cs
same_statics d (static ∷ cs) = ap suc (same_statics d cs)

other_processors : (d : List ℕ) (cs : List Clause) → 1 ≤ length (threads_in cs) → processors_by (threads_in (rethreaded d cs)) ≡ number d
other_processors d [] h = absurd (omega arith)
other_processors d (clause k y ys ∷ cs) h = other_processors d cs h
other_processors d (threads p ∷ cs) h = refl
other_processors d (static ∷ cs) h = other_processors d cs h

pub rethreads : (d : List ℕ) → Redirects (rethreaded d) (λ _. number d) (λ γ. γ)
rethreads d = record {
  classes = λ cs. same_classes (rethreaded d cs) cs (named_rethreaded d cs);
  processors = other_processors d;
  grouping = λ cs. ap grouping_by (same_statics d cs);
}

-- ---- without `schedule(static)`

named_unscheduled : (cs : List Clause) → named (unscheduled cs) ≡ named cs
unfolding named
named_unscheduled [] = refl
named_unscheduled (clause k y ys ∷ cs) = ap (◌∷◌ (clause k y ys)) (named_unscheduled cs)
named_unscheduled (threads p ∷ cs) = named_unscheduled cs
named_unscheduled (static ∷ cs) = named_unscheduled cs

same_threads : (cs : List Clause) → threads_in (unscheduled cs) ≡ threads_in cs
same_threads [] = refl
same_threads (clause k y ys ∷ cs) = same_threads cs
same_threads (threads p ∷ cs) = ap (◌∷◌ p) (same_threads cs)
same_threads (static ∷ cs) = same_threads cs

no_statics : (cs : List Clause) → statics_in (unscheduled cs) ≡ 0
no_statics [] = refl
no_statics (clause k y ys ∷ cs) = no_statics cs
no_statics (threads p ∷ cs) = no_statics cs
no_statics (static ∷ cs) = no_statics cs

pub unschedules : Redirects unscheduled (λ p. p) (λ _. Iterations)
unschedules = record {
  classes = λ cs. same_classes (unscheduled cs) cs (named_unscheduled cs);
  processors = λ cs h. ap processors_by (same_threads cs);
  grouping = λ cs. ap grouping_by (no_statics cs);
}
