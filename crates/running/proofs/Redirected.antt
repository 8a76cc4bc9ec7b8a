-- Texts of the same lines but for the clauses of the directive. Where the names keep their classes, what is known of them differs in P and the grouping alone.
use mathlib.Core.Path.{◌≡◌, refl, sym, ◌∙◌, ap}
use mathlib.Core.Bool.{Bool, true, cond, ◌&&◌}
use mathlib.Core.Logic.{inl, inr}
use mathlib.Core.List.{List, [], ◌∷◌, map}
use Prim.Native.Nat.{ℕ, ◌+◌, ◌≤◌, ◌<◌}
use native.Mathlib.Omega.{arith}
use borrow.Author.Tests.{leb-true, eqb-true}
use lib.Dec.{eqb}
use lib.ListN.{length}
use Rattle.rules.specs.declared.Grouping.{Grouping}
use Rattle.syntax.specs.Grammar.{Clause, declare, give, direct, loop, assign, when, otherwise, end_if, inside, end_do, close}
use Rattle.syntax.specs.Known.{Entry, Open, State, nothing, with_class, threads_in, processors_by, statics_in, grouping_by, class_in, classify, heading, otherwise_after, end_if_after, after}
use Rattle.syntax.specs.Conditions.{several, may_miss, may_follow, stands}
use Rattle.syntax.specs.Follows.{Program, InOrder, learnt}
use Rattle.running.specs.Alike.{reclaused, redirected}
use Rattle.syntax.proofs.Spelling.{both_true}
use Rattle.syntax.proofs.TestLaws.{either_holds}
use Rattle.lines.proofs.Verdicts.{follows_most}

-- where a line stands
comes : (s : State) (n : ℕ) (f : Bool) → may_follow s.stage n && f ≡ true → may_follow s.stage n ≡ true
comes s n f h = (both_true (may_follow s.stage n) f h).0

not_again : (m : ℕ) → 3 ≤ m → may_follow m 3 ≡ true → ⊥
not_again m b h =
    let e : m ≡ 3 = omega (arith, follows_most m 3 h) in
    let z : ◌≡◌ {A = ℕ} 0 1 = ap (λ (x : Bool). cond x 1 0) (sym (ap (λ (j : ℕ). may_follow j 3) e) ∙ h) in omega arith

-- before the directive a line after it can't come yet
too_far : (m n : ℕ) → m < 3 → 4 ≤ n → may_follow m n ≡ true → ⊥
too_far m n a b h = elim (either_holds (eqb n (m + 1)) _ h) [
  | inl x ↦ omega (arith, eqb-true n (m + 1) x)
  | inr y ↦ elim (either_holds (several m && eqb n m) _ y) [
    | inl x ↦ omega (arith, eqb-true n m (both_true (several m) (eqb n m) x).1)
    | inr x ↦
        let (g, f) = both_true (may_miss (m + 1)) (eqb n (m + 2)) x in
        let e : m + 1 ≡ 3 = omega (arith, eqb-true n (m + 2) f) in
        let z : ◌≡◌ {A = ℕ} 0 1 = ap (λ (c : Bool). cond c 1 0) (sym (ap may_miss e) ∙ g) in
        omega arith
  ]
]

comes_once : (s : State) (cs : List Clause) → stands s (direct cs) ≡ true → 1 ≤ length (threads_in cs)
unfolding stands
comes_once s cs h =
    let f = (both_true (may_follow s.stage 3) _ h).1 in
    omega (arith, eqb-true (length (threads_in cs)) 1 (both_true (eqb (length (threads_in cs)) 1) _ f).0)

module _ (f : List Clause → List Clause) (P : ℕ → ℕ) (G : Grouping → Grouping) where
  -- the clauses give the same classes, and P and the grouping anew
  pub record Redirects : Type 0 where
    pub classes : (cs : List Clause) (x : List ℕ) → class_in (f cs) x ≡ class_in cs x
    pub processors : (cs : List Clause) → 1 ≤ length (threads_in cs) → processors_by (threads_in (f cs)) ≡ P (processors_by (threads_in cs))
    pub grouping : (cs : List Clause) → grouping_by (statics_in (f cs)) ≡ G (grouping_by (statics_in cs))

  -- after the directive
  late : (s : State) (p : Program) → 3 ≤ s.stage → InOrder s p → learnt (redirected P G s) (reclaused f p) ≡ redirected P G (learnt s p)
  unfolding learnt stands after
  late s [] b o = refl
  late s ((k, declare x xs) ∷ p) b o = absurd (omega (arith, follows_most s.stage 1 (comes s 1 _ o.0)))
  late s ((k, give x i is) ∷ p) b o = absurd (omega (arith, follows_most s.stage 2 (comes s 2 _ o.0)))
  late s ((k, direct cs) ∷ p) b o = absurd (not_again s.stage b (comes s 3 _ o.0))
  late s ((k, loop v l m j n) ∷ p) b o = late (after k (loop v l m j n) s) p (omega arith) o.3
  late s ((k, inside (assign r e)) ∷ p) b o = late (after k (inside (assign r e)) s) p (omega arith) o.3
  late s ((k, inside (when x r y)) ∷ p) b o = late (after k (inside (when x r y)) s) p (omega arith) o.3
  late s ((k, inside otherwise) ∷ p) b o =
      ap (λ (u : State). learnt u (reclaused f p)) (turned s.opens) ∙ late (otherwise_after s s.opens) p (stage s.opens) o.3
    where
      turned : (os : List Open) → otherwise_after (redirected P G s) os ≡ redirected P G (otherwise_after s os)
      turned [] = refl
      turned (x ∷ os) = refl

      stage : (os : List Open) → 3 ≤ (otherwise_after s os).stage
      stage [] = omega arith
      stage (x ∷ os) = omega arith
  late s ((k, inside (end_if j)) ∷ p) b o =
      ap (λ (u : State). learnt u (reclaused f p)) (turned s.opens) ∙ late (end_if_after s s.opens) p (stage s.opens) o.3
    where
      turned : (os : List Open) → end_if_after (redirected P G s) os ≡ redirected P G (end_if_after s os)
      turned [] = refl
      turned (x ∷ os) = refl

      stage : (os : List Open) → 3 ≤ (end_if_after s os).stage
      stage [] = omega arith
      stage (x ∷ os) = omega arith
  late s ((k, end_do j) ∷ p) b o = late (after k (end_do j) s) p (omega arith) o.3
  late s ((k, close) ∷ p) b o = late (after k close s) p (omega arith) o.3

  module _ (r : Redirects) where
    same_classes : (cs : List Clause) (t : List Entry) → map (classify (f cs)) t ≡ map (classify cs) t
    same_classes cs [] = refl
    same_classes cs (e ∷ t) = λ i. with_class (r.classes cs e.name i) e ∷ same_classes cs t i

    directed : (s : State) (cs : List Clause) → 1 ≤ length (threads_in cs)
        → heading 3 (map (classify (f cs)) s.table) (processors_by (threads_in (f cs))) (grouping_by (statics_in (f cs)))
        ≡ redirected P G (heading 3 (map (classify cs) s.table) (processors_by (threads_in cs)) (grouping_by (statics_in cs)))
    directed s cs h = λ i. heading 3 (same_classes cs s.table i) (r.processors cs h i) (r.grouping cs i)

    -- before it
    early : (s : State) (p : Program) → s.stage < 3 → InOrder s p → learnt s (reclaused f p) ≡ redirected P G (learnt s p)
    unfolding learnt stands after
    early s [] b o = absurd (omega (arith, leb-true 6 s.stage o))
    early s ((k, declare x xs) ∷ p) b o = early (after k (declare x xs) s) p (omega arith) o.3
    early s ((k, give x i is) ∷ p) b o = early (after k (give x i is) s) p (omega arith) o.3
    early s ((k, direct cs) ∷ p) b o =
        ap (λ (u : State). learnt u (reclaused f p)) (directed s cs (comes_once s cs o.0)) ∙ late (after k (direct cs) s) p (omega arith) o.3
    early s ((k, loop v l m j n) ∷ p) b o = absurd (too_far s.stage 4 b (omega arith) (comes s 4 _ o.0))
    early s ((k, inside t) ∷ p) b o = absurd (too_far s.stage 5 b (omega arith) (comes s 5 _ o.0))
    early s ((k, end_do j) ∷ p) b o = absurd (too_far s.stage 6 b (omega arith) (comes s 6 _ o.0))
    early s ((k, close) ∷ p) b o = absurd (too_far s.stage 7 b (omega arith) (comes s 7 _ o.0))

    pub relearnt : (p : Program) → InOrder nothing p → learnt nothing (reclaused f p) ≡ redirected P G (learnt nothing p)
    relearnt p o = early nothing p (omega arith) o
