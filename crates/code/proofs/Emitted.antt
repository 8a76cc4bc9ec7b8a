-- What each line of a text does to the code emitted so far, `code_of s`, and to the places of its open jumps: what a reader that emits code as it
-- goes has to do.
use mathlib.Core.Path.{◌≡◌, refl, sym, ◌∙◌, ap, subst₂}
use mathlib.Core.List.{List, [], ◌∷◌, ◌++◌, append-nil}
use mathlib.Core.Bool.{Bool, true, not}
use mathlib.Core.Option.{Option, none, some}
use Prim.Native.Nat.{ℕ, ◌+◌, ◌-◌}
use native.Mathlib.Omega.{arith}
use lib.ListN.{length, set, length-append, length-set}
use Rattle.int32.specs.declared.Relation.{Relation}
use Rattle.syntax.specs.Grammar.{Lead, Expr, Ref, assign, when, otherwise, end_if, loop, inside, end_do, close}
use Rattle.syntax.specs.Known.{Entry, Stmts, stop, Open, turned, opened, State, otherwise_after, end_if_after, after}
use Rattle.syntax.specs.Conditions.{is_given, may_follow, else_fits, none_open, stands}
use Rattle.syntax.proofs.Spelling.{both_true}
use Rattle.code.specs.Instr.{Instr, jump}
use Rattle.code.specs.Compile.{code_assign, code_if, code_stmts, code_opens, code_lines, places, code_of, places_of}
use Rattle.code.proofs.OpenJumps.{InstrAt, jump_of, innermost, lines_assign, lines_when, lines_otherwise, lines_end_if}

pub record Emits (u : State) (c : List Instr) (ps : List ℕ) : Type 0 where
  pub code : code_of u ≡ c
  pub places : places_of u ≡ ps

-- the innermost open jump is the last instruction of what was emitted up to its line
places_last : (t : List Entry) (v : List ℕ) (o : Open) (os : List Open) → places t v (o ∷ os) ≡ (length (code_lines t v (o ∷ os) stop) - 1) ∷ places t v os
unfolding places code_lines code_stmts
places_last t v o os = ap (λ (c : List Instr). (length c - 1) ∷ places t v os) (sym (append-nil (code_opens t v (o ∷ os))))

module _ (k : ℕ) (s : State) where
  pub emits_loop : (v : List ℕ) (l : Lead) (m : List ℕ) (j : Lead) (n : List ℕ) → Emits (after k (loop v l m j n) s) [] []
  unfolding after code_of code_lines code_opens code_stmts places
  emits_loop v l m j n = record { code = refl; places = refl }

  pub emits_assign : (r : Ref) (e : Expr) → Emits (after k (inside (assign r e)) s) (code_of s ++ code_assign s.table s.variable k r e) (places_of s)
  unfolding after code_of
  emits_assign r e = record { code = lines_assign s.table s.variable s.opens s.inner k r e; places = refl }

  pub emits_when : (a : Expr) (rel : Relation) (b : Expr)
      → let c = code_of s ++ code_if s.table s.variable k a rel b 0 in Emits (after k (inside (when a rel b)) s) c ((length c - 1) ∷ places_of s)
  unfolding after code_of
  emits_when a rel b =
      let e = lines_when s.table s.variable s.opens s.inner k a rel b in
      record {
        code = e;
        places = places_last s.table s.variable (opened k a rel b s.inner) s.opens ∙ ap (λ (c : List Instr). (length c - 1) ∷ places_of s) e;
      }

  pub emits_end_do : (j : Bool) → Emits (after k (end_do j) s) (code_of s) (places_of s)
  unfolding after code_of
  emits_end_do j = record { code = refl; places = refl }

  pub emits_close : Emits (after k close s) (code_of s) (places_of s)
  unfolding after code_of
  emits_close = record { code = refl; places = refl }

-- ---- the innermost open `if`

pub record Innermost (s : State) : Type 0 where
  pub branch : Open
  pub others : List Open
  pub opens : s.opens ≡ branch ∷ others

-- lines that need one
pub end_if_innermost : (s : State) (j : Bool) → stands s (inside (end_if j)) ≡ true → Innermost s
unfolding stands
end_if_innermost s j h = go s.opens refl (both_true (may_follow s.stage 5) (not (none_open s.opens)) h).1
  where
    go : (os : List Open) → s.opens ≡ os → not (none_open os) ≡ true → Innermost s
    go [] e k = let z : ◌≡◌ {A = ℕ} 0 1 = cc in absurd (omega arith)
    go (o ∷ os) e k = record { branch = o; others = os; opens = e }

pub otherwise_innermost : (s : State) → stands s (inside otherwise) ≡ true → (i : Innermost s) × (i.branch.first ≡ none)
unfolding stands
otherwise_innermost s h = go s.opens refl (both_true (may_follow s.stage 5) (else_fits s.opens) h).1
  where
    unmet : (f : Option Stmts) → not (is_given f) ≡ true → f ≡ none
    unmet none k = refl
    unmet (some p) k = let z : ◌≡◌ {A = ℕ} 0 1 = cc in absurd (omega arith)

    go : (os : List Open) → s.opens ≡ os → else_fits os ≡ true → (i : Innermost s) × (i.branch.first ≡ none)
    go [] e k = let z : ◌≡◌ {A = ℕ} 0 1 = cc in absurd (omega arith)
    go (o ∷ os) e k = (record { branch = o; others = os; opens = e }, unmet o.first k)

pub innermost_places : (s : State) (i : Innermost s)
    → places_of s ≡ (length (code_opens s.table s.variable (i.branch ∷ i.others)) - 1) ∷ places s.table s.variable i.others
unfolding places
innermost_places s i = ap (places s.table s.variable) i.opens

-- its jump stands at p
module _ (s : State) (i : Innermost s) (p : ℕ) (ps : List ℕ) (at : places_of s ≡ p ∷ ps) where
  abbrev o : Open
  o = i.branch

  code_is : code_lines s.table s.variable (o ∷ i.others) s.inner ≡ code_of s
  unfolding code_of
  code_is = ap (λ (l : List Open). code_lines s.table s.variable l s.inner) (sym i.opens)

  places_are : places s.table s.variable (o ∷ i.others) ≡ p ∷ ps
  places_are = ap (places s.table s.variable) (sym i.opens) ∙ at

  place_is : length (code_opens s.table s.variable (o ∷ i.others)) - 1 ≡ p
  unfolding places
  place_is = let e = places_are in cc

  others_are : places s.table s.variable i.others ≡ ps
  unfolding places
  others_are = let e = places_are in cc

  pub jump_at : InstrAt (code_of s) p (jump_of o o.first 0) (code_stmts s.table s.variable s.inner)
  jump_at =
      subst₂ (λ (c : List Instr) (q : ℕ). InstrAt c q (jump_of o o.first 0) (code_stmts s.table s.variable s.inner)) code_is place_is
      (innermost s.table s.variable o i.others s.inner)

  -- `else`: the jump of the `if` passes over its part and over the jump that is added
  pub emits_otherwise : (k : ℕ) → o.first ≡ none
      → Emits (after k (inside otherwise) s) (set (code_of s) p (jump_of o none (length (code_of s) - p)) ++ (jump 0 ∷ [])) (length (code_of s) ∷ ps)
  unfolding after code_of
  emits_otherwise k e = record {
    code = ap (λ (l : List Open). code_of (otherwise_after s l)) i.opens ∙ turned_code;
    places =
        ap (λ (l : List Open). places_of (otherwise_after s l)) i.opens
        ∙ places_last s.table s.variable (turned o s.inner) i.others
        ∙ (λ d. last d ∷ others_are d);
  }
    where
      turned_code : code_lines s.table s.variable (turned o s.inner ∷ i.others) stop
          ≡ set (code_of s) p (jump_of o none (length (code_of s) - p)) ++ (jump 0 ∷ [])
      turned_code =
          lines_otherwise s.table s.variable o i.others s.inner e
          ∙ (λ d. set (code_is d) (place_is d) (jump_of o none (length (code_is d) - place_is d)) ++ (jump 0 ∷ []))

      last : length (code_lines s.table s.variable (turned o s.inner ∷ i.others) stop) - 1 ≡ length (code_of s)
      last = rw (turned_code, length-append, length-set) (omega arith)

  -- `end if`: the jump passes over the part that ends
  pub emits_end_if : (k : ℕ) (j : Bool) → Emits (after k (inside (end_if j)) s) (set (code_of s) p (jump_of o o.first (length (code_of s) - (p + 1)))) ps
  unfolding after code_of
  emits_end_if k j = record {
    code =
        ap (λ (l : List Open). code_of (end_if_after s l)) i.opens
        ∙ lines_end_if s.table s.variable o i.others s.inner
        ∙ (λ d. set (code_is d) (place_is d) (jump_of o o.first (length (code_is d) - (place_is d + 1))));
    places = ap (λ (l : List Open). places_of (end_if_after s l)) i.opens ∙ others_are;
  }
