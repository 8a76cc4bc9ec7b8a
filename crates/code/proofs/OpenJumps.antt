-- The code of lines of which some ifs are open: its last part follows the jump of the innermost, which is filled in when the part that it
-- passes over ends.
use mathlib.Core.Path.{◌≡◌, refl, sym, ◌∙◌, ap}
use mathlib.Core.List.{List, [], ◌∷◌, ◌++◌, append_assoc, append-nil}
use mathlib.Core.Option.{Option, none, some}
use Prim.Native.Nat.{ℕ, suc, ◌+◌, ◌-◌, ◌*◌, ◌<◌}
use native.Mathlib.Omega.{arith}
use lib.ListN.{length, get_or, set, length-append}
use lib.Seq.{set_at, get_or_at}
use Rattle.int32.specs.declared.Relation.{Relation}
use Rattle.syntax.specs.Grammar.{Expr, Ref}
use Rattle.syntax.specs.Known.{Entry, Stmts, stop, set as assignment, if_then, if_else, then_do, Open, turned, branched, closed, opened}
use Rattle.code.specs.Instr.{Instr, jump_unless, jump, end, operation, argument, words}
use Rattle.code.proofs.Words.{words_get_d, words_set}
use Rattle.code.specs.Compile.{code, code_assign, code_if, code_stmts, code_open, code_opens, code_lines}

-- ---- an instruction at place p of code c, with the code after it

pub record InstrAt (c : List Instr) (p : ℕ) (i : Instr) (d : List Instr) : Type 0 where
  pub front : List Instr
  pub parts : c ≡ front ++ (i ∷ d)
  pub place : length front ≡ p

module _ {c d : List Instr} {p : ℕ} {i : Instr} (h : InstrAt c p i d) where
  pub instr_length : length c ≡ p + suc (length d)
  instr_length = ap length h.parts ∙ length-append h.front (i ∷ d) ∙ ap (λ (n : ℕ). n + suc (length d)) h.place

  pub instr_there : get_or c p end ≡ i
  instr_there = ap (λ (l : List Instr). get_or l p end) h.parts ∙ get_or_at h.front i d end p h.place

  pub instr_set : (j : Instr) → set c p j ≡ h.front ++ (j ∷ d)
  instr_set j = ap (λ (l : List Instr). set l p j) h.parts ∙ set_at h.front i d j p h.place

-- ---- the jump of an `if`, or of its `else`, over n instructions

abbrev pub jump_of : Open → Option Stmts → ℕ → Instr
jump_of o none n = jump_unless o.relation n
jump_of o (some p) n = jump n

-- as the code is written: its words but for the distance
pub jump_of_operation : (o : Open) (f : Option Stmts) (m n : ℕ) → operation (jump_of o f m) ≡ operation (jump_of o f n)
jump_of_operation o none m n = refl
jump_of_operation o (some p) m n = refl

pub jump_of_argument : (o : Open) (f : Option Stmts) (n : ℕ) → argument (jump_of o f n) ≡ argument (jump_of o f 0) + 8 * n
jump_of_argument o none n = omega arith
jump_of_argument o (some p) n = omega arith

-- a jump over nothing is filled in by its argument's word
pub words_fill : {c d : List Instr} {p : ℕ} (o : Open) (f : Option Stmts) → InstrAt c p (jump_of o f 0) d → (n : ℕ)
    → set (words c) (2 * p + 1) (get_or (words c) (2 * p + 1) 0 + 8 * n) ≡ words (set c p (jump_of o f n))
words_fill {c} {d} {p} o f h n =
    let b : p < length c = omega (arith, instr_length h) in
    let a : get_or (words c) (2 * p + 1) 0 ≡ argument (jump_of o f 0) = (words_get_d c p b).1 ∙ ap argument (instr_there h) in
    let e : get_or (words c) (2 * p + 1) 0 + 8 * n ≡ argument (jump_of o f n) = ap (λ (w : ℕ). w + 8 * n) a ∙ sym (jump_of_argument o f n) in
    ap (set (words c) (2 * p + 1)) e ∙ words_set c p (jump_of o f n) b (ap operation (instr_there h) ∙ jump_of_operation o f 0 n)

module _ (t : List Entry) (v : List ℕ) where
  -- the code of an open `if` up to its jump
  abbrev up_to : Open → Option Stmts → List Instr
  up_to o none = code_stmts t v o.before ++ (code t v o.line o.left ++ code t v o.line o.right)
  up_to o (some p) = (code_stmts t v o.before ++ code_if t v o.line o.left o.relation o.right (suc (length (code_stmts t v p)))) ++ code_stmts t v p

  code_open_parts : (o : Open) (f : Option Stmts) → code_open t v o f ≡ up_to o f ++ (jump_of o f 0 ∷ [])
  code_open_parts o none = sym (append_assoc (code_stmts t v o.before) (code t v o.line o.left ++ code t v o.line o.right) _)
  code_open_parts o (some p) = refl

  pub innermost : (o : Open) (os : List Open) (inner : Stmts)
      → InstrAt (code_lines t v (o ∷ os) inner) (length (code_opens t v (o ∷ os)) - 1) (jump_of o o.first 0) (code_stmts t v inner)
  unfolding code_lines code_opens
  innermost o os inner = record {
    front = code_opens t v os ++ up_to o o.first;
    parts = ap (λ (l : List Instr). (code_opens t v os ++ l) ++ code_stmts t v inner) (code_open_parts o o.first) ∙ simp append_assoc;
    place = simp (code_open_parts o o.first, length-append) (omega arith);
  }

  -- ---- statements one after the other

  append_then : (i a b : List Instr) {c : List Instr} → c ≡ a ++ b → i ++ c ≡ (i ++ a) ++ b
  append_then i a b h = ap (◌++◌ i) h ∙ sym (append_assoc i a b)

  pub code_stmts_then : (a b : Stmts) → code_stmts t v (then_do a b) ≡ code_stmts t v a ++ code_stmts t v b
  unfolding code_stmts then_do
  code_stmts_then stop b = refl
  code_stmts_then (assignment k r e a) b = append_then (code_assign t v k r e) _ _ (code_stmts_then a b)
  code_stmts_then (if_then k x rel y p a) b = append_then (code_if t v k x rel y (length (code_stmts t v p)) ++ code_stmts t v p) _ _ (code_stmts_then a b)
  code_stmts_then (if_else k x rel y p q a) b =
      append_then
      (((code_if t v k x rel y (suc (length (code_stmts t v p))) ++ code_stmts t v p) ++ (jump (length (code_stmts t v q)) ∷ [])) ++ code_stmts t v q)
      _ _
      (code_stmts_then a b)

  -- ---- what each line adds

  pub lines_assign : (os : List Open) (inner : Stmts) (k : ℕ) (r : Ref) (e : Expr)
      → code_lines t v os (then_do inner (assignment k r e stop)) ≡ code_lines t v os inner ++ code_assign t v k r e
  unfolding code_lines code_stmts
  lines_assign os inner k r e =
      append_then (code_opens t v os) (code_stmts t v inner) (code_assign t v k r e)
      (code_stmts_then inner (assignment k r e stop) ∙ ap (◌++◌ (code_stmts t v inner)) (append-nil (code_assign t v k r e)))

  pub lines_when : (os : List Open) (inner : Stmts) (k : ℕ) (a : Expr) (rel : Relation) (b : Expr)
      → code_lines t v (opened k a rel b inner ∷ os) stop ≡ code_lines t v os inner ++ code_if t v k a rel b 0
  unfolding code_lines code_opens code_stmts
  lines_when os inner k a rel b = append-nil _ ∙ sym (append_assoc (code_opens t v os) (code_stmts t v inner) (code_if t v k a rel b 0))

  -- the code of an `if` that has ended
  branched_parts : (o : Open) (f : Option Stmts) (inner : Stmts)
      → code_stmts t v o.before ++ code_stmts t v (branched o f inner) ≡ up_to o f ++ (jump_of o f (length (code_stmts t v inner)) ∷ code_stmts t v inner)
  unfolding code_stmts
  branched_parts o none inner = simp (append_assoc, append-nil)
  branched_parts o (some p) inner = simp (append_assoc, append-nil)

  -- the code of an `if` whose `else` is met
  turned_parts : (o : Open) (inner : Stmts)
      → up_to (turned o inner) (some inner) ≡ up_to o none ++ (jump_of o none (suc (length (code_stmts t v inner))) ∷ code_stmts t v inner)
  turned_parts o inner = simp append_assoc

  module _ (o : Open) (os : List Open) (inner : Stmts) where
    -- the code so far and the place of the innermost jump
    abbrev so_far : List Instr
    so_far = code_lines t v (o ∷ os) inner

    abbrev at_jump : ℕ
    at_jump = length (code_opens t v (o ∷ os)) - 1

    -- the jump filled in
    jump_set : (f : Option Stmts) → o.first ≡ f → (j : Instr) → set so_far at_jump j ≡ (code_opens t v os ++ up_to o f) ++ (j ∷ code_stmts t v inner)
    unfolding innermost
    jump_set f e j = instr_set (innermost o os inner) j ∙ ap (λ (g : Option Stmts). (code_opens t v os ++ up_to o g) ++ (j ∷ code_stmts t v inner)) e

    -- `else`: the jump of the `if` passes over its part and over the jump that is added
    pub lines_otherwise : o.first ≡ none
        → code_lines t v (turned o inner ∷ os) stop ≡ set so_far at_jump (jump_of o none (length so_far - at_jump)) ++ (jump 0 ∷ [])
    unfolding code_lines code_opens code_stmts
    lines_otherwise e =
        let n : length so_far - at_jump ≡ suc (length (code_stmts t v inner)) = omega (arith, instr_length (innermost o os inner)) in
        append-nil _
        ∙ ap (λ (l : List Instr). code_opens t v os ++ (l ++ (jump 0 ∷ []))) (turned_parts o inner)
        ∙ regroup (code_opens t v os) (up_to o none) _ _
        ∙ sym (ap (λ (l : List Instr). l ++ (jump 0 ∷ [])) (ap (λ (m : ℕ). set so_far at_jump (jump_of o none m)) n ∙ jump_set none e _))
      where
        regroup : (a b c d : List Instr) → a ++ ((b ++ c) ++ d) ≡ ((a ++ b) ++ c) ++ d
        regroup a b c d = simp append_assoc

    -- `end if`: the jump passes over the part that ends
    pub lines_end_if : code_lines t v os (closed o inner) ≡ set so_far at_jump (jump_of o o.first (length so_far - (at_jump + 1)))
    unfolding code_lines
    lines_end_if =
        let n : length so_far - (at_jump + 1) ≡ length (code_stmts t v inner) = omega (arith, instr_length (innermost o os inner)) in
        ap (◌++◌ (code_opens t v os)) (code_stmts_then o.before (branched o o.first inner) ∙ branched_parts o o.first inner)
        ∙ sym (ap (λ (m : ℕ). set so_far at_jump (jump_of o o.first m)) n ∙ jump_set o.first refl _
        ∙ append_assoc (code_opens t v os) (up_to o o.first) _)
