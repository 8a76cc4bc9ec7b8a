-- The code of an expression does what the expression does, and its value is then pending. Inside n brackets at most 5 + 3 n values are pending
-- around an expression (the left of a sum, the left of a product and the dividend or the first subscript for each bracket), so 8 brackets leave room
-- among 32.
use mathlib.Core.Path.{◌≡◌, refl, ◌∙◌, ap, fun_ext}
use mathlib.Core.Bool.{Bool, true, false, cond}
use mathlib.Core.List.{List, [], ◌∷◌, ◌++◌, append_assoc}
use Prim.Native.Nat.{ℕ, suc, ◌+◌, ◌-◌, ◌*◌, min, ◌≤◌, ◌<◌}
use native.Mathlib.Omega.{arith}
use lib.ListN.{length}
use lib.IntN.{ℤ, pos}
use borrow.Author.Tests.{lt-ltb, le-leb, leb-true}
use Rattle.int32.specs.Integers.{value, sum, difference, product, quotient}
use Rattle.int32.proofs.Laws.{value_cases}
use Rattle.rules.specs.Loop.{Act, read}
use Rattle.syntax.specs.declared.Function.{Function}
use Rattle.syntax.specs.declared.Function.TheVariants.{Rdiv, Max}
use Rattle.syntax.specs.Bytes.{choose, all, same}
use Rattle.syntax.specs.Grammar.{number, Lead, bare, plus, minus, Expr, expr, Terms, no_terms, terms, Term, term, Factors, no_factors, factors, Factor, literal, cell, call, brackets, Ref, single, element, Subscripts, subscript, subscripts}
use Rattle.syntax.specs.Known.{Entry, rows, columns, find}
use Rattle.syntax.specs.Conditions.{opens, mentions, in_terms, in_term, in_factors, in_factor, in_ref, in_subscripts, small}
use Rattle.syntax.specs.Meaning.{led, located, divides, called, is_variable, eval, eval_terms, eval_term, eval_factors, eval_factor, place, subscripted_cell}
use Rattle.syntax.proofs.Spelling.{both_true}
use Rattle.syntax.proofs.TestLaws.{both_hold, all_parts}
use Rattle.syntax.proofs.Placing.{in_grid_alike}
use Rattle.code.specs.Instr.{Instr, push, push_v, load, add, subtract, multiply, divide, flatten, room, with1, with2, perform, resume}
use Rattle.code.specs.Compile.{code_lead, calls, reads, code, code_terms, code_term, code_factors, code_factor, code_ref, code_subscripts}

room_left : (s : List ℤ) (a : Act) → length s < 32 → room s a ≡ a
unfolding room
room_left s a h = rw (lt-ltb (length s) 32 h)

-- code in parts, the first to be done first
pub resume_assoc : (a b rest : List Instr) (s : List ℤ) (x : ℤ) → resume ((a ++ b) ++ rest) 0 s x ≡ resume (a ++ (b ++ rest)) 0 s x
resume_assoc a b rest s x = ap (λ (is : List Instr). resume is 0 s x) (append_assoc a b rest)

pub resume_assoc₂ : (a b c rest : List Instr) (s : List ℤ) (x : ℤ) → resume (((a ++ b) ++ c) ++ rest) 0 s x ≡ resume (a ++ (b ++ (c ++ rest))) 0 s x
resume_assoc₂ a b c rest s x = resume_assoc (a ++ b) c rest s x ∙ resume_assoc a b (c ++ rest) s x

-- ---- a grid's two subscripts made one

-- the place that was found is inside
located_inside : (line first size c : ℕ) (k : ℕ → Act) → c < size → located line first size (pos (suc c)) k ≡ k (first + c)
unfolding located
located_inside line first size c k h =
    let d : suc c - 1 ≡ c = omega arith in
    rw (both_hold (le-leb 1 (suc c) (omega arith)) (le-leb (suc c) size h), d)

-- ---- single instructions

module _ (x : ℤ) (rest : List Instr) (s : List ℤ) where
  resume_lead : (l : Lead) (y : ℤ) → resume (code_lead l ++ rest) 0 (y ∷ s) x ≡ resume rest 0 (led l y ∷ s) x
  unfolding resume perform with1
  resume_lead bare y = refl
  resume_lead plus y = refl
  resume_lead minus y = refl

  resume_sum : (minus? : Bool) (y z : ℤ)
      → resume (cond minus? subtract add ∷ rest) 0 (z ∷ y ∷ s) x ≡ resume rest 0 (cond minus? (difference y z) (sum y z) ∷ s) x
  unfolding resume perform with2
  resume_sum true y z = refl
  resume_sum false y z = refl

  resume_product : (line : ℕ) (over? : Bool) (y z : ℤ) (k : ℤ → Act) → ((q : ℤ) → resume rest 0 (q ∷ s) x ≡ k q)
      → resume (cond over? (divide line) multiply ∷ rest) 0 (z ∷ y ∷ s) x ≡ choose over? (λ _. divides line quotient y z k) (λ _. k (product y z))
  unfolding resume perform with2
  resume_product line true y z k h = ap (divides line quotient y z) (fun_ext h)
  resume_product line false y z k h = h (product y z)

  resume_call : (line : ℕ) (f : Function) (y z : ℤ) → resume (calls line f ∷ rest) 0 (z ∷ y ∷ s) x ≡ called line f y z (λ w. resume rest 0 (w ∷ s) x)
  unfolding resume perform with2 called
  resume_call line Rdiv y z = refl
  resume_call line Max y z = refl

  resume_variable : (v? : Bool) (c : ℕ) → length s < 32
      → resume (cond v? push_v (load c) ∷ rest) 0 s x ≡ choose v? (λ _. resume rest 0 (x ∷ s) x) (λ _. read c (λ y. resume rest 0 (y ∷ s) x))
  unfolding resume perform
  resume_variable true c h = room_left s _ h
  resume_variable false c h = room_left s _ h

  resume_literal : (d : List ℕ) → number d ≤ 2147483647 → length s < 32
      → resume (push (min (number d) 2147483648) ∷ rest) 0 s x ≡ resume rest 0 (pos (number d) ∷ s) x
  unfolding resume perform
  resume_literal d h k =
      let e : min (number d) 2147483648 ≡ number d = omega arith in
      let w : value (number d) ≡ pos (number d) = value_cases (λ z. z ≡ pos (number d)) (number d) (λ _. refl) (λ b. absurd (omega arith)) in
      rw e (rw w (room_left s _ k))

-- ---- expressions

-- `whole`: the place that is made of a grid's subscripts is one of its cells
module _ (t : List Entry) (v : List ℕ) (x : ℤ) (line : ℕ) (whole : (y : List ℕ) → rows (find y t) * columns (find y t) ≤ (find y t).size) where
  mutual
    unfolding mentions in_terms in_term in_factors in_factor in_ref in_subscripts code code_terms code_term code_factors code_factor code_ref code_subscripts eval eval_terms eval_term eval_factors eval_factor place subscripted_cell resume perform with1 with2

    pub resume_expr : (n : ℕ) (e : Expr) (rest : List Instr) (s : List ℤ) → n ≤ 8 → all small (mentions n e) ≡ true → length s ≤ 5 + 3 * n
        → resume (code t v line e ++ rest) 0 s x ≡ eval t v x line e (λ y. resume rest 0 (y ∷ s) x)
    resume_expr n (expr l a as') rest s b h d =
        let (p, q) = all_parts small (in_term n a) (in_terms n as') h in
        resume_assoc₂ (code_term t v line a) (code_lead l) (code_terms t v line as') rest s x
        ∙ resume_term n a _ s b p (omega arith)
        ∙ ap (eval_term t v x line a) (fun_ext (λ y. resume_lead x _ s l y ∙ resume_terms n as' rest (led l y) s b q d))

    resume_terms : (n : ℕ) (as' : Terms) (rest : List Instr) (y : ℤ) (s : List ℤ) → n ≤ 8 → all small (in_terms n as') ≡ true → length s ≤ 5 + 3 * n
        → resume (code_terms t v line as' ++ rest) 0 (y ∷ s) x ≡ eval_terms t v x line as' y (λ z. resume rest 0 (z ∷ s) x)
    resume_terms n no_terms rest y s b h d = refl
    resume_terms n (terms o a as') rest y s b h d =
        let (p, q) = all_parts small (in_term n a) (in_terms n as') h in
        resume_assoc₂ (code_term t v line a) (cond o subtract add ∷ []) (code_terms t v line as') rest (y ∷ s) x
        ∙ resume_term n a _ (y ∷ s) b p (omega arith)
        ∙ ap (eval_term t v x line a) (fun_ext (λ z. resume_sum x (code_terms t v line as' ++ rest) s o y z ∙ resume_terms n as' rest _ s b q d))

    resume_term : (n : ℕ) (a : Term) (rest : List Instr) (s : List ℤ) → n ≤ 8 → all small (in_term n a) ≡ true → length s ≤ 6 + 3 * n
        → resume (code_term t v line a ++ rest) 0 s x ≡ eval_term t v x line a (λ y. resume rest 0 (y ∷ s) x)
    resume_term n (term f fs) rest s b h d =
        let (p, q) = all_parts small (in_factor n f) (in_factors n fs) h in
        resume_assoc (code_factor t v line f) (code_factors t v line fs) rest s x
        ∙ resume_factor n f _ s b p (omega arith)
        ∙ ap (eval_factor t v x line f) (fun_ext (λ y. resume_factors n fs rest y s b q d))

    resume_factors : (n : ℕ) (fs : Factors) (rest : List Instr) (y : ℤ) (s : List ℤ) → n ≤ 8 → all small (in_factors n fs) ≡ true → length s ≤ 6 + 3 * n
        → resume (code_factors t v line fs ++ rest) 0 (y ∷ s) x ≡ eval_factors t v x line fs y (λ z. resume rest 0 (z ∷ s) x)
    resume_factors n no_factors rest y s b h d = refl
    resume_factors n (factors o f fs) rest y s b h d =
        let (p, q) = all_parts small (in_factor n f) (in_factors n fs) h in
        resume_assoc₂ (code_factor t v line f) (cond o (divide line) multiply ∷ []) (code_factors t v line fs) rest (y ∷ s) x
        ∙ resume_factor n f _ (y ∷ s) b p (omega arith)
        ∙ ap (eval_factor t v x line f)
        (fun_ext (λ z. resume_product x (code_factors t v line fs ++ rest) s line o y z _ (λ w. resume_factors n fs rest w s b q d)))

    resume_factor : (n : ℕ) (f : Factor) (rest : List Instr) (s : List ℤ) → n ≤ 8 → all small (in_factor n f) ≡ true → length s ≤ 7 + 3 * n
        → resume (code_factor t v line f ++ rest) 0 s x ≡ eval_factor t v x line f (λ y. resume rest 0 (y ∷ s) x)
    resume_factor n (literal d) rest s b h l = resume_literal x rest s d (leb-true (number d) 2147483647 (both_true _ true h).0) (omega arith)
    resume_factor n (cell r) rest s b h l = resume_assoc (code_ref t v line r) (reads t v line r ∷ []) rest s x ∙ resume_read n r rest s b h l
    resume_factor n (call f a c) rest s b h l =
        let (o, m) = both_true (small (opens (suc n))) _ h in
        let (p, q) = all_parts small (mentions (suc n) a) (mentions (suc n) c) m in
        let k = leb-true (suc n) 8 o in
        resume_assoc₂ (code t v line a) (code t v line c) (calls line f ∷ []) rest s x
        ∙ resume_expr (suc n) a _ s k p (omega arith)
        ∙ ap (eval t v x line a) (fun_ext (λ y. resume_expr (suc n) c (calls line f ∷ rest) (y ∷ s) k q (omega arith)
        ∙ ap (eval t v x line c) (fun_ext (λ z. resume_call x rest s line f y z))))
    resume_factor n (brackets e) rest s b h l =
        let (o, m) = both_true (small (opens (suc n))) (all small (mentions (suc n) e)) h in
        resume_expr (suc n) e rest s (leb-true (suc n) 8 o) m (omega arith)

    resume_read : (n : ℕ) (r : Ref) (rest : List Instr) (s : List ℤ) → n ≤ 8 → all small (in_ref n r) ≡ true → length s ≤ 7 + 3 * n
        → resume (code_ref t v line r ++ (reads t v line r ∷ rest)) 0 s x
        ≡ choose (is_variable t v x r) (λ _. resume rest 0 (x ∷ s) x) (λ _. place t v x line r (λ c. read c (λ y. resume rest 0 (y ∷ s) x)))
    resume_read n (single y) rest s b h l = resume_variable x rest s (same y v) (find y t).first (omega arith)
    resume_read n (element y is) rest s b h l =
        let (o, m) = both_true (small (opens (suc n))) (all small (in_subscripts (suc n) is)) h in
        resume_subscripts (suc n) y is _ s (λ c. read c (λ z. resume rest 0 (z ∷ s) x)) (leb-true (suc n) 8 o) m (omega arith) (λ i. refl)

    -- what is done with the subscript that is then pending: of a grid's two it is the place that is made of them
    pub resume_subscripts : (n : ℕ) (y : List ℕ) (is : Subscripts) (rest : List Instr) (s : List ℤ) (k : ℕ → Act) → n ≤ 8 → all small (in_subscripts n is) ≡ true
        → length s ≤ 4 + 3 * n
        → ((i : ℤ) → resume rest 0 (i ∷ s) x ≡ located line (find y t).first (find y t).size i k)
        → resume (code_subscripts t v line (find y t) is ++ rest) 0 s x ≡ subscripted_cell t v x line (find y t) is k
    resume_subscripts n y (subscript e) rest s k b h l g = resume_expr n e rest s b h (omega arith) ∙ ap (eval t v x line e) (fun_ext g)
    resume_subscripts n y (subscripts e f) rest s k b h l g =
        let (p, q) = all_parts small (mentions n e) (mentions n f) h in
        let i = flatten (rows (find y t)) (columns (find y t)) line in
        resume_assoc₂ (code t v line e) (code t v line f) (i ∷ []) rest s x
        ∙ resume_expr n e _ s b p (omega arith)
        ∙ ap (eval t v x line e) (fun_ext (λ z.
        resume_expr n f (i ∷ rest) (z ∷ s) b q (omega arith)
        ∙ ap (eval t v x line f) (fun_ext (λ w. in_grid_alike line 0 (find y t).first (rows (find y t)) (columns (find y t)) z w _ k (λ c d.
        let o : 0 + c ≡ c = omega arith in
        rw o (g (pos (suc c)) ∙ located_inside line (find y t).first (find y t).size c k (omega (arith, d, whole y))))))))
