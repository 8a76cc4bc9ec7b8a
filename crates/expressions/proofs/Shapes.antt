-- The readers of the definitions, unfolded by what stands at a place: a lead, a sign between terms or factors, the beginning of a factor.
use mathlib.Core.Path.{◌≡◌, refl, sym, ◌∙◌, ap, subst}
use mathlib.Core.Bool.{Bool, true, false, cond, ◌&&◌, ◌||◌}
use mathlib.Core.List.{List, [], ◌∷◌}
use Prim.Native.Nat.{ℕ, zero, suc}
use native.Mathlib.Omega.{arith}
use borrow.Author.Tests.{eqb-true, eq-eqb, ne_eqb}
use lib.Dec.{eqb}
use lib.ListN.{drop}
use denote.Enum.Bare.{sameb}
use Rattle.std.specs.Prelude.{Option, Some, None}
use Rattle.syntax.specs.declared.Function.TheVariants.{Rdiv, Max}
use Rattle.syntax.specs.Bytes.{choose, bytes, same, sign}
use Rattle.syntax.specs.Grammar.{Lead, bare, plus, minus, expr, Factor, literal, cell, brackets, Ref, single, element, Subscripts}
use Rattle.syntax.specs.Reader.{Parsed, broken, done, next, is, kind, text, is_digits, says, expects, peek_in, skip_in, read_lead, read_expr, read_terms, read_term, read_factor, read_ref}
use Rattle.syntax.proofs.Spelling.{is_true}
use Rattle.expressions.specs.Readers.{read_arguments, read_indices}
use Rattle.parts.specs.Parts.{skipped, Passes, stands, either, joined, chosen, lead_by, Joins, begins}
use Rattle.parts.specs.declared.Joint.{Joint}
use Rattle.parts.specs.declared.Joint.TheVariants.{Neither, First, Second}
use Rattle.parts.specs.contracts.Joint.{the_type}
use Rattle.parts.specs.declared.Joined.{Joined}
use Rattle.parts.specs.declared.Beginning.{Beginning}
use Rattle.parts.specs.declared.Beginning.TheVariants.{Literal, Bracket, Call, Name, Element}

-- ---- a lead, and terms

lead_shape : (s : List ℕ) (at : ℕ) (r : Joined) → Joins 43 45 s at r → read_lead peek_in skip_in (drop at s) ≡ done (lead_by r.joint) (drop r.next s)
lead_shape s at r j =
    go (stands 43 (drop at s)) (stands 45 (drop at s))
    ∙ ap (λ (w : Joint). done (lead_by w) (skipped (joined w) (drop at s))) (sym j.joint) ∙ ap (done (lead_by r.joint)) (sym j.next.left)
  where
    go : (p q : Bool) → cond p (done plus (skip_in (drop at s)))
        (cond q (done minus (skip_in (drop at s))) (done bare (drop at s))) ≡ done (lead_by (either p q)) (skipped (joined (either p q)) (drop at s))
    go true q = refl
    go false true = refl
    go false false = refl

pub expr_shape : (s : List ℕ) (at : ℕ) (r : Joined) → Joins 43 45 s at r → (f : ℕ) → read_expr peek_in skip_in (suc f) (drop at s)
    ≡ next (read_term peek_in skip_in f (drop r.next s)) (λ t v. next (read_terms peek_in skip_in f v) (λ ts w. done (expr (lead_by r.joint) t ts) w))
unfolding read_expr
expr_shape s at r j f =
    ap (λ (l : Parsed (List ℕ) Lead). next l (λ l u. next (read_term peek_in skip_in f u) (λ t v. next (read_terms peek_in skip_in f v)
    (λ ts w. done (expr l t ts) w))))
    (lead_shape s at r j)

-- ---- a sign between two

-- the code's test of it
pub is_neither : (j : Joint) → sameb the_type j Neither ≡ true → j ≡ Neither
is_neither Neither e = refl
is_neither First e = absurd (let z : ◌≡◌ {A = ℕ} 0 1 = cc in omega arith)
is_neither Second e = absurd (let z : ◌≡◌ {A = ℕ} 0 1 = cc in omega arith)

pub is_sign : (j : Joint) → sameb the_type j Neither ≡ false → joined j ≡ 1
is_sign Neither e = absurd (let z : ◌≡◌ {A = ℕ} 0 1 = cc in omega arith)
is_sign First e = refl
is_sign Second e = refl

module _ (a b : ℕ) (s : List ℕ) (at : ℕ) (r : Joined) (j : Joins a b s at r) where
  pub no_sign : r.joint ≡ Neither → stands a (drop at s) || stands b (drop at s) ≡ false
  no_sign z = go (stands a (drop at s)) (stands b (drop at s)) (sym j.joint ∙ z)
    where
      go : (p q : Bool) → either p q ≡ Neither → p || q ≡ false
      go true q h = absurd (let z : ◌≡◌ {A = ℕ} 0 1 = cc in omega arith)
      go false true h = absurd (let z : ◌≡◌ {A = ℕ} 0 1 = cc in omega arith)
      go false false h = refl

  pub neither_stands : r.joint ≡ Neither → (stands a (drop at s) ≡ false) × (stands b (drop at s) ≡ false)
  neither_stands z = go (stands a (drop at s)) (stands b (drop at s)) (sym j.joint ∙ z)
    where
      go : (p q : Bool) → either p q ≡ Neither → (p ≡ false) × (q ≡ false)
      go true q h = absurd (let z : ◌≡◌ {A = ℕ} 0 1 = cc in omega arith)
      go false true h = absurd (let z : ◌≡◌ {A = ℕ} 0 1 = cc in omega arith)
      go false false h = (refl, refl)

  pub first_stands : r.joint ≡ First → (stands a (drop at s) ≡ true) × Passes 1 s at r.next
  first_stands z =
      (go (stands a (drop at s)) (stands b (drop at s)) (sym j.joint ∙ z), subst (λ (w : Joint). Passes (joined w) s at r.next) z j.next)
    where
      go : (p q : Bool) → either p q ≡ First → p ≡ true
      go true q h = refl
      go false true h = absurd (let z : ◌≡◌ {A = ℕ} 0 1 = cc in omega arith)
      go false false h = absurd (let z : ◌≡◌ {A = ℕ} 0 1 = cc in omega arith)

  pub second_stands : r.joint ≡ Second → (stands a (drop at s) ≡ false) × (stands b (drop at s) ≡ true) × Passes 1 s at r.next
  second_stands z =
      let g = go (stands a (drop at s)) (stands b (drop at s)) (sym j.joint ∙ z) in
      (g.0, g.1, subst (λ (w : Joint). Passes (joined w) s at r.next) z j.next)
    where
      go : (p q : Bool) → either p q ≡ Second → (p ≡ false) × (q ≡ true)
      go true q h = absurd (let z : ◌≡◌ {A = ℕ} 0 1 = cc in omega arith)
      go false true h = (refl, refl)
      go false false h = absurd (let z : ◌≡◌ {A = ℕ} 0 1 = cc in omega arith)

  -- the second sign is not the first
  pub some_sign : same (b ∷ []) (a ∷ []) ≡ false → joined r.joint ≡ 1
      → (stands a (drop at s) || stands b (drop at s) ≡ true) × (stands b (drop at s) ≡ chosen r.joint false true) × Passes 1 s at r.next
  some_sign d z =
      let p : stands a (drop at s) ≡ true → stands b (drop at s) ≡ false = λ h. ap (is (sign (b ∷ []))) (is_true (sign (a ∷ [])) (peek_in (drop at s)) h) ∙ d in
      let g = go (stands a (drop at s)) (stands b (drop at s)) p (sym (ap joined j.joint) ∙ z) in
      (g.0, g.1 ∙ ap (λ (w : Joint). chosen w false true) (sym j.joint), subst (λ (n : ℕ). Passes n s at r.next) z j.next)
    where
      go : (p q : Bool) → (p ≡ true → q ≡ false) → joined (either p q) ≡ 1 → (p || q ≡ true) × (q ≡ chosen (either p q) false true)
      go true q h z = (refl, h refl)
      go false true h z = (refl, refl)
      go false false h z = absurd (omega arith)

-- ---- how a factor begins

-- by the tests of the definition
abbrev begins_as : Bool → Bool → Bool → Bool → Bool → Bool → Option Beginning
begins_as n o r m p k =
    cond n (Some Literal)
    (cond o (Some Bracket)
    (cond r (cond p (Some (Call Rdiv)) None) (cond m (cond p (Some (Call Max)) None) (cond k (cond p (Some Element) (Some Name)) None))))

-- a name begins with nothing else
name_begins : (u : List ℕ) → kind (peek_in u) ≡ 1 → begins u ≡ cond (stands 40 (skip_in u)) (Some Element) (Some Name)
name_begins u e =
    ap (λ (k : ℕ). begins_as (eqb k 3) (eqb 4 k && same (40 ∷ []) (text (peek_in u))) (eqb 2 k && same (bytes "rdiv") (text (peek_in u)))
    (eqb 2 k && same (bytes "max") (text (peek_in u))) (stands 40 (skip_in u)) (eqb k 1))
    e

-- and whatever begins like a name is one
abbrev pub named : Option Beginning → Bool
named None = false
named (Some Literal) = false
named (Some Bracket) = false
named (Some (Call f)) = false
named (Some Name) = true
named (Some Element) = true

abbrev counted : Option Beginning → Bool
counted None = false
counted (Some Literal) = true
counted (Some Bracket) = false
counted (Some (Call f)) = false
counted (Some Name) = false
counted (Some Element) = false

clash : {X : Type 0} → false ≡ true → X
clash h = absurd (let z : ◌≡◌ {A = ℕ} 0 1 = cc in omega arith)

pub begins_kind : (u : List ℕ) → named (begins u) ≡ true → kind (peek_in u) ≡ 1
begins_kind u h = eqb-true (kind (peek_in u)) 1
    (go (is_digits peek_in skip_in u) (stands 40 u) (says peek_in skip_in "rdiv" u) (says peek_in skip_in "max" u) (stands 40 (skip_in u))
    (eqb (kind (peek_in u)) 1) h)
  where
    go : (n o r m p k : Bool) → named (begins_as n o r m p k) ≡ true → k ≡ true
    go true o r m p k h = clash h
    go false true r m p k h = clash h
    go false false true m true k h = clash h
    go false false true m false k h = clash h
    go false false false true true k h = clash h
    go false false false true false k h = clash h
    go false false false false p true h = refl
    go false false false false p false h = clash h

pub begins_digits : (u : List ℕ) → begins u ≡ Some Literal → kind (peek_in u) ≡ 3
begins_digits u h = eqb-true (kind (peek_in u)) 3
    (go (is_digits peek_in skip_in u) (stands 40 u) (says peek_in skip_in "rdiv" u) (says peek_in skip_in "max" u) (stands 40 (skip_in u))
    (eqb (kind (peek_in u)) 1) (ap counted h))
  where
    go : (n o r m p k : Bool) → counted (begins_as n o r m p k) ≡ true → n ≡ true
    go true o r m p k h = refl
    go false true r m p k h = clash h
    go false false true m true k h = clash h
    go false false true m false k h = clash h
    go false false false true true k h = clash h
    go false false false true false k h = clash h
    go false false false false true true h = clash h
    go false false false false false true h = clash h
    go false false false false p false h = clash h

-- what follows a name
module _ (u : List ℕ) where
  abbrev subscript : ℕ → Bool → Parsed (List ℕ) Ref
  subscript f p =
      choose p
      (λ _. next (read_indices f (skip_in (skip_in u))) (λ i v. done (element (text (peek_in u)) i) v))
      (λ _. done (single (text (peek_in u))) (skip_in u))

  ref_named : (f : ℕ) (k : Bool) → eqb (kind (peek_in u)) 1 ≡ k → read_ref peek_in skip_in (suc f) u ≡ cond k (subscript f (stands 40 (skip_in u))) broken
  unfolding read_expr
  ref_named f k e = go (eqb (kind (peek_in u)) 1) ∙ ap (λ (k : Bool). cond k (subscript f (stands 40 (skip_in u))) broken) e
    where
      go : (k : Bool) → next (cond k (done (text (peek_in u)) (skip_in u)) broken)
          (λ x v. choose (stands 40 v)
          (λ _. next (read_indices f (skip_in v)) (λ i w. done (element x i) w))
          (λ _. done (single x) v)) ≡ cond k (subscript f (stands 40 (skip_in u))) broken
      go true = refl
      go false = refl

  ref_begun : (f : ℕ) → named (begins u) ≡ true → read_ref peek_in skip_in (suc f) u ≡ subscript f (stands 40 (skip_in u))
  ref_begun f h = ref_named f true (eq-eqb _ 1 (begins_kind u h))

  begun_by : (b : Option Beginning) → named b ≡ true → begins u ≡ b → cond (stands 40 (skip_in u)) (Some Element) (Some Name) ≡ b
  begun_by b h e = sym (name_begins u (begins_kind u (ap named e ∙ h))) ∙ e

  pub ref_name : (f : ℕ) → begins u ≡ Some Name → read_ref peek_in skip_in (suc f) u ≡ done (single (text (peek_in u))) (skip_in u)
  ref_name f e = ref_begun f (ap named e) ∙ ap (subscript f) (go (stands 40 (skip_in u)) (begun_by (Some Name) refl e))
    where
      go : (p : Bool) → cond p (Some Element) (Some Name) ≡ Some Name → p ≡ false
      go true h = absurd (let z : ◌≡◌ {A = ℕ} 0 1 = cc in omega arith)
      go false h = refl

  pub ref_element : (f : ℕ) → begins u ≡ Some Element
      → read_ref peek_in skip_in (suc f) u
      ≡ next (read_indices f (skip_in (skip_in u))) (λ i v. done (element (text (peek_in u)) i) v)
  ref_element f e = ref_begun f (ap named e) ∙ ap (subscript f) (go (stands 40 (skip_in u)) (begun_by (Some Element) refl e))
    where
      go : (p : Bool) → cond p (Some Element) (Some Name) ≡ Some Element → p ≡ true
      go true h = refl
      go false h = absurd (let z : ◌≡◌ {A = ℕ} 0 1 = cc in omega arith)

  no_name : (f : ℕ) → eqb (kind (peek_in u)) 1 ≡ false → read_ref peek_in skip_in f u ≡ broken
  unfolding read_expr
  no_name zero e = refl
  no_name (suc f) e = ref_named f false e

  pub ref_none : (f : ℕ) → named (begins u) ≡ false → read_ref peek_in skip_in f u ≡ broken
  ref_none f n = no_name f (ne_eqb _ 1 (λ e. go (stands 40 (skip_in u)) (sym n ∙ ap named (name_begins u e))))
    where
      go : (p : Bool) → false ≡ named (cond p (Some Element) (Some Name)) → ⊥
      go true h = clash h
      go false h = clash h

-- a factor, where there is fuel for what it begins with
abbrev pub shape : Option Beginning → ℕ → List ℕ → Parsed (List ℕ) Factor
shape None f u = broken
shape (Some Literal) f u = done (literal (text (peek_in u))) (skip_in u)
shape (Some Bracket) f u = next (read_expr peek_in skip_in f (skip_in u)) (λ e v. next (expects peek_in skip_in ")" v) (λ _ w. done (brackets e) w))
shape (Some (Call g)) f u = read_arguments g f (skip_in (skip_in u))
shape (Some Name) f u = next (read_ref peek_in skip_in f u) (λ r v. done (cell r) v)
shape (Some Element) f u = next (read_ref peek_in skip_in f u) (λ r v. done (cell r) v)

pub factor_shape : (f : ℕ) (u : List ℕ) → read_factor peek_in skip_in (suc f) u ≡ shape (begins u) f u
unfolding read_expr
factor_shape f u =
    go (is_digits peek_in skip_in u) (stands 40 u) (says peek_in skip_in "rdiv" u) (says peek_in skip_in "max" u) (stands 40 (skip_in u))
    (eqb (kind (peek_in u)) 1) (no_name u f)
  where
    go : (n o r m p k : Bool) → (k ≡ false → read_ref peek_in skip_in f u ≡ broken)
        → choose n (λ _. next (cond n (done (text (peek_in u)) (skip_in u)) broken) (λ d v. done (literal d) v)) (λ _.
        choose o (λ _. next (read_expr peek_in skip_in f (skip_in u)) (λ e v. next (expects peek_in skip_in ")" v) (λ _ w. done (brackets e) w))) (λ _.
        choose r (λ _. next (cond p (done (tt {0}) (skip_in (skip_in u))) broken) (λ _. read_arguments Rdiv f)) (λ _.
        choose m (λ _. next (cond p (done (tt {0}) (skip_in (skip_in u))) broken) (λ _. read_arguments Max f)) (λ _.
        next (read_ref peek_in skip_in f u) (λ r v. done (cell r) v)))))
        ≡ shape (begins_as n o r m p k) f u
    go true o r m p k h = refl
    go false true r m p k h = refl
    go false false true m true k h = refl
    go false false true m false k h = refl
    go false false false true true k h = refl
    go false false false true false k h = refl
    go false false false false true true h = refl
    go false false false false false true h = refl
    go false false false false p false h = ap (λ (P : Parsed (List ℕ) Ref). next P (λ r v. done (cell r) v)) (h refl)

-- an element, as a factor
pub element_shape : (f : ℕ) (u : List ℕ) → begins u ≡ Some Element
    → shape (Some Element) (suc f) u ≡ next (read_indices f (skip_in (skip_in u))) (λ i v. done (cell (element (text (peek_in u)) i)) v)
element_shape f u e = ap (λ (P : Parsed (List ℕ) Ref). next P (λ r v. done (cell r) v)) (ref_element u f e) ∙ go (read_indices f (skip_in (skip_in u)))
  where
    go : (P : Parsed (List ℕ) Subscripts) → next (next P (λ i v. done (element (text (peek_in u)) i) v)) (λ r v. done (cell r) v)
        ≡ next P (λ i v. done (cell (element (text (peek_in u)) i)) v)
    go broken = refl
    go (done i v) = refl
