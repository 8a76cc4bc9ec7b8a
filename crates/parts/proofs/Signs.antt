-- Tokens at a place of a line, as the code meets them: signs of one byte, which of two stands there, and how a factor begins.
use mathlib.Core.Path.{◌≡◌, refl, sym, ◌∙◌, ap, subst}
use mathlib.Core.Bool.{Bool, true, false, cond}
use mathlib.Core.List.{List, [], ◌∷◌}
use Prim.Native.Nat.{ℕ, ◌≤◌}
use Prim.Native.String.{String}
use native.Mathlib.Omega.{arith}
use borrow.Author.Tests.{eq-eqb, ne_eqb}
use lib.Dec.{eqb}
use lib.ListN.{length, drop}
use Rattle.std.specs.Prelude.{Option, Some, None}
use Rattle.syntax.specs.declared.Function.{Function}
use Rattle.syntax.specs.declared.Function.TheVariants.{Rdiv, Max}
use Rattle.syntax.specs.Bytes.{bytes, same, sign, kind_of, word_of}
use Rattle.syntax.specs.Reader.{kind, is_digits, says, peek_in, skip_in}
use Rattle.syntax.proofs.Spelling.{is_true}
use Rattle.lexer.specs.declared.Tok.{Tok}
use Rattle.lexer.specs.Lex.{part, kind_number, Lexed}
use Rattle.lexer.proofs.Said.{sees_said}
use Rattle.parts.specs.Parts.{Passes, Sign, stands, Joins, begins, called_at, Opens, Begins}
use Rattle.parts.specs.declared.Joint.TheVariants.{Neither, First, Second}
use Rattle.parts.specs.declared.Beginning.TheVariants.{Literal, Bracket, Call, Name, Element}
use Rattle.parts.specs.declared.Begun.{Begun}

-- ---- tokens passed over

pub passes_none : {s : List ℕ} {at : ℕ} → at ≤ length s → Passes 0 s at at
passes_none h = record { left = refl; from = omega arith; within = h }

module _ {s : List ℕ} {at : ℕ} {t : Tok} (l : Lexed s at t) where
  pub passes_token : (kind_number t.kind ≡ 0 → ⊥) → Passes 1 s at t.stop
  passes_token n = record { left = sym l.next; from = omega (arith, l.from, l.some (λ z. n (ap kind_number z))); within = l.within }

  -- a sign that stands there is a token
  pub passes_sign : (c : ℕ) → stands c (drop at s) ≡ true → Passes 1 s at t.stop
  passes_sign c e =
      let k : 4 ≡ kind_number t.kind = sym (ap kind (is_true (sign (c ∷ [])) (peek_in (drop at s)) e)) ∙ l.kinds in
      passes_token (λ z. omega arith)

pub passes_two : {s : List ℕ} {at n n' : ℕ} → Passes 1 s at n → Passes 1 s n n' → Passes 2 s at n'
passes_two h k = record { left = k.left ∙ ap skip_in h.left; from = omega (arith, h.from, k.from); within = k.within }

-- ---- which of two signs

module _ {s : List ℕ} {at : ℕ} {t : Tok} (l : Lexed s at t) where
  -- a sign, by its byte
  pub sign_seen : (c : ℕ) → Sign c → {r b : Bool} → r ≡ same (c ∷ []) (part s t.start t.stop) → r ≡ b → stands c (drop at s) ≡ b
  sign_seen c h e f = sees_said l (c ∷ []) h ∙ sym e ∙ f

  module _ (a b : ℕ) where
    pub joins_first : stands a (drop at s) ≡ true → Joins a b s at (record { joint = First; next = t.stop })
    joins_first e = record { joint = rw e; next = passes_sign l a e }

    pub joins_second : stands a (drop at s) ≡ false → stands b (drop at s) ≡ true → Joins a b s at (record { joint = Second; next = t.stop })
    joins_second e f = record { joint = rw (e, f); next = passes_sign l b f }

pub joins_none : {s : List ℕ} {at : ℕ} (a b : ℕ) → at ≤ length s → stands a (drop at s) ≡ false → stands b (drop at s) ≡ false
    → Joins a b s at (record { joint = Neither; next = at })
joins_none a b h e f = record { joint = rw (e, f); next = passes_none h }

-- ---- how a factor begins

-- by the tests of the definition
begins_by : (u : List ℕ) {n o r m p k : Bool} → is_digits peek_in skip_in u ≡ n → stands 40 u ≡ o → says peek_in skip_in "rdiv" u ≡ r
    → says peek_in skip_in "max" u ≡ m → stands 40 (skip_in u) ≡ p → eqb (kind (peek_in u)) 1 ≡ k
    → begins u
    ≡ cond n (Some Literal)
    (cond o (Some Bracket)
    (cond r (cond p (Some (Call Rdiv)) None) (cond m (cond p (Some (Call Max)) None) (cond k (cond p (Some Element) (Some Name)) None))))
begins_by u en eo er em ep ek =
    λ i. cond (en i) (Some Literal)
    (cond (eo i) (Some Bracket)
    (cond (er i) (cond (ep i) (Some (Call Rdiv)) None)
    (cond (em i) (cond (ep i) (Some (Call Max)) None) (cond (ek i) (cond (ep i) (Some Element) (Some Name)) None))))

module _ {s : List ℕ} {at : ℕ} {t : Tok} (l : Lexed s at t) where
  kind_yes : (k : ℕ) → kind_number t.kind ≡ k → eqb (kind (peek_in (drop at s))) k ≡ true
  kind_yes k e = eq-eqb _ k (l.kinds ∙ e)

  kind_no : (k : ℕ) → (kind_number t.kind ≡ k → ⊥) → eqb (kind (peek_in (drop at s))) k ≡ false
  kind_no k n = ne_eqb _ k (λ e. n (sym l.kinds ∙ e))

  pub begins_literal : kind_number t.kind ≡ 3 → Opens s at (record { beginning = Literal; next = t.stop })
  begins_literal e = record { beginning = begins_by (drop at s) (kind_yes 3 e) refl refl refl refl refl; next = passes_token l (λ z. omega arith) }

  module _ (n3 : kind_number t.kind ≡ 3 → ⊥) where
    pub begins_bracket : stands 40 (drop at s) ≡ true → Opens s at (record { beginning = Bracket; next = t.stop })
    begins_bracket o = record { beginning = begins_by (drop at s) (kind_no 3 n3) o refl refl refl refl; next = passes_sign l 40 o }

    module _ (o : stands 40 (drop at s) ≡ false) {u : Tok} (lu : Lexed s t.stop u) {b : Bool} (p : stands 40 (drop t.stop s) ≡ b) where
      then_by : {r m k : Bool} → says peek_in skip_in "rdiv" (drop at s) ≡ r → says peek_in skip_in "max" (drop at s) ≡ m
          → eqb (kind (peek_in (drop at s))) 1 ≡ k
          → begins (drop at s)
          ≡ cond r (cond b (Some (Call Rdiv)) None) (cond m (cond b (Some (Call Max)) None) (cond k (cond b (Some Element) (Some Name)) None))
      then_by er em ek = begins_by (drop at s) (kind_no 3 n3) o er em (ap (stands 40) l.next ∙ p) ek

      -- a function, by its word
      begins_call : (f : Function) (w : String) → kind_of (word_of (bytes w)) ≡ 2 → says peek_in skip_in w (drop at s) ≡ true
          → begins (drop at s) ≡ cond b (Some (Call f)) None → {r : Option Begun} → r ≡ called_at f b u.stop → Begins s at r
      begins_call f w ew e eb er = subst (Begins s at) (sym er) (by_bracket b p eb)
        where
          k : 2 ≡ kind_number t.kind
          k = sym ew ∙ sym (ap kind (is_true (word_of (bytes w)) (peek_in (drop at s)) e)) ∙ l.kinds

          by_bracket : (b : Bool) → stands 40 (drop t.stop s) ≡ b → begins (drop at s) ≡ cond b (Some (Call f)) None → Begins s at (called_at f b u.stop)
          by_bracket true q g = record { beginning = g; next = passes_two (passes_token l (λ z. omega (arith, k))) (passes_sign lu 40 q) }
          by_bracket false q g = g

      pub begins_rdiv : says peek_in skip_in "rdiv" (drop at s) ≡ true → {r : Option Begun} → r ≡ called_at Rdiv b u.stop → Begins s at r
      begins_rdiv er = begins_call Rdiv "rdiv" refl er (then_by er refl refl)

      pub begins_max : says peek_in skip_in "rdiv" (drop at s) ≡ false → says peek_in skip_in "max" (drop at s) ≡ true → {r : Option Begun}
          → r ≡ called_at Max b u.stop → Begins s at r
      begins_max er em = begins_call Max "max" refl em (then_by er em refl)

      module _ (nr : says peek_in skip_in "rdiv" (drop at s) ≡ false) (nm : says peek_in skip_in "max" (drop at s) ≡ false) where
        pub begins_element : kind_number t.kind ≡ 1 → b ≡ true → Opens s at (record { beginning = Element; next = u.stop })
        begins_element e eb =
            record {
              beginning = then_by nr nm (kind_yes 1 e) ∙ ap (λ (c : Bool). cond c (Some Element) (Some Name)) eb;
              next = passes_two (passes_token l (λ z. omega arith)) (passes_sign lu 40 (p ∙ eb));
            }

        pub begins_name : kind_number t.kind ≡ 1 → b ≡ false → Opens s at (record { beginning = Name; next = t.stop })
        begins_name e eb = record {
          beginning = then_by nr nm (kind_yes 1 e) ∙ ap (λ (c : Bool). cond c (Some Element) (Some Name)) eb;
          next = passes_token l (λ z. omega arith);
        }

        pub begins_none : (kind_number t.kind ≡ 1 → ⊥) → begins (drop at s) ≡ None
        begins_none n1 = then_by nr nm (kind_no 1 n1)
