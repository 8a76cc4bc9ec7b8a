-- What a reader of an expression reads is spelled as the grammar says: from the place where it began to the place where it ended stand the
-- tokens of its syntax. Over any kind of place.
use mathlib.Core.Path.{◌≡◌, refl}
use mathlib.Core.Logic.{inl, inr}
use mathlib.Core.Bool.{Bool, true, false, cond, ◌||◌}
use mathlib.Core.List.{List, [], ◌∷◌, ◌++◌}
use mathlib.Core.Option.{Option, none, some}
use Prim.Native.Nat.{ℕ, zero, suc}
use Prim.Native.String.{String}
use native.Mathlib.Omega.{arith}
use Rattle.int32.specs.declared.Relation.{Relation}
use Rattle.int32.specs.declared.Relation.TheVariants.{Equal, Unequal, Less, AtMost, Greater, AtLeast}
use Rattle.syntax.specs.declared.Function.{Function}
use Rattle.syntax.specs.declared.Function.TheVariants.{Rdiv, Max}
use Rattle.syntax.specs.Bytes.{bytes, Token, sign, word_of}
use Rattle.syntax.specs.Grammar.{bare, plus, minus, Factor, call, show_lead, show_rel, show_function, show, show_terms, show_term, show_factors, show_factor, show_ref, show_subscripts}
use Rattle.syntax.specs.Reader.{Parsed, done, Reader, next, sees, says, expects, read_name, is_digits, read_digits, given, read_rel, read_lead, read_pair, read_subscripts, read_expr, read_terms, read_term, read_factors, read_factor, read_ref}
use Rattle.syntax.specs.Spelled.{Spells, here}
use Rattle.syntax.proofs.Spelling.{not_done, same_done, bound, chosen, is_true, ◌▸◌, one_token, expects_sound, name_sound, digits_sound}

module _ {S : Type 0} (peek : S → Option Token) (skip : S → S) where
  abbrev pub Sound : {A : Type 0} → Reader S A → (A → List Token) → Type 0
  Sound {A} r sh = (s u : S) (a : A) → r s ≡ done a u → Spells peek skip s (sh a) u

  -- which of two signs stands here
  pub sees_sound : (t : String) (s : S) → sees peek skip t s ≡ true → Spells peek skip s (sign (bytes t) ∷ []) (skip s)
  sees_sound t s h = one_token peek skip (is_true (sign (bytes t)) (peek s) h)

  pub says_sound : (t : String) (s : S) → says peek skip t s ≡ true → Spells peek skip s (word_of (bytes t) ∷ []) (skip s)
  says_sound t s h = one_token peek skip (is_true (word_of (bytes t)) (peek s) h)

  either_sound : (p q : String) (s : S) (a b : Bool) → sees peek skip p s ≡ a → sees peek skip q s ≡ b → a || b ≡ true →
      Spells peek skip s (cond b (sign (bytes q) ∷ []) (sign (bytes p) ∷ [])) (skip s)
  either_sound p q s a true h k e = sees_sound q s k
  either_sound p q s true false h k e = sees_sound p s h
  either_sound p q s false false h k e = absurd (let z : ◌≡◌ {A = ℕ} 0 1 = cc in omega arith)

  pub lead_sound : Sound (read_lead peek skip) show_lead
  lead_sound s u l h = go (sees peek skip "+" s) (sees peek skip "-" s) refl refl h
    where
      go : (a b : Bool) → sees peek skip "+" s ≡ a → sees peek skip "-" s ≡ b →
          cond a (done plus (skip s)) (cond b (done minus (skip s)) (done bare s)) ≡ done l u → Spells peek skip s (show_lead l) u
      go true b p q h = same_done (λ l u. Spells peek skip s (show_lead l) u) h (sees_sound "+" s p)
      go false true p q h = same_done (λ l u. Spells peek skip s (show_lead l) u) h (sees_sound "-" s q)
      go false false p q h = same_done (λ l u. Spells peek skip s (show_lead l) u) h here

  pub rel_sound : Sound (read_rel peek skip) show_rel
  rel_sound s u r h =
      go (sees peek skip "==" s) (sees peek skip "/=" s) (sees peek skip "<" s) (sees peek skip "<=" s) (sees peek skip ">" s)
      (sees peek skip ">=" s) refl refl refl refl refl refl h
    where
      met : (t : String) (q : Relation) → show_rel q ≡ sign (bytes t) ∷ [] → sees peek skip t s ≡ true
          → ◌≡◌ {A = Parsed S Relation} (done q (skip s)) (done r u) → Spells peek skip s (show_rel r) u
      met t q e p h = same_done (λ r u. Spells peek skip s (show_rel r) u) h (rw e (sees_sound t s p))

      go : (a b c d e g : Bool) → sees peek skip "==" s ≡ a → sees peek skip "/=" s ≡ b → sees peek skip "<" s ≡ c → sees peek skip "<=" s ≡ d →
          sees peek skip ">" s ≡ e → sees peek skip ">=" s ≡ g →
          given peek skip (cond a (some Equal)
          (cond b (some Unequal) (cond c (some Less) (cond d (some AtMost) (cond e (some Greater) (cond g (some AtLeast) none)))))) s ≡ done r u →
          Spells peek skip s (show_rel r) u
      go true b c d e g p1 p2 p3 p4 p5 p6 h = met "==" Equal refl p1 h
      go false true c d e g p1 p2 p3 p4 p5 p6 h = met "/=" Unequal refl p2 h
      go false false true d e g p1 p2 p3 p4 p5 p6 h = met "<" Less refl p3 h
      go false false false true e g p1 p2 p3 p4 p5 p6 h = met "<=" AtMost refl p4 h
      go false false false false true g p1 p2 p3 p4 p5 p6 h = met ">" Greater refl p5 h
      go false false false false false true p1 p2 p3 p4 p5 p6 h = met ">=" AtLeast refl p6 h
      go false false false false false false p1 p2 p3 p4 p5 p6 h = absurd (not_done h)

  -- the parts of an expression, with this fuel
  pub record Sounds (f : ℕ) : Type 0 where
    pub expr : Sound (read_expr peek skip f) show
    pub terms : Sound (read_terms peek skip f) show_terms
    pub term : Sound (read_term peek skip f) show_term
    pub factors : Sound (read_factors peek skip f) show_factors
    pub factor : Sound (read_factor peek skip f) show_factor
    pub ref : Sound (read_ref peek skip f) show_ref

  expr_sound : (f : ℕ) → Sounds f → Sound (read_expr peek skip (suc f)) show
  unfolding read_expr show
  expr_sound f i s u a h =
      bound (read_lead peek skip s) _ h λ l m1 h1 k1.
      bound (read_term peek skip f m1) _ k1 λ t m2 h2 k2.
      bound (read_terms peek skip f m2) _ k2 λ ts m3 h3 k3.
      same_done (λ e u. Spells peek skip s (show e) u) k3 (lead_sound s m1 l h1 ▸ (i.term m1 m2 t h2 ▸ i.terms m2 m3 ts h3))

  terms_sound : (f : ℕ) → Sounds f → Sound (read_terms peek skip (suc f)) show_terms
  unfolding read_terms show_terms
  terms_sound f i s u a h = elim (chosen (sees peek skip "+" s || sees peek skip "-" s) _ _ h) [
    | inl c ↦
        bound (read_term peek skip f (skip s)) _ c.1 λ t m1 h1 k1.
        bound (read_terms peek skip f m1) _ k1 λ ts m2 h2 k2.
        same_done (λ e u. Spells peek skip s (show_terms e) u) k2
        (either_sound "+" "-" s _ _ refl refl c.0 ▸ (i.term (skip s) m1 t h1 ▸ i.terms m1 m2 ts h2))
    | inr c ↦ same_done (λ e u. Spells peek skip s (show_terms e) u) c.1 here
  ]

  term_sound : (f : ℕ) → Sounds f → Sound (read_term peek skip (suc f)) show_term
  unfolding read_term show_term
  term_sound f i s u a h =
      bound (read_factor peek skip f s) _ h λ x m1 h1 k1.
      bound (read_factors peek skip f m1) _ k1 λ xs m2 h2 k2.
      same_done (λ e u. Spells peek skip s (show_term e) u) k2 (i.factor s m1 x h1 ▸ i.factors m1 m2 xs h2)

  factors_sound : (f : ℕ) → Sounds f → Sound (read_factors peek skip (suc f)) show_factors
  unfolding read_factors show_factors
  factors_sound f i s u a h = elim (chosen (sees peek skip "*" s || sees peek skip "/" s) _ _ h) [
    | inl c ↦
        bound (read_factor peek skip f (skip s)) _ c.1 λ x m1 h1 k1.
        bound (read_factors peek skip f m1) _ k1 λ xs m2 h2 k2.
        same_done (λ e u. Spells peek skip s (show_factors e) u) k2
        (either_sound "*" "/" s _ _ refl refl c.0 ▸ (i.factor (skip s) m1 x h1 ▸ i.factors m1 m2 xs h2))
    | inr c ↦ same_done (λ e u. Spells peek skip s (show_factors e) u) c.1 here
  ]

  -- a function, by its word
  call_sound : (f : ℕ) → Sounds f → (g : Function) (t : String) → show_function g ≡ word_of (bytes t) ∷ [] → (s u : S) (a : Factor) → says peek skip t s ≡ true
      → next (expects peek skip "(" (skip s)) (λ _. read_pair peek skip (read_expr peek skip f) (call g)) ≡ done a u → Spells peek skip s (show_factor a) u
  unfolding show_factor
  call_sound f i g t w s u a e h =
      bound (expects peek skip "(" (skip s)) _ h λ _ m1 h1 k1.
      bound (read_expr peek skip f m1) _ k1 λ a m2 h2 k2.
      bound (expects peek skip "," m2) _ k2 λ _ m3 h3 k3.
      bound (read_expr peek skip f m3) _ k3 λ b m4 h4 k4.
      bound (expects peek skip ")" m4) _ k4 λ _ m5 h5 k5.
      same_done (λ e u. Spells peek skip s (show_factor e) u) k5
      (rw w (says_sound t s e
      ▸ (expects_sound peek skip "(" (skip s) h1
      ▸ (i.expr m1 m2 a h2 ▸ (expects_sound peek skip "," m2 h3 ▸ (i.expr m3 m4 b h4 ▸ expects_sound peek skip ")" m4 h5))))))

  factor_sound : (f : ℕ) → Sounds f → Sound (read_factor peek skip (suc f)) show_factor
  unfolding read_factor show_factor
  factor_sound f i s u a h = elim (chosen (is_digits peek skip s) _ _ h) [
    | inl c ↦
        bound (read_digits peek skip s) _ c.1 λ d m1 h1 k1.
        same_done (λ e u. Spells peek skip s (show_factor e) u) k1 (digits_sound peek skip s h1)
    | inr c ↦ elim (chosen (sees peek skip "(" s) _ _ c.1) [
      | inl d ↦
          bound (read_expr peek skip f (skip s)) _ d.1 λ e m1 h1 k1.
          bound (expects peek skip ")" m1) _ k1 λ _ m2 h2 k2.
          same_done (λ e u. Spells peek skip s (show_factor e) u) k2
          (sees_sound "(" s d.0 ▸ (i.expr (skip s) m1 e h1 ▸ expects_sound peek skip ")" m1 h2))
      | inr d ↦ elim (chosen (says peek skip "rdiv" s) _ _ d.1) [
        | inl e ↦ call_sound f i Rdiv "rdiv" refl s u a e.0 e.1
        | inr e ↦ elim (chosen (says peek skip "max" s) _ _ e.1) [
          | inl g ↦ call_sound f i Max "max" refl s u a g.0 g.1
          | inr g ↦
              bound (read_ref peek skip f s) _ g.1 λ r m1 h1 k1.
              same_done (λ e u. Spells peek skip s (show_factor e) u) k1 (i.ref s m1 r h1)
        ]
      ]
    ]
  ]

  -- one subscript or two, and the bracket
  subscripts_sound : (f : ℕ) → Sounds f → Sound (read_subscripts peek skip (read_expr peek skip f)) (λ is. show_subscripts is ++ (sign (bytes ")") ∷ []))
  unfolding show_subscripts
  subscripts_sound f i s u is h =
      bound (read_expr peek skip f s) _ h λ e m2 h2 k2.
      elim (chosen (sees peek skip "," m2) _ _ k2) [
        | inl c ↦
            bound (read_expr peek skip f (skip m2)) _ c.1 λ g m3 h3 k3.
            bound (expects peek skip ")" m3) _ k3 λ _ m4 h4 k4.
            same_done (λ is u. Spells peek skip s (show_subscripts is ++ (sign (bytes ")") ∷ [])) u) k4
            ((i.expr s m2 e h2 ▸ (sees_sound "," m2 c.0 ▸ i.expr (skip m2) m3 g h3)) ▸ expects_sound peek skip ")" m3 h4)
        | inr c ↦
            bound (expects peek skip ")" m2) _ c.1 λ _ m3 h3 k3.
            same_done (λ is u. Spells peek skip s (show_subscripts is ++ (sign (bytes ")") ∷ [])) u) k3
            (i.expr s m2 e h2 ▸ expects_sound peek skip ")" m2 h3)
      ]

  ref_sound : (f : ℕ) → Sounds f → Sound (read_ref peek skip (suc f)) show_ref
  unfolding read_ref show_ref
  ref_sound f i s u a h =
      bound (read_name peek skip s) _ h λ x m1 h1 k1.
      elim (chosen (sees peek skip "(" m1) _ _ k1) [
        | inl c ↦
            bound (read_subscripts peek skip (read_expr peek skip f) (skip m1)) _ c.1 λ is m2 h2 k2.
            same_done (λ e u. Spells peek skip s (show_ref e) u) k2
            (name_sound peek skip s h1 ▸ (sees_sound "(" m1 c.0 ▸ subscripts_sound f i (skip m1) m2 is h2))
        | inr c ↦ same_done (λ e u. Spells peek skip s (show_ref e) u) c.1 (name_sound peek skip s h1)
      ]

  pub sounds : (f : ℕ) → Sounds f
  unfolding read_expr read_terms read_term read_factors read_factor read_ref
  sounds zero = record {
    expr = λ s u a h. absurd (not_done h);
    terms = λ s u a h. absurd (not_done h);
    term = λ s u a h. absurd (not_done h);
    factors = λ s u a h. absurd (not_done h);
    factor = λ s u a h. absurd (not_done h);
    ref = λ s u a h. absurd (not_done h);
  }
  sounds (suc f) = record {
    expr = expr_sound f (sounds f);
    terms = terms_sound f (sounds f);
    term = term_sound f (sounds f);
    factors = factors_sound f (sounds f);
    factor = factor_sound f (sounds f);
    ref = ref_sound f (sounds f);
  }
