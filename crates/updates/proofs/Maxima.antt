-- Updates by max: whether the right side has that form, and what is read as its remainder.
use mathlib.Core.Path.{◌≡◌, refl, sym, ◌∙◌, ap, subst}
use mathlib.Core.Bool.{Bool, true, false, ◌||◌}
use mathlib.Core.List.{List, [], ◌∷◌, ◌++◌, append-nil}
use Prim.Native.Nat.{ℕ, suc, ◌-◌, ◌*◌, ◌≤◌, ◌<◌, max}
use native.Mathlib.Omega.{arith}
use lib.ListN.{length, take, drop}
use Rattle.rules.specs.declared.Operator.TheVariants.{Maximum}
use Rattle.syntax.specs.declared.Function.TheVariants.{Max}
use Rattle.syntax.specs.Bytes.{bytes}
use Rattle.syntax.specs.Grammar.{bare, Expr, expr, no_terms, term, no_factors, call, Ref, show_ref}
use Rattle.syntax.specs.Known.{Entry}
use Rattle.syntax.specs.Meaning.{alike, same_ref, repeated}
use Rattle.syntax.specs.Ranks.{level}
use Rattle.syntax.specs.Conditions.{mentions, in_terms, in_term, in_factors, in_factor, in_ref}
use Rattle.syntax.specs.Reader.{Parsed, broken, done, next, expects, says, peek_in, skip_in, read_expr, read_ref}
use Rattle.syntax.specs.Spelled.{Spells}
use Rattle.syntax.specs.Forms.{only, Repeats, compares}
use Rattle.syntax.proofs.Forms.{repeats_ref, repeats_rest}
use Rattle.syntax.proofs.Spelling.{not_done, both_true}
use Rattle.names.specs.Table.{variable_of, Tabled}
use Rattle.lexer.specs.Places.{NotRead, ReadTo, Any, passes}
use Rattle.lexer.proofs.Said.{sign_text, word_text}
use Rattle.lexer.proofs.InTurn.{stands as there, stands_not, stands_onward}
use Rattle.parts.specs.Answer.{worst}
use Rattle.parts.specs.Parts.{stands}
use Rattle.parts.specs.declared.Got.{Got}
use Rattle.std.specs.Prelude.{Some, None}
use Rattle.parts.proofs.Laws.{worst_append}
use Rattle.updates.specs.declared.Left.{Left}
use Rattle.updates.specs.Forms.{ends, Repeated, closed, Closed, read_rest, Remains, Rests}
use Rattle.updates.proofs.Readings.{ends_both, maximum_apart}
use Rattle.updates.proofs.Together.{sign_no, only_together, maximum_together}
use Rattle.updates.proofs.Parts.{repeated_none, repeated_some}
use Rattle.updates.proofs.Resting.{term_rank, not_same, clash, same_rest}

module _ (t : List Entry) (v : List ℕ) where
  maximum_rank : (y : Ref) (b : Expr) → worst t v (mentions 0 (expr bare (term (call Max (only y) b) no_factors) no_terms))
      ≡ max (worst t v (in_ref 1 y)) (worst t v (mentions 1 b))
  unfolding mentions in_terms in_term in_factors in_factor worst
  maximum_rank y b =
      let e : (in_ref 1 y ++ []) ++ [] ≡ in_ref 1 y = append-nil (in_ref 1 y ++ []) ∙ append-nil (in_ref 1 y) in
      term_rank t v (call Max (only y) b) no_factors
      ∙ omega (arith, worst_append t v ((in_ref 1 y ++ []) ++ []) (mentions 1 b), ap (worst t v) e)

module _ (x : Ref) (f : ℕ) (u : List ℕ) where
  maximum_none : (c : Expr) (v : List ℕ) → read_expr peek_in skip_in (suc (suc (suc f))) u ≡ done c v
      → ((y : Ref) (w : List ℕ) (g : ℕ) → says peek_in skip_in "max" u ≡ true → stands 40 (skip_in u) ≡ true → f ≡ suc (suc (suc g))
      → read_ref peek_in skip_in g (skip_in (skip_in u)) ≡ done y w → stands 44 w ≡ true → closed (read_expr peek_in skip_in f (skip_in w)) ≡ true
      → alike (show_ref x) (show_ref y) ≡ false)
      → same_ref x (repeated Maximum c) ≡ false
  maximum_none c v h k = not_same Maximum x c (λ y r. go r h)
    where
      go : {y : Ref} {m c : Expr} → Repeats Maximum y m c → read_expr peek_in skip_in (suc (suc (suc f))) u ≡ done c v → alike (show_ref x) (show_ref y) ≡ false
      go (compares y b) h = let (w, g, p, q, e, r, n, z) = maximum_apart f u v y b h in k y w g p q e r n z

closed_parts : (P : Parsed (List ℕ) Expr) → closed P ≡ true
    → (e : Expr) × (v : List ℕ) × (P ≡ done e v) × (stands 41 v ≡ true) × (ends (skip_in v) ≡ true)
closed_parts broken h = absurd (let z : ◌≡◌ {A = ℕ} 0 1 = cc in omega arith)
closed_parts (done e v) h = let (p, q) = both_true (stands 41 v) (ends (skip_in v)) h in (e, v, refl, p, q)

-- the bracket after it
sealed : (P : Parsed (List ℕ) Expr) (e : Expr) (v : List ℕ) → P ≡ done e v → stands 41 v ≡ true
    → next P (λ e v. next (expects peek_in skip_in ")" v) (λ _ w. done e w)) ≡ done e (skip_in v)
sealed P e v h k = rw (h, k)

-- a comma ends an expression
comma_ends : (w : List ℕ) → stands 44 w ≡ true → ends w ≡ true
comma_ends w h = ends_both w
    (λ i. sign_no w (44 ∷ []) (42 ∷ []) h refl i || sign_no w (44 ∷ []) (47 ∷ []) h refl i)
    (λ i. sign_no w (44 ∷ []) (43 ∷ []) h refl i || sign_no w (44 ∷ []) (45 ∷ []) h refl i)

module _ (l : Left) (T s : List ℕ) (from : ℕ) (b : List ℕ) where
  -- no max, or no bracket after it
  unopened : (says peek_in skip_in "max" (drop from s) ≡ true → stands 40 (skip_in (drop from s)) ≡ true → ⊥) → Rests Maximum l T s from b b None
  unopened n = record {
    found = λ t d f lt x sp c w h. maximum_none x f (drop from s) c w h (λ y v g p q e r k z. absurd (n p q));
    kept = refl;
    past = tt;
  }

  pub maximum_unsaid : from ≤ length s → NotRead s from (passes (bytes "max")) → Rests Maximum l T s from b b None
  maximum_unsaid inside go =
      unopened (λ p q. clash (says peek_in skip_in "max" (drop from s)) p
      (word_text (bytes "max") refl (drop from s) ∙ stands_not (bytes "max") go inside))

  module _ {a₀ : ℕ} (go₁ : ReadTo Any s from (passes (bytes "max")) a₀) where
    after_word : skip_in (drop from s) ≡ drop a₀ s
    after_word = (there (bytes "max") go₁).1

    pub maximum_unopened : NotRead s a₀ (passes (bytes "(")) → Rests Maximum l T s from b b None
    maximum_unopened go =
        unopened (λ p q. clash (stands 40 (skip_in (drop from s))) q
        (ap (stands 40) after_word ∙ sign_text (bytes "(") refl (drop a₀ s) ∙ stands_not (bytes "(") go go₁.within))

    module _ {first : ℕ} (go₂ : ReadTo Any s a₀ (passes (bytes "(")) first) where
      pub two_on : suc (suc from) ≤ first
      two_on = omega (arith, stands_onward (bytes "max") go₁ (omega arith), stands_onward (bytes "(") go₂ (omega arith))

      module _ (m after : List ℕ) (kept : take (2 * l.place) after ≡ take (2 * l.place) b) where
        word : says peek_in skip_in "max" (drop from s) ≡ true
        word = word_text (bytes "max") refl (drop from s) ∙ (there (bytes "max") go₁).0

        bracket : stands 40 (skip_in (drop from s)) ≡ true
        bracket = ap (stands 40) after_word ∙ sign_text (bytes "(") refl (drop a₀ s) ∙ (there (bytes "(") go₂).0

        inner : skip_in (skip_in (drop from s)) ≡ drop first s
        inner = ap skip_in after_word ∙ (there (bytes "(") go₂).1

        -- where the first of the two is read, by what the code found there
        none_by : ((t : List Entry) → Tabled T t → (f : ℕ) → 3 * (length s - first) < f → 3 * (length s - from) < suc (suc (suc f)) → (x : Ref)
            → Spells peek_in skip_in s (show_ref x) (drop l.end s) → (y : Ref) (w : List ℕ) → read_ref peek_in skip_in f (drop first s) ≡ done y w
            → stands 44 w ≡ true → closed (read_expr peek_in skip_in (suc (suc (suc f))) (skip_in w)) ≡ true → alike (show_ref x) (show_ref y) ≡ false)
            → Rests Maximum l T s from b after None
        none_by k = record {
          found = λ t d f lt x sp c w h. maximum_none x f (drop from s) c w h (λ y v g _ _ e r n q.
              k t d g (omega (arith, two_on, go₂.within, e)) (omega (arith, e)) x sp y v (ap (read_ref peek_in skip_in g) (sym inner) ∙ r) n
              (subst (λ (i : ℕ). closed (read_expr peek_in skip_in i (skip_in v)) ≡ true) e q));
          kept = kept;
          past = tt;
        }

        pub maximum_unread : Repeated 1 l T s first b m None → Rests Maximum l T s from b after None
        maximum_unread rp = none_by (λ t d f lt _ x sp y w r n q. repeated_none rp t d f lt x sp y w r)

        module _ (g : Got) (rp : Repeated 1 l T s first b m (Some g)) where
          pub maximum_single : NotRead s g.at (passes (bytes ",")) → Rests Maximum l T s from b after None
          maximum_single go = none_by (λ t d f lt _ x sp y w r k q.
              let (y₂, r₂, _, _) = repeated_some rp t d f lt x sp in
              clash (stands 44 w) k
              (ap (stands 44) (same_rest (sym r ∙ r₂)) ∙ sign_text (bytes ",") refl (drop g.at s) ∙ stands_not (bytes ",") go rp.past.within))

          module _ {a : ℕ} (go : ReadTo Any s g.at (passes (bytes ",")) a) {r : Bool} (cl : Closed T s a r) where
            further : g.at < a
            further = stands_onward (bytes ",") go (omega arith)

            beyond : skip_in (drop g.at s) ≡ drop a s
            beyond = (there (bytes ",") go).1

            closed_there : (t : List Entry) → Tabled T t → (f : ℕ) → 3 * (length s - from) < f
                → r ≡ closed (read_expr peek_in skip_in f (skip_in (drop g.at s)))
            closed_there t d f lt =
                cl t d f (omega (arith, further, rp.past.after, two_on, go.within)) ∙ ap (λ (u : List ℕ). closed (read_expr peek_in skip_in f u)) (sym beyond)

            pub maximum_unclosed : r ≡ false → Rests Maximum l T s from b after None
            maximum_unclosed n = none_by (λ t d f lt lt₂ x sp y w k _ q.
                let (y₂, r₂, _, _) = repeated_some rp t d f lt x sp in
                clash (closed (read_expr peek_in skip_in (suc (suc (suc f))) (skip_in w))) q
                (ap (λ (u : List ℕ). closed (read_expr peek_in skip_in (suc (suc (suc f))) (skip_in u))) (same_rest (sym k ∙ r₂))
                ∙ sym (closed_there t d (suc (suc (suc f))) lt₂) ∙ n))

            pub maximum_found : r ≡ true → Rests Maximum l T s from b after (Some (record { at = a; place = g.place; rank = g.rank }))
            maximum_found n = record {
              found = remains;
              kept = kept;
              past = record { after = omega (arith, further, rp.past.after, two_on); within = go.within; place_is = rp.past.place_is };
            }
              where
                comma : stands 44 (drop g.at s) ≡ true
                comma = sign_text (bytes ",") refl (drop g.at s) ∙ (there (bytes ",") go).0

                -- y is the reference, c the second argument
                remains_by : (t : List Entry) (f : ℕ) → 3 * (length s - from) < f → (x y : Ref)
                    → read_ref peek_in skip_in (f - 3) (drop first s) ≡ done y (drop g.at s) → alike (show_ref x) (show_ref y) ≡ true
                    → level g.rank ≡ max (level l.rank) (worst t (variable_of T) (in_ref 1 y)) → (c : Expr) (v : List ℕ)
                    → read_expr peek_in skip_in f (skip_in (drop g.at s)) ≡ done c v → stands 41 v ≡ true → ends (skip_in v) ≡ true
                    → Remains Maximum t (variable_of T) s x f from a (level l.rank) (level g.rank)
                remains_by t f lt x y k al ez c v q shut en =
                    let ef : suc (suc (suc (f - 3))) ≡ f = omega (arith, two_on, go₂.within) in
                    let one = (λ i. read_expr peek_in skip_in (sym ef i) (inner i))
                    ∙ only_together (f - 3) (drop first s) (drop g.at s) y k (comma_ends (drop g.at s) comma) in
                    let rest : read_rest Maximum f (drop a s) ≡ done c (skip_in v) = sealed _ c v (ap (read_expr peek_in skip_in f) (sym beyond) ∙ q) shut in
                    let e : Expr = expr bare (term (call Max (only y) c) no_factors) no_terms in
                    let whole : read_expr peek_in skip_in (suc (suc (suc f))) (drop from s) ≡ done e (skip_in v) =
                    maximum_together f (drop from s) word bracket (drop g.at s) y one comma c v q shut en in
                    record {
                      ref = y;
                      fuel = f;
                      enough = omega (arith, further, rp.past.after, two_on, go.within);
                      same = al;
                      unread = λ h. absurd (not_done (sym h ∙ rest));
                      read = λ m w h.
                          let em : c ≡ m = cc (sym rest ∙ h) in
                          let ew : skip_in v ≡ w = cc (sym rest ∙ h) in (
                            e,
                            whole ∙ ap (done e) ew,
                            repeats_ref (compares y c),
                            repeats_rest (compares y c) ∙ em,
                            ap (λ (i : Expr). max (level g.rank) (worst t (variable_of T) (mentions 1 i))) (sym em)
                                ∙ omega (arith, ez, maximum_rank t (variable_of T) y c),
                          );
                    }

                remains : (t : List Entry) → Tabled T t → (f : ℕ) → 3 * (length s - from) < f → (x : Ref) → Spells peek_in skip_in s (show_ref x) (drop l.end s)
                    → Remains Maximum t (variable_of T) s x f from a (level l.rank) (level g.rank)
                remains t d f lt x sp =
                    let (y, k, al, ez) = repeated_some rp t d (f - 3) (omega (arith, two_on, go₂.within)) x sp in
                    let (c, v, q, shut, en) = closed_parts (read_expr peek_in skip_in f (skip_in (drop g.at s))) (sym (closed_there t d f lt) ∙ n) in
                    remains_by t f lt x y k al ez c v q shut en
