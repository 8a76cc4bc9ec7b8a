-- Updates by *: whether the right side has that form, and what is read as its remainder.
use mathlib.Core.Path.{◌≡◌, refl, sym, ◌∙◌, ap}
use mathlib.Core.Bool.{Bool, true, false, not}
use mathlib.Core.List.{List}
use Prim.Native.Nat.{ℕ, suc, ◌-◌, ◌*◌, ◌<◌, max}
use native.Mathlib.Omega.{arith}
use lib.ListN.{length, take, drop}
use Rattle.rules.specs.declared.Operator.TheVariants.{Product}
use Rattle.syntax.specs.Bytes.{bytes}
use Rattle.syntax.specs.Grammar.{bare, Expr, expr, no_terms, Term, term, Factors, factors, Factor, cell, Ref, show_ref}
use Rattle.syntax.specs.Known.{Entry}
use Rattle.syntax.specs.Meaning.{alike, times, same_ref, repeated}
use Rattle.syntax.specs.Ranks.{level}
use Rattle.syntax.specs.Conditions.{mentions, in_factors, in_factor, in_ref}
use Rattle.syntax.specs.Reader.{Parsed, broken, done, peek_in, skip_in, read_expr, read_term, read_ref}
use Rattle.syntax.specs.Spelled.{Spells}
use Rattle.syntax.specs.Forms.{Repeats, multiplies}
use Rattle.syntax.proofs.Forms.{repeats_ref, repeats_rest}
use Rattle.syntax.proofs.Spelling.{not_done, both_true}
use Rattle.names.specs.Table.{variable_of, Tabled}
use Rattle.lexer.specs.Places.{NotRead, ReadTo, Any, passes}
use Rattle.lexer.proofs.Said.{sign_text}
use Rattle.lexer.proofs.InTurn.{stands as there, stands_not, stands_onward}
use Rattle.parts.specs.Answer.{worst}
use Rattle.parts.specs.Parts.{stands}
use Rattle.parts.specs.declared.Got.{Got}
use Rattle.std.specs.Prelude.{Some, None}
use Rattle.parts.proofs.Laws.{worst_append}
use Rattle.updates.specs.declared.Left.{Left}
use Rattle.updates.specs.Forms.{signs, Repeated, timed, Timed, Remains, Rests}
use Rattle.updates.proofs.Readings.{product_apart}
use Rattle.updates.proofs.Together.{not_is, product_together, product_rest}
use Rattle.updates.proofs.Parts.{repeated_none, repeated_some}
use Rattle.updates.proofs.Resting.{term_rank, not_same, clash, same_rest}

module _ (t : List Entry) (v : List ℕ) where
  product_rank : (y : Ref) (x : Factor) (xs : Factors) → worst t v (mentions 0 (expr bare (term (cell y) (factors false x xs)) no_terms))
      ≡ max (worst t v (in_ref 0 y)) (worst t v (mentions 0 (expr bare (term x xs) no_terms)))
  unfolding in_factors in_factor
  product_rank y x xs =
      term_rank t v (cell y) (factors false x xs)
      ∙ ap (max (worst t v (in_ref 0 y))) (worst_append t v (in_factor 0 x) (in_factors 0 xs) ∙ sym (term_rank t v x xs))

module _ (x : Ref) (f : ℕ) (u : List ℕ) where
  product_none : (c : Expr) (v : List ℕ) → read_expr peek_in skip_in (suc (suc (suc f))) u ≡ done c v
      → ((y : Ref) (w : List ℕ) → read_ref peek_in skip_in f u ≡ done y w → stands 42 w ≡ true
      → timed (read_term peek_in skip_in (suc f) (skip_in w)) ≡ true → alike (show_ref x) (show_ref y) ≡ false)
      → same_ref x (repeated Product c) ≡ false
  product_none c v h k = not_same Product x c (λ y r. go r h)
    where
      go : {y : Ref} {m c : Expr} → Repeats Product y m c → read_expr peek_in skip_in (suc (suc (suc f))) u ≡ done c v → alike (show_ref x) (show_ref y) ≡ false
      go (multiplies y a as' e) h = let (w, r, p, q) = product_apart f u v y a as' e h in k y w r p q

timed_parts : (P : Parsed (List ℕ) Term) → timed P ≡ true
    → (x : Factor) × (xs : Factors) × (v : List ℕ) × (P ≡ done (term x xs) v) × (times xs ≡ true) × (signs v ≡ false)
timed_parts broken h = absurd (let z : ◌≡◌ {A = ℕ} 0 1 = cc in omega arith)
timed_parts (done (term x xs) v) h = let (p, q) = both_true (times xs) (not (signs v)) h in (x, xs, v, refl, p, not_is (signs v) q)

module _ (l : Left) (T s : List ℕ) (from : ℕ) (b m after : List ℕ) (kept : take (2 * l.place) after ≡ take (2 * l.place) b) where
  pub product_unread : Repeated 0 l T s from b m None → Rests Product l T s from b after None
  product_unread rp = record {
    found = λ t d f lt x sp c w h. product_none x f (drop from s) c w h (λ y v r p q. repeated_none rp t d f lt x sp y v r);
    kept = kept;
    past = tt;
  }

  module _ (g : Got) (rp : Repeated 0 l T s from b m (Some g)) where
    pub product_unstarred : NotRead s g.at (passes (bytes "*")) → Rests Product l T s from b after None
    product_unstarred go = record {
      found = λ t d f lt x sp c w h. product_none x f (drop from s) c w h (λ y v r k q.
          let (y₂, r₂, _, _) = repeated_some rp t d f lt x sp in
          clash (stands 42 v) k (ap (stands 42) (same_rest (sym r ∙ r₂)) ∙ sign_text (bytes "*") refl (drop g.at s) ∙ stands_not (bytes "*") go rp.past.within));
      kept = kept;
      past = tt;
    }

    module _ {a : ℕ} (go : ReadTo Any s g.at (passes (bytes "*")) a) {r : Bool} (tm : Timed T s a r) where
      further : g.at < a
      further = stands_onward (bytes "*") go (omega arith)

      beyond : skip_in (drop g.at s) ≡ drop a s
      beyond = (there (bytes "*") go).1

      timed_there : (t : List Entry) → Tabled T t → (f : ℕ) → 3 * (length s - from) < f → r ≡ timed (read_term peek_in skip_in (suc f) (skip_in (drop g.at s)))
      timed_there t d f lt =
          tm t d (suc f) (omega (arith, further, rp.past.after, go.within)) ∙ ap (λ (u : List ℕ). timed (read_term peek_in skip_in (suc f) u)) (sym beyond)

      pub product_untimed : r ≡ false → Rests Product l T s from b after None
      product_untimed n = record {
        found = λ t d f lt x sp c w h. product_none x f (drop from s) c w h (λ y v k _ q.
            let (y₂, r₂, _, _) = repeated_some rp t d f lt x sp in
            clash (timed (read_term peek_in skip_in (suc f) (skip_in v))) q
            (ap (λ (u : List ℕ). timed (read_term peek_in skip_in (suc f) (skip_in u))) (same_rest (sym k ∙ r₂)) ∙ sym (timed_there t d f lt) ∙ n));
        kept = kept;
        past = tt;
      }

      pub product_found : r ≡ true → Rests Product l T s from b after (Some (record { at = a; place = g.place; rank = g.rank }))
      product_found n = record {
        found = remains;
        kept = kept;
        past = record { after = omega (arith, further, rp.past.after); within = go.within; place_is = rp.past.place_is };
      }
        where
          star : stands 42 (drop g.at s) ≡ true
          star = sign_text (bytes "*") refl (drop g.at s) ∙ (there (bytes "*") go).0

          -- y is the reference, c and cs are the factors after it
          remains_by : (t : List Entry) (f : ℕ) → 3 * (length s - from) < f → (x y : Ref) → read_ref peek_in skip_in f (drop from s) ≡ done y (drop g.at s)
              → alike (show_ref x) (show_ref y) ≡ true → level g.rank ≡ max (level l.rank) (worst t (variable_of T) (in_ref 0 y)) → (c : Factor) (cs : Factors)
              (v : List ℕ) → read_term peek_in skip_in (suc f) (skip_in (drop g.at s)) ≡ done (term c cs) v → times cs ≡ true → signs v ≡ false
              → Remains Product t (variable_of T) s x f from a (level l.rank) (level g.rank)
          remains_by t f lt x y k al ez c cs v q ts n₂ =
              let i : Expr = expr bare (term c cs) no_terms in
              let j : Expr = expr bare (term (cell y) (factors false c cs)) no_terms in
              let rest : read_expr peek_in skip_in (suc (suc f)) (drop a s) ≡ done i v =
              ap (read_expr peek_in skip_in (suc (suc f))) (sym beyond) ∙ product_rest f (drop from s) (drop g.at s) y k star c cs v q n₂ in
              let whole : read_expr peek_in skip_in (suc (suc (suc f))) (drop from s) ≡ done j v =
              product_together f (drop from s) (drop g.at s) y k star c cs v q n₂ in
              record {
                ref = y;
                fuel = suc (suc f);
                enough = omega (arith, further, rp.past.after, go.within);
                same = al;
                unread = λ h. absurd (not_done (sym h ∙ rest));
                read = λ m w h.
                    let em : i ≡ m = cc (sym rest ∙ h) in
                    let ew : v ≡ w = cc (sym rest ∙ h) in (
                      j,
                      whole ∙ ap (done j) ew,
                      repeats_ref (multiplies y c cs ts),
                      repeats_rest (multiplies y c cs ts) ∙ em,
                      ap (λ (b : Expr). max (level g.rank) (worst t (variable_of T) (mentions 0 b))) (sym em)
                          ∙ omega (arith, ez, product_rank t (variable_of T) y c cs),
                    );
              }

          remains : (t : List Entry) → Tabled T t → (f : ℕ) → 3 * (length s - from) < f → (x : Ref) → Spells peek_in skip_in s (show_ref x) (drop l.end s)
              → Remains Product t (variable_of T) s x f from a (level l.rank) (level g.rank)
          remains t d f lt x sp =
              let (y, k, al, ez) = repeated_some rp t d f lt x sp in
              let (c, cs, v, q, ts, n₂) = timed_parts (read_term peek_in skip_in (suc f) (skip_in (drop g.at s))) (sym (timed_there t d f lt) ∙ n) in
              remains_by t f lt x y k al ez c cs v q ts n₂
