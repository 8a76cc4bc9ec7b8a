-- Updates by + and -: whether the right side has that form, and what is read as its remainder.
use mathlib.Core.Path.{◌≡◌, sym, ◌∙◌, ap}
use mathlib.Core.Bool.{true, false}
use mathlib.Core.List.{List, [], ◌++◌, append-nil}
use Prim.Native.Nat.{ℕ, suc, max}
use native.Mathlib.Omega.{arith}
use lib.ListN.{drop}
use Rattle.rules.specs.declared.Operator.TheVariants.{Sum}
use Rattle.syntax.specs.Grammar.{Expr, expr, Ref, show_ref}
use Rattle.syntax.specs.Known.{Entry}
use Rattle.syntax.specs.Meaning.{alike, same_ref, repeated}
use Rattle.syntax.specs.Conditions.{Mention, mentions, in_terms, in_term, in_factors, in_factor, in_ref}
use Rattle.syntax.specs.Reader.{Parsed, done, next, peek_in, skip_in, read_expr, read_ref}
use Rattle.syntax.specs.Forms.{Repeats, adds}
use Rattle.syntax.proofs.Forms.{repeats_ref, repeats_rest}
use Rattle.names.specs.Table.{variable_of}
use Rattle.parts.specs.Answer.{worst}
use Rattle.parts.specs.declared.Got.{Got}
use Rattle.std.specs.Prelude.{Some, None}
use Rattle.parts.proofs.Laws.{worst_append}
use Rattle.updates.specs.declared.Left.{Left}
use Rattle.updates.specs.Forms.{signs, Repeated, Rests}
use Rattle.updates.proofs.Readings.{sum_apart}
use Rattle.updates.proofs.Together.{joined, sum_together, joined_form}
use Rattle.updates.proofs.Parts.{repeated_none, repeated_some}
use Rattle.updates.proofs.Resting.{not_same, clash, same_rest}

module _ (t : List Entry) (v : List ℕ) where
  sum_rank : (y : Ref) (e : Expr) → worst t v (mentions 0 (joined y e)) ≡ max (worst t v (in_ref 0 y)) (worst t v (mentions 0 e))
  unfolding joined mentions in_terms in_term in_factors in_factor
  sum_rank y (expr l a as') =
      worst_append t v (in_ref 0 y ++ []) (in_term 0 a ++ in_terms 0 as')
      ∙ ap (λ (ms : List Mention). max (worst t v ms) (worst t v (in_term 0 a ++ in_terms 0 as'))) (append-nil (in_ref 0 y))

module _ (x : Ref) (f : ℕ) (u : List ℕ) where
  sum_none : (c : Expr) (v : List ℕ) → read_expr peek_in skip_in (suc (suc (suc f))) u ≡ done c v
      → ((y : Ref) (w : List ℕ) → read_ref peek_in skip_in f u ≡ done y w → signs w ≡ true → alike (show_ref x) (show_ref y) ≡ false)
      → same_ref x (repeated Sum c) ≡ false
  sum_none c v h k = not_same Sum x c (λ y r. go r h)
    where
      go : {y : Ref} {m c : Expr} → Repeats Sum y m c → read_expr peek_in skip_in (suc (suc (suc f))) u ≡ done c v → alike (show_ref x) (show_ref y) ≡ false
      go (adds y o t ts) h = let (w, r, p) = sum_apart f u v y o t ts h in k y w r p

module _ (l : Left) (T s : List ℕ) (from : ℕ) (b m : List ℕ) where
  pub sum_unread : Repeated 0 l T s from b m None → Rests Sum l T s from b m None
  sum_unread rp = record {
    found = λ t d f lt x sp c w h. sum_none x f (drop from s) c w h (λ y v r p. repeated_none rp t d f lt x sp y v r);
    kept = rp.kept;
    past = tt;
  }

  module _ (g : Got) (rp : Repeated 0 l T s from b m (Some g)) where
    pub sum_unsigned : signs (drop g.at s) ≡ false → Rests Sum l T s from b m None
    sum_unsigned n = record {
      found = λ t d f lt x sp c w h. sum_none x f (drop from s) c w h (λ y v r k.
          let (y₂, r₂, _, _) = repeated_some rp t d f lt x sp in
          clash (signs v) k (ap signs (same_rest (sym r ∙ r₂)) ∙ n));
      kept = rp.kept;
      past = tt;
    }

    pub sum_found : signs (drop g.at s) ≡ true → Rests Sum l T s from b m (Some g)
    sum_found n = record {
      found = λ t d f lt x sp.
          let (y, r, al, ez) = repeated_some rp t d f lt x sp in
          let k = sum_together f (drop from s) (drop g.at s) y r n in
          record {
            ref = y;
            fuel = suc (suc f);
            enough = omega (arith, rp.past.after, rp.past.within);
            same = al;
            unread = λ h. k ∙ ap (λ (P : Parsed (List ℕ) Expr). next P (λ e v. done (joined y e) v)) h;
            read = λ m v h. (
              joined y m,
              k ∙ ap (λ (P : Parsed (List ℕ) Expr). next P (λ e v. done (joined y e) v)) h,
              repeats_ref (joined_form (suc f) (drop g.at s) v y m n h),
              repeats_rest (joined_form (suc f) (drop g.at s) v y m n h),
              omega (arith, ez, sum_rank t (variable_of T) y m),
            );
          };
      kept = rp.kept;
      past = rp.past;
    }
