-- A list of parts with commas between them, by what is read from place to place.
use mathlib.Core.Path.{◌≡◌, refl, ◌∙◌, ap}
use mathlib.Core.Bool.{Bool}
use mathlib.Core.List.{List, [], ◌∷◌}
use Prim.Native.Nat.{ℕ, zero, suc, ◌-◌, ◌≤◌, ◌<◌}
use native.Mathlib.Omega.{arith}
use lib.ListN.{length, drop}
use Rattle.std.specs.Prelude.{Option, None, Some}
use Rattle.syntax.specs.Bytes.{bytes, choose}
use Rattle.syntax.specs.Reader.{Parsed, done, Reader, next, read_more, peek_in, skip_in}
use Rattle.lexer.specs.Places.{Any, passes, NotRead, ReadTo, Finds}
use Rattle.lexer.proofs.InTurn.{not_then, stands, stands_not, stands_onward}
use Rattle.lexer.proofs.Said.{sign_text}
use Rattle.heading.specs.Lists.{read_some}

-- ---- a list by its first part and the rest

pub fuelled : (P : ℕ → Type 0) → ((f : ℕ) → P (suc f)) → (n f : ℕ) → n < f → P f
fuelled P p n zero b = absurd (omega arith)
fuelled P p n (suc f) b = p f

module _ {A : Type 0} (r : Reader (List ℕ) A) where
  abbrev pub on : ℕ → A → Reader (List ℕ) (List A)
  on f a v = next (read_more peek_in skip_in f r v) (λ xs. done (a ∷ xs))

  -- the first is not read
  pub list_not : {s : List ℕ} {from : ℕ} → NotRead s from r → (f : ℕ) → NotRead s from (read_some f r)
  list_not g f = not_then (on f) g

module _ {A : Type 0} (r : Reader (List ℕ) A) where
  abbrev by_comma : ℕ → List ℕ → Bool → Parsed (List ℕ) (List A)
  by_comma f u b = choose b (λ _. read_some f r (skip_in u)) (λ _. done [] u)

module _ {A : Type 0} (r : Reader (List ℕ) A) {s : List ℕ} where
  -- further parts where a comma stands, and where none does
  pub more_comma : (f : ℕ) {m k : ℕ} → ReadTo Any s m (passes (bytes ",")) k → read_more peek_in skip_in (suc f) r (drop m s) ≡ read_some f r (drop k s)
  unfolding read_more
  more_comma f {m} g =
      let (e, n) = stands (bytes ",") g in ap (by_comma r f (drop m s)) (sign_text (bytes ",") refl (drop m s) ∙ e) ∙ ap (read_some f r) n

  pub more_none : (f : ℕ) {m : ℕ} → NotRead s m (passes (bytes ",")) → m ≤ length s → read_more peek_in skip_in (suc f) r (drop m s) ≡ done [] (drop m s)
  unfolding read_more
  more_none f {m} g b = ap (by_comma r f (drop m s)) (sign_text (bytes ",") refl (drop m s) ∙ stands_not (bytes ",") g b)

  module _ {P : A → Type 0} {from m : ℕ} (h : ReadTo P s from r m) where
    -- no comma after it
    pub list_last : {Q : List A → Type 0} → NotRead s m (passes (bytes ","))
        → (((f : ℕ) → read_more peek_in skip_in (suc f) r (drop m s) ≡ done [] (drop m s)) → Q (h.what ∷ []))
        → (f : ℕ) → length s - from < f → ReadTo Q s from (read_some f r) m
    list_last {Q} g q f b = fuelled (λ f. ReadTo Q s from (read_some f r) m) (λ f. record {
      what = h.what ∷ [];
      reads =
          ap (λ (p : Parsed (List ℕ) A). next p (on r (suc f))) h.reads
          ∙ ap (λ (p : Parsed (List ℕ) (List A)). next p (λ xs. done (h.what ∷ xs))) (more_none f g h.within);
      holds = q (λ f. more_none f g h.within);
      from = h.from;
      within = h.within;
    }) _ f b

    -- a comma, and the rest
    module _ {k : ℕ} (g : ReadTo Any s m (passes (bytes ",")) k) where
      -- what is left gets shorter
      pub onward : from < k
      onward = omega (arith, h.from, stands_onward (bytes ",") g (omega arith))

      pub list_more : {R' : Type 0} (after : R' → ℕ) (R Q : R' → List A → Type 0) (o : Option R')
          → ((f : ℕ) → length s - k < f → Finds after R s k (read_some f r) o)
          → ((b : R') → o ≡ Some b → (xs : List A) (u : List ℕ) → (f : ℕ) × (read_more peek_in skip_in f r (drop m s) ≡ done xs u) → R b xs → Q b (h.what ∷ xs))
          → (f : ℕ) → length s - from < f → Finds after Q s from (read_some f r) o
      list_more after R Q None w q f b = fuelled (λ f. length s - from < f → NotRead s from (read_some f r)) (λ f c. record {
        fails = λ _.
            ap (λ (p : Parsed (List ℕ) A). next p (on r (suc f))) h.reads
            ∙ ap (λ (p : Parsed (List ℕ) (List A)). next p (λ xs. done (h.what ∷ xs)))
            (more_comma f g ∙ (w f (omega (arith, onward, g.within))).fails g.within);
      }) _ f b b
      list_more after R Q (Some b) w q f d = fuelled (λ f. length s - from < f → ReadTo (Q b) s from (read_some f r) (after b)) (λ f c.
          let x = w f (omega (arith, onward, g.within)) in
          let e = more_comma f g ∙ x.reads in record {
            what = h.what ∷ x.what;
            reads =
                ap (λ (p : Parsed (List ℕ) A). next p (on r (suc f))) h.reads
                ∙ ap (λ (p : Parsed (List ℕ) (List A)). next p (λ xs. done (h.what ∷ xs))) e;
            holds = q b refl x.what (drop (after b) s) (suc f, e) x.holds;
            from = omega (arith, onward, x.from);
            within = x.within;
          }) _ f d d
