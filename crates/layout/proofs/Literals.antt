-- Laws of a literal with an optional sign, by where the code found it, and of its copies.
use mathlib.Core.Path.{◌≡◌, refl, sym, ◌∙◌, ap}
use mathlib.Core.Bool.{Bool, true, false, cond}
use mathlib.Core.List.{List, [], ◌∷◌, ◌++◌, append-nil}
use Prim.Native.Nat.{ℕ, zero, suc, ◌+◌, ◌-◌, ◌≤◌, ◌<◌}
use native.Mathlib.Omega.{arith}
use lib.Dec.{eqb}
use lib.ListN.{length, take, drop, length-append}
use lib.Seq.{drop-drop}
use Rattle.syntax.specs.Bytes.{Token, tokens}
use Rattle.syntax.specs.Reader.{kind}
use Rattle.syntax.proofs.Places.{peek_tokens}
use Rattle.lexer.specs.declared.Tok.{Tok}
use Rattle.lexer.specs.Lex.{part, kind_number, Lexed}
use Rattle.lexer.proofs.Laws.{part_none}
use Rattle.printed.specs.Form.{after_blanks}
use Rattle.writing.specs.Written.{Writes, Fits, told, spanned, blanked, Moves}
use Rattle.writing.proofs.Writing.{writes_then, writes_as, fits_first, fits_then}
use Rattle.writing.proofs.TokenBytes.{blanked_append, tokens_left, token_spanned, token_onward}
use Rattle.layout.specs.declared.Literal.{Literal}
use Rattle.layout.specs.Copied.{signed_size, signed, after_signed, commas, listed, literal_bytes, Stands, comma_bytes}

-- ---- copies, by the bytes of one

commas_bytes : (n : ℕ) (xs : List Token) → blanked (commas n xs) ≡ comma_bytes n (blanked xs)
unfolding commas comma_bytes blanked after_blanks
commas_bytes zero xs = refl
commas_bytes (suc n) xs =
    ap (λ (b : List ℕ). 32 ∷ 44 ∷ b) (blanked_append xs (commas n xs) ∙ ap (λ (b : List ℕ). blanked xs ++ b) (commas_bytes n xs))

listed_bytes : (n : ℕ) (ts : List Token) → blanked (listed n ts) ≡ blanked (signed ts) ++ comma_bytes (n - 1) (blanked (signed ts))
listed_bytes n ts =
    blanked_append (signed ts) (commas (n - 1) (signed ts)) ∙ ap (λ (b : List ℕ). blanked (signed ts) ++ b) (commas_bytes (n - 1) (signed ts))

-- a comma and one copy
pub comma_one : (b : List ℕ) → (32 ∷ []) ++ ((44 ∷ []) ++ b) ≡ comma_bytes 1 b
unfolding comma_bytes
comma_one b = ap (λ (x : List ℕ). 32 ∷ 44 ∷ x) (sym (append-nil b))

-- one copy more, and none
pub comma_more : (k n : ℕ) (b : List ℕ) → k < n → comma_bytes (n - k) b ≡ comma_bytes 1 b ++ comma_bytes (n - (k + 1)) b
unfolding comma_bytes
comma_more k n b h =
    let e : n - k ≡ suc (n - (k + 1)) = omega arith in
    ap (λ (m : ℕ). comma_bytes m b) e ∙ ap (λ (x : List ℕ). 32 ∷ 44 ∷ (x ++ comma_bytes (n - (k + 1)) b)) (sym (append-nil b))

pub no_commas : (k n : ℕ) (b : List ℕ) → n ≤ k → comma_bytes (n - k) b ≡ []
unfolding comma_bytes
no_commas k n b h = let e : n - k ≡ 0 = omega arith in ap (λ (m : ℕ). comma_bytes m b) e

-- every copy but the first has its comma
comma_long : (n : ℕ) (b : List ℕ) → n ≤ length (comma_bytes n b)
unfolding comma_bytes
comma_long zero b = omega arith
comma_long (suc n) b = omega (arith, comma_long n b, length-append b (comma_bytes n b))

pub listed_long : (n : ℕ) (ts : List Token) → n ≤ length (blanked (listed n ts)) + 1
listed_long n ts =
    let b = blanked (signed ts) in
    omega (arith, comma_long (n - 1) b, ap length (listed_bytes n ts), length-append b (comma_bytes (n - 1) b))

-- ---- a literal with an optional sign

take_two : (ts : List Token) → take 1 ts ++ take 1 (drop 1 ts) ≡ take 2 ts
take_two [] = refl
take_two (t ∷ []) = refl
take_two (t ∷ u ∷ ts) = refl

-- where the code found its tokens: a is where the first begins without leading zeros
module _ (s : List ℕ) (at : ℕ) (t : Tok) (l : Lexed s at t) (a : ℕ) (from : a ≤ t.stop)
    (e : part s a t.stop ≡ told (kind_number t.kind) (part s t.start t.stop)) (digits? : Bool) (q : digits? ≡ eqb (kind_number t.kind) 3) where
  abbrev ts : List Token
  ts = tokens (drop at s)

  sized : signed_size ts ≡ cond digits? 1 2
  sized = ap (λ (n : ℕ). cond (eqb n 3) 1 2) (sym (ap kind (peek_tokens (drop at s))) ∙ l.kinds) ∙ ap (λ (b : Bool). cond b 1 2) (sym q)

  head_bytes : spanned (part s a t.stop) ≡ blanked (take 1 ts)
  head_bytes = ap spanned e ∙ token_spanned s at t l

  -- digits alone
  pub stands_one : digits? ≡ true → Stands s at (record { first = a; stop = t.stop; second = t.stop; next = t.stop })
  stands_one h =
      let n : 1 ≡ signed_size ts = sym (sized ∙ ap (λ (b : Bool). cond b 1 2) h) in
      record {
        bytes =
            (λ i. head_bytes i ++ spanned (part_none s t.stop i)) ∙ append-nil (blanked (take 1 ts)) ∙ ap (λ (k : ℕ). blanked (take k ts)) n;
        within = record { first = from; stop = l.within; second = omega arith; next = l.within };
        left = tokens_left s at t l ∙ ap (λ (k : ℕ). drop k ts) n;
        from = omega (arith, l.from, l.order);
        onward = token_onward s at t l;
      }

  -- a sign and digits, of which b is where they begin
  pub stands_two : digits? ≡ false → (u : Tok) → Lexed s t.stop u → (b : ℕ) → b ≤ u.stop
      → part s b u.stop ≡ told (kind_number u.kind) (part s u.start u.stop)
      → Stands s at (record { first = a; stop = t.stop; second = b; next = u.stop })
  stands_two h u m b w f =
      let n : 2 ≡ signed_size ts = sym (sized ∙ ap (λ (b : Bool). cond b 1 2) h) in
      let v = tokens_left s at t l in
      record {
        bytes =
            (λ i. head_bytes i ++ (ap spanned f ∙ token_spanned s t.stop u m ∙ ap (λ (us : List Token). blanked (take 1 us)) v) i)
            ∙ sym (blanked_append (take 1 ts) (take 1 (drop 1 ts))) ∙ ap blanked (take_two ts) ∙ ap (λ (k : ℕ). blanked (take k ts)) n;
        within = record { first = from; stop = l.within; second = w; next = m.within };
        left = tokens_left s t.stop u m ∙ ap (drop 1) v ∙ drop-drop 1 1 ts ∙ ap (λ (k : ℕ). drop k ts) n;
        from = omega (arith, l.from, l.order, m.from, m.order);
        onward = λ (k : at < length s). omega (arith, token_onward s at t l k, m.from, m.order);
      }

-- so many copies of it
module _ (s : List ℕ) (at : ℕ) (l : Literal) (h : Stands s at l) (n : ℕ) where
  copies_bytes : blanked (listed n (tokens (drop at s))) ≡ literal_bytes s l ++ comma_bytes (n - 1) (literal_bytes s l)
  copies_bytes = listed_bytes n (tokens (drop at s)) ∙ ap (λ (b : List ℕ). b ++ comma_bytes (n - 1) b) (sym h.bytes)

  pub copies_first : (to : ℕ) → Fits to (blanked (listed n (tokens (drop at s)))) → Fits to (literal_bytes s l)
  copies_first to f = fits_first to (literal_bytes s l) (comma_bytes (n - 1) (literal_bytes s l)) copies_bytes f

  pub copies_others : {b m : List ℕ} {to p : ℕ} → Fits to (blanked (listed n (tokens (drop at s)))) → Writes b to (literal_bytes s l) m p
      → Fits p (comma_bytes (n - 1) (literal_bytes s l))
  copies_others f u = fits_then (literal_bytes s l) (comma_bytes (n - 1) (literal_bytes s l)) copies_bytes f u

  pub copies_moves : {b m a : List ℕ} {to p r : ℕ} → Writes b to (literal_bytes s l) m p → Writes m p (comma_bytes (n - 1) (literal_bytes s l)) a r
      → Moves b to s at (listed n) after_signed a (record { to = r; at = l.next })
  copies_moves u v = record {
    writes = writes_as (sym copies_bytes) (writes_then u v);
    left = h.left;
    from = h.from;
    onward = h.onward;
    within = h.within.next;
  }
