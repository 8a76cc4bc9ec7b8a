-- Laws of the tokens of a line as they are printed: what comes next, what the code finds of `r*`, and the whole line.
use mathlib.Core.Path.{◌≡◌, refl, sym, ◌∙◌, ap, subst}
use mathlib.Core.Bool.{Bool, true, false, cond, ◌&&◌}
use mathlib.Core.List.{List, [], ◌∷◌, ◌++◌, append_assoc}
use Prim.Native.Nat.{ℕ, zero, suc, ◌+◌, ◌≤◌, ◌<◌, min}
use native.Mathlib.Omega.{arith}
use lib.Dec.{eqb}
use lib.ListN.{length, take, drop, drop_of_length-le}
use lib.Seq.{drop-drop}
use mathlib.Core.Option.{Option as Maybe}
use Rattle.std.specs.Prelude.{Option, None, Some}
use Rattle.syntax.specs.Bytes.{choose, same, bytes, Token, tokens, tokens_after, bytes_of}
use Rattle.syntax.specs.Grammar.{number}
use Rattle.syntax.specs.Reader.{broken, done, kind, text, first, rest, read_digits, peek_in, skip_in}
use Rattle.syntax.proofs.Places.{peek_tokens, skip_tokens}
use Rattle.lexer.specs.declared.Tok.{Tok}
use Rattle.lexer.specs.Lex.{part, kind_number, Lexed}
use Rattle.lexer.specs.Places.{Lands, Any, passes, NotRead, ReadTo}
use Rattle.lexer.proofs.InTurn.{goes_to, goes_not, stands, stands_not, stands_onward}
use Rattle.printed.specs.Form.{after_blanks}
use Rattle.writing.specs.declared.Moved.{Moved}
use Rattle.writing.specs.Written.{Writes, Fits, told, blanked, Moves}
use Rattle.writing.proofs.Writing.{writes_then, writes_as, fits_first, fits_then}
use Rattle.writing.proofs.TokenBytes.{blanked_append, rest_drop, tokens_left, token_told, moves_as}
use Rattle.layout.specs.declared.Repeat.{Repeat}
use Rattle.layout.specs.Copied.{signed_size, after_signed, listed, repeats, front, back, spread_after, spread, line_bytes, Starred, Repeats}
use Rattle.layout.proofs.Literals.{listed_long}

-- ---- what comes next

spread_drop : (d : Bool) (k : ℕ) (ts : List Token) → spread_after d k ts ≡ spread d (drop k ts)
unfolding spread_after
spread_drop d zero ts = refl
spread_drop d (suc k) [] = refl
spread_drop d (suc k) (t ∷ ts) = spread_drop d k ts

pub spread_front : (d : Bool) (ts : List Token) → spread d ts ≡ front d ts ++ spread d (back d ts)
unfolding spread_after front back repeats
spread_front true [] = refl
spread_front false [] = refl
spread_front d (t ∷ ts) = go (repeats d (t ∷ ts))
  where
    k : ℕ
    k = signed_size (drop 1 ts)

    go : (c : Bool)
        → choose c (λ _. listed (number (bytes_of t)) (drop 1 ts) ++ spread_after d (suc k) ts) (λ _. t ∷ spread_after d zero ts)
        ≡ cond c (listed (number (bytes_of t)) (drop 1 ts)) (t ∷ []) ++ spread d (cond c (drop k (drop 1 ts)) ts)
    go true =
        let e : suc k ≡ 1 + k = omega arith in
        ap (λ (us : List Token). listed (number (bytes_of t)) (drop 1 ts) ++ us)
        (spread_drop d (suc k) ts ∙ ap (λ (n : ℕ). spread d (drop n ts)) e ∙ ap (spread d) (sym (drop-drop k 1 ts)))
    go false = refl

-- ---- `r*`

two_rests : (ts : List Token) → rest (rest ts) ≡ drop 2 ts
two_rests [] = refl
two_rests (t ∷ []) = refl
two_rests (t ∷ u ∷ ts) = refl

module _ (s : List ℕ) (at : ℕ) where
  pub no_repeat : (d : Bool) → d ≡ false → Repeats d s at None
  unfolding repeats
  no_repeat d e = subst (λ (b : Bool). Repeats b s at None) (sym e) tt

  -- by the digits that stand there, and by what comes after them
  by_tests : (o : Option Repeat) (x y : Bool) → eqb (kind (peek_in (drop at s))) 3 ≡ x → same (bytes "*") (text (first (rest (tokens (drop at s))))) ≡ y
      → Starred (x && y) s at o
      → Repeats true s at o
  unfolding repeats
  by_tests o x y e f h =
      subst (λ (c : Bool). Starred c s at o) (λ i. sym (ap (λ (t : Maybe Token). eqb (kind t) 3) (sym (peek_tokens (drop at s))) ∙ e) i && sym f i) h

  -- no digits
  pub no_digits : NotRead s at (read_digits peek_in skip_in) → at ≤ length s → (x : Bool) → x ≡ true → Repeats x s at None
  no_digits g b x e = subst (λ (c : Bool). Repeats c s at None) (sym e) (go _ refl ((goes_not {P = Any} g).lands b))
    where
      go : (y : Bool) → eqb (kind (peek_in (drop at s))) 3 ≡ y
          → Lands Any s (cond y (done (text (peek_in (drop at s))) (skip_in (drop at s))) broken) (length s + 1) → Repeats true s at None
      go true f l = absurd (omega (arith, l.1))
      go false f l = by_tests None false _ f refl tt

  -- digits, which end at m
  module _ {m n : ℕ} (d : ReadTo (λ w. n ≡ min (number w) 2147483648) s at (read_digits peek_in skip_in) m) (x : Bool) (b : x ≡ true) where
    by_digits : (o : Option Repeat)
        → (eqb (kind (peek_in (drop at s))) 3 ≡ true → skip_in (drop at s) ≡ drop m s → n ≡ min (number (text (peek_in (drop at s)))) 2147483648
        → Repeats true s at o) → Repeats x s at o
    by_digits o f = subst (λ (c : Bool). Repeats c s at o) (sym b) (go _ refl ((goes_to d).lands (omega (arith, d.from, d.within))))
      where
        go : (y : Bool) → eqb (kind (peek_in (drop at s))) 3 ≡ y
            → Lands (λ w. n ≡ min (number w) 2147483648) s (cond y (done (text (peek_in (drop at s))) (skip_in (drop at s))) broken) m → Repeats true s at o
        go true e l = f e l.0 l.2
        go false e l = absurd (omega (arith, l, d.within))

    after_digits : skip_in (drop at s) ≡ drop m s → tokens (drop m s) ≡ rest (tokens (drop at s))
    after_digits k = ap tokens (sym k) ∙ skip_tokens (drop at s)

    star : skip_in (drop at s) ≡ drop m s → (y : Bool) → same (bytes "*") (text (peek_in (drop m s))) ≡ y
        → same (bytes "*") (text (first (rest (tokens (drop at s))))) ≡ y
    star k y h = ap (λ (t : Maybe Token). same (bytes "*") (text t)) (ap first (sym (after_digits k)) ∙ sym (peek_tokens (drop m s))) ∙ h

    pub no_star : NotRead s m (passes (bytes "*")) → Repeats x s at None
    no_star p = by_digits None (λ e k q. by_tests None true false e (star k false (stands_not (bytes "*") p d.within)) tt)

    pub star_found : {r : ℕ} → ReadTo Any s m (passes (bytes "*")) r → Repeats x s at (Some (record { next = r; copies = n }))
    star_found {r} p = by_digits (Some (record { next = r; copies = n })) (λ e k q.
        let (z, w) = stands (bytes "*") p in
        by_tests (Some (record { next = r; copies = n })) true true e (star k true z) (
          p.within,
          omega (arith, d.from, stands_onward (bytes "*") p (omega arith)),
          ap tokens (sym w) ∙ skip_tokens (drop m s) ∙ ap rest (after_digits k) ∙ two_rests (tokens (drop at s)),
          q ∙ ap (λ (t : Maybe Token). min (number (text t)) 2147483648) (peek_tokens (drop at s)),
        ))

  -- the copies that the code counts are those that are written, where they fit
  module _ (r : Repeat) (data? : Bool) (h : Repeats data? s at (Some r)) where
    starred : (c : Bool) → repeats data? (tokens (drop at s)) ≡ c → Starred c s at (Some r)
        → (repeats data? (tokens (drop at s)) ≡ true) × Starred true s at (Some r)
    starred true e l = (e, l)
    starred false e l = absurd l

    found : (repeats data? (tokens (drop at s)) ≡ true) × Starred true s at (Some r)
    found = starred _ refl h

    pub found_within : r.next ≤ length s
    found_within = found.1.0

    found_copies : (to : ℕ) → Fits to (blanked (front data? (tokens (drop at s)))) → r.copies ≡ number (text (first (tokens (drop at s))))
    unfolding front
    found_copies to f =
        let ts = tokens (drop at s) in
        let n = number (text (first ts)) in
        let e = ap (λ (c : Bool). length (blanked (cond c (listed n (drop 2 ts)) (take 1 ts)))) found.0 in
        omega (arith, found.1.3, listed_long n (drop 2 ts), e, f)

    -- so they are what comes next
    found_front : (to : ℕ) → Fits to (blanked (front data? (tokens (drop at s))))
        → listed r.copies (tokens (drop r.next s)) ≡ front data? (tokens (drop at s))
    unfolding front
    found_front to f =
        let ts = tokens (drop at s) in
        (λ i. listed (found_copies to f i) (found.1.2 i))
        ∙ ap (λ (c : Bool). cond c (listed (number (text (first ts))) (drop 2 ts)) (take 1 ts)) (sym found.0)

    pub found_room : (to : ℕ) → Fits to (blanked (front data? (tokens (drop at s)))) → Fits to (blanked (listed r.copies (tokens (drop r.next s))))
    found_room to f = omega (arith, ap (λ (us : List Token). length (blanked us)) (found_front to f), f)

    pub found_moves : {b a : List ℕ} {to : ℕ} {x : Moved} → Fits to (blanked (front data? (tokens (drop at s))))
        → Moves b to s r.next (listed r.copies) after_signed a x → Moves b to s at (front data?) (back data?) a x
    unfolding back
    found_moves {to = to} f u =
        let ts = tokens (drop at s) in
        record {
          writes = writes_as (ap blanked (found_front to f)) u.writes;
          left =
              u.left ∙ ap after_signed found.1.2
              ∙ ap (λ (c : Bool). cond c (after_signed (drop 2 ts)) (drop 1 ts)) (sym found.0);
          from = omega (arith, found.1.1, u.from);
          onward = λ (l : at < length s). omega (arith, found.1.1, u.from);
          within = u.within;
        }

  -- or no `r*` stands there, and the next token comes
  module _ (data? : Bool) (h : Repeats data? s at None) where
    unstarred : (c : Bool) → repeats data? (tokens (drop at s)) ≡ c → Starred c s at None → repeats data? (tokens (drop at s)) ≡ false
    unstarred true e l = absurd l
    unstarred false e l = e

    plain_front : front data? (tokens (drop at s)) ≡ take 1 (tokens (drop at s))
    unfolding front
    plain_front = let ts = tokens (drop at s) in ap (λ (c : Bool). cond c (listed (number (text (first ts))) (drop 2 ts)) (take 1 ts)) (unstarred _ refl h)

    pub plain_room : (to : ℕ) → Fits to (blanked (front data? (tokens (drop at s)))) → Fits to (blanked (take 1 (tokens (drop at s))))
    plain_room to f = omega (arith, ap (λ (us : List Token). length (blanked us)) plain_front, f)

    pub plain_moves : {b a : List ℕ} {to : ℕ} {x : Moved} → Moves b to s at (take 1) (drop 1) a x → Moves b to s at (front data?) (back data?) a x
    unfolding back
    plain_moves u =
        let ts = tokens (drop at s) in
        moves_as (sym plain_front) (ap (λ (c : Bool). cond c (after_signed (drop 2 ts)) (drop 1 ts)) (sym (unstarred _ refl h))) u

-- ---- all tokens

-- the next part, and what is left
pub blanked_spread : (d : Bool) (ts : List Token) → blanked (spread d ts) ≡ blanked (front d ts) ++ blanked (spread d (back d ts))
blanked_spread d ts = ap blanked (spread_front d ts) ∙ blanked_append (front d ts) (spread d (back d ts))

pub spread_room : (to : ℕ) (d : Bool) (ts : List Token) → Fits to (blanked (spread d ts)) → Fits to (blanked (front d ts))
spread_room to d ts f = fits_first to (blanked (front d ts)) _ (blanked_spread d ts) f

pub none_left : (d : Bool) (s : List ℕ) (i : ℕ) → length s ≤ i → blanked (spread d (tokens (drop i s))) ≡ []
unfolding blanked after_blanks spread_after tokens_after
none_left d s i h = ap (λ (u : List ℕ). blanked (spread d (tokens u))) (drop_of_length-le s {i = i} h)

-- ---- a line

-- by the first token that the code found, whose bytes are `head` without leading zeros
module _ (s : List ℕ) (t : Tok) (l : Lexed s 0 t) (d : Bool) (head : List ℕ) (e : head ≡ told (kind_number t.kind) (part s t.start t.stop)) where
  abbrev body : List ℕ
  body = blanked (spread d (tokens (drop t.stop s)))

  line_parts : line_bytes d (tokens s) ≡ head ++ (body ++ (10 ∷ []))
  unfolding line_bytes
  line_parts =
      (λ i. (sym (e ∙ token_told s 0 t l) i ++ blanked (spread d ((rest_drop (tokens s) ∙ sym (tokens_left s 0 t l)) i))) ++ (10 ∷ []))
      ∙ append_assoc head body (10 ∷ [])

  pub line_first : (to : ℕ) → Fits to (line_bytes d (tokens s)) → Fits to head
  line_first to f = fits_first to head (body ++ (10 ∷ [])) line_parts f

  module _ {b m : List ℕ} {to p : ℕ} (f : Fits to (line_bytes d (tokens s))) (u : Writes b to head m p) where
    after_first : Fits p (body ++ (10 ∷ []))
    after_first = fits_then head (body ++ (10 ∷ [])) line_parts f u

    pub line_rest : Fits p body
    line_rest = fits_first p body (10 ∷ []) refl after_first

    module _ {a : List ℕ} {q : ℕ} (v : Writes m p body a q) where
      pub line_newline : Fits q (10 ∷ [])
      line_newline = fits_then body (10 ∷ []) refl after_first v

      pub line_written : {e : List ℕ} {r : ℕ} → Writes a q (10 ∷ []) e r → Writes b to (line_bytes d (tokens s)) e r
      line_written w = writes_as (sym line_parts) (writes_then u (writes_then v w))
