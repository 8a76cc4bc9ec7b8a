-- The bytes of a token, by where the code found it.
use mathlib.Core.Path.{◌≡◌, refl, sym, ◌∙◌, ap}
use mathlib.Core.Bool.{Bool, true, false, cond}
use mathlib.Core.List.{List, [], ◌∷◌, ◌++◌, append-nil, append_assoc}
use Prim.Native.Nat.{ℕ, zero, suc, ◌+◌, ◌-◌, ◌≤◌, ◌<◌}
use native.Mathlib.Decide.{ℕ_discrete}
use native.Mathlib.Omega.{arith}
use borrow.Author.Tests.{ne_eqb}
use lib.Dec.{eqb}
use lib.ListN.{length, get_or, take, drop, length-drop, length-take}
use Rattle.syntax.specs.Bytes.{choose, Token, name, other_word, digits, sign, bytes_of, kind_of, token_of, token_size, tokens, trimmed}
use Rattle.syntax.specs.Reader.{kind, text, first, rest, peek_in, skip_in, token_in, after_in}
use Rattle.syntax.proofs.TestLaws.{cond_each, choose_each}
use Rattle.syntax.proofs.Places.{peek_tokens, skip_tokens}
use Rattle.lexer.specs.declared.Tok.{Tok}
use Rattle.lexer.specs.Lex.{part, kind_number, Lexed}
use Rattle.lexer.proofs.Laws.{part_none, part_cons}
use Rattle.printed.specs.Form.{shortest, zeros_gone, after_blanks}
use Rattle.writing.specs.declared.Moved.{Moved}
use Rattle.writing.specs.Written.{Writes, told, spanned, blanked, Moves}
use Rattle.writing.proofs.Writing.{writes_as}

-- ---- digits without leading zeros

-- a zero and more digits
pub zero_gone : (s : List ℕ) (i e : ℕ) → i + 1 < e → e ≤ length s → get_or s i 0 ≡ 48 → shortest (part s i e) ≡ shortest (part s (i + 1) e)
unfolding shortest
zero_gone s i e h b z =
    let p = part_cons s i e (omega arith) b in
    let q = part_cons s (i + 1) e h b in
    ap shortest (p ∙ (λ j. z j ∷ q j)) ∙ ap shortest (sym q)

-- another digit
pub zero_not : (s : List ℕ) (i e : ℕ) → i + 1 < e → e ≤ length s → (get_or s i 0 ≡ 48 → ⊥) → part s i e ≡ shortest (part s i e)
unfolding shortest
zero_not s i e h b n =
    let p = part_cons s i e (omega arith) b in
    let q = part_cons s (i + 1) e h b in
    let r = p ∙ ap (λ (ds : List ℕ). get_or s i 0 ∷ ds) q in
    let ds = get_or s (i + 1) 0 ∷ part s (i + 1 + 1) e in
    r ∙ ap (λ (c : Bool). choose c (λ _. shortest ds) (λ _. get_or s i 0 ∷ ds)) (sym (ne_eqb (get_or s i 0) 48 n)) ∙ ap shortest (sym r)

-- the last digit, or none
pub digit_last : (s : List ℕ) (i e : ℕ) → e ≤ i + 1 → part s i e ≡ shortest (part s i e)
unfolding shortest
digit_last s i e h = go (e - i) (drop i s) (omega arith)
  where
    go : (n : ℕ) (l : List ℕ) → n ≤ 1 → take n l ≡ shortest (take n l)
    go zero l b = refl
    go (suc zero) [] b = refl
    go (suc zero) (x ∷ l) b = refl
    go (suc (suc n)) l b = absurd (omega arith)

-- ---- tokens

pub told_digits : (k : ℕ) (b : List ℕ) → eqb k 3 ≡ true → told k b ≡ shortest b
told_digits k b e = ap (λ (c : Bool). cond c (shortest b) b) e

pub told_other : (k : ℕ) (b : List ℕ) → eqb k 3 ≡ false → told k b ≡ b
told_other k b e = ap (λ (c : Bool). cond c (shortest b) b) e

pub told_token : (t : Token) → told (kind_of t) (bytes_of t) ≡ bytes_of (zeros_gone t)
told_token (name b) = refl
told_token (other_word b) = refl
told_token (digits b) = refl
told_token (sign b) = refl

-- bytes that are some, after a blank
spanned_some : (b : List ℕ) → 0 < length b → 32 ∷ b ≡ spanned b
spanned_some [] h = absurd (omega arith)
spanned_some (x ∷ b) h = refl

pub span_none : (s : List ℕ) (a e : ℕ) → a ≡ e → [] ≡ spanned (part s a e)
span_none s a e h = ap spanned (sym (part_none s a) ∙ ap (part s a) h)

pub span_some : (s : List ℕ) (a e : ℕ) → a < e → e ≤ length s → spanned (part s a e) ≡ 32 ∷ part s a e
span_some s a e h b = sym (spanned_some (part s a e) (omega (arith, length-take (e - a) (drop a s), length-drop a s)))

shortest_some : (d : List ℕ) → 0 < length d → 0 < length (shortest d)
unfolding shortest
shortest_some [] h = absurd (omega arith)
shortest_some (d ∷ []) h = omega arith
shortest_some (d ∷ e ∷ ds) h =
    choose_each (λ (x : List ℕ). 0 < length x) (eqb d 48) _ _ (λ _. shortest_some (e ∷ ds) (omega arith)) (λ _. omega arith)

told_some : (k : ℕ) (b : List ℕ) → 0 < length b → 0 < length (told k b)
told_some k b h = cond_each (λ (x : List ℕ). 0 < length x) (eqb k 3) (shortest_some b h) h

kind_some : (t : Token) → kind_of t ≡ 0 → ⊥
kind_some (name b) h = omega (arith, h)
kind_some (other_word b) h = omega (arith, h)
kind_some (digits b) h = omega (arith, h)
kind_some (sign b) h = omega (arith, h)

-- the first token, after a blank; nothing where there is none
spanned_first : (ts : List Token) → ((kind (first ts) ≡ 0 → ⊥) → 0 < length (text (first ts)))
    → spanned (told (kind (first ts)) (text (first ts))) ≡ blanked (take 1 ts)
unfolding blanked after_blanks
spanned_first [] h = refl
spanned_first (t ∷ ts) h =
    sym (spanned_some (told (kind_of t) (bytes_of t)) (told_some (kind_of t) (bytes_of t) (h (kind_some t))))
    ∙ ap (λ (b : List ℕ). 32 ∷ b) (told_token t ∙ sym (append-nil (bytes_of (zeros_gone t))))

pub blanked_append : (ts us : List Token) → blanked (ts ++ us) ≡ blanked ts ++ blanked us
unfolding blanked after_blanks
blanked_append [] us = refl
blanked_append (t ∷ ts) us =
    ap (λ (b : List ℕ). 32 ∷ (bytes_of (zeros_gone t) ++ b)) (blanked_append ts us)
    ∙ ap (λ (b : List ℕ). 32 ∷ b) (sym (append_assoc (bytes_of (zeros_gone t)) (blanked ts) (blanked us)))

pub rest_drop : (ts : List Token) → rest ts ≡ drop 1 ts
rest_drop [] = refl
rest_drop (t ∷ ts) = refl

module _ (s : List ℕ) (at : ℕ) (t : Tok) (l : Lexed s at t) where
  pub tokens_left : tokens (drop t.stop s) ≡ drop 1 (tokens (drop at s))
  tokens_left = ap tokens (sym l.next) ∙ skip_tokens (drop at s) ∙ rest_drop (tokens (drop at s))

  pub token_told : told (kind_number t.kind) (part s t.start t.stop) ≡ told (kind (first (tokens (drop at s)))) (text (first (tokens (drop at s))))
  token_told =
      let p = peek_tokens (drop at s) in
      λ i. told ((sym l.kinds ∙ ap kind p) i) ((sym l.bytes ∙ ap text p) i)

  first_kind : kind (first (tokens (drop at s))) ≡ kind_number t.kind
  first_kind = sym (ap kind (peek_tokens (drop at s))) ∙ l.kinds

  first_some : (kind (first (tokens (drop at s))) ≡ 0 → ⊥) → 0 < length (text (first (tokens (drop at s))))
  first_some n =
      omega (
        arith,
        ap length (sym (ap text (peek_tokens (drop at s))) ∙ l.bytes),
        length-take (t.stop - t.start) (drop t.start s),
        length-drop t.start s,
        l.some (λ e. n (first_kind ∙ ap kind_number e)),
        l.within,
      )

  -- its bytes after a blank are those of the first token
  pub token_spanned : spanned (told (kind_number t.kind) (part s t.start t.stop)) ≡ blanked (take 1 (tokens (drop at s)))
  token_spanned = ap spanned token_told ∙ spanned_first (tokens (drop at s)) first_some

  -- where no token is left, no byte is
  nothing_after : (u : List ℕ) → kind (peek_in u) ≡ 0 → skip_in u ≡ []
  unfolding peek_in skip_in
  nothing_after u h = go (trimmed u) h
    where
      go : (v : List ℕ) → kind (token_in v) ≡ 0 → after_in v ≡ []
      go [] h = refl
      go (b ∷ v) h = absurd (kind_some (token_of b (take (token_size b v) (b ∷ v))) h)

  pub token_onward : at < length s → at < t.stop
  token_onward h = elim (ℕ_discrete (kind_number t.kind) 0) [
    | yes z ↦ omega (arith, h, ap length (sym l.next ∙ nothing_after (drop at s) (l.kinds ∙ z)), length-drop t.stop s)
    | no n ↦ omega (arith, l.from, l.some (λ e. n (ap kind_number e)))
  ]

-- ---- the next token

pub next_moves : (b : List ℕ) (to : ℕ) (s : List ℕ) (at : ℕ) (t : Tok) → Lexed s at t → {a : List ℕ} {r : ℕ}
    → Writes b to (spanned (told (kind_number t.kind) (part s t.start t.stop))) a r
    → Moves b to s at (take 1) (drop 1) a (record { to = r; at = t.stop })
next_moves b to s at t l w = record {
  writes = writes_as (token_spanned s at t l) w;
  left = tokens_left s at t l;
  from = omega (arith, l.from, l.order);
  onward = token_onward s at t l;
  within = l.within;
}

-- the same tokens
pub moves_as : {b a s : List ℕ} {to at : ℕ} {f g h k : List Token → List Token} {r : Moved} → f (tokens (drop at s)) ≡ h (tokens (drop at s))
    → g (tokens (drop at s)) ≡ k (tokens (drop at s))
    → Moves b to s at f g a r → Moves b to s at h k a r
moves_as p q u = record { writes = writes_as (ap blanked p) u.writes; left = u.left ∙ q; from = u.from; onward = u.onward; within = u.within }
