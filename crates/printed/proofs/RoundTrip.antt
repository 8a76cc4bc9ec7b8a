-- The lexer round trip: tokens as the lexer makes them, written with a blank between them, are the tokens of these bytes. By document 01's tokens
-- alone: nothing here knows of the printed form but `spaced`.
use mathlib.Core.Path.{◌≡◌, refl, sym, ◌∙◌, ap, ap₂}
use mathlib.Core.Bool.{Bool, true, false, cond, ◌&&◌}
use mathlib.Core.List.{List, [], ◌∷◌, ◌++◌}
use mathlib.Core.Option.{some}
use Prim.Native.Nat.{ℕ, suc, ◌<◌}
use native.Mathlib.Omega.{arith}
use lib.Dec.{eqb, leb}
use lib.ListN.{length, take, drop}
use lib.Seq.{take-append_seam, drop-append_seam}
use borrow.Author.Tests.{leb-true, lt-leb, ne_eqb}
use Rattle.syntax.specs.Bytes.{between, all, letter, digit, in_word, run, Token, name, other_word, digits, sign, bytes_of, word_of, sign_size, token_size, token_of, tokens_after, tokens, trimmed}
use Rattle.syntax.specs.Reader.{token_in, after_in, peek_in, skip_in}
use Rattle.syntax.specs.Sane.{Each}
use Rattle.syntax.proofs.Spelling.{both_true}
use Rattle.syntax.proofs.Sound.{first_is}
use Rattle.syntax.proofs.CompleteExpr.{yes_choose, no_choose}
use Rattle.syntax.proofs.Places.{peek_tokens, skip_tokens}
use Rattle.printed.specs.Form.{after_blanks, spaced}

-- ---- tokens as the lexer makes them

-- the end of a line, or a blank
pub data Ends : List ℕ → Type 0 where
  end : Ends []
  blank : (s : List ℕ) → Ends (32 ∷ s)

abbrev pub Wordly : List ℕ → Type 0
Wordly [] = ⊥
Wordly (b ∷ s) = (letter b ≡ true) × (all in_word s ≡ true)

abbrev pub Numeral : List ℕ → Type 0
Numeral [] = ⊥
Numeral (b ∷ s) = (digit b ≡ true) × (all digit s ≡ true)

pub record Sign (b : ℕ) (s : List ℕ) : Type 0 where
  pub no_letter : letter b ≡ false
  pub no_digit : digit b ≡ false
  pub no_blank : eqb b 32 ≡ false
  pub sized : (e : List ℕ) → Ends e → sign_size (b ∷ (s ++ e)) ≡ suc (length s)

abbrev pub Signly : List ℕ → Type 0
Signly [] = ⊥
Signly (b ∷ s) = Sign b s

abbrev pub Proper : Token → Type 0
Proper (name w) = Wordly w × (word_of w ≡ name w)
Proper (other_word w) = Wordly w × (word_of w ≡ other_word w)
Proper (digits d) = Numeral d
Proper (sign g) = Signly g

-- ---- from its bytes back to a token

run_ends : (p : ℕ → Bool) (s : List ℕ) {e : List ℕ} → all p s ≡ true → p 32 ≡ false → Ends e → run p (s ++ e) ≡ length s
unfolding run
run_ends p [] h n end = refl
run_ends p [] h n (blank e) = no_choose _ _ n refl
run_ends p (b ∷ s) h n f = let (x, y) = both_true (p b) (all p s) h in yes_choose _ _ x (ap suc (run_ends p s y n f))

-- the first byte of a token, the size that the lexer gives it, and what it makes of it
record Front (b : ℕ) (s : List ℕ) (t : Token) : Type 0 where
  no_blank : eqb b 32 ≡ false
  sized : {e : List ℕ} → Ends e → token_size b (s ++ e) ≡ suc (length s)
  made : token_of b (b ∷ s) ≡ t

between_ne : (a z b c : ℕ) → c < a → between a z b ≡ true → eqb b c ≡ false
between_ne a z b c l h = let k = leb-true a b (both_true (leb a b) (leb b z) h).0 in ne_eqb b c (λ e. omega arith)

-- a digit is no letter
digit_letter : (b : ℕ) → digit b ≡ true → letter b ≡ false
digit_letter b h =
    let k = leb-true b 57 (both_true (leb 48 b) (leb b 57) h).1 in
    ap (λ (c : Bool). c && leb b 122) (lt-leb 97 b (omega arith))

word_front : (b : ℕ) (s : List ℕ) (t : Token) → Wordly (b ∷ s) → word_of (b ∷ s) ≡ t → Front b s t
unfolding token_size
word_front b s t w m = record {
  no_blank = between_ne 97 122 b 32 (omega arith) w.0;
  sized = λ f. yes_choose _ _ w.0 (ap suc (run_ends in_word s w.1 refl f));
  made = ap (λ (c : Bool). cond c (word_of (b ∷ s)) (cond (digit b) (digits (b ∷ s)) (sign (b ∷ s)))) w.0 ∙ m;
}

digits_front : (b : ℕ) (s : List ℕ) → Numeral (b ∷ s) → Front b s (digits (b ∷ s))
unfolding token_size
digits_front b s w = record {
  no_blank = between_ne 48 57 b 32 (omega arith) w.0;
  sized = λ f. no_choose _ _ (digit_letter b w.0) (yes_choose _ _ w.0 (ap suc (run_ends digit s w.1 refl f)));
  made = ap₂ (λ (c d : Bool). cond c (word_of (b ∷ s)) (cond d (digits (b ∷ s)) (sign (b ∷ s)))) (digit_letter b w.0) w.0;
}

sign_front : (b : ℕ) (s : List ℕ) → Sign b s → Front b s (sign (b ∷ s))
unfolding token_size
sign_front b s w = record {
  no_blank = w.no_blank;
  sized = λ {e} f. no_choose _ _ w.no_letter (no_choose _ _ w.no_digit (w.sized e f));
  made = ap₂ (λ (c d : Bool). cond c (word_of (b ∷ s)) (cond d (digits (b ∷ s)) (sign (b ∷ s)))) w.no_letter w.no_digit;
}

-- a token before a blank or the line's end
module _ {b : ℕ} {s : List ℕ} {t : Token} (w : Front b s t) {e : List ℕ} (f : Ends e) where
  front_trimmed : trimmed (b ∷ (s ++ e)) ≡ b ∷ (s ++ e)
  unfolding trimmed
  front_trimmed = no_choose _ _ w.no_blank refl

  front_token : tokens (b ∷ (s ++ e)) ≡ t ∷ tokens e
  unfolding peek_in skip_in
  front_token =
      let l = b ∷ (s ++ e) in
      let n = w.sized f in
      let p : peek_in l ≡ some t =
      ap token_in front_trimmed
      ∙ ap (λ (k : ℕ). some (token_of b (take k l))) n
      ∙ ap (λ (x : List ℕ). some (token_of b x)) (take-append_seam (b ∷ s) e)
      ∙ ap some w.made in
      let q : skip_in l ≡ e = ap after_in front_trimmed ∙ ap (λ (k : ℕ). drop k l) n ∙ drop-append_seam (b ∷ s) e in
      first_is (tokens l) (sym (peek_tokens l) ∙ p) ∙ ap (λ (x : List Token). t ∷ x) (sym (skip_tokens l) ∙ ap tokens q)

token_again : (t : Token) → Proper t → {e : List ℕ} → Ends e → tokens (bytes_of t ++ e) ≡ t ∷ tokens e
token_again (name []) w f = absurd w.0
token_again (name (b ∷ s)) w f = front_token (word_front b s (name (b ∷ s)) w.0 w.1) f
token_again (other_word []) w f = absurd w.0
token_again (other_word (b ∷ s)) w f = front_token (word_front b s (other_word (b ∷ s)) w.0 w.1) f
token_again (digits []) w f = absurd w
token_again (digits (b ∷ s)) w f = front_token (digits_front b s w) f
token_again (sign []) w f = absurd w
token_again (sign (b ∷ s)) w f = front_token (sign_front b s w) f

blanks_end : (ts : List Token) → Ends (after_blanks ts)
unfolding after_blanks
blanks_end [] = end
blanks_end (t ∷ ts) = blank (bytes_of t ++ after_blanks ts)

after_blanks_tokens : (ts : List Token) → Each Proper ts → tokens (after_blanks ts) ≡ ts
unfolding after_blanks tokens_after
after_blanks_tokens [] h = refl
after_blanks_tokens (t ∷ ts) h = token_again t h.0 (blanks_end ts) ∙ ap (λ (x : List Token). t ∷ x) (after_blanks_tokens ts h.1)

-- The round trip.
pub spaced_tokens : (ts : List Token) → Each Proper ts → tokens (spaced ts) ≡ ts
unfolding tokens_after
spaced_tokens [] h = refl
spaced_tokens (t ∷ ts) h = token_again t h.0 (blanks_end ts) ∙ ap (λ (x : List Token). t ∷ x) (after_blanks_tokens ts h.1)
