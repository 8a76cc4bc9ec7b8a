-- What stands at a place of a line, as the definitions of tokens see it: by where the blanks end, and by the first byte there.
use mathlib.Core.Path.{◌≡◌, refl, sym, ◌∙◌, ap}
use mathlib.Core.Bool.{Bool, true, false, cond}
use mathlib.Core.List.{List, [], ◌∷◌}
use mathlib.Core.Option.{some}
use Prim.Native.Nat.{ℕ, suc, ◌+◌, ◌-◌, ◌≤◌, ◌<◌}
use native.Mathlib.Omega.{arith}
use lib.Dec.{eqb}
use lib.ListN.{length, get_or, take, drop, drop_of_length-le}
use lib.Seq.{drop-cons, drop-drop}
use Rattle.syntax.specs.Bytes.{choose, letter, digit, in_word, run, token_size, token_of, trimmed, word_of, kind_of, digits, sign, sign_size}
use Rattle.syntax.specs.Reader.{kind, text, peek_in, skip_in, token_in, after_in}
use Rattle.syntax.proofs.Places.{token_bytes}
use Rattle.lexer.proofs.Laws.{part_none}
use Rattle.lexer.specs.declared.Kind.{Kind}
use Rattle.lexer.specs.declared.Kind.TheVariants.{End}
use Rattle.lexer.specs.Lex.{blank, part, kind_number, Lexed}

pub trimmed_run : (l : List ℕ) → trimmed l ≡ drop (run blank l) l
unfolding trimmed run
trimmed_run [] = refl
trimmed_run (b ∷ l) = go (eqb b 32) (trimmed_run l)
  where
    go : (c : Bool) → trimmed l ≡ drop (run blank l) l
        → choose c (λ _. trimmed l) (λ _. b ∷ l) ≡ drop (choose c (λ _. suc (run blank l)) (λ _. 0)) (b ∷ l)
    go true h = h
    go false h = refl

-- a is where the blanks from a place on end
module _ (s : List ℕ) (at a : ℕ) (e : a ≡ at + run blank (drop at s)) where
  pub trimmed_at : trimmed (drop at s) ≡ drop a s
  trimmed_at = trimmed_run (drop at s) ∙ drop-drop (run blank (drop at s)) at s ∙ ap (λ (n : ℕ). drop n s) (sym e)

  pub lexed_end : length s ≤ a → a ≤ length s → Lexed s at (record { kind = End; start = a; stop = a })
  unfolding peek_in skip_in
  lexed_end h k =
      let n : drop a s ≡ [] = drop_of_length-le s h in
      record {
        kinds = ap (λ (l : List ℕ). kind (token_in l)) (trimmed_at ∙ n);
        bytes = ap (λ (l : List ℕ). text (token_in l)) (trimmed_at ∙ n) ∙ sym (part_none s a);
        next = ap after_in (trimmed_at ∙ n) ∙ sym n;
        from = omega arith;
        order = omega arith;
        within = k;
        some = λ z. absurd (z refl);
      }

  -- a token of n bytes, up to z
  module _ (h : a < length s) where
    abbrev b : ℕ
    b = get_or s a 0

    abbrev r : List ℕ
    r = drop (suc a) s

    begins : trimmed (drop at s) ≡ b ∷ r
    begins = trimmed_at ∙ drop-cons s a 0 h

    pub lexed_some : (z : ℕ) (k : Kind) → z ≡ a + token_size b r → a < z → z ≤ length s → kind_of (token_of b (part s a z)) ≡ kind_number k
        → Lexed s at (record { kind = k; start = a; stop = z })
    unfolding peek_in skip_in
    lexed_some z k p l w q =
        let n : token_size b r ≡ z - a = omega arith in
        let i =
        ap token_in begins ∙ ap (λ (m : ℕ). some (token_of b (take m (b ∷ r)))) n
        ∙ ap (λ (t : List ℕ). some (token_of b (take (z - a) t))) (sym (drop-cons s a 0 h)) in
        record {
          kinds = ap kind i ∙ q;
          bytes = ap text i ∙ token_bytes b (part s a z);
          next =
              ap after_in begins ∙ ap (λ (t : List ℕ). drop (token_size b r) t) (sym (drop-cons s a 0 h)) ∙ drop-drop (token_size b r) a s
              ∙ ap (λ (m : ℕ). drop m s) (sym p);
          from = omega arith;
          order = omega arith;
          within = w;
          some = λ _. l;
        }

-- the size and the token by the first byte
pub size_word : (b : ℕ) (r : List ℕ) → letter b ≡ true → token_size b r ≡ suc (run in_word r)
unfolding token_size
size_word b r e = ap (λ (c : Bool). choose c (λ _. suc (run in_word r)) (λ _. choose (digit b) (λ _. suc (run digit r)) (λ _. sign_size (b ∷ r)))) e

pub size_digits : (b : ℕ) (r : List ℕ) → letter b ≡ false → digit b ≡ true → token_size b r ≡ suc (run digit r)
unfolding token_size
size_digits b r e f = λ i. choose (e i) (λ _. suc (run in_word r)) (λ _. choose (f i) (λ _. suc (run digit r)) (λ _. sign_size (b ∷ r)))

pub size_sign : (b : ℕ) (r : List ℕ) → letter b ≡ false → digit b ≡ false → token_size b r ≡ sign_size (b ∷ r)
unfolding token_size
size_sign b r e f = λ i. choose (e i) (λ _. suc (run in_word r)) (λ _. choose (f i) (λ _. suc (run digit r)) (λ _. sign_size (b ∷ r)))

-- and its kind
pub kind_word : (b : ℕ) (w : List ℕ) (k : ℕ) → letter b ≡ true → k ≡ kind_of (word_of w) → kind_of (token_of b w) ≡ k
kind_word b w k e q = ap (λ (c : Bool). kind_of (cond c (word_of w) (cond (digit b) (digits w) (sign w)))) e ∙ sym q

pub kind_digits : (b : ℕ) (w : List ℕ) → letter b ≡ false → digit b ≡ true → kind_of (token_of b w) ≡ 3
kind_digits b w e f = λ i. kind_of (cond (e i) (word_of w) (cond (f i) (digits w) (sign w)))

pub kind_sign : (b : ℕ) (w : List ℕ) → letter b ≡ false → digit b ≡ false → kind_of (token_of b w) ≡ 4
kind_sign b w e f = λ i. kind_of (cond (e i) (word_of w) (cond (f i) (digits w) (sign w)))
