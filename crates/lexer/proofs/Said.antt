-- A token's bytes tell which sign or word it is: a token with the bytes of a sign is that sign, and one with those of a word is that word. So the
-- code compares bytes alone.
use mathlib.Core.Path.{◌≡◌, refl, sym, ◌∙◌, ap}
use mathlib.Core.Bool.{Bool, true, false, cond, ◌&&◌, not}
use mathlib.Core.List.{List, [], ◌∷◌}
use mathlib.Core.Option.{Option, none, some}
use Prim.Native.Nat.{ℕ, zero, suc, ◌≤◌}
use native.Mathlib.Omega.{arith}
use borrow.Author.Tests.{eqb-true, leb-true}
use lib.Dec.{eqb, leb}
use lib.ListN.{length, take, drop}
use Rattle.syntax.specs.Bytes.{letter, digit, same, any, reserved, word_of, Token, token_of, token_size, kind_of, bytes_of, name, other_word, digits, sign, trimmed}
use Rattle.syntax.specs.Reader.{kind, text, is, peek_in, token_in}
use Rattle.syntax.proofs.Places.{size_one}
use Rattle.syntax.proofs.Spelling.{same_true}
use Rattle.lexer.specs.declared.Tok.{Tok}
use Rattle.lexer.specs.Lex.{part, Lexed}

-- bytes that begin a sign, and a word
abbrev pub signed : List ℕ → Bool
signed [] = false
signed (b ∷ s) = not (letter b) && not (digit b)

abbrev pub lettered : List ℕ → Bool
lettered [] = false
lettered (b ∷ s) = letter b

-- a token that stands on a line begins with its own first byte
data Made : Option Token → Type 0 where
  made_none : Made none
  made : (b : ℕ) (w : List ℕ) → Made (some (token_of b (b ∷ w)))

made_in : (r : List ℕ) → Made (peek_in r)
unfolding peek_in
made_in r = go (trimmed r)
  where
    some_in : (b : ℕ) (s : List ℕ) (n : ℕ) → 1 ≤ n → Made (some (token_of b (take n (b ∷ s))))
    some_in b s zero h = absurd (omega arith)
    some_in b s (suc n) h = made b (take n s)

    go : (l : List ℕ) → Made (token_in l)
    go [] = made_none
    go (b ∷ s) = some_in b s (token_size b s) (size_one b s)

clash : {a : Bool} {X : Type 0} → a ≡ true → a ≡ false → X
clash {a} p q = absurd (let z : ◌≡◌ {A = ℕ} 0 1 = cc in omega arith)

-- bytes of which one has p and the other has not
apart : (p : ℕ → Bool) (c b : ℕ) (v : Bool) → p c ≡ v → p b ≡ not v → eqb c b ≡ false
apart p c b v x y = go (eqb c b) refl
  where
    both : (v : Bool) → v ≡ not v → ⊥
    both true h = clash (sym h) refl
    both false h = clash h refl

    go : (t : Bool) → eqb c b ≡ t → eqb c b ≡ false
    go true e = absurd (both v (sym x ∙ ap p (eqb-true c b e) ∙ y))
    go false e = e

no_and : {a : Bool} (b : Bool) → a ≡ false → a && b ≡ false
no_and b e = ap (λ (a : Bool). a && b) e

-- ---- signs

sign_made : (x : List ℕ) → signed x ≡ true → {o : Option Token} → Made o → is (sign x) o ≡ same x (text o)
sign_made [] h m = clash h refl
sign_made (c ∷ x) h made_none = refl
sign_made (c ∷ x) h (made b w) = go (letter b) (digit b) (leb (length (b ∷ w)) 31 && not (any (same (b ∷ w)) reserved)) refl refl
  where
    neither : (l d : Bool) → not l && not d ≡ true → (l ≡ false) × (d ≡ false)
    neither true d q = clash q refl
    neither false true q = clash q refl
    neither false false q = (refl, refl)

    go : (l d t : Bool) → letter b ≡ l → digit b ≡ d
        → is (sign (c ∷ x)) (some (cond l (cond t (name (b ∷ w)) (other_word (b ∷ w))) (cond d (digits (b ∷ w)) (sign (b ∷ w)))))
        ≡ same (c ∷ x) (bytes_of (cond l (cond t (name (b ∷ w)) (other_word (b ∷ w))) (cond d (digits (b ∷ w)) (sign (b ∷ w)))))
    go true d true p q = sym (no_and (same x w) (apart letter c b false (neither (letter c) (digit c) h).0 p))
    go true d false p q = sym (no_and (same x w) (apart letter c b false (neither (letter c) (digit c) h).0 p))
    go false true t p q = sym (no_and (same x w) (apart digit c b false (neither (letter c) (digit c) h).1 q))
    go false false t p q = refl

-- ---- words

word_made : (x : List ℕ) → lettered x ≡ true → {o : Option Token} → Made o → is (word_of x) o ≡ same x (text o)
word_made [] h m = clash h refl
word_made (c ∷ x) h m = go (leb (length (c ∷ x)) 31 && not (any (same (c ∷ x)) reserved)) refl m
  where
    -- u says whether the word may be a name, t whether the token may
    words : (u : Bool) (b : ℕ) (w : List ℕ) (t : Bool) → leb (length (c ∷ x)) 31 && not (any (same (c ∷ x)) reserved) ≡ u
        → leb (length (b ∷ w)) 31 && not (any (same (b ∷ w)) reserved) ≡ t
        → (v : Bool) → same (c ∷ x) (b ∷ w) ≡ v
        → eqb (kind_of (cond u (name (c ∷ x)) (other_word (c ∷ x)))) (kind_of (cond t (name (b ∷ w)) (other_word (b ∷ w)))) && v ≡ v
    words true b w true p q v e = refl
    words false b w false p q v e = refl
    words true b w false p q true e = clash p (ap (λ (y : List ℕ). leb (length y) 31 && not (any (same y) reserved)) (same_true (c ∷ x) (b ∷ w) e) ∙ q)
    words true b w false p q false e = refl
    words false b w true p q true e = clash q (ap (λ (y : List ℕ). leb (length y) 31 && not (any (same y) reserved)) (sym (same_true (c ∷ x) (b ∷ w) e)) ∙ p)
    words false b w true p q false e = refl

    bytes : (u : Bool) (y : List ℕ) → bytes_of (cond u (name y) (other_word y)) ≡ y
    bytes true y = refl
    bytes false y = refl

    other : (u : Bool) (b : ℕ) (w : List ℕ) (k : ℕ) → letter b ≡ false → eqb (kind_of (cond u (name (c ∷ x)) (other_word (c ∷ x)))) k ≡ false
        → (s : Bool) → eqb (kind_of (cond u (name (c ∷ x)) (other_word (c ∷ x)))) k && s ≡ same (c ∷ x) (b ∷ w)
    other u b w k p e s = no_and s e ∙ sym (no_and (same x w) (apart letter c b true h p))

    apart_kinds : (u : Bool)
        → (eqb (kind_of (cond u (name (c ∷ x)) (other_word (c ∷ x)))) 3 ≡ false)
        × (eqb (kind_of (cond u (name (c ∷ x)) (other_word (c ∷ x)))) 4 ≡ false)
    apart_kinds true = (refl, refl)
    apart_kinds false = (refl, refl)

    go : (u : Bool) → leb (length (c ∷ x)) 31 && not (any (same (c ∷ x)) reserved) ≡ u → {o : Option Token} → Made o
        → is (cond u (name (c ∷ x)) (other_word (c ∷ x))) o ≡ same (c ∷ x) (text o)
    go true p made_none = refl
    go false p made_none = refl
    go u p (made b w) = at (letter b) (digit b) (leb (length (b ∷ w)) 31 && not (any (same (b ∷ w)) reserved)) refl refl refl
      where
        at : (l d t : Bool) → letter b ≡ l → digit b ≡ d → leb (length (b ∷ w)) 31 && not (any (same (b ∷ w)) reserved) ≡ t
            → is (cond u (name (c ∷ x)) (other_word (c ∷ x)))
            (some (cond l (cond t (name (b ∷ w)) (other_word (b ∷ w))) (cond d (digits (b ∷ w)) (sign (b ∷ w)))))
            ≡ same (c ∷ x) (bytes_of (cond l (cond t (name (b ∷ w)) (other_word (b ∷ w))) (cond d (digits (b ∷ w)) (sign (b ∷ w)))))
        at true d t a e f =
            (λ i. eqb (kind_of (cond u (name (c ∷ x)) (other_word (c ∷ x)))) (kind_of (cond t (name (b ∷ w)) (other_word (b ∷ w))))
            && same (bytes u (c ∷ x) i) (bytes t (b ∷ w) i))
            ∙ words u b w t p f (same (c ∷ x) (b ∷ w)) refl ∙ ap (same (c ∷ x)) (sym (bytes t (b ∷ w)))
        at false true t a e f = other u b w 3 a (apart_kinds u).0 _
        at false false t a e f = other u b w 4 a (apart_kinds u).1 _

-- ---- what stands first in what is left of a line

pub sign_text : (x : List ℕ) → signed x ≡ true → (u : List ℕ) → is (sign x) (peek_in u) ≡ same x (text (peek_in u))
sign_text x h u = sign_made x h (made_in u)

pub word_text : (x : List ℕ) → lettered x ≡ true → (u : List ℕ) → is (word_of x) (peek_in u) ≡ same x (text (peek_in u))
word_text x h u = word_made x h (made_in u)

-- a name is not long
name_made : {o : Option Token} → Made o → kind o ≡ 1 → length (text o) ≤ 31
name_made made_none h = absurd (omega (arith, h))
name_made (made b w) h = go (letter b) (digit b) (leb (length (b ∷ w)) 31) (not (any (same (b ∷ w)) reserved)) refl h
  where
    go : (l d m n : Bool) → leb (length (b ∷ w)) 31 ≡ m
        → kind_of (cond l (cond (m && n) (name (b ∷ w)) (other_word (b ∷ w))) (cond d (digits (b ∷ w)) (sign (b ∷ w)))) ≡ 1
        → length (bytes_of (cond l (cond (m && n) (name (b ∷ w)) (other_word (b ∷ w))) (cond d (digits (b ∷ w)) (sign (b ∷ w))))) ≤ 31
    go true d true true e h = leb-true (length (b ∷ w)) 31 e
    go true d true false e h = absurd (omega (arith, h))
    go true d false n e h = absurd (omega (arith, h))
    go false true m n e h = absurd (omega (arith, h))
    go false false m n e h = absurd (omega (arith, h))

pub name_short : (u : List ℕ) → kind (peek_in u) ≡ 1 → length (text (peek_in u)) ≤ 31
name_short u = name_made (made_in u)

-- ---- a token of the code

module _ {s : List ℕ} {at : ℕ} {t : Tok} (l : Lexed s at t) where
  pub sees_said : (x : List ℕ) → signed x ≡ true → is (sign x) (peek_in (drop at s)) ≡ same x (part s t.start t.stop)
  sees_said x h = sign_text x h (drop at s) ∙ ap (same x) l.bytes

  pub says_said : (x : List ℕ) → lettered x ≡ true → is (word_of x) (peek_in (drop at s)) ≡ same x (part s t.start t.stop)
  says_said x h = word_text x h (drop at s) ∙ ap (same x) l.bytes
