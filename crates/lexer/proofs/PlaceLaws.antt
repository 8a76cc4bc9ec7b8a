-- One reader after the other, by the places where they land.
use mathlib.Core.Path.{◌≡◌, refl, sym, ◌∙◌, ap, subst}
use mathlib.Core.Bool.{Bool, true, false, cond}
use mathlib.Core.List.{List, [], ◌∷◌}
use Prim.Native.Nat.{ℕ, ◌+◌, ◌≤◌, ◌<◌}
use Prim.Native.String.{String}
use native.Mathlib.Decide.{dec_lt}
use native.Mathlib.Omega.{arith}
use lib.ListN.{length, drop, length-drop}
use Rattle.syntax.specs.Bytes.{choose, same, bytes, token_size, trimmed}
use Rattle.syntax.proofs.Places.{size_one}
use Rattle.syntax.proofs.Spelling.{same_true}
use lib.Dec.{eqb}
use Rattle.syntax.specs.Grammar.{Lead, bare, plus, minus}
use Rattle.syntax.specs.Reader.{Parsed, broken, done, Reader, next, text, expects, wants, read_lead, token_in, after_in, peek_in, skip_in}
use Rattle.lexer.specs.declared.Tok.{Tok}
use Rattle.lexer.specs.Lex.{kind_number, Lexed}
use Rattle.lexer.specs.Places.{Lands, Goes, Any, passes, Spells}
use Rattle.lexer.proofs.Said.{signed, lettered, sign_text, word_text, name_short}

module _ {A B : Type 0} (P : A → Type 0) (Q : B → Type 0) (s : List ℕ) (k : A → Reader (List ℕ) B) (m r : ℕ) where
  -- what comes after a part that lands at m
  pub lands_next : (p : Parsed (List ℕ) A) → Lands P s p m → ((a : A) → P a → m ≤ length s → Lands Q s (k a (drop m s)) r)
      → (length s < m → r ≡ length s + 1) → Lands Q s (next p k) r
  lands_next broken h f g = g (omega (arith, h))
  lands_next (done a u) h f g = subst (λ (w : List ℕ). Lands Q s (k a w) r) (sym h.0) (f a h.2 h.1)

  pub goes_next : {at : ℕ} {R : Reader (List ℕ) A} → Goes P s at R m → ((a : A) → P a → m ≤ length s → Lands Q s (k a (drop m s)) r)
      → (m ≤ length s → m ≤ r) → (length s < m → r ≡ length s + 1) → Goes Q s at (λ u. next (R u) k) r
  goes_next {at} {R} h f e g = record {
    lands = λ b. lands_next (R (drop at s)) (h.lands b) f g;
    from = λ b. elim (dec_lt (length s) m) [
      | yes l ↦ omega (arith, g l)
      | no l ↦ omega (arith, h.from b, e (omega arith))
    ];
    lost = λ b. g (omega (arith, h.lost b));
  }

-- nothing more is read
pub lands_yield : {A B : Type 0} (P : A → Type 0) (Q : B → Type 0) (s : List ℕ) (f : A → B) (m : ℕ) (p : Parsed (List ℕ) A) → Lands P s p m
    → ((a : A) → P a → Q (f a)) → Lands Q s (next p (λ a. done (f a))) m
lands_yield P Q s f m broken h g = h
lands_yield P Q s f m (done a u) h g = (h.0, h.1, g a h.2)

-- a place past the line's end is the one that stands for nothing read
pub lands_end : {A : Type 0} (P : A → Type 0) (s : List ℕ) (p : Parsed (List ℕ) A) (m : ℕ) → Lands P s p m → length s < m → m ≡ length s + 1
lands_end P s broken m h b = h
lands_end P s (done a u) m h b = absurd (omega (arith, h.1))

pub goes_end : {A : Type 0} {P : A → Type 0} {s : List ℕ} {at : ℕ} {R : Reader (List ℕ) A} {m : ℕ} → Goes P s at R m → length s < m → m ≡ length s + 1
goes_end {P} {s} {at} {R} {m} h b = elim (dec_lt (length s) at) [
  | yes l ↦ h.lost l
  | no l ↦ lands_end P s (R (drop at s)) m (h.lands (omega arith)) b
]

-- something else is said of what is read
pub goes_saying : {A : Type 0} {P Q : A → Type 0} {s : List ℕ} {at : ℕ} {R : Reader (List ℕ) A} {m : ℕ} → Goes P s at R m
    → (m ≤ length s → (a : A) → P a → Q a) → Goes Q s at R m
goes_saying {A} {P} {Q} {s} {at} {R} {m} h f = record { lands = λ b. go (R (drop at s)) (h.lands b); from = h.from; lost = h.lost }
  where
    go : (p : Parsed (List ℕ) A) → Lands P s p m → Lands Q s p m
    go broken w = w
    go (done a u) w = (w.0, w.1, f w.1 a w.2)

-- what is read where a place in the line is reached
pub goes_some : {A : Type 0} {P : A → Type 0} {s : List ℕ} {at : ℕ} {R : Reader (List ℕ) A} {m : ℕ} → Goes P s at R m → m ≤ length s
    → (a : A) × (at ≤ length s) × (R (drop at s) ≡ done a (drop m s)) × P a
goes_some {A} {P} {s} {at} {R} {m} h b = elim (dec_lt (length s) at) [
  | yes l ↦ absurd (omega (arith, h.lost l))
  | no l ↦ go (omega arith) (R (drop at s)) refl (h.lands (omega arith))
]
  where
    go : at ≤ length s → (p : Parsed (List ℕ) A) → R (drop at s) ≡ p → Lands P s p m → (a : A) × (at ≤ length s) × (R (drop at s) ≡ done a (drop m s)) × P a
    go l broken e w = absurd (omega (arith, w))
    go l (done a u) e w = (a, l, e ∙ ap (done a) w.0, w.2)

-- it is what is read
pub goes_same : {A : Type 0} {P : A → Type 0} {s : List ℕ} {at : ℕ} {R : Reader (List ℕ) A} {m : ℕ} → Goes P s at R m → m ≤ length s → (a : A)
    → R (drop at s) ≡ done a (drop m s) → Goes (λ x. a ≡ x) s at R m
goes_same {A} {P} {s} {at} {R} {m} h b a e = record {
  lands = λ _. subst (λ (p : Parsed (List ℕ) A). Lands (λ x. a ≡ x) s p m) (sym e) (refl, b, refl);
  from = h.from;
  lost = h.lost;
}

-- a sign and a word, by their bytes
pub expects_passes : (t : String) → signed (bytes t) ≡ true → (u : List ℕ) → expects peek_in skip_in t u ≡ passes (bytes t) u
expects_passes t h u = ap (λ (b : Bool). cond b (done tt (skip_in u)) broken) (sign_text (bytes t) h u)

pub wants_passes : (t : String) → lettered (bytes t) ≡ true → (u : List ℕ) → wants peek_in skip_in t u ≡ passes (bytes t) u
wants_passes t h u = ap (λ (b : Bool). cond b (done tt (skip_in u)) broken) (word_text (bytes t) h u)

-- ---- where a token stands or not

module _ (s w : List ℕ) (at r : ℕ) (g : Goes Any s at (passes w) r) (b : at ≤ length s) where
  abbrev passed : Bool → Parsed (List ℕ) (Unit {0})
  passed x = cond x (done tt (skip_in (drop at s))) broken

  found : (x : Bool) → same w (text (peek_in (drop at s))) ≡ x → Lands {A = Unit {0}} Any s (passed x) r
      → (r ≤ length s → (same w (text (peek_in (drop at s))) ≡ true) × (skip_in (drop at s) ≡ drop r s))
      × (length s < r → same w (text (peek_in (drop at s))) ≡ false)
  found true e l = (λ h. (e, l.0), λ h. absurd (omega (arith, l.1)))
  found false e l = (λ h. absurd (omega (arith, l)), λ h. e)

  pub pass_there : r ≤ length s → (same w (text (peek_in (drop at s))) ≡ true) × (skip_in (drop at s) ≡ drop r s)
  pass_there = (found (same w (text (peek_in (drop at s)))) refl (g.lands b)).0

  pub pass_not : length s < r → same w (text (peek_in (drop at s))) ≡ false
  pass_not = (found (same w (text (peek_in (drop at s)))) refl (g.lands b)).1

-- ---- a token that is passed over has bytes

pub trimmed_length : (u : List ℕ) → length (trimmed u) ≤ length u
unfolding trimmed
trimmed_length [] = omega arith
trimmed_length (b ∷ u) = go (eqb b 32) (trimmed_length u)
  where
    go : (x : Bool) → length (trimmed u) ≤ length u → length (choose x (λ _. trimmed u) (λ _. b ∷ u)) ≤ length (b ∷ u)
    go true h = omega (arith, h)
    go false h = omega arith

skip_shorter : (u : List ℕ) → 0 < length (text (peek_in u)) → length (skip_in u) < length u
unfolding peek_in skip_in
skip_shorter u h = go (trimmed u) (trimmed_length u) h
  where
    go : (l : List ℕ) → length l ≤ length u → 0 < length (text (token_in l)) → length (after_in l) < length u
    go [] b h = absurd (omega (arith, h))
    go (b ∷ l) k h = omega (arith, length-drop (token_size b l) (b ∷ l), size_one b l, k)

pub pass_onward : (s w : List ℕ) (at r : ℕ) → Goes Any s at (passes w) r → 0 < length w → at ≤ length s → r ≤ length s → at < r
pass_onward s w at r g h b k =
    let (e, n) = pass_there s w at r g b k in
    let q = ap length (same_true w (text (peek_in (drop at s))) e) in
    omega (arith, skip_shorter (drop at s) (omega (arith, q)), ap length n, length-drop at s, length-drop r s)

-- ---- a name, a sign

pub spells : {s : List ℕ} {at : ℕ} {t : Tok} → Lexed s at t → kind_number t.kind ≡ 1
    → Spells s (record { next = t.stop; start = t.start }) (text (peek_in (drop at s)))
spells {s} {at} l e = record { bytes = l.bytes; order = l.order; short = name_short (drop at s) (l.kinds ∙ e) }

module _ (s : List ℕ) (at : ℕ) (b : at ≤ length s) (P : Lead → Type 0) where
  abbrev lead_as : Bool → Bool → List ℕ → Parsed (List ℕ) Lead
  lead_as p m u = cond p (done plus (skip_in u)) (cond m (done minus (skip_in u)) (done bare u))

  by_text : read_lead peek_in skip_in (drop at s)
      ≡ lead_as (same (bytes "+") (text (peek_in (drop at s)))) (same (bytes "-") (text (peek_in (drop at s)))) (drop at s)
  by_text = λ i. lead_as (sign_text (bytes "+") refl (drop at s) i) (sign_text (bytes "-") refl (drop at s) i) (drop at s)

  to : (p m : Bool) → same (bytes "+") (text (peek_in (drop at s))) ≡ p → same (bytes "-") (text (peek_in (drop at s))) ≡ m → (r : ℕ)
      → Lands P s (lead_as p m (drop at s)) r → Lands P s (read_lead peek_in skip_in (drop at s)) r
  to p m ep em r h = subst (λ (x : Parsed (List ℕ) Lead). Lands P s x r) (sym (by_text ∙ (λ i. lead_as (ep i) (em i) (drop at s)))) h

  pub lead_plus : (r : ℕ) → Goes Any s at (passes (bytes "+")) r → r ≤ length s → P plus → Lands P s (read_lead peek_in skip_in (drop at s)) r
  lead_plus r g h p = let (e, n) = pass_there s (bytes "+") at r g b h in to true _ e refl r (n, h, p)

  pub lead_minus : (q r : ℕ) → Goes Any s at (passes (bytes "+")) q → length s < q → Goes Any s at (passes (bytes "-")) r → r ≤ length s → P minus
      → Lands P s (read_lead peek_in skip_in (drop at s)) r
  lead_minus q r f l g h p = let (e, n) = pass_there s (bytes "-") at r g b h in to false true (pass_not s (bytes "+") at q f b l) e r (n, h, p)

-- a sign that ends what is read
pub lands_expect : {B : Type 0} (Q : B → Type 0) (s : List ℕ) (t : String) → signed (bytes t) ≡ true → (m c : ℕ) → Goes Any s m (passes (bytes t)) c
    → m ≤ length s → (b : B) → Q b → Lands Q s (next (expects peek_in skip_in t (drop m s)) (λ _. done b)) c
lands_expect Q s t h m c g l b q =
    lands_yield Any Q s (λ _. b) c (expects peek_in skip_in t (drop m s))
    (subst (λ (x : Parsed (List ℕ) (Unit {0})). Lands Any s x c) (sym (expects_passes t h (drop m s))) (g.lands l)) (λ _ _. q)

-- a sign or a word, and what comes after it
module _ {B : Type 0} (R : B → Type 0) (s : List ℕ) (t : String) (m k : ℕ) (g : Goes Any s m (passes (bytes t)) k) (rest : Reader (List ℕ) B) (z : ℕ)
    (l : m ≤ length s) (f : k ≤ length s → Lands R s (rest (drop k s)) z) (o : length s < k → z ≡ length s + 1) where
  past : Lands R s (next (passes (bytes t) (drop m s)) (λ _. rest)) z
  past = lands_next Any R s (λ _. rest) k z (passes (bytes t) (drop m s)) (g.lands l) (λ _ _ j. f j) o

  pub lands_past : signed (bytes t) ≡ true → Lands R s (next (expects peek_in skip_in t (drop m s)) (λ _. rest)) z
  lands_past h = subst (λ (p : Parsed (List ℕ) (Unit {0})). Lands R s (next p (λ _. rest)) z) (sym (expects_passes t h (drop m s))) past

-- the place n after a token that was taken
pub taken_next : {s : List ℕ} {at n : ℕ} {t : Tok} → Lexed s at t → n ≡ t.stop → skip_in (drop at s) ≡ drop n s
taken_next h e = rw e h.next

pub taken_within : {s : List ℕ} {at n : ℕ} {t : Tok} → Lexed s at t → n ≡ t.stop → n ≤ length s
taken_within h e = rw e h.within
