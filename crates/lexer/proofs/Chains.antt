-- Readers one after the other as one reader: each goes on from the place where the one before it landed.
use mathlib.Core.Path.{◌≡◌, refl, sym, ◌∙◌, ap, subst}
use mathlib.Core.Bool.{Bool, true}
use mathlib.Core.List.{List}
use Prim.Native.Nat.{ℕ, ◌+◌, ◌≤◌, ◌<◌}
use Prim.Native.String.{String}
use native.Mathlib.Decide.{dec_lt}
use native.Mathlib.Omega.{arith}
use lib.ListN.{length, drop}
use Rattle.syntax.specs.Bytes.{bytes, choose}
use Rattle.syntax.specs.Reader.{Parsed, done, Reader, next, says, expects, wants, peek_in, skip_in}
use Rattle.lexer.specs.Places.{Lands, Goes, Any, passes}
use Rattle.lexer.proofs.Said.{signed, lettered, word_text}
use Rattle.lexer.proofs.PlaceLaws.{lands_next, lands_yield, goes_end, expects_passes, wants_passes, pass_there, pass_not, pass_onward}

-- another reader that reads the same
pub goes_as : {B : Type 0} {Q : B → Type 0} {s : List ℕ} {at r : ℕ} {R R' : Reader (List ℕ) B} → ((u : List ℕ) → R u ≡ R' u) → Goes Q s at R' r
    → Goes Q s at R r
goes_as {B} {Q} {s} {at} {r} e g = record {
  lands = λ b. subst (λ (p : Parsed (List ℕ) B). Lands Q s p r) (sym (e (drop at s))) (g.lands b);
  from = g.from;
  lost = g.lost;
}

-- what lies at m, and goes on to r
pub record Onward (s : List ℕ) (m r : ℕ) : Type 0 where
  pub from : m ≤ length s → m ≤ r
  pub lost : length s < m → r ≡ length s + 1

pub goes_onward : {A : Type 0} {P : A → Type 0} {s : List ℕ} {m r : ℕ} {R : Reader (List ℕ) A} → Goes P s m R r → Onward s m r
goes_onward g = record { from = g.from; lost = g.lost }

pub onward_both : {s : List ℕ} {m k r : ℕ} → Onward s m k → Onward s k r → Onward s m r
onward_both {s} {m} {k} {r} f g = record {
  from = λ b. elim (dec_lt (length s) k) [ yes l ↦ omega (arith, g.lost l) | no l ↦ omega (arith, f.from b, g.from (omega arith)) ];
  lost = λ b. g.lost (omega (arith, f.lost b));
}

-- a part, and what is read after it by what it is
pub goes_then : {A B : Type 0} {P : A → Type 0} {Q : B → Type 0} {s : List ℕ} {at m r : ℕ} {R : Reader (List ℕ) A} {k : A → Reader (List ℕ) B}
    → Goes P s at R m → ((a : A) → P a → at ≤ length s → m ≤ length s → Goes Q s m (k a) r) → Onward s m r → Goes Q s at (λ u. next (R u) k) r
goes_then {P} {Q} {s} {at} {m} {r} {R} {k} g f o = record {
  lands = λ b. lands_next P Q s k m r (R (drop at s)) (g.lands b) (λ a p l. (f a p b l).lands l) o.lost;
  from = (onward_both (goes_onward g) o).from;
  lost = (onward_both (goes_onward g) o).lost;
}

-- a part, made into something
pub goes_yield : {A B : Type 0} {P : A → Type 0} {Q : B → Type 0} {s : List ℕ} {at m : ℕ} {R : Reader (List ℕ) A} (mk : A → B)
    → Goes P s at R m → ((a : A) → P a → Q (mk a)) → Goes Q s at (λ u. next (R u) (λ a. done (mk a))) m
goes_yield {P} {Q} {s} {at} {m} {R} mk g f = record {
  lands = λ b. lands_yield P Q s mk m (R (drop at s)) (g.lands b) f;
  from = g.from;
  lost = g.lost;
}

-- this sign, this word, and what comes after it
module _ {B : Type 0} {Q : B → Type 0} {s : List ℕ} {at m r : ℕ} {K : Reader (List ℕ) B} (t : String) where
  past : Goes Any s at (passes (bytes t)) m → Goes Q s m K r → Goes Q s at (λ u. next (passes (bytes t) u) (λ _. K)) r
  past g k = goes_then g (λ _ _ _ _. k) (goes_onward k)

  pub goes_past : signed (bytes t) ≡ true → Goes Any s at (passes (bytes t)) m → Goes Q s m K r
      → Goes Q s at (λ u. next (expects peek_in skip_in t u) (λ _. K)) r
  goes_past h g k = goes_as (λ u. ap (λ (p : Parsed (List ℕ) (Unit {0})). next p (λ _. K)) (expects_passes t h u)) (past g k)

  pub goes_past_word : lettered (bytes t) ≡ true → Goes Any s at (passes (bytes t)) m → Goes Q s m K r
      → Goes Q s at (λ u. next (wants peek_in skip_in t u) (λ _. K)) r
  goes_past_word h g k = goes_as (λ u. ap (λ (p : Parsed (List ℕ) (Unit {0})). next p (λ _. K)) (wants_passes t h u)) (past g k)

-- a sign that ends what is read
pub goes_sealed : {B : Type 0} {Q : B → Type 0} {s : List ℕ} {at m : ℕ} (t : String) → signed (bytes t) ≡ true → Goes Any s at (passes (bytes t)) m
    → (b : B) → Q b
    → Goes Q s at (λ u. next (expects peek_in skip_in t u) (λ _. done b)) m
goes_sealed t h g b q = goes_past t h g (record { lands = λ l. (refl, l, q); from = λ l. omega arith; lost = λ l. goes_end g l })

-- a choice by the word that comes first
module _ {B : Type 0} {Q : B → Type 0} {s : List ℕ} {at m r : ℕ} (K L : Reader (List ℕ) B) (t : String) (h : lettered (bytes t) ≡ true)
    (g : Goes Any s at (passes (bytes t)) m) where
  pub goes_word : m ≤ length s → Goes Q s m K r → Goes Q s at (λ u. choose (says peek_in skip_in t u) (λ _. K (skip_in u)) (λ _. L u)) r
  goes_word l k = record {
    lands = λ b.
        let (e, n) = pass_there s (bytes t) at m g b l in
        subst (λ (p : Parsed (List ℕ) B). Lands Q s p r)
        (sym (ap (λ (x : Bool). choose x (λ _. K (skip_in (drop at s))) (λ _. L (drop at s))) (word_text (bytes t) h (drop at s) ∙ e) ∙ ap K n)) (k.lands l);
    from = λ b. omega (arith, g.from b, k.from l);
    lost = λ b. absurd (omega (arith, g.lost b));
  }

  pub goes_other : length s < m → Goes Q s at L r → Goes Q s at (λ u. choose (says peek_in skip_in t u) (λ _. K (skip_in u)) (λ _. L u)) r
  goes_other l k = record {
    lands = λ b. subst (λ (p : Parsed (List ℕ) B). Lands Q s p r)
        (sym (ap (λ (x : Bool). choose x (λ _. K (skip_in (drop at s))) (λ _. L (drop at s)))
        (word_text (bytes t) h (drop at s) ∙ pass_not s (bytes t) at m g b l)))
        (k.lands b);
    from = k.from;
    lost = k.lost;
  }

-- a token that is passed over has bytes
pub strictly : {s : List ℕ} {at m : ℕ} (w : List ℕ) → 0 < length w → Goes Any s at (passes w) m → at ≤ length s → at < m
strictly {s} {at} {m} w h g b = elim (dec_lt (length s) m) [ yes l ↦ omega arith | no l ↦ pass_onward s w at m g h b (omega arith) ]

pub strictly_on : {s : List ℕ} {at m r : ℕ} → Onward s m r → at ≤ length s → at < m → at < r
strictly_on {s} {at} {m} {r} o b h = elim (dec_lt (length s) m) [ yes l ↦ omega (arith, o.lost l) | no l ↦ omega (arith, o.from (omega arith)) ]
