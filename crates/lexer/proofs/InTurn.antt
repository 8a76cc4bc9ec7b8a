-- Readers in turn: each reads from the place that the one before it reached, and nothing is read where one of them reads nothing.
use mathlib.Core.Path.{◌≡◌, refl, sym, ◌∙◌, ap, subst}
use mathlib.Core.Bool.{Bool, true, false}
use mathlib.Core.List.{List}
use Prim.Native.Nat.{ℕ, ◌+◌, ◌≤◌, ◌<◌}
use Prim.Native.String.{String}
use native.Mathlib.Omega.{arith}
use lib.ListN.{length, drop}
use Rattle.std.specs.Prelude.{Option, None, Some}
use Rattle.syntax.specs.Bytes.{bytes, choose, same}
use Rattle.syntax.specs.Grammar.{Lead, plus, minus}
use Rattle.syntax.specs.Reader.{Parsed, broken, done, Reader, next, text, says, sees, expects, wants, read_lead, peek_in, skip_in}
use Rattle.lexer.specs.Places.{Lands, Goes, Any, passes, NotRead, ReadTo, Finds}
use Rattle.lexer.proofs.Said.{signed, lettered, sign_text, word_text}
use Rattle.lexer.proofs.PlaceLaws.{expects_passes, wants_passes, goes_some, pass_there, pass_not, pass_onward, lead_plus, lead_minus}

-- ---- from the places where readers land, and to them: past the line's end where nothing is read

pub goes_to : {A : Type 0} {P : A → Type 0} {s : List ℕ} {at m : ℕ} {R : Reader (List ℕ) A} → ReadTo P s at R m → Goes P s at R m
goes_to {A} {P} {s} {at} {m} g = record {
  lands = λ _. subst (λ (p : Parsed (List ℕ) A). Lands P s p m) (sym g.reads) (refl, g.within, g.holds);
  from = λ _. g.from;
  lost = λ b. absurd (omega (arith, g.from, g.within));
}

pub goes_not : {A : Type 0} {P : A → Type 0} {s : List ℕ} {at : ℕ} {R : Reader (List ℕ) A} → NotRead s at R → Goes P s at R (length s + 1)
goes_not {A} {P} {s} {at} g = record {
  lands = λ b. subst (λ (p : Parsed (List ℕ) A). Lands P s p (length s + 1)) (sym (g.fails b)) refl;
  from = λ b. omega arith;
  lost = λ _. refl;
}

pub to_goes : {A : Type 0} {P : A → Type 0} {s : List ℕ} {at m : ℕ} {R : Reader (List ℕ) A} → Goes P s at R m → m ≤ length s → ReadTo P s at R m
to_goes g b = let (a, l, e, p) = goes_some g b in record { what = a; reads = e; holds = p; from = g.from l; within = b }

pub not_goes : {A : Type 0} {P : A → Type 0} {s : List ℕ} {at m : ℕ} {R : Reader (List ℕ) A} → Goes P s at R m → length s < m → NotRead s at R
not_goes {A} {P} {s} {at} {m} {R} g h = record { fails = λ b. go (R (drop at s)) (g.lands b) }
  where
    go : (p : Parsed (List ℕ) A) → Lands P s p m → p ≡ broken
    go broken w = refl
    go (done a u) w = absurd (omega (arith, w.1))

-- the place that a reader's answer stands for
abbrev pub landed : {R : Type 0} → (R → ℕ) → List ℕ → Option R → ℕ
landed after s None = length s + 1
landed after s (Some r) = after r

pub goes_found : {A R : Type 0} (after : R → ℕ) (P : R → A → Type 0) {Q : A → Type 0} {s : List ℕ} {at : ℕ} {read : Reader (List ℕ) A} (o : Option R)
    → Finds after P s at read o → ((r : R) → o ≡ Some r → (a : A) → P r a → Q a) → Goes Q s at read (landed after s o)
goes_found after P None g f = goes_not g
goes_found after P (Some r) g f = goes_to (record { what = g.what; reads = g.reads; holds = f r refl g.what g.holds; from = g.from; within = g.within })

-- past the line's end a reader finds nothing
pub finds_past : {A R : Type 0} (after : R → ℕ) (P : R → A → Type 0) (s : List ℕ) (at : ℕ) (read : Reader (List ℕ) A) (o : Option R) → length s < at
    → Finds after P s at read o → o ≡ None
finds_past after P s at read None h g = refl
finds_past after P s at read (Some r) h g = absurd (omega (arith, g.from, g.within))

-- ---- one after the other

-- something else is said of what is read
pub to_saying : {A : Type 0} {P Q : A → Type 0} {s : List ℕ} {at m : ℕ} {R : Reader (List ℕ) A} → ReadTo P s at R m → ((a : A) → P a → Q a) → ReadTo Q s at R m
to_saying g f = record { what = g.what; reads = g.reads; holds = f g.what g.holds; from = g.from; within = g.within }

-- another reader that reads the same
module _ {B : Type 0} {s : List ℕ} {at : ℕ} {R R' : Reader (List ℕ) B} (e : (u : List ℕ) → R u ≡ R' u) where
  pub to_as : {Q : B → Type 0} {r : ℕ} → ReadTo Q s at R' r → ReadTo Q s at R r
  to_as g = record { what = g.what; reads = e (drop at s) ∙ g.reads; holds = g.holds; from = g.from; within = g.within }

  pub not_as : NotRead s at R' → NotRead s at R
  not_as g = record { fails = λ b. e (drop at s) ∙ g.fails b }

-- a part that is not read, and whatever comes after it
pub not_then : {A B : Type 0} {s : List ℕ} {at : ℕ} {R : Reader (List ℕ) A} (k : A → Reader (List ℕ) B) → NotRead s at R → NotRead s at (λ u. next (R u) k)
not_then k g = record { fails = λ b. ap (λ (p : Parsed (List ℕ) _). next p k) (g.fails b) }

module _ {A B : Type 0} {P : A → Type 0} {s : List ℕ} {at m : ℕ} {R : Reader (List ℕ) A} (k : A → Reader (List ℕ) B) (g : ReadTo P s at R m) where
  -- a part, and another that is not read
  pub then_not : ((a : A) → P a → NotRead s m (k a)) → NotRead s at (λ u. next (R u) k)
  then_not f = record { fails = λ b. ap (λ (p : Parsed (List ℕ) A). next p k) g.reads ∙ (f g.what g.holds).fails g.within }

  -- a part, and another
  pub then_to : {Q : B → Type 0} {r : ℕ} → ((a : A) → P a → ReadTo Q s m (k a) r) → ReadTo Q s at (λ u. next (R u) k) r
  then_to f = let h = f g.what g.holds in record {
    what = h.what;
    reads = ap (λ (p : Parsed (List ℕ) A). next p k) g.reads ∙ h.reads;
    holds = h.holds;
    from = omega (arith, g.from, h.from);
    within = h.within;
  }

  -- a part, and what another finds
  pub then_finds : {R' : Type 0} (after : R' → ℕ) (Q : R' → B → Type 0) (o : Option R') → ((a : A) → P a → Finds after Q s m (k a) o)
      → Finds after Q s at (λ u. next (R u) k) o
  then_finds after Q None f = then_not f
  then_finds after Q (Some r) f = then_to f

-- a part, made into something
pub to_yield : {A B : Type 0} {P : A → Type 0} {Q : B → Type 0} {s : List ℕ} {at m : ℕ} {R : Reader (List ℕ) A} (mk : A → B)
    → ReadTo P s at R m → ((a : A) → P a → Q (mk a)) → ReadTo Q s at (λ u. next (R u) (λ a. done (mk a))) m
to_yield {A} mk g f = record {
  what = mk g.what;
  reads = ap (λ (p : Parsed (List ℕ) A). next p (λ a. done (mk a))) g.reads;
  holds = f g.what g.holds;
  from = g.from;
  within = g.within;
}

-- nothing more is read
pub to_done : {B : Type 0} {Q : B → Type 0} {s : List ℕ} {at : ℕ} (b : B) → at ≤ length s → Q b → ReadTo Q s at (done b) at
to_done b l q = record { what = b; reads = refl; holds = q; from = omega arith; within = l }

-- ---- a sign or a word, then K

module _ {B : Type 0} (t : String) (K : Reader (List ℕ) B) where
  sign_as : signed (bytes t) ≡ true → (u : List ℕ) → next (expects peek_in skip_in t u) (λ _. K) ≡ next (passes (bytes t) u) (λ _. K)
  sign_as h u = ap (λ (p : Parsed (List ℕ) (Unit {0})). next p (λ _. K)) (expects_passes t h u)

  word_as : lettered (bytes t) ≡ true → (u : List ℕ) → next (wants peek_in skip_in t u) (λ _. K) ≡ next (passes (bytes t) u) (λ _. K)
  word_as h u = ap (λ (p : Parsed (List ℕ) (Unit {0})). next p (λ _. K)) (wants_passes t h u)

  module _ {s : List ℕ} {at : ℕ} where
    -- it does not stand
    pub not_past : signed (bytes t) ≡ true → NotRead s at (passes (bytes t)) → NotRead s at (λ u. next (expects peek_in skip_in t u) (λ _. K))
    not_past h g = not_as (sign_as h) (not_then (λ _. K) g)

    pub not_past_word : lettered (bytes t) ≡ true → NotRead s at (passes (bytes t)) → NotRead s at (λ u. next (wants peek_in skip_in t u) (λ _. K))
    not_past_word h g = not_as (word_as h) (not_then (λ _. K) g)

    module _ {m : ℕ} (g : ReadTo Any s at (passes (bytes t)) m) where
      -- it stands, and what comes after it is not read
      pub past_not : signed (bytes t) ≡ true → NotRead s m K → NotRead s at (λ u. next (expects peek_in skip_in t u) (λ _. K))
      past_not h k = not_as (sign_as h) (then_not (λ _. K) g (λ _ _. k))

      pub past_word_not : lettered (bytes t) ≡ true → NotRead s m K → NotRead s at (λ u. next (wants peek_in skip_in t u) (λ _. K))
      past_word_not h k = not_as (word_as h) (then_not (λ _. K) g (λ _ _. k))

      -- it stands, and what comes after it is read
      pub past_to : {Q : B → Type 0} {r : ℕ} → signed (bytes t) ≡ true → ReadTo Q s m K r → ReadTo Q s at (λ u. next (expects peek_in skip_in t u) (λ _. K)) r
      past_to h k = to_as (sign_as h) (then_to (λ _. K) g (λ _ _. k))

      pub past_word_to : {Q : B → Type 0} {r : ℕ} → lettered (bytes t) ≡ true → ReadTo Q s m K r
          → ReadTo Q s at (λ u. next (wants peek_in skip_in t u) (λ _. K)) r
      past_word_to h k = to_as (word_as h) (then_to (λ _. K) g (λ _ _. k))

-- ---- where a token stands or not

module _ {s : List ℕ} {at : ℕ} (w : List ℕ) where
  pub stands : {m : ℕ} → ReadTo Any s at (passes w) m → (same w (text (peek_in (drop at s))) ≡ true) × (skip_in (drop at s) ≡ drop m s)
  stands {m} g = pass_there s w at m (goes_to g) (omega (arith, g.from, g.within)) g.within

  pub stands_not : NotRead s at (passes w) → at ≤ length s → same w (text (peek_in (drop at s))) ≡ false
  stands_not g b = pass_not s w at (length s + 1) (goes_not {P = Any} g) b (omega arith)

  -- a token has bytes
  pub stands_onward : {m : ℕ} → ReadTo Any s at (passes w) m → 0 < length w → at < m
  stands_onward {m} g h = pass_onward s w at m (goes_to g) h (omega (arith, g.from, g.within)) g.within

-- a choice by what comes first: `x` is the test whether it is t
module _ {B : Type 0} (K L : Reader (List ℕ) B) (w : List ℕ) (x : List ℕ → Bool) (h : (u : List ℕ) → x u ≡ same w (text (peek_in u))) where
  abbrev by_first : Reader (List ℕ) B
  by_first u = choose (x u) (λ _. K (skip_in u)) (λ _. L u)

  abbrev by_test : List ℕ → Bool → Parsed (List ℕ) B
  by_test u b = choose b (λ _. K (skip_in u)) (λ _. L u)

  module _ {s : List ℕ} {at : ℕ} where
    there : {m : ℕ} → ReadTo Any s at (passes w) m → by_first (drop at s) ≡ K (drop m s)
    there g = let (e, n) = stands w g in ap (by_test (drop at s)) (h (drop at s) ∙ e) ∙ ap K n

    elsewhere : NotRead s at (passes w) → at ≤ length s → by_first (drop at s) ≡ L (drop at s)
    elsewhere g b = ap (by_test (drop at s)) (h (drop at s) ∙ stands_not w g b)

    first_to : {Q : B → Type 0} {m r : ℕ} → ReadTo Any s at (passes w) m → ReadTo Q s m K r → ReadTo Q s at by_first r
    first_to g k = record { what = k.what; reads = there g ∙ k.reads; holds = k.holds; from = omega (arith, g.from, k.from); within = k.within }

    first_not : {m : ℕ} → ReadTo Any s at (passes w) m → NotRead s m K → NotRead s at by_first
    first_not g k = record { fails = λ b. there g ∙ k.fails g.within }

    later_to : {Q : B → Type 0} {r : ℕ} → NotRead s at (passes w) → ReadTo Q s at L r → ReadTo Q s at by_first r
    later_to g k = record { what = k.what; reads = elsewhere g (omega (arith, k.from, k.within)) ∙ k.reads; holds = k.holds; from = k.from; within = k.within }

    later_not : NotRead s at (passes w) → NotRead s at L → NotRead s at by_first
    later_not g k = record { fails = λ b. elsewhere g b ∙ k.fails b }

module _ {B : Type 0} (K L : Reader (List ℕ) B) (t : String) where
  -- by a word
  abbrev by_word : Reader (List ℕ) B
  by_word u = choose (says peek_in skip_in t u) (λ _. K (skip_in u)) (λ _. L u)

  module _ (h : lettered (bytes t) ≡ true) {s : List ℕ} {at : ℕ} where
    pub word_to : {Q : B → Type 0} {m r : ℕ} → ReadTo Any s at (passes (bytes t)) m → ReadTo Q s m K r → ReadTo Q s at by_word r
    word_to = first_to K L (bytes t) (says peek_in skip_in t) (word_text (bytes t) h)

    pub word_not : {m : ℕ} → ReadTo Any s at (passes (bytes t)) m → NotRead s m K → NotRead s at by_word
    word_not = first_not K L (bytes t) (says peek_in skip_in t) (word_text (bytes t) h)

    pub other_to : {Q : B → Type 0} {r : ℕ} → NotRead s at (passes (bytes t)) → ReadTo Q s at L r → ReadTo Q s at by_word r
    other_to = later_to K L (bytes t) (says peek_in skip_in t) (word_text (bytes t) h)

    pub other_not : NotRead s at (passes (bytes t)) → NotRead s at L → NotRead s at by_word
    other_not = later_not K L (bytes t) (says peek_in skip_in t) (word_text (bytes t) h)

  -- by a sign
  abbrev by_sign : Reader (List ℕ) B
  by_sign u = choose (sees peek_in skip_in t u) (λ _. K (skip_in u)) (λ _. L u)

  module _ (h : signed (bytes t) ≡ true) {s : List ℕ} {at : ℕ} where
    pub sign_to : {Q : B → Type 0} {m r : ℕ} → ReadTo Any s at (passes (bytes t)) m → ReadTo Q s m K r → ReadTo Q s at by_sign r
    sign_to = first_to K L (bytes t) (sees peek_in skip_in t) (sign_text (bytes t) h)

    pub sign_not : {m : ℕ} → ReadTo Any s at (passes (bytes t)) m → NotRead s m K → NotRead s at by_sign
    sign_not = first_not K L (bytes t) (sees peek_in skip_in t) (sign_text (bytes t) h)

    pub no_sign_to : {Q : B → Type 0} {r : ℕ} → NotRead s at (passes (bytes t)) → ReadTo Q s at L r → ReadTo Q s at by_sign r
    no_sign_to = later_to K L (bytes t) (sees peek_in skip_in t) (sign_text (bytes t) h)

    pub no_sign_not : NotRead s at (passes (bytes t)) → NotRead s at L → NotRead s at by_sign
    no_sign_not = later_not K L (bytes t) (sees peek_in skip_in t) (sign_text (bytes t) h)

-- ---- a sign before digits

module _ {s : List ℕ} {at : ℕ} {P : Lead → Type 0} where
  lead_goes : {r : ℕ} → r ≤ length s → (at ≤ length s → Lands P s (read_lead peek_in skip_in (drop at s)) r) → at ≤ r
      → ReadTo P s at (read_lead peek_in skip_in) r
  lead_goes b f l = to_goes (record { lands = f; from = λ _. l; lost = λ k. absurd (omega arith) }) b

  pub lead_plus_to : {r : ℕ} → ReadTo Any s at (passes (bytes "+")) r → P plus → ReadTo P s at (read_lead peek_in skip_in) r
  lead_plus_to {r} g p = lead_goes g.within (λ b. lead_plus s at b P r (goes_to g) g.within p) g.from

  pub lead_minus_to : {r : ℕ} → NotRead s at (passes (bytes "+")) → ReadTo Any s at (passes (bytes "-")) r → P minus
      → ReadTo P s at (read_lead peek_in skip_in) r
  lead_minus_to {r} f g p = lead_goes g.within (λ b. lead_minus s at b P (length s + 1) r (goes_not f) (omega arith) (goes_to g) g.within p) g.from
