-- The class of a cell, off the table of names.
use mathlib.Core.Path.{◌≡◌, refl, sym, ◌∙◌, ap}
use mathlib.Core.Bool.{Bool, true, false, cond, ◌&&◌}
use mathlib.Core.List.{List, [], ◌∷◌, ◌++◌}
use Prim.Native.Nat.{ℕ, zero, suc, ◌+◌, ◌≤◌, ◌<◌}
use native.Mathlib.Decide.{dec_le, dec_lt}
use native.Mathlib.Omega.{arith}
use borrow.Author.Tests.{lt-ltb, le-ltb, le-leb, lt-leb}
use lib.Dec.{leb, ltb}
use lib.ListN.{length, get_or, drop}
use lib.Seq.{drop-cons}
use Rattle.std.proofs.Common.{replicate}
use Rattle.std.proofs.lemmas.Grind.{common_steps}
use Rattle.rules.specs.declared.Class.{Class}
use Rattle.rules.specs.declared.Class.TheVariants.{Shared as shared}
use Rattle.rules.specs.Numbers.{class_by}
use Rattle.rules.proofs.NumberLaws.{numbered}
use Rattle.syntax.specs.Known.{Entry, nowhere}
use Rattle.syntax.specs.Meaning.{class_of}
use Rattle.names.specs.Table.{first_at, size_at, count_in, Row, Tabled}
use Rattle.setup.specs.Classes.{Filled, Marked, Classifies}

-- ---- the first cells filled

pub filled_front : (before front : List Class) (n : ℕ) (x : Class) → front ≡ replicate n x → n ≤ length before → Filled before 0 n x (front ++ drop n before)
filled_front before front n x e b = let z : length front ≡ n = grind (arith, common_steps) in record {
  size = grind (arith, common_steps);
  inside = λ c p q. let g : get_or front c shared ≡ x = grind (arith, common_steps) in grind (arith, common_steps);
  outside = λ c h. let l : n ≤ c = let w : ¬ (c < n) = λ q. h (omega arith) q in omega arith in grind (arith, common_steps);
}

-- ---- name by name, from the last

class_none : (t : List Entry) (n c : ℕ) → n ≡ length t → class_of (drop n t) c ≡ shared
unfolding class_of
class_none [] zero c e = refl
class_none [] (suc n) c e = absurd (omega arith)
class_none (x ∷ t) zero c e = absurd (omega arith)
class_none (x ∷ t) (suc n) c e = class_none t n c (omega arith)

class_step : (e : Entry) (es : List Entry) (c : ℕ) (b : Bool) → leb e.first c && ltb c (e.first + e.size) ≡ b
    → class_of (e ∷ es) c ≡ cond b e.class (class_of es c)
unfolding class_of
class_step e es c b h = ap (λ (x : Bool). cond x e.class (class_of es c)) h

-- the first n are the classes by the names from i on
pub record Classing (T : List ℕ) (n : ℕ) (before : List Class) (i : ℕ) (C : List Class) : Type 0 where
  pub few : i ≤ count_in T
  pub size : length C ≡ length before
  pub classes : (t : List Entry) → Tabled T t → (c : ℕ) → c < n → get_or C c shared ≡ class_of (drop i t) c
  pub others : (c : ℕ) → n ≤ c → get_or C c shared ≡ get_or before c shared

pub classing_none : (T : List ℕ) (n : ℕ) (before C : List Class) (i : ℕ) → i ≡ count_in T → Filled before 0 n shared C → Classing T n C i C
classing_none T n before C i e f = record {
  few = omega arith;
  size = refl;
  classes = λ t d c l. f.inside c (omega arith) l ∙ sym (class_none t i c (omega (arith, d.count, d.few)));
  others = λ c l. refl;
}

module _ (T : List ℕ) (n : ℕ) (before C C' : List Class) (i k : ℕ) (ek : k ≡ i + 1) (h : Classing T n before k C) (m : Marked T i n C C') where
  module _ (t : List Entry) (d : Tabled T t) (c : ℕ) (l : c < n) where
    abbrev e : Entry
    e = get_or t i nowhere

    row : Row T i e
    row = d.rows i (omega (arith, h.few, d.count))

    this : class_of (drop i t) c ≡ class_of (e ∷ drop k t) c
    this =
        let z : suc i ≡ k = omega arith in
        ap (λ (u : List Entry). class_of u c) (drop-cons t i nowhere (omega (arith, h.few, d.count))) ∙ ap (λ (j : ℕ). class_of (e ∷ drop j t) c) z

    by : (b : Bool) → leb e.first c && ltb c (e.first + e.size) ≡ b → class_of (drop i t) c ≡ cond b e.class (class_of (drop k t) c)
    by b y = this ∙ class_step e (drop k t) c b y

    other : (first_at T i ≤ c → c < first_at T i + size_at T i → ⊥) → leb e.first c && ltb c (e.first + e.size) ≡ false
        → get_or C' c shared ≡ class_of (drop i t) c
    other z y = m.outside c (λ p q. z p (omega arith)) ∙ h.classes t d c l ∙ sym (by false y)

    class_is : get_or C' c shared ≡ class_of (drop i t) c
    class_is = elim (dec_le (first_at T i) c) [
      | yes p ↦ elim (dec_lt c (first_at T i + size_at T i)) [
        | yes q ↦
            m.inside c p (omega arith) ∙ ap class_by row.class ∙ numbered e.class
            ∙ sym (by true (λ j. le-leb e.first c (omega (arith, row.first)) j
            && lt-ltb c (e.first + e.size) (omega (arith, row.first, row.size)) j))
        | no q ↦ other (λ _ z. q z) (λ j. le-leb e.first c (omega (arith, row.first)) j
            && le-ltb c (e.first + e.size) (omega (arith, row.first, row.size)) j)
      ]
      | no p ↦ other (λ z _. p z) (ap (λ (x : Bool). x && ltb c (e.first + e.size)) (lt-leb e.first c (omega (arith, row.first))))
    ]

  pub classing_more : Classing T n before i C'
  classing_more = record {
    few = omega (arith, h.few);
    size = m.size ∙ h.size;
    classes = class_is;
    others = λ c l. m.outside c (λ p q. omega arith) ∙ h.others c l;
  }

pub classing_all : (T : List ℕ) (n : ℕ) (before C₀ C : List Class) (i : ℕ) → i ≡ 0 → Filled before 0 n shared C₀ → Classing T n C₀ i C → Classifies T n before C
classing_all T n before C₀ C i e f h = record {
  size = h.size ∙ f.size;
  classes = λ t d c l. h.classes t d c l ∙ ap (λ (k : ℕ). class_of (drop k t) c) e;
  others = λ c l. h.others c l ∙ f.outside c (λ p q. omega arith);
}
