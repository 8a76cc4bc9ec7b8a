-- What readers answer one after another: instructions and ranks since the first began, the places between them, and fuel.
use mathlib.Core.Path.{◌≡◌, refl, sym, ◌∙◌, ap, subst}
use mathlib.Core.Bool.{cond, false}
use mathlib.Core.List.{List, [], ◌∷◌, ◌++◌}
use Prim.Native.Nat.{ℕ, zero, suc, ◌+◌, ◌-◌, ◌*◌, ◌≤◌, ◌<◌, max}
use native.Mathlib.Omega.{arith}
use lib.ListN.{length, drop, length-append, length-drop}
use lib.Seq.{sets}
use Rattle.std.specs.Prelude.{Option, Some, None}
use Rattle.syntax.specs.Known.{Entry}
use Rattle.syntax.specs.Conditions.{Mention}
use Rattle.syntax.specs.Ranks.{level}
use Rattle.syntax.specs.Reader.{Parsed, broken, done, next, skip_in}
use Rattle.code.specs.Instr.{Instr, words}
use Rattle.code.specs.Compile.{code_lead}
use Rattle.parts.specs.Answer.{worst, Reads}
use Rattle.parts.specs.Parts.{stands, lead_by, Closes, Emits}
use Rattle.parts.specs.declared.Joint.{Joint}
use Rattle.code.proofs.Words.{words_append, words_length}
use Rattle.lexer.proofs.Laws.{sets_append}
use Rattle.parts.specs.declared.Got.{Got}

-- ---- ranks

pub worst_append : (t : List Entry) (v : List ℕ) (ms ns : List Mention) → worst t v (ms ++ ns) ≡ max (worst t v ms) (worst t v ns)
unfolding worst
worst_append t v [] ns = omega arith
worst_append t v (m ∷ ms) ns = omega (arith, worst_append t v ms ns)

-- with fuel above k there is one unit to spend
pub fueled : (X : ℕ → Type 0) (k : ℕ) → ((f : ℕ) → k ≤ f → X (suc f)) → (f : ℕ) → k < f → X f
fueled X k h zero lt = absurd (omega arith)
fueled X k h (suc f) lt = h f (omega arith)

-- ---- since a reader began

-- at `place` with the rank `most` and this code: the instructions emitted, the highest rank k of what they came from, and how place, rank and code stand now
pub record Since (place most : ℕ) (before : List ℕ) (is : List Instr) (k p q : ℕ) (m : List ℕ) : Type 0 where
  pub place_is : p ≡ place + length is
  pub rank_is : q ≡ max most k
  pub code_is : m ≡ sets before (2 * place) (words is)

pub since_none : (place most : ℕ) (b : List ℕ) → Since place most b [] 0 place most b
unfolding words
since_none place most b = record { place_is = omega arith; rank_is = omega arith; code_is = refl }

module _ {place most : ℕ} {b : List ℕ} {is : List Instr} {k p q : ℕ} {m : List ℕ} (so : Since place most b is k p q m) where
  pub since_rank : {q' : ℕ} (j : ℕ) → q' ≡ max q j → Since place most b is (max k j) p q' m
  since_rank j e = record { place_is = so.place_is; rank_is = omega (arith, so.rank_is); code_is = so.code_is }

  pub since_emit : (js : List Instr) {a : List ℕ} → a ≡ sets m (2 * p) (words js) → Since place most b (is ++ js) k (p + length js) q a
  since_emit js e = record {
    place_is = omega (arith, so.place_is, length-append is js);
    rank_is = so.rank_is;
    code_is =
        let i : 2 * p ≡ 2 * place + length (words is) = omega (arith, so.place_is, words_length is) in
        e ∙ (λ h. sets (so.code_is h) (i h) (words js)) ∙ sets_append b (2 * place) (words is) (words js) ∙ ap (sets b (2 * place)) (sym (words_append is js));
  }

  -- the same, where the place and the rank are called otherwise
  pub since_at : {p' q' : ℕ} → p' ≡ p → q' ≡ q → Since place most b is k p' q' m
  since_at ep eq = record { place_is = ep ∙ so.place_is; rank_is = eq ∙ so.rank_is; code_is = so.code_is }

-- what was read, and then emitted
pub since_emits : {place most : ℕ} {b : List ℕ} {is : List Instr} {k : ℕ} {m a : List ℕ} (js : List Instr) {g r : Got}
    → Since place most b is k g.place (level g.rank) m → Emits (length js) (words js) g m a r → Since place most b (is ++ js) k r.place (level r.rank) a
since_emits js so em = since_at (since_emit so js em.written) em.place (ap level em.rank)

-- ---- one reader after another

module _ {C : Type 0} (c : C → List Instr) (k : C → ℕ) (s : List ℕ) (place most : ℕ) (b a : List ℕ) where
  -- what is read, and where it ends
  pub reads_done : {is : List Instr} {j : ℕ} (z : C) (g : Got) → g.at ≤ length s → Since place most b is j g.place (level g.rank) a → c z ≡ is → k z ≡ j
      → Reads c k s (done z (drop g.at s)) place most b a (Some g)
  unfolding Reads
  reads_done {is} z g h so ec ek =
      let e : length s - length (drop g.at s) ≡ g.at = omega (arith, length-drop g.at s) in (
        ap (λ (i : ℕ). drop i s) (sym e),
        record {
          got = g;
          is = refl;
          at = sym e;
          place = so.place_is ∙ ap (λ (l : List Instr). place + length l) (sym ec);
          rank = so.rank_is ∙ ap (max most) (sym ek);
        },
        so.code_is ∙ ap (λ (l : List Instr). sets b (2 * place) (words l)) (sym ec),
      )

  module _ {B : Type 0} (c₁ : B → List Instr) (k₁ : B → ℕ) (P : Parsed (List ℕ) B) {is : List Instr} {j p q : ℕ} {m : List ℕ}
      (so : Since place most b is j p q m) where
    -- a reader, and what comes after it: where the reader stopped, its instructions and its rank are added to those before it
    pub reads_next : (K : B → List ℕ → Parsed (List ℕ) C) (m' : List ℕ) (g : Got) (r : Option Got) → Reads c₁ k₁ s P p q m m' (Some g)
        → ((y : B) → g.at ≤ length s → Since place most b (is ++ c₁ y) (max j (k₁ y)) g.place (level g.rank) m'
        → Reads c k s (K y (drop g.at s)) place most b a r)
        → Reads c k s (next P K) place most b a r
    unfolding Reads
    reads_next K m' g r h go = by_case P h
      where
        by_case : (P : Parsed (List ℕ) B) → Reads c₁ k₁ s P p q m m' (Some g) → Reads c k s (next P K) place most b a r
        by_case broken h = absurd (let z : ◌≡◌ {A = ℕ} 0 1 = cc in omega arith)
        by_case (done y u) h =
            let e : h.1.got ≡ g = cc h.1.is in
            let ea : g.at ≡ length s - length u = cc (h.1.at, e) in
            let ep : g.place ≡ p + length (c₁ y) = cc (h.1.place, e) in
            let eq : level g.rank ≡ max q (k₁ y) = cc (h.1.rank, e) in
            subst (λ (w : List ℕ). Reads c k s (K y w) place most b a r) (ap (λ (i : ℕ). drop i s) ea ∙ sym h.0)
            (go y (omega arith) (since_at (since_rank (since_emit so (c₁ y) h.2) (k₁ y) refl) ep eq))

    -- and nothing where it read nothing
    pub reads_none : (K : B → List ℕ → Parsed (List ℕ) C) (m' : List ℕ) → Reads c₁ k₁ s P p q m m' None → Reads c k s (next P K) place most b a None
    unfolding Reads
    reads_none K m' h = by_case P h
      where
        by_case : (P : Parsed (List ℕ) B) → Reads c₁ k₁ s P p q m m' None → Reads c k s (next P K) place most b a None
        by_case broken h = refl
        by_case (done y u) h = absurd (let z : ◌≡◌ {A = ℕ} 0 1 = cc h.1.is in omega arith)

    -- the last reader, with what is made of it
    pub reads_last : (mk : B → C) (r : Option Got) → ((y : B) → c (mk y) ≡ is ++ c₁ y) → ((y : B) → k (mk y) ≡ max j (k₁ y)) → Reads c₁ k₁ s P p q m a r
        → Reads c k s (next P (λ y v. done (mk y) v)) place most b a r
    unfolding Reads
    reads_last mk r ec ek h = by_case P h
      where
        by_case : (P : Parsed (List ℕ) B) → Reads c₁ k₁ s P p q m a r → Reads c k s (next P (λ y v. done (mk y) v)) place most b a r
        by_case broken h = h
        by_case (done y u) h =
            let w = since_rank (since_emit so (c₁ y) h.2) (k₁ y) refl in (
              h.0,
              record {
                got = h.1.got;
                is = h.1.is;
                at = h.1.at;
                place = h.1.place ∙ w.place_is ∙ ap (λ (l : List Instr). place + length l) (sym (ec y));
                rank = h.1.rank ∙ w.rank_is ∙ ap (max most) (sym (ek y));
              },
              w.code_is ∙ ap (λ (l : List Instr). sets b (2 * place) (words l)) (sym (ec y)),
            )

  -- a sign, and what comes after it
  pub reads_sign : {ch : ℕ} {g h : Got} (K : List ℕ → Parsed (List ℕ) C) (r : Option Got) → Closes ch s g h → Reads c k s (K (drop h.at s)) place most b a r
      → Reads c k s (next (cond (stands ch (drop g.at s)) (done (tt {0}) (skip_in (drop g.at s))) broken) (λ _. K)) place most b a r
  reads_sign K r se h = rw (se.stood, ← se.passed.left) h

  pub reads_no_sign : (ch : ℕ) (g : Got) (K : List ℕ → Parsed (List ℕ) C) → stands ch (drop g.at s) ≡ false
      → Reads c k s (next (cond (stands ch (drop g.at s)) (done (tt {0}) (skip_in (drop g.at s))) broken) (λ _. K)) place most b a None
  unfolding Reads
  reads_no_sign ch g K e = rw e

-- what an answer tells of what was read
module _ {A : Type 0} (c : A → List Instr) (k : A → ℕ) (s : List ℕ) (place most : ℕ) (b a : List ℕ) where
  pub read_done : (P : Parsed (List ℕ) A) (g : Got) → Reads c k s P place most b a (Some g)
      → (x : A) × (P ≡ done x (drop g.at s)) × Since place most b (c x) (k x) g.place (level g.rank) a
  unfolding Reads
  read_done broken g h = absurd (let z : ◌≡◌ {A = ℕ} 0 1 = cc in omega arith)
  read_done (done x u) g h =
      let e : h.1.got ≡ g = cc h.1.is in
      let ea : length s - length u ≡ g.at = cc (h.1.at, e) in
      let ep : g.place ≡ place + length (c x) = cc (h.1.place, e) in
      let eq : level g.rank ≡ max most (k x) = cc (h.1.rank, e) in
      (x, ap (done x) (h.0 ∙ ap (λ (i : ℕ). drop i s) ea), record { place_is = ep; rank_is = eq; code_is = h.2 })

  pub read_none : (P : Parsed (List ℕ) A) → Reads c k s P place most b a None → P ≡ broken
  unfolding Reads
  read_none broken h = refl
  read_none (done x u) h = absurd (let z : ◌≡◌ {A = ℕ} 0 1 = cc h.1.is in omega arith)

-- a reader and a sign, and what comes after them
module _ {B C : Type 0} (c : C → List Instr) (k : C → ℕ) (s : List ℕ) (place most : ℕ) (b a : List ℕ) (c₁ : B → List Instr) (k₁ : B → ℕ)
    (P : Parsed (List ℕ) B) (K : B → List ℕ → Parsed (List ℕ) C) {is : List Instr} {j p q : ℕ} {m : List ℕ} (m' : List ℕ) (g : Got)
    (so : Since place most b is j p q m) (h : Reads c₁ k₁ s P p q m m' (Some g)) where
  pub reads_closed : {ch : ℕ} {g' : Got} (r : Option Got) → Closes ch s g g'
      → ((y : B) → g'.at ≤ length s → Since place most b (is ++ c₁ y) (max j (k₁ y)) g'.place (level g'.rank) m'
      → Reads c k s (K y (drop g'.at s)) place most b a r)
      → Reads c k s (next P (λ y u. next (cond (stands ch u) (done (tt {0}) (skip_in u)) broken) (λ _. K y))) place most b a r
  reads_closed {ch} r se go =
      reads_next c k s place most b a c₁ k₁ P so (λ y u. next (cond (stands ch u) (done (tt {0}) (skip_in u)) broken) (λ _. K y)) m' g r h
      (λ y le so'. reads_sign c k s place most b a (K y) r se (go y se.passed.within (since_at so' se.place (ap level se.rank))))

  pub reads_unclosed : (ch : ℕ) → stands ch (drop g.at s) ≡ false
      → Reads c k s (next P (λ y u. next (cond (stands ch u) (done (tt {0}) (skip_in u)) broken) (λ _. K y))) place most b a None
  reads_unclosed ch e =
      reads_next c k s place most b a c₁ k₁ P so (λ y u. next (cond (stands ch u) (done (tt {0}) (skip_in u)) broken) (λ _. K y)) m' g None h
      (λ y le so'. reads_no_sign c k s place most b a ch g (K y) e)

pub emits_none : (g : Got) (m : List ℕ) → Emits 0 [] g m m g
emits_none g m = record { at = refl; place = omega arith; rank = refl; written = refl }

-- the instruction of a lead, or none, by which lead it is
pub emits_lead : {j k : Joint} (g : Got) (m a : List ℕ) (r : Got) → j ≡ k → Emits (length (code_lead (lead_by k))) (words (code_lead (lead_by k))) g m a r
    → Emits (length (code_lead (lead_by j))) (words (code_lead (lead_by j))) g m a r
emits_lead g m a r e = subst (λ (i : Joint). Emits (length (code_lead (lead_by i))) (words (code_lead (lead_by i))) g m a r) (sym e)

-- the same under another name
pub reads_as : {A B : Type 0} (c : A → List Instr) (k : A → ℕ) (c' : B → List Instr) (k' : B → ℕ) (s : List ℕ) (place most : ℕ) (b a : List ℕ)
    (r : Option Got) (x : A) (y : B) (u : List ℕ)
    → c' y ≡ c x → k' y ≡ k x → Reads c k s (done x u) place most b a r → Reads c' k' s (done y u) place most b a r
unfolding Reads
reads_as c k c' k' s place most b a r x y u ec ek h = (
  h.0,
  record {
    got = h.1.got;
    is = h.1.is;
    at = h.1.at;
    place = h.1.place ∙ ap (λ (l : List Instr). place + length l) (sym ec);
    rank = h.1.rank ∙ ap (max most) (sym ek);
  },
  h.2 ∙ ap (λ (l : List Instr). sets b (2 * place) (words l)) (sym ec),
)

-- two readers, with instructions after the first
module _ {A B C : Type 0} (c₁ : A → List Instr) (k₁ : A → ℕ) (c₂ : B → List Instr) (k₂ : B → ℕ) (c : C → List Instr) (k : C → ℕ) (mk : A → B → C)
    (js : List Instr)
    (hc : (x : A) (y : B) → c (mk x y) ≡ (c₁ x ++ js) ++ c₂ y) (hk : (x : A) (y : B) → k (mk x y) ≡ max (k₁ x) (k₂ y)) where
  pub in_turn : (s : List ℕ) (place most : ℕ) (b m m' a : List ℕ) (g g' : Got) (r : Option Got) (P : Parsed (List ℕ) A) (Q : List ℕ → Parsed (List ℕ) B)
      → Reads c₁ k₁ s P place most b m (Some g) → Emits (length js) (words js) g m m' g' → Reads c₂ k₂ s (Q (drop g'.at s)) g'.place (level g'.rank) m' a r
      → Reads c k s (next P (λ x u. next (Q u) (λ y v. done (mk x y) v))) place most b a r
  in_turn s place most b m m' a g g' r P Q h em go =
      reads_next c k s place most b a c₁ k₁ P (since_none place most b) (λ x u. next (Q u) (λ y v. done (mk x y) v)) m g r h
      (λ x le so.
      reads_last c k s place most b a c₂ k₂ (Q (drop g.at s)) (since_emits js so em) (mk x) r (hc x) (λ y. omega (arith, hk x y))
      (subst (λ (i : ℕ). Reads c₂ k₂ s (Q (drop i s)) g'.place (level g'.rank) m' a r) em.at go))
