-- The parts of an update's right side: what the code finds is what the readers read.
use mathlib.Core.Path.{◌≡◌, refl, sym, ◌∙◌, ap, subst}
use mathlib.Core.Bool.{Bool, true, false, ◌&&◌, not}
use mathlib.Core.List.{List}
use Prim.Native.Nat.{ℕ, zero, suc, ◌+◌, ◌-◌, ◌*◌, ◌<◌, max}
use native.Mathlib.Omega.{arith}
use lib.ListN.{length, take, drop}
use Rattle.std.specs.Prelude.{Option, Some, None, MatchOption}
use Rattle.rules.specs.declared.Operator.{Operator}
use Rattle.rules.specs.declared.Operator.TheVariants.{Maximum}
use Rattle.syntax.specs.Grammar.{term, Factors, factors, Factor, Ref, show_ref}
use Rattle.syntax.specs.Known.{Entry}
use Rattle.syntax.specs.Meaning.{alike}
use Rattle.syntax.specs.Ranks.{level}
use Rattle.syntax.specs.Conditions.{mentions, in_factor, in_ref}
use Rattle.syntax.specs.Reader.{Parsed, broken, done, next, peek_in, skip_in, expects, read_expr, read_term, read_factors, read_factor, read_ref}
use Rattle.syntax.specs.Spelled.{Spells}
use Rattle.syntax.proofs.SoundExpr.{sounds}
use Rattle.code.specs.Compile.{code, code_factor, code_ref}
use Rattle.names.specs.Table.{variable_of, Tabled}
use Rattle.parts.specs.Answer.{worst, Answers}
use Rattle.parts.specs.Parts.{Passes, stands, Closes}
use Rattle.parts.specs.declared.Got.{Got}
use Rattle.parts.proofs.Laws.{since_none, read_done, read_none, reads_done, reads_none, reads_closed, reads_unclosed}
use Rattle.parts.proofs.Spans.{lies_from, lies_closed}
use Rattle.alike.specs.Alike.{Alike}
use Rattle.updates.specs.declared.Left.{Left}
use Rattle.updates.specs.Forms.{signs, scales, ends, Found, Met, Past, Repeated, timed, Timed, closed, Closed, depth_of, read_rest}
use Rattle.updates.proofs.Together.{no_more_factors}

-- ---- the left side's reference

module _ (depth : ℕ) (l : Left) (T s : List ℕ) (at : ℕ) (before after : List ℕ) (kept : take (2 * l.place) after ≡ take (2 * l.place) before)
    (line : ℕ) (m m' : List ℕ) where
  pub repeated_unread : Answers (read_ref peek_in skip_in) (λ t v. code_ref t v line) (in_ref depth) 0 (suc at) T s at 0 (level l.rank) m m' None
      → Repeated depth l T s at before after None
  unfolding Met
  repeated_unread an = record {
    met = λ t d f lt x sp.
        subst (λ (P : Parsed (List ℕ) Ref). Met depth t (variable_of T) s x P l.place (level l.rank) None)
        (sym (read_none (code_ref t (variable_of T) line) (λ y. worst t (variable_of T) (in_ref depth y)) s 0 (level l.rank) m m'
        (read_ref peek_in skip_in f (drop at s)) (an.reads t d f (omega arith)))) refl;
    kept = kept;
    past = tt;
  }

  module _ (g : Got) (an : Answers (read_ref peek_in skip_in) (λ t v. code_ref t v line) (in_ref depth) 0 (suc at) T s at 0 (level l.rank) m m' (Some g))
      {al : Bool} (ha : Alike s l.end at g.at al) where
    by_reference : (r : Option Got) → Past s at l.place r
        → ((t : List Entry) (y : Ref) → level g.rank ≡ max (level l.rank) (worst t (variable_of T) (in_ref depth y))
        → Found al s (drop g.at s) l.place (max (level l.rank) (worst t (variable_of T) (in_ref depth y))) r)
        → Repeated depth l T s at before after r
    unfolding Met
    by_reference r pa h = record {
      met = λ t d f lt x sp.
          let v = variable_of T in
          let (y, hy, so) = read_done (code_ref t v line) (λ y. worst t v (in_ref depth y)) s 0 (level l.rank) m m' (read_ref peek_in skip_in f (drop at s)) g
          (an.reads t d f (omega arith)) in
          subst (λ (P : Parsed (List ℕ) Ref). Met depth t v s x P l.place (level l.rank) r) (sym hy)
          (subst (λ (b : Bool). Found b s (drop g.at s) l.place (max (level l.rank) (worst t v (in_ref depth y))) r)
          (ha (show_ref x) (show_ref y) sp ((sounds peek_in skip_in f).ref (drop at s) (drop g.at s) y hy)) (h t y so.rank_is));
      kept = kept;
      past = pa;
    }

    pub repeated_other : al ≡ false → Repeated depth l T s at before after None
    unfolding Found
    repeated_other ea = by_reference None tt (λ t y ez. subst
        (λ (b : Bool). Found b s (drop g.at s) l.place (max (level l.rank) (worst t (variable_of T) (in_ref depth y))) None) (sym ea) refl)

    pub repeated_found : al ≡ true → Repeated depth l T s at before after (Some (record { at = g.at; place = l.place; rank = g.rank }))
    unfolding Found
    repeated_found ea =
        let w = an.within in
        let h : Got = record { at = g.at; place = l.place; rank = g.rank } in
        by_reference (Some h) (record { after = omega (arith, w.from); within = w.inside; place_is = refl }) (λ t y ez. subst
        (λ (b : Bool). Found b s (drop g.at s) l.place (max (level l.rank) (worst t (variable_of T) (in_ref depth y))) (Some h)) (sym ea)
        (g.at, record { got = h; is = refl; at = refl; place = refl; rank = ez }, refl))

-- what follows from it
module _ {depth : ℕ} {l : Left} {T s : List ℕ} {at : ℕ} {before after : List ℕ} where
  pub repeated_none : Repeated depth l T s at before after None → (t : List Entry) → Tabled T t → (f : ℕ) → 3 * (length s - at) < f → (x : Ref)
      → Spells peek_in skip_in s (show_ref x) (drop l.end s) → (y : Ref) (u : List ℕ) → read_ref peek_in skip_in f (drop at s) ≡ done y u
      → alike (show_ref x) (show_ref y) ≡ false
  unfolding Met Found
  repeated_none rp t d f lt x sp y u h =
      go (alike (show_ref x) (show_ref y))
      (subst (λ (P : Parsed (List ℕ) Ref). Met depth t (variable_of T) s x P l.place (level l.rank) None) h (rp.met t d f lt x sp))
    where
      go : (b : Bool) → Found b s u l.place (max (level l.rank) (worst t (variable_of T) (in_ref depth y))) None → b ≡ false
      go true (a, q, _) = absurd (let e = q.is in let z : ◌≡◌ {A = ℕ} 0 1 = cc in omega arith)
      go false q = refl

  pub repeated_some : {g : Got} → Repeated depth l T s at before after (Some g) → (t : List Entry) → Tabled T t → (f : ℕ) → 3 * (length s - at) < f → (x : Ref)
      → Spells peek_in skip_in s (show_ref x) (drop l.end s)
      → (y : Ref) × (read_ref peek_in skip_in f (drop at s) ≡ done y (drop g.at s)) × (alike (show_ref x) (show_ref y) ≡ true)
      × (level g.rank ≡ max (level l.rank) (worst t (variable_of T) (in_ref depth y)))
  unfolding Met Found
  repeated_some {g} rp t d f lt x sp = go (read_ref peek_in skip_in f (drop at s)) (rp.met t d f lt x sp)
    where
      by_test : (y : Ref) (u : List ℕ) (b : Bool) → Found b s u l.place (max (level l.rank) (worst t (variable_of T) (in_ref depth y))) (Some g)
          → (u ≡ drop g.at s) × (b ≡ true) × (level g.rank ≡ max (level l.rank) (worst t (variable_of T) (in_ref depth y)))
      by_test y u false q = absurd (let z : ◌≡◌ {A = ℕ} 0 1 = cc in omega arith)
      by_test y u true (a, q, k) =
          let e : q.got ≡ g = cc q.is in
          let ea : a ≡ g.at = cc (q.at, e) in
          let ez : level g.rank ≡ max (level l.rank) (worst t (variable_of T) (in_ref depth y)) = cc (q.rank, e) in
          (k ∙ ap (λ (n : ℕ). drop n s) ea, refl, ez)

      go : (P : Parsed (List ℕ) Ref) → Met depth t (variable_of T) s x P l.place (level l.rank) (Some g)
          → (y : Ref) × (P ≡ done y (drop g.at s)) × (alike (show_ref x) (show_ref y) ≡ true)
          × (level g.rank ≡ max (level l.rank) (worst t (variable_of T) (in_ref depth y)))
      go broken q = absurd (let z : ◌≡◌ {A = ℕ} 0 1 = cc in omega arith)
      go (done y u) q = let (k, b, ez) = by_test y u (alike (show_ref x) (show_ref y)) q in (y, ap (done y) k, b, ez)

-- ---- factors joined by *

term_of : (f : ℕ) (u : List ℕ) → timed (read_term peek_in skip_in (suc f) u)
    ≡ timed (next (read_factor peek_in skip_in f u) (λ y v. next (read_factors peek_in skip_in f v) (λ ys w. done (term y ys) w)))
unfolding read_term
term_of f u = refl

module _ (T s : List ℕ) (at line : ℕ) (b m : List ℕ) where
  -- with one more than the factor's fuel
  with_fuel : (r : Bool)
      → ((t : List Entry) → Tabled T t → (f : ℕ) → 3 * (length s - at) < suc f → r ≡ timed (read_term peek_in skip_in (suc (suc f)) (drop at s))) → Timed T s at r
  with_fuel r h t d zero lt = absurd (omega arith)
  with_fuel r h t d (suc zero) lt = absurd (omega arith)
  with_fuel r h t d (suc (suc f)) lt = h t d f (omega arith)

  pub timed_unread : Answers (read_factor peek_in skip_in) (λ t v. code_factor t v line) (in_factor 0) 0 (suc at) T s at 0 0 b m None → Timed T s at false
  unfolding read_term
  timed_unread an = with_fuel false (λ t d f lt.
      let q = read_none (code_factor t (variable_of T) line) (λ y. worst t (variable_of T) (in_factor 0 y)) s 0 0 b m (read_factor peek_in skip_in (suc f) (drop at s))
      (an.reads t d (suc f) (omega arith)) in
      rw q)

  module _ (g : Got) (an : Answers (read_factor peek_in skip_in) (λ t v. code_factor t v line) (in_factor 0) 0 (suc at) T s at 0 0 b m (Some g)) where
    factor_read : (t : List Entry) → Tabled T t → (f : ℕ) → 3 * (length s - at) < suc f
        → (x : Factor) × (read_factor peek_in skip_in (suc f) (drop at s) ≡ done x (drop g.at s))
    factor_read t d f lt =
        let (x, h, _) = read_done (code_factor t (variable_of T) line) (λ y. worst t (variable_of T) (in_factor 0 y)) s 0 0 b m
        (read_factor peek_in skip_in (suc f) (drop at s)) g (an.reads t d (suc f) (omega arith)) in
        (x, h)

    -- the last factor
    pub timed_last : {r : Bool} → scales (drop g.at s) ≡ false → r ≡ signs (drop g.at s) → Timed T s at (not r)
    unfolding read_term
    timed_last {r} c h = with_fuel (not r) (λ t d f lt.
        let (x, q) = factor_read t d f lt in
        rw (q, no_more_factors f (drop g.at s) c) (ap not h))

    -- further factors
    abbrev further : Factor → Bool → ℕ → Bool
    further x o f = timed (next (next (read_factor peek_in skip_in f (skip_in (drop g.at s))) (λ y v. next (read_factors peek_in skip_in f v)
        (λ ys w. done (factors o y ys) w))) (λ xs w. done (term x xs) w))

    factors_follow : (t : List Entry) → Tabled T t → (f : ℕ) → 3 * (length s - at) < suc f → scales (drop g.at s) ≡ true → {o : Bool} → stands 47 (drop g.at s) ≡ o
        → (x : Factor) × (timed (read_term peek_in skip_in (suc (suc f)) (drop at s)) ≡ further x o f)
    unfolding read_term read_factors
    factors_follow t d f lt c so = let (x, q) = factor_read t d f lt in (x, rw (q, c, so))

    pub timed_slash : scales (drop g.at s) ≡ true → stands 47 (drop g.at s) ≡ true → Timed T s at false
    timed_slash c h = with_fuel false (λ t d f lt. let (x, q) = factors_follow t d f lt c h in sym (q ∙ go x (read_factor peek_in skip_in f (skip_in (drop g.at s))) f))
      where
        go : (x : Factor) (P : Parsed (List ℕ) Factor) (f : ℕ)
            → timed (next (next P (λ y v. next (read_factors peek_in skip_in f v) (λ ys w. done (factors true y ys) w))) (λ xs w. done (term x xs) w)) ≡ false
        go x broken f = refl
        go x (done y v) f = by_rest (read_factors peek_in skip_in f v)
          where
            by_rest : (Q : Parsed (List ℕ) Factors) → timed (next (next Q (λ ys w. done (factors true y ys) w)) (λ xs w. done (term x xs) w)) ≡ false
            by_rest broken = refl
            by_rest (done ys w) = refl

    pub timed_more : scales (drop g.at s) ≡ true → stands 47 (drop g.at s) ≡ false → (k : ℕ) → Passes 1 s g.at k → {r : Bool} → Timed T s k r → Timed T s at r
    timed_more c h k ps {r} tk = with_fuel r (λ t d f lt.
        let w = an.within in
        let (x, q) = factors_follow t d f lt c h in
        tk t d (suc f) (omega (arith, w.from, ps.from, ps.within))
        ∙ ap (λ (u : List ℕ). timed (read_term peek_in skip_in (suc f) u)) ps.left
        ∙ go x f (skip_in (drop g.at s)) ∙ sym q)
      where
        go : (x : Factor) (f : ℕ) (u : List ℕ) → timed (read_term peek_in skip_in (suc f) u)
            ≡ timed (next (next (read_factor peek_in skip_in f u) (λ y v. next (read_factors peek_in skip_in f v) (λ ys w. done (factors false y ys) w)))
            (λ xs w. done (term x xs) w))
        go x f u = term_of f u ∙ by_first (read_factor peek_in skip_in f u)
          where
            by_first : (P : Parsed (List ℕ) Factor)
                → timed (next P (λ y v. next (read_factors peek_in skip_in f v) (λ ys w. done (term y ys) w)))
                ≡ timed (next (next P (λ y v. next (read_factors peek_in skip_in f v) (λ ys w. done (factors false y ys) w))) (λ xs w. done (term x xs) w))
            by_first broken = refl
            by_first (done y v) = by_rest (read_factors peek_in skip_in f v)
              where
                by_rest : (Q : Parsed (List ℕ) Factors)
                    → timed (next Q (λ ys w. done (term y ys) w)) ≡ timed (next (next Q (λ ys w. done (factors false y ys) w)) (λ xs w. done (term x xs) w))
                by_rest broken = refl
                by_rest (done ys w) = refl

-- ---- an expression in a bracket, and nothing more

module _ (T s : List ℕ) (at line : ℕ) (b m : List ℕ) where
  pub closed_unread : Answers (read_expr peek_in skip_in) (λ t v. code t v line) (mentions 1) 2 (suc at) T s at 0 0 b m None → Closed T s at false
  closed_unread an t d f lt =
      sym (ap closed (read_none (code t (variable_of T) line) (λ e. worst t (variable_of T) (mentions 1 e)) s 0 0 b m
      (read_expr peek_in skip_in f (drop at s)) (an.reads t d f lt)))

  module _ (g : Got) (an : Answers (read_expr peek_in skip_in) (λ t v. code t v line) (mentions 1) 2 (suc at) T s at 0 0 b m (Some g)) where
    by_read : (t : List Entry) → Tabled T t → (f : ℕ) → 3 * (length s - at) + 2 < f
        → closed (read_expr peek_in skip_in f (drop at s)) ≡ stands 41 (drop g.at s) && ends (skip_in (drop g.at s))
    by_read t d f lt =
        let (x, k, _) = read_done (code t (variable_of T) line) (λ e. worst t (variable_of T) (mentions 1 e)) s 0 0 b m
        (read_expr peek_in skip_in f (drop at s)) g (an.reads t d f lt) in
        ap closed k

    pub closed_unsealed : stands 41 (drop g.at s) ≡ false → Closed T s at false
    closed_unsealed q t d f lt = sym (by_read t d f lt ∙ ap (λ (c : Bool). c && ends (skip_in (drop g.at s))) q)

    pub closed_after : (h : Got) → Closes 41 s g h → {r : Bool} → r ≡ ends (drop h.at s) → Closed T s at r
    closed_after h se e t d f lt =
        e ∙ ap ends se.passed.left ∙ sym (by_read t d f lt ∙ ap (λ (c : Bool). c && ends (skip_in (drop g.at s))) se.stood)

-- ---- the remainder

-- by the operator of an arm
pub rest_answers : (line : ℕ) {o q : Operator} {T s : List ℕ} {at place most : ℕ} {b m : List ℕ} {r : Option Got} → o ≡ q
    → Answers (read_rest q) (λ t v. code t v line) (mentions (depth_of q)) 2 (suc at) T s at place most b m r
    → Answers (read_rest o) (λ t v. code t v line) (mentions (depth_of o)) 2 (suc at) T s at place most b m r
rest_answers line {T = T} {s} {at} {place} {most} {b} {m} {r} e h =
    subst (λ (p : Operator). Answers (read_rest p) (λ t v. code t v line) (mentions (depth_of p)) 2 (suc at) T s at place most b m r) (sym e) h

-- that of a maximum, with its bracket
module _ (line : ℕ) {T s : List ℕ} {at place most : ℕ} {b m : List ℕ} where
  pub rest_unread : Answers (read_expr peek_in skip_in) (λ t v. code t v line) (mentions 1) 2 (suc at) T s at place most b m None
      → Answers (read_rest Maximum) (λ t v. code t v line) (mentions 1) 2 (suc at) T s at place most b m None
  rest_unread h = record {
    reads = λ t d f lt.
        let v = variable_of T in
        reads_none (code t v line) (λ e. worst t v (mentions 1 e)) s place most b m (code t v line) (λ e. worst t v (mentions 1 e))
        (read_expr peek_in skip_in f (drop at s)) (since_none place most b) (λ x v. next (expects peek_in skip_in ")" v) (λ _ w. done x w)) m (h.reads t d f lt);
    within = tt;
  }

  pub rest_sealed : (g : Got) (r : Option Got) → Answers (read_expr peek_in skip_in) (λ t v. code t v line) (mentions 1) 2 (suc at) T s at place most b m (Some g)
      → MatchOption r (stands 41 (drop g.at s) ≡ false) (Closes 41 s g)
      → Answers (read_rest Maximum) (λ t v. code t v line) (mentions 1) 2 (suc at) T s at place most b m r
  rest_sealed g None h absent = record {
    reads = λ t d f lt.
        let v = variable_of T in
        reads_unclosed (code t v line) (λ e. worst t v (mentions 1 e)) s place most b m (code t v line) (λ e. worst t v (mentions 1 e))
        (read_expr peek_in skip_in f (drop at s)) (λ x w. done x w) m g (since_none place most b) (h.reads t d f lt) 41 absent;
    within = tt;
  }
  rest_sealed g (Some g') h se = record {
    reads = λ t d f lt.
        let v = variable_of T in
        reads_closed (code t v line) (λ e. worst t v (mentions 1 e)) s place most b m (code t v line) (λ e. worst t v (mentions 1 e))
        (read_expr peek_in skip_in f (drop at s)) (λ x w. done x w) m g (since_none place most b) (h.reads t d f lt) (Some g') se
        (λ x le so. reads_done (code t v line) (λ e. worst t v (mentions 1 e)) s place most b m x g' le so refl (omega arith));
    within = lies_from s (at + 1) place (suc at) at place (suc at) g' (omega arith) (omega arith) (lies_closed at place (suc at) se h.within);
  }
