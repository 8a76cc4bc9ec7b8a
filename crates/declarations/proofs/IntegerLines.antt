-- Declared names.
use mathlib.Core.Path.{◌≡◌, refl, sym, ◌∙◌, ap, subst}
use mathlib.Core.Bool.{Bool, true, false, cond, not, ◌&&◌, ◌||◌, or-false, or-true}
use mathlib.Core.List.{List, [], ◌∷◌, ◌++◌, append_assoc, append-nil}
use Prim.Native.Nat.{ℕ, zero, suc, ◌+◌, ◌*◌, ◌≤◌, ◌<◌, min, max}
use native.Mathlib.Decide.{dec_lt, ℕ_discrete}
use native.Mathlib.Omega.{arith}
use borrow.Author.Tests.{leb-true, le-leb}
use lib.Dec.{leb}
use lib.ListN.{length, get_or, drop, length-append}
use Rattle.syntax.specs.Bytes.{bytes, choose, same, any, all, between}
use Rattle.syntax.specs.Grammar.{number, Declared, one, array, grid}
use Rattle.syntax.specs.Known.{Entry, known, declared_name, declared_extents, cells_of, declared_size, total, entry_of, entries}
use Rattle.names.specs.Table.{extents_of, variable_of, Tabled, Unknown, Knows, Stands, Unclaimed, declared, count_in, length_at, variable_entry, name_words}
use Rattle.names.proofs.Rows.{name_length}
use Rattle.names.specs.declared.Shape.{Shape}
use Rattle.syntax.proofs.Table.{extents_few}
use Rattle.syntax.specs.Conditions.{different}
use Rattle.syntax.proofs.Spelling.{both_true}
use Rattle.syntax.proofs.TestLaws.{both_hold, any_append, neither_holds, same_comm_false, same_truth}
use Rattle.syntax.specs.Reader.{Parsed, broken, done, Reader, next, sees, expects, read_name, read_digits, read_more, read_declared, peek_in, skip_in}
use Rattle.lexer.specs.declared.Word.{Word}
use Rattle.lexer.specs.declared.Number.{Number}
use Rattle.lexer.specs.Places.{Any, passes, Spells, Numbers, NotRead, ReadTo}
use Rattle.lexer.proofs.InTurn.{not_then, then_not, then_to, to_done, not_past, past_to, sign_to, sign_not, no_sign_to, no_sign_not}
use Rattle.std.specs.Prelude.{Option, None, Some, MatchOption}
use Rattle.std.specs.Prelude.{is_some}
use Rattle.names.specs.declared.Named.{Named}
use Rattle.syntax.specs.declared.Rank.{Rank}
use Rattle.syntax.specs.Ranks.{level}
use Rattle.declarations.specs.declared.Item.{Item}
use Rattle.lexer.specs.Lex.{part}
use Rattle.declarations.specs.Integer.{shape_of, Declares, Follow, names_of, Later, Repeated, Enters, fits, Entered, apart, fit, Enlists, Integers}
use Rattle.declarations.specs.declared.Listed.{Listed}
use Rattle.heading.specs.Lists.{order, Keeps}
use Rattle.heading.proofs.Turns.{on, more_comma, more_none, list_last, list_more}
use Rattle.heading.proofs.Lists.{order_unnamed, order_most, order_some, order_either}

-- a reading that comes to something
broken_done : {A : Type 0} {a : A} {u : List ℕ} → broken ≡ done a u → ⊥
broken_done {A} {a} {u} e = let z : ◌≡◌ {A = ℕ} 0 1 = ap (λ (p : Parsed (List ℕ) A). elim p [ broken ↦ 0 | done x v ↦ 1 ]) e in omega arith

abbrev what : Parsed (List ℕ) (List Declared) → List Declared
what broken = []
what (done xs v) = xs

-- ---- one declared name

-- extents up to 2^31 have the same product up to 4,097
capped : (a b : ℕ) → min (min a 2147483648 * min b 2147483648) 4097 ≡ min (a * b) 4097
capped zero b = omega arith
capped (suc a) zero = omega arith
capped (suc a) (suc b) = elim (dec_lt 2147483648 (suc a)) [
  | yes p ↦ let e : min (suc a) 2147483648 ≡ 2147483648 = omega arith in rw e (omega arith)
  | no p ↦ elim (dec_lt 2147483648 (suc b)) [
    | yes q ↦ let e : min (suc b) 2147483648 ≡ 2147483648 = omega arith in rw e (omega arith)
    | no q ↦
        let e : min (suc a) 2147483648 ≡ suc a = omega arith in
        let f : min (suc b) 2147483648 ≡ suc b = omega arith in
        rw (e, f)
  ]
]

-- what comes after the name, and after the first extent
abbrev second : List ℕ → List ℕ → Reader (List ℕ) Declared
second x y u = choose (sees peek_in skip_in "," u)
    (λ _. next (read_digits peek_in skip_in (skip_in u)) (λ n v. next (expects peek_in skip_in ")" v) (λ _. done (grid x y n))))
    (λ _. next (expects peek_in skip_in ")" u) (λ _. done (array x y)))

abbrev rest : List ℕ → Reader (List ℕ) Declared
rest x u = choose (sees peek_in skip_in "(" u) (λ _. next (read_digits peek_in skip_in (skip_in u)) (second x)) (λ _. done (one x) u)

-- digits after the bracket, and after the comma
abbrev extents : List ℕ → Reader (List ℕ) Declared
extents x u = next (read_digits peek_in skip_in u) (second x)

abbrev columns : List ℕ → List ℕ → Reader (List ℕ) Declared
columns x y u = next (read_digits peek_in skip_in u) (λ n v. next (expects peek_in skip_in ")" v) (λ _. done (grid x y n)))

abbrev closed : Declared → Reader (List ℕ) Declared
closed d u = next (expects peek_in skip_in ")" u) (λ _. done d)

module _ {s : List ℕ} {from : ℕ} where
  pub nameless : NotRead s from (read_name peek_in skip_in) → NotRead s from (read_declared peek_in skip_in)
  nameless g = not_then rest g

  module _ (w : Word) (h : ReadTo (Spells s w) s from (read_name peek_in skip_in) w.next) where
    pub declares_one : NotRead s w.next (passes (bytes "("))
        → ReadTo (Declares s (record { next = w.next; start = w.start; stop = w.next; shape = record { size = 1; rows = 0; columns = 0 } })) s from
        (read_declared peek_in skip_in) w.next
    declares_one g = then_to rest h (λ x p. no_sign_to (extents x) (done (one x)) "(" refl g
        (to_done (one x) h.within (record { name = p.bytes; order = p.order; inside = h.within; short = p.short; shape = refl })))

    module _ {o : ℕ} (g : ReadTo Any s w.next (passes (bytes "(")) o) where
      -- by what comes after the bracket
      opened : {Q : Declared → Type 0} {c : ℕ} → ((x : List ℕ) → Spells s w x → ReadTo Q s o (extents x) c) → ReadTo Q s from (read_declared peek_in skip_in) c
      opened f = then_to rest h (λ x p. sign_to (extents x) (done (one x)) "(" refl g (f x p))

      not_opened : ((x : List ℕ) → NotRead s o (extents x)) → NotRead s from (read_declared peek_in skip_in)
      not_opened f = then_not rest h (λ x p. sign_not (extents x) (done (one x)) "(" refl g (f x))

      pub rowless : NotRead s o (read_digits peek_in skip_in) → NotRead s from (read_declared peek_in skip_in)
      rowless n = not_opened (λ x. not_then (second x) n)

      module _ (k : Number) (d : ReadTo (Numbers k) s o (read_digits peek_in skip_in) k.next) where
        -- an array
        module _ (l : NotRead s k.next (passes (bytes ","))) where
          pub array_open : NotRead s k.next (passes (bytes ")")) → NotRead s from (read_declared peek_in skip_in)
          array_open n = not_opened (λ x. then_not (second x) d (λ y q. no_sign_not (columns x y) (closed (array x y)) "," refl l
              (not_past ")" (done (array x y)) refl n)))

          pub declares_array : (c z : ℕ) → ReadTo Any s k.next (passes (bytes ")")) c → z ≡ min (k.number * 1) 4097
              → ReadTo (Declares s (record { next = c; start = w.start; stop = w.next; shape = record { size = z; rows = k.number; columns = 0 } })) s from
              (read_declared peek_in skip_in) c
          declares_array c z n ez = opened (λ x p. then_to (second x) d (λ y q.
              let e : z ≡ min (number y) 4097 = omega (arith, ez, q) in
              no_sign_to (columns x y) (closed (array x y)) "," refl l
              (past_to ")" (done (array x y)) n refl (to_done (array x y) n.within
              (record { name = p.bytes; order = p.order; inside = h.within; short = p.short; shape = λ i. record { size = e i; rows = q i; columns = 0 } })))))

        -- a grid
        module _ {m : ℕ} (l : ReadTo Any s k.next (passes (bytes ",")) m) where
          pub columnless : NotRead s m (read_digits peek_in skip_in) → NotRead s from (read_declared peek_in skip_in)
          columnless n = not_opened (λ x. then_not (second x) d (λ y q. sign_not (columns x y) (closed (array x y)) "," refl l
              (not_then (λ e. closed (grid x y e)) n)))

          module _ (k₂ : Number) (d₂ : ReadTo (Numbers k₂) s m (read_digits peek_in skip_in) k₂.next) where
            pub grid_open : NotRead s k₂.next (passes (bytes ")")) → NotRead s from (read_declared peek_in skip_in)
            grid_open n = not_opened (λ x. then_not (second x) d (λ y q. sign_not (columns x y) (closed (array x y)) "," refl l
                (then_not (λ e. closed (grid x y e)) d₂ (λ e _. not_past ")" (done (grid x y e)) refl n))))

            pub declares_grid : (c z : ℕ) → ReadTo Any s k₂.next (passes (bytes ")")) c → z ≡ min (k.number * k₂.number) 4097
                → ReadTo (Declares s (record { next = c; start = w.start; stop = w.next; shape = record { size = z; rows = k.number; columns = k₂.number } })) s
                from (read_declared peek_in skip_in) c
            declares_grid c z n ez = opened (λ x p. then_to (second x) d (λ y q. sign_to (columns x y) (closed (array x y)) "," refl l
                (then_to (λ e. closed (grid x y e)) d₂ (λ e q₂.
                let f : z ≡ min (number y * number e) 4097 = ez ∙ (λ i. min (q i * q₂ i) 4097) ∙ capped (number y) (number e) in
                past_to ")" (done (grid x y e)) n refl (to_done (grid x y e) n.within
                (record { name = p.bytes; order = p.order; inside = h.within; short = p.short; shape = λ i. record { size = f i; rows = q i; columns = q₂ i } }))))))

-- ---- further ones

-- a name that follows, or none
module _ (s : List ℕ) (from : ℕ) (w : List ℕ) where
  pub later_none : from ≤ length s → NotRead s from (passes (bytes ",")) → Later s from w false
  unfolding read_more
  later_none b g ds (zero, u, e) = absurd (broken_done e)
  later_none b g ds (suc f, u, e) = ap (λ xs. any (same w) (names_of xs)) (nil (sym (more_none (read_declared peek_in skip_in) f g b) ∙ e))
    where
      nil : done [] (drop from s) ≡ done ds u → [] ≡ ds
      nil q = ap what q

  module _ {k : ℕ} (g : ReadTo Any s from (passes (bytes ",")) k) where
    -- what the first of them is, and what follows it
    parts : (ds : List Declared) → Follow s from ds
        → (p : Parsed (List ℕ) Declared) → read_declared peek_in skip_in (drop k s) ≡ p
        → (d : Declared) × (v : List ℕ) × (p ≡ done d v) × (ds' : List Declared) × (ds ≡ d ∷ ds')
        × ((f : ℕ) × (u : List ℕ) × (read_more peek_in skip_in f (read_declared peek_in skip_in) v ≡ done ds' u))
    unfolding read_more
    parts ds (zero, u, e) p q = absurd (broken_done e)
    parts ds (suc f, u, e) p q = go p
        (ap (λ (p : Parsed (List ℕ) Declared). next p (on (read_declared peek_in skip_in) f)) (sym q) ∙ sym (more_comma (read_declared peek_in skip_in) f g) ∙ e)
      where
        onto : (d : Declared) (p : Parsed (List ℕ) (List Declared)) → next p (λ xs. done (d ∷ xs)) ≡ done ds u
            → (xs : List Declared) × (v : List ℕ) × (p ≡ done xs v) × (d ∷ xs ≡ ds)
        onto d broken q = absurd (broken_done q)
        onto d (done xs v) q = (xs, v, refl, ap what q)

        go : (p : Parsed (List ℕ) Declared) → next p (on (read_declared peek_in skip_in) f) ≡ done ds u
            → (d : Declared) × (v : List ℕ) × (p ≡ done d v) × (ds' : List Declared) × (ds ≡ d ∷ ds')
            × ((f : ℕ) × (u : List ℕ) × (read_more peek_in skip_in f (read_declared peek_in skip_in) v ≡ done ds' u))
        go broken q = absurd (broken_done q)
        go (done d v) q =
            let (xs, z, x, y) = onto d (read_more peek_in skip_in f (read_declared peek_in skip_in) v) q in
            (d, v, refl, xs, sym y, (f, z, x))

    pub later_broken : NotRead s k (read_declared peek_in skip_in) → Later s from w false
    later_broken n ds q = let (d, v, e, ds', x, y) = parts ds q _ (n.fails g.within) in absurd (broken_done e)

    module _ (r : Item) (h : ReadTo (Declares s r) s k (read_declared peek_in skip_in) r.next) where
      first : (ds : List Declared) → Follow s from ds → (ds' : List Declared) × (ds ≡ h.what ∷ ds') × Follow s r.next ds'
      first ds q = let (d, v, e, ds', x, y) = parts ds q _ h.reads in
          (ds', x ∙ ap (λ (d : Declared). d ∷ ds') (sym (ap (read_or d) e)), (y.0, y.1, ap (read_more peek_in skip_in y.0 (read_declared peek_in skip_in)) (ap left e) ∙ y.2))
        where
          read_or : Declared → Parsed (List ℕ) Declared → Declared
          read_or c broken = c
          read_or c (done d v) = d

          left : Parsed (List ℕ) Declared → List ℕ
          left broken = []
          left (done d v) = v

      pub later_here : same w (part s r.start r.stop) ≡ true → Later s from w true
      later_here y ds q =
          let (ds', e, n) = first ds q in
          sym (ap (λ xs. any (same w) (names_of xs)) e ∙ ap (λ (c : Bool). c || any (same w) (names_of ds')) (ap (same w) h.holds.name ∙ y))

      pub later_on : same w (part s r.start r.stop) ≡ false → (v : Bool) → Later s r.next w v → Later s from w v
      later_on y v z ds q =
          let (ds', e, n) = first ds q in
          z ds' n ∙ sym (ap (λ xs. any (same w) (names_of xs)) e ∙ ap (λ (c : Bool). c || any (same w) (names_of ds')) (ap (same w) h.holds.name ∙ y))

-- a name that was not found
pub undeclared : (T w : List ℕ) (o : Option Named) → ((t : List Entry) → Tabled T t → MatchOption o (Unknown t w) (λ n. Knows t w n × Stands T t w n))
    → is_some o ≡ false → (t : List Entry) → Tabled T t → known w t ≡ false
undeclared T w None f e t d = (f t d).known
undeclared T w (Some n) f e t d = cc

-- ---- ranks

pub fits_true : (n c z : ℕ) → fits n c z ≡ true → (1 ≤ z) × (z ≤ 4096) × (c + z ≤ 4096) × (n < 16)
fits_true n c z h =
    let (p, q) = both_true (between 1 4096 z) _ h in
    let (a, b) = both_true (leb 1 z) _ p in
    let (d, e) = both_true (leb (c + z) 4096) _ q in
    (leb-true 1 z a, leb-true z 4096 b, leb-true (c + z) 4096 d, omega (arith, leb-true (n + 1) 16 e))

pub true_fits : (n c z : ℕ) → 1 ≤ z → z ≤ 4096 → c + z ≤ 4096 → n < 16 → fits n c z ≡ true
true_fits n c z a b d e = both_hold (both_hold (le-leb 1 z a) (le-leb z 4096 b)) (both_hold (le-leb (c + z) 4096 d) (le-leb (n + 1) 16 (omega arith)))

pub unfit : (n c z : ℕ) → ((1 ≤ z) × (z ≤ 4096) × (c + z ≤ 4096) × (n < 16) → ⊥) → fits n c z ≡ false
unfit n c z f = go (fits n c z) refl
  where
    go : (b : Bool) → fits n c z ≡ b → b ≡ false
    go true e = absurd (f (fits_true n c z e))
    go false e = refl

-- a size up to 4,097 says whether the size itself fits
pub fits_least : (n c z : ℕ) → fits n c (min z 4097) ≡ fits n c z
fits_least n c z = same_truth _ _
    (λ h. let (a, b, d, e) = fits_true n c (min z 4097) h in true_fits n c z (omega (arith, a)) (omega (arith, b)) (omega (arith, b, d)) e)
    (λ h. let (a, b, d, e) = fits_true n c z h in true_fits n c (min z 4097) (omega (arith, a, b)) (omega (arith, b)) (omega (arith, b, d)) e)

-- ---- one declared name, checked and added

module _ (T s T' : List ℕ) (c most : ℕ) (r : Item) (again : Bool) (names more : ℕ) (rank : Rank)
    (er : level rank ≡ max most (order (not again) (fits names c r.shape.size))) where
  -- rank 0: the names and the size are in order
  pub rank_good : level rank ≡ 0 → (most ≡ 0) × (again ≡ false) × (fits names c r.shape.size ≡ true)
  rank_good e = go again (fits names c r.shape.size) refl refl
    where
      go : (a b : Bool) → again ≡ a → fits names c r.shape.size ≡ b → (most ≡ 0) × (a ≡ false) × (b ≡ true)
      go true b ea eb = let q : level rank ≡ max most 2 = er ∙ ap (λ (x : Bool). max most (order (not x) (fits names c r.shape.size))) ea in absurd (omega (arith, q, e))
      go false true ea eb = let q : level rank ≡ max most 0 = er ∙ (λ i. max most (order (not (ea i)) (eb i))) in (omega (arith, q, e), refl, refl)
      go false false ea eb = let q : level rank ≡ max most 1 = er ∙ (λ i. max most (order (not (ea i)) (eb i))) in absurd (omega (arith, q, e))

  module _ (d : Declared) (p : Declares s r d) (rep : Repeated T s r.next (part s r.start r.stop) again) (en : names ≡ count_in T)
      (ent : Enters T (part s r.start r.stop) c r.shape (level rank) T' more) where
    unknown : (t : List Entry) → Tabled T t → again ≡ false → known (declared_name d) t ≡ false
    unknown t tab b = go (known (declared_name d) t) refl
      where
        go : (x : Bool) → known (declared_name d) t ≡ x → x ≡ false
        go false e = refl
        go true e = sym (rep.before t tab (ap (λ (w : List ℕ). known w t) (sym p.name) ∙ e)) ∙ b

    pub entered : Entered T s c most T' (record { next = r.next; cells = more; rank = rank }) d
    entered = record {
      rank = λ t tab ds q.
          let a = rep.either t tab ds q ∙ ap (λ (w : List ℕ). known w t || any (same w) (names_of ds)) (sym p.name) in
          let n : names ≡ length t = omega (arith, en, tab.count, tab.few) in
          er ∙ (λ i. max most (order (not (a i)) (fits (n i) c (p.shape i).size)))
          ∙ ap (λ (b : Bool). max most (order (not (known (declared_name d) t || any (same (declared_name d)) (names_of ds))) b))
          (fits_least (length t) c (declared_size d));
      fresh = λ z t tab.
          let n : names ≡ length t = omega (arith, en, tab.count, tab.few) in
          let (a, b, x) = rank_good z in
          (a, unknown t tab b, sym (fits_least (length t) c (declared_size d)) ∙ sym (λ i. fits (n i) c (p.shape i).size) ∙ x);
      enters = subst (λ (w : List ℕ). Enters T w c (shape_of d) (level rank) T' more) (sym p.name)
          (subst (λ (z : Shape). Enters T (part s r.start r.stop) c z (level rank) T' more) p.shape ent);
    }

  module _ (w : List ℕ) (ent : Enters T w c r.shape (level rank) T' more) where
    pub few_cells : c ≤ 4096 → more ≤ 4096
    few_cells b = elim (ℕ_discrete (level rank) 0) [
      | yes e ↦ omega (arith, ent.more e, (fits_true names c r.shape.size (rank_good e).2).2)
      | no n ↦ omega (arith, ent.same n)
    ]

    pub keeps : Keeps T T'
    keeps h = elim (ℕ_discrete (level rank) 0) [
      | yes e ↦ let q = (ent.added e).variable h in (omega (arith, name_length T' 16, name_length T 16, ap length q), q)
      | no n ↦ subst (λ (X : List ℕ). (length_at X variable_entry ≤ name_words) × (variable_of X ≡ variable_of T)) (sym (ent.left n)) (h, refl)
    ]

-- ---- declared names one after the other

-- names that are not x are known with it exactly where they are known without it
known_more : (y : List ℕ) (t : List Entry) (e : Entry) → known y (t ++ (e ∷ [])) ≡ known y t || same y e.name
known_more y t e = any_append (λ x. same y x.name) t (e ∷ []) ∙ ap (λ (b : Bool). known y t || b) (or-false (same y e.name))

unknown_more : (t : List Entry) (e : Entry) (xs : List (List ℕ)) → any (same e.name) xs ≡ false
    → any (λ y. known y (t ++ (e ∷ []))) xs ≡ any (λ y. known y t) xs
unknown_more t e [] h = refl
unknown_more t e (y ∷ xs) h =
    let (p, q) = neither_holds (same e.name y) (any (same e.name) xs) h in
    let k : known y (t ++ (e ∷ [])) ≡ known y t = known_more y t e ∙ ap (λ (b : Bool). known y t || b) (same_comm_false e.name y p) ∙ or-false (known y t) in
    λ i. k i || unknown_more t e xs q i

-- a name that is neither known nor follows
apart_first : (t : List Entry) (d : Declared) (ds : List Declared) → known (declared_name d) t || any (same (declared_name d)) (names_of ds) ≡ false
    → apart t (d ∷ ds) ≡ apart t ds
apart_first t d ds h =
    let (p, q) = neither_holds (known (declared_name d) t) _ h in
    λ i. (not (q i) && different (names_of ds)) && not (p i || any (λ x. known x t) (names_of ds))

-- one that is known or follows
apart_not : (t : List Entry) (d : Declared) (ds : List Declared) → known (declared_name d) t || any (same (declared_name d)) (names_of ds) ≡ true
    → apart t (d ∷ ds) ≡ false
apart_not t d ds h = go (known (declared_name d) t) (any (same (declared_name d)) (names_of ds)) (different (names_of ds)) (any (λ x. known x t) (names_of ds)) h
  where
    go : (a b u v : Bool) → a || b ≡ true → (not b && u) && not (a || v) ≡ false
    go true true u v h = refl
    go true false true v h = refl
    go true false false v h = refl
    go false true u v h = refl
    go false false u v h = absurd (let z : ◌≡◌ {A = ℕ} 0 1 = ap (λ (x : Bool). cond x 1 0) h in omega arith)

fit_true : (t : List Entry) (c : ℕ) (ds : List Declared) → fit t c ds ≡ true
    → (length t + length ds ≤ 16) × (all (λ d. between 1 4096 (declared_size d)) ds ≡ true) × (c + total declared_size ds ≤ 4096)
fit_true t c ds h =
    let (p, q) = both_true (leb (length t + length ds) 16) _ h in
    let (a, b) = both_true (all (λ d. between 1 4096 (declared_size d)) ds) _ q in
    (leb-true _ _ p, a, leb-true _ _ b)

true_fit : (t : List Entry) (c : ℕ) (ds : List Declared) → length t + length ds ≤ 16 → all (λ d. between 1 4096 (declared_size d)) ds ≡ true
    → c + total declared_size ds ≤ 4096 → fit t c ds ≡ true
true_fit t c ds p a b = both_hold (le-leb _ _ p) (both_hold a (le-leb _ _ b))

-- one that fits, and one that does not
fit_first : (t : List Entry) (e : Entry) (c : ℕ) (d : Declared) (ds : List Declared) → fits (length t) c (declared_size d) ≡ true
    → fit (t ++ (e ∷ [])) (c + declared_size d) ds ≡ fit t c (d ∷ ds)
fit_first t e c d ds h =
    let n = length-append t (e ∷ []) in
    let (a, b, x, y) = fits_true (length t) c (declared_size d) h in
    same_truth _ _
    (λ q.
    let (p, w, z) = fit_true (t ++ (e ∷ [])) (c + declared_size d) ds q in
    true_fit t c (d ∷ ds) (omega (arith, p, n)) (both_hold (both_hold (le-leb 1 _ a) (le-leb _ 4096 b)) w) (omega (arith, z)))
    (λ q.
    let (p, w, z) = fit_true t c (d ∷ ds) q in
    true_fit (t ++ (e ∷ [])) (c + declared_size d) ds (omega (arith, p, n)) (both_true (between 1 4096 (declared_size d)) _ w).1 (omega (arith, z)))

fit_not : (t : List Entry) (c : ℕ) (d : Declared) (ds : List Declared) → fits (length t) c (declared_size d) ≡ false → fit t c (d ∷ ds) ≡ false
fit_not t c d ds h = go (fit t c (d ∷ ds)) refl
  where
    go : (b : Bool) → fit t c (d ∷ ds) ≡ b → b ≡ false
    go false q = refl
    go true q =
        let (p, w, z) = fit_true t c (d ∷ ds) q in
        let (x, y) = both_true (leb 1 (declared_size d)) _ (both_true (between 1 4096 (declared_size d)) _ w).0 in
        sym (true_fits (length t) c (declared_size d) (leb-true 1 _ x) (leb-true _ 4096 y) (omega (arith, z)) (omega (arith, p))) ∙ h

-- within the limits the shape is that of the declared name
exact_shape : (d : Declared) → 1 ≤ declared_size d → declared_size d ≤ 4096
    → ((shape_of d).size ≡ declared_size d) × ((shape_of d).rows ≤ 4096) × ((shape_of d).columns ≤ 4096)
exact_shape d h k = let (m, n) = extents_few (declared_extents d) h in (omega arith, omega arith, omega arith)

-- extents that are none of them 0
exact_extents : (ns : List ℕ) → length ns ≤ 2 → 1 ≤ cells_of ns → cells_of ns ≤ 4096 → extents_of (min (get_or ns 0 0) 2147483648) (min (get_or ns 1 0) 2147483648) ≡ ns
exact_extents [] l h k = refl
exact_extents (zero ∷ []) l h k = absurd (omega arith)
exact_extents (suc n ∷ []) l h k = let e : min (suc n) 2147483648 ≡ suc n = omega arith in rw e
exact_extents (zero ∷ n ∷ []) l h k = absurd (omega arith)
exact_extents (suc m ∷ zero ∷ []) l h k = absurd (omega arith)
exact_extents (suc m ∷ suc n ∷ []) l h k =
    let e : min (suc m) 2147483648 ≡ suc m = omega arith in
    let f : min (suc n) 2147483648 ≡ suc n = omega arith in
    rw (e, f)
exact_extents (m ∷ n ∷ o ∷ ns) l h k = absurd (omega arith)

few_extents : (d : Declared) → length (declared_extents d) ≤ 2
few_extents (one x) = omega arith
few_extents (array x n) = omega arith
few_extents (grid x m n) = omega arith

exact_entry : (c : ℕ) (d : Declared) → 1 ≤ declared_size d → declared_size d ≤ 4096 → declared (declared_name d) c (shape_of d) ≡ entry_of c d
exact_entry c d h k = λ i. record {
  name = declared_name d;
  first = c;
  extents = exact_extents (declared_extents d) (few_extents d) h k i;
  size = (exact_shape d h k).0 i;
  class = (entry_of c d).class;
  given = (entry_of c d).given;
}

-- what a declared name and those after it come to
module _ (t : List Entry) (T s : List ℕ) (c most : ℕ) (T₁ : List ℕ) (r₁ : Listed) (tab : Tabled T t) (d : Declared) (p : Entered T s c most T₁ r₁ d) where
  abbrev e : Entry
  e = entry_of c d

  -- in order
  module _ (z : level r₁.rank ≡ 0) where
    good : (most ≡ 0) × (known (declared_name d) t ≡ false) × (fits (length t) c (declared_size d) ≡ true)
    good = p.fresh z t tab

    sizes : (1 ≤ declared_size d) × (declared_size d ≤ 4096) × (c + declared_size d ≤ 4096) × (length t < 16)
    sizes = fits_true (length t) c (declared_size d) good.2

    pub tabled₁ : Tabled T₁ (t ++ (e ∷ []))
    tabled₁ =
        let x = exact_shape d sizes.0 sizes.1 in
        subst (λ (e : Entry). Tabled T₁ (t ++ (e ∷ []))) (exact_entry c d sizes.0 sizes.1)
        ((p.enters.added z).table t tab sizes.3 good.1 (omega (arith, x.0, sizes.2)) (omega (arith, x.1)) (omega (arith, x.2)))

    pub cells₁ : r₁.cells ≡ c + declared_size d
    cells₁ = p.enters.more z ∙ ap (λ (n : ℕ). c + n) (exact_shape d sizes.0 sizes.1).0

    unclaimed₁ : Unclaimed T (length t) → Unclaimed T₁ (length t + 1)
    unclaimed₁ = (p.enters.added z).unclaimed t tab sizes.3

    module _ (ds : List Declared) (q : Follow s r₁.next ds) where
      none_follows : any (same (declared_name d)) (names_of ds) ≡ false
      none_follows = go (any (same (declared_name d)) (names_of ds)) refl (p.rank t tab ds q)
        where
          go : (b : Bool) → any (same (declared_name d)) (names_of ds) ≡ b
              → level r₁.rank ≡ max most (order (not (known (declared_name d) t || b)) (fits (length t) c (declared_size d))) → b ≡ false
          go false e h = refl
          go true e h = absurd (omega (
            arith,
            z,
            h,
            order_unnamed (not (known (declared_name d) t || true)) (fits (length t) c (declared_size d))
                (ap not (or-true (known (declared_name d) t))),
          ))

      apart_on : apart (t ++ (e ∷ [])) ds ≡ apart t (d ∷ ds)
      apart_on =
          ap (λ (b : Bool). different (names_of ds) && not b) (unknown_more t e (names_of ds) none_follows)
          ∙ sym (apart_first t d ds (λ i. good.1 i || none_follows i))

      -- and those after it by what it left
      pub enlists_good : (T₂ : List ℕ) (r₂ : Listed) → Enlists (t ++ (e ∷ [])) T₁ r₁.cells (level r₁.rank) T₂ r₂ ds → Enlists t T c most T₂ r₂ (d ∷ ds)
      enlists_good T₂ r₂ h =
          let n = length-append t (e ∷ []) in
          record {
            rank =
                h.rank
                ∙ (λ i. max (z i) (order (apart_on i) (fit (t ++ (e ∷ [])) (cells₁ i) ds)))
                ∙ ap (λ (b : Bool). max 0 (order (apart t (d ∷ ds)) b)) (fit_first t e c d ds good.2)
                ∙ ap (λ (k : ℕ). max k (order (apart t (d ∷ ds)) (fit t c (d ∷ ds)))) (sym good.0);
            cells = λ y. h.cells y ∙ omega (arith, cells₁);
            table = λ y. subst (λ (l : List Entry). Tabled T₂ l)
                (ap (λ (k : ℕ). (t ++ (e ∷ [])) ++ entries k ds) cells₁ ∙ append_assoc t (e ∷ []) (entries (c + declared_size d) ds)) (h.table y);
            unclaimed = λ y u. subst (λ (k : ℕ). Unclaimed T₂ k) (omega (arith, n))
                (h.unclaimed y (subst (λ (k : ℕ). Unclaimed T₁ k) (omega (arith, n)) (unclaimed₁ u)));
          }

  -- not in order
  module _ (n : level r₁.rank ≡ 0 → ⊥) (ds : List Declared) (q : Follow s r₁.next ds) where
    abbrev rep : Bool
    rep = known (declared_name d) t || any (same (declared_name d)) (names_of ds)

    abbrev fd : Bool
    fd = fits (length t) c (declared_size d)

    rank_bad : (k : ℕ) → max (level r₁.rank) (order (apart t ds) (fit t k ds)) ≡ max most (order (apart t (d ∷ ds)) (fit t c (d ∷ ds)))
    rank_bad k = go rep refl fd refl (p.rank t tab ds q)
      where
        go : (a : Bool) → rep ≡ a → (b : Bool) → fd ≡ b → level r₁.rank ≡ max most (order (not a) b)
            → max (level r₁.rank) (order (apart t ds) (fit t k ds)) ≡ max most (order (apart t (d ∷ ds)) (fit t c (d ∷ ds)))
        go true ea b eb h = omega (arith, h, order_unnamed (apart t (d ∷ ds)) (fit t c (d ∷ ds)) (apart_not t d ds ea), order_most (apart t ds) (fit t k ds))
        go false ea true eb h =
            let x = ap (λ (y : Bool). order y (fit t c (d ∷ ds))) (apart_first t d ds ea) in
            omega (arith, h, x, order_either (apart t ds) (fit t k ds) (fit t c (d ∷ ds)) (level r₁.rank) (omega arith))
        go false ea false eb h =
            let x : order (apart t (d ∷ ds)) (fit t c (d ∷ ds)) ≡ order (apart t ds) false = λ i. order (apart_first t d ds ea i) (fit_not t c d ds eb i) in
            let w : level r₁.rank ≡ max most 1 = h in
            omega (arith, w, x, order_either (apart t ds) (fit t k ds) false (max most 1) (omega arith), order_some (apart t ds))

    pub enlists_bad : (T₂ : List ℕ) (r₂ : Listed) → Enlists t T₁ r₁.cells (level r₁.rank) T₂ r₂ ds → Enlists t T c most T₂ r₂ (d ∷ ds)
    enlists_bad T₂ r₂ h =
        let some : level r₂.rank ≡ 0 → ⊥ = λ y. n (omega (arith, h.rank, y)) in
        record {
          rank = h.rank ∙ rank_bad r₁.cells;
          cells = λ y. absurd (some y);
          table = λ y. absurd (some y);
          unclaimed = λ y. absurd (some y);
        }

-- no name more
pub enlists_nil : (t : List Entry) (T : List ℕ) (r : Listed) → Tabled T t → r.cells ≤ 4096 → Enlists t T r.cells (level r.rank) T r []
enlists_nil t T r tab b = record {
  rank = sym (ap (λ (x : Bool). max (level r.rank) (order true x)) (true_fit t r.cells [] (omega (arith, tab.few)) refl (omega arith)) ∙ omega arith);
  cells = λ y. omega arith;
  table = λ y. subst (Tabled T) (sym (append-nil t)) tab;
  unclaimed = λ y u. subst (Unclaimed T) (omega arith) u;
}

-- a declared name, and then none or a comma and others
module _ (T s : List ℕ) (b : Listed) (T₁ : List ℕ) (r₁ : Listed)
    (h : ReadTo (Entered T s b.cells (level b.rank) T₁ r₁) s b.next (read_declared peek_in skip_in) r₁.next)
  where
    abbrev c : ℕ
    c = b.cells

    abbrev most : ℕ
    most = level b.rank

    -- the table that it left
    left : (t : List Entry) → Tabled T t → (d : Declared) → Entered T s c most T₁ r₁ d
        → (t₁ : List Entry) × Tabled T₁ t₁
        × ((ds : List Declared) → Follow s r₁.next ds → (T₂ : List ℕ) (r₂ : Listed) → Enlists t₁ T₁ r₁.cells (level r₁.rank) T₂ r₂ ds
        → Enlists t T c most T₂ r₂ (d ∷ ds))
    left t tab d p = elim (ℕ_discrete (level r₁.rank) 0) [
      | yes z ↦ (_, tabled₁ t T s c most T₁ r₁ tab d p z, enlists_good t T s c most T₁ r₁ tab d p z)
      | no n ↦ (t, subst (λ (X : List ℕ). Tabled X t) (sym (p.enters.left n)) tab, enlists_bad t T s c most T₁ r₁ tab d p n)
    ]

    pub integers_last : NotRead s r₁.next (passes (bytes ",")) → r₁.cells ≤ 4096 → Integers T s b T₁ (Some r₁)
    integers_last g few t tab f l =
        let (t₁, tab₁, on) = left t tab h.what h.holds in
        list_last (read_declared peek_in skip_in) h g (λ q. on [] (1, _, q 0) T₁ r₁ (enlists_nil t₁ T₁ r₁ tab₁ few)) f l

    pub integers_more : {k : ℕ} → ReadTo Any s r₁.next (passes (bytes ",")) k → (T₂ : List ℕ) (o : Option Listed)
        → Integers T₁ s (record { next = k; cells = r₁.cells; rank = r₁.rank }) T₂ o → Integers T s b T₂ o
    integers_more g T₂ o w t tab f l =
        let (t₁, tab₁, on) = left t tab h.what h.holds in
        list_more (read_declared peek_in skip_in) h g (λ r. r.next)
        (λ r. Enlists t₁ T₁ r₁.cells (level r₁.rank) T₂ r) (λ r. Enlists t T c most T₂ r) o (w t₁ tab₁)
        (λ r₂ _ ds u q y. on ds (q.0, u, q.1) T₂ r₂ y) f l
