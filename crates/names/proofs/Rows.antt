-- What a change of some words does to the names that the table stands for.
use mathlib.Core.Path.{◌≡◌, refl, sym, ◌∙◌, ap, ap₂, subst}
use mathlib.Core.Bool.{Bool, true, false, cond}
use mathlib.Core.List.{List, [], ◌∷◌, ◌++◌, map}
use Prim.Native.Nat.{ℕ, zero, suc, ◌+◌, ◌*◌, ◌/◌, ◌%◌, ◌≤◌, ◌<◌}
use native.Mathlib.Decide.{dec_lt, ℕ_discrete}
use native.Mathlib.Omega.{arith}
use lib.Dec.{eqb}
use lib.IntN.{ℤ}
use lib.ListN.{length, get_or, set, length-set, length-map, length-append}
use lib.Seq.{get_or-set_same, get_or-append_seam}
use Rattle.std.proofs.lemmas.Grind.{common_steps}
use Rattle.rules.specs.declared.Class.{Class}
use Rattle.rules.specs.declared.Class.TheVariants.{Copied as copied}
use Rattle.rules.specs.Numbers.{class_number}
use Rattle.rules.specs.Cells.{listed}
use Rattle.rules.proofs.CellsLaws.{listed_length, listed_same}
use Rattle.syntax.specs.Bytes.{same}
use Rattle.syntax.specs.Known.{Entry, rows, columns, named, known, find, nowhere, with_data, give_to, with_class}
use Rattle.syntax.specs.Conditions.{is_given}
use Rattle.syntax.specs.Sane.{Each}
use Rattle.syntax.proofs.Table.{find_each}
use Rattle.syntax.proofs.TestLaws.{neither_holds, same_refl, same_comm_false}
use Rattle.names.specs.declared.Shape.{Shape}
use Rattle.names.specs.Table.{word_at, extents_of, rows_at, columns_at, rows_word, columns_word, name_at, Row, Tabled, Put, declared, Added, Gave, class_to, Classed, CopiedIn, class_at, is_claimed, count_in, facts_at, first_at, length_at, number_in, size_at, table_words, variable_entry, name_words, length_word, first_word, size_word, facts_word, entry_words, most_names, number_word}
use Rattle.names.proofs.Laws.{set_elsewhere, first_extent, second_extent}

-- ---- one entry

-- another entry with the same name, cells and extents
abbrev Alike : Entry → Entry → Type 0
Alike e e' = (e'.name ≡ e.name) × (e'.first ≡ e.first) × (e'.size ≡ e.size) × (e'.extents ≡ e.extents)

pub name_length : (T : List ℕ) (i : ℕ) → length (name_at T i) ≡ length_at T i
unfolding name_at
name_length T i = listed_length (length_at T i) (λ k. word_at T i k)

-- the words of the name are as they were
pub name_kept : (T T' : List ℕ) (i : ℕ) → length_at T i ≤ name_words → ((k : ℕ) → k < first_word → word_at T' i k ≡ word_at T i k) → name_at T' i ≡ name_at T i
unfolding name_at
name_kept T T' i b h =
    ap (λ (n : ℕ). listed n (λ k. word_at T' i k)) (h length_word (omega arith))
    ∙ listed_same (length_at T i) (λ k. word_at T' i k) (λ k. word_at T i k) (λ k l. h k (omega arith))

module _ (T T' : List ℕ) (i : ℕ) (e : Entry) (o : Row T i e) where
  short_word : length_at T i ≤ name_words
  short_word = omega (arith, name_length T i, ap length o.name, o.short)

  -- all but the facts are as they were
  pub row_with : (e' : Entry) → ((k : ℕ) → k < facts_word → word_at T' i k ≡ word_at T i k) → Alike e e'
      → eqb (facts_at T' i % 2) 1 ≡ is_given e'.given → class_at T' i ≡ class_number e'.class → Row T' i e'
  row_with e' h (en, ef, es, ex) hg hc = record {
    name = name_kept T T' i short_word (λ k l. h k (omega arith)) ∙ o.name ∙ sym en;
    first = h first_word (omega arith) ∙ o.first ∙ sym ef;
    size = h size_word (omega arith) ∙ o.size ∙ sym es;
    extents = ap₂ extents_of (h rows_word (omega arith)) (h columns_word (omega arith)) ∙ o.extents ∙ sym ex;
    given = hg;
    class = hc;
    short = omega (arith, o.short, ap length en);
  }

  -- all is as it was
  pub row_kept : ((k : ℕ) → k < entry_words → word_at T' i k ≡ word_at T i k) → Row T' i e
  row_kept h =
      let f = h facts_word (omega arith) in
      row_with e (λ k l. h k (omega arith)) (refl, refl, refl, refl)
      (ap (λ (n : ℕ). eqb (n % 2) 1) f ∙ o.given)
      (ap (λ (n : ℕ). n / 4) f ∙ o.class)

-- ---- the facts of one entry

pub get_d_map : {A B : Type 0} (f : A → B) (l : List A) (i : ℕ) (d : A) (d' : B) → i < length l → get_or (map f l) i d' ≡ f (get_or l i d)
get_d_map f [] i d d' h = absurd (omega arith)
get_d_map f (x ∷ xs) zero d d' h = refl
get_d_map f (x ∷ xs) (suc i) d d' h = get_d_map f xs i d d' (omega arith)

module _ (T : List ℕ) (i facts : ℕ) (b : i < most_names) where
  abbrev with_facts : List ℕ
  with_facts = set T (entry_words * i + facts_word) facts

  pub others_kept : (j k : ℕ) → k < entry_words → (j ≡ i → ⊥) → word_at with_facts j k ≡ word_at T j k
  others_kept j k l n = set_elsewhere T (entry_words * i + facts_word) (entry_words * j + k) facts (omega arith)

  pub facts_here : table_words ≤ length T → facts_at with_facts i ≡ facts
  facts_here l = ap (λ (p : ℕ). get_or with_facts p 0) (omega arith) ∙ get_or-set_same T (entry_words * i + facts_word) facts 0 (omega arith)

  pub rest_kept : (k : ℕ) → k < facts_word → word_at with_facts i k ≡ word_at T i k
  rest_kept k l = set_elsewhere T (entry_words * i + facts_word) (entry_words * i + k) facts (omega arith)

  pub variable_kept : length_at T variable_entry ≤ name_words → name_at with_facts variable_entry ≡ name_at T variable_entry
  variable_kept h = name_kept T with_facts variable_entry h (λ k l. others_kept variable_entry k (omega arith) (λ e. omega arith))

  -- the table with other facts for entry i stands for the names with another entry i
  module _ (t : List Entry) (d : Tabled T t) (h : i < length t) (f : Entry → Entry) (a : (e : Entry) → Alike e (f e))
      (others : (j : ℕ) → j < length t → (j ≡ i → ⊥) → f (get_or t j nowhere) ≡ get_or t j nowhere)
      (hg : eqb (facts % 2) 1 ≡ is_given (f (get_or t i nowhere)).given) (hc : facts / 4 ≡ class_number (f (get_or t i nowhere)).class) where
    row_of : (j : ℕ) → j < length t → Row with_facts j (f (get_or t j nowhere))
    row_of j l = elim (ℕ_discrete j i) [
      | yes q ↦ simp q (let w = facts_here d.long in let e = get_or t i nowhere in
          row_with T with_facts i e (d.rows i h) (f e) rest_kept (a e) (ap (λ (n : ℕ). eqb (n % 2) 1) w ∙ hg) (ap (λ (n : ℕ). n / 4) w ∙ hc))
      | no n ↦ simp (others j l n) (row_kept T with_facts j (get_or t j nowhere) (d.rows j l) (λ k m. others_kept j k m n))
    ]

    at_map : (j : ℕ) → j < length t → get_or (map f t) j nowhere ≡ f (get_or t j nowhere)
    at_map j l = get_d_map f t j nowhere nowhere l

    same_name : (j : ℕ) → j < length t → (get_or (map f t) j nowhere).name ≡ (get_or t j nowhere).name
    same_name j l = ap (λ (e : Entry). e.name) (at_map j l) ∙ (a (get_or t j nowhere)).0

    pub tabled_with : Tabled with_facts (map f t)
    tabled_with =
        let n = length-map t f in
        record {
          long = simp length-set d.long;
          count = set_elsewhere T (entry_words * i + facts_word) number_word facts (omega arith) ∙ d.count ∙ sym n;
          few = omega (arith, n, d.few);
          rows = λ j l. simp (at_map j (omega (arith, n))) (row_of j (omega (arith, n)));
          distinct = λ p q l m. ap₂ same (same_name q (omega (arith, n))) (same_name p (omega (arith, n))) ∙ d.distinct p q l (omega (arith, n));
          bounded = λ j l.
              let m : j < length t = omega (arith, n) in
              let e = get_or t j nowhere in
              let g = at_map j m in
              let o = d.bounded j m in
              omega (arith, ap (λ (x : Entry). x.first) g, (a e).1, o, ap (λ (x : Entry). x.size) g, (a e).2);
          narrow = λ j l.
              let m : j < length t = omega (arith, n) in
              let x = ap (λ (x : Entry). x.extents) (at_map j m) ∙ (a (get_or t j nowhere)).3 in
              let o = d.narrow j m in
              (omega (arith, ap (λ (ns : List ℕ). get_or ns 0 0) x, o.0), omega (arith, ap (λ (ns : List ℕ). get_or ns 1 0) x, o.1));
        }

-- ---- data, clauses

-- the parts of the facts
given_facts : (f : ℕ) → ((f / 2 * 2 + 1) % 2 ≡ 1) × ((f / 2 * 2 + 1) / 2 ≡ f / 2) × ((f / 2 * 2 + 1) / 4 ≡ f / 4)
given_facts f = (omega arith, omega arith, omega arith)

claimed_facts : (c f : ℕ) → ((c * 4 + 2 + f % 2) % 2 ≡ f % 2) × ((c * 4 + 2 + f % 2) / 2 % 2 ≡ 1) × ((c * 4 + 2 + f % 2) / 4 ≡ c)
claimed_facts c f = (omega arith, omega arith, omega arith)

copied_facts : (c f : ℕ) → ((c * 4 + f % 4) % 2 ≡ f % 2) × ((c * 4 + f % 4) / 2 % 2 ≡ f / 2 % 2) × ((c * 4 + f % 4) / 4 ≡ c)
copied_facts c f = (omega arith, omega arith, omega arith)

untouched : (b : Bool) (x e : Entry) → b ≡ false → cond b x e ≡ e
untouched b x e h = ap (λ (y : Bool). cond y x e) h

module _ (T : List ℕ) (i : ℕ) (b : i < most_names) (facts : ℕ) (ef : facts ≡ facts_at T i) where
  -- the others have another name than entry i
  other_name : (t : List Entry) → Tabled T t → i < length t → (j : ℕ) → j < length t → (j ≡ i → ⊥)
      → same (get_or t i nowhere).name (get_or t j nowhere).name ≡ false
  other_name t d h j l n = elim (dec_lt j i) [
    | yes p ↦ d.distinct j i p h
    | no p ↦ same_comm_false (get_or t j nowhere).name (get_or t i nowhere).name (d.distinct i j (omega arith) l)
  ]

  pub gave : Gave T i (set T (entry_words * i + facts_word) (facts / 2 * 2 + 1))
  gave = record {
    variable = variable_kept T i _ b;
    table = λ t vs d h.
        let e = get_or t i nowhere in
        let o = d.rows i h in
        let here : named e.name e ≡ true = same_refl e.name in
        let g = ap (λ (x : Bool). cond x (with_data vs e) e) here in
        let q = given_facts facts in
        tabled_with T i (facts / 2 * 2 + 1) b t d h (give_to e.name vs)
        (λ x. kept e.name vs x (named e.name x))
        (λ j l n. untouched _ _ (get_or t j nowhere) (other_name t d h j l n))
        (ap (λ (n : ℕ). eqb n 1) q.0 ∙ sym (ap (λ (x : Entry). is_given x.given) g))
        (q.2 ∙ ap (λ (n : ℕ). n / 4) ef ∙ o.class ∙ sym (ap (λ (x : Entry). class_number x.class) g));
    unclaimed = λ h n u j l. elim (ℕ_discrete j i) [
      | yes q ↦
          let low : facts_at T i < 2 = subst (λ (k : ℕ). facts_at T k < 2) q (u j l) in
          subst (λ (k : ℕ). facts_at (set T (entry_words * i + facts_word) (facts / 2 * 2 + 1)) k < 2) (sym q)
          (omega (arith, facts_here T i (facts / 2 * 2 + 1) b h, ef, low))
      | no m ↦ omega (arith, others_kept T i (facts / 2 * 2 + 1) b j facts_word (omega arith) m, u j l)
    ];
  }
    where
      kept : (x : List ℕ) (vs : List ℤ) (e : Entry) (y : Bool) → Alike e (cond y (with_data vs e) e)
      kept x vs e true = (refl, refl, refl, refl)
      kept x vs e false = (refl, refl, refl, refl)

  -- facts that differ in the class, and in whether the name stands in a clause
  class_tabled : (other : ℕ) (k : Class) → other % 2 ≡ facts % 2 → other / 4 ≡ class_number k → (t : List Entry) → Tabled T t → i < length t
      → Tabled (set T (entry_words * i + facts_word) other) (map (class_to (get_or t i nowhere).name k) t)
  class_tabled other k q0 q1 t d h =
      let e = get_or t i nowhere in
      let o = d.rows i h in
      let here : named e.name e ≡ true = same_refl e.name in
      let g = ap (λ (x : Bool). cond x (with_class k e) e) here in
      tabled_with T i other b t d h (class_to e.name k)
      (λ x. kept e.name k x (named e.name x))
      (λ j l n. untouched _ _ (get_or t j nowhere) (other_name t d h j l n))
      (ap (λ (n : ℕ). eqb n 1) (q0 ∙ ap (λ (n : ℕ). n % 2) ef) ∙ o.given ∙ sym (ap (λ (x : Entry). is_given x.given) g))
      (q1 ∙ sym (ap (λ (x : Entry). class_number x.class) g))
    where
      kept : (x : List ℕ) (c : Class) (e : Entry) (y : Bool) → Alike e (cond y (with_class c e) e)
      kept x c e true = (refl, refl, refl, refl)
      kept x c e false = (refl, refl, refl, refl)

  pub classed : (k : Class) (n : ℕ) → n ≡ class_number k → Classed T i k (set T (entry_words * i + facts_word) (n * 4 + 2 + facts % 2))
  classed k n en = record {
    variable = variable_kept T i _ b;
    here = λ l. ap (λ (m : ℕ). eqb (m / 2 % 2) 1) (facts_here T i (n * 4 + 2 + facts % 2) b l) ∙ ap (λ (m : ℕ). eqb m 1) (claimed_facts n facts).1;
    others = λ j m. others_kept T i (n * 4 + 2 + facts % 2) b j facts_word (omega arith) m;
    table = let q = claimed_facts n facts in class_tabled (n * 4 + 2 + facts % 2) k q.0 (q.2 ∙ en);
  }

  pub copied_in : (n : ℕ) → n ≡ class_number copied → CopiedIn T i (set T (entry_words * i + facts_word) (n * 4 + facts % 4))
  copied_in n en = record {
    variable = variable_kept T i _ b;
    claimed = λ l j. elim (ℕ_discrete j i) [
      | yes x ↦
          ap (is_claimed (set T (entry_words * i + facts_word) (n * 4 + facts % 4))) x
          ∙ ap (λ (m : ℕ). eqb (m / 2 % 2) 1) (facts_here T i (n * 4 + facts % 4) b l)
          ∙ ap (λ (m : ℕ). eqb m 1) ((copied_facts n facts).1 ∙ ap (λ (m : ℕ). m / 2 % 2) ef) ∙ ap (is_claimed T) (sym x)
      | no x ↦ ap (λ (m : ℕ). eqb (m / 2 % 2) 1) (others_kept T i (n * 4 + facts % 4) b j facts_word (omega arith) x)
    ];
    table = λ t d h. let q = copied_facts n facts in class_tabled (n * 4 + facts % 4) copied q.0 (q.2 ∙ en) t d h;
  }

-- ---- a name more

get_d_left : (t u : List Entry) (i : ℕ) → i < length t → get_or (t ++ u) i nowhere ≡ get_or t i nowhere
get_d_left [] u i h = absurd (omega arith)
get_d_left (x ∷ t) u zero h = refl
get_d_left (x ∷ t) u (suc i) h = get_d_left t u i (omega arith)

pub unknown_at : (w : List ℕ) (t : List Entry) → known w t ≡ false → (i : ℕ) → i < length t → same w (get_or t i nowhere).name ≡ false
unknown_at w [] h i l = absurd (omega arith)
unknown_at w (x ∷ t) h zero l = (neither_holds (same w x.name) (known w t) h).0
unknown_at w (x ∷ t) h (suc i) l = unknown_at w t (neither_holds (same w x.name) (known w t) h).1 i (omega arith)

module _ (T w : List ℕ) (n first : ℕ) (z : Shape) (T₁ : List ℕ) (p : Put T n w T₁) (en : n ≡ count_in T) (bn : n < most_names) (short : length w ≤ name_words) where
  abbrev T₂ : List ℕ
  T₂ = set T₁ (entry_words * n + first_word) first

  abbrev T₃ : List ℕ
  T₃ = set T₂ (entry_words * n + size_word) z.size

  abbrev T₄ : List ℕ
  T₄ = set T₃ (entry_words * n + rows_word) z.rows

  abbrev T₅ : List ℕ
  T₅ = set T₄ (entry_words * n + columns_word) z.columns

  abbrev T₆ : List ℕ
  T₆ = set T₅ (entry_words * n + facts_word) 0

  abbrev more_names : List ℕ
  more_names = set T₆ number_word (n + 1)

  more_long : length more_names ≡ length T₁
  more_long = simp length-set

  -- of the words only these changed
  elsewhere : (q : ℕ) → (entry_words * n + first_word ≤ q → q < entry_words * n + entry_words → ⊥) → (q ≡ number_word → ⊥) → get_or more_names q 0 ≡ get_or T₁ q 0
  elsewhere q a d =
      let off : (k : ℕ) → first_word ≤ k → k < entry_words → q ≡ entry_words * n + k → ⊥ = λ k h l e. a (omega arith) (omega arith) in
      set_elsewhere T₆ number_word q (n + 1) d
      ∙ set_elsewhere T₅ (entry_words * n + facts_word) q 0 (off facts_word (omega arith) (omega arith))
      ∙ set_elsewhere T₄ (entry_words * n + columns_word) q z.columns (off columns_word (omega arith) (omega arith))
      ∙ set_elsewhere T₃ (entry_words * n + rows_word) q z.rows (off rows_word (omega arith) (omega arith))
      ∙ set_elsewhere T₂ (entry_words * n + size_word) q z.size (off size_word (omega arith) (omega arith))
      ∙ set_elsewhere T₁ (entry_words * n + first_word) q first (off first_word (omega arith) (omega arith))

  -- and these are
  module _ (l : table_words ≤ length T₁) where
    first_here : first_at more_names n ≡ first
    first_here = grind (arith, common_steps)

    size_here : size_at more_names n ≡ z.size
    size_here = grind (arith, common_steps)

    rows_here : rows_at more_names n ≡ z.rows
    rows_here = grind (arith, common_steps)

    columns_here : columns_at more_names n ≡ z.columns
    columns_here = grind (arith, common_steps)

    facts_there : facts_at more_names n ≡ 0
    facts_there = grind (arith, common_steps)

    count_here : number_in more_names ≡ n + 1
    count_here = grind (arith, common_steps)

  module _ (t : List Entry) (d : Tabled T t) (f : length t < most_names) (u : known w t ≡ false) where
    abbrev e : Entry
    e = declared w first z

    at_end : n ≡ length t
    at_end = omega (arith, d.count)

    long₁ : table_words ≤ length T₁
    long₁ = omega (arith, p.long, d.long)

    many : length (t ++ (e ∷ [])) ≡ suc (length t)
    many = length-append t (e ∷ []) ∙ omega arith

    old : (i : ℕ) → i < length t → Row more_names i (get_or t i nowhere)
    old i l = row_kept T more_names i (get_or t i nowhere) (d.rows i l) (λ k m.
        elsewhere (entry_words * i + k) (λ a b. omega (arith, at_end)) (omega (arith, at_end))
        ∙ p.before (entry_words * i + k) (omega (arith, at_end)))

    new : Row more_names n e
    new =
        let g = name_length T₁ n in
        let x = p.name d.long in
        let fh = facts_there long₁ in
        record {
          name =
              name_kept T₁ more_names n (omega (arith, g, ap length x))
              (λ k m. elsewhere (entry_words * n + k) (λ a b. omega arith) (omega arith))
              ∙ x;
          first = first_here long₁;
          size = size_here long₁;
          extents = ap₂ extents_of (rows_here long₁) (columns_here long₁);
          given = ap (λ (q : ℕ). eqb (q % 2) 1) fh;
          class = ap (λ (q : ℕ). q / 4) fh;
          short = short;
        }

    -- an entry is an old one or the new one
    each : (P : ℕ → Entry → Type 0) → ((i : ℕ) → i < length t → P i (get_or t i nowhere)) → P n e → (i : ℕ) → i < length (t ++ (e ∷ []))
        → P i (get_or (t ++ (e ∷ [])) i nowhere)
    each P o h i l = elim (dec_lt i (length t)) [
      | yes b ↦ subst (P i) (sym (get_d_left t (e ∷ []) i b)) (o i b)
      | no b ↦ let q : i ≡ length t = omega (arith, many) in subst (λ (j : ℕ). P j (get_or (t ++ (e ∷ [])) j nowhere)) (sym q)
          (subst (P (length t)) (sym (get_or-append_seam t e [] nowhere)) (subst (λ (j : ℕ). P j e) at_end h))
    ]

    pub tabled_more : first + z.size ≤ 4096 → z.rows ≤ 4096 → z.columns ≤ 4096 → Tabled more_names (t ++ (e ∷ []))
    tabled_more b r c = record {
      long = omega (arith, more_long, long₁);
      count = count_here long₁ ∙ omega (arith, at_end, many);
      few = omega (arith, many);
      rows = each (Row more_names) old new;
      distinct = λ i j l m. each (λ j x. i < j → same x.name (get_or (t ++ (e ∷ [])) i nowhere).name ≡ false)
          (λ j b l. ap (λ (x : Entry). same (get_or t j nowhere).name x.name) (get_d_left t (e ∷ []) i (omega arith)) ∙ d.distinct i j l b)
          (λ l. ap (λ (x : Entry). same w x.name) (get_d_left t (e ∷ []) i (omega (arith, at_end))) ∙ unknown_at w t u i (omega (arith, at_end)))
          j m l;
      bounded = each (λ i x. x.first + x.size ≤ 4096) d.bounded b;
      narrow = each (λ i x. (rows x ≤ 4096) × (columns x ≤ 4096)) d.narrow (omega (arith, first_extent z.rows z.columns), omega (arith, second_extent z.rows z.columns));
    }

  pub added : Added T w first z more_names
  added = record {
    full = λ h. absurd (omega arith);
    variable = λ h. name_kept T more_names variable_entry h (λ k m. elsewhere (entry_words * variable_entry + k) (λ a b. omega arith) (omega arith)
        ∙ p.after (entry_words * variable_entry + k) (omega arith));
    table = λ t d f u b r c. tabled_more t d f u b r c;
    unclaimed = λ t d f v j l. elim (ℕ_discrete j n) [
      | yes q ↦ subst (λ (k : ℕ). facts_at more_names k < 2) (sym q) (omega (arith, facts_there (omega (arith, p.long, d.long))))
      | no m ↦
          let kept =
          elsewhere (entry_words * j + facts_word) (λ a b. omega (arith, d.count)) (omega (arith, d.count))
          ∙ p.before (entry_words * j + facts_word) (omega (arith, d.count)) in
          omega (arith, kept, v j (omega (arith, d.count)))
    ];
  }

-- a full table
pub full : (T w : List ℕ) (first : ℕ) (z : Shape) → most_names ≤ count_in T → Added T w first z T
full T w first z h = record {
  full = λ _. refl;
  variable = λ _. refl;
  table = λ t d f u b r c. absurd (omega (arith, d.count));
  unclaimed = λ t d f v. absurd (omega (arith, d.count));
}

-- ---- where the cells of a name lie

each_entry : (P : Entry → Type 0) (t : List Entry) → ((i : ℕ) → i < length t → P (get_or t i nowhere)) → Each P t
each_entry P [] h = tt
each_entry P (e ∷ t) h = (h 0 (omega arith), each_entry P t (λ i l. h (suc i) (omega arith)))

pub find_bounded : (T w : List ℕ) (t : List Entry) → Tabled T t → (find w t).first + (find w t).size ≤ 4096
find_bounded T w t d = find_each (λ e. e.first + e.size ≤ 4096) w t (omega arith) (each_entry (λ e. e.first + e.size ≤ 4096) t d.bounded)

pub find_narrow : (T w : List ℕ) (t : List Entry) → Tabled T t → (rows (find w t) ≤ 4096) × (columns (find w t) ≤ 4096)
find_narrow T w t d =
    find_each (λ e. (rows e ≤ 4096) × (columns e ≤ 4096)) w t (omega arith, omega arith)
    (each_entry (λ e. (rows e ≤ 4096) × (columns e ≤ 4096)) t d.narrow)

-- ---- the loop's variable

module _ (T w T' : List ℕ) (p : Put T variable_entry w T') where
  pub named_variable : (t : List Entry) → Tabled T t → Tabled T' t
  named_variable t d = record {
    long = omega (arith, p.long, d.long);
    count = p.after number_word (omega arith) ∙ d.count;
    few = d.few;
    rows = λ i l. row_kept T T' i (get_or t i nowhere) (d.rows i l) (λ k m. p.before (entry_words * i + k) (omega (arith, d.few)));
    distinct = d.distinct;
    bounded = d.bounded;
    narrow = d.narrow;
  }

  pub variable_short : length w ≤ name_words → table_words ≤ length T → length_at T' variable_entry ≤ name_words
  variable_short h l = omega (arith, name_length T' variable_entry, ap length (p.name l))
