-- Names in the table: compared byte by byte, and found from the front.
use mathlib.Core.Path.{◌≡◌, refl, sym, ◌∙◌, ap}
use mathlib.Core.Bool.{Bool, true, false, cond, ◌||◌}
use mathlib.Core.List.{List, [], ◌∷◌}
use Prim.Native.Nat.{ℕ, zero, suc, ◌+◌, ◌*◌, ◌%◌, ◌-◌, ◌≤◌, ◌<◌}
use native.Mathlib.Omega.{arith}
use lib.Dec.{eqb}
use lib.ListN.{length, get_or, set, drop}
use lib.Seq.{get_or-set_same, get_or-set_other}
use Rattle.std.specs.Prelude.{◌↔◌, slice_range}
use Rattle.std.proofs.Common.{length-drop}
use Rattle.std.proofs.lemmas.Grind.{same_number_lists}
use Rattle.std.proofs.lemmas.List.{length-take, get_or-take, get_or-drop}
use Rattle.rules.proofs.CellsLaws.{listed_length, listed_at}
use Rattle.syntax.specs.Bytes.{same}
use Rattle.rules.specs.Numbers.{class_by}
use Rattle.rules.proofs.NumberLaws.{numbered}
use Rattle.syntax.specs.Known.{Entry, rows, columns, known, find, nowhere}
use Rattle.syntax.proofs.Spelling.{same_true}
use Rattle.syntax.proofs.TestLaws.{same_refl, same_truth}
use Rattle.lexer.proofs.Laws.{same_lengths}
use Rattle.syntax.specs.Conditions.{is_given}
use Rattle.names.specs.Table.{word_at, name_at, extents_of, rows_at, columns_at, Tabled, Absent, Found, Unknown, Knows, Stands, is_claimed, class_at, count_in, facts_at, first_at, length_at, size_at, name_words, length_word, entry_words}
use Rattle.names.specs.declared.Named.{Named}

-- ---- one name

-- a test of whether two lists are the same
pub same_is : (r : Bool) (a b : List ℕ) → (r ≡ true) ↔ (a ≡ b) → r ≡ same b a
same_is r a b t = same_truth r (same b a) (λ e. ap (same b) (t.0 e) ∙ same_refl b) (λ e. t.1 (sym (same_true b a e)))

-- the name of entry i, by its length and its bytes
pub name_is : (T : List ℕ) (i : ℕ) (w : List ℕ) → length_at T i ≡ length w → ((k : ℕ) → k < length w → word_at T i k ≡ get_or w k 0) → name_at T i ≡ w
unfolding name_at
name_is T i w e h =
    let n = listed_length (length_at T i) (λ k. word_at T i k) in
    same_number_lists _ w (n ∙ e) (λ k l. listed_at (length_at T i) (λ k. word_at T i k) k 0 (omega (arith, n)) ∙ h k (omega (arith, n)))

module _ (T : List ℕ) (i : ℕ) (w : List ℕ) where
  pub name_other : (length_at T i ≡ length w → ⊥) → same w (name_at T i) ≡ false
  unfolding name_at
  name_other n = same_lengths w (name_at T i) (λ (e : length w ≡ length (name_at T i)). n (sym (listed_length (length_at T i) (λ k. word_at T i k)) ∙ sym e))

  -- the words of entry i, as many as w has bytes
  pub name_words_are : length_at T i ≡ length w → entry_words * i + length w ≤ length T → name_at T i ≡ slice_range T (entry_words * i) (entry_words * i + length w)
  name_words_are e b =
      let lengths : length (slice_range T (entry_words * i) (entry_words * i + length w)) ≡ length w = simp (length-take, length-drop) (omega arith) in
      name_is T i (slice_range T (entry_words * i) (entry_words * i + length w)) (e ∙ sym lengths)
      (λ k l.
      let long : k < (entry_words * i + length w) - entry_words * i = omega (arith, lengths, l) in
      sym (get_or-take _ (drop (entry_words * i) T) k 0 long ∙ get_or-drop (entry_words * i) T k 0))

-- ---- a name that is written

pub set_elsewhere : (T : List ℕ) (q p v : ℕ) → (p ≡ q → ⊥) → get_or (set T q v) p 0 ≡ get_or T p 0
set_elsewhere T q p v n = get_or-set_other T q p v 0 n

-- k bytes of w stand in entry i, and then their number is written
pub name_written : (T : List ℕ) (i : ℕ) (w : List ℕ) → entry_words * i + length_word < length T → ((j : ℕ) → j < length w → word_at T i j ≡ get_or w j 0)
    → length w ≤ name_words → name_at (set T (entry_words * i + length_word) (length w)) i ≡ w
name_written T i w h f b =
    name_is _ i w (get_or-set_same T (entry_words * i + length_word) (length w) 0 h)
    (λ j l. set_elsewhere T (entry_words * i + length_word) (entry_words * i + j) (length w) (omega arith) ∙ f j l)

-- ---- found from the front

or_false : {a b : Bool} → a ≡ false → b ≡ false → a || b ≡ false
or_false {b} p q = ap (λ (a : Bool). a || b) p ∙ q

-- none of the names
pub find_none : (w : List ℕ) (t : List Entry) → ((k : ℕ) → k < length t → same w (get_or t k nowhere).name ≡ false) → (known w t ≡ false) × (find w t ≡ nowhere)
unfolding find
find_none w [] h = (refl, refl)
find_none w (e ∷ t) h =
    let p = h 0 (omega arith) in
    let r = find_none w t (λ k b. h (suc k) (omega arith)) in
    (or_false p r.0, ap (λ (c : Bool). cond c e (find w t)) p ∙ r.1)

-- or the i-th
find_there : (w : List ℕ) (t : List Entry) (i : ℕ) → i < length t → ((k : ℕ) → k < i → same w (get_or t k nowhere).name ≡ false)
    → same w (get_or t i nowhere).name ≡ true → (known w t ≡ true) × (find w t ≡ get_or t i nowhere)
unfolding find
find_there w [] i b h e = absurd (omega arith)
find_there w (x ∷ t) zero b h e = (ap (λ (c : Bool). c || known w t) e, ap (λ (c : Bool). cond c x (find w t)) e)
find_there w (x ∷ t) (suc i) b h e =
    let p = h 0 (omega arith) in
    let r = find_there w t i (omega arith) (λ k c. h (suc k) (omega arith)) e in
    (ap (λ (c : Bool). c || known w t) p ∙ r.0, ap (λ (c : Bool). cond c x (find w t)) p ∙ r.1)

-- ---- what is known of a name

-- the extents that two words stand for are those words
pub first_extent : (m n : ℕ) → get_or (extents_of m n) 0 0 ≡ m
first_extent zero zero = refl
first_extent (suc m) zero = refl
first_extent zero (suc n) = refl
first_extent (suc m) (suc n) = refl

pub second_extent : (m n : ℕ) → get_or (extents_of m n) 1 0 ≡ n
second_extent zero zero = refl
second_extent (suc m) zero = refl
second_extent zero (suc n) = refl
second_extent (suc m) (suc n) = refl

-- how many they are
pub extents_two : (m n : ℕ) → (n ≡ 0 → ⊥) → 2 ≡ length (extents_of m n)
extents_two m zero h = absurd (h refl)
extents_two zero (suc n) h = refl
extents_two (suc m) (suc n) h = refl

pub extents_one : (m n : ℕ) → n ≡ 0 → (m ≡ 0 → ⊥) → 1 ≡ length (extents_of m n)
extents_one zero n e h = absurd (h refl)
extents_one (suc m) n e h = ap (λ (k : ℕ). length (extents_of (suc m) k)) (sym e)

pub extents_none : (m n : ℕ) → n ≡ 0 → m ≡ 0 → 0 ≡ length (extents_of m n)
extents_none m n e f = sym (λ i. length (extents_of (f i) (e i)))

pub knows_rows : (t : List Entry) (w : List ℕ) (r : Named) → Knows t w r → r.rows ≡ rows (find w t)
knows_rows t w r k = sym (first_extent r.rows r.columns) ∙ ap (λ (ns : List ℕ). get_or ns 0 0) k.extents

pub knows_columns : (t : List Entry) (w : List ℕ) (r : Named) → Knows t w r → r.columns ≡ columns (find w t)
knows_columns t w r k = sym (second_extent r.rows r.columns) ∙ ap (λ (ns : List ℕ). get_or ns 1 0) k.extents

-- what entry i says
abbrev named_at : List ℕ → ℕ → Named
named_at T i = record {
  index = i;
  rows = rows_at T i;
  columns = columns_at T i;
  given = eqb (facts_at T i % 2) 1;
  claimed = is_claimed T i;
  class = class_by (class_at T i);
  first = first_at T i;
  size = size_at T i;
}

module _ (T : List ℕ) (t : List Entry) (d : Tabled T t) (w : List ℕ) where
  before : (i : ℕ) → i ≤ length t → Absent T i w → (k : ℕ) → k < i → same w (get_or t k nowhere).name ≡ false
  before i b a k l = ap (same w) (sym (d.rows k (omega arith)).name) ∙ a k l

  pub found_none : Absent T (count_in T) w → Unknown t w
  found_none a =
      let r = find_none w t (before (length t) (omega arith) (λ k l. a k (omega (arith, d.count, d.few)))) in
      record { known = r.0; nowhere = r.1 }

  pub found_there : (i : ℕ) → Found T (count_in T) w i → Knows t w (named_at T i) × Stands T t w (named_at T i)
  found_there i f =
      let b : i < length t = omega (arith, f.within, d.count) in
      let o = d.rows i b in
      let r = find_there w t i b (before i (omega arith) f.before) (ap (same w) (sym o.name) ∙ f.there) in
      let e = sym r.1 in (
        record {
          known = r.0;
          first = o.first ∙ ap (λ (x : Entry). x.first) e;
          size = o.size ∙ ap (λ (x : Entry). x.size) e;
          extents = o.extents ∙ ap (λ (x : Entry). x.extents) e;
          given = o.given ∙ ap (λ (x : Entry). is_given x.given) e;
          class = ap class_by o.class ∙ numbered _ ∙ ap (λ (x : Entry). x.class) e;
        },
        record { within = b; name = sym o.name ∙ sym (same_true w (name_at T i) f.there); claimed = refl },
      )
