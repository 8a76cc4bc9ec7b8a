-- Laws of names and data lines.
use mathlib.Core.Path.{◌≡◌, refl, sym, ◌∙◌, ap}
use mathlib.Core.List.{List, [], ◌∷◌, ◌++◌, append-nil, append_assoc}
use Prim.Native.Nat.{ℕ, zero, suc, ◌+◌, ◌-◌, ◌*◌, ◌≤◌, ◌<◌}
use native.Mathlib.Numerals.{add-one}
use native.Mathlib.Omega.{arith}
use lib.ListN.{length, get_or, set, take, drop, length-append, length-take}
use lib.Seq.{sets-eq, take-suc, take_all, take_at, drop_at, length-take-le, length-sets}
use lib.IntN.{ℤ}
use Rattle.rules.specs.Cells.{listed}
use Rattle.rules.proofs.CellsLaws.{listed_at}
use Rattle.names.specs.Table.{word_at, name_at, Tabled, count_in, first_at, length_at, size_at, name_words}
use Rattle.syntax.specs.Bytes.{bytes}
use Rattle.syntax.specs.Known.{Entry, nowhere, cells}
use Rattle.std.specs.Prelude.{Result, Ok, Err}
use Rattle.answers.specs.declared.Failure.{Failure}
use Rattle.answers.specs.declared.Ran.{Ran}
use Rattle.names.proofs.Rows.{name_length}
use Rattle.printing.specs.Printed.{newline, comment, values, data_line, data_lines, report}
use Rattle.writing.specs.Written.{Writes}
use Rattle.printing.specs.Written.{Named, Holds, line_at, Completes, Reports}
use Rattle.writing.proofs.Writing.{writes_none, writes_one, writes_then, writes_as, writes_up_to}
use Rattle.printing.proofs.Writing.{values_few, comment_few}

-- ---- names

listed_more : (k : ℕ) (f : ℕ → ℕ) → listed k f ++ (f k ∷ []) ≡ listed (k + 1) f
unfolding listed
listed_more zero f = refl
listed_more (suc k) f = ap (λ (l : List ℕ). f zero ∷ l) (listed_more k (λ c. f (suc c))) ∙ ap (λ (n : ℕ). listed n f) (more k)
  where
    more : (k : ℕ) → suc (k + 1) ≡ suc k + 1
    more k = omega arith

pub name_none : (b : List ℕ) (at : ℕ) (T : List ℕ) (i : ℕ) → Writes b at (listed 0 (λ j. word_at T i j)) b (at + 0)
unfolding listed
name_none b at T i = writes_up_to (omega arith) (writes_none b at)

pub name_more : {b m : List ℕ} {at : ℕ} (T : List ℕ) (i k x : ℕ) → x ≡ word_at T i k → Writes b at (listed k (λ j. word_at T i j)) m (at + k)
    → Writes b at (listed (k + 1) (λ j. word_at T i j)) (set m (at + k) x) (at + (k + 1))
name_more {b} {m} {at} T i k x e u =
    writes_up_to (omega arith)
    (writes_as (ap (λ (y : ℕ). listed k (λ j. word_at T i j) ++ (y ∷ [])) e ∙ listed_more k (λ j. word_at T i j)) (writes_then u (writes_one m (at + k) x)))

pub name_all : {b a : List ℕ} {at r : ℕ} (T : List ℕ) (i k : ℕ) → k ≡ length_at T i → Writes b at (listed k (λ j. word_at T i j)) a r
    → Writes b at (name_at T i) a r
unfolding name_at
name_all T i k e u = writes_as (ap (λ (n : ℕ). listed n (λ j. word_at T i j)) e) u

-- ---- a data line

-- its parts, one after the other
pub line_written : {b m₁ m₂ m₃ m₄ a : List ℕ} {at p₁ p₂ p₃ p₄ r : ℕ} (T : List ℕ) (m vs : List ℤ) (i first stop : ℕ) → first ≡ first_at T i
    → stop ≡ first + size_at T i → vs ≡ take (stop - first) (drop first m)
    → Writes b at (bytes "data ") m₁ p₁ → Writes m₁ p₁ (name_at T i) m₂ p₂ → Writes m₂ p₂ (bytes " /") m₃ p₃ → Writes m₃ p₃ (values vs) m₄ p₄
    → Writes m₄ p₄ (bytes "/" ++ newline) a r
    → Writes b at (line_at T m i) a r
unfolding line_at
line_written T m vs i first stop ef es ev u₁ u₂ u₃ u₄ u₅ =
    let e : stop - first ≡ size_at T i = omega arith in
    let d : values vs ≡ values (take (size_at T i) (drop (first_at T i) m)) = ap values (ev ∙ (λ h. take (e h) (drop (ef h) m))) in
    writes_then u₁ (writes_then u₂ (writes_then u₃ (writes_then (writes_as d u₄) u₅)))

-- its length
pub line_few : (T : List ℕ) (m : List ℤ) (i : ℕ) → length_at T i ≤ name_words → length (line_at T m i) ≤ 41 + 12 * size_at T i
unfolding line_at
line_few T m i h =
    let vs = take (size_at T i) (drop (first_at T i) m) in
    omega (
      arith,
      length-append (name_at T i) (bytes " /" ++ (values vs ++ (bytes "/" ++ newline))),
      name_length T i,
      length-append (values vs) (bytes "/" ++ newline),
      values_few vs,
      length-take (size_at T i) (drop (first_at T i) m),
    )

-- ---- data lines one after another

-- those of the first n entries
unfoldable pub lines_at : List ℕ → List ℤ → ℕ → List ℕ
lines_at T m zero = []
lines_at T m (suc n) = lines_at T m n ++ line_at T m n

pub lines_none : (b : List ℕ) (at : ℕ) (T : List ℕ) (m : List ℤ) → Writes b at (lines_at T m 0) b at
unfolding lines_at
lines_none b at T m = writes_none b at

pub lines_more : {b d a : List ℕ} {at p r : ℕ} (T : List ℕ) (m : List ℤ) (i : ℕ) → Writes b at (lines_at T m i) d p → Writes d p (line_at T m i) a r
    → Writes b at (lines_at T m (i + 1)) a r
unfolding lines_at
lines_more T m i u v = writes_as (ap (lines_at T m) (sym (add-one i))) (writes_then u v)

data_lines_snoc : (l : List Entry) (e : Entry) (m : List ℤ)
    → data_lines (l ++ (e ∷ [])) m ≡ data_lines l m ++ data_line e.name (take e.size (drop e.first m))
unfolding data_lines
data_lines_snoc [] e m = append-nil (data_line e.name (take e.size (drop e.first m)))
data_lines_snoc (x ∷ l) e m =
    let d = data_line x.name (take x.size (drop x.first m)) in
    ap (λ (y : List ℕ). d ++ y) (data_lines_snoc l e m) ∙ sym (append_assoc d (data_lines l m) (data_line e.name (take e.size (drop e.first m))))

module _ (T : List ℕ) (m : List ℤ) (t : List Entry) (k : Tabled T t) where
  line_is : (i : ℕ) → i < length t → line_at T m i ≡ data_line (get_or t i nowhere).name (take (get_or t i nowhere).size (drop (get_or t i nowhere).first m))
  unfolding line_at
  line_is i h = let o = k.rows i h in λ j. data_line (o.name j) (take (o.size j) (drop (o.first j) m))

  lines_are : (n : ℕ) → n ≤ length t → lines_at T m n ≡ data_lines (take n t) m
  unfolding lines_at data_lines
  lines_are zero h = refl
  lines_are (suc n) h =
      (λ j. lines_are n (omega arith) j ++ line_is n (omega arith) j)
      ∙ sym (data_lines_snoc (take n t) (get_or t n nowhere) m)
      ∙ ap (λ (l : List Entry). data_lines l m) (sym (take-suc t n nowhere (omega arith)))

  pub lines_all : {b a : List ℕ} {at r : ℕ} (n : ℕ) → n ≡ count_in T → Writes b at (lines_at T m n) a r → Writes b at (data_lines t m) a r
  lines_all n e u =
      let h : n ≡ length t = omega (arith, k.count, k.few) in
      writes_as (lines_are n (omega arith) ∙ ap (λ (l : List Entry). data_lines l m) (take_all n t (omega arith))) u

-- ---- how long they are

pub cells_take : (t : List Entry) (i : ℕ) → i < length t → cells (take (suc i) t) ≡ cells (take i t) + (get_or t i nowhere).size
cells_take [] i h = absurd (omega arith)
cells_take (e ∷ t) zero h = omega arith
cells_take (e ∷ t) (suc i) h = omega (arith, cells_take t i (omega arith))

pub cells_part : (t : List Entry) (i : ℕ) → cells (take i t) ≤ cells t
cells_part t zero = omega arith
cells_part [] (suc i) = omega arith
cells_part (e ∷ t) (suc i) = omega (arith, cells_part t i)

module _ (T : List ℕ) (m : List ℤ) (t : List Entry) (k : Holds T m t) where
  pub named : (i : ℕ) → i < length t → Named T i
  unfolding name_at
  named i h =
      let o = k.tabled.rows i h in
      record {
        low = omega (arith, k.tabled.few);
        short = omega (arith, name_length T i, ap length o.name, o.short);
        plain = λ j (b : j < length_at T i).
            omega (arith, k.plain i j h, ap (λ (l : List ℕ). get_or l j 0) o.name, listed_at (length_at T i) (λ c. word_at T i c) j 0 b);
      }

  pub cells_held : (i : ℕ) → i < length t → first_at T i + size_at T i ≤ length m
  cells_held i h = let o = k.tabled.rows i h in omega (arith, k.held i h, o.first, o.size)

  lines_few : (i : ℕ) → i ≤ length t → length (lines_at T m i) ≤ 41 * i + 12 * cells (take i t)
  unfolding lines_at
  lines_few zero h = omega arith
  lines_few (suc i) h =
      omega (
        arith,
        lines_few i (omega arith),
        length-append (lines_at T m i) (line_at T m i),
        line_few T m i (named i (omega arith)).short,
        (k.tabled.rows i (omega arith)).size,
        cells_take t i (omega arith),
      )

  -- there is room for the line of entry i
  pub room : {b a : List ℕ} {at p : ℕ} (i : ℕ) → i < length t → at ≤ 44 → Writes b at (lines_at T m i) a p → p + 41 + 12 * size_at T i ≤ 2236
  room i h l u =
      omega (
        arith,
        u.place,
        lines_few i (omega arith),
        (k.tabled.rows i h).size,
        cells_take t i h,
        cells_part t (suc i),
        k.few,
        k.tabled.few,
      )

  pub all_few : length (data_lines t m) ≤ 2192
  all_few =
      omega (
        arith,
        lines_few (length t) (omega arith),
        ap length (lines_are T m t k.tabled (length t) (omega arith)),
        ap (λ (l : List Entry). length (data_lines l m)) (take_all (length t) t (omega arith)),
        cells_part t (length t),
        k.few,
        k.tabled.few,
      )

-- ---- a report

-- what was written from 0 on stands in front, and what stood after it is left
front : (b xs a : List ℕ) (r : ℕ) → length b ≡ 2236 → length xs ≤ 2236 → Writes b 0 xs a r → (r ≤ length a) × (take r a ≡ xs) × (drop r a ≡ drop r b)
front b xs a r l h u =
    let e : a ≡ xs ++ drop (0 + length xs) b = u.bytes ∙ sets-eq xs b 0 (omega arith) in
    let p : length xs ≡ r = omega (arith, u.place) in
    let q : 0 + length xs ≡ r = omega arith in (
      omega (arith, ap length u.bytes, length-sets b 0 xs),
      ap (take r) e ∙ take_at xs (drop (0 + length xs) b) r p,
      ap (drop r) e ∙ drop_at xs (drop (0 + length xs) b) r p ∙ ap (λ (k : ℕ). drop k b) q,
    )

report_complete : (answer : Result Ran Failure) (t : List Entry) (m : List ℤ) → Completes answer → comment answer ++ data_lines t m ≡ report answer t m
unfolding report
report_complete (Ok r) t m c = refl
report_complete (Err e) t m c = absurd c

report_refused : (answer : Result Ran Failure) (t : List Entry) (m : List ℤ) → (Completes answer → ⊥) → comment answer ≡ report answer t m
unfolding report
report_refused (Ok r) t m c = absurd (c tt)
report_refused (Err e) t m c = refl

module _ (answer : Result Ran Failure) (T : List ℕ) (m : List ℤ) (b : List ℕ) (l : length b ≡ 2236) where
  pub reports_lines : {d a : List ℕ} {at r : ℕ} → Completes answer → (t : List Entry) → Holds T m t → Writes b 0 (comment answer) d at
      → ((t : List Entry) → Tabled T t → Writes d at (data_lines t m) a r) → Reports answer T m b a r
  reports_lines {d} {a} {at} {r} c t k u v =
      let few : length (comment answer ++ data_lines t m) ≤ 2236 = omega (
        arith,
        comment_few answer,
        all_few T m t k,
        length-append (comment answer) (data_lines t m),
      ) in
      let f = front b (comment answer ++ data_lines t m) a r l few (writes_then u (v t k.tabled)) in
      record {
        within = f.0;
        counted = sym (length-take-le r a f.0);
        bytes = λ s h.
            let w = writes_then u (v s (h c)) in
            (front b (comment answer ++ data_lines s m) a r l (omega (arith, w.place, (writes_then u (v t k.tabled)).place)) w).1
            ∙ report_complete answer s m c;
        rest = f.2;
      }

  pub reports_refusal : {a : List ℕ} {r : ℕ} → (Completes answer → ⊥) → Writes b 0 (comment answer) a r → Reports answer T m b a r
  reports_refusal {a} {r} c u =
      let f = front b (comment answer) a r l (omega (arith, comment_few answer)) u in
      record {
        within = f.0;
        counted = sym (length-take-le r a f.0);
        bytes = λ s h. f.1 ∙ report_refused answer s m c;
        rest = f.2;
      }
