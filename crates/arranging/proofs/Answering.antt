-- The answers of Rows and Columns, and what they leave, by the grid that they sought.
use mathlib.Core.Path.{◌≡◌, refl, sym, ◌∙◌, ap, subst}
use mathlib.Core.Bool.{Bool, true, false, cond}
use mathlib.Core.List.{List, [], ◌∷◌, map}
use mathlib.Core.Option.{Option, none, some}
use Prim.Native.Nat.{ℕ, zero, suc, ◌+◌, ◌*◌, ◌≤◌, ◌<◌}
use native.Mathlib.Omega.{arith}
use borrow.Author.Tests.{eqb-true, eq-eqb, ne_eqb, lt-ltb, le-ltb}
use lib.Dec.{eqb}
use lib.ListN.{length}
use lib.IntN.{ℤ}
use Rattle.syntax.specs.Bytes.{lower}
use Rattle.syntax.specs.Known.{Entry, State, cells, find, known}
use Rattle.syntax.specs.Text.{Verdict, refused, good, read}
use Rattle.syntax.proofs.Sane.{accepted_sane}
use Rattle.names.specs.Table.{Tabled}
use Rattle.std.specs.Prelude.{Result, Ok, Err}
use Rattle.lines.specs.declared.Progress.{Progress}
use Rattle.grids.specs.Arrange.{Grid, rearranged, grid_of, grid_named}
use Rattle.grids.proofs.Named.{Inside, grid_unknown, named_inside}
use Rattle.answers.specs.declared.Refusal.{Refusal}
use Rattle.answers.specs.declared.Located.{Located}
use Rattle.answers.specs.Answers.{refusal_at, refuse, entry_cells, located_in, taken, completed, cells_number, grid_number, load_number, arrange_of, arranged, cells_arranged}
use Rattle.fitting.proofs.Fits.{fits_done, fits_not}
use Rattle.preparing.proofs.Verdicts.{refusal_is}
use Rattle.preparing.specs.Prepared.{Accepts, Refuses}
use Rattle.arranging.specs.declared.Grid.{Grid as Found}
use Rattle.arranging.specs.Sought.{found, told, grid_told, sought_of}

-- ---- what Name tells of a grid

pub told_two : (l : Located) → 2 ≤ l.subscripts → Ok (found l.first l.rows l.columns) ≡ grid_told (Ok l)
told_two l h = ap (λ (b : Bool). cond b (refuse 13 0) (Ok (found l.first l.rows l.columns))) (sym (le-ltb l.subscripts 2 h))

pub told_few : (l : Located) → l.subscripts < 2 → refuse 13 0 ≡ grid_told (Ok l)
told_few l h = ap (λ (b : Bool). cond b (refuse 13 0) (Ok (found l.first l.rows l.columns))) (sym (lt-ltb l.subscripts 2 h))

pub told_none : (r : Result Located Refusal) → ((l : Located) → r ≡ Ok l → l.subscripts < 2) → refuse 13 0 ≡ grid_told r
told_none (Ok l) h = told_few l (h l refl)
told_none (Err e) h = refl

pub told_located : (t : List Entry) (w : List ℕ) → grid_told (located_in t (map lower w)) ≡ told 0 (grid_named t w)
unfolding grid_named
told_located t w = go (known (map lower w) t) refl
  where
    by_extents : (e : Entry) (ns : List ℕ) → e.extents ≡ ns → grid_told (Ok (entry_cells e)) ≡ told 0 (grid_of e.first e.extents)
    by_extents e [] q = rw q
    by_extents e (n ∷ []) q = rw q
    by_extents e (m ∷ n ∷ ns) q = rw q (sym (told_two (record {
      first = e.first;
      count = e.size;
      subscripts = suc (suc (length ns));
      class = e.class;
      rows = m;
      columns = n;
    }) (omega arith)))

    go : (b : Bool) → known (map lower w) t ≡ b → grid_told (cond b (Ok (entry_cells (find (map lower w) t))) (refuse 3 0)) ≡ told 0 (grid_named t w)
    go true q = by_extents (find (map lower w) t) _ refl
    go false q = sym (ap (told 0) (grid_unknown t w q))

-- ---- by the verdict on the text

pub seek_refused : (v : Verdict) (e : Refusal) (w : List ℕ) (m : ℕ) → Refuses v e → Err e ≡ sought_of v w m
unfolding sought_of
seek_refused v e w m r = ap Err (refusal_is r) ∙ sym (ap (λ (u : Verdict). sought_of u w m) r.verdict)

module _ (v : Verdict) (p : Progress) (T : List ℕ) (I : List ℤ) (C : List ℕ) (a : Accepts v p T I C) (w : List ℕ) (m : ℕ) where
  -- by whether the cells are as many as the loop's
  by_number : (n : ℕ) → cells_number p.cells m ≡ n → told n (grid_named a.state.table w) ≡ sought_of v w m
  unfolding sought_of
  by_number n q =
      (λ i. told (sym q i) (grid_named a.state.table w))
      ∙ (λ i. told (cells_number (a.represents.cells_so_far i) m) (grid_named a.state.table w))
      ∙ sym (ap (λ (u : Verdict). sought_of u w m) a.verdict)

  pub seek_unfit : (e : Refusal) → Err e ≡ completed (cells_number p.cells m) → Err e ≡ sought_of v w m
  seek_unfit e h = go (cells_number p.cells m) refl
    where
      go : (n : ℕ) → cells_number p.cells m ≡ n → Err e ≡ sought_of v w m
      go zero q = absurd (omega (arith, (fits_not (cells_number p.cells m) e h).1, q))
      go (suc n) q = ap Err ((fits_not (cells_number p.cells m) e h).0 ∙ ap (λ (k : ℕ). refusal_at k 0) q) ∙ by_number (suc n) q

  pub seek_accepted : Ok tt ≡ completed (cells_number p.cells m) → (r : Result Located Refusal)
      → ((t : List Entry) → Tabled T t → r ≡ located_in t (map lower w)) → grid_told r ≡ sought_of v w m
  seek_accepted h r q =
      ap grid_told (q a.state.table a.represents.table) ∙ told_located a.state.table w ∙ by_number 0 (fits_done (cells_number p.cells m) h)

-- ---- by what was sought

abbrev pub answer_of : Result Found Refusal → Result Unit Refusal
answer_of (Ok g) = Ok tt
answer_of (Err e) = Err e

pub answer_by : (v : Verdict) (w : List ℕ) (m : ℕ) → answer_of (sought_of v w m) ≡ arrange_of v w m
unfolding sought_of arrange_of
answer_by (refused n k) w m = refl
answer_by (good s) w m = go (load_number s m) (grid_named s.table w)
  where
    go : (n : ℕ) (o : Option Grid) → answer_of (told n o) ≡ completed (grid_number o n)
    go zero none = refl
    go zero (some g) = refl
    go (suc n) none = refl
    go (suc n) (some g) = refl

module _ (f : Grid → (ℕ → ℤ) → ℕ → ℤ) where
  abbrev pub moved : Result Found Refusal → List ℤ → List ℤ
  moved (Ok g) M = rearranged f (record { first = g.first; rows = g.rows; columns = g.columns }) M
  moved (Err e) M = M

  pub cells_by : (v : Verdict) (w : List ℕ) (M : List ℤ) → moved (sought_of v w (length M)) M ≡ cells_arranged f v w M
  unfolding sought_of
  cells_by (refused n k) w M = refl
  cells_by (good s) w M = go (load_number s (length M)) (grid_named s.table w)
    where
      go : (n : ℕ) (o : Option Grid) → moved (told n o) M ≡ taken (grid_number o n) (arranged f o M) M
      go zero none = refl
      go zero (some g) = refl
      go (suc n) none = refl
      go (suc n) (some g) = refl

-- ---- a grid that was found is among the cells lent

abbrev pub Room : ℕ → Result Found Refusal → Type 0
Room m (Ok g) = (g.first + g.rows * g.columns ≤ m) × (g.rows * g.columns ≤ 4096)
Room m (Err e) = Unit {0}

pub found_room : (text w : List ℕ) (m : ℕ) → Room m (sought_of (read text) w m)
unfolding sought_of
found_room text w m = go (read text) refl
  where
    inside : (n : ℕ) (o : Option Grid) → m ≤ 4096 → Inside m o → Room m (told n o)
    inside zero none b h = tt
    inside zero (some g) b h = (h, omega arith)
    inside (suc n) o b h = tt

    fits : (s : State) (b : Bool) → read text ≡ good s → eqb m (cells s.table) ≡ b → Room m (told (cond b 0 5) (grid_named s.table w))
    fits s true e q =
        let sane = (accepted_sane text s e).table in
        let c : m ≡ cells s.table = eqb-true m (cells s.table) q in
        inside 0 (grid_named s.table w) (omega (arith, c, sane.few_cells)) (subst (λ (n : ℕ). Inside n (grid_named s.table w)) (sym c) (named_inside s.table w sane))
    fits s false e q = tt

    go : (v : Verdict) → read text ≡ v → Room m (sought_of v w m)
    go (refused n k) e = tt
    go (good s) e = fits s (eqb m (cells s.table)) e refl

-- ---- what is answered and left, and what a grid that was found is moved by

module _ (text w : List ℕ) (M : List ℤ) (s : Result Found Refusal) (e : s ≡ sought_of (read text) w (length M)) where
  pub room : Room (length M) s
  room = subst (Room (length M)) (sym e) (found_room text w (length M))

  pub answers : answer_of s ≡ arrange_of (read text) w (length M)
  answers = ap answer_of e ∙ answer_by (read text) w (length M)

  pub leaves : (f : Grid → (ℕ → ℤ) → ℕ → ℤ) → moved f s M ≡ cells_arranged f (read text) w M
  leaves f = ap (λ (x : Result Found Refusal). moved f x M) e ∙ cells_by f (read text) w M
