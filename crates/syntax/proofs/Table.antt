-- The table of an accepted text's names: its entries follow one another from cell 0 on, so the cells of the entry that a name finds are cells
-- of the table and of no other name, and their class is that entry's.
use mathlib.Core.Path.{◌≡◌, refl, sym, ◌∙◌}
use mathlib.Core.Bool.{Bool, true, false, cond, ◌&&◌}
use mathlib.Core.List.{List, [], ◌∷◌}
use Prim.Native.Nat.{ℕ, zero, suc, ◌+◌, ◌*◌, ◌≤◌, ◌<◌}
use native.Mathlib.Omega.{arith}
use lib.Dec.{ltb, leb}
use lib.ListN.{length, get_or, take}
use borrow.Author.Tests.{lt-ltb, le-ltb, le-leb}
use Rattle.syntax.specs.Known.{Entry, rows, columns, named, nowhere, find, cells, cells_of}
use Rattle.syntax.specs.Meaning.{class_of}
use Rattle.syntax.specs.Sane.{Each, Laid, SaneEntry, SaneTable}
use Rattle.syntax.proofs.TestLaws.{both_hold, cond_each, each_weaken}
use Rattle.syntax.proofs.Spelling.{same_true}

pub cells_filled : (t : List Entry) → SaneTable t → 0 < length t → 0 < cells t
cells_filled [] h k = absurd (omega arith)
cells_filled (e ∷ es) h k = omega (arith, h.sized.0.some_cells)

-- ---- the entry at a place

pub laid_at : (c : ℕ) (t : List Entry) (i : ℕ) → Laid c t → i < length t → (get_or t i nowhere).first ≡ c + cells (take i t)
laid_at c [] i h k = absurd (omega arith)
laid_at c (e ∷ es) zero h k = omega (arith, h.0)
laid_at c (e ∷ es) (suc i) h k = omega (arith, laid_at (c + e.size) es i h.1 (omega arith))

-- ---- the entry that a name finds

pub find_each : (P : Entry → Type 0) (x : List ℕ) (t : List Entry) → P nowhere → Each P t → P (find x t)
unfolding find
find_each P x [] n h = n
find_each P x (e ∷ es) n h = cond_each P (named x e) h.0 (find_each P x es n h.1)

-- its cells lie from a up to below z
record Between (a z : ℕ) (e : Entry) : Type 0 where
  from : 0 < e.size → a ≤ e.first
  to : e.first + e.size ≤ z

laid_between : (a z c : ℕ) (t : List Entry) → a ≤ c → c + cells t ≤ z → Laid c t → Each (Between a z) t
laid_between a z c [] p q h = tt
laid_between a z c (e ∷ es) p q h =
    (record { from = λ _. omega (arith, h.0); to = omega (arith, h.0) }, laid_between a z (c + e.size) es (omega arith) (omega arith) h.1)

find_between : (x : List ℕ) (c : ℕ) (t : List Entry) → Laid c t → Between c (c + cells t) (find x t)
find_between x c t h =
    find_each (Between c (c + cells t)) x t (record { from = λ k. omega arith; to = omega arith })
    (laid_between c (c + cells t) c t (omega arith) (omega arith) h)

-- the cells of the entry found are below N; where nothing is found it has none
pub find_ends : (x : List ℕ) (t : List Entry) → SaneTable t → (find x t).first + (find x t).size ≤ cells t
find_ends x t h = omega (arith, (find_between x 0 t h.laid).to)

-- in a table that has cells the first is one of them, found or not
pub find_first : (x : List ℕ) (t : List Entry) → SaneTable t → 0 < cells t → (find x t).first < cells t
find_first x t h k = find_each (λ e. e.first < cells t) x t k (go 0 t h.laid h.sized (omega arith))
  where
    go : (c : ℕ) (es : List Entry) → Laid c es → Each SaneEntry es → c + cells es ≤ cells t → Each (λ e. e.first < cells t) es
    go c [] l s b = tt
    go c (e ∷ es) l s b = (omega (arith, l.0, s.0.some_cells), go (c + e.size) es l.1 s.1 (omega arith))

-- ---- the extents of the entry that a name finds

-- what has no two extents has no columns
rows_columns : (ns : List ℕ) → get_or ns 0 0 * get_or ns 1 0 ≤ cells_of ns
rows_columns [] = omega arith
rows_columns (n ∷ []) = omega arith
rows_columns (m ∷ n ∷ ns) = omega arith

pub find_grid : (x : List ℕ) (t : List Entry) → SaneTable t → rows (find x t) * columns (find x t) ≤ (find x t).size
find_grid x t h = find_each (λ e. rows e * columns e ≤ e.size) x t (omega arith)
    (each_weaken SaneEntry _ (λ e s. rw (← s.shaped) (rows_columns e.extents)) t h.sized)

-- no more rows than cells, and no more columns
pub extents_few : (ns : List ℕ) → 1 ≤ cells_of ns → (get_or ns 0 0 ≤ cells_of ns) × (get_or ns 1 0 ≤ cells_of ns)
extents_few [] h = (omega arith, omega arith)
extents_few (n ∷ []) h = (omega arith, omega arith)
extents_few (zero ∷ n ∷ ns) h = absurd (omega arith)
extents_few (suc m ∷ zero ∷ ns) h = absurd (omega arith)
extents_few (suc m ∷ suc n ∷ ns) h = (omega arith, omega arith)

pub find_extents : (x : List ℕ) (t : List Entry) → SaneTable t → (rows (find x t) ≤ 4096) × (columns (find x t) ≤ 4096)
find_extents x t h = find_each (λ e. (rows e ≤ 4096) × (columns e ≤ 4096)) x t (omega arith, omega arith) (each_weaken SaneEntry _ few t h.sized)
  where
    few : (e : Entry) → SaneEntry e → (rows e ≤ 4096) × (columns e ≤ 4096)
    few e s =
        let (m, n) = extents_few e.extents (omega (arith, s.shaped, s.some_cells)) in
        (omega (arith, s.shaped, s.few_cells), omega (arith, s.shaped, s.few_cells))

-- ---- the cells of two names

-- cell k is one of an entry's
abbrev pub Among : ℕ → Entry → Type 0
Among k e = (e.first ≤ k) × (k < e.first + e.size)

-- no cell is of both
pub find_apart : (x y : List ℕ) → (x ≡ y → ⊥) → (c : ℕ) (t : List Entry) (k : ℕ) → Laid c t → Among k (find x t) → Among k (find y t) → ⊥
unfolding find
find_apart x y n c [] k h p q = omega (arith, p.1)
find_apart x y n c (e ∷ es) k h p q =
    go (named x e) refl (named y e) refl (find_between x (c + e.size) es h.1) (find_between y (c + e.size) es h.1)
    (find_apart x y n (c + e.size) es k h.1) p q
  where
    go : (a : Bool) → named x e ≡ a → (b : Bool) → named y e ≡ b
        → Between (c + e.size) (c + e.size + cells es) (find x es) → Between (c + e.size) (c + e.size + cells es) (find y es)
        → (Among k (find x es) → Among k (find y es) → ⊥)
        → Among k (cond a e (find x es)) → Among k (cond b e (find y es)) → ⊥
    go true u true v f g ih p q = n (same_true x e.name u ∙ sym (same_true y e.name v))
    go true u false v f g ih p q = omega (arith, h.0, p.1, q.0, g.from (omega (arith, q.0, q.1)))
    go false u true v f g ih p q = omega (arith, h.0, q.1, p.0, f.from (omega (arith, p.0, p.1)))
    go false u false v f g ih p q = ih p q

-- ---- the class of a cell

pub class_of_found : (x : List ℕ) (c : ℕ) (t : List Entry) (k : ℕ) → Laid c t → (find x t).first ≤ k → k < (find x t).first + (find x t).size
    → class_of t k ≡ (find x t).class
unfolding find class_of
class_of_found x c [] k h p q = absurd (omega arith)
class_of_found x c (e ∷ es) k h p q = go (named x e) (class_of_found x (c + e.size) es k h.1) p q
  where
    go : (b : Bool) → ((find x es).first ≤ k → k < (find x es).first + (find x es).size → class_of es k ≡ (find x es).class)
        → (cond b e (find x es)).first ≤ k → k < (cond b e (find x es)).first + (cond b e (find x es)).size
        → cond (leb e.first k && ltb k (e.first + e.size)) e.class (class_of es k) ≡ (cond b e (find x es)).class
    go true ih p q = rw (both_hold (le-leb e.first k p) (lt-ltb k (e.first + e.size) q))
    go false ih p q =
        let f = (find_between x (c + e.size) es h.1).from (omega arith) in
        rw (le-leb e.first k (omega (arith, h.0)), le-ltb k (e.first + e.size) (omega (arith, h.0))) (ih p q)
