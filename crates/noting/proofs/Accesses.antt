-- After a function has noted an access, the words stand for the tables that `note` gives.
use mathlib.Core.Path.{◌≡◌, sym, ◌∙◌, ap}
use mathlib.Core.Logic.{inl, inr}
use mathlib.Core.Bool.{Bool, true, cond}
use mathlib.Core.List.{List}
use Prim.Native.Nat.{ℕ, suc, ◌+◌, ◌*◌, ◌/◌, ◌%◌, ◌≤◌, ◌<◌}
use native.Mathlib.Numerals.{add-one}
use native.Mathlib.Decide.{ℕ_discrete}
use native.Mathlib.Omega.{arith}
use mir.Syntax.{w32}
use mir.Val.{SFits}
use lib.ListN.{get_or}
use lib.IntN.{ℤ}
use Rattle.int32.specs.Integers.{value}
use Rattle.int32.proofs.Laws.{value_word}
use Rattle.rules.specs.Choose.{pick}
use Rattle.rules.specs.ChooseLaws.{pick_same, pick_other}
use Rattle.rules.specs.Operation.{operation}
use Rattle.rules.specs.declared.Class.{Class}
use Rattle.rules.specs.Loop.{operator}
use Rattle.rules.specs.Log.{reads, writes, updates, access}
use Rattle.rules.specs.Numbers.{class_number, class_by}
use Rattle.rules.proofs.OperationLaws.{join_fits}
use Rattle.shadow.specs.Tables.{Own, Tables, note}
use Rattle.tables.specs.Layout.{row_at, own_at, bit, flags_of, class_held, RowHeld, Holds}
use Rattle.noting.specs.Changes.{Placed, one_more, read_noted, counted, written, updated}
use Rattle.noting.proofs.Words.{read_length, read_met, read_highest, read_exposed, read_other, counted_length, counted_other, counted_pairs, counted_cells, counted_touched, counted_placed, written_length, written_met, written_writers, written_flags, written_lowest, written_value, written_wrote, written_other, updated_length, updated_flags, updated_partial, updated_other}
use Rattle.tables.proofs.Flags.{bit_most, flags_updated, flags_class, pick_bit}
use Rattle.tables.proofs.Start.{joins}
use Rattle.tables.proofs.Held.{rows_apart, outside_other, outside_part, row_changed, holds_changed}

-- ---- flags

module _ (k : Class) (cr up : Bool) where
  -- with either mark
  cross_flags : flags_of k cr up / 2 * 2 + 1 ≡ flags_of k true up
  cross_flags = up_one (class_number k) (bit up) (bit cr) (bit_most cr)
    where
      up_one : (a b c : ℕ) → c ≤ 1 → (4 * a + 2 * b + c) / 2 * 2 + 1 ≡ 4 * a + 2 * b + 1
      up_one a b c h = omega arith

  update_flags : flags_of k cr up / 4 * 4 + 2 + flags_of k cr up % 2 ≡ flags_of k cr true
  update_flags = up_two (class_number k) (bit up) (bit cr) (bit_most up) (bit_most cr)
    where
      up_two : (a b c : ℕ) → b ≤ 1 → c ≤ 1 → (4 * a + 2 * b + c) / 4 * 4 + 2 + (4 * a + 2 * b + c) % 2 ≡ 4 * a + 2 * 1 + c
      up_two a b c g h = omega arith

  -- where the stamp e is s
  pick_flags : (e s : ℕ) → pick e s (flags_of k cr up / 2 * 2 + 1) (flags_of k cr up) ≡ flags_of k (pick e s true cr) up
  pick_flags e s = elim (ℕ_discrete e s) [
    | yes y ↦ pick_same y _ _ ∙ cross_flags ∙ ap (λ (b : Bool). flags_of k b up) (sym (pick_same y true cr))
    | no y ↦ pick_other y _ _ ∙ ap (λ (b : Bool). flags_of k b up) (sym (pick_other y true cr))
  ]

-- ---- counts

one_more_is : {a b m a' b' m' : ℕ} (g : ℕ) → a ≡ a' → b ≡ b' → m ≡ m' → one_more a b (g + 1) m ≡ pick a' (suc g) m' (pick b' (suc g) m' (suc m'))
one_more_is {m' = m'} g e f h = rw (e, f, h, add-one g, add-one m')

-- one more unless the stamp is g
unless_is : {a m a' m' : ℕ} (g : ℕ) → a ≡ a' → m ≡ m' → pick a (g + 1) m (m + 1) ≡ pick a' (suc g) m' (suc m')
unless_is {m' = m'} g e h = rw (e, h, add-one g, add-one m')

-- one more cell unless it was updated or written
cells_is : {f w m w' m' : ℕ} (k : Class) (cr up : Bool) → f ≡ flags_of k cr up → w ≡ w' → m ≡ m'
    → pick (f / 2 % 2) 1 m (pick w 0 (m + 1) m) ≡ cond up m' (pick w' 0 (suc m') m')
cells_is {m' = m'} k cr up e g h = rw (e, g, h, add-one m', flags_updated k cr up) (pick_bit up _ _)

module _ (n p : ℕ) (class : ℕ → Class) (entry : ℕ → ℤ) (W : List ℕ) (t : Tables) (h : Holds n p class entry W t) (γ π : ℕ → ℕ) (i c : ℕ)
    (b : c < n) (a : π (γ i) < p) where
  abbrev row : ℕ
  row = row_at p c

  abbrev own : ℕ
  own = own_at (row_at p c) (π (γ i))

  abbrev g : ℕ
  g = γ i

  abbrev o : Own
  o = (t.rows c).own (π (γ i))

  -- the row and the own part lie in the words
  pub placed : Placed W row own
  placed = record { first = omega arith; apart = omega arith; inside = omega (arith, rows_apart p c n b, h.size) }

  held : RowHeld p (class c) (entry c) W row (t.rows c)
  held = h.rows c b

  pub holds_read : (v : ℤ) → Holds n p class entry (read_noted W row own g) (note γ π (joins class) (access reads i c v) t)
  unfolding note
  holds_read v =
      let r = held in
      let x = r.own (π (γ i)) a in
      let other = read_other W row own g placed in
      holds_changed W (read_noted W row own g) n p class entry t h c b (read_length W row own g placed) _
      (row_changed W (read_noted W row own g) p (class c) (entry c) row (t.rows c) r (π (γ i)) _ _ _ _ _ _ _
      (other row (omega arith) (omega arith) (omega arith))
      (read_met W row own g placed ∙ one_more_is g x.wrote x.exposed r.met)
      (other (row + 2) (omega arith) (omega arith) (omega arith) ∙ r.writers)
      (other (row + 3) (omega arith) (omega arith) (omega arith) ∙ r.flags)
      (other (row + 4) (omega arith) (omega arith) (omega arith) ∙ r.lowest)
      (read_highest W row own g placed ∙ rw (x.wrote, r.highest, add-one g))
      (record {
        value = ap value (other own (omega arith) (omega arith) (omega arith)) ∙ x.value;
        wrote = other (own + 1) (omega arith) (omega arith) (omega arith) ∙ x.wrote;
        exposed = read_exposed W row own g placed ∙ rw (x.wrote, x.exposed, add-one g);
        partial = ap value (other (own + 3) (omega arith) (omega arith) (omega arith)) ∙ x.partial;
        touched = other (own + 4) (omega arith) (omega arith) (omega arith) ∙ x.touched;
      })
      (λ j (f : row + 6 ≤ j) s. other j (omega arith) (omega arith) (outside_other (own + 2) s (omega arith) (omega arith))))
      (λ k f s.
      other k (outside_other (row + 1) s (omega arith) (omega arith)) (outside_other (row + 5) s (omega arith) (omega arith))
      (outside_other (own + 2) s (omega arith) (omega arith)))
      _ _ (other 0 (omega arith) (omega arith) (omega arith) ∙ h.pairs) (other 1 (omega arith) (omega arith) (omega arith) ∙ h.cells)

  -- the words after the counts
  abbrev X : List ℕ
  X = counted W row own i

  placed_counted : Placed X row own
  placed_counted = counted_placed W row own i placed

  -- a word that the counts leave
  still : (k : ℕ) → 1 < k → (k ≡ own + 4 → ⊥) → get_or X k 0 ≡ get_or W k 0
  still = counted_other W row own i

  pairs_after : get_or X 0 0 ≡ pick o.touched (suc i) t.pairs (suc t.pairs)
  pairs_after = counted_pairs W row own i placed ∙ unless_is i (held.own (π (γ i)) a).touched h.pairs

  cells_after : get_or X 1 0 ≡ cond (t.rows c).updated t.cells (pick (t.rows c).writers 0 (suc t.cells) t.cells)
  cells_after = counted_cells W row own i placed ∙ cells_is (class c) (t.rows c).crossed (t.rows c).updated held.flags held.writers h.cells

  pub holds_write : (v : ℤ) → SFits w32 v → Holds n p class entry (written X row own g v) (note γ π (joins class) (access writes i c v) t)
  unfolding note
  holds_write v f =
      let r = held in
      let x = r.own (π (γ i)) a in
      let wrote : get_or X (own + 1) 0 ≡ o.wrote = still (own + 1) (omega arith) (omega arith) ∙ x.wrote in
      let exposed : get_or X (own + 2) 0 ≡ o.exposed = still (own + 2) (omega arith) (omega arith) ∙ x.exposed in
      let flags : get_or X (row + 3) 0 ≡ flags_of (class c) (t.rows c).crossed (t.rows c).updated = still (row + 3) (omega arith) (omega arith) ∙ r.flags in
      let lowest : get_or X (row + 4) 0 ≡ (t.rows c).lowest = still (row + 4) (omega arith) (omega arith) ∙ r.lowest in
      let other = written_other X row own g v placed_counted in
      holds_changed W (written X row own g v) n p class entry t h c b (written_length X row own g v placed_counted ∙ counted_length W row own i) _
      (row_changed W (written X row own g v) p (class c) (entry c) row (t.rows c) r (π (γ i)) _ _ _ _ _ _ _
      (other row (inl (omega arith)) (inl (omega arith)) ∙ still row (omega arith) (omega arith))
      (written_met X row own g v placed_counted ∙ one_more_is g wrote exposed (still (row + 1) (omega arith) (omega arith) ∙ r.met))
      (written_writers X row own g v placed_counted ∙ unless_is g wrote (still (row + 2) (omega arith) (omega arith) ∙ r.writers))
      (written_flags X row own g v placed_counted
      ∙ rw (exposed, flags, add-one g) (pick_flags (class c) (t.rows c).crossed (t.rows c).updated o.exposed (suc g)))
      (written_lowest X row own g v placed_counted ∙ rw (wrote, lowest, add-one g))
      (other (row + 5) (inr (omega arith)) (inl (omega arith)) ∙ still (row + 5) (omega arith) (omega arith) ∙ r.highest)
      (record {
        value = ap value (written_value X row own g v placed_counted) ∙ value_word v f;
        wrote = written_wrote X row own g v placed_counted ∙ add-one g;
        exposed = other (own + 2) (inr (omega arith)) (inr (omega arith)) ∙ exposed;
        partial =
            ap value
            (other (own + 3) (inr (omega arith)) (inr (omega arith)) ∙ still (own + 3) (omega arith) (omega arith))
            ∙ x.partial;
        touched = other (own + 4) (inr (omega arith)) (inr (omega arith)) ∙ counted_touched W row own i placed ∙ add-one i;
      })
      (λ j (y : row + 6 ≤ j) s.
      other j (inr (omega arith)) (outside_part own (own + 2) s (omega arith) (omega arith))
      ∙ still j (omega arith) (outside_other (own + 4) s (omega arith) (omega arith))))
      (λ k (y : 2 ≤ k) s.
      other k (outside_part (row + 1) (row + 5) s (omega arith) (omega arith)) (outside_part own (own + 2) s (omega arith) (omega arith))
      ∙ still k (omega arith) (outside_other (own + 4) s (omega arith) (omega arith)))
      _ _
      (other 0 (inl (omega arith)) (inl (omega arith)) ∙ pairs_after)
      (other 1 (inl (omega arith)) (inl (omega arith)) ∙ cells_after)

  pub holds_update : (v : ℤ) → Holds n p class entry (updated X row own v) (note γ π (joins class) (access updates i c v) t)
  unfolding note
  holds_update v =
      let r = held in
      let x = r.own (π (γ i)) a in
      let flags : get_or X (row + 3) 0 ≡ flags_of (class c) (t.rows c).crossed (t.rows c).updated = still (row + 3) (omega arith) (omega arith) ∙ r.flags in
      let by = ap (λ (f : ℕ). class_by (f / 4)) flags ∙ flags_class (class c) (t.rows c).crossed (t.rows c).updated in
      let before : value (get_or X (own + 3) 0) ≡ o.partial = ap value (still (own + 3) (omega arith) (omega arith)) ∙ x.partial in
      let other = updated_other X row own v placed_counted in
      holds_changed W (updated X row own v) n p class entry t h c b (updated_length X row own v placed_counted ∙ counted_length W row own i) _
      (row_changed W (updated X row own v) p (class c) (entry c) row (t.rows c) r (π (γ i)) _ _ _ _ _ _ _
      (other row (omega arith) (omega arith) ∙ still row (omega arith) (omega arith))
      (other (row + 1) (omega arith) (omega arith) ∙ still (row + 1) (omega arith) (omega arith) ∙ r.met)
      (other (row + 2) (omega arith) (omega arith) ∙ still (row + 2) (omega arith) (omega arith) ∙ r.writers)
      (updated_flags X row own v placed_counted ∙ rw flags (update_flags (class c) (t.rows c).crossed (t.rows c).updated))
      (other (row + 4) (omega arith) (omega arith) ∙ still (row + 4) (omega arith) (omega arith) ∙ r.lowest)
      (other (row + 5) (omega arith) (omega arith) ∙ still (row + 5) (omega arith) (omega arith) ∙ r.highest)
      (record {
        value = ap value (other own (omega arith) (omega arith) ∙ still own (omega arith) (omega arith)) ∙ x.value;
        wrote = other (own + 1) (omega arith) (omega arith) ∙ still (own + 1) (omega arith) (omega arith) ∙ x.wrote;
        exposed = other (own + 2) (omega arith) (omega arith) ∙ still (own + 2) (omega arith) (omega arith) ∙ x.exposed;
        partial =
            ap value (updated_partial X row own v placed_counted) ∙ value_word _ (join_fits (operator (class_held X row)) v _)
            ∙ (λ i. (operation (operator (by i))).join v (before i));
        touched = other (own + 4) (omega arith) (omega arith) ∙ counted_touched W row own i placed ∙ add-one i;
      })
      (λ j (y : row + 6 ≤ j) s. other j (omega arith) (outside_other (own + 3) s (omega arith) (omega arith))
      ∙ still j (omega arith) (outside_other (own + 4) s (omega arith) (omega arith))))
      (λ k (y : 2 ≤ k) s.
      other k (outside_other (row + 3) s (omega arith) (omega arith)) (outside_other (own + 3) s (omega arith) (omega arith))
      ∙ still k (omega arith) (outside_other (own + 4) s (omega arith) (omega arith)))
      _ _
      (other 0 (omega arith) (omega arith) ∙ pairs_after)
      (other 1 (omega arith) (omega arith) ∙ cells_after)
