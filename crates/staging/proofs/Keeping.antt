-- The words and the list keep the table as a log grows: an access is one `note`, the end of an iteration one `close`.
use mathlib.Core.Path.{◌≡◌, refl, sym, ◌∙◌, ap}
use mathlib.Core.Logic.{◌≢◌}
use mathlib.Core.Bool.{false, cond}
use mathlib.Core.List.{List}
use Prim.Native.Nat.{ℕ, zero, suc, max, ◌+◌, ◌-◌, ◌≤◌, ◌<◌}
use native.Mathlib.Decide.{ℕ_discrete}
use native.Mathlib.Numerals.{add-one}
use native.Mathlib.Omega.{arith}
use lib.ListN.{set, length-set}
use lib.Seq.{get_or-set_same, get_or-set_other}
use lib.IntN.{ℤ}
use Rattle.rules.specs.ChooseLaws.{pick_same, pick_other, put_same, put_other}
use Rattle.rules.specs.Log.{Kind, writes, updates, access}
use Rattle.reorder.specs.declared.Row.{Row}
use Rattle.reorder.specs.StageTable.{Table, latest, opened, needs, marked, note, close}
use Rattle.staging.specs.Rows.{stage_in, found, noted_in, over_in, Notable, Noted}
use Rattle.staging.specs.Kept.{Kept}
use Rattle.staging.proofs.RowLaws.{length_row, row_same, row_other}

-- ---- the stage of a stamp, and a row opened

pub latest_none : (s : ℕ → ℕ) (x : ℕ) → x ≡ 0 → latest s x ≡ 0
unfolding latest
latest_none s zero e = refl
latest_none s (suc x) e = absurd (omega arith)

pub latest_before : (s : ℕ → ℕ) (x : ℕ) → x ≢ 0 → latest s x ≡ s (x - 1)
unfolding latest
latest_before s zero n = absurd (n refl)
latest_before s (suc x) n = let e : suc x - 1 ≡ x = omega arith in rw e

pub opened_already : (s : ℕ → ℕ) (i : ℕ) (r : Row) → r.last ≡ suc i → opened s i r ≡ r
unfolding opened
opened_already s i r e = pick_same e r _

pub opened_first : (s : ℕ → ℕ) (i : ℕ) (r : Row) → r.last ≢ suc i
    → opened s i r
    ≡ record {
      last = i + 1;
      changes = false;
      changed = cond r.changes (max r.changed (latest s r.last)) r.changed;
      touched = max r.touched (latest s r.last);
    }
unfolding opened
opened_first s i r n = pick_other n r _ ∙ rw (add-one i)

-- it is opened by the stages of lower iterations alone

latest_below : (s u : ℕ → ℕ) (i x : ℕ) → ((j : ℕ) → j < i → s j ≡ u j) → x ≤ i → latest s x ≡ latest u x
unfolding latest
latest_below s u i zero h b = refl
latest_below s u i (suc x) h b = h x b

opened_below : (s u : ℕ → ℕ) (i : ℕ) (r : Row) → ((j : ℕ) → j < i → s j ≡ u j) → r.last ≤ suc i → opened s i r ≡ opened u i r
unfolding opened
opened_below s u i r h b = elim (ℕ_discrete r.last (suc i)) [
  | yes e ↦ pick_same e r _ ∙ sym (pick_same e r _)
  | no n ↦ let e : latest s r.last ≡ latest u r.last = latest_below s u i r.last h (omega (arith, b, n)) in rw e
]

module _ (k n i : ℕ) (W L : List ℕ) (t : Table) (h : Kept k n i W L t) (small : (c : ℕ) → (t.rows c).last ≤ suc i) where
  -- an access of cell c
  module _ (c : ℕ) (b : c < k) where
    -- it can be noted
    pub kept_notable : c < 4096 → i < n → n ≤ 65535 → Notable L i W c
    kept_notable x y z = record {
      low = x;
      inside = omega (arith, b, h.room);
      early = omega arith;
      known = omega (arith, small c, ap (λ (r : Row). r.last) (h.rows c b), h.numbers);
    }

    -- the row that the iteration finds
    kept_found : found L i W c ≡ opened t.stages i (t.rows c)
    kept_found = ap (opened (stage_in L) i) (h.rows c b) ∙ opened_below (stage_in L) t.stages i (t.rows c) h.stages (small c)

    module _ (q : Kind) (v : ℤ) where
      pub kept_note : Kept k n i (noted_in q L i W c) L (note (access q i c v) t)
      unfolding note noted_in
      kept_note =
          let f = opened t.stages i (t.rows c) in
          record {
            rows = λ d y. elim (ℕ_discrete c d) [
              | yes e ↦ rw (← e) (row_same W c (marked q (found L i W c)) (omega (arith, b, h.room)) ∙ ap (marked q) kept_found
                  ∙ sym (put_same refl t.rows (marked q f)))
              | no e ↦ row_other W c d (marked q (found L i W c)) e ∙ h.rows d y ∙ sym (put_other e t.rows (marked q f))
            ];
            stages = h.stages;
            room = omega (arith, h.room, length_row W c (marked q (found L i W c)));
            numbers = h.numbers;
          }

      -- what the iteration then has to come after
      pub kept_over : (o : ℕ) → o ≡ t.over → over_in q L i W c o ≡ (note (access q i c v) t).over
      unfolding note over_in
      kept_over o e = rw (kept_found, e)

  -- the end of iteration i: its stage is in the list
  pub kept_close : i < n → Kept k n (suc i) W (set L i (suc t.over)) (close i t)
  unfolding close
  kept_close b =
      let x = suc t.over in
      record {
        rows = h.rows;
        stages = λ j y. elim (ℕ_discrete i j) [
          | yes e ↦ rw (← e) (get_or-set_same L i x 0 (omega (arith, b, h.numbers)) ∙ sym (put_same refl t.stages x))
          | no e ↦ get_or-set_other L i j x 0 (λ (p : j ≡ i). e (sym p)) ∙ h.stages j (omega (arith, y, e)) ∙ sym (put_other e t.stages x)
        ];
        room = h.room;
        numbers = length-set L i x ∙ h.numbers;
      }

-- an update is noted as a write is
pub noted_update : (L : List ℕ) (i : ℕ) (W : List ℕ) (c o : ℕ) (W' : List ℕ) (r : ℕ) → Noted writes L i W c o W' r → Noted updates L i W c o W' r
unfolding noted_in over_in marked needs
noted_update L i W c o W' r h = record { words = h.words; over = h.over }
