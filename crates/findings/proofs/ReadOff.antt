-- What the functions read off the words of a row is what the tables show.
use mathlib.Core.Path.{◌≡◌, refl, sym, ◌∙◌, ap}
use mathlib.Core.Logic.{◌⊎◌, inl, inr, ⊎_elim, ◌↔◌}
use mathlib.Core.Bool.{Bool, true, false, cond, ◌&&◌, ◌||◌}
use mathlib.Core.List.{List}
use mathlib.Core.Option.{Option, get_or}
use Prim.Native.Nat.{ℕ, zero, suc, ◌*◌, ◌/◌, ◌%◌, ◌≤◌, ◌<◌}
use native.Mathlib.Decide.{ℕ_discrete}
use native.Mathlib.Omega.{arith}
use borrow.Author.Tests.{lt-ltb, ltb-true, ne_eqb}
use lib.Dec.{eqb, ltb}
use lib.IntN.{ℤ}
use Rattle.int32.specs.Integers.{value}
use Rattle.rules.specs.ChooseLaws.{pick_same, pick_other}
use Rattle.rules.specs.declared.Operator.{Operator}
use Rattle.rules.specs.Operation.{Operation, operation}
use Rattle.rules.specs.declared.Class.{Class}
use Rattle.rules.specs.declared.Class.TheVariants.{Shared as shared, Lastprivate as lastprivate, Copied as copied, Reduction as reduction}
use Rattle.rules.specs.Loop.{Loop, Partition}
use Rattle.rules.specs.Merge.{join_all}
use Rattle.rules.specs.Numbers.{class_by}
use Rattle.rules.proofs.SumLaws.{join_same}
use Rattle.shadow.specs.Tables.{Row, shown, StaleRow, Blocked, chosen}
use Rattle.shadow.proofs.Shows.{merged_off}
use Rattle.tables.specs.Layout.{bit, flags_word, class_held, RowHeld}
use Rattle.tables.proofs.Flags.{flags_crossed, flags_updated, flags_class}
use Rattle.findings.specs.Findings.{marks_of, contested, stale, late, mixed, blocked, blocked_of, last_word, gathered, merged}

-- ---- marks

bit_mark : (m : ℕ) (b : Bool) → m * bit b ≡ cond b m 0
bit_mark m true = omega arith
bit_mark m false = omega arith

module _ (p : ℕ) (k : Class) (e : ℤ) (W : List ℕ) (row : ℕ) (r : Row) (x : RowHeld p k e W row r) where
  crossed_bit : flags_word W row % 2 ≡ bit r.crossed
  crossed_bit = ap (λ (f : ℕ). f % 2) x.flags ∙ flags_crossed k r.crossed r.updated

  updated_bit : flags_word W row / 2 % 2 ≡ bit r.updated
  updated_bit = ap (λ (f : ℕ). f / 2 % 2) x.flags ∙ flags_updated k r.crossed r.updated

  class_bits : class_held W row ≡ k
  class_bits = ap (λ (f : ℕ). class_by (f / 4)) x.flags ∙ flags_class k r.crossed r.updated

  -- the marks
  pub marks_held : marks_of W row ≡ shown r
  unfolding shown
  marks_held = rw (x.met, x.writers, crossed_bit, updated_bit, bit_mark 4 r.crossed, bit_mark 8 r.updated)

-- ---- obstacles

both : {A B : Type 0} (a b : Bool) → A ↔ (a ≡ true) → B ↔ (b ≡ true) → (A × B) ↔ (a && b ≡ true)
both true b f g = (λ (x, y). g.0 y, λ e. (f.1 refl, g.1 e))
both false b f g = (λ (x, y). f.0 x, λ e. (f.1 e, g.1 (let z : ◌≡◌ {A = ℕ} 0 1 = cc in absurd (omega arith))))

either : {A B : Type 0} (a b : Bool) → A ↔ (a ≡ true) → B ↔ (b ≡ true) → (A ⊎ B) ↔ (a || b ≡ true)
either true b f g = (λ s. refl, λ e. inl (f.1 e))
either false b f g = (λ s. ⊎_elim (λ y. let z : ◌≡◌ {A = ℕ} 0 1 = cc (f.0 y) in absurd (omega arith)) (λ y. g.0 y) s, λ e. inr (g.1 e))

above : (m n : ℕ) → (m < n) ↔ (ltb m n ≡ true)
above m n = (lt-ltb m n, ltb-true m n)

bit_is : (b : Bool) → eqb (bit b) 1 ≡ b
bit_is true = refl
bit_is false = refl

marked : (b : Bool) → (b ≡ true) ↔ (eqb (bit b) 1 ≡ true)
marked true = (λ e. refl, λ e. refl)
marked false = (λ e. e, λ e. e)

module _ (m w : ℕ) where
  contested_is : ((0 < w) × (1 < m)) ↔ (contested m w ≡ true)
  contested_is = both (ltb 0 w) (ltb 1 m) (above 0 w) (above 1 m)

  stale_is : (f : ℕ) (b : Bool) → f % 2 ≡ bit b → ((0 < w) × (1 < m) × ((w < m) ⊎ (b ≡ true))) ↔ (stale m w f ≡ true)
  stale_is f b e =
      let j : ((w < m) ⊎ (b ≡ true)) ↔ (ltb w m || eqb (f % 2) 1 ≡ true) = rw e (either (ltb w m) (eqb (bit b) 1) (above w m) (marked b)) in
      let i = both (contested m w) (ltb w m || eqb (f % 2) 1) contested_is j in
      (λ (x, y, z). i.0 ((x, y), z), λ q. let t = i.1 q in (t.0.0, t.0.1, t.1))

  mixed_is : (f : ℕ) (b : Bool) → f / 2 % 2 ≡ bit b → ((0 < m) × (b ≡ true)) ↔ (mixed m f ≡ true)
  mixed_is f b e = rw e (both (ltb 0 m) (eqb (bit b) 1) (above 0 m) (marked b))

late_is : (lo hi : ℕ) → ((0 < lo) × (lo < hi)) ↔ (late lo hi ≡ true)
late_is lo hi = both (ltb 0 lo) (ltb lo hi) (above 0 lo) (above lo hi)

module _ (p : ℕ) (k : Class) (e : ℤ) (W : List ℕ) (row : ℕ) (r : Row) (x : RowHeld p k e W row r) where
  -- the obstacles
  pub blocked_held : Blocked k r ↔ (blocked_of W row ≡ true)
  blocked_held = rw (class_bits p k e W row r x, x.met, x.writers, x.lowest, x.highest) (by_class k)
    where
      s : StaleRow r ↔ (stale r.met r.writers (flags_word W row) ≡ true)
      s = stale_is r.met r.writers (flags_word W row) r.crossed (crossed_bit p k e W row r x)

      reduced : (StaleRow r ⊎ ((0 < r.met) × (r.updated ≡ true)))
          ↔ (stale r.met r.writers (flags_word W row) || mixed r.met (flags_word W row) ≡ true)
      reduced = either (stale r.met r.writers (flags_word W row)) (mixed r.met (flags_word W row)) s
          (mixed_is r.met r.writers (flags_word W row) r.updated (updated_bit p k e W row r x))

      by_class : (k : Class) → Blocked k r ↔ (blocked k r.met r.writers (flags_word W row) r.lowest r.highest ≡ true)
      by_class shared = contested_is r.met r.writers
      by_class lastprivate = s
      by_class copied = late_is r.lowest r.highest
      by_class (reduction o) = reduced

  -- ---- private values

  -- the value of the highest processor that wrote, one more
  last_more : (n : ℕ) → n < p → value (last_word W row n) ≡ get_or (chosen r.own n) e
      → value (last_word W row (suc n)) ≡ get_or (chosen r.own (suc n)) e
  unfolding last_word chosen
  last_more n b i =
      let o = x.own n b in
      elim (ℕ_discrete (r.own n).wrote 0) [
        | yes y ↦ ap value (pick_same (o.wrote ∙ y) _ _) ∙ i ∙ ap (λ (u : Option ℤ). get_or u e) (sym (pick_same y _ _))
        | no y ↦ ap value (pick_other (λ z. y (sym o.wrote ∙ z)) _ _) ∙ o.value ∙ ap (λ (u : Option ℤ). get_or u e) (sym (pick_other y _ _))
      ]

  last_held : (n : ℕ) → n ≤ p → value (last_word W row n) ≡ get_or (chosen r.own n) e
  unfolding last_word chosen
  last_held zero h = x.entry
  last_held (suc n) h = last_more n h (last_held n (omega arith))

  -- the partial results
  gathered_held : (o : Operation) → gathered o W row p ≡ join_all o p (λ q. (r.own q).partial)
  gathered_held o = join_same o p _ _ (λ q b. (x.own q b).partial)

-- ---- the merge

-- what a cell is left with
module _ (l : Loop) (δ : Partition) (c : ℕ) (W : List ℕ) (row : ℕ) (r : Row) (m : ℕ → ℤ) where
  abbrev Held : Class → Type 0
  Held k = RowHeld δ.processors k (l.entry c) W row r

  abbrev last : ℤ
  last = get_or (chosen r.own δ.processors) (l.entry c)

  pub merged_held : (k : Class) → Held k → merged W row δ.processors (m c) ≡ merged_off l δ k m c r
  merged_held shared x = rw (class_bits δ.processors shared (l.entry c) W row r x)
  merged_held lastprivate x = rw (class_bits δ.processors lastprivate (l.entry c) W row r x)
      (last_held δ.processors lastprivate (l.entry c) W row r x δ.processors (omega arith))
  merged_held copied x = rw (class_bits δ.processors copied (l.entry c) W row r x)
      (last_held δ.processors copied (l.entry c) W row r x δ.processors (omega arith))
  merged_held (reduction o) x =
      let p = δ.processors in
      let u = ap (λ (b : ℕ). eqb b 1) (updated_bit p (reduction o) (l.entry c) W row r x) ∙ bit_is r.updated in
      let v = last_held p (reduction o) (l.entry c) W row r x p (omega arith) in
      rw (class_bits p (reduction o) (l.entry c) W row r x, u, v)
      (ap (λ (y : ℤ). cond r.updated ((operation o).join last y) last) (gathered_held p (reduction o) (l.entry c) W row r x (operation o)))
