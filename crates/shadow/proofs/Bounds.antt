-- How large the words of the tables get.
use mathlib.Core.Path.{◌≡◌, refl}
use mathlib.Core.Logic.{inl}
use mathlib.Core.Bool.{Bool, true, false, cond}
use Prim.Native.Nat.{ℕ, zero, suc, ◌≤◌, ◌<◌, ◌+◌, ◌*◌}
use native.Mathlib.Nat.{suc-mul}
use native.Mathlib.Decide.{dec_lt}
use native.Mathlib.Omega.{arith}
use Rattle.rules.specs.Loop.{Loop, joining, Partition}
use Rattle.rules.specs.Log.{Log, each, writes, Has, Exposed}
use Rattle.rules.specs.Proper.{Proper}
use Rattle.rules.specs.Merge.{touches, count, sum, pairs, written_cells}
use Rattle.rules.specs.Owner.{whose}
use Rattle.rules.specs.LogLaws.{has_nil, exposed_nil}
use Rattle.shadow.specs.Tables.{Tables, table}
use Rattle.shadow.proofs.Sets.{Size, size_zero, size_out, size_in, size_part, Stamp}
use Rattle.shadow.proofs.Judged.{Judged}
use Rattle.shadow.proofs.Rows.{judged, touched_right, touches_nil}
use Rattle.shadow.proofs.ReadOff.{low}
use Rattle.shadow.specs.Orderly.{Inside, worker, Ascending}
use Rattle.shadow.proofs.Shows.{ascending_groups, within_groups, within_iterations, tables_right}

size_most : {S : ℕ → Type 0} {n k : ℕ} → Size S n k → k ≤ n
size_most size_zero = omega arith
size_most (size_out h s) = omega (arith, size_most s)
size_most (size_in h s) = omega (arith, size_most s)

count_most : (k : ℕ) (f : ℕ → Bool) → count k f ≤ k
unfolding count
count_most zero f = omega arith
count_most (suc k) f = go (f k) (count_most k f)
  where
    go : (b : Bool) → count k f ≤ k → cond b 1 0 + count k f ≤ suc k
    go true h = omega arith
    go false h = omega arith

sum_most : (n k : ℕ) (f : ℕ → ℕ) → ((i : ℕ) → f i ≤ k) → sum n f ≤ n * k
unfolding sum
sum_most zero k f h = omega arith
sum_most (suc n) k f h = omega (arith, h n, sum_most n k f h, suc-mul n k)

-- a stamp is at most the number of groups
stamp_most : (π : ℕ → ℕ) {S : ℕ → Type 0} {s : ℕ → ℕ} (n : ℕ) → Stamp π S s → ((g : ℕ) → S g → g < n) → (p : ℕ) → s p ≤ n
stamp_most π {S} {s} n t f p = go (s p) refl
  where
    go : (m : ℕ) → s p ≡ m → m ≤ n
    go zero e = omega arith
    go (suc g) e = omega (arith, f g (t.down p g e).1)

pub record Bounded (l : Loop) (δ : Partition) (t : Tables) : Type 0 where
  pub met : (c : ℕ) → (t.rows c).met ≤ δ.groups
  pub writers : (c : ℕ) → (t.rows c).writers ≤ (t.rows c).met
  pub wrote : (c p : ℕ) → ((t.rows c).own p).wrote ≤ δ.groups
  pub exposed : (c p : ℕ) → ((t.rows c).own p).exposed ≤ δ.groups
  pub touched : (c p : ℕ) → ((t.rows c).own p).touched ≤ l.iterations
  pub pair_count : t.pairs ≤ l.iterations * l.size
  pub cell_count : t.cells ≤ l.size

pub tables_bounded : (l : Loop) (δ : Partition) → Proper l δ → (g : Log) → Inside l.iterations l.size g → Ascending l δ g → Bounded l δ (table l δ g)
unfolding pairs written_cells
tables_bounded l δ h g x a =
    let t = ascending_groups l δ h x a in
    let u = within_groups l δ h x in
    let w = tables_right l δ h g x a in
    let j : (c : ℕ) → Judged δ.group (whose δ) δ.groups c g ((table l δ g).rows c) = λ c. judged δ.group (whose δ) (joining l) c
    δ.groups g t u in
    record {
      met = λ c. size_most (j c).met;
      writers = λ c. size_part (λ i y. inl y) (j c).writers (j c).met;
      wrote = λ c. stamp_most (whose δ) δ.groups (j c).wrote (low δ.group (whose δ) (joining l) δ.groups c g t u (Has writes c) has_nil);
      exposed = λ c. stamp_most (whose δ) δ.groups (j c).exposed (low δ.group (whose δ) (joining l) δ.groups c g t u (Exposed c) exposed_nil);
      touched = λ c. stamp_most (worker l δ) l.iterations (touched_right δ.group (whose δ) (joining l) c g a) (touched_low c);
      pair_count = omega (
        arith,
        w.pair_count,
        sum_most l.iterations l.size (λ i. count l.size (λ c. touches c (each i g)))
            (λ i. count_most l.size (λ c. touches c (each i g))),
      );
      cell_count = omega (arith, w.cell_count, count_most l.size (λ c. touches c g));
    }
  where
    touched_low : (c i : ℕ) → touches c (each i g) ≡ true → i < l.iterations
    touched_low c i q = elim (dec_lt i l.iterations) [
      | yes y ↦ y
      | no y ↦ absurd (touches_nil δ.group (whose δ) (joining l) c (each i g) (within_iterations l δ h x i (omega arith)) q)
    ]
