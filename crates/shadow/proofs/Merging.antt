-- Private values read off the tables: for a group's own reads, and for the merge.
use mathlib.Core.Path.{◌≡◌, refl, sym, ◌∙◌, ap, subst, fun_ext}
use mathlib.Core.List.{◌∷◌}
use mathlib.Core.Option.{none, some}
use Prim.Native.Nat.{ℕ, zero, suc, ◌≤◌, ◌<◌}
use native.Mathlib.Decide.{ℕ_discrete, dec_lt}
use native.Mathlib.Omega.{arith}
use lib.IntN.{ℤ, pos}
use Rattle.rules.specs.ChooseLaws.{pick_same, pick_other, put_same, put_other}
use Rattle.rules.specs.Operation.{Operation}
use Rattle.rules.specs.Log.{Kind, reads, writes, updates, access, Log, only, each, written, Has}
use Rattle.rules.specs.LogLaws.{only_same, only_other, written_newest, written_only_leaving, has_nil}
use Rattle.rules.specs.Merge.{highest}
use Rattle.rules.proofs.MergeRun.{highest_is, highest_none, unwritten}
use Rattle.rules.proofs.SumLaws.{Within}
use Rattle.shadow.specs.Tables.{Own, Row, kept, chosen, own_value, last_own}
use Rattle.shadow.proofs.Sets.{stamp_has, put_keeps}
use Rattle.shadow.proofs.Change.{latest_tops, written_else}
use Rattle.shadow.specs.Orderly.{Latest, InTurn}
use Rattle.shadow.proofs.Judged.{Judged}
use Rattle.shadow.proofs.Rows.{row, after, row_ind, judged, valued}

module _ (γ π : ℕ → ℕ) (ops : ℕ → Operation) (c : ℕ) where
  -- what a group without later ones of its processor wrote last
  pub own_right : (n : ℕ) (l : Log) → InTurn γ π l → Within γ n l → (g : ℕ) → Latest γ π g l
      → own_value g ((row γ π ops c l).own (π g)) ≡ written c (only γ g l)
  own_right n l t u g late =
      let o = (row γ π ops c l).own (π g) in
      elim (ℕ_discrete o.wrote (suc g)) [
        | yes p ↦ pick_same p (some o.value) none ∙ sym (valued γ π ops c n l t u (π g) g p)
        | no p ↦
            pick_other p (some o.value) none
            ∙ sym (unwritten c (only γ g l) (λ w. p (stamp_has π (judged γ π ops c n l t u).wrote
            (latest_tops γ π (Has writes c) has_nil g l late) w)))
      ]

  abbrev proc : ℕ → ℕ
  proc i = π (γ i)

  -- what a processor wrote last
  pub last_right : (l : Log) (p : ℕ) → last_own ((row γ π ops c l).own p) ≡ written c (only proc p l)
  unfolding only written
  last_right = row_ind γ π ops c (λ l r. (p : ℕ) → last_own (r.own p) ≡ written c (only proc p l))
      (λ p. pick_same refl none (some (pos 0)))
      here
      (λ k i d v l m h p. h p ∙ sym (written_only_leaving proc c p (access k i d v) l (λ a. written_else c k i d v a m)))
    where
      at : Log → Row
      at l = row γ π ops c l

      here : (k : Kind) (i : ℕ) (v : ℤ) (l : Log) → ((p : ℕ) → last_own ((at l).own p) ≡ written c (only proc p l)) → (p : ℕ)
          → last_own ((after γ π ops c k i v (at l)).own p) ≡ written c (only proc p (access k i c v ∷ l))
      here reads i v l h p =
          put_keeps last_own (at l).own (proc i) (kept (ops c) reads (γ i) i v ((at l).own (proc i))) refl p ∙ h p
          ∙ sym (written_only_leaving proc c p (access reads i c v) l (λ a. refl))
      here updates i v l h p =
          put_keeps last_own (at l).own (proc i) (kept (ops c) updates (γ i) i v ((at l).own (proc i))) refl p ∙ h p
          ∙ sym (written_only_leaving proc c p (access updates i c v) l (λ a. refl))
      here writes i v l h p =
          let o = kept (ops c) writes (γ i) i v ((at l).own (proc i)) in
          elim (ℕ_discrete (proc i) p) [
            | yes q ↦
                ap last_own (put_same q (at l).own o) ∙ pick_other (λ (z : suc (γ i) ≡ 0). omega arith) none (some v)
                ∙ sym (ap (written c) (only_same proc (access writes i c v) q l) ∙ written_newest c i v (only proc p l))
            | no m ↦ ap last_own (put_other m (at l).own o) ∙ h p ∙ ap (written c) (sym (only_other proc (access writes i c v) m l))
          ]

  -- the highest processor that wrote
  chosen_highest : (l : Log) (k : ℕ) → chosen (row γ π ops c l).own k ≡ highest (λ p. only proc p l) c k
  unfolding chosen highest
  chosen_highest l zero = refl
  chosen_highest l (suc k) =
      let o = (row γ π ops c l).own k in
      elim (ℕ_discrete o.wrote 0) [
        | yes p ↦ rw (pick_same p (chosen (row γ π ops c l).own k) (some o.value), ← last_right l k, pick_same p none (some o.value))
            (chosen_highest l k)
        | no p ↦ rw (pick_other p (chosen (row γ π ops c l).own k) (some o.value), ← last_right l k, pick_other p none (some o.value))
      ]

-- ρ takes an iteration to its processor; processors have ascending blocks
module _ (ρ : ℕ → ℕ) (ops : ℕ → Operation) (c n : ℕ) (l : Log) (grows : (i j : ℕ) → i ≤ j → j < n → ρ i ≤ ρ j) (t : InTurn (λ i. i) ρ l)
    (u : Within (λ i. i) n l) where
  abbrev own : ℕ → Own
  own = (row (λ i. i) ρ ops c l).own

  right : Judged (λ i. i) ρ n c l (row (λ i. i) ρ ops c l)
  right = judged (λ i. i) ρ ops c n l t u

  low : (j : ℕ) → Has writes c (each j l) → j < n
  low j x = elim (dec_lt j n) [ yes y ↦ y | no y ↦ absurd (has_nil (subst (Has writes c) (u j (omega arith)) x)) ]

  climb : (k : ℕ) → ((q : ℕ) → k ≤ q → (own q).wrote ≡ 0) → chosen own k ≡ highest (λ i. each i l) c n
  unfolding chosen
  climb zero z = sym (highest_none (λ i. each i l) c n (λ j. unwritten c (each j l) (λ w. omega (arith, right.wrote.up j w, z (ρ j) (omega arith)))))
  climb (suc k) z = go (climb k) (own k).wrote refl
    where
      go : (((q : ℕ) → k ≤ q → (own q).wrote ≡ 0) → chosen own k ≡ highest (λ i. each i l) c n) → (m : ℕ) → (own k).wrote ≡ m
          → chosen own (suc k) ≡ highest (λ i. each i l) c n
      go f zero e =
          pick_same e (chosen own k) (some (own k).value)
          ∙ f (λ q b. elim (ℕ_discrete k q) [ yes x ↦ subst (λ (j : ℕ). (own j).wrote ≡ 0) x e | no x ↦ z q (omega arith) ])
      go f (suc i) e =
          let d = right.wrote.down k i e in
          pick_other (omega arith) (chosen own k) (some (own k).value)
          ∙ sym (highest_is (λ i. each i l) c i (own k).value n (low i d.1) (valued (λ i. i) ρ ops c n l t u k i e)
          (λ j (b : i < j). unwritten c (each j l) (λ w.
          let x = right.wrote.up j w in
          let y : ρ i ≤ ρ j = grows i j (omega arith) (low j w) in
          elim (ℕ_discrete (ρ j) k) [
            | yes p ↦ omega (arith, subst (λ (q : ℕ). j < (own q).wrote) p x)
            | no p ↦ omega (arith, d.0, z (ρ j) (omega (arith, d.0)))
          ])))

  idle : (k : ℕ) → ((i : ℕ) → i < n → ρ i < k) → (q : ℕ) → k ≤ q → (own q).wrote ≡ 0
  idle k h q b = go (own q).wrote refl
    where
      go : (m : ℕ) → (own q).wrote ≡ m → m ≡ 0
      go zero e = refl
      go (suc i) e = let d = right.wrote.down q i e in absurd (omega (arith, d.0, h i (low i d.1)))

  -- the processor's private value that the merge takes is the last write of the highest iteration that wrote; groups and processors as they may be
  pub chosen_right : (γ π : ℕ → ℕ) → ((i : ℕ) → π (γ i) ≡ ρ i) → (k : ℕ) → ((i : ℕ) → i < n → ρ i < k)
      → chosen (row γ π ops c l).own k ≡ highest (λ i. each i l) c n
  chosen_right γ π e k h =
      chosen_highest γ π ops c l k ∙ ap (λ (f : ℕ → ℕ). highest (λ p. only f p l) c k) (fun_ext e)
      ∙ sym (chosen_highest (λ i. i) ρ ops c l k) ∙ climb k (idle k h)
