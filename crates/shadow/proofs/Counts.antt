-- The two counters of the tables are the write counts of the log.
use mathlib.Core.Path.{◌≡◌, refl, sym, ◌∙◌, ap, fun_ext}
use mathlib.Core.Logic.{◌≢◌, ◌⊎◌, inl, inr, ◌↔◌}
use mathlib.Core.List.{[], ◌∷◌}
use mathlib.Core.Bool.{Bool, true, false, cond}
use Prim.Native.Nat.{ℕ, zero, suc, ◌≤◌, ◌<◌}
use native.Mathlib.Decide.{ℕ_discrete}
use native.Mathlib.Omega.{arith}
use lib.IntN.{ℤ}
use Rattle.rules.specs.Choose.{pick}
use Rattle.rules.specs.ChooseLaws.{pick_same, pick_other}
use Rattle.rules.specs.Loop.{Loop, joining}
use Rattle.rules.specs.Log.{Kind, reads, writes, updates, access, Log, each, only, Has}
use Rattle.rules.specs.LogLaws.{only_same, only_other, has_only, has_all}
use Rattle.rules.specs.Merge.{touches, count, sum, pairs, written_cells}
use Rattle.rules.proofs.TouchLaws.{touch_of, touches_write, touches_update}
use Rattle.rules.proofs.SumLaws.{Within, within_tail}
use Rattle.shadow.specs.Tables.{Tables, tables, note}
use Rattle.shadow.proofs.Sets.{stamp_has}
use Rattle.shadow.proofs.Change.{latest_tops, touches_else}
use Rattle.shadow.specs.Orderly.{Inside, inside_nil, inside_cons, InTurn}
use Rattle.shadow.proofs.Rows.{turn_newest, turn_tail, touched_right, touches_nil}
use Rattle.shadow.proofs.ReadOff.{mark1_right, mark8_right}

count_flip : (k c : ℕ) (f f' : ℕ → Bool) → c < k → f c ≡ false → f' c ≡ true → ((d : ℕ) → c ≢ d → f' d ≡ f d) → count k f' ≡ suc (count k f)
unfolding count
count_flip zero c f f' b p q h = absurd (omega arith)
count_flip (suc k) c f f' b p q h = elim (ℕ_discrete c k) [
  | yes e ↦
      let p' : f k ≡ false = ap f (sym e) ∙ p in
      let q' : f' k ≡ true = ap f' (sym e) ∙ q in
      rw (p', q') (omega (arith, same k c f f' (omega arith) h))
  | no m ↦ rw (h k m) (omega (arith, count_flip k c f f' (omega arith) p q h))
]
  where
    same : (k c : ℕ) (f f' : ℕ → Bool) → k ≤ c → ((d : ℕ) → c ≢ d → f' d ≡ f d) → count k f' ≡ count k f
    same zero c f f' b h = refl
    same (suc k) c f f' b h = cc (h k (omega arith), same k c f f' (omega arith) h)

sum_bump : (n i : ℕ) (f f' : ℕ → ℕ) → i < n → f' i ≡ suc (f i) → ((j : ℕ) → i ≢ j → f' j ≡ f j) → sum n f' ≡ suc (sum n f)
unfolding sum
sum_bump zero i f f' b p h = absurd (omega arith)
sum_bump (suc n) i f f' b p h = elim (ℕ_discrete i n) [
  | yes e ↦ omega (arith, ap f e, ap f' e, same n i f f' (omega arith) h)
  | no m ↦ omega (arith, h n m, sum_bump n i f f' (omega arith) p h)
]
  where
    same : (n i : ℕ) (f f' : ℕ → ℕ) → n ≤ i → ((j : ℕ) → i ≢ j → f' j ≡ f j) → sum n f' ≡ sum n f
    same zero i f f' b h = refl
    same (suc n) i f f' b h = omega (arith, h n (omega arith), same n i f f' (omega arith) h)

count_none : (k : ℕ) (f : ℕ → Bool) → ((d : ℕ) → f d ≡ false) → count k f ≡ 0
unfolding count
count_none zero f h = refl
count_none (suc k) f h = rw (h k) (omega (arith, count_none k f h))

sum_none : (n : ℕ) (f : ℕ → ℕ) → ((j : ℕ) → f j ≡ 0) → sum n f ≡ 0
unfolding sum
sum_none zero f h = refl
sum_none (suc n) f h = omega (arith, h n, sum_none n f h)

not_true : (b : Bool) → ¬ (b ≡ true) → b ≡ false
not_true true n = absurd (n refl)
not_true false n = refl

-- a kind of access that counts
abbrev Counts : Kind → Type 0
Counts k = (c i : ℕ) (v : ℤ) (m : Log) → touches c (access k i c v ∷ m) ≡ true

counts_writes : Counts writes
unfolding touches
counts_writes c i v m = pick_same refl true (touches c m)

counts_updates : Counts updates
unfolding touches
counts_updates c i v m = pick_same refl true (touches c m)

module _ (l : Log) (k : Kind) (i c : ℕ) (v : ℤ) where
  each_else : (j d : ℕ) → (i ≢ j) ⊎ (c ≢ d) → touches d (each j (access k i c v ∷ l)) ≡ touches d (each j l)
  each_else j d x = elim (ℕ_discrete i j) [
    | no m ↦ ap (touches d) (only_other (λ a. a) (access k i c v) m l)
    | yes e ↦ ap (touches d) (only_same (λ a. a) (access k i c v) e l) ∙ touches_else d k i c v (each j l) (elim x [ inl y ↦ absurd (y e) | inr y ↦ y ])
  ]

  each_here : Counts k → touches c (each i (access k i c v ∷ l)) ≡ true
  each_here f = ap (touches c) (only_same (λ a. a) (access k i c v) refl l) ∙ f c i v (each i l)

  -- counted before
  each_again : Counts k → touches c (each i l) ≡ true → (j d : ℕ) → touches d (each j (access k i c v ∷ l)) ≡ touches d (each j l)
  each_again f q j d = elim (ℕ_discrete i j) [
    | no m ↦ each_else j d (inl m)
    | yes e ↦ elim (ℕ_discrete c d) [ no m ↦ each_else j d (inr m) | yes p ↦ rw (← e, ← p) (each_here f ∙ sym q) ]
  ]

each_read : (l : Log) (i c : ℕ) (v : ℤ) (j d : ℕ) → touches d (each j (access reads i c v ∷ l)) ≡ touches d (each j l)
unfolding touches
each_read l i c v j d = elim (ℕ_discrete i j) [
  | no m ↦ ap (touches d) (only_other (λ a. a) (access reads i c v) m l)
  | yes e ↦ ap (touches d) (only_same (λ a. a) (access reads i c v) e l)
]

module _ (L : Loop) (γ π : ℕ → ℕ) where
  abbrev proc : ℕ → ℕ
  proc i = π (γ i)

  pairs_same : (l m : Log) → ((j d : ℕ) → touches d (each j m) ≡ touches d (each j l)) → pairs L m ≡ pairs L l
  unfolding pairs
  pairs_same l m h = ap (sum L.iterations) (fun_ext (λ j. ap (count L.size) (fun_ext (λ d. h j d))))

  pairs_more : (l : Log) (k : Kind) (i c : ℕ) (v : ℤ) → Counts k → i < L.iterations → c < L.size → touches c (each i l) ≡ false
      → pairs L (access k i c v ∷ l) ≡ suc (pairs L l)
  unfolding pairs
  pairs_more l k i c v f a b q = sum_bump L.iterations i _ _ a
      (count_flip L.size c (λ d. touches d (each i l)) (λ d. touches d (each i (access k i c v ∷ l))) b q (each_here l k i c v f)
      (λ d m. each_else l k i c v i d (inr m)))
      (λ j m. ap (count L.size) (fun_ext (λ d. each_else l k i c v j d (inl m))))

  abbrev all : Log → Tables
  all l = tables γ π (joining L) l

  -- an access that counts
  paired_right : (l : Log) (k : Kind) (i c : ℕ) (v : ℤ) → Counts k → i < L.iterations → c < L.size → InTurn (λ i. i) proc (access k i c v ∷ l)
      → (all l).pairs ≡ pairs L l
      → pick (((all l).rows c).own (proc i)).touched (suc i) (all l).pairs (suc (all l).pairs) ≡ pairs L (access k i c v ∷ l)
  paired_right l k i c v f a b t h =
      let s = touched_right γ π (joining L) c l (turn_tail (λ i. i) proc t) in
      elim (ℕ_discrete (((all l).rows c).own (proc i)).touched (suc i)) [
        | yes p ↦
            pick_same p (all l).pairs (suc (all l).pairs) ∙ h
            ∙ sym (pairs_same l (access k i c v ∷ l) (each_again l k i c v f (s.down (proc i) i p).1))
        | no p ↦ pick_other p (all l).pairs (suc (all l).pairs) ∙ ap suc h ∙ sym (pairs_more l k i c v f a b (not_true (touches c (each i l))
            (λ q. p (stamp_has proc s
            (latest_tops (λ i. i) proc (λ m. touches c m ≡ true) (touches_nil γ π (joining L) c [] refl) i l
            (turn_newest (λ i. i) proc t))
            q))))
      ]

  pub pairs_right : (l : Log) → Inside L.iterations L.size l → InTurn (λ i. i) proc l → (all l).pairs ≡ pairs L l
  unfolding tables note pairs only touches
  pairs_right [] inside_nil t = sym (sum_none L.iterations _ (λ j. count_none L.size _ (λ d. refl)))
  pairs_right (access reads i c v ∷ l) (inside_cons a b x) t =
      pairs_right l x (turn_tail (λ i. i) proc t) ∙ sym (pairs_same l (access reads i c v ∷ l) (each_read l i c v))
  pairs_right (access writes i c v ∷ l) (inside_cons a b x) t = paired_right l writes i c v counts_writes a b t (pairs_right l x (turn_tail (λ i. i) proc t))
  pairs_right (access updates i c v ∷ l) (inside_cons a b x) t = paired_right l updates i c v counts_updates a b t (pairs_right l x (turn_tail (λ i. i) proc t))

  -- the cells
  module _ (n : ℕ) where
    again : (l : Log) (k : Kind) (i c : ℕ) (v : ℤ) → Counts k → touches c l ≡ true → written_cells L (access k i c v ∷ l) ≡ written_cells L l
    unfolding written_cells
    again l k i c v f q = ap (count L.size)
        (fun_ext (λ d. elim (ℕ_discrete c d) [ yes e ↦ rw (← e) (f c i v l ∙ sym q) | no m ↦ touches_else d k i c v l m ]))

    celled_right : (l : Log) (k : Kind) (i c : ℕ) (v : ℤ) → Counts k → c < L.size → InTurn γ π l → Within γ n l → (m : ℕ) → m ≡ written_cells L l
        → cond ((all l).rows c).updated m (pick ((all l).rows c).writers 0 (suc m) m) ≡ written_cells L (access k i c v ∷ l)
    unfolding written_cells
    celled_right l k i c v f b t u m h = go ((all l).rows c).updated refl
      where
        m1 : (0 < ((all l).rows c).writers) ↔ ((g : ℕ) × Has writes c (only γ g l))
        m1 = mark1_right γ π (joining L) n c l t u

        m8 : (((all l).rows c).updated ≡ true) ↔ Has updates c l
        m8 = mark8_right γ π (joining L) n c l t u

        go : (x : Bool) → ((all l).rows c).updated ≡ x → cond x m (pick ((all l).rows c).writers 0 (suc m) m) ≡ written_cells L (access k i c v ∷ l)
        go true q = h ∙ sym (again l k i c v f (touches_update (m8.0 q)))
        go false q = elim (ℕ_discrete ((all l).rows c).writers 0) [
          | yes z ↦ pick_same z (suc m) m ∙ ap suc h ∙ sym (count_flip L.size c (λ d. touches d l) (λ d. touches d (access k i c v ∷ l)) b
              (not_true (touches c l) (λ y. elim (touch_of c l y) [
                | inl w ↦ omega (arith, m1.1 (has_only γ w))
                | inr w ↦ let a = m8.1 w in let z : ◌≡◌ {A = ℕ} 0 1 = cc in omega arith
              ])) (f c i v l) (λ d x. touches_else d k i c v l x))
          | no z ↦ pick_other z (suc m) m ∙ h ∙ sym (again l k i c v f (let w = m1.0 (omega arith) in touches_write (has_all γ w.0 l w.1)))
        ]

    pub cells_right : (l : Log) → Inside L.iterations L.size l → InTurn γ π l → Within γ n l → (all l).cells ≡ written_cells L l
    unfolding tables note written_cells touches
    cells_right [] inside_nil t u = sym (count_none L.size _ (λ d. refl))
    cells_right (access reads i c v ∷ l) (inside_cons a b x) t u = cells_right l x (turn_tail γ π t) (within_tail γ n (access reads i c v) l u)
    cells_right (access writes i c v ∷ l) (inside_cons a b x) t u =
        let t' = turn_tail γ π t in
        let u' = within_tail γ n (access writes i c v) l u in
        celled_right l writes i c v counts_writes b t' u' (all l).cells (cells_right l x t' u')
    cells_right (access updates i c v ∷ l) (inside_cons a b x) t u =
        let t' = turn_tail γ π t in
        let u' = within_tail γ n (access updates i c v) l u in
        celled_right l updates i c v counts_updates b t' u' (all l).cells (cells_right l x t' u')
