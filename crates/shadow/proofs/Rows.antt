-- What the tables of a log hold of a cell: groups that wrote it or read it exposed, private values, partial results, and iterations that wrote or updated it.
use mathlib.Core.Path.{◌≡◌, refl, sym, ◌∙◌, ap, subst}
use mathlib.Core.Logic.{◌≢◌, inl, inr, ◌↔◌}
use mathlib.Core.List.{[], ◌∷◌}
use mathlib.Core.Bool.{true, false}
use mathlib.Core.Option.{some}
use Prim.Native.Nat.{ℕ, suc}
use native.Mathlib.Decide.{ℕ_discrete}
use native.Mathlib.Omega.{arith}
use lib.IntN.{ℤ}
use Rattle.rules.specs.ChooseLaws.{pick_same, pick_other, put_same, put_other}
use Rattle.rules.specs.Choose.{put}
use Rattle.rules.specs.Operation.{Operation}
use Rattle.rules.specs.Log.{Kind, reads, writes, updates, Access, access, iteration, Log, only, each, written, Has, newest, Exposed}
use Rattle.rules.specs.LogLaws.{only_same, only_other, written_newest, written_only_leaving, has_nil, exposed_nil}
use Rattle.rules.specs.Merge.{touches, add, total}
use Rattle.rules.proofs.SumLaws.{Within, within_tail, within_newest}
use Rattle.shadow.specs.Tables.{Own, Row, kept, noted, note, blank, tables}
use Rattle.shadow.proofs.Sets.{size_none, lowest_none, highest_none, Stamp, stamp_same, stamp_put, stamp_keep, put_keeps}
use Rattle.shadow.proofs.Change.{latest_tops, same_of, adds_of, has_leaves, exposed_leaves, touches_else, written_else}
use Rattle.shadow.specs.Orderly.{Latest, InTurn, turn_cons}
use Rattle.shadow.proofs.Judged.{Judged, judged_same, judged_noted, apart_ru, apart_wu}

module _ (γ π : ℕ → ℕ) where
  pub turn_newest : {e : Access} {l : Log} → InTurn γ π (e ∷ l) → Latest γ π (γ (iteration e)) l
  turn_newest (turn_cons h t) = h

  pub turn_tail : {e : Access} {l : Log} → InTurn γ π (e ∷ l) → InTurn γ π l
  turn_tail (turn_cons h t) = t

module _ (γ π : ℕ → ℕ) (ops : ℕ → Operation) (c : ℕ) where
  abbrev pub row : Log → Row
  row l = (tables γ π ops l).rows c

  abbrev pub after : Kind → ℕ → ℤ → Row → Row
  after k i v r = noted (ops c) k (π (γ i)) (γ i) i v r

  pub row_here : (k : Kind) (i : ℕ) (v : ℤ) (l : Log) → row (access k i c v ∷ l) ≡ after k i v (row l)
  unfolding tables note
  row_here k i v l = put_same refl (tables γ π ops l).rows (after k i v (row l))

  pub row_else : (k : Kind) (i d : ℕ) (v : ℤ) (l : Log) → d ≢ c → row (access k i d v ∷ l) ≡ row l
  unfolding tables note
  row_else k i d v l n = put_other n (tables γ π ops l).rows _

  row_start : row [] ≡ blank γ π ops c
  unfolding tables
  row_start = refl

  -- by induction: an access of c, and one of another cell
  module _ (P : Log → Row → Type 0) (start : P [] (blank γ π ops c))
      (here : (k : Kind) (i : ℕ) (v : ℤ) (l : Log) → P l (row l) → P (access k i c v ∷ l) (after k i v (row l)))
      (else : (k : Kind) (i d : ℕ) (v : ℤ) (l : Log) → d ≢ c → P l (row l) → P (access k i d v ∷ l) (row l)) where
    pub row_ind : (l : Log) → P l (row l)
    row_ind [] = subst (P []) (sym row_start) start
    row_ind (access k i d v ∷ l) = elim (ℕ_discrete d c) [
      | yes q ↦ subst (λ (x : ℕ). P (access k i x v ∷ l) (row (access k i x v ∷ l))) (sym q)
          (subst (P (access k i c v ∷ l)) (sym (row_here k i v l)) (here k i v l (row_ind l)))
      | no m ↦ subst (P (access k i d v ∷ l)) (sym (row_else k i d v l m)) (else k i d v l m (row_ind l))
    ]

  -- updated
  pub updated_right : (l : Log) → ((row l).updated ≡ true) ↔ Has updates c l
  updated_right = row_ind (λ l r. (r.updated ≡ true) ↔ Has updates c l)
      (λ (q : false ≡ true). absurd (let z : ◌≡◌ {A = ℕ} 0 1 = cc in omega arith), λ h. absurd (has_nil h))
      here
      (λ k i d v l m h. let f = has_leaves c updates l (λ (x : (k ≡ updates) × (d ≡ c)). m x.1) in (λ q. f.0 (h.0 q), λ x. h.1 (f.1 x)))
    where
      here : (k : Kind) (i : ℕ) (v : ℤ) (l : Log) → ((row l).updated ≡ true) ↔ Has updates c l
          → ((after k i v (row l)).updated ≡ true) ↔ Has updates c (access k i c v ∷ l)
      here reads i v l h = let f = has_leaves c updates l (λ (x : (reads ≡ updates) × (c ≡ c)). apart_ru x.0) in (λ q. f.0 (h.0 q), λ x. h.1 (f.1 x))
      here writes i v l h = let f = has_leaves c updates l (λ (x : (writes ≡ updates) × (c ≡ c)). apart_wu x.0) in (λ q. f.0 (h.0 q), λ x. h.1 (f.1 x))
      here updates i v l h = (λ q. newest, λ x. refl)

  -- the groups
  module _ (n : ℕ) where
    pub judged : (l : Log) → InTurn γ π l → Within γ n l → Judged γ π n c l (row l)
    unfolding only
    judged = row_ind (λ l r. InTurn γ π l → Within γ n l → Judged γ π n c l r)
        (λ t u. record {
          wrote = record { up = λ g x. absurd (has_nil x); down = λ p g (q : 0 ≡ suc g). absurd (omega arith) };
          exposed = record { up = λ g x. absurd (exposed_nil x); down = λ p g (q : 0 ≡ suc g). absurd (omega arith) };
          writers = size_none (λ g x. has_nil x) n;
          met = size_none (λ g x. elim x [ inl y ↦ has_nil y | inr y ↦ exposed_nil y ]) n;
          recorded = record { lowest = lowest_none (λ g x. has_nil x); highest = highest_none (λ g x. exposed_nil x) };
          crossed = (λ (q : false ≡ true). absurd (let z : ◌≡◌ {A = ℕ} 0 1 = cc in omega arith), λ (g, x, y). absurd (has_nil y));
        })
        (λ k i v l h t u. judged_noted γ π (ops c) n c l i v (row l) (within_newest γ n (access k i c v) l u) (turn_newest γ π t)
        (h (turn_tail γ π t) (within_tail γ n (access k i c v) l u)) k)
        (λ k i d v l m h t u. judged_same γ π n c (access k i d v) l
        (same_of γ (access k i d v) l (Has writes c) (has_leaves c writes (only γ (γ i) l) (λ x. m x.1)))
        (same_of γ (access k i d v) l (Exposed c) (exposed_leaves c (only γ (γ i) l) (λ x. m x.1.0)))
        (h (turn_tail γ π t) (within_tail γ n (access k i d v) l u)))

    -- the private value: what the highest group of the processor that wrote c wrote last
    abbrev pub Valued : Log → Row → Type 0
    Valued l r = (p g : ℕ) → (r.own p).wrote ≡ suc g → written c (only γ g l) ≡ some (r.own p).value

    pub valued : (l : Log) → InTurn γ π l → Within γ n l → Valued l (row l)
    unfolding written
    valued = row_ind (λ l r. InTurn γ π l → Within γ n l → Valued l r)
        (λ t u p g (q : 0 ≡ suc g). absurd (omega arith))
        (λ k i v l h t u. here k i v l (h (turn_tail γ π t) (within_tail γ n (access k i c v) l u))
        (judged l (turn_tail γ π t) (within_tail γ n (access k i c v) l u)))
        (λ k i d v l m h t u p g q. written_only_leaving γ c g (access k i d v) l (λ a. written_else c k i d v a m)
        ∙ h (turn_tail γ π t) (within_tail γ n (access k i d v) l u) p g q)
      where
        leaves : (k : Kind) (i : ℕ) (v : ℤ) (l : Log) → ((a : Log) → written c (access k i c v ∷ a) ≡ written c a) → (o : Own)
            → o.wrote ≡ ((row l).own (π (γ i))).wrote → o.value ≡ ((row l).own (π (γ i))).value
            → Valued l (row l) → (p g : ℕ) → (put (row l).own (π (γ i)) o p).wrote ≡ suc g
            → written c (only γ g (access k i c v ∷ l)) ≡ some (put (row l).own (π (γ i)) o p).value
        leaves k i v l f o a b h p g q =
            written_only_leaving γ c g (access k i c v) l f
            ∙ h p g (sym (put_keeps (λ (s : Own). s.wrote) (row l).own (π (γ i)) o a p) ∙ q)
            ∙ ap some (sym (put_keeps (λ (s : Own). s.value) (row l).own (π (γ i)) o b p))

        here : (k : Kind) (i : ℕ) (v : ℤ) (l : Log) → Valued l (row l) → Judged γ π n c l (row l) → Valued (access k i c v ∷ l) (after k i v (row l))
        here reads i v l h j p g q = leaves reads i v l (λ a. refl) (kept (ops c) reads (γ i) i v ((row l).own (π (γ i)))) refl refl h p g q
        here updates i v l h j p g q = leaves updates i v l (λ a. refl) (kept (ops c) updates (γ i) i v ((row l).own (π (γ i)))) refl refl h p g q
        here writes i v l h j p g q =
            let o = kept (ops c) writes (γ i) i v ((row l).own (π (γ i))) in
            elim (ℕ_discrete (π (γ i)) p) [
              | yes e ↦
                  let s = put_same e (row l).own o in
                  let z : γ i ≡ g = omega (arith, ap (λ (s : Own). s.wrote) s) in
                  ap (written c) (only_same γ (access writes i c v) z l) ∙ written_newest c i v (only γ g l) ∙ ap (λ (s : Own). some s.value) (sym s)
              | no m ↦
                  let s = put_other m (row l).own o in
                  let w : ((row l).own p).wrote ≡ suc g = sym (ap (λ (s : Own). s.wrote) s) ∙ q in
                  ap (written c) (only_other γ (access writes i c v) (λ (z : γ i ≡ g). m (ap π z ∙ (j.wrote.down p g w).0)) l) ∙ h p g w
                  ∙ ap (λ (s : Own). some s.value) (sym s)
            ]

  -- the iterations that wrote or updated c
  abbrev pub Touches : Log → ℕ → Type 0
  Touches l i = touches c (each i l) ≡ true

  pub touches_nil : (m : Log) → m ≡ [] → touches c m ≡ true → ⊥
  unfolding touches
  touches_nil m e q = let b : touches c m ≡ false = ap (touches c) e in let z : ◌≡◌ {A = ℕ} 0 1 = cc in omega arith

  pub touched_right : (l : Log) → InTurn (λ i. i) (λ i. π (γ i)) l → Stamp (λ i. π (γ i)) (Touches l) (λ p. ((row l).own p).touched)
  unfolding only touches
  touched_right = row_ind (λ l r. InTurn (λ i. i) (λ i. π (γ i)) l → Stamp (λ i. π (γ i)) (Touches l) (λ p. (r.own p).touched))
      (λ t. record { up = λ i x. absurd (touches_nil [] refl x); down = λ p i (q : 0 ≡ suc i). absurd (omega arith) })
      (λ k i v l h t. here k i v l (h (turn_tail (λ i. i) (λ i. π (γ i)) t)) (turn_newest (λ i. i) (λ i. π (γ i)) t))
      (λ k i d v l m h t. stamp_same (λ i. π (γ i)) (same_of (λ i. i) (access k i d v) l (λ a. touches c a ≡ true)
      (λ x. touches_else c k i d v (each i l) m ∙ x, λ x. sym (touches_else c k i d v (each i l) m) ∙ x)) (h (turn_tail (λ i. i) (λ i. π (γ i)) t)))
    where
      here : (k : Kind) (i : ℕ) (v : ℤ) (l : Log) → Stamp (λ i. π (γ i)) (Touches l) (λ p. ((row l).own p).touched) → Latest (λ i. i) (λ i. π (γ i)) i l
          → Stamp (λ i. π (γ i)) (Touches (access k i c v ∷ l)) (λ p. ((after k i v (row l)).own p).touched)
      here reads i v l h t = stamp_keep (λ i. π (γ i)) (λ (s : Own). s.touched) (row l).own
          (same_of (λ i. i) (access reads i c v) l (λ a. touches c a ≡ true) (λ x. x, λ x. x)) refl h
      here writes i v l h t = stamp_put (λ i. π (γ i)) (λ (s : Own). s.touched) (row l).own
          (adds_of (λ i. i) (access writes i c v) l (λ a. touches c a ≡ true) (λ x. pick_same refl true _) (pick_same refl true _))
          (latest_tops (λ i. i) (λ i. π (γ i)) (λ a. touches c a ≡ true) (touches_nil [] refl) i l t) refl h
      here updates i v l h t = stamp_put (λ i. π (γ i)) (λ (s : Own). s.touched) (row l).own
          (adds_of (λ i. i) (access updates i c v) l (λ a. touches c a ≡ true) (λ x. pick_same refl true _) (pick_same refl true _))
          (latest_tops (λ i. i) (λ i. π (γ i)) (λ a. touches c a ≡ true) (touches_nil [] refl) i l t) refl h

-- the partial results: what the processor's accesses add up to
module _ (γ π : ℕ → ℕ) (ops : ℕ → Operation) (c : ℕ) where
  abbrev proc : ℕ → ℕ
  proc i = π (γ i)

  abbrev Joined : Log → Row → Type 0
  Joined l r = (p : ℕ) → (r.own p).partial ≡ total (ops c) c (only proc p l)

  pub joined : (l : Log) → Joined l (row γ π ops c l)
  unfolding only total add
  joined = row_ind γ π ops c Joined (λ p. refl) here else
    where
      at : Log → Row
      at l = row γ π ops c l

      -- an access that adds nothing to c
      leaves : (e : Access) (l : Log) → ((x : ℤ) → add (ops c) c e x ≡ x) → (p : ℕ) → total (ops c) c (only proc p (e ∷ l)) ≡ total (ops c) c (only proc p l)
      leaves e l f p = elim (ℕ_discrete (proc (iteration e)) p) [
        | yes q ↦ ap (total (ops c) c) (only_same proc e q l) ∙ f (total (ops c) c (only proc p l))
        | no m ↦ ap (total (ops c) c) (only_other proc e m l)
      ]

      keeps : (e : Access) (l : Log) → ((x : ℤ) → add (ops c) c e x ≡ x) → (q : ℕ) (o : Own) → o.partial ≡ ((at l).own q).partial → Joined l (at l) → (p : ℕ)
          → (put (at l).own q o p).partial ≡ total (ops c) c (only proc p (e ∷ l))
      keeps e l f q o a h p = put_keeps (λ (s : Own). s.partial) (at l).own q o a p ∙ h p ∙ sym (leaves e l f p)

      here : (k : Kind) (i : ℕ) (v : ℤ) (l : Log) → Joined l (at l) → Joined (access k i c v ∷ l) (after γ π ops c k i v (at l))
      here reads i v l h p = keeps (access reads i c v) l (λ x. refl) (proc i) (kept (ops c) reads (γ i) i v ((at l).own (proc i))) refl h p
      here writes i v l h p = keeps (access writes i c v) l (λ x. refl) (proc i) (kept (ops c) writes (γ i) i v ((at l).own (proc i))) refl h p
      here updates i v l h p =
          let o = kept (ops c) updates (γ i) i v ((at l).own (proc i)) in
          elim (ℕ_discrete (proc i) p) [
            | yes q ↦
                ap (λ (s : Own). s.partial) (put_same q (at l).own o) ∙ ap ((ops c).join v) (h (proc i))
                ∙ ap (λ (j : ℕ). (ops c).join v (total (ops c) c (only proc j l))) q
                ∙ sym (pick_same refl ((ops c).join v (total (ops c) c (only proc p l))) (total (ops c) c (only proc p l)))
                ∙ ap (total (ops c) c) (sym (only_same proc (access updates i c v) q l))
            | no m ↦ ap (λ (s : Own). s.partial) (put_other m (at l).own o) ∙ h p ∙ ap (total (ops c) c) (sym (only_other proc (access updates i c v) m l))
          ]

      else : (k : Kind) (i d : ℕ) (v : ℤ) (l : Log) → d ≢ c → Joined l (at l) → Joined (access k i d v ∷ l) (at l)
      else k i d v l m h p = h p ∙ sym (leaves (access k i d v) l (go k) p)
        where
          go : (k : Kind) (x : ℤ) → add (ops c) c (access k i d v) x ≡ x
          go reads x = refl
          go writes x = refl
          go updates x = pick_other m ((ops c).join v x) x
