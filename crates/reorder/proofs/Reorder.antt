-- Whole iterations in another order: no fault, the same cells, the same accesses, if each dependent pair keeps its order. An iteration is any function
-- on cells that is `Local`. The argument: at every moment each cell stands as before iteration t, wherever the iterations run so far that change it are
-- those below t.
use mathlib.Core.Path.{◌≡◌, refl, sym, ◌∙◌, ap, subst, fun_ext}
use mathlib.Core.Logic.{inl, inr, ◌↔◌}
use mathlib.Core.List.{List, [], ◌∷◌, ◌++◌, append-nil}
use Prim.Native.Nat.{ℕ, zero, suc, ◌+◌, ◌<◌, ◌≤◌}
use native.Mathlib.Decide.{ℕ_discrete, dec_lt}
use native.Mathlib.Omega.{arith}
use lib.IntN.{ℤ}
use Rattle.rules.specs.Log.{Log, only, each}
use Rattle.rules.specs.Serial.{Outcome, finished, failed, Result}
use Rattle.reorder.specs.Orders.{In, at, after, Order, Respects, range}
use Rattle.reorder.specs.Depends.{Touches, Changes, Meet, changes_touches, changes?}
use Rattle.reorder.specs.Whole.{joined, followed, in_order, Agrees}
use Rattle.reorder.proofs.OrderLaws.{in_nil, in_cases, Keeps, keeps_nil, keeps_cons, keeps, range_before, range_order}
use Rattle.reorder.proofs.EachLaws.{of_each, of_other, each_append}
use Rattle.reorder.proofs.Local.{Same, Local}

followed_finished : (r : Result) (next : (ℕ → ℤ) → Result) → r.outcome ≡ finished
    → followed r next ≡ record { cells = (next r.cells).cells; log = (next r.cells).log ++ r.log; outcome = (next r.cells).outcome }
unfolding followed joined
followed_finished r next h = ap (λ (o : Outcome). joined o r (next r.cells)) h

-- a run that goes on to its end has met no fault before
finished_first : (r : Result) (next : (ℕ → ℤ) → Result) → (followed r next).outcome ≡ finished → r.outcome ≡ finished
unfolding followed joined
finished_first r next h = go r.outcome refl h
  where
    go : (o : Outcome) → r.outcome ≡ o → (joined o r (next r.cells)).outcome ≡ finished → r.outcome ≡ finished
    go finished e h = e
    go (failed a b i) e h = h

module _ (t : ℕ → (ℕ → ℤ) → Result) (n : ℕ) (entry : ℕ → ℤ) (law : (i : ℕ) → i < n → Local i (t i)) where
  -- the cells before iteration i in the order of the numbers, as long as there is no fault
  cells_at : ℕ → ℕ → ℤ
  cells_at zero = entry
  cells_at (suc i) = (t i (cells_at i)).cells

  -- iteration i in that order
  own : ℕ → Result
  own i = t i (cells_at i)

  own_frame : (i c : ℕ) → i < n → ¬ Changes c (own i).log → cells_at (suc i) c ≡ cells_at i c
  unfolding own cells_at
  own_frame i c y h = (law i y).frame (cells_at i) c h

  -- a cell that no iteration from s up to below e changes
  steady : (c s e : ℕ) → s ≤ e → e ≤ n → ((j : ℕ) → s ≤ j → j < e → ¬ Changes c (own j).log) → cells_at e c ≡ cells_at s c
  steady c s zero x y h = ap (λ (k : ℕ). cells_at k c) (let e : 0 ≡ s = omega arith in e)
  steady c s (suc e) x y h = elim (dec_lt e s) [
    | yes z ↦ ap (λ (k : ℕ). cells_at k c) (let q : suc e ≡ s = omega arith in q)
    | no z ↦ own_frame e c y (h e (omega arith) (omega arith)) ∙ steady c s e (omega arith) (omega arith) (λ j a b. h j a (omega arith))
  ]

  abbrev Dep : ℕ → ℕ → Type 0
  Dep i j = Meet (own i).log (own j).log

  -- what has been run, all but r, comes before no lower iteration of r that it depends on
  abbrev Closed : List ℕ → Type 0
  Closed r = (j k : ℕ) → j < n → ¬ In j r → In k r → k < j → ¬ Dep k j

  -- if the iterations run so far that change c are those below e, then c stands as before e
  abbrev Stands : List ℕ → (ℕ → ℤ) → Type 0
  Stands r m = (c e : ℕ) → e ≤ n → ((j : ℕ) → j < n → Changes c (own j).log → (j < e) ↔ (¬ In j r)) → m c ≡ cells_at e c

  module _ (i : ℕ) (r : List ℕ) (m : ℕ → ℤ) (y : i < n) (h : (j : ℕ) → j < i → In j r → ¬ Dep j i) (out : ¬ In i r)
      (closed : Closed (i ∷ r)) (stands : Stands (i ∷ r) m) where
    touched : (c : ℕ) → Touches c (own i).log → m c ≡ cells_at i c
    touched c x = stands c i (omega arith) (λ j z w. (
      λ b q. elim (in_cases q) [ inl p ↦ omega arith | inr u ↦ h j b u (record { cell = c; left = changes_touches w; right = x; change = inl w }) ],
      λ b. elim (dec_lt j i) [
        | yes d ↦ d
        | no d ↦ elim (ℕ_discrete j i) [
          | yes p ↦ absurd (b (rw p at))
          | no p ↦ absurd (closed j i z b at (omega arith) (record { cell = c; left = x; right = changes_touches w; change = inr w }))
        ]
      ],
    ))

    -- it does what it does in the order of the numbers
    here : Same (own i) (t i m)
    unfolding own
    here = (law i y).same (cells_at i) m touched

    closed_next : Closed r
    closed_next j k z x u v = elim (ℕ_discrete j i) [
      | yes p ↦ rw p (h k (omega arith) u)
      | no p ↦ closed j k z (λ q. elim (in_cases q) [ inl e ↦ p e | inr w ↦ x w ]) (after u) v
    ]

    stands_next : Stands r (t i m).cells
    unfolding own cells_at
    stands_next c e z f = elim (changes? c (own i).log) [
      | yes w ↦
          here.cells c (changes_touches w)
          ∙ sym (steady c (suc i) e ((f i y w).1 out) z (λ j a b v. closed j i (omega arith)
          (λ q. elim (in_cases q) [ inl p ↦ omega arith | inr u ↦ (f j (omega arith) v).0 b u ])
          at (omega arith) (record { cell = c; left = changes_touches w; right = changes_touches v; change = inl w })))
      | no w ↦ (law i y).frame m c (λ v. w (rw here.log at v)) ∙ stands c e z (λ j a v. (
        λ b q. elim (in_cases q) [ inl p ↦ w (rw p at v) | inr u ↦ (f j a v).0 b u ],
        λ x. (f j a v).1 (λ u. x (after u)),
      ))
    ]

  record Ends (r : List ℕ) (s : Result) : Type 0 where
    outcome : s.outcome ≡ finished
    cells : (c : ℕ) → s.cells c ≡ cells_at n c
    mine : (j : ℕ) → In j r → each j s.log ≡ (own j).log
    others : (j : ℕ) → ¬ In j r → each j s.log ≡ []

  module _ (fine : (j : ℕ) → j < n → (own j).outcome ≡ finished) where
    ends : (r : List ℕ) (m : ℕ → ℤ) → Keeps Dep r → ((j : ℕ) → In j r → j < n) → Closed r → Stands r m → Ends r (in_order t r m)
    unfolding in_order only
    ends [] m keeps_nil small closed stands = record {
      outcome = refl;
      cells = λ c. stands c n (omega arith) (λ j y w. (λ b. in_nil, λ b. y));
      mine = λ j h. absurd (in_nil h);
      others = λ j h. refl;
    }
    ends (i ∷ r) m (keeps_cons h out ks) small closed stands = step (small i at)
        (ends r (t i m).cells ks (λ j u. small j (after u)) (closed_next i r m (small i at) h out closed stands)
        (stands_next i r m (small i at) h out closed stands))
      where
        step : i < n → Ends r (in_order t r (t i m).cells) → Ends (i ∷ r) (followed (t i m) (in_order t r))
        step y e = rw (followed_finished (t i m) (in_order t r) (a.outcome ∙ fine i y)) (record {
          outcome = e.outcome;
          cells = e.cells;
          mine = λ j u. elim (ℕ_discrete i j) [
            | yes p ↦ rw (← p)
                (each_append i rest (t i m).log ∙ ap (λ (g : Log). g ++ each i (t i m).log) (e.others i out) ∙ of_each ((law i y).own m) ∙ a.log)
            | no p ↦ elsewhere j p ∙ e.mine j (elim (in_cases u) [ inl q ↦ absurd (p (sym q)) | inr v ↦ v ])
          ];
          others = λ j u. elsewhere j (λ p. u (rw p at)) ∙ e.others j (λ v. u (after v));
        })
          where
            a : Same (own i) (t i m)
            a = here i r m y h out closed stands

            rest : Log
            rest = (in_order t r (t i m).cells).log

            elsewhere : (j : ℕ) → ¬ (i ≡ j) → each j (rest ++ (t i m).log) ≡ each j rest
            elsewhere j p =
                each_append j rest (t i m).log ∙ ap (λ (g : Log). each j rest ++ g) (of_other p ((law i y).own m)) ∙ append-nil (each j rest)

    -- the whole of an order
    all : (o : List ℕ) → Order n o → Keeps Dep o → Ends o (in_order t o entry)
    unfolding cells_at
    all o q k = ends o entry k q.small (λ j i y u. absurd (u (q.has j y)))
        (λ c e y f. sym (steady c 0 e (omega arith) y (λ j a b w. (f j (omega arith) w).0 b (q.has j (omega arith)))))

  -- ---- the order of the numbers

  -- the run in the order of the numbers
  abbrev natural : Result
  natural = in_order t (range n 0) entry

  fine_from : (k i : ℕ) → (in_order t (range k i) (cells_at i)).outcome ≡ finished → (j : ℕ) → i ≤ j → j < i + k → (own j).outcome ≡ finished
  unfolding in_order range own cells_at
  fine_from zero i h j x y = absurd (omega arith)
  fine_from (suc k) i h j x y = go (ℕ_discrete i j) (fine_from k (suc i))
    where
      well : (own i).outcome ≡ finished
      well = finished_first (own i) (in_order t (range k (suc i))) h

      go : Dec (i ≡ j)
          → ((in_order t (range k (suc i)) (cells_at (suc i))).outcome ≡ finished → (j : ℕ) → suc i ≤ j → j < suc i + k → (own j).outcome ≡ finished)
          → (own j).outcome ≡ finished
      go (yes p) ih = subst (λ (x : ℕ). (own x).outcome ≡ finished) p well
      go (no p) ih =
          ih (ap (λ (r : Result). r.outcome) (sym (followed_finished (own i) (in_order t (range k (suc i))) well)) ∙ h) j (omega arith) (omega arith)

  module _ (f : natural.outcome ≡ finished) where
    fine : (j : ℕ) → j < n → (own j).outcome ≡ finished
    unfolding cells_at
    fine j y = fine_from n 0 f j (omega arith) (omega arith)

    natural_ends : Ends (range n 0) natural
    natural_ends = all fine (range n 0) (range_order n) (keeps Dep (range_order n).once (λ i j x a b d. range_before n 0 i j x a b))

    natural_log : (i : ℕ) → i < n → each i natural.log ≡ (own i).log
    natural_log i y = natural_ends.mine i ((range_order n).has i y)

    -- no iteration from n on has an access
    natural_beyond : (i : ℕ) → n ≤ i → each i natural.log ≡ []
    natural_beyond i y = natural_ends.others i (λ h. omega (arith, (range_order n).small i h))

    pub reorder : (o : List ℕ) → Respects n natural.log o → Agrees natural (in_order t o entry)
    reorder o q = record {
      outcome = e.outcome;
      cells = fun_ext (λ c. e.cells c ∙ sym (natural_ends.cells c));
      log = λ i. elim (dec_lt i n) [
        | yes y ↦ e.mine i (q.order.has i y) ∙ sym (natural_log i y)
        | no y ↦ e.others i (λ h. y (q.order.small i h)) ∙ sym (natural_beyond i (omega arith))
      ];
    }
      where
        e : Ends o (in_order t o entry)
        e = all fine o q.order (keeps Dep q.order.once
            (λ i j x a b d. q.keeps i j x (q.order.small j b) (rw (natural_log i (q.order.small i a), natural_log j (q.order.small j b)) d)))
