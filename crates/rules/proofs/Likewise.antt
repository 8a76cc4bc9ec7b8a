-- Serial runs that do the same, whatever they read on the way and whether they write or update: the same cells, the same outcome, and the same cells touched
-- by the same iterations, so the same write counts.
use mathlib.Core.Path.{◌≡◌, refl, sym, ◌∙◌, ap, subst₂}
use mathlib.Core.Bool.{Bool, true, false, cond}
use mathlib.Core.List.{List, [], ◌∷◌}
use Prim.Native.Nat.{ℕ, zero, suc}
use lib.Dec.{eqb}
use lib.IntN.{ℤ}
use Rattle.rules.specs.Choose.{pick, put}
use Rattle.rules.specs.Loop.{Act, read, write, update, fault, done, Loop, joining}
use Rattle.rules.specs.Log.{Kind, reads, writes, updates, access, Log, only, each}
use Rattle.rules.specs.Serial.{failed, Result, along, from, serial}
use Rattle.rules.specs.Merge.{touches, count}
use Rattle.rules.specs.Merge as merge

-- ---- what a log touches

-- iteration and cell of its writes and updates
abbrev marked : Kind → ℕ × ℕ → List (ℕ × ℕ) → List (ℕ × ℕ)
marked reads p ps = ps
marked writes p ps = p ∷ ps
marked updates p ps = p ∷ ps

unfoldable pub trace : Log → List (ℕ × ℕ)
trace [] = []
trace (access k i c v ∷ g) = marked k (i, c) (trace g)

unfoldable hits : ℕ → List (ℕ × ℕ) → Bool
hits c [] = false
hits c ((i, d) ∷ ps) = pick d c true (hits c ps)

unfoldable kept : ℕ → List (ℕ × ℕ) → List (ℕ × ℕ)
kept i [] = []
kept i ((j, c) ∷ ps) = pick j i ((j, c) ∷ kept i ps) (kept i ps)

touches_hits : (c : ℕ) (g : Log) → touches c g ≡ hits c (trace g)
unfolding touches hits trace
touches_hits c [] = refl
touches_hits c (access reads i d v ∷ g) = touches_hits c g
touches_hits c (access writes i d v ∷ g) = ap (pick d c true) (touches_hits c g)
touches_hits c (access updates i d v ∷ g) = ap (pick d c true) (touches_hits c g)

each_kept : (i : ℕ) (g : Log) → trace (each i g) ≡ kept i (trace g)
unfolding only trace kept pick
each_kept i [] = refl
each_kept i (access k j c v ∷ g) =
    here (eqb j i) ∙ ap (λ (ps : List (ℕ × ℕ)). cond (eqb j i) (marked k (j, c) ps) ps) (each_kept i g) ∙ there k
  where
    here : (b : Bool) → trace (cond b (access k j c v ∷ each i g) (each i g)) ≡ cond b (marked k (j, c) (trace (each i g))) (trace (each i g))
    here true = refl
    here false = refl

    there : (k : Kind) → cond (eqb j i) (marked k (j, c) (kept i (trace g))) (kept i (trace g)) ≡ kept i (marked k (j, c) (trace g))
    there reads = alone (eqb j i)
      where
        alone : (b : Bool) → cond b (kept i (trace g)) (kept i (trace g)) ≡ kept i (trace g)
        alone true = refl
        alone false = refl
    there writes = refl
    there updates = refl

-- the write counts go by it
module _ (g g' : Log) (e : trace g ≡ trace g') {n n' : ℕ} (same : n ≡ n') where
  pub traced_cells : count n (λ c. touches c g) ≡ count n' (λ c. touches c g')
  traced_cells = (λ i. count (same i) (λ c. (touches_hits c g ∙ ap (hits c) e ∙ sym (touches_hits c g')) i))

  each_same : (j c : ℕ) → touches c (each j g) ≡ touches c (each j g')
  each_same j c =
      touches_hits c (each j g) ∙ ap (hits c) (each_kept j g ∙ ap (kept j) e ∙ sym (each_kept j g')) ∙ sym (touches_hits c (each j g'))

  pub traced_pairs : (k : ℕ) → merge.sum k (λ j. count n (λ c. touches c (each j g))) ≡ merge.sum k (λ j. count n' (λ c. touches c (each j g')))
  traced_pairs k = ap (merge.sum k) (λ i j. count (same i) (λ c. each_same j c i))

-- ---- runs

pub record Likewise (r r' : Result) : Type 0 where
  pub cells : r.cells ≡ r'.cells
  pub traced : trace r.log ≡ trace r'.log
  pub outcome : r.outcome ≡ r'.outcome

abbrev Nexts : ((ℕ → ℤ) → Log → Result) → ((ℕ → ℤ) → Log → Result) → Type 0
Nexts next next' = (m : ℕ → ℤ) (g g' : Log) → trace g ≡ trace g' → Likewise (next m g) (next' m g')

-- what an iteration still does in two loops
unfoldable pub Like : Loop → Loop → Act → Act → Type 0
Like l l' a b =
    (m : ℕ → ℤ) (i : ℕ) (g g' : Log) → trace g ≡ trace g' → (next next' : (ℕ → ℤ) → Log → Result) → Nexts next next'
    → Likewise (along l i a m g next) (along l' i b m g' next')

-- ---- what is worked out over the cells m and then handed on: a value or a fault, and nothing is touched

pub record Gives {A : Type 0} (m : ℕ → ℤ) (F : (A → Act) → Act) (y : A) : Type 0 where
  log : ℕ → Log → Log
  quiet : (i : ℕ) (g : Log) → trace (log i g) ≡ trace g
  goes : (l : Loop) (i : ℕ) (g : Log) (k : A → Act) (next : (ℕ → ℤ) → Log → Result) → along l i (F k) m g next ≡ along l i (k y) m (log i g) next

abbrev ended : (ℕ → ℤ) → Log → ℕ → ℕ → ℕ → Result
ended m g n t i = record { cells = m; log = g; outcome = failed n t i }

pub record Fails {A : Type 0} (m : ℕ → ℤ) (F : (A → Act) → Act) (n t : ℕ) : Type 0 where
  log : ℕ → Log → Log
  quiet : (i : ℕ) (g : Log) → trace (log i g) ≡ trace g
  stops : (l : Loop) (i : ℕ) (g : Log) (k : A → Act) (next : (ℕ → ℤ) → Log → Result) → along l i (F k) m g next ≡ ended m (log i g) n t i

pub data Comes {A : Type 0} (m : ℕ → ℤ) (F : (A → Act) → Act) : Type 0 where
  gives : (y : A) → Gives m F y → Comes m F
  fails : (n t : ℕ) → Fails m F n t → Comes m F

module _ {A : Type 0} (m : ℕ → ℤ) where
  pub comes_value : (y : A) → Comes m (λ (k : A → Act). k y)
  comes_value y = gives y (record { log = λ i g. g; quiet = λ i g. refl; goes = λ l i g k next. refl })

  pub comes_fault : (n t : ℕ) → Comes m (λ (k : A → Act). fault n t)
  unfolding along
  comes_fault n t = fails n t (record { log = λ i g. g; quiet = λ i g. refl; stops = λ l i g k next. refl })

pub comes_read : (m : ℕ → ℤ) (c : ℕ) → Comes m (λ k. read c k)
unfolding along trace
comes_read m c = gives (m c) (record { log = λ i g. access reads i c (m c) ∷ g; quiet = λ i g. refl; goes = λ l i g k next. refl })

pub comes_then : {A B : Type 0} {m : ℕ → ℤ} {F : (A → Act) → Act} {G : A → (B → Act) → Act} → Comes m F → ((y : A) → Comes m (G y))
    → Comes m (λ k. F (λ y. G y k))
comes_then {B} {m} {F} {G} (fails n t f) h = fails n t (record { log = f.log; quiet = f.quiet; stops = λ l i g k next. f.stops l i g (λ y. G y k) next })
comes_then {B} {m} {F} {G} (gives y f) h = go (h y)
  where
    go : Comes m (G y) → Comes m (λ (k : B → Act). F (λ y. G y k))
    go (gives z q) = gives z (record {
      log = λ i g. q.log i (f.log i g);
      quiet = λ i g. q.quiet i (f.log i g) ∙ f.quiet i g;
      goes = λ l i g k next. f.goes l i g (λ y. G y k) next ∙ q.goes l i (f.log i g) k next;
    })
    go (fails n t q) = fails n t (record {
      log = λ i g. q.log i (f.log i g);
      quiet = λ i g. q.quiet i (f.log i g) ∙ f.quiet i g;
      stops = λ l i g k next. f.goes l i g (λ y. G y k) next ∙ q.stops l i (f.log i g) k next;
    })

-- ---- accesses

module _ (l l' : Loop) where
  pub like_done : Like l l' done done
  unfolding Like along
  like_done m i g g' e next next' n = n m g g' e

  pub like_write : (c : ℕ) (y : ℤ) (a b : Act) → Like l l' a b → Like l l' (write c y a) (write c y b)
  unfolding Like along trace
  like_write c y a b h m i g g' e next next' n = h (put m c y) i _ _ (ap (λ (ps : List (ℕ × ℕ)). (i, c) ∷ ps) e) next next' n

  pub like_comes : {A : Type 0} (F : (A → Act) → Act) → ((m : ℕ → ℤ) → Comes m F) → (K K' : A → Act) → ((y : A) → Like l l' (K y) (K' y))
      → Like l l' (F K) (F K')
  unfolding Like
  like_comes {A} F w K K' h m i g g' e next next' n = go (w m)
    where
      go : Comes m F → Likewise (along l i (F K) m g next) (along l' i (F K') m g' next')
      go (gives y f) = subst₂ Likewise (sym (f.goes l i g K next)) (sym (f.goes l' i g' K' next'))
          (h y m i _ _ (f.quiet i g ∙ e ∙ sym (f.quiet i g')) next next' n)
      go (fails n₁ t f) = subst₂ Likewise (sym (f.stops l i g K next)) (sym (f.stops l' i g' K' next'))
          (record { cells = refl; traced = f.quiet i g ∙ e ∙ sym (f.quiet i g'); outcome = refl })

  -- an update of the cell that W comes to by what E comes to, and that cell read, E joined to it, and W worked out again for the write
  pub like_update : (W : (ℕ → Act) → Act) (E : (ℤ → Act) → Act) → ((m : ℕ → ℤ) → Comes m W) → ((m : ℕ → ℤ) → Comes m E) → (a b : Act) → Like l l' a b
      → Like l l' (W (λ c. E (λ y. update c y a))) (W (λ c. read c (λ x. E (λ y. W (λ d. write d ((joining l c).join x y) b)))))
  unfolding Like along trace
  like_update W E w v a b h m i g g' e next next' n = go (w m) (v m)
    where
      K : ℕ → Act
      K c = E (λ y. update c y a)

      K' : ℕ → Act
      K' c = read c (λ x. E (λ y. W (λ d. write d ((joining l c).join x y) b)))

      go : Comes m W → Comes m E → Likewise (along l i (W K) m g next) (along l' i (W K') m g' next')
      go (fails n₁ t f) q = subst₂ Likewise (sym (f.stops l i g K next)) (sym (f.stops l' i g' K' next'))
          (record { cells = refl; traced = f.quiet i g ∙ e ∙ sym (f.quiet i g'); outcome = refl })
      go (gives c f) (fails n₁ t q) = subst₂ Likewise
          (sym (f.goes l i g K next ∙ q.stops l i (f.log i g) _ next))
          (sym (f.goes l' i g' K' next' ∙ q.stops l' i (access reads i c (m c) ∷ f.log i g') _ next'))
          (record { cells = refl; traced = q.quiet i _ ∙ f.quiet i g ∙ e ∙ sym (f.quiet i g') ∙ sym (q.quiet i _); outcome = refl })
      go (gives c f) (gives y q) = subst₂ Likewise
          (sym (f.goes l i g K next ∙ q.goes l i (f.log i g) _ next))
          (sym (f.goes l' i g' K' next' ∙ q.goes l' i (access reads i c (m c) ∷ f.log i g') _ next' ∙ f.goes l' i _ _ next'))
          (h (put m c ((joining l c).join (m c) y)) i _ _
          (ap (λ (ps : List (ℕ × ℕ)). (i, c) ∷ ps) (q.quiet i _ ∙ f.quiet i g ∙ e ∙ sym (f.quiet i g') ∙ sym (q.quiet i _) ∙ sym (f.quiet i _)))
          next next' n)

  -- ---- loops

  module _ (h : (i : ℕ) → Like l l' (l.body i) (l'.body i)) where
    like_from : (k i : ℕ) (m : ℕ → ℤ) (g g' : Log) → trace g ≡ trace g' → Likewise (from l k i m g) (from l' k i m g')
    unfolding from Like
    like_from zero i m g g' e = record { cells = refl; traced = e; outcome = refl }
    like_from (suc k) i m g g' e = h i m i g g' e _ _ (λ m g g' e. like_from k (suc i) m g g' e)

    pub like_serial : l.iterations ≡ l'.iterations → l.entry ≡ l'.entry → Likewise (serial l) (serial l')
    unfolding serial
    like_serial p q = subst₂ (λ (k : ℕ) (m : ℕ → ℤ). Likewise (serial l) (from l' k 0 m [])) p q (like_from l.iterations 0 l.entry [] [] refl)
