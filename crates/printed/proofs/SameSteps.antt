-- Loops that do the same but for the lines of faults look the same after the steps of any schedule.
use mathlib.Core.Path.{◌≡◌, refl, sym, ◌∙◌, ap, subst}
use mathlib.Core.Bool.{Bool, true, false, cond}
use mathlib.Core.List.{List, [], ◌∷◌}
use mathlib.Core.Option.{get_or}
use Prim.Native.Nat.{ℕ, suc}
use lib.Dec.{eqb, ltb}
use lib.IntN.{ℤ}
use Rattle.rules.specs.Choose.{pick, below, put}
use Rattle.rules.specs.declared.Class.{Class}
use Rattle.rules.specs.declared.Class.TheVariants.{Shared as shared, Lastprivate as lastprivate, Copied as copied, Reduction as reduction}
use Rattle.rules.specs.Loop.{Act, Loop, Partition, bound}
use Rattle.rules.specs.Log.{reads, writes, updates, Access, access, only, written}
use Rattle.rules.specs.Marks.{marks}
use Rattle.rules.specs.Steps.{Place, State, opening, stored, moved, given, go_on, step, steps, start}
use Rattle.rules.specs.Answer.{viewed, look}
use Rattle.printed.specs.Restated.{SameTree, SameLoop}
use Rattle.printed.specs.Restated as restated

-- records of a processor that differ only in the lines of faults to come
pub record SamePlace (x y : Place) : Type 0 where
  pub at : y.at ≡ x.at
  pub act : SameTree x.act y.act

pub record SameState (s t : State) : Type 0 where
  pub cells : t.cells ≡ s.cells
  pub log : t.log ≡ s.log
  pub places : (p : ℕ) → SamePlace (s.places p) (t.places p)

put_places : (f g : ℕ → Place) (p : ℕ) (x y : Place) → ((q : ℕ) → SamePlace (f q) (g q)) → SamePlace x y → (q : ℕ) → SamePlace (put f p x q) (put g p y q)
unfolding put pick
put_places f g p x y h k q = go (eqb p q)
  where
    go : (b : Bool) → SamePlace (cond b x (f q)) (cond b y (g q))
    go true = k
    go false = h q

-- an access of processor p
moved_same : {s t : State} (p : ℕ) {d e : Access} {a b : Act} {m n : ℕ → ℤ} → SameState s t → e ≡ d → SameTree a b → n ≡ m
    → SameState (moved p d a m s) (moved p e b n t)
moved_same {s} {t} p {a = a} {b = b} q e h k = record {
  cells = k;
  log = λ i. e i ∷ q.log i;
  places =
      put_places s.places t.places p (record { at = (s.places p).at; act = a }) (record { at = (t.places p).at; act = b }) q.places
      (record { at = (q.places p).at; act = h });
}

module _ (l m : Loop) (h : SameLoop l m) (δ : Partition) where
  given_same : {s t : State} → SameState s t → (k : Class) (i c : ℕ) → given m δ k t i c ≡ given l δ k s i c
  given_same q shared i c = λ j. q.cells j c
  given_same q lastprivate i c = λ j. get_or (written c (only δ.group (δ.group i) (q.log j))) (h.entry j c)
  given_same q copied i c = λ j. get_or (written c (only δ.group (δ.group i) (q.log j))) (h.entry j c)
  given_same q (reduction o) i c = λ j. get_or (written c (only δ.group (δ.group i) (q.log j))) (h.entry j c)

  go_on_same : {s t : State} (p : ℕ) {a b : Act} → SameTree a b → SameState s t → SameState (go_on l δ p a s) (go_on m δ p b t)
  unfolding go_on
  go_on_same {s} {t} p (restated.reads {c = c} {f = f} {g = g} k) q =
      let i = (s.places p).at in
      let x = given l δ (l.class c) s i c in
      let e : given m δ (m.class c) t (t.places p).at c ≡ x =
      (λ j. given m δ (h.class j c) t ((q.places p).at j) c) ∙ given_same q (l.class c) i c in
      moved_same p q (λ j. access reads ((q.places p).at j) c (e j)) (subst (λ (y : ℤ). SameTree (f x) (g y)) (sym e) (k x)) q.cells
  go_on_same p (restated.writes {c = c} {x = v} k) q =
      moved_same p q (λ j. access writes ((q.places p).at j) c v) k (λ j. stored (h.class j c) (q.cells j) c v)
  go_on_same p (restated.updates {c = c} {x = v} k) q = moved_same p q (λ j. access updates ((q.places p).at j) c v) k q.cells
  go_on_same p restated.faults q = q
  go_on_same {s} {t} p restated.ends q =
      let i = (s.places p).at in
      let e = ap suc (q.places p).at in
      record {
        cells = q.cells;
        log = q.log;
        places =
            put_places s.places t.places p (opening l (suc i)) (opening m (suc (t.places p).at)) q.places
            (record { at = e; act = subst (λ (k : ℕ). SameTree (l.body (suc i)) (m.body k)) (sym e) (h.body (suc i)) });
      }

  step_same : {s t : State} (p : ℕ) → SameState s t → SameState (step l δ p s) (step m δ p t)
  unfolding step below
  step_same {s} {t} p q =
      subst (λ (n : ℕ). SameState (step l δ p s) (cond (ltb n (bound δ (suc p))) (go_on m δ p (t.places p).act t) t)) (sym (q.places p).at)
      (go (ltb (s.places p).at (bound δ (suc p))))
    where
      go : (b : Bool) → SameState (cond b (go_on l δ p (s.places p).act s) s) (cond b (go_on m δ p (t.places p).act t) t)
      go true = go_on_same p (q.places p).act q
      go false = q

  steps_same : {s t : State} (ps : List ℕ) → SameState s t → SameState (steps l δ ps s) (steps m δ ps t)
  unfolding steps
  steps_same [] q = q
  steps_same {s = s} {t = t} (p ∷ ps) q = steps_same {s = step l δ p s} {t = step m δ p t} ps (step_same p q)

  start_same : SameState (start l δ) (start m δ)
  start_same = record { cells = h.entry; log = refl; places = λ p. record { at = refl; act = h.body (bound δ p) } }

  pub look_same : (ps : List ℕ) → look m δ ps ≡ look l δ ps
  unfolding look
  look_same ps = let q = steps_same ps start_same in λ i. viewed (h.size i) (q.cells i) (λ c. marks δ.group c (q.log i))
