-- The logs of the trial, at any moment of it, and of the serial run are such that their tables are right.
use mathlib.Core.Path.{◌≡◌, refl, sym, ◌∙◌, ap, subst}
use mathlib.Core.List.{List, [], ◌∷◌}
use Prim.Native.Nat.{ℕ, zero, suc, ◌+◌, ◌≤◌, ◌<◌}
use native.Mathlib.Decide.{ℕ_discrete, dec_lt}
use native.Mathlib.Omega.{arith}
use lib.IntN.{ℤ}
use Rattle.rules.specs.Choose.{put}
use Rattle.rules.specs.ChooseLaws.{put_same, put_other, below_yes, below_no}
use Rattle.rules.specs.Loop.{Act, read, write, update, fault, done, Loop, bound, Partition}
use Rattle.rules.specs.Log.{Kind, reads, writes, updates, access, Log, only, each}
use Rattle.rules.specs.LogLaws.{only_other}
use Rattle.rules.specs.Proper.{Sized, Proper}
use Rattle.rules.specs.Record.{Recorded}
use Rattle.rules.specs.Steps.{Place, opening, State, moved, go_on, step, steps, start, trial}
use Rattle.rules.proofs.TrialRun.{Home, home, steps_keep, run_on_keeps}
use Rattle.rules.specs.Serial.{Result, along, from, serial}
use Rattle.rules.proofs.SerialRun.{serial_ends, Sorted, sorted_nil, sorted_cons}
use Rattle.shadow.specs.Orderly.{turn_nil, turn_cons, Inside, inside_nil, inside_cons, worker, Ascending, Orderly}
use Rattle.shadow.proofs.Shows.{Shows, tables_right}
use Rattle.shadow.specs.Tables.{table}

module _ (l : Loop) (δ : Partition) (h : Proper l δ) where
  module _ (s : State) (p : ℕ) (o : Orderly l δ s) (lt : (s.places p).at < bound δ (suc p)) where
    abbrev i : ℕ
    i = (s.places p).at

    here : Home l δ h p i
    here = home l δ h p i (o.placed p) lt

    -- the place of p changes
    put_place : (Q : ℕ → Place → Type 0) (w : Place) → Q p w → ((q : ℕ) → Q q (s.places q)) → (q : ℕ) → Q q (put s.places p w q)
    put_place Q w x f q = elim (ℕ_discrete p q) [
      | yes e ↦ rw (put_same e s.places w) (subst (λ (j : ℕ). Q j w) e x)
      | no n ↦ rw (put_other n s.places w) (f q)
    ]

    moved_keeps : (k : Kind) (c : ℕ) (v : ℤ) (a : Act) (m : ℕ → ℤ) → c < l.size → Sized l.size a → Orderly l δ (moved p (access k i c v) a m s)
    moved_keeps k c v a m b z = record {
      inside = inside_cons here.inside b o.inside;
      ascending = turn_cons (λ j e x. o.ahead p j (e ∙ here.owned) x) o.ascending;
      ahead = put_place (λ q w. (j : ℕ) → worker l δ j ≡ q → w.at < j → each j (access k i c v ∷ s.log) ≡ []) (record { at = i; act = a })
          (λ j e x. only_other (λ n. n) (access k i c v) (omega arith) s.log ∙ o.ahead p j e x)
          other;
      placed = put_place (λ q w. bound δ q ≤ w.at) (record { at = i; act = a }) (o.placed p) o.placed;
      sized = put_place (λ q w. Sized l.size w.act) (record { at = i; act = a }) z o.sized;
    }
      where
        -- an iteration ahead of its processor is not i
        other : (q j : ℕ) → worker l δ j ≡ q → (s.places q).at < j → each j (access k i c v ∷ s.log) ≡ []
        other q j e x =
            only_other (λ n. n) (access k i c v)
            (λ (y : i ≡ j). let z : p ≡ q = sym here.owned ∙ ap (worker l δ) y ∙ e in omega (arith, ap (λ (r : ℕ). (s.places r).at) z))
            s.log
            ∙ o.ahead q j e x

    go_on_keeps : (a : Act) → (s.places p).act ≡ a → Orderly l δ (go_on l δ p a s)
    unfolding go_on
    go_on_keeps (read c k) e = let z : Sized l.size (read c k) = subst (Sized l.size) e (o.sized p) in moved_keeps reads c _ _ _ z.0 (z.1 _)
    go_on_keeps (write c v a) e = let z : Sized l.size (write c v a) = subst (Sized l.size) e (o.sized p) in moved_keeps writes c v a _ z.0 z.1
    go_on_keeps (update c v a) e = let z : Sized l.size (update c v a) = subst (Sized l.size) e (o.sized p) in moved_keeps updates c v a _ z.0 z.1
    go_on_keeps (fault n t) e = o
    go_on_keeps done e = record {
      inside = o.inside;
      ascending = o.ascending;
      ahead = put_place (λ q w. (j : ℕ) → worker l δ j ≡ q → w.at < j → each j s.log ≡ []) (opening l (suc i))
          (λ j e x. o.ahead p j e (omega arith)) o.ahead;
      placed = put_place (λ q w. bound δ q ≤ w.at) (opening l (suc i)) (omega (arith, o.placed p)) o.placed;
      sized = put_place (λ q w. Sized l.size w.act) (opening l (suc i)) (h.sized (suc i)) o.sized;
    }

  pub step_keeps : (p : ℕ) (s : State) → Orderly l δ s → Orderly l δ (step l δ p s)
  unfolding step
  step_keeps p s o = elim (dec_lt (s.places p).at (bound δ (suc p))) [
    | yes y ↦ rw (below_yes y (go_on l δ p (s.places p).act s) s) (go_on_keeps s p o y (s.places p).act refl)
    | no y ↦ rw (below_no {i = (s.places p).at} {j = bound δ (suc p)} (omega arith) (go_on l δ p (s.places p).act s) s) o
  ]

  pub start_orderly : Orderly l δ (start l δ)
  unfolding only
  start_orderly = record { inside = inside_nil; ascending = turn_nil; ahead = λ p j e x. refl; placed = λ p. omega arith; sized = λ p. h.sized (bound δ p) }

  -- after the bytes of a schedule, as Look shows it
  pub steps_orderly : (ps : List ℕ) → Orderly l δ (steps l δ ps (start l δ))
  steps_orderly ps = steps_keep l δ (Orderly l δ) step_keeps ps (start l δ) start_orderly

  -- after the whole trial
  pub trial_orderly : (ps : List ℕ) → Orderly l δ (trial l δ ps)
  unfolding trial
  trial_orderly ps = run_on_keeps l δ (Orderly l δ) step_keeps δ.processors (steps l δ ps (start l δ)) (steps_orderly ps)

  pub look_shows : (ps : List ℕ) → Shows l δ (steps l δ ps (start l δ)).log (table l δ (steps l δ ps (start l δ)).log)
  look_shows ps = let o = steps_orderly ps in tables_right l δ h (steps l δ ps (start l δ)).log o.inside o.ascending

  -- document 02, Point 5: after every prefix ps of a schedule the two words of a cell's row are its record
  pub record_after : (ps : List ℕ) (c : ℕ) → let g = (steps l δ ps (start l δ)).log in
      Recorded (λ i. only δ.group i g) c ((table l δ g).rows c).lowest ((table l δ g).rows c).highest
  record_after ps c = (look_shows ps).recorded c

  pub trial_shows : (ps : List ℕ) → Shows l δ (trial l δ ps).log (table l δ (trial l δ ps).log)
  trial_shows ps = let o = trial_orderly ps in tables_right l δ h (trial l δ ps).log o.inside o.ascending

  -- the serial run
  along_inside : (i : ℕ) → i < l.iterations → (a : Act) (m : ℕ → ℤ) (g : Log) (next : (ℕ → ℤ) → Log → Result) → Sized l.size a
      → Inside l.iterations l.size g
      → ((m' : ℕ → ℤ) (g' : Log) → Inside l.iterations l.size g' → Inside l.iterations l.size (next m' g').log)
      → Inside l.iterations l.size (along l i a m g next).log
  unfolding along
  along_inside i b (read c k) m g next z x f = along_inside i b (k (m c)) m _ next (z.1 (m c)) (inside_cons b z.0 x) f
  along_inside i b (write c v a) m g next z x f = along_inside i b a _ _ next z.1 (inside_cons b z.0 x) f
  along_inside i b (update c v a) m g next z x f = along_inside i b a _ _ next z.1 (inside_cons b z.0 x) f
  along_inside i b (fault n t) m g next z x f = x
  along_inside i b done m g next z x f = f m g x

  from_inside : (k i : ℕ) (m : ℕ → ℤ) (g : Log) → i + k ≡ l.iterations → Inside l.iterations l.size g
      → Inside l.iterations l.size (from l k i m g).log
  unfolding from
  from_inside zero i m g e x = x
  from_inside (suc k) i m g e x = along_inside i (omega arith) (l.body i) m g (from l k (suc i)) (h.sized i) x
      (λ m' g' y. from_inside k (suc i) m' g' (omega arith) y)

  sorted_ascends : {g : Log} → Sorted (λ j. j) g → Ascending l δ g
  sorted_ascends sorted_nil = turn_nil
  sorted_ascends (sorted_cons u s) = turn_cons (λ j e b. u j b) (sorted_ascends s)

  pub serial_shows : Shows l δ (serial l).log (table l δ (serial l).log)
  unfolding serial
  serial_shows = tables_right l δ h (serial l).log (from_inside l.iterations 0 l.entry [] (omega arith) inside_nil)
      (sorted_ascends (serial_ends l δ h).in_order)
