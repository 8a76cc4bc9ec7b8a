-- Runs in which any group may go on at any time. As long as each read gives what the group would read by itself,
-- each group does what it does by itself; a read that gives something else is an obstacle, here and among the groups by themselves.
use mathlib.Core.Path.{◌≡◌, refl, sym, ◌∙◌, ap, subst, fun_ext}
use mathlib.Core.Logic.{◌≢◌, ◌⊎◌, inl, inr}
use mathlib.Core.List.{◌∷◌}
use Prim.Native.Nat.{ℕ}
use native.Mathlib.Decide.{ℕ_discrete}
use native.Mathlib.Omega.{arith}
use lib.IntN.{ℤ}
use Rattle.rules.specs.Choose.{put}
use Rattle.rules.specs.ChooseLaws.{put_same, put_other}
use Rattle.rules.specs.Loop.{Loop, Partition}
use Rattle.rules.proofs.Job.{Job, reading, writing, updating, failing, idle}
use Rattle.rules.specs.Log.{reads, writes, updates, Access, access, iteration, Log, only}
use Rattle.rules.specs.LogLaws.{only_same, only_other, Extends}
use Rattle.rules.specs.Obstacles.{Obstacle, Obstructed}
use Rattle.rules.proofs.ObstacleLaws.{obstacle_more, obstructed_more}
use Rattle.rules.proofs.Isolated.{End, ended, faulted, finish, alone, finish_extends}
use Rattle.rules.specs.Steps.{latest}

-- m, with group i gone on to a
pub record Moved (m : ℕ → Job) (i : ℕ) (a : Job) (m' : ℕ → Job) : Type 0 where
  pub there : m' i ≡ a
  pub elsewhere : (j : ℕ) → i ≢ j → m' j ≡ m j

pub moved_put : (m : ℕ → Job) (i : ℕ) (a : Job) → Moved m i a (put m i a)
moved_put m i a = record { there = put_same refl m a; elsewhere = λ j h. put_other h m a }

module _ (l : Loop) (δ : Partition) where
  -- the accesses of group i
  abbrev pub own : ℕ → Log → Log
  own i g = only δ.group i g

  -- what group i logged is what it logs by itself, up to where a is left
  abbrev pub Agrees : Log → ℕ → Job → Type 0
  Agrees g i a = finish l a (own i g) ≡ alone l δ i

  abbrev pub Agree : Log → (ℕ → Job) → Type 0
  Agree g m = (i : ℕ) → Agrees g i (m i)

  -- an obstacle among the groups by themselves
  abbrev pub ObstacleAlone : Type 0
  ObstacleAlone = Obstacle l (λ i. (alone l δ i).0)

  abbrev pub Status : Log → (ℕ → Job) → Type 0
  Status g m = Agree g m ⊎ (Obstructed l δ.group g × ObstacleAlone)

  -- what a read by iteration i may give
  abbrev pub Allowed : Log → ℕ → ℕ → ℤ → Type 0
  Allowed g i c x = (x ≡ latest l c (own (δ.group i) g)) ⊎ ((y : ℤ) → Obstructed l δ.group (access reads i c y ∷ g))

  -- each group's accesses are the first of those that it makes by itself
  pub inside_extends : (g : Log) (m : ℕ → Job) → Agree g m → (i : ℕ) → Extends (own i g) (alone l δ i).0
  inside_extends g m h i = subst (λ (r : Log × End). Extends (own i g) r.0) (h i) (finish_extends l (m i) (own i g))

  inside : (g : Log) (m : ℕ → Job) → Agree g m → Obstructed l δ.group g → ObstacleAlone
  inside g m h = obstacle_more (λ i. own i g) (λ i. (alone l δ i).0) (inside_extends g m h) l

  module _ (g : Log) (m m' : ℕ → Job) (i : ℕ) (a : Job) (d : Moved m i a m') where
    agree_step : (e : Access) → δ.group (iteration e) ≡ i → Agree g m → finish l a (e ∷ own i g) ≡ alone l δ i → Agree (e ∷ g) m'
    agree_step e p h q j = elim (ℕ_discrete i j) [
      | yes r ↦ go r
      | no r ↦ rw (d.elsewhere j r, only_other δ.group e (λ (s : δ.group (iteration e) ≡ j). r (sym p ∙ s)) g) (h j)
    ]
      where
        go : i ≡ j → Agrees (e ∷ g) j (m' j)
        go r = subst (λ (k : ℕ). Agrees (e ∷ g) k (m' k)) r (rw (d.there, only_same δ.group e p g) q)

  -- iteration i makes an access to c
  module _ (g : Log) (m m' : ℕ → Job) (i c : ℕ) where
    pub step_read : (k : ℤ → Job) (x : ℤ) → m (δ.group i) ≡ reading i c k → Moved m (δ.group i) (k x) m' → Allowed g i c x → Status g m
        → Status (access reads i c x ∷ g) m'
    unfolding finish
    step_read k x e d o (inr (p, q)) = inr (obstructed_more l δ.group (access reads i c x) g p, q)
    step_read k x e d (inl o) (inl h) = inl (agree_step g m m' (δ.group i) (k x) d (access reads i c x) refl h (rw o (rw e at (h (δ.group i)))))
    step_read k x e d (inr o) (inl h) = inr (
      o x,
      inside (access reads i c y ∷ g) (put m (δ.group i) (k y))
          (agree_step g m (put m (δ.group i) (k y)) (δ.group i) (k y) (moved_put m (δ.group i) (k y)) (access reads i c y) refl h
          (rw e at (h (δ.group i))))
          (o y),
    )
      where
        y : ℤ
        y = latest l c (own (δ.group i) g)

    pub step_write : (v : ℤ) (a : Job) → m (δ.group i) ≡ writing i c v a → Moved m (δ.group i) a m' → Status g m → Status (access writes i c v ∷ g) m'
    unfolding finish
    step_write v a e d (inr (p, q)) = inr (obstructed_more l δ.group (access writes i c v) g p, q)
    step_write v a e d (inl h) = inl (agree_step g m m' (δ.group i) a d (access writes i c v) refl h (rw e at (h (δ.group i))))

    pub step_update : (v : ℤ) (a : Job) → m (δ.group i) ≡ updating i c v a → Moved m (δ.group i) a m' → Status g m → Status (access updates i c v ∷ g) m'
    unfolding finish
    step_update v a e d (inr (p, q)) = inr (obstructed_more l δ.group (access updates i c v) g p, q)
    step_update v a e d (inl h) = inl (agree_step g m m' (δ.group i) a d (access updates i c v) refl h (rw e at (h (δ.group i))))

  -- every group ends by itself, and none is in another's way
  pub record Clean : Type 0 where
    pub ends : (i : ℕ) → (alone l δ i).1 ≡ ended
    pub free : ¬ ObstacleAlone

  module _ (g : Log) (m : ℕ → Job) where
    complete : Agree g m → ((i : ℕ) → m i ≡ idle) → (i : ℕ) → ◌≡◌ {A = Log × End} (own i g, ended) (alone l δ i)
    unfolding finish
    complete h d i = rw (d i) at (h i)

    -- a run without fault and obstacle shows that the groups by themselves are clean
    pub clean_of_run : Status g m → ((i : ℕ) → m i ≡ idle) → ¬ Obstructed l δ.group g → Clean
    clean_of_run (inr (p, q)) d n = absurd (n p)
    clean_of_run (inl h) d n = record {
      ends = λ i. sym (ap (λ (r : Log × End). r.1) (complete h d i));
      free = λ o. n (subst (λ (f : ℕ → Log). Obstacle l f) (fun_ext (λ i. sym (ap (λ (r : Log × End). r.0) (complete h d i)))) o);
    }

    -- and the other way: no run then has a fault or an obstacle, and a run to the end logs what the groups log by themselves
    pub agree_of_clean : Clean → Status g m → Agree g m
    agree_of_clean k (inl h) = h
    agree_of_clean k (inr (p, q)) = absurd (k.free q)

    pub free_of_clean : Clean → Status g m → ¬ Obstructed l δ.group g
    free_of_clean k s o = k.free (inside g m (agree_of_clean k s) o)

    pub no_fault_of_clean : Clean → Status g m → (i k n t : ℕ) → m i ≡ failing k n t → ⊥
    unfolding finish
    no_fault_of_clean q s i k n t e =
        let h : ◌≡◌ {A = Log × End} (own i g, faulted k n t) (alone l δ i) = rw e at (agree_of_clean q s i) in
        let p : (alone l δ i).1 ≡ ended = q.ends i in
        let r : faulted k n t ≡ (alone l δ i).1 = ap (λ (r : Log × End). r.1) h in
        let z : ◌≡◌ {A = ℕ} 0 1 = cc in
        omega arith

    pub log_of_clean : Clean → Status g m → ((i : ℕ) → m i ≡ idle) → (i : ℕ) → own i g ≡ (alone l δ i).0
    log_of_clean k s d i = ap (λ (r : Log × End). r.0) (complete (agree_of_clean k s) d i)
