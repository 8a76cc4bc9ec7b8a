-- A group of iterations run by itself: it reads what it wrote, else the cell at entry. No schedule and no other group enters here.
use mathlib.Core.Path.{subst}
use mathlib.Core.Logic.{inl, inr}
use mathlib.Core.List.{[], ◌∷◌}
use Prim.Native.Nat.{ℕ}
use Rattle.rules.specs.Loop.{Reduces, Loop, Partition}
use Rattle.rules.specs.Steps.{latest}
use Rattle.rules.proofs.Job.{Job, reading, writing, updating, failing, idle, job}
use Rattle.rules.proofs.ProperLaws.{SumsJob}
use Rattle.rules.specs.Log.{reads, writes, updates, access, Log, Has}
use Rattle.rules.specs.LogLaws.{has_cases, not_read, not_written, Extends, same, more, extends_trans}

-- how a group ended, with a fault's iteration, number and line
pub data End : Type 0 where
  ended : End
  faulted : ℕ → ℕ → ℕ → End

module _ (l : Loop) where
  -- a group goes on with a job, having made the accesses g
  unfoldable pub finish : Job → Log → Log × End
  finish (reading i c k) g = finish (k (latest l c g)) (access reads i c (latest l c g) ∷ g)
  finish (writing i c v a) g = finish a (access writes i c v ∷ g)
  finish (updating i c v a) g = finish a (access updates i c v ∷ g)
  finish (failing i n m) g = (g, faulted i n m)
  finish idle g = (g, ended)

  pub finish_extends : (a : Job) (g : Log) → Extends g (finish a g).0
  unfolding finish
  finish_extends (reading i c k) g = extends_trans (more same) (finish_extends (k (latest l c g)) (access reads i c (latest l c g) ∷ g))
  finish_extends (writing i c v a) g = extends_trans (more same) (finish_extends a (access writes i c v ∷ g))
  finish_extends (updating i c v a) g = extends_trans (more same) (finish_extends a (access updates i c v ∷ g))
  finish_extends (failing i n m) g = same
  finish_extends idle g = same

-- a group by itself
abbrev pub alone : Loop → Partition → ℕ → Log × End
alone l δ g = finish l (job l δ g) []

-- only reduction cells are updated in what a group logs by itself
pub finish_sums : (l : Loop) (a : Job) (g : Log) → SumsJob l.class a → ((c : ℕ) → Has updates c g → Reduces (l.class c)) → (c : ℕ)
    → Has updates c (finish l a g).0 → Reduces (l.class c)
unfolding finish
finish_sums l (reading i c k) g s h = finish_sums l (k (latest l c g)) (access reads i c (latest l c g) ∷ g) (s (latest l c g)) (λ d x. h d (not_read x))
finish_sums l (writing i c v a) g s h = finish_sums l a (access writes i c v ∷ g) s (λ d x. h d (not_written x))
finish_sums l (updating i c v a) g s h = finish_sums l a (access updates i c v ∷ g) s.1
    (λ d x. elim (has_cases x) [ inl y ↦ subst (λ (e : ℕ). Reduces (l.class e)) y.1 s.0 | inr y ↦ h d y ])
finish_sums l (failing i n m) g s h = h
finish_sums l idle g s h = h
