-- RULES 6 (document 01, The serial run): "it holds the cells and a list of accesses, empty at first".
use Rattle.std.specs.Prelude.{[], ◌∷◌, ◌≡◌, refl, ℕ, zero, suc, ℤ}
use Rattle.std.proofs.Common.{arith}
use Rattle.rules.specs.Choose.{put}
use Rattle.rules.specs.Loop.{Act, read, write, update, fault, done, Loop, joining}
use Rattle.rules.specs.Log.{reads, writes, updates, access, Log}

-- a fault with its number, its line and its iteration
pub data Outcome : Type 0 where
  finished : Outcome
  failed : ℕ → ℕ → ℕ → Outcome

pub record Result : Type 0 where
  pub cells : ℕ → ℤ
  pub log : Log
  pub outcome : Outcome

module _ (l : Loop) where
  -- iteration i goes on with a over the cells m; after it comes `next`.
  -- "A read gives the cell as it now stands, whatever its clause; a write stores in place; an update adds its remainder to the cell";
  -- document 02, Point 6: or multiplies the cell by it, or leaves the larger of the two. "The first fault ends the run"
  unfoldable pub along : ℕ → Act → (ℕ → ℤ) → Log → ((ℕ → ℤ) → Log → Result) → Result
  along i (read c k) m g next = along i (k (m c)) m (access reads i c (m c) ∷ g) next
  along i (write c v a) m g next = along i a (put m c v) (access writes i c v ∷ g) next
  along i (update c v a) m g next = along i a (put m c ((joining l c).join (m c) v)) (access updates i c v ∷ g) next
  along i (fault n t) m g next = record { cells = m; log = g; outcome = failed n t i }
  along i done m g next = next m g

  -- k iterations, the first of them i: "iterations go one after another"
  unfoldable pub from : ℕ → ℕ → (ℕ → ℤ) → Log → Result
  from zero i m g = record { cells = m; log = g; outcome = finished }
  from (suc k) i m g = along i (l.body i) m g (from k (suc i))

  -- "index 0 first"
  unfoldable pub serial : Result
  serial = from l.iterations 0 l.entry []

-- ---- decided

unfoldable pub finished? : (o : Outcome) → Dec (o ≡ finished)
finished? finished = yes refl
finished? (failed n t i) = no (λ (e : failed n t i ≡ finished). let z : ◌≡◌ {A = ℕ} 0 1 = cc in omega arith)
