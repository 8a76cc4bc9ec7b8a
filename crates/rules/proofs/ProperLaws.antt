-- What `Proper` says of an iteration holds of a group of them.
use Prim.Native.Nat.{ℕ, zero, suc}
use lib.IntN.{ℤ}
use Rattle.rules.specs.declared.Class.{Class}
use Rattle.rules.specs.Loop.{Act, read, write, update, fault, done, Reduces, Loop, Partition}
use Rattle.rules.proofs.Job.{Job, reading, writing, updating, failing, idle, before, chain}
use Rattle.rules.specs.Proper.{Sums, Proper}

abbrev pub SumsJob : (ℕ → Class) → Job → Type 0
SumsJob k (reading i c a) = (x : ℤ) → SumsJob k (a x)
SumsJob k (writing i c v a) = SumsJob k a
SumsJob k (updating i c v a) = Reduces (k c) × SumsJob k a
SumsJob k (failing i n m) = Unit {0}
SumsJob k idle = Unit {0}

sums_before : (k : ℕ → Class) (i : ℕ) (a : Act) (b : Job) → Sums k a → SumsJob k b → SumsJob k (before i a b)
unfolding before
sums_before k i (read c a) b s t = λ x. sums_before k i (a x) b (s x) t
sums_before k i (write c v a) b s t = sums_before k i a b s t
sums_before k i (update c v a) b s t = (s.0, sums_before k i a b s.1 t)
sums_before k i (fault n m) b s t = tt
sums_before k i done b s t = t

pub sums_chain : (l : Loop) (δ : Partition) → Proper l δ → (k i : ℕ) → SumsJob l.class (chain l k i)
unfolding chain
sums_chain l δ h zero i = tt
sums_chain l δ h (suc k) i = sums_before l.class i (l.body i) (chain l k (suc i)) (h.sums i) (sums_chain l δ h k (suc i))
