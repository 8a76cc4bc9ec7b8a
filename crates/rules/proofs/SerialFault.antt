-- A fault of the serial run lies in one of its iterations.
use mathlib.Core.Path.{◌≡◌, subst}
use mathlib.Core.List.{[]}
use Prim.Native.Nat.{ℕ, zero, suc, ◌+◌, ◌<◌}
use native.Mathlib.Omega.{arith}
use lib.IntN.{ℤ}
use Rattle.rules.specs.Loop.{Act, read, write, update, fault, done, Loop}
use Rattle.rules.specs.Log.{Log}
use Rattle.rules.specs.Serial.{Outcome, finished, failed, Result, along, from, serial}

abbrev pub Below : ℕ → Outcome → Type 0
Below b finished = Unit {0}
Below b (failed n t i) = i < b

module _ (l : Loop) where
  along_below : (b i : ℕ) (a : Act) (m : ℕ → ℤ) (g : Log) (next : (ℕ → ℤ) → Log → Result) → i < b
      → ((m : ℕ → ℤ) (g : Log) → Below b (next m g).outcome) → Below b (along l i a m g next).outcome
  unfolding along
  along_below b i (read c k) m g next h f = along_below b i (k (m c)) m _ next h f
  along_below b i (write c v a) m g next h f = along_below b i a _ _ next h f
  along_below b i (update c v a) m g next h f = along_below b i a _ _ next h f
  along_below b i (fault n t) m g next h f = h
  along_below b i done m g next h f = f m g

  from_below : (k i : ℕ) (m : ℕ → ℤ) (g : Log) → Below (i + k) (from l k i m g).outcome
  unfolding from
  from_below zero i m g = tt
  from_below (suc k) i m g =
      let e : suc i + k ≡ i + suc k = omega arith in
      along_below (i + suc k) i (l.body i) m g (from l k (suc i)) (omega arith)
      (λ m g. subst (λ (b : ℕ). Below b (from l k (suc i) m g).outcome) e (from_below k (suc i) m g))

  pub serial_below : Below l.iterations (serial l).outcome
  unfolding serial
  serial_below =
      let e : 0 + l.iterations ≡ l.iterations = omega arith in
      subst (λ (b : ℕ). Below b (from l l.iterations 0 l.entry []).outcome) e (from_below l.iterations 0 l.entry [])
