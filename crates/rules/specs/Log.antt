-- RULES 4.1 c and 5 b: accesses, and lists of them with the newest first.
use Rattle.std.specs.Prelude.{List, [], ◌∷◌, ℕ, ℤ}
use Rattle.std.proofs.Math.Option.{Option, none, some}
use Rattle.rules.specs.Choose.{pick}

-- reads and writes are the ordinary accesses
pub data Kind : Type 0 where
  reads writes updates : Kind

-- "Each is listed with its kind, iteration and cell", and here with the value read or written, or the remainder of an update
pub data Access : Type 0 where
  access : Kind → ℕ → ℕ → ℤ → Access

abbrev pub Log : Type 0
Log = List Access

abbrev pub iteration : Access → ℕ
iteration (access k i c v) = i

-- the accesses of the iterations that γ takes to g
unfoldable pub only : (ℕ → ℕ) → ℕ → Log → Log
only γ g [] = []
only γ g (e ∷ l) = pick (γ (iteration e)) g (e ∷ only γ g l) (only γ g l)

-- the accesses of iteration i
abbrev pub each : ℕ → Log → Log
each i l = only (λ j. j) i l

-- the value of the last ordinary write to c
unfoldable pub written : ℕ → Log → Option ℤ
written c [] = none
written c (access reads i d v ∷ l) = written c l
written c (access writes i d v ∷ l) = pick d c (some v) (written c l)
written c (access updates i d v ∷ l) = written c l

-- the log has an access of kind k to c
pub data Has (k : Kind) (c : ℕ) : Log → Type 0 where
  newest : {i : ℕ} {v : ℤ} {l : Log} → Has k c (access k i c v ∷ l)
  older : {e : Access} {l : Log} → Has k c l → Has k c (e ∷ l)

-- "reads it before writing it": the log has a read of c with no write to c before it
pub data Exposed (c : ℕ) : Log → Type 0 where
  first : {i : ℕ} {v : ℤ} {l : Log} → ¬ Has writes c l → Exposed c (access reads i c v ∷ l)
  earlier : {e : Access} {l : Log} → Exposed c l → Exposed c (e ∷ l)

-- the log has an ordinary access to c
pub data Ordinary (c : ℕ) (l : Log) : Type 0 where
  a_read : Has reads c l → Ordinary c l
  a_write : Has writes c l → Ordinary c l
