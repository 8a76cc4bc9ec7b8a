-- A copied cell's obstacle is read off its record.
use mathlib.Core.Path.{◌≡◌, refl}
use mathlib.Core.Logic.{◌↔◌}
use Prim.Native.Nat.{ℕ, zero, suc, ◌<◌}
use native.Mathlib.Omega.{arith}
use Rattle.rules.specs.Log.{Log}
use Rattle.rules.specs.Obstacles.{Late}
use Rattle.rules.specs.Record.{Recorded}

-- there is one exactly where the highest reader is above the lowest writer
pub late_by_record : {f : ℕ → Log} {c writer reader : ℕ} → Recorded f c writer reader → Late f c ↔ ((0 < writer) × (writer < reader))
late_by_record {f} {c} {writer} {reader} r = (
  λ (i, j, n, w, o). let (some, low) = r.lowest.least i w in (some, omega (arith, low, r.highest.most j o)),
  λ (a, b). found writer reader refl refl a b,
)
  where
    found : (x y : ℕ) → writer ≡ x → reader ≡ y → 0 < x → x < y → Late f c
    found zero y p q a b = absurd (omega arith)
    found (suc x) zero p q a b = absurd (omega arith)
    found (suc x) (suc y) p q a b = (x, y, omega arith, r.lowest.holds x p, r.highest.holds y q)
