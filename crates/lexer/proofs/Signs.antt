-- A sign has one byte, two or five, and no more than stand there.
use mathlib.Core.Path.{◌≡◌, refl}
use mathlib.Core.Bool.{Bool, true, false, cond, ◌||◌}
use mathlib.Core.List.{List}
use Prim.Native.Nat.{ℕ, ◌≤◌, ◌<◌}
use native.Mathlib.Omega.{arith}
use lib.ListN.{length}
use Rattle.syntax.specs.Bytes.{starts, bytes, sign_size}
use Rattle.syntax.proofs.TestLaws.{starts_length}

either : {a b : Bool} (P : Type 0) → (a ≡ true → P) → (b ≡ true → P) → a || b ≡ true → P
either {a} {b} P f g h = go a b f g h
  where
    go : (a b : Bool) → (a ≡ true → P) → (b ≡ true → P) → a || b ≡ true → P
    go true b f g h = f refl
    go false b f g h = g h

pub sign_some : (s : List ℕ) → 0 < sign_size s
sign_some s = go (starts (bytes "!$omp") s) (starts (bytes "==") s || (starts (bytes "/=") s || (starts (bytes "<=") s || starts (bytes ">=") s)))
  where
    go : (a b : Bool) → 0 < cond a 5 (cond b 2 1)
    go true b = omega arith
    go false true = omega arith
    go false false = omega arith

pub sign_within : (s : List ℕ) → 0 < length s → sign_size s ≤ length s
sign_within s h = go (starts (bytes "!$omp") s) (starts (bytes "==") s || (starts (bytes "/=") s || (starts (bytes "<=") s || starts (bytes ">=") s)))
    (starts_length (bytes "!$omp") s)
    (either (2 ≤ length s) (starts_length (bytes "==") s)
    (either (2 ≤ length s) (starts_length (bytes "/=") s) (either (2 ≤ length s) (starts_length (bytes "<=") s) (starts_length (bytes ">=") s))))
  where
    go : (a b : Bool) → (a ≡ true → 5 ≤ length s) → (b ≡ true → 2 ≤ length s) → cond a 5 (cond b 2 1) ≤ length s
    go true b f g = f refl
    go false true f g = g refl
    go false false f g = h
