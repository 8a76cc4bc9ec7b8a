-- The pending values of an array: one more, one or two taken off, too many and too few.
use mathlib.Core.Path.{◌≡◌, refl, ap}
use mathlib.Core.List.{List, ◌∷◌}
use Prim.Native.Nat.{ℕ, zero, suc, ◌+◌, ◌-◌, ◌≤◌, ◌<◌}
use native.Mathlib.Numerals.{add-one}
use native.Mathlib.Omega.{arith}
use borrow.Author.Tests.{lt-ltb, le-ltb}
use lib.ListN.{length, get_or, set}
use lib.Seq.{get_or-set_same, get_or-set_other}
use lib.IntN.{ℤ, pos}
use Rattle.rules.specs.Loop.{Act, done}
use Rattle.code.specs.Instr.{room, with1, with2}
use Rattle.operands.specs.Pending.{pendings}

pub pendings_length : (a : List ℤ) (d : ℕ) → length (pendings a d) ≡ d
unfolding pendings
pendings_length a zero = refl
pendings_length a (suc d) = ap suc (pendings_length a d)

-- a value past them
pub pendings_set : (a : List ℤ) (d i : ℕ) (x : ℤ) → d ≤ i → pendings (set a i x) d ≡ pendings a d
unfolding pendings
pendings_set a zero i x h = refl
pendings_set a (suc d) i x h = rw (get_or-set_other a i d x (pos 0) (omega arith), pendings_set a d i x (omega arith))

pub pendings_push : (a : List ℤ) (d : ℕ) (x : ℤ) → d < length a → pendings (set a d x) (d + 1) ≡ x ∷ pendings a d
unfolding pendings
pendings_push a d x h = rw (add-one, get_or-set_same a d x (pos 0) h, pendings_set a d d x (omega arith))

pub pendings_top : (a : List ℤ) (d : ℕ) → 1 ≤ d → get_or a (d - 1) (pos 0) ∷ pendings a (d - 1) ≡ pendings a d
unfolding pendings
pendings_top a zero h = absurd (omega arith)
pendings_top a (suc d) h = let e : suc d - 1 ≡ d = omega arith in rw e

-- ---- room for one more

pub room_in : (a : List ℤ) (d : ℕ) (t : Act) → d < 32 → room (pendings a d) t ≡ t
unfolding room
room_in a d t h = rw (pendings_length, lt-ltb d 32 h)

pub room_out : (a : List ℤ) (d : ℕ) (t : Act) → 32 ≤ d → room (pendings a d) t ≡ done
unfolding room
room_out a d t h = rw (pendings_length, le-ltb d 32 h)

-- ---- one or two taken off

pub with1_short : (a : List ℤ) (d : ℕ) (k : ℤ → List ℤ → Act) → d < 1 → with1 (pendings a d) k ≡ done
unfolding with1 pendings
with1_short a zero k h = refl
with1_short a (suc d) k h = absurd (omega arith)

pub with2_short : (a : List ℤ) (d : ℕ) (k : ℤ → ℤ → List ℤ → Act) → d < 2 → with2 (pendings a d) k ≡ done
unfolding with2 pendings
with2_short a zero k h = refl
with2_short a (suc zero) k h = refl
with2_short a (suc (suc d)) k h = absurd (omega arith)

pub with1_taken : (a : List ℤ) (d : ℕ) (k : ℤ → List ℤ → Act) → 1 ≤ d → with1 (pendings a d) k ≡ k (get_or a (d - 1) (pos 0)) (pendings a (d - 1))
unfolding with1 pendings
with1_taken a zero k h = absurd (omega arith)
with1_taken a (suc d) k h = let e : suc d - 1 ≡ d = omega arith in rw e

pub with2_taken : (a : List ℤ) (d : ℕ) (k : ℤ → ℤ → List ℤ → Act) → 2 ≤ d
    → with2 (pendings a d) k ≡ k (get_or a (d - 2) (pos 0)) (get_or a (d - 2 + 1) (pos 0)) (pendings a (d - 2))
unfolding with2 pendings
with2_taken a zero k h = absurd (omega arith)
with2_taken a (suc zero) k h = absurd (omega arith)
with2_taken a (suc (suc d)) k h =
    let e : suc (suc d) - 2 ≡ d = omega arith in
    rw (e, add-one)
