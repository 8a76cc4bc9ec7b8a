-- The instruction and the relation of a number.
use mathlib.Core.Path.{◌≡◌, refl, sym, subst}
use mathlib.Core.List.{List, [], ◌∷◌}
use Prim.Native.Nat.{ℕ, zero, suc, ◌/◌, ◌%◌, ◌≤◌}
use native.Mathlib.Omega.{arith}
use lib.ListN.{length, get_or}
use lib.IntN.{ℤ}
use Rattle.int32.specs.declared.Relation.TheVariants.{AtLeast}
use Rattle.code.specs.Instr.{Instr, end, relations, relation_of, numbered, decode}
use Rattle.operands.specs.declared.Performed.{Performed}
use Rattle.operands.specs.Performing.{does, Performs}

-- past a list's end
get_d_past : {A : Type 0} (l : List A) (n : ℕ) (x : A) → length l ≤ n → get_or l n x ≡ x
get_d_past [] n x h = refl
get_d_past (y ∷ l) zero x h = absurd (omega arith)
get_d_past (y ∷ l) (suc n) x h = get_d_past l n x (omega arith)

-- k is none of the numbers below n, as a `match` says it
abbrev pub NoneOf : ℕ → ℕ → Type 0
NoneOf zero k = Unit {0}
NoneOf (suc n) k = NoneOf n k × (k ≡ n → ⊥)

pub past_all : (n k : ℕ) → NoneOf n k → n ≤ k
past_all zero k h = omega arith
past_all (suc n) k h = omega (arith, past_all n k h.0, h.1)

pub relation_last : (n : ℕ) → 5 ≤ n → relation_of n ≡ AtLeast
relation_last n h = get_d_past relations n AtLeast h

-- an operation of number n
pub decode_as : (word arg n : ℕ) → word % 32 ≡ n → decode word arg ≡ get_or (numbered (word / 32) arg) n end
unfolding decode
decode_as word arg n e = rw e

pub decode_last : (word arg : ℕ) → 19 ≤ word % 32 → decode word arg ≡ end
unfolding decode
decode_last word arg h = get_d_past (numbered (word / 32) arg) (word % 32) end h

-- what is done by the instruction of number n is done by the two words
pub performs_as : (n word arg place d : ℕ) (a b : List ℤ) (v : ℤ) {r : Performed} → word % 32 ≡ n
    → Performs (does (get_or (numbered (word / 32) arg) n end) place d a v) place b r → Performs (does (decode word arg) place d a v) place b r
performs_as n word arg place d a b v {r} e p =
    subst (λ (i : Instr). Performs (does i place d a v) place b r) (sym (decode_as word arg n e)) p
