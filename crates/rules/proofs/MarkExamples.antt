-- Marks of a cell after a few accesses, by computing. (The examples of document 01 are in crates/running/proofs/Examples.antt.)
use mathlib.Core.Path.{◌≡◌, refl}
use mathlib.Core.List.{List, [], ◌∷◌, map}
use Prim.Native.Nat.{ℕ}
use native.Mathlib.Decide.{ℕ_discrete}
use lib.IntN.{pos}
use Rattle.rules.specs.Choose.{pick}
use Rattle.rules.specs.Log.{Kind, reads, writes, updates, Access, access, Log, only}
use Rattle.rules.specs.Decide.{change, either?, both?, not?, find, kind?, has?, exposed?, over, one?}
use Rattle.rules.specs.Marks.{mark1?, mark2?, mark4?, weight, marks}

-- an access of cell 0 by iteration i
abbrev by : Kind → ℕ → Access
by k i = access k i 0 (pos 0)

-- the newest first: read and then written; read by one and written by another; written, read and written; updated, read and written
pub logs : List Log
logs =
    (by writes 1 ∷ by reads 1 ∷ [])
    ∷ (by writes 2 ∷ by reads 1 ∷ [])
    ∷ (by writes 1 ∷ by reads 1 ∷ by writes 1 ∷ [])
    ∷ (by writes 1 ∷ by reads 1 ∷ by updates 1 ∷ [])
    ∷ []

pub marked : map (marks (λ i. i) 0) logs ≡ 5 ∷ 3 ∷ 1 ∷ 13 ∷ []
unfolding logs pick only change either? both? not? find kind? has? exposed? over one? mark1? mark2? mark4? weight marks ℕ_discrete
marked = refl
