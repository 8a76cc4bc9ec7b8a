-- RULES 1.7 d and 1.12 d: what is done with the names of clauses, and what they come to.
use Rattle.std.specs.Prelude.{◌≡◌, Bool, true, false, cond, not, ◌&&◌, List, [], ◌∷◌, ◌++◌, map, ℕ, ◌<◌, max, length, get_or}
use Rattle.rules.specs.declared.Class.{Class}
use Rattle.rules.specs.declared.Class.TheVariants.{Shared as shared, Lastprivate as lastprivate, Copied as copied, Reduction as reduction}
use Rattle.syntax.specs.declared.ClauseKind.{ClauseKind}
use Rattle.syntax.specs.declared.ClauseKind.TheVariants.{Shared, Lastprivate, Firstprivate, Reduction}
use Rattle.syntax.specs.Bytes.{any, same}
use Rattle.syntax.specs.Known.{Entry, known, find, nowhere, in_firstprivate}
use Rattle.names.specs.Table.{Tabled, class_to, is_claimed}
use Rattle.heading.specs.Lists.{order}
use Rattle.claiming.specs.declared.Reading.{Reading}
use Rattle.claiming.specs.declared.Reading.TheVariants.{Classes, Copies}
use Rattle.claiming.specs.declared.Deed.{Deed}
use Rattle.claiming.specs.declared.Deed.TheVariants.{Skip, Claim, CopyIn}

-- what a reading does with the names of a clause
abbrev pub deed : Reading → ClauseKind → Deed
deed Classes k = cond (in_firstprivate k) Skip (Claim k)
deed Copies k = cond (in_firstprivate k) CopyIn Skip

-- the class that a clause gives its names
abbrev pub class_by : ClauseKind → Class
class_by Shared = shared
class_by Lastprivate = lastprivate
class_by Firstprivate = copied
class_by (Reduction o) = reduction o

-- the names with what is known of them, and those that stood in clauses
pub record Stand : Type 0 where
  pub table : List Entry
  pub names : List (List ℕ)

-- a name as K says, and not among xs
abbrev pub free : (List ℕ → Bool) → List (List ℕ) → List ℕ → Bool
free K xs x = K x && not (any (same x) xs)

abbrev pub is_lastprivate : Class → Bool
is_lastprivate shared = false
is_lastprivate lastprivate = true
is_lastprivate copied = false
is_lastprivate (reduction o) = false

-- whether a name may stand there: it is declared and stood in no clause; it is lastprivate
abbrev pub fits : Deed → Stand → List ℕ → Bool
fits Skip σ x = true
fits (Claim k) σ x = free (λ y. known y σ.table) σ.names x
fits CopyIn σ x = is_lastprivate (find x σ.table).class

-- a name that may gets its class
abbrev pub class_if : Bool → Class → List ℕ → List Entry → List Entry
class_if b c x t = cond b (map (class_to x c) t) t

abbrev pub with_name : Deed → Stand → List ℕ → Stand
with_name Skip σ x = σ
with_name (Claim k) σ x = record { table = class_if (fits (Claim k) σ x) (class_by k) x σ.table; names = σ.names ++ (x ∷ []) }
with_name CopyIn σ x = record { table = class_if (fits CopyIn σ x) copied x σ.table; names = σ.names }

-- names one after the other
abbrev pub all_fit : Deed → Stand → List (List ℕ) → Bool
all_fit d σ [] = true
all_fit d σ (y ∷ ys) = fits d σ y && all_fit d (with_name d σ y) ys

abbrev pub with_names : Deed → Stand → List (List ℕ) → Stand
with_names d σ [] = σ
with_names d σ (y ∷ ys) = with_names d (with_name d σ y) ys

-- the names that are marked as standing in a clause are those among xs
abbrev pub Claimed : List ℕ → List Entry → List (List ℕ) → Type 0
Claimed T t xs = (i : ℕ) → i < length t → is_claimed T i ≡ any (same (get_or t i nowhere).name) xs

-- T stands for the names of σ, of which those that stood in clauses are marked
pub record Marked (T : List ℕ) (σ : Stand) : Type 0 where
  pub table : Tabled T σ.table
  pub claimed : Claimed T σ.table σ.names

-- names ys in a clause, with which d is done
pub record Claiming (d : Deed) (σ : Stand) (most : ℕ) (T' : List ℕ) (rank : ℕ) (ys : List (List ℕ)) : Type 0 where
  pub rank_is : rank ≡ max most (order (all_fit d σ ys) true)
  pub marked : Marked T' (with_names d σ ys)

abbrev pub ClaimsOne : Deed → List ℕ → List ℕ → ℕ → List ℕ → ℕ → Type 0
ClaimsOne d T w most T' rank = (σ : Stand) → Marked T σ → Claiming d σ most T' rank (w ∷ [])
