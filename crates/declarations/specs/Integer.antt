-- RULES 1.5: what the functions on declared names yield.
use Rattle.std.specs.Prelude.{◌≡◌, Bool, true, false, not, ◌&&◌, ◌||◌, List, ◌++◌, map, ℕ, ◌+◌, ◌-◌, ◌≤◌, ◌<◌, max, min, leb, length, get_or, drop, Option}
use Rattle.syntax.specs.Bytes.{all, any, same, between}
use Rattle.syntax.specs.Grammar.{Declared}
use Rattle.syntax.specs.Known.{Entry, known, declared_name, declared_extents, declared_size, total, entries}
use Rattle.syntax.specs.Conditions.{different}
use Rattle.syntax.specs.Ranks.{level}
use Rattle.syntax.specs.Reader.{done, read_more, read_declared, peek_in, skip_in}
use Rattle.lexer.specs.Lex.{part}
use Rattle.lexer.specs.Places.{Finds}
use Rattle.names.specs.declared.Shape.{Shape}
use Rattle.names.specs.Table.{Tabled, Unclaimed, Added}
use Rattle.heading.specs.Lists.{read_some, order}
use Rattle.declarations.specs.declared.Item.{Item}
use Rattle.declarations.specs.declared.Listed.{Listed}

-- the shape of a declared name as the code holds it: cells up to one over the limit, and extents up to 2^31
abbrev pub shape_of : Declared → Shape
shape_of d = record {
  size = min (declared_size d) 4097;
  rows = min (get_or (declared_extents d) 0 0) 2147483648;
  columns = min (get_or (declared_extents d) 1 0) 2147483648;
}

-- the code found this declared name
pub record Declares (s : List ℕ) (r : Item) (d : Declared) : Type 0 where
  pub name : declared_name d ≡ part s r.start r.stop
  pub order : r.start ≤ r.stop
  pub inside : r.stop ≤ length s
  pub short : length (declared_name d) ≤ 31
  pub shape : r.shape ≡ shape_of d

-- further declared names follow at a place
abbrev pub Follow : List ℕ → ℕ → List Declared → Type 0
Follow s at ds = (f : ℕ) × (u : List ℕ) × (read_more peek_in skip_in f (read_declared peek_in skip_in) (drop at s) ≡ done ds u)

abbrev pub names_of : List Declared → List (List ℕ)
names_of = map declared_name

abbrev pub Later : List ℕ → ℕ → List ℕ → Bool → Type 0
Later s at w r = (ds : List Declared) → Follow s at ds → r ≡ any (same w) (names_of ds)

pub record Repeated (T s : List ℕ) (at : ℕ) (w : List ℕ) (r : Bool) : Type 0 where
  pub before : (t : List Entry) → Tabled T t → known w t ≡ true → r ≡ true
  pub either : (t : List Entry) → Tabled T t → (ds : List Declared) → Follow s at ds → r ≡ known w t || any (same w) (names_of ds)

-- a name in order, of rank 0, is added
pub record Enters (T w : List ℕ) (c : ℕ) (z : Shape) (rank : ℕ) (T' : List ℕ) (r : ℕ) : Type 0 where
  pub added : rank ≡ 0 → Added T w c z T'
  pub more : rank ≡ 0 → r ≡ c + z.size
  pub left : (rank ≡ 0 → ⊥) → T' ≡ T
  pub same : (rank ≡ 0 → ⊥) → r ≡ c

-- n names and c cells before a declared name of size z: it is within the limits
abbrev pub fits : ℕ → ℕ → ℕ → Bool
fits n c z = between 1 4096 z && (leb (c + z) 4096 && leb (n + 1) 16)

-- one declared name, after c cells: its rank by the names before it and those that follow
pub record Entered (T s : List ℕ) (c most : ℕ) (T' : List ℕ) (r : Listed) (d : Declared) : Type 0 where
  pub rank : (t : List Entry) → Tabled T t → (ds : List Declared) → Follow s r.next ds
      → level r.rank ≡ max most (order (not (known (declared_name d) t || any (same (declared_name d)) (names_of ds))) (fits (length t) c (declared_size d)))
  pub fresh : level r.rank ≡ 0 → (t : List Entry) → Tabled T t → (most ≡ 0) × (known (declared_name d) t ≡ false) × (fits (length t) c (declared_size d) ≡ true)
  pub enters : Enters T (declared_name d) c (shape_of d) (level r.rank) T' r.cells

-- no name twice, and none that is declared
abbrev pub apart : List Entry → List Declared → Bool
apart t ds = different (names_of ds) && not (any (λ x. known x t) (names_of ds))

-- sizes, cells and names within their limits, after c cells
abbrev pub fit : List Entry → ℕ → List Declared → Bool
fit t c ds = leb (length t + length ds) 16 && (all (λ d. between 1 4096 (declared_size d)) ds && leb (c + total declared_size ds) 4096)

-- what declared names come to
pub record Enlists (t : List Entry) (T : List ℕ) (c most : ℕ) (T' : List ℕ) (r : Listed) (ds : List Declared) : Type 0 where
  pub rank : level r.rank ≡ max most (order (apart t ds) (fit t c ds))
  pub cells : level r.rank ≡ 0 → r.cells ≡ c + total declared_size ds
  pub table : level r.rank ≡ 0 → Tabled T' (t ++ entries c ds)
  pub unclaimed : level r.rank ≡ 0 → Unclaimed T (length t) → Unclaimed T' (length t + length ds)

-- after others that came to b
abbrev pub Integers : List ℕ → List ℕ → Listed → List ℕ → Option Listed → Type 0
Integers T s b T' o =
    (t : List Entry) → Tabled T t → (f : ℕ) → length s - b.next < f
    → Finds (λ r. r.next) (λ r. Enlists t T b.cells (level b.rank) T' r) s b.next (read_some f (read_declared peek_in skip_in)) o
