-- The classes of cells.
use Rattle.std.specs.Prelude.{◌≡◌, List, ℕ, ◌+◌, ◌≤◌, ◌<◌, min, length, get_or}
use Rattle.syntax.specs.Known.{Entry}
use Rattle.syntax.specs.Meaning.{class_of}
use Rattle.rules.specs.declared.Class.{Class}
use Rattle.rules.specs.declared.Class.TheVariants.{Shared as shared}
use Rattle.rules.specs.Numbers.{class_by}
use Rattle.names.specs.Table.{first_at, size_at, class_at, Tabled}

-- C is `before` with x from a up to e
pub record Filled (before : List Class) (a e : ℕ) (x : Class) (C : List Class) : Type 0 where
  pub size : length C ≡ length before
  pub inside : (c : ℕ) → a ≤ c → c < e → get_or C c shared ≡ x
  pub outside : (c : ℕ) → (a ≤ c → c < e → ⊥) → get_or C c shared ≡ get_or before c shared

-- with the class of entry i for those of its cells that are below n
abbrev pub Marked : List ℕ → ℕ → ℕ → List Class → List Class → Type 0
Marked T i n before C = Filled before (first_at T i) (min (first_at T i + size_at T i) n) (class_by (class_at T i)) C

-- the first n of C are the classes of the cells, by the names that T stands for; the others are as they were
pub record Classifies (T : List ℕ) (n : ℕ) (before C : List Class) : Type 0 where
  pub size : length C ≡ length before
  pub classes : (t : List Entry) → Tabled T t → (c : ℕ) → c < n → get_or C c shared ≡ class_of t c
  pub others : (c : ℕ) → n ≤ c → get_or C c shared ≡ get_or before c shared
