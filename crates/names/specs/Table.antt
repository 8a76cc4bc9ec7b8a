-- The name table as the reader holds it: 16 entries for names, one more for the loop's variable, and the number of names.
use Rattle.std.specs.Prelude.{◌≡◌, Bool, true, false, cond, List, [], ◌∷◌, ◌++◌, map, ℕ, zero, suc, ◌+◌, ◌*◌, ◌/◌, ◌%◌, ◌≤◌, ◌<◌, min, eqb, length, get_or, ℤ}
use Rattle.std.proofs.Math.Option.{none}
use Rattle.rules.specs.declared.Class.{Class}
use Rattle.rules.specs.declared.Class.TheVariants.{Shared as shared, Copied as copied}
use Rattle.rules.specs.Numbers.{class_number}
use Rattle.rules.specs.Cells.{listed}
use Rattle.syntax.specs.Bytes.{same}
use Rattle.syntax.specs.Known.{Entry, rows as rows_of, columns as columns_of, named, known, find, nowhere, give_to, with_class}
use Rattle.syntax.specs.Conditions.{is_given}
use Rattle.names.specs.declared.Named.{Named}
use Rattle.names.specs.declared.Shape.{Shape}

-- ---- the layout, in words

-- an entry: room for the bytes of its name, one to a word, then how many bytes, the first cell, how many cells, two extents, and facts
abbrev pub name_words : ℕ
name_words = 32

abbrev pub length_word : ℕ
length_word = 32

abbrev pub first_word : ℕ
first_word = 33

abbrev pub size_word : ℕ
size_word = 34

abbrev pub rows_word : ℕ
rows_word = 35

abbrev pub columns_word : ℕ
columns_word = 36

abbrev pub facts_word : ℕ
facts_word = 37

abbrev pub entry_words : ℕ
entry_words = 38

-- the table
abbrev pub most_names : ℕ
most_names = 16

abbrev pub variable_entry : ℕ
variable_entry = 16

abbrev pub number_word : ℕ
number_word = 646

abbrev pub table_words : ℕ
table_words = 647

-- the word at a place of entry i
abbrev pub word_at : List ℕ → ℕ → ℕ → ℕ
word_at T i k = get_or T (entry_words * i + k) 0

abbrev pub length_at : List ℕ → ℕ → ℕ
length_at T i = word_at T i length_word

abbrev pub first_at : List ℕ → ℕ → ℕ
first_at T i = word_at T i first_word

abbrev pub size_at : List ℕ → ℕ → ℕ
size_at T i = word_at T i size_word

abbrev pub rows_at : List ℕ → ℕ → ℕ
rows_at T i = word_at T i rows_word

abbrev pub columns_at : List ℕ → ℕ → ℕ
columns_at T i = word_at T i columns_word

abbrev pub facts_at : List ℕ → ℕ → ℕ
facts_at T i = word_at T i facts_word

-- the extents that two words stand for: 0 is none
abbrev pub extents_of : ℕ → ℕ → List ℕ
extents_of zero zero = []
extents_of (suc m) zero = suc m ∷ []
extents_of zero (suc n) = zero ∷ suc n ∷ []
extents_of (suc m) (suc n) = suc m ∷ suc n ∷ []

-- facts: 1 it was given data, 2 it stands in a clause, 4 times the number of its class
abbrev pub is_claimed : List ℕ → ℕ → Bool
is_claimed T i = eqb (facts_at T i / 2 % 2) 1

abbrev pub class_at : List ℕ → ℕ → ℕ
class_at T i = facts_at T i / 4

-- the number of names, and how many of them are looked at
abbrev pub number_in : List ℕ → ℕ
number_in T = get_or T number_word 0

abbrev pub count_in : List ℕ → ℕ
count_in T = min (number_in T) most_names

-- ---- names

unfoldable pub name_at : List ℕ → ℕ → List ℕ
name_at T i = listed (length_at T i) (λ k. word_at T i k)

-- the loop's variable
abbrev pub variable_of : List ℕ → List ℕ
variable_of T = name_at T variable_entry

-- entry i stands for e
pub record Row (T : List ℕ) (i : ℕ) (e : Entry) : Type 0 where
  pub name : name_at T i ≡ e.name
  pub first : first_at T i ≡ e.first
  pub size : size_at T i ≡ e.size
  pub extents : extents_of (rows_at T i) (columns_at T i) ≡ e.extents
  pub given : eqb (facts_at T i % 2) 1 ≡ is_given e.given
  pub class : class_at T i ≡ class_number e.class
  pub short : length e.name ≤ name_words

-- the table stands for these names
pub record Tabled (T : List ℕ) (t : List Entry) : Type 0 where
  pub long : table_words ≤ length T
  pub count : number_in T ≡ length t
  pub few : length t ≤ most_names
  pub rows : (i : ℕ) → i < length t → Row T i (get_or t i nowhere)
  pub distinct : (i j : ℕ) → i < j → j < length t → same (get_or t j nowhere).name (get_or t i nowhere).name ≡ false
  pub bounded : (i : ℕ) → i < length t → (get_or t i nowhere).first + (get_or t i nowhere).size ≤ 4096
  pub narrow : (i : ℕ) → i < length t → (rows_of (get_or t i nowhere) ≤ 4096) × (columns_of (get_or t i nowhere) ≤ 4096)

-- none of the first n names stands in a clause, and each is shared
abbrev pub Unclaimed : List ℕ → ℕ → Type 0
Unclaimed T n = (i : ℕ) → i < n → facts_at T i < 2

-- none of the first n entries has the name w
abbrev pub Absent : List ℕ → ℕ → List ℕ → Type 0
Absent T n w = (k : ℕ) → k < n → same w (name_at T k) ≡ false

-- i is the first entry with the name w, of n entries
pub record Found (T : List ℕ) (n : ℕ) (w : List ℕ) (i : ℕ) : Type 0 where
  pub within : i < n
  pub before : Absent T i w
  pub there : same w (name_at T i) ≡ true

-- T' is T with the name w in entry i; the room past the name is as it was
pub record Put (T : List ℕ) (i : ℕ) (w : List ℕ) (T' : List ℕ) : Type 0 where
  pub long : length T' ≡ length T
  pub name : table_words ≤ length T → name_at T' i ≡ w
  pub before : (p : ℕ) → p < entry_words * i → get_or T' p 0 ≡ get_or T p 0
  pub spare : (k : ℕ) → length w ≤ k → k < name_words → word_at T' i k ≡ word_at T i k
  pub after : (p : ℕ) → entry_words * i + first_word ≤ p → get_or T' p 0 ≡ get_or T p 0

-- a declared name
abbrev pub declared : List ℕ → ℕ → Shape → Entry
declared w first z = record { name = w; first = first; extents = extents_of z.rows z.columns; size = z.size; class = shared; given = none }

-- T' is T with a name more, or T where it is full
pub record Added (T w : List ℕ) (first : ℕ) (z : Shape) (T' : List ℕ) : Type 0 where
  pub full : most_names ≤ number_in T → T' ≡ T
  pub variable : length_at T variable_entry ≤ name_words → variable_of T' ≡ variable_of T
  pub table : (t : List Entry) → Tabled T t → length t < most_names → known w t ≡ false → first + z.size ≤ 4096 → z.rows ≤ 4096 → z.columns ≤ 4096
      → Tabled T' (t ++ (declared w first z ∷ []))
  pub unclaimed : (t : List Entry) → Tabled T t → length t < most_names → Unclaimed T (length t) → Unclaimed T' (length t + 1)

-- T' is T with data given to entry i
pub record Gave (T : List ℕ) (i : ℕ) (T' : List ℕ) : Type 0 where
  pub variable : length_at T variable_entry ≤ name_words → variable_of T' ≡ variable_of T
  pub table : (t : List Entry) (vs : List ℤ) → Tabled T t → i < length t → Tabled T' (map (give_to (get_or t i nowhere).name vs) t)
  pub unclaimed : table_words ≤ length T → (n : ℕ) → Unclaimed T n → Unclaimed T' n

-- the entry with the name x has the class c
abbrev pub class_to : List ℕ → Class → Entry → Entry
class_to x c e = cond (named x e) (with_class c e) e

-- T' is T with entry i in a clause, and with the class k
pub record Classed (T : List ℕ) (i : ℕ) (k : Class) (T' : List ℕ) : Type 0 where
  pub variable : length_at T variable_entry ≤ name_words → variable_of T' ≡ variable_of T
  pub here : table_words ≤ length T → is_claimed T' i ≡ true
  pub others : (j : ℕ) → (j ≡ i → ⊥) → facts_at T' j ≡ facts_at T j
  pub table : (t : List Entry) → Tabled T t → i < length t → Tabled T' (map (class_to (get_or t i nowhere).name k) t)

-- T' is T with entry i copied in; whether names stand in a clause stays
pub record CopiedIn (T : List ℕ) (i : ℕ) (T' : List ℕ) : Type 0 where
  pub variable : length_at T variable_entry ≤ name_words → variable_of T' ≡ variable_of T
  pub claimed : table_words ≤ length T → (j : ℕ) → is_claimed T' j ≡ is_claimed T j
  pub table : (t : List Entry) → Tabled T t → i < length t → Tabled T' (map (class_to (get_or t i nowhere).name copied) t)

-- the name w isn't declared: it has no cells, no extents and no data, and is shared
pub record Unknown (t : List Entry) (w : List ℕ) : Type 0 where
  pub known : known w t ≡ false
  pub nowhere : find w t ≡ nowhere

-- n is what is known of the name w, which is declared
pub record Knows (t : List Entry) (w : List ℕ) (n : Named) : Type 0 where
  pub known : known w t ≡ true
  pub first : n.first ≡ (find w t).first
  pub size : n.size ≡ (find w t).size
  pub extents : extents_of n.rows n.columns ≡ (find w t).extents
  pub given : n.given ≡ is_given (find w t).given
  pub class : n.class ≡ (find w t).class

-- and where it stands
pub record Stands (T : List ℕ) (t : List Entry) (w : List ℕ) (n : Named) : Type 0 where
  pub within : n.index < length t
  pub name : (get_or t n.index nowhere).name ≡ w
  pub claimed : n.claimed ≡ is_claimed T n.index
