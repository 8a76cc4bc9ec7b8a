-- RULES 1.6: what the functions on data items yield.
use Rattle.std.specs.Prelude.{Option, None, Some, ◌≡◌, Bool, true, false, cond, not, ◌&&◌, List, [], ◌∷◌, map, ℕ, suc, ◌+◌, ◌-◌, ◌≤◌, ◌<◌, max, min, ltb, eqb, length, replicate, ℤ}
use Rattle.std.proofs.lemmas.List.Edits.{sets}
use Rattle.syntax.specs.Bytes.{all}
use Rattle.syntax.specs.Grammar.{number, Lead, Item, item}
use Rattle.syntax.specs.Known.{Entry, known, find, give_to, copies, values, total}
use Rattle.syntax.specs.Conditions.{concat, in_item, is_given, small}
use Rattle.syntax.specs.Ranks.{level}
use Rattle.syntax.specs.Reader.{broken, done, Reader, next, read_item, read_data, peek_in, skip_in}
use Rattle.lexer.specs.Places.{Finds, lead_of}
use Rattle.heading.specs.Lists.{read_some, order}
use Rattle.values.specs.declared.Datum.{Datum}
use Rattle.values.specs.declared.Filled.{Filled}
use Rattle.heading.specs.declared.Headed.{Headed}
use Rattle.names.specs.declared.Named.{Named}
use Rattle.names.specs.Table.{Tabled, Unclaimed, Gave}

abbrev pub item_lead : Item → Lead
item_lead (item o l d) = l

abbrev pub item_digits : Item → List ℕ
item_digits (item o l d) = d

-- the code found this item
pub record Itemized (r : Datum) (i : Item) : Type 0 where
  pub copies : r.copies ≡ min (copies i) 2147483648
  pub lead : lead_of r.sign ≡ item_lead i
  pub size : r.size ≡ min (number (item_digits i)) 2147483648

-- "a data repeat of 0 is 2": such an item is broken
abbrev pub counted : Item → Reader (List ℕ) Item
counted i u = cond (ltb 0 (copies i)) (done i u) broken

abbrev pub read_counted : Reader (List ℕ) Item
read_counted u = next (read_item peek_in skip_in u) counted

-- C are the cells of a name: so many copies of x after v values
pub record Placed (C : List ℤ) (v n : ℕ) (x : ℤ) (C' : List ℤ) (r : ℕ) : Type 0 where
  pub many : r ≡ min (v + n) (suc (length C))
  pub cells : v + n ≤ length C → C' ≡ sets C v (replicate n x)
  pub long : length C' ≡ length C

-- an item after v values
pub record Put (C : List ℤ) (v most : ℕ) (C' : List ℤ) (r : Filled) (i : Item) : Type 0 where
  pub rank : level r.rank ≡ max most (order true (all small (in_item i)))
  pub many : r.values ≡ min (v + copies i) (suc (length C))
  pub cells : all small (in_item i) ≡ true → v + copies i ≤ length C → C' ≡ sets C v (values (i ∷ []))

-- items after v values
pub record Puts (C : List ℤ) (v most : ℕ) (C' : List ℤ) (r : Filled) (is : List Item) : Type 0 where
  pub rank : level r.rank ≡ max most (order true (all small (concat in_item is)))
  pub many : r.values ≡ min (v + total copies is) (suc (length C))
  pub cells : all small (concat in_item is) ≡ true → v + total copies is ≤ length C → C' ≡ sets C v (values is)

-- after others that came to b
abbrev pub Items : List ℤ → List ℕ → Filled → List ℤ → Option Filled → Type 0
Items C s b C' o =
    (f : ℕ) → length s - b.next < f → Finds (λ r. r.next) (λ r. Puts C b.values (level b.rank) C' r) s b.next (read_some f read_counted) o

-- whether a name may be given v values
abbrev pub may_take : Option Named → ℕ → Bool
may_take None v = false
may_take (Some n) v = not n.given && eqb v n.size

-- data is given where the rank is 0
pub record Given (T : List ℕ) (o : Option Named) (v most : ℕ) (T' : List ℕ) (r : ℕ) : Type 0 where
  pub rank : r ≡ max most (order (may_take o v) true)
  pub gave : r ≡ 0 → (n : Named) → o ≡ Some n → Gave T n.index T'
  pub left : (r ≡ 0 → ⊥) → T' ≡ T

-- what stands after `data`: the name and the items
abbrev pub read_values : ℕ → Reader (List ℕ) (List ℕ × List Item)
read_values f = read_data peek_in skip_in (read_some f read_counted) (λ x is. (x, is))

-- not "name unknown, ... given data twice, ... data of the wrong count"
abbrev pub may_give : List Entry → List ℕ → List Item → Bool
may_give t x is = known x t && (not (is_given (find x t).given) && eqb (total copies is) (find x t).size)

pub record Gives (t : List Entry) (T : List ℕ) (C : List ℤ) (T' : List ℕ) (C' : List ℤ) (r : Headed) (x : List ℕ) (is : List Item) : Type 0 where
  pub rank : level r.rank ≡ order (may_give t x is) (all small (concat in_item is))
  pub table : level r.rank ≡ 0 → Tabled T' (map (give_to x (values is)) t)
  pub unclaimed : level r.rank ≡ 0 → Unclaimed T (length t) → Unclaimed T' (length t)
  pub cells : level r.rank ≡ 0 → C' ≡ sets C (find x t).first (values is)

abbrev pub Data : List ℕ → List ℤ → List ℕ → ℕ → List ℕ → List ℤ → Option Headed → Type 0
Data T C s at T' C' o =
    (t : List Entry) → Tabled T t → (f : ℕ) → length s - at < f
    → Finds (λ r. r.next) (λ r (x, is). Gives t T C T' C' r x is) s at (read_values f) o
