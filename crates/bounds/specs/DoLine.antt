-- RULES 1.8: what the functions on the loop's bounds yield.
use Rattle.std.specs.Prelude.{Option, ◌≡◌, not, ◌&&◌, List, ℕ, suc, ◌+◌, ◌-◌, ◌≤◌, min, leb, length, ℤ, pos, negsuc}
use Rattle.syntax.specs.Grammar.{number, Lead}
use Rattle.syntax.specs.Known.{Entry, known, signed, iterations}
use Rattle.syntax.specs.Ranks.{level}
use Rattle.syntax.specs.Reader.{Reader, read_bounds, peek_in, skip_in}
use Rattle.lexer.specs.Lex.{part}
use Rattle.lexer.specs.Places.{Finds, lead_of}
use Rattle.names.specs.Table.{variable_of, Tabled, length_at, variable_entry, name_words}
use Rattle.heading.specs.Lists.{order}
use Rattle.bounds.specs.declared.Bounds.{Bounds}
use Rattle.bounds.specs.declared.Looped.{Looped}

-- the name and the bounds, with their signs
pub record Ends : Type 0 where
  pub name : List ℕ
  pub lead : Lead
  pub first : List ℕ
  pub last_lead : Lead
  pub last : List ℕ

abbrev pub read_ends : Reader (List ℕ) Ends
read_ends = read_bounds peek_in skip_in (λ v l m k n. record { name = v; lead = l; first = m; last_lead = k; last = n })

-- the code found these
pub record Found (s : List ℕ) (r : Bounds) (e : Ends) : Type 0 where
  pub name : e.name ≡ part s r.start r.stop
  pub order : r.start ≤ r.stop
  pub inside : r.stop ≤ length s
  pub short : length e.name ≤ 31
  pub lead : lead_of r.lead ≡ e.lead
  pub size : r.first ≡ min (number e.first) 2147483648
  pub last_lead : lead_of r.tail ≡ e.last_lead
  pub last_size : r.last ≡ min (number e.last) 2147483648

-- a number from -2^31 on, and 2^31
abbrev pub raise : ℤ → ℕ
raise (pos n) = 2147483648 + n
raise (negsuc n) = 2147483648 - suc n

abbrev pub from_of : Ends → ℤ
from_of e = signed e.lead (number e.first)

abbrev pub count_of : Ends → ℕ
count_of e = iterations (from_of e) (signed e.last_lead (number e.last))

pub record Looping (t : List Entry) (T' : List ℕ) (r : Looped) (e : Ends) : Type 0 where
  pub rank : level r.rank ≡ order (not (known e.name t)) ((leb (number e.first) 2147483647 && leb (number e.last) 2147483647) && leb (count_of e) 65535)
  pub from : level r.rank ≡ 0 → r.from ≡ from_of e
  pub count : level r.rank ≡ 0 → r.count ≡ count_of e
  pub few : level r.rank ≡ 0 → r.count ≤ 65535
  pub table : Tabled T' t
  pub variable : variable_of T' ≡ e.name
  pub short : length_at T' variable_entry ≤ name_words

abbrev pub Do : List ℕ → List ℕ → ℕ → List ℕ → Option Looped → Type 0
Do T s at T' o = (t : List Entry) → Tabled T t → Finds (λ r. r.next) (Looping t T') s at read_ends o
