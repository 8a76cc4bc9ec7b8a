-- What the functions below the readers answer: tokens passed over, signs, how a factor begins, and instructions emitted after what was read.
use Rattle.std.specs.Prelude.{◌≡◌, Bool, true, cond, ◌&&◌, not, List, [], ◌∷◌, ℕ, zero, suc, ◌+◌, ◌*◌, ◌≤◌, min, max, leb, eqb, length, drop, Option, Some, None, MatchOption}
use Rattle.std.proofs.lemmas.List.Edits.{sets}
use Rattle.syntax.specs.declared.Function.{Function}
use Rattle.syntax.specs.declared.Function.TheVariants.{Rdiv, Max}
use Rattle.syntax.specs.Bytes.{letter, digit, same, sign}
use Rattle.syntax.specs.Grammar.{number, Lead, bare, plus, minus}
use Rattle.syntax.specs.Known.{Entry, rows, columns, find}
use Rattle.syntax.specs.Conditions.{refers, digits, rightly, small}
use Rattle.syntax.specs.Reader.{done, is, kind, text, sees, says, is_digits, peek_in, skip_in}
use Rattle.code.specs.Instr.{Instr, push, push_v, load, load_at, flatten, operation, argument}
use Rattle.names.specs.Table.{variable_of, Tabled}
use Rattle.syntax.specs.declared.Rank.{Rank}
use Rattle.syntax.specs.Ranks.{level}
use Rattle.parts.specs.Answer.{rank_of, Reads, Lies}
use Rattle.parts.specs.declared.Got.{Got}
use Rattle.parts.specs.declared.Joint.{Joint}
use Rattle.parts.specs.declared.Joint.TheVariants.{Neither, First, Second}
use Rattle.parts.specs.declared.Joined.{Joined}
use Rattle.parts.specs.declared.Beginning.{Beginning}
use Rattle.parts.specs.declared.Beginning.TheVariants.{Literal, Bracket, Call, Name, Element}
use Rattle.parts.specs.declared.Begun.{Begun}
use Rattle.parts.specs.declared.Fetch.{Fetch}
use Rattle.parts.specs.declared.Fetch.TheVariants.{Cell, Indexed, Place}
use Rattle.parts.specs.declared.Words.{Words}

-- ---- tokens

-- the kind and the bytes of the token at a place
abbrev pub kind_at : List ℕ → ℕ → ℕ
kind_at s at = kind (peek_in (drop at s))

abbrev pub text_at : List ℕ → ℕ → List ℕ
text_at s at = text (peek_in (drop at s))

-- what is left after k tokens
abbrev pub skipped : ℕ → List ℕ → List ℕ
skipped zero u = u
skipped (suc k) u = skipped k (skip_in u)

-- k tokens lie between two places
pub record Passes (k : ℕ) (s : List ℕ) (at next : ℕ) : Type 0 where
  pub left : drop next s ≡ skipped k (drop at s)
  pub from : at + k ≤ next
  pub within : next ≤ length s

-- a byte that begins neither a word nor digits
abbrev pub Sign : ℕ → Type 0
Sign c = not (letter c) && not (digit c) ≡ true

-- the sign c stands there
abbrev pub stands : ℕ → List ℕ → Bool
stands c u = is (sign (c ∷ [])) (peek_in u)

-- which of two signs stands there
abbrev pub either : Bool → Bool → Joint
either p q = cond p First (cond q Second Neither)

-- with how many tokens
abbrev pub joined : Joint → ℕ
joined Neither = 0
joined First = 1
joined Second = 1

-- x after the first of two signs, y after the second
abbrev pub chosen : {A : Type 0} → Joint → A → A → A
chosen Neither x y = y
chosen First x y = x
chosen Second x y = y

-- the lead of an expression, by + and -
abbrev pub lead_by : Joint → Lead
lead_by Neither = bare
lead_by First = plus
lead_by Second = minus

-- which of two signs stands at a place; the place after it, or the place itself
pub record Joins (a b : ℕ) (s : List ℕ) (at : ℕ) (r : Joined) : Type 0 where
  pub joint : r.joint ≡ either (stands a (drop at s)) (stands b (drop at s))
  pub next : Passes (joined r.joint) s at r.next

-- how a factor begins, where one does
abbrev pub begins : List ℕ → Option Beginning
begins u =
    cond (is_digits peek_in skip_in u) (Some Literal)
    (cond (sees peek_in skip_in "(" u) (Some Bracket)
    (cond (says peek_in skip_in "rdiv" u) (cond (sees peek_in skip_in "(" (skip_in u)) (Some (Call Rdiv)) None)
    (cond (says peek_in skip_in "max" u) (cond (sees peek_in skip_in "(" (skip_in u)) (Some (Call Max)) None)
    (cond (eqb (kind (peek_in u)) 1) (cond (sees peek_in skip_in "(" (skip_in u)) (Some Element) (Some Name)) None))))

-- with how many tokens
abbrev pub begun : Beginning → ℕ
begun Literal = 1
begun Bracket = 1
begun (Call f) = 2
begun Name = 1
begun Element = 2

-- a function with its bracket, which ends at `past`, or without
abbrev pub called_at : Function → Bool → ℕ → Option Begun
called_at f b past = cond b (Some (record { beginning = Call f; next = past })) None

-- a factor begins so at a place
pub record Opens (s : List ℕ) (at : ℕ) (b : Begun) : Type 0 where
  pub beginning : begins (drop at s) ≡ Some b.beginning
  pub next : Passes (begun b.beginning) s at b.next

abbrev pub Begins : List ℕ → ℕ → Option Begun → Type 0
Begins s at r = MatchOption r (begins (drop at s) ≡ None) (Opens s at)

-- the sign c, after what g had read, is read by h too
pub record Closes (c : ℕ) (s : List ℕ) (g h : Got) : Type 0 where
  pub stood : stands c (drop g.at s) ≡ true
  pub passed : Passes 1 s g.at h.at
  pub place : h.place ≡ g.place
  pub rank : h.rank ≡ g.rank

-- ---- names

-- whether a name may have k subscripts
abbrev pub Fits : List ℕ → List ℕ → ℕ → Bool → Type 0
Fits T w k r = (t : List Entry) → Tabled T t → r ≡ rightly t (variable_of T) (refers w k)

-- r is the worst rank with it
abbrev pub Ranked : List ℕ → List ℕ → ℕ → Rank → Rank → Type 0
Ranked T w k most r = (t : List Entry) → Tabled T t → level r ≡ max (level most) (rank_of t (variable_of T) (refers w k))

-- the instruction of a name: the read of its cell, that of an element, the place of a grid's two subscripts
abbrev pub reads_of : List Entry → List ℕ → ℕ → List ℕ → Fetch → Instr
reads_of t v line x Cell = cond (same x v) push_v (load (find x t).first)
reads_of t v line x Indexed = load_at (find x t).first (find x t).size line
reads_of t v line x Place = flatten (rows (find x t)) (columns (find x t)) line

-- w are the words of that instruction
abbrev pub Worded : List ℕ → ℕ → List ℕ → Fetch → Words → Type 0
Worded T line x b w =
    (t : List Entry) → Tabled T t
    → (w.operation ≡ operation (reads_of t (variable_of T) line x b)) × (w.argument ≡ argument (reads_of t (variable_of T) line x b))

-- a first cell and a length in one argument, where both are within the limits
abbrev pub span_of : ℕ → ℕ → ℕ
span_of first size = cond (leb first 4096 && leb size 4096) (first + 4096 * size) 0

-- two extents in one argument, where both are within the limits
abbrev pub extents_argument : ℕ → ℕ → ℕ
extents_argument m n = cond (leb m 4096 && leb n 4096) (m + 8192 * n) 0

-- ---- instructions after what was read

-- k instructions with these words after what was read
pub record Emits (k : ℕ) (ws : List ℕ) (g : Got) (before after : List ℕ) (r : Got) : Type 0 where
  pub at : r.at ≡ g.at
  pub place : r.place ≡ g.place + k
  pub rank : r.rank ≡ g.rank
  pub written : after ≡ sets before (2 * g.place) ws

-- the instruction of the name at a place, after what was read
pub record Fetches (T s : List ℕ) (at line : ℕ) (b : Fetch) (g : Got) (before after : List ℕ) (r : Got) : Type 0 where
  pub words : Words
  pub right : Worded T line (text_at s at) b words
  pub emits : Emits 1 (words.operation ∷ words.argument ∷ []) g before after r

-- ---- factors of one token

-- the instruction of a literal, and its rank
abbrev pub pushes : List ℕ → List Instr
pushes d = push (min (number d) 2147483648) ∷ []

abbrev pub literal_rank : List ℕ → ℕ
literal_rank d = cond (small (digits d)) 0 1

-- a literal at a place
pub record Pushes (s : List ℕ) (at place most : ℕ) (before after : List ℕ) (r : Got) : Type 0 where
  pub reads : Reads pushes literal_rank s (done (text_at s at) (skip_in (drop at s))) place most before after (Some r)
  pub within : Lies s at place (suc at) r

-- a name without a subscript at a place
pub record Loads (T s : List ℕ) (at line place most : ℕ) (before after : List ℕ) (r : Got) : Type 0 where
  pub reads : (t : List Entry) → Tabled T t
      → Reads (λ x. reads_of t (variable_of T) line x Cell ∷ []) (λ x. rank_of t (variable_of T) (refers x 0)) s
      (done (text_at s at) (skip_in (drop at s))) place most before after (Some r)
  pub within : Lies s at place (suc at) r
