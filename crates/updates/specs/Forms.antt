-- The parts of an update's right side, as the code finds them by the readers of `Rattle.syntax.specs.Reader` over what is left of a line's bytes.
use Rattle.std.specs.Prelude.{◌≡◌, Bool, true, false, ◌&&◌, ◌||◌, not, List, ℕ, suc, ◌+◌, ◌-◌, ◌*◌, ◌≤◌, ◌<◌, max, length, take, drop, Option, None, IfSome, MatchOption}
use Rattle.std.proofs.Math.Option.{some}
use Rattle.rules.specs.declared.Operator.{Operator}
use Rattle.rules.specs.declared.Operator.TheVariants.{Sum, Product, Maximum}
use Rattle.syntax.specs.Grammar.{Expr, Term, term, Ref, show_ref}
use Rattle.syntax.specs.Known.{Entry}
use Rattle.syntax.specs.Meaning.{alike, times, same_ref, repeated, remainder}
use Rattle.syntax.specs.Conditions.{mentions, in_ref}
use Rattle.syntax.specs.Ranks.{level}
use Rattle.syntax.specs.Reader.{Parsed, broken, done, next, expects, peek_in, skip_in, read_expr, read_term, read_ref}
use Rattle.syntax.specs.Spelled.{Spells}
use Rattle.names.specs.Table.{variable_of, Tabled}
use Rattle.parts.specs.Answer.{worst, Stops}
use Rattle.parts.specs.Parts.{stands}
use Rattle.parts.specs.declared.Got.{Got}
use Rattle.updates.specs.declared.Left.{Left}

-- ---- signs

-- + or - stands there; * or / does; none of them
abbrev pub signs : List ℕ → Bool
signs u = stands 43 u || stands 45 u

abbrev pub scales : List ℕ → Bool
scales u = stands 42 u || stands 47 u

abbrev pub ends : List ℕ → Bool
ends u = not (scales u) && not (signs u)

-- ---- the left side's reference

-- None where it is none; else the place u after it and the worst rank so far
unfoldable pub Found : Bool → List ℕ → List ℕ → ℕ → ℕ → Option Got → Type 0
Found false s u place rank r = r ≡ None
Found true s u place rank r = (a : ℕ) × Stops a place rank r × (u ≡ drop a s)

-- x is the left side; a reference is read, or none
unfoldable pub Met : ℕ → List Entry → List ℕ → List ℕ → Ref → Parsed (List ℕ) Ref → ℕ → ℕ → Option Got → Type 0
Met depth t v s x broken place most r = r ≡ None
Met depth t v s x (done y u) place most r = Found (alike (show_ref x) (show_ref y)) s u place (max most (worst t v (in_ref depth y))) r

-- the place that is answered lies after another
pub record IsPast (s : List ℕ) (at place : ℕ) (g : Got) : Type 0 where
  pub after : at < g.at
  pub within : g.at ≤ length s
  pub place_is : g.place ≡ place

abbrev pub Past : List ℕ → ℕ → ℕ → Option Got → Type 0
Past s at place r = IfSome r (IsPast s at place)

pub record Repeated (depth : ℕ) (l : Left) (T s : List ℕ) (at : ℕ) (before after : List ℕ) (r : Option Got) : Type 0 where
  pub met : (t : List Entry) → Tabled T t → (f : ℕ) → 3 * (length s - at) < f → (x : Ref) → Spells peek_in skip_in s (show_ref x) (drop l.end s)
      → Met depth t (variable_of T) s x (read_ref peek_in skip_in f (drop at s)) l.place (level l.rank) r
  pub kept : take (2 * l.place) after ≡ take (2 * l.place) before
  pub past : Past s at l.place r

-- ---- the rest of a product, and of a maximum

-- * alone joins the factors of the term that is read, and no term follows
abbrev pub timed : Parsed (List ℕ) Term → Bool
timed broken = false
timed (done (term x xs) u) = times xs && not (signs u)

abbrev pub Timed : List ℕ → List ℕ → ℕ → Bool → Type 0
Timed T s at r = (t : List Entry) → Tabled T t → (f : ℕ) → 3 * (length s - at) + 1 < f → r ≡ timed (read_term peek_in skip_in f (drop at s))

-- a bracket follows the expression that is read, and nothing more
abbrev pub closed : Parsed (List ℕ) Expr → Bool
closed broken = false
closed (done e u) = stands 41 u && ends (skip_in u)

abbrev pub Closed : List ℕ → List ℕ → ℕ → Bool → Type 0
Closed T s at r = (t : List Entry) → Tabled T t → (f : ℕ) → 3 * (length s - at) + 2 < f → r ≡ closed (read_expr peek_in skip_in f (drop at s))

-- ---- the remainder

-- how many brackets are open around it
abbrev pub depth_of : Operator → ℕ
depth_of Sum = 0
depth_of Product = 0
depth_of Maximum = 1

-- what is read as such; that of a maximum with its bracket
abbrev pub read_rest : Operator → ℕ → List ℕ → Parsed (List ℕ) Expr
read_rest Sum f u = read_expr peek_in skip_in f u
read_rest Product f u = read_expr peek_in skip_in f u
read_rest Maximum f u = next (read_expr peek_in skip_in f u) (λ e v. next (expects peek_in skip_in ")" v) (λ _ w. done e w))

-- the right side, read from one place with fuel f, is that of an update whose remainder is read from a on; z is the highest rank before the remainder
pub record Remains (o : Operator) (t : List Entry) (v s : List ℕ) (x : Ref) (f from a most z : ℕ) : Type 0 where
  pub ref : Ref
  pub fuel : ℕ
  pub enough : 3 * (length s - a) + 2 < fuel
  pub same : alike (show_ref x) (show_ref ref) ≡ true
  pub unread : read_rest o fuel (drop a s) ≡ broken → read_expr peek_in skip_in (suc (suc (suc f))) (drop from s) ≡ broken
  pub read : (m : Expr) (w : List ℕ) → read_rest o fuel (drop a s) ≡ done m w
      → (e : Expr) × (read_expr peek_in skip_in (suc (suc (suc f))) (drop from s) ≡ done e w) × (repeated o e ≡ some ref) × (remainder o e ≡ m)
      × (max z (worst t v (mentions (depth_of o) m)) ≡ max most (worst t v (mentions 0 e)))

-- the right side, from a place on, is that of no update of the left side by o
abbrev pub NoUpdate : Operator → Left → List ℕ → List ℕ → ℕ → Type 0
NoUpdate o l T s from =
    (t : List Entry) → Tabled T t → (f : ℕ) → 3 * (length s - from) < f → (x : Ref) → Spells peek_in skip_in s (show_ref x) (drop l.end s)
    → (c : Expr) (w : List ℕ) → read_expr peek_in skip_in (suc (suc (suc f))) (drop from s) ≡ done c w → same_ref x (repeated o c) ≡ false

-- it is, and its remainder begins where g stopped
abbrev pub IsUpdate : Operator → Left → List ℕ → List ℕ → ℕ → Got → Type 0
IsUpdate o l T s from g =
    (t : List Entry) → Tabled T t → (f : ℕ) → 3 * (length s - from) < f → (x : Ref) → Spells peek_in skip_in s (show_ref x) (drop l.end s)
    → Remains o t (variable_of T) s x f from g.at (level l.rank) (level g.rank)

-- whether the right side, from a place on, is that of an update by o, and where its remainder begins
pub record Rests (o : Operator) (l : Left) (T s : List ℕ) (from : ℕ) (before after : List ℕ) (r : Option Got) : Type 0 where
  pub found : MatchOption r (NoUpdate o l T s from) (IsUpdate o l T s from)
  pub kept : take (2 * l.place) after ≡ take (2 * l.place) before
  pub past : Past s from l.place r
