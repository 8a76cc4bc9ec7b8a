-- The parts of an assignment: what the table says of the left side's name, whether the right side begins with the left one, and the code of an update and
-- of a store.
use Rattle.std.specs.Prelude.{◌≡◌, Bool, false, cond, List, [], ◌∷◌, ◌++◌, ℕ, suc, ◌+◌, ◌-◌, ◌*◌, ◌<◌, max, length, take, drop, Option, Some, None, MatchOption, IfSome}
use Rattle.std.proofs.lemmas.List.Edits.{sets}
use Rattle.rules.specs.declared.Operator.{Operator}
use Rattle.rules.specs.declared.Class.{Class}
use Rattle.rules.specs.declared.Class.TheVariants.{Shared as shared, Lastprivate as lastprivate, Copied as copied, Reduction as reduction}
use Rattle.syntax.specs.Bytes.{same}
use Rattle.syntax.specs.Grammar.{Expr, Ref, show_ref}
use Rattle.syntax.specs.Known.{Entry, find}
use Rattle.syntax.specs.Meaning.{same_ref, repeated}
use Rattle.syntax.specs.Conditions.{mentions, in_ref}
use Rattle.syntax.specs.Reader.{done, peek_in, skip_in, read_expr, read_ref}
use Rattle.syntax.specs.Spelled.{Spells}
use Rattle.code.specs.Instr.{Instr}
use Rattle.code.specs.Compile.{code, code_ref, stores, checks, updates}
use Rattle.names.specs.Table.{variable_of, Tabled}
use Rattle.parts.specs.Answer.{worst, Reads, Within}
use Rattle.parts.specs.Parts.{kind_at, text_at, stands}
use Rattle.parts.specs.declared.Got.{Got}
use Rattle.updates.specs.declared.Left.{Left}
use Rattle.updates.specs.Forms.{IsPast, depth_of, read_rest, IsUpdate}
use Rattle.assignments.specs.declared.Target.{Target}
use Rattle.statements.specs.Statement.{Bounded}

-- ---- the name that is assigned

-- a name's first cell, or its first cell and length in one argument
abbrev pub operand_of : Bool → ℕ → ℕ → ℕ
operand_of b first size = cond b (first + 4096 * size) first

-- the operator of a class that is a reduction's
abbrev pub reduction_of : Class → Option Operator
reduction_of shared = None
reduction_of lastprivate = None
reduction_of copied = None
reduction_of (reduction o) = Some o

-- what the names t and the loop's variable v say of the name x
pub record Named (t : List Entry) (v x : List ℕ) (r : Target) : Type 0 where
  pub reduction : r.reduction ≡ reduction_of (find x t).class
  pub variable : r.variable ≡ same x v
  pub operand : r.operand ≡ operand_of r.subscripted (find x t).first (find x t).size

-- the name that a line begins with
pub record Targets (T s : List ℕ) (r : Target) : Type 0 where
  pub subscripted : r.subscripted ≡ stands 40 (skip_in s)
  pub named : kind_at s 0 ≡ 1 → (t : List Entry) → Tabled T t → Named t (variable_of T) (text_at s 0) r

-- ---- whether it is an update

-- as `Rests`, for a target that need not be a reduction's: the operator of an update, and where its remainder begins
pub record Offers (g : Target) (l : Left) (T s : List ℕ) (from : ℕ) (before after : List ℕ) (r : Option (Operator × Got)) : Type 0 where
  pub found : MatchOption r
      ((t : List Entry) → Tabled T t → (f : ℕ) → 3 * (length s - from) < f → (x : Ref) → Spells peek_in skip_in s (show_ref x) (drop l.end s)
      → (c : Expr) (w : List ℕ) → read_expr peek_in skip_in (suc (suc (suc f))) (drop from s) ≡ done c w
      → (o : Operator) → g.reduction ≡ Some o → same_ref x (repeated o c) ≡ false)
      (λ u. (g.reduction ≡ Some u.0) × IsUpdate u.0 l T s from u.1)
  pub kept : take (2 * l.place) after ≡ take (2 * l.place) before
  pub past : IfSome r (λ u. IsPast s from l.place u.1)

-- ---- code

-- the words of the test of an update's subscript
abbrev pub test_words : Bool → ℕ → ℕ → List ℕ
test_words b line operand = cond b ((12 + 32 * line) ∷ operand ∷ []) []

pub record Tests (b : Bool) (line operand place : ℕ) (before after : List ℕ) (r : ℕ) : Type 0 where
  pub next : r ≡ place + cond b 1 0
  pub written : after ≡ sets before (2 * place) (test_words b line operand)

-- the code of an update once its subscript's stands, and of a store
abbrev pub code_update : List Entry → List ℕ → ℕ → Ref → Expr → List Instr
code_update t v line x e = (checks t v line x ++ code t v line e) ++ (updates t v line x ∷ [])

abbrev pub code_store : List Entry → List ℕ → ℕ → Ref → Expr → List Instr
code_store t v line x e = (code t v line e ++ code_ref t v line x) ++ (stores t v line x ∷ [])

-- the remainder at a place, where x is the left side
pub record Updates (o : Operator) (T s : List ℕ) (at line place most : ℕ) (before after : List ℕ) (r : Option Got) : Type 0 where
  pub reads : (t : List Entry) → Tabled T t → (f : ℕ) → 3 * (length s - at) + 2 < f → (g : ℕ) (x : Ref) (u : List ℕ) → read_ref peek_in skip_in g s ≡ done x u
      → Reads (code_update t (variable_of T) line x) (λ e. worst t (variable_of T) (mentions (depth_of o) e)) s (read_rest o f (drop at s)) place most before
      after r
  pub within : Within s at (place + 2) (suc at) r

-- the right side at a place, where x is the left side
pub record Stores (T s : List ℕ) (at line place most : ℕ) (before after : List ℕ) (r : Option Got) : Type 0 where
  pub reads : (t : List Entry) → Tabled T t → (f : ℕ) → 3 * length s + 2 < f → (x : Ref) (u : List ℕ) → read_ref peek_in skip_in f s ≡ done x u
      → Reads (code_store t (variable_of T) line x) (λ e. max (worst t (variable_of T) (mentions 0 e)) (worst t (variable_of T) (in_ref 0 x))) s
      (read_expr peek_in skip_in f (drop at s)) place most before after r
  pub within : Bounded s place r
