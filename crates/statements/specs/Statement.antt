-- What the readers of statements answer and emit, by `read_assign` and `read_when` of `Rattle.syntax.specs.Reader` over a line's bytes.
use Rattle.std.specs.Prelude.{◌≡◌, cond, List, [], ◌++◌, ℕ, ◌+◌, ◌-◌, ◌*◌, ◌≤◌, max, length, take, drop, Option, None, IfSome}
use Rattle.syntax.specs.Bytes.{same}
use Rattle.syntax.specs.Grammar.{assign, when, otherwise, end_if, Line, declare, give, direct, loop, inside, end_do, close}
use Rattle.syntax.specs.Known.{Entry}
use Rattle.syntax.specs.Conditions.{ref_name, in_line}
use Rattle.syntax.specs.Reader.{Parsed, broken, done}
use Rattle.code.specs.Instr.{Instr, words}
use Rattle.code.specs.Compile.{code_assign, code_if}
use Rattle.names.specs.Table.{variable_of, Tabled}
use Rattle.parts.specs.Answer.{worst, Stops}
use Rattle.parts.specs.declared.Got.{Got}

-- the code of a statement that stands on line k; the jump of an `if` is over nothing until the part's end is known
unfoldable pub code_line : List Entry → List ℕ → ℕ → Line → List Instr
code_line t v k (inside (assign r e)) = code_assign t v k r e
code_line t v k (inside (when a rel b)) = code_if t v k a rel b 0
code_line t v k (inside otherwise) = []
code_line t v k (inside (end_if j)) = []
code_line t v k (declare d ds) = []
code_line t v k (give x i is) = []
code_line t v k (direct cs) = []
code_line t v k (loop x l m j n) = []
code_line t v k (end_do j) = []
code_line t v k close = []

-- "v ... assigned" is 3, and so has rank 2
unfoldable pub assigned_rank : List ℕ → Line → ℕ
assigned_rank v (inside (assign r e)) = cond (same (ref_name r) v) 2 0
assigned_rank v (inside (when a rel b)) = 0
assigned_rank v (inside otherwise) = 0
assigned_rank v (inside (end_if j)) = 0
assigned_rank v (declare d ds) = 0
assigned_rank v (give x i is) = 0
assigned_rank v (direct cs) = 0
assigned_rank v (loop x l m j n) = 0
assigned_rank v (end_do j) = 0
assigned_rank v close = 0

-- the rank of a statement: the highest of its mentions, and 2 where it assigns v
abbrev pub rank_line : List Entry → List ℕ → Line → ℕ
rank_line t v l = max (assigned_rank v l) (worst t v (in_line l))

-- None where nothing is read; else the place after what is read, the place in the code after what is emitted, and the rank; up to that place the
-- code is what stood before the first place, and the statement's instructions, two words each.
unfoldable pub Writes : List Entry → List ℕ → ℕ → List ℕ → Parsed (List ℕ) Line → ℕ → List ℕ → List ℕ → Option Got → Type 0
Writes t v k s broken place before after r = r ≡ None
Writes t v k s (done l u) place before after r =
    (u ≡ drop (length s - length u) s)
    × Stops (length s - length u) (place + length (code_line t v k l)) (rank_line t v l) r
    × (take (2 * (place + length (code_line t v k l))) after ≡ take (2 * place) before ++ words (code_line t v k l))

-- in the line, and with at most two instructions for each of its bytes
unfoldable pub Bounded : List ℕ → ℕ → Option Got → Type 0
Bounded s place r = IfSome r (λ g. (g.at ≤ length s) × (g.place ≤ place + 2 * length s))

-- What a reader of statements promises of line k, whose bytes are s, for every table that the words T stand for: with enough fuel it answers as `read`
pub record Compiles (read : ℕ → List ℕ → Parsed (List ℕ) Line) (T s : List ℕ) (k place : ℕ) (before after : List ℕ) (r : Option Got) : Type 0 where
  pub reads : (t : List Entry) → Tabled T t → (f : ℕ) → 3 * length s + 4 ≤ f → Writes t (variable_of T) k s (read f s) place before after r
  pub within : Bounded s place r
