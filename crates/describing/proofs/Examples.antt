-- Bounds and Name by the definitions, of small texts: rows of one table, what the definitions give and what RULES 9.2 says.
use mathlib.Core.Path.{◌≡◌, refl}
use mathlib.Core.List.{List, [], ◌∷◌, map}
use Prim.Native.Nat.{ℕ}
use Prim.Native.String.{String}
use lib.IntN.{ℤ, pos, negsuc}
use Rattle.rules.specs.declared.Class.{Class}
use Rattle.rules.specs.declared.Class.TheVariants.{Shared as shared, Lastprivate as lastprivate, Copied as copied, Reduction as reduction}
use Rattle.rules.specs.declared.Grouping.{Grouping}
use Rattle.rules.specs.declared.Grouping.TheVariants.{Iterations, Blocks}
use Rattle.rules.specs.declared.Operator.TheVariants.{Sum, Product, Maximum}
use Rattle.syntax.specs.Bytes.{bytes, lines, token_size, tokens_after, trimmed}
use Rattle.syntax.specs.Grammar.{number_from}
use Rattle.syntax.specs.Known.{find, class_in, after}
use Rattle.syntax.specs.Conditions.{in_line, names, limits, stands}
use Rattle.syntax.specs.Reader.{read_more, read_declare, read_clauses, read_directive, read_loop, read_end, read_start, read_line, parse}
use Rattle.syntax.specs.Text.{judged, judge_line, judge, read}
use Rattle.syntax.proofs.Quoted.{text}
use Rattle.std.specs.Prelude.{Result, Ok}
use Rattle.answers.specs.declared.Bounds.{Bounds}
use Rattle.answers.specs.declared.Located.{Located}
use Rattle.answers.specs.declared.Refusal.{Refusal}
use Rattle.answers.specs.Answers.{refuse, bounds_of, name_of}
use Rattle.syntax.specs.Bytes as bytes'

-- a loop without statements, of this directive and these bounds
abbrev loop : String → String → List ℕ
loop directive bounds = text ("integer x, a(3)" ∷ "integer s, P(2), m, y" ∷ "integer G(2, 3), h(1, 1)" ∷ directive ∷ bounds ∷ "end do" ∷ [])

abbrev plain : String
plain = "!$omp parallel do num_threads(2) lastprivate(a, y) reduction(+:s) reduction(*:p) reduction(max:m) firstprivate(y)"

abbrev blocks : String
blocks = "!$omp parallel do num_threads(2) schedule(static)"

-- what the definitions give, and what the rules say
pub record Row (A : Type 0) : Type 0 where
  pub got : A
  pub want : A

-- ---- Bounds

abbrev range : ℤ → ℕ → Grouping → Result Bounds Refusal
range m n g = Ok (record { from = m; iterations = n; grouping = g })

abbrev bounds : List ℕ → Result Bounds Refusal → Row (Result Bounds Refusal)
bounds t b = record { got = bounds_of (read t); want = b }

pub bounds_rows : List (Row (Result Bounds Refusal))
bounds_rows =
    bounds (loop plain "do i = 1, 4") (range (pos 1) 4 Iterations)
    ∷ bounds (loop blocks "do i = -3, 3") (range (negsuc 2) 7 Blocks)
    -- one iteration, and none: m is told there too
    ∷ bounds (loop plain "do i = +5, 5") (range (pos 5) 1 Iterations)
    ∷ bounds (loop blocks "do i = 5, 4") (range (pos 5) 0 Blocks)
    -- refusals
    ∷ bounds (loop plain "do x = 1, 4") (refuse 3 5)
    ∷ bounds (loop plain "do i = 1, 65536") (refuse 4 5)
    ∷ bounds [] (refuse 2 1)
    ∷ []

-- ---- Name

abbrev cells : ℕ → ℕ → ℕ → Class → ℕ → ℕ → Result Located Refusal
cells f z k c m n = Ok (record { first = f; count = z; subscripts = k; class = c; rows = m; columns = n })

abbrev named : List ℕ → String → Result Located Refusal → Row (Result Located Refusal)
named t x l = record { got = name_of (read t) (bytes x); want = l }

-- in the loop without iterations
abbrev name : String → Result Located Refusal → Row (Result Located Refusal)
name = named (loop plain "do i = 1, 0")

unfoldable pub name_rows : List (Row (Result Located Refusal))
name_rows =
    -- first cell, how many, how many subscripts, the clause (each of the six), and the extents
    name "x" (cells 0 1 0 shared 0 0)
    ∷ name "a" (cells 1 3 1 lastprivate 3 0)
    ∷ name "s" (cells 4 1 0 (reduction Sum) 0 0)
    ∷ name "p" (cells 5 2 1 (reduction Product) 2 0)
    ∷ name "m" (cells 7 1 0 (reduction Maximum) 0 0)
    ∷ name "y" (cells 8 1 0 copied 0 0)
    -- grids: rows and columns, also of one cell
    ∷ name "g" (cells 9 6 2 shared 2 3)
    ∷ name "h" (cells 15 1 2 shared 1 1)
    -- upper case reads as lower case, in the text and in the name
    ∷ name "P" (cells 5 2 1 (reduction Product) 2 0)
    ∷ name "G" (cells 9 6 2 shared 2 3)
    -- what is not declared: v, a longer and an empty name, one with a blank, one over the room of the table
    ∷ name "i" (refuse 3 0)
    ∷ name "aa" (refuse 3 0)
    ∷ name "" (refuse 3 0)
    ∷ name "a " (refuse 3 0)
    ∷ name "a23456789012345678901234567890123" (refuse 3 0)
    -- refusals of the text come first
    ∷ named (loop plain "do x = 1, 4") "x" (refuse 3 5)
    ∷ named [] "x" (refuse 2 1)
    ∷ []

-- every row gives what the rules say
pub bounds_examples : map (λ (r : Row (Result Bounds Refusal)). r.got) bounds_rows ≡ map (λ (r : Row (Result Bounds Refusal)). r.want) bounds_rows
unfolding bounds_rows lines bytes'.run token_size tokens_after trimmed number_from find class_in after in_line names limits stands read_more read_declare read_clauses
    read_directive read_loop read_end read_start read_line parse judged judge_line judge read bounds_of
bounds_examples = refl

pub name_examples : map (λ (r : Row (Result Located Refusal)). r.got) name_rows ≡ map (λ (r : Row (Result Located Refusal)). r.want) name_rows
unfolding name_rows lines bytes'.run token_size tokens_after trimmed number_from find class_in after in_line names limits stands read_more read_declare read_clauses
    read_directive read_loop read_end read_start read_line parse judged judge_line judge read name_of
name_examples = refl
