-- Which kind a line is of, by its first words, and how it is then read.
use Rattle.std.specs.Prelude.{◌≡◌, List, ℕ, ◌≤◌, length, drop}
use Rattle.syntax.specs.Grammar.{Line, otherwise, end_if, inside, end_do}
use Rattle.syntax.specs.Reader.{Parsed, broken, done, Reader, read_declare, read_give, read_opening, read_closing, read_loop, read_assign, read_when, peek_in, skip_in}
use Rattle.kinds.specs.declared.Kind.{Kind}
use Rattle.kinds.specs.declared.Kind.TheVariants.{Broken, Integer, Data, Opening, Loop, Assignment, If, Else, EndIf, EndDo, Closing}

unfoldable pub read_by : Kind → ℕ → Reader (List ℕ) Line
read_by Broken f s = broken
read_by Integer f s = read_declare peek_in skip_in f s
read_by Data f s = read_give peek_in skip_in f s
read_by Opening f s = read_opening peek_in skip_in f s
read_by Loop f s = read_loop peek_in skip_in f s
read_by Assignment f s = read_assign peek_in skip_in f s
read_by If f s = read_when peek_in skip_in f s
read_by (Else n) f s = done (inside otherwise) (drop n s)
read_by (EndIf n j) f s = done (inside (end_if j)) (drop n s)
read_by (EndDo n j) f s = done (end_do j) (drop n s)
read_by Closing f s = read_closing peek_in skip_in s

-- which of 1 to 7 it is
abbrev pub stage_by : Kind → ℕ
stage_by Broken = 0
stage_by Integer = 1
stage_by Data = 2
stage_by Opening = 3
stage_by Loop = 4
stage_by Assignment = 5
stage_by If = 5
stage_by (Else n) = 5
stage_by (EndIf n j) = 5
stage_by (EndDo n j) = 6
stage_by Closing = 7

-- the place after its first words lies in the line
unfoldable pub Inside : List ℕ → Kind → Type 0
Inside s Broken = Unit {0}
Inside s Integer = Unit {0}
Inside s Data = Unit {0}
Inside s Opening = Unit {0}
Inside s Loop = Unit {0}
Inside s Assignment = Unit {0}
Inside s If = Unit {0}
Inside s (Else n) = n ≤ length s
Inside s (EndIf n j) = n ≤ length s
Inside s (EndDo n j) = n ≤ length s
Inside s Closing = Unit {0}

-- `read` reads a line as its kind is read
pub record Kinds (read : ℕ → Parsed (List ℕ) Line) (s : List ℕ) (k : Kind) : Type 0 where
  pub reads : (f : ℕ) → read f ≡ read_by k f s
  pub inside : Inside s k
