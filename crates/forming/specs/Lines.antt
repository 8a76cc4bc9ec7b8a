-- The lines of an accepted text as they are printed, by their bytes in lower case. Nothing here has to be believed: together they are the printed form
-- (proofs/Whole.antt).
use Rattle.std.specs.Prelude.{◌≡◌, true, false, cond, List, [], ◌++◌, ℕ}
use Rattle.std.proofs.Math.Option.{Option, none, some}
use Rattle.syntax.specs.Bytes.{lines, Token, tokens, skipped_line}
use Rattle.syntax.specs.Grammar.{Line, wd}
use Rattle.syntax.specs.Known.{Open}
use Rattle.syntax.specs.Conditions.{concat, fits}
use Rattle.syntax.specs.Reader.{parse}
use Rattle.syntax.specs.Sane.{Each}
use Rattle.kinds.specs.declared.Kind.{Kind}
use Rattle.kinds.specs.declared.Kind.TheVariants.{Broken, Integer, Data, Opening, Loop, Assignment, If, Else, EndIf, EndDo, Closing}
use Rattle.layout.specs.Copied.{line_bytes}
use Rattle.printed.specs.Form.{closing, formed_line, ended}
use Rattle.forming.specs.declared.Shape.{Shape}
use Rattle.forming.specs.declared.Shape.TheVariants.{Own, Copies, EndIf as IfEnds, EndDo as DoEnds, Nothing}

-- how a line of a kind is printed
abbrev pub shape_by : Kind → Shape
shape_by Broken = Nothing
shape_by Integer = Own
shape_by Data = Copies
shape_by Opening = Own
shape_by Loop = Own
shape_by Assignment = Own
shape_by If = Own
shape_by (Else n) = Own
shape_by (EndIf n j) = IfEnds
shape_by (EndDo n j) = DoEnds
shape_by Closing = Nothing

-- the bytes of it
unfoldable pub shaped : Shape → List Token → List ℕ
shaped Own ts = line_bytes false ts
shaped Copies ts = line_bytes true ts
shaped IfEnds ts = ended (wd "end" ++ wd "if")
shaped DoEnds ts = ended (wd "end" ++ wd "do")
shaped Nothing ts = []

-- a line that follows the grammar, with no repeat of 0
pub record Good (s : List ℕ) : Type 0 where
  pub line : Line
  pub follows : parse (tokens s) ≡ some line
  pub opens : List Open
  pub counted : fits opens line ≡ true

abbrev pub line_form : Option Line → List ℕ
line_form none = []
line_form (some l) = cond (closing l) [] (ended (formed_line l))

-- skipped lines aside
abbrev pub GoodLine : List ℕ → Type 0
GoodLine s = skipped_line s ≡ false → Good s

unfoldable pub line_or_none : List ℕ → List ℕ
line_or_none s = cond (skipped_line s) [] (line_form (parse (tokens s)))

-- whole texts in lower case
abbrev pub GoodLines : List ℕ → Type 0
GoodLines s = Each GoodLine (lines s)

unfoldable pub lines_form : List ℕ → List ℕ
lines_form s = concat line_or_none (lines s)
