-- The example of RULES 11 of what is printed, and the ends of the range of a cell.
use mathlib.Core.Path.{◌≡◌, refl}
use mathlib.Core.List.{List, [], ◌∷◌, ◌++◌}
use mathlib.Core.Option.{none}
use Prim.Native.Nat.{ℕ}
use Prim.Native.String.{String}
use lib.IntN.{ℤ, pos, negsuc}
use Rattle.rules.specs.declared.Class.TheVariants.{Shared as shared}
use Rattle.syntax.specs.Bytes.{bytes}
use Rattle.syntax.specs.Known.{Entry}
use Rattle.std.specs.Prelude.{Ok, Err}
use Rattle.answers.specs.Answers.{counted, fault_at}
use Rattle.answers.specs.declared.Failure.TheVariants.{Faulted}
use Rattle.answers.specs.declared.Ran.TheVariants.{Passed}
use Rattle.printing.specs.Printed.{digits, signed, newline, comment, values, later, data_lines, report}

abbrev entry : String → ℕ → Entry
entry x c = record { name = bytes x; first = c; extents = 4 ∷ []; size = 4; class = shared; given = none }

abbrev cells : List ℤ
cells = pos 20 ∷ pos 10 ∷ pos 40 ∷ pos 30 ∷ pos 2 ∷ pos 1 ∷ pos 4 ∷ pos 3 ∷ []

pub printed : report (Ok (Passed (counted 4 4))) (entry "a" 0 ∷ entry "k" 4 ∷ []) cells
    ≡ bytes "! passed 4 4" ++ newline ++ bytes "data a /20,10,40,30/" ++ newline ++ bytes "data k /2,1,4,3/" ++ newline
unfolding digits signed comment values later data_lines report
printed = refl

pub refused : report (Err (Faulted (fault_at 9 5 (negsuc 2)))) [] [] ≡ bytes "! refused 9 5 -3" ++ newline
unfolding digits signed comment report
refused = refl

pub lowest : signed (negsuc 2147483647) ≡ bytes "-2147483648"
unfolding digits signed
lowest = refl

pub highest : signed (pos 2147483647) ≡ bytes "2147483647"
unfolding digits signed
highest = refl
