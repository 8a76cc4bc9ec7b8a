-- Stages and runs of small loops, computed by the definitions.
use mathlib.Core.Path.{◌≡◌, refl}
use mathlib.Core.List.{List, [], ◌∷◌, map}
use Prim.Native.Nat.{ℕ, zero, suc, ◌+◌}
use native.Mathlib.Decide.{ℕ_discrete}
use lib.IntN.{ℤ, pos}
use Rattle.int32.specs.Integers.{word, value, wrap, sum}
use Rattle.rules.specs.declared.Operator.TheVariants.{Sum}
use Rattle.rules.specs.Choose.{pick, put}
use Rattle.rules.specs.Cells.{listed}
use Rattle.rules.specs.declared.Class.TheVariants.{Reduction as reduction}
use Rattle.rules.specs.Loop.{Act, read, write, update, done, Loop}
use Rattle.rules.specs.Log.{only}
use Rattle.rules.specs.Serial.{Result, along, from, serial}
use Rattle.rules.specs.Decide.{change, either?, both?, find, kind?, has?}
use Rattle.rules.specs.Marks.{weight}
use Rattle.reorder.specs.Depends.{changes?, touches?, at?, meet?, depends?}
use Rattle.reorder.specs.Stages.{greatest, behind, stages, stage, stage_count, used?, different, plan_count}
use Rattle.reorder.specs.Whole.{whole, joined, followed, in_order}
use Rattle.reorder.specs.StageTable.{latest, opened, needs, marked, note, close, noted, swept}

-- iteration 0 writes cell 0; 1 reads it and writes cell 1; 2 adds to cell 0; 3 writes cell 2
tasks : ℕ → Act
tasks zero = write 0 (pos 5) done
tasks (suc zero) = read 0 (λ x. write 1 x done)
tasks (suc (suc zero)) = update 0 (pos 3) done
tasks (suc (suc (suc i))) = write 2 (pos 7) done

-- over cells that begin with 1
abbrev four : Loop
four = record { size = 3; iterations = 4; body = tasks; class = λ c. reduction Sum; entry = λ c. pos 1 }

pub data Shown : Type 0 where
  numbers : List ℕ → Shown
  cells : List ℤ → Shown

pub record Row : Type 0 where
  pub got : Shown
  pub want : Shown

abbrev row : Shown → Shown → Row
row a b = record { got = a; want = b }

abbrev left : Result → Shown
left r = cells (listed 3 r.cells)

-- the stages, and by the table; their number, by the table, and that of another plan; the serial cells, and those of an order by stages and of one that is none
pub rows : List Row
rows =
    row (numbers (listed 4 (stage (serial four).log))) (numbers (1 ∷ 2 ∷ 3 ∷ 1 ∷ []))
    ∷ row (numbers (listed 4 (swept (serial four).log 4).stages)) (numbers (1 ∷ 2 ∷ 3 ∷ 1 ∷ []))
    ∷ row (numbers (stage_count (serial four).log 4 ∷ (swept (serial four).log 4).count ∷ plan_count 4 (λ i. i + i) ∷ [])) (numbers (3 ∷ 3 ∷ 4 ∷ []))
    ∷ row (left (serial four)) (cells (pos 8 ∷ pos 5 ∷ pos 7 ∷ []))
    ∷ row (left (in_order (whole four) (3 ∷ 0 ∷ 1 ∷ 2 ∷ []) four.entry)) (cells (pos 8 ∷ pos 5 ∷ pos 7 ∷ []))
    ∷ row (left (in_order (whole four) (0 ∷ 2 ∷ 1 ∷ 3 ∷ []) four.entry)) (cells (pos 8 ∷ pos 8 ∷ pos 7 ∷ []))
    ∷ []

-- every row gives what is wanted
pub examples : map (λ (r : Row). r.got) rows ≡ map (λ (r : Row). r.want) rows
unfolding rows tasks word value wrap sum pick put listed only along from serial change either? both? find kind? has? weight ℕ_discrete changes? touches?
    at? meet? depends? greatest behind stages stage stage_count used? different plan_count whole joined followed in_order latest opened needs marked note
    close noted swept
examples = refl
