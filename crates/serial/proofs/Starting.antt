-- The serial run may begin where the trial may.
use mathlib.Core.Path.{refl}
use mathlib.Core.List.{List}
use Prim.Native.Nat.{ℕ, ◌+◌, ◌*◌, ◌≤◌}
use native.Mathlib.Nat.{mul-le-mul_left}
use native.Mathlib.Omega.{arith}
use lib.IntN.{ℤ}
use Rattle.rules.specs.declared.Class.{Class}
use Rattle.rules.specs.Loop.{Loop, Partition}
use Rattle.rules.specs.Blocks.{singles}
use Rattle.rules.proofs.BlocksLaws.{singles_proper}
use Rattle.trial.specs.declared.Setting.{Setting}
use Rattle.trial.specs.Standing.{Suits}
use Rattle.trial.specs.Running.{dealt}
use Rattle.trial.specs.Start.{Starts}
use Rattle.serial.specs.Serving.{by_one, Serials}

-- one processor suits where several do
pub suits_one : (k : ℕ) (l : Loop) (δ : Partition) → Suits k l δ → Suits 1 l (by_one l)
unfolding singles
suits_one k l δ h =
    let p = h.proper in
    record {
      proper = singles_proper l 1 (omega arith) p.sums p.sized;
      processors = refl;
      cells_most = h.cells_most;
      iterations_most = h.iterations_most;
      groups_most = h.iterations_most;
      some = omega arith;
      most = omega arith;
    }

-- the serial run may begin where the trial may
pub serials_of : (code : List ℕ) (g : Setting) (l : Loop) (M : List ℤ) (C : List Class) (n : ℕ) → Starts code g l M C n → Serials code g l M C n
serials_of code g l M C n h =
    let e = h.entry in
    let q : 6 + 5 * 1 ≤ 6 + 5 * g.processors = omega (arith, e.suits.some) in
    let r : l.size * (6 + 5 * 1) ≤ l.size * (6 + 5 * g.processors) = mul-le-mul_left l.size q in
    record {
      coded = h.coded;
      iterations = h.iterations;
      entry = record {
        suits = suits_one g.processors l (dealt g) e.suits;
        cells = e.cells;
        number = e.number;
        classes = e.classes;
        room = omega (arith, e.room);
      };
    }
