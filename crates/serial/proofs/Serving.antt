-- Where the serial run is, step by step: what cells, words and the point reached stand for, and what the run comes to from there.
use mathlib.Core.Path.{◌≡◌}
use mathlib.Core.List.{List, ◌∷◌}
use Prim.Native.Nat.{ℕ, suc, ◌-◌, ◌<◌}
use lib.IntN.{ℤ}
use Rattle.std.specs.declared.option.Option.TheVariants.{None}
use Rattle.rules.specs.Choose.{below}
use Rattle.rules.specs.Loop.{Loop}
use Rattle.rules.specs.Log.{reads, writes, updates, access, Log}
use Rattle.rules.specs.Proper.{Sized}
use Rattle.rules.specs.Serial.{finished, failed, Result, along, from, serial}
use Rattle.operands.specs.declared.Move.{Move}
use Rattle.operands.specs.declared.Move.TheVariants.{Read, Write, Update, Fault, End}
use Rattle.operands.specs.Pending.{Holding}
use Rattle.stepping.specs.Step.{by_fault, Scene, at}
use Rattle.stepping.proofs.Happening.{rest}
use Rattle.trial.specs.Standing.{Coded}
use Rattle.serial.specs.Serving.{alone, Serially}

-- and iteration i may access cell c
pub record Serves (l : Loop) (i c : ℕ) (M : List ℤ) (W : List ℕ) (m : ℕ → ℤ) (g : Log) : Type 0 where
  pub stands : Serially l i M W m g
  pub low : i < l.iterations
  pub inside : c < l.size

-- what the run comes to from a scene, with the cells m and the accesses g
unfoldable pub onward : Loop → List ℕ → ℤ → Scene → (ℕ → ℤ) → Log → Result
onward l code v z m g =
    by_fault
    z.point.fault
    (below
    (at z)
    l.iterations
    (along l (at z) (rest (alone v l.iterations) code z) m g (from l (l.iterations - suc (at z)) (suc (at z))))
    (record { cells = m; log = g; outcome = finished }))
    (λ f. record { cells = m; log = g; outcome = failed f.number f.line (at z) })

-- the accesses g after a move of iteration i over the cells m
abbrev pub grown : ℕ → (ℕ → ℤ) → Log → Move → Log
grown i m g (Read c) = access reads i c (m c) ∷ g
grown i m g (Write c y) = access writes i c y ∷ g
grown i m g (Update c y) = access updates i c y ∷ g
grown i m g (Fault n t) = g
grown i m g End = g

pub record Serving (code : List ℕ) (v : ℤ) (l : Loop) (z : Scene) (m : ℕ → ℤ) (g : Log) : Type 0 where
  pub coded : Coded code v l
  pub stands : Serially l (at z) z.cells z.words m g
  pub holding : Holding z.pending z.point.depth
  pub result : serial l ≡ onward l code v z m g
  pub sized : z.point.fault ≡ None → at z < l.iterations → Sized l.size (rest (alone v l.iterations) code z)

-- with some cells and accesses
abbrev pub SerialAt : List ℕ → ℤ → Loop → Scene → Type 0
SerialAt code v l z = (m : ℕ → ℤ) × (g : Log) × Serving code v l z m g
