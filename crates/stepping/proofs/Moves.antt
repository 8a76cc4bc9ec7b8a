-- A step by the move that the code comes to: what its access may ask for, and where it leads.
use mathlib.Core.Path.{◌≡◌}
use mathlib.Core.List.{List}
use Prim.Native.Nat.{ℕ, ◌+◌, ◌<◌}
use native.Mathlib.Omega.{arith}
use lib.IntN.{ℤ}
use mir.Syntax.{w32}
use mir.Val.{SFits}
use Rattle.std.specs.declared.option.Option.TheVariants.{Some}
use Rattle.operands.specs.declared.Move.TheVariants.{Read, Write, Update, Fault, End}
use Rattle.machine.specs.declared.Advanced.{Advanced}
use Rattle.operands.specs.Pending.{Pushed}
use Rattle.stepping.specs.declared.Point.{Point}
use Rattle.stepping.specs.declared.Role.{Role}
use Rattle.stepping.specs.Access.{Accessible, Reads, Writes, Updates}
use Rattle.stepping.specs.Step.{unstopped, scene, moved, CanMove, Fitting, CanMake, Makes}

module _ (x : Role) (i : ℕ) (M : List ℤ) (W : List ℕ) (b : List ℤ) (r : Advanced) where
  -- ---- what may be asked for

  module _ (h : CanMake x i M W b r) where
    pub can_push : (c : ℕ) → r.done ≡ Read c → r.depth < 32
    can_push c q = omega (arith, rw q at h.room)

    pub can_read : (c : ℕ) → r.done ≡ Read c → Accessible x M W c
    unfolding CanMove
    can_read c q = rw q at h.can

    pub can_write : (c : ℕ) (y : ℤ) → r.done ≡ Write c y → Accessible x M W c
    unfolding CanMove
    can_write c y q = rw q at h.can

    pub can_update : (c : ℕ) (y : ℤ) → r.done ≡ Update c y → Accessible x M W c
    unfolding CanMove
    can_update c y q = rw q at h.can

  -- ---- where it leads

  pub makes_read : (c : ℕ) (y : ℤ) (W' : List ℕ) (a' : List ℤ) (d : ℕ) (t' : Point) → r.done ≡ Read c → Reads x i M W c W' y
      → Pushed b r.depth y a' d → t' ≡ unstopped d r.place i → Makes x i M W b r (scene M W' a' t')
  unfolding moved Fitting
  makes_read c y W' a' d t' q g u f = record { fits = rw q tt; after = rw (q, f, g.words, u.array, u.deeper, g.value) }

  pub makes_write : (c : ℕ) (y : ℤ) (M' : List ℤ) (W' : List ℕ) (t' : Point) → r.done ≡ Write c y → SFits w32 y → Writes x i M W c y M' W'
      → t' ≡ unstopped r.depth r.place i → Makes x i M W b r (scene M' W' b t')
  unfolding moved Fitting
  makes_write c y M' W' t' q s g f = record { fits = rw q s; after = rw (q, f, g.cells, g.words) }

  pub makes_update : (c : ℕ) (y : ℤ) (M' : List ℤ) (W' : List ℕ) (t' : Point) → r.done ≡ Update c y → SFits w32 y → Updates x i M W c y M' W'
      → t' ≡ unstopped r.depth r.place i → Makes x i M W b r (scene M' W' b t')
  unfolding moved Fitting
  makes_update c y M' W' t' q s g f = record { fits = rw q s; after = rw (q, f, g.cells, g.words) }

  pub makes_fault : (n k : ℕ) → r.done ≡ Fault n k
      → Makes x i M W b r (scene M W b (record { depth = r.depth; place = r.place; iteration = record { 0 = i }; fault = Some (record { number = n; line = k }) }))
  unfolding moved Fitting
  makes_fault n k q = record { fits = rw q tt; after = rw q }

  pub makes_end : (t' : Point) → r.done ≡ End → t' ≡ unstopped 0 0 (i + 1) → Makes x i M W b r (scene M W b t')
  unfolding moved Fitting
  makes_end t' q f = record { fits = rw q tt; after = rw (q, f) }
