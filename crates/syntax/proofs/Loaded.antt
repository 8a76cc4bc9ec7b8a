-- What Load fills the cells with: a value of 32 bits for each cell of the table.
use mathlib.Core.Path.{◌≡◌, refl}
use mathlib.Core.List.{List, [], ◌∷◌}
use mathlib.Core.Option.{Option, none, some}
use native.Mathlib.Omega.{arith}
use lib.ListN.{length, length-append, length-replicate}
use lib.IntN.{ℤ, pos}
use mir.Syntax.{w32}
use mir.Val.{SFits}
use Rattle.syntax.specs.Known.{Entry, cells}
use Rattle.syntax.specs.Text.{initial, loaded}
use Rattle.syntax.specs.Sane.{Each, Data, SaneEntry, SaneTable}
use Rattle.syntax.proofs.TestLaws.{each_append, each_replicate}

pub initial_length : (e : Entry) (g : Option (List ℤ)) → Data e.size g → length (initial e g) ≡ e.size
initial_length e none h = length-replicate e.size (pos 0)
initial_length e (some vs) h = h.0

initial_fits : (e : Entry) (g : Option (List ℤ)) → Data e.size g → Each (SFits w32) (initial e g)
initial_fits e none h = each_replicate (SFits w32) e.size (pos 0) (record { sfits = omega arith })
initial_fits e (some vs) h = h.1

loaded_each : (t : List Entry) → Each SaneEntry t → (length (loaded t) ≡ cells t) × Each (SFits w32) (loaded t)
unfolding loaded
loaded_each [] h = (refl, tt)
loaded_each (e ∷ es) h =
    let (n, f) = loaded_each es h.1 in
    let g = h.0.given in (
      omega (arith, length-append (initial e e.given) (loaded es), initial_length e e.given g),
      each_append (SFits w32) (initial e e.given) (loaded es) (initial_fits e e.given g) f,
    )

pub loaded_length : (t : List Entry) → SaneTable t → length (loaded t) ≡ cells t
loaded_length t h = (loaded_each t h.sized).0

pub loaded_fits : (t : List Entry) → SaneTable t → Each (SFits w32) (loaded t)
loaded_fits t h = (loaded_each t h.sized).1
