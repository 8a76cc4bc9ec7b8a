-- RULES 8 e: whole iterations one after another, in any order. An iteration is here what it does to the cells that it finds: the cells that it leaves, its
-- accesses, and how it ends.
use Rattle.std.specs.Prelude.{◌≡◌, List, [], ◌∷◌, ◌++◌, ℕ, ℤ}
use Rattle.rules.specs.Loop.{Loop}
use Rattle.rules.specs.Log.{Log, each}
use Rattle.rules.specs.Serial.{Outcome, finished, failed, Result, along}

abbrev pub ended : (ℕ → ℤ) → Log → Result
ended m g = record { cells = m; log = g; outcome = finished }

-- iteration i of a loop, run whole over the cells m as the serial run runs it
unfoldable pub whole : Loop → ℕ → (ℕ → ℤ) → Result
whole l i m = along l i (l.body i) m [] ended

-- after a run that met no fault comes another, over the cells that it left: "The first fault ends the run" (document 01)
unfoldable pub joined : Outcome → Result → Result → Result
joined finished r s = record { cells = s.cells; log = s.log ++ r.log; outcome = s.outcome }
joined (failed n t i) r s = r

unfoldable pub followed : Result → ((ℕ → ℤ) → Result) → Result
followed r next = joined r.outcome r (next r.cells)

-- the iterations of the list one after another; `t i` is what iteration i does
unfoldable pub in_order : (ℕ → (ℕ → ℤ) → Result) → List ℕ → (ℕ → ℤ) → Result
in_order t [] m = ended m []
in_order t (i ∷ o) m = followed (t i m) (in_order t o)

-- what a run in another order has to come to: no fault, the cells of s, and each iteration with its accesses in s
pub record Agrees (s r : Result) : Type 0 where
  pub outcome : r.outcome ≡ finished
  pub cells : r.cells ≡ s.cells
  pub log : (i : ℕ) → each i r.log ≡ each i s.log
