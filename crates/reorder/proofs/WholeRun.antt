-- The serial run of a loop is the run of its iterations in the order of their numbers.
use mathlib.Core.Path.{◌≡◌, refl, sym, ◌∙◌, ap, fun_ext}
use mathlib.Core.List.{[], ◌++◌, append-nil, append_assoc}
use Prim.Native.Nat.{ℕ, zero, suc}
use lib.IntN.{ℤ}
use Rattle.rules.specs.Loop.{Loop}
use Rattle.rules.specs.Log.{Log}
use Rattle.rules.specs.Serial.{Outcome, finished, failed, Result, along, from, serial}
use Rattle.reorder.specs.Orders.{range}
use Rattle.reorder.specs.Whole.{whole, joined, followed, in_order}
use Rattle.reorder.proofs.AlongLaws.{resumed, alone, along_is}

-- r with the accesses g before
onto : Log → Result → Result
onto g r = record { cells = r.cells; log = r.log ++ g; outcome = r.outcome }

resumed_onto : (o : Outcome) (r : Result) → r.outcome ≡ o → (g : Log) (f : (ℕ → ℤ) → Result)
    → resumed o r g (λ m h. onto h (f m)) ≡ onto g (joined o r (f r.cells))
unfolding resumed onto joined
resumed_onto finished r e g f =
    ap (λ (h : Log). record { cells = (f r.cells).cells; log = h; outcome = (f r.cells).outcome }) (sym (append_assoc (f r.cells).log r.log g))
resumed_onto (failed n t i) r e g f = ap (λ (o : Outcome). record { cells = r.cells; log = r.log ++ g; outcome = o }) (sym e)

from_order : (l : Loop) (k i : ℕ) (m : ℕ → ℤ) (g : Log) → from l k i m g ≡ onto g (in_order (whole l) (range k i) m)
unfolding from in_order range onto whole followed
from_order l zero i m g = refl
from_order l (suc k) i m g = ap (along l i (l.body i) m g) (fun_ext (λ n. fun_ext (λ h. from_order l k (suc i) n h)))
    ∙ along_is l i (l.body i) m g (λ n h. onto h (in_order (whole l) (range k (suc i)) n))
    ∙ resumed_onto (alone l i (l.body i) m).outcome (alone l i (l.body i) m) refl g (in_order (whole l) (range k (suc i)))

pub serial_order : (l : Loop) → serial l ≡ in_order (whole l) (range l.iterations 0) l.entry
unfolding serial onto
serial_order l = from_order l l.iterations 0 l.entry []
    ∙ ap (λ (h : Log). record { cells = r.cells; log = h; outcome = r.outcome }) (append-nil r.log)
  where
    r : Result
    r = in_order (whole l) (range l.iterations 0) l.entry
