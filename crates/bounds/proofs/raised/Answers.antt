-- `bounds::raised` meets its contract, sign by sign.
use mathlib.Core.Logic.{inl, inr}
use mathlib.Core.Path.{◌≡◌, sym, ◌∙◌, ap}
use Prim.Native.Nat.{ℕ}
use Rattle.syntax.specs.Known.{signed}
use Rattle.lexer.specs.Places.{lead_of}
use Rattle.lexer.specs.declared.Leading.{Leading}
use Rattle.bounds.specs.DoLine.{raise}
use Rattle.bounds.proofs.DoLines.{raise_down}
use Rattle.bounds.proofs.raised.Goals as goal

-- the sign of the arm
arm : {l k : Leading} (n : ℕ) → l ≡ k → raise (signed (lead_of k) n) ≡ raise (signed (lead_of l) n)
arm n e = ap (λ (l : Leading). raise (signed (lead_of l) n)) (sym e)

pub returns-in-Bare : goal.returns-in-Bare
returns-in-Bare c = elim c.in-Bare.is [ inl e ↦ arm c.args.size e | inr e ↦ arm c.args.size e ]

pub returns-in-Minus : goal.returns-in-Minus
returns-in-Minus c = let n = c.args.size in sym (raise_down n) ∙ arm n c.in-Minus.is
