-- `writing::significant` meets its contract: the digits from i on are the same without their leading zeros.
use mathlib.Core.Path.{◌≡◌, refl, sym, ◌∙◌, ap}
use Prim.Native.Nat.{ℕ}
use native.Mathlib.Omega.{arith}
use Rattle.lexer.specs.Lex.{part}
use Rattle.writing.proofs.TokenBytes.{zero_gone, zero_not, digit_last}
use Rattle.writing.proofs.significant.Goals as goal

pub loop-i-init : goal.loop-i-init
loop-i-init c = (omega arith, refl)

pub returns-then-s-i-ne48 : goal.returns-then-s-i-ne48
returns-then-s-i-ne48 c =
    (omega arith, omega arith, zero_not c.args.s.now c.loop-i.i c.args.e (omega arith) (omega arith) c.if-s-i-ne48.true ∙ c.loop-i.invariant.1)

pub loop-i-preserved : goal.loop-i-preserved
loop-i-preserved c =
    (omega arith, sym (zero_gone c.args.s.now c.loop-i.i c.args.e (omega arith) (omega arith) c.if-s-i-ne48.false) ∙ c.loop-i.invariant.1)

pub returns : goal.returns
returns c =
    let s = c.args.s.now in
    let i = c.loop-i.i in
    let e : c.max-last.result ≡ i = omega arith in
    (omega arith, omega arith, ap (λ (n : ℕ). part s n c.args.e) e ∙ digit_last s i c.args.e (omega arith) ∙ c.loop-i.invariant.1)
