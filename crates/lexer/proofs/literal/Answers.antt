-- `lexer::literal` meets its contract: n is the number of the digits passed, up to 2^31.
use Prim.Native.Nat.{ℕ, ◌+◌, ◌-◌, ◌*◌, min}
use mathlib.Core.Path.{◌≡◌, refl, sym, ◌∙◌, ap}
use mathlib.Core.List.{List}
use native.Mathlib.Omega.{arith}
use lib.ListN.{get_or, take}
use lib.Seq.{take_all}
use Rattle.syntax.specs.Grammar.{number, number_from}
use Rattle.lexer.specs.Lex.{part, tens}
use Rattle.lexer.proofs.Laws.{number_take}
use Rattle.lexer.proofs.literal.Goals as goal

pub loop-b-init : goal.loop-b-init
unfolding number_from
loop-b-init c = refl

-- up to 2^31, a digit more
more : (n d : ℕ) → tens (min n 2147483648) d ≡ min (10 * n + (d - 48)) 2147483648
unfolding tens
more n d = omega arith

pub loop-b-preserved : goal.loop-b-preserved
loop-b-preserved c =
    let i = c.loop-b.b-index in
    let w = part c.args.s.now c.args.t.start c.args.t.stop in
    c.shifted-n.ensures ∙ ap (λ (n : ℕ). tens n (get_or w i 0)) c.loop-b.invariant ∙ more (number (take i w)) (get_or w i 0)
    ∙ ap (λ (n : ℕ). min n 2147483648) (sym (number_take w i c.loop-b-test.true))

pub returns : goal.returns
returns c =
    c.loop-b.invariant ∙ ap (λ (w : List ℕ). min (number w) 2147483648)
    (take_all c.loop-b.b-index (part c.args.s.now c.args.t.start c.args.t.stop) c.loop-b-test.false)
