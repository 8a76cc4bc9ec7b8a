-- `lexer::lowered` meets its contract: what is written up to i are the first i bytes in lower case.
use Prim.Native.Nat.{ℕ}
use mathlib.Core.Path.{◌≡◌, refl, sym, ◌∙◌, ap}
use mathlib.Core.List.{List, map}
use native.Mathlib.Omega.{arith}
use lib.ListN.{take, get_or, set}
use lib.Seq.{sets, take_all}
use Rattle.syntax.specs.Bytes.{lower}
use Rattle.lexer.proofs.Laws.{sets_map, lower_is}
use Rattle.lexer.proofs.lowered.Goals as goal

pub loop-i-init : goal.loop-i-init
loop-i-init c = refl

pub loop-i-preserved : goal.loop-i-preserved
loop-i-preserved c =
    let l = c.loop-i in
    let s = c.args.text.now in
    let e : set l.low l.i c.to_ascii_lowercase.result ≡ set (sets c.args.low.now 0 (map lower (take l.i s))) l.i (lower (get_or s l.i 0)) = λ j. set
    (l.invariant j) l.i ((c.to_ascii_lowercase.ensures.value ∙ lower_is (get_or s l.i 0)) j) in
    e ∙ sym (sets_map lower c.args.low.now s l.i 0 c.loop-i-test.true)

pub returns : goal.returns
returns c = c.loop-i.invariant ∙ ap (λ (t : List ℕ). sets c.args.low.now 0 (map lower t)) (take_all c.loop-i.i c.args.text.now (omega arith))
