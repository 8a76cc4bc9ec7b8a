-- `layout::put_rest` meets its contract: the tokens up to i are written, and those from i on are left.
use mathlib.Core.Path.{sym, ◌∙◌, ap}
use mathlib.Core.List.{List, ◌++◌}
use native.Mathlib.Omega.{arith}
use lib.ListN.{drop}
use Rattle.syntax.specs.Bytes.{Token, tokens}
use Rattle.writing.specs.Written.{blanked}
use Rattle.writing.proofs.Writing.{writes_length, along_none, along_more, along_all, along_fits}
use Rattle.layout.specs.Copied.{front, spread}
use Rattle.layout.proofs.Copying.{spread_room, blanked_spread, none_left}
use Rattle.layout.proofs.put_rest.Goals as goal

pub loop-m-init : goal.loop-m-init
loop-m-init c = (c.requires.0, along_none _ _ _)

pub put_part-m-requires : goal.put_part-m-requires
put_part-m-requires c = (
  c.loop-m.invariant.0,
  spread_room c.loop-m.m.to c.args.copying (tokens (drop c.loop-m.m.at c.args.s.now))
      (along_fits c.requires.1 c.loop-m.invariant.1),
)

pub loop-m-smaller : goal.loop-m-smaller
loop-m-smaller c = omega (arith, c.put_part-m.ensures.onward (omega arith), c.put_part-m.ensures.within)

pub loop-m-preserved : goal.loop-m-preserved
loop-m-preserved c =
    let s = c.args.s.now in
    let d = c.args.copying in
    let ts = tokens (drop c.loop-m.m.at s) in
    let m = c.put_part-m.ensures in
    let e = blanked_spread d ts ∙ ap (λ (us : List Token). blanked (front d ts) ++ blanked (spread d us)) (sym m.left) in
    (m.within, along_more _ _ e c.loop-m.invariant.1 m.writes)

pub shape_of-out : goal.shape_of-out
shape_of-out c = writes_length c.loop-m.invariant.1.writes

pub returns : goal.returns
returns c =
    along_all (none_left c.args.copying c.args.s.now c.loop-m.m.at (omega arith)) c.loop-m.invariant.1
