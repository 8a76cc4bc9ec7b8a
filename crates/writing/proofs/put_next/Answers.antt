-- `writing::put_next` meets its contract.
use mathlib.Core.Path.{◌∙◌, ap}
use native.Mathlib.Omega.{arith}
use lib.ListN.{length}
use Rattle.writing.specs.Written.{spanned}
use Rattle.writing.proofs.Writing.{writes_as}
use Rattle.writing.proofs.TokenBytes.{token_spanned, next_moves}
use Rattle.writing.proofs.put_next.Goals as goal

pub put_span-requires : goal.put_span-requires
put_span-requires c =
    let l = c.token-t.ensures in
    let e = ap spanned c.start_of.ensures.1 ∙ token_spanned c.args.s.now c.args.at _ l in
    (c.start_of.ensures.0, l.within, omega (arith, ap length e, c.requires.1))

pub returns : goal.returns
returns c =
    next_moves c.args.out.now c.args.to c.args.s.now c.args.at _ c.token-t.ensures
    (writes_as (ap spanned c.start_of.ensures.1) c.put_span.ensures)
