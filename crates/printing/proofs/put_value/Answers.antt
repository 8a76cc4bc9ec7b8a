-- `printing::put_value` meets its contract.
use Rattle.printing.proofs.Writing.{signed_seen, value_first, value_later}
use native.Mathlib.Omega.{arith}
use Rattle.printing.proofs.put_value.Goals as goal

pub returns-then-k-eq0 : goal.returns-then-k-eq0
returns-then-k-eq0 c =
    let args = c.args in
    let fits = c.ranges in
    let if1 = c.if-k-eq0 in
    let put-signed = c.put_signed in
    value_first _ _ if1.true (signed_seen args.v fits.v put-signed.ensures)

pub put_signed-requires-2 : goal.put_signed-requires-2
put_signed-requires-2 c = omega (arith, c.put-p.ensures.place)

pub returns : goal.returns
returns c =
    let args = c.args in
    let fits = c.ranges in
    let if1 = c.if-k-eq0 in
    let put = c.put-p in
    let put-signed2 = c.put_signed-2 in
    value_later _ _ if1.false put.ensures (signed_seen args.v fits.v put-signed2.ensures)
