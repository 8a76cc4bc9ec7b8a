-- `printing::put_digits` meets its contract: it calls itself for one digit less.
use Prim.Native.Nat.{◌-◌, ◌/◌}
use native.Mathlib.Omega.{arith}
use Rattle.printing.proofs.Writing.{digits_none, digits_last, digits_more, digits_few}
use Rattle.printing.proofs.+put_digits.Goals as goal

pub returns-then-k-eq0 : goal.returns-then-k-eq0
returns-then-k-eq0 t c = digits_none _ _ _ _ c.if-k-eq0.true

pub returns-then-n-lt10 : goal.returns-then-n-lt10
returns-then-n-lt10 t c = digits_last _ _ c.if-k-eq0.false c.if-n-lt10.true c.put.ensures

pub put-requires-2 : goal.put-requires-2
put-requires-2 t c = omega (
  arith,
  c.put_digits-p.ensures.place,
  digits_few (c.args.k - 1) (c.args.n / 10),
)

pub returns : goal.returns
returns t c = digits_more _ _ c.if-k-eq0.false c.if-n-lt10.false
    c.put_digits-p.ensures c.put-2.ensures
