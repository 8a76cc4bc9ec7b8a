-- `writing::put_span` meets its contract.
use mathlib.Core.Path.{sym, ap}
use mathlib.Core.List.{[], ◌∷◌}
use native.Mathlib.Omega.{arith}
use lib.ListN.{length}
use Rattle.lexer.specs.Lex.{part}
use Rattle.writing.proofs.Writing.{writes_none, writes_then, writes_as, fits_first}
use Rattle.writing.proofs.TokenBytes.{span_none, span_some}
use Rattle.writing.proofs.put_span.Goals as goal

pub returns-then-a-e : goal.returns-then-a-e
returns-then-a-e c =
    writes_as
    (span_none c.args.s.now c.args.a c.args.e c.if-a-e.true)
    (writes_none _ _)

pub put-p-requires : goal.put-p-requires
put-p-requires c =
    fits_first c.args.to (32 ∷ []) (part c.args.s.now c.args.a c.args.e)
    (span_some c.args.s.now c.args.a c.args.e (omega (arith, c.if-a-e.false)) c.requires.1) c.requires.2

pub put_bytes-requires : goal.put_bytes-requires
put_bytes-requires c =
    let a = c.args in
    let e = span_some a.s.now a.a a.e (omega (arith, c.if-a-e.false)) c.requires.1 in
    omega (arith, ap length e, c.put-p.ensures.place, c.requires.2)

pub returns : goal.returns
returns c =
    writes_as (sym (span_some c.args.s.now c.args.a c.args.e (omega (arith, c.if-a-e.false)) c.requires.1))
    (writes_then c.put-p.ensures c.put_bytes.ensures)
