-- `forming::put_line_of` meets its contract: nothing for a skipped line, else the line by its kind.
use mathlib.Core.Path.{sym, ◌∙◌, ap}
use native.Mathlib.Omega.{arith}
use lib.ListN.{length}
use Rattle.writing.proofs.Writing.{writes_none, writes_as}
use Rattle.forming.proofs.Shapes.{skipped_none, spoken_prints}
use Rattle.forming.proofs.put_line_of.Goals as goal

pub returns-then-is_skipped : goal.returns-then-is_skipped
returns-then-is_skipped c =
    writes_as (skipped_none c.args.s.now (sym c.is_skipped.ensures ∙ c.if-is_skipped.true)) (writes_none _ _)

pub put_shape-requires : goal.put_shape-requires
put_shape-requires c =
    let e = spoken_prints c.args.s.now _ _ c.kind_of.ensures c.shape_of.ensures c.requires.1 (sym c.is_skipped.ensures ∙ c.if-is_skipped.false) in
    (c.requires.0, omega (arith, ap length e, c.requires.2))

pub returns : goal.returns
returns c =
    writes_as
    (spoken_prints c.args.s.now _ _ c.kind_of.ensures c.shape_of.ensures c.requires.1 (sym c.is_skipped.ensures ∙ c.if-is_skipped.false))
    c.put_shape.ensures
