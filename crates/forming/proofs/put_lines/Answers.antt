-- `forming::put_lines` meets its contract: the lines before a place are written, and those from it on are left.
use mathlib.Core.Path.{refl}
use native.Mathlib.Omega.{arith}
use Rattle.reader.proofs.TextLines.{end_within, end_after}
use Rattle.writing.proofs.Writing.{writes_length}
use Rattle.forming.proofs.Whole.{reached_none, this_good, this_short, this_fits, all_written, reached_more}
use Rattle.forming.proofs.put_lines.Goals as goal

pub loop-at-init : goal.loop-at-init
loop-at-init c = (refl, reached_none _ _ c.requires.1)

pub line_end-e-requires : goal.line_end-e-requires
line_end-e-requires c = c.loop-at.invariant.1.within

pub slice_bounds-put_line_of-count : goal.slice_bounds-put_line_of-count
slice_bounds-put_line_of-count c = end_after _ _ _ c.line_end-e.ensures c.loop-at.invariant.1.within

pub slice_bounds-put_line_of-start : goal.slice_bounds-put_line_of-start
slice_bounds-put_line_of-start c =
    omega (
      arith,
      end_within _ _ _ c.line_end-e.ensures c.loop-at.invariant.1.within,
      end_after _ _ _ c.line_end-e.ensures c.loop-at.invariant.1.within,
    )

pub slice_bounds-put_line_of-end : goal.slice_bounds-put_line_of-end
slice_bounds-put_line_of-end c =
    omega (
      arith,
      end_within _ _ _ c.line_end-e.ensures c.loop-at.invariant.1.within,
      end_after _ _ _ c.line_end-e.ensures c.loop-at.invariant.1.within,
    )

pub put_line_of-to-requires : goal.put_line_of-to-requires
put_line_of-to-requires c =
    let h = c.loop-at.invariant.1 in
    let en = c.line_end-e.ensures in
    (this_short _ _ _ _ _ h c.requires.2 _ en c.requires.0, this_good _ _ _ _ _ h c.requires.2 _ en, this_fits _ _ _ _ _ h c.requires.2 _ en)

pub overflow_add-e : goal.overflow_add-e
overflow_add-e c =
    omega (arith, end_within _ _ _ c.line_end-e.ensures c.loop-at.invariant.1.within, c.requires.0)

pub shape_of-out-then-n-e : goal.shape_of-out-then-n-e
shape_of-out-then-n-e c =
    writes_length
    (all_written _ _ _ _ _ c.loop-at.invariant.1 c.requires.2 _ c.line_end-e.ensures c.put_line_of-to.ensures (omega (arith, c.if-n-e.true, c.loop-at.invariant.0)))

pub returns-then-n-e : goal.returns-then-n-e
returns-then-n-e c =
    all_written _ _ _ _ _ c.loop-at.invariant.1 c.requires.2 _ c.line_end-e.ensures c.put_line_of-to.ensures (omega (arith, c.if-n-e.true, c.loop-at.invariant.0))

pub overflow_add-at : goal.overflow_add-at
overflow_add-at c =
    omega (arith, end_within _ _ _ c.line_end-e.ensures c.loop-at.invariant.1.within, c.requires.0)

pub loop-at-smaller : goal.loop-at-smaller
loop-at-smaller c =
    omega (arith, end_after _ _ _ c.line_end-e.ensures c.loop-at.invariant.1.within, c.loop-at.invariant.1.within)

pub loop-at-preserved : goal.loop-at-preserved
loop-at-preserved c = (
  c.loop-at.invariant.0,
  reached_more _ _ _ _ _ c.loop-at.invariant.1 c.requires.2 _ c.line_end-e.ensures c.put_line_of-to.ensures
      (omega (arith, c.if-n-e.false, c.loop-at.invariant.0)),
)

pub shape_of-out : goal.shape_of-out
shape_of-out c = writes_length c.loop-at.invariant.1.along.writes

pub returns : goal.returns
returns c = absurd (omega (arith, c.loop-at-test.false, c.loop-at.invariant.0, c.loop-at.invariant.1.within))
