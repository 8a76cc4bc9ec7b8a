-- `reader::read_lines` meets its contract.
use mathlib.Core.Path.{refl, sym, ◌∙◌}
use mathlib.Core.List.{[]}
use native.Mathlib.Omega.{arith}
use Rattle.reader.proofs.Reaching.{initial_long, reached_none, line_lent, ends_bad, ends_well, goes_further}
use Rattle.reader.proofs.TextLines.{end_within, end_after}
use Rattle.reader.proofs.read_lines.Goals as goal

pub loop-at-init : goal.loop-at-init
loop-at-init c = reached_none _ _ _ _ c.requires.1 _ _ _ c.before_do-p.ensures refl (omega arith)

pub line_end-e-requires : goal.line_end-e-requires
line_end-e-requires c = c.loop-at.invariant.within

pub overflow_add-last : goal.overflow_add-last
overflow_add-last c = omega (arith, end_within _ _ _ c.line_end-e.ensures c.loop-at.invariant.within)

pub slice_bounds-judge_line-count : goal.slice_bounds-judge_line-count
slice_bounds-judge_line-count c = end_after _ _ _ c.line_end-e.ensures c.loop-at.invariant.within

pub slice_bounds-judge_line-start : goal.slice_bounds-judge_line-start
slice_bounds-judge_line-start c =
    let en = c.line_end-e.ensures in
    let b = c.loop-at.invariant.within in
    omega (arith, end_within _ _ _ en b, end_after _ _ _ en b)

pub slice_bounds-judge_line-end : goal.slice_bounds-judge_line-end
slice_bounds-judge_line-end c =
    let en = c.line_end-e.ensures in
    let b = c.loop-at.invariant.within in
    omega (arith, end_within _ _ _ en b, end_after _ _ _ en b)

pub judge_line-requires : goal.judge_line-requires
judge_line-requires c =
    line_lent _ _ _ _ _ c.loop-at.invariant c.requires.0 _ c.line_end-e.ensures

pub returns-in-Err : goal.returns-in-Err
returns-in-Err c =
    ends_bad _ _ _ _ _ c.loop-at.invariant c.requires.0 _ c.line_end-e.ensures _ refl _ _ _ _ _ c.in-Err.ensures

pub shape_of-initial-then-last : goal.shape_of-initial-then-last
shape_of-initial-then-last c =
    (c.judge_line.auto.initial ∙ c.loop-at.invariant.initial)
    ∙ sym (initial_long c.args.table.now c.args.initial.now c.args.code.now [] c.requires.1)

pub shape_of-code-then-last : goal.shape_of-code-then-last
shape_of-code-then-last c =
    c.judge_line.auto.code ∙ c.loop-at.invariant.code ∙ sym c.requires.1.code

pub returns-then-last : goal.returns-then-last
returns-then-last c =
    ends_well _ _ _ _ _ c.loop-at.invariant c.requires.0 _ c.line_end-e.ensures _ refl _ _ _ _ _ c.in-Ok.ensures (omega (arith, c.if-last.true))

pub overflow_add-at : goal.overflow_add-at
overflow_add-at c =
    omega (arith, end_within _ _ _ c.line_end-e.ensures c.loop-at.invariant.within)

pub overflow_add-line : goal.overflow_add-line
overflow_add-line c =
    omega (arith, c.loop-at.invariant.low, c.loop-at.invariant.within, c.requires.0)

pub loop-at-smaller : goal.loop-at-smaller
loop-at-smaller c =
    omega (arith, end_after _ _ _ c.line_end-e.ensures c.loop-at.invariant.within, c.loop-at.invariant.within)

pub loop-at-preserved : goal.loop-at-preserved
loop-at-preserved c =
    goes_further _ _ _ _ _ c.loop-at.invariant c.requires.0 _ c.line_end-e.ensures _ refl _ _ _ _ _ c.in-Ok.ensures
    (omega (arith, c.if-last.false)) ((c.judge_line.auto.initial ∙ c.loop-at.invariant.initial)) c.judge_line.auto.code

pub shape_of-initial : goal.shape_of-initial
shape_of-initial c =
    c.loop-at.invariant.initial ∙ sym (initial_long c.args.table.now c.args.initial.now c.args.code.now [] c.requires.1)

pub shape_of-code : goal.shape_of-code
shape_of-code c =
    c.loop-at.invariant.code ∙ sym c.requires.1.code

pub returns : goal.returns
returns c = absurd (omega (arith, c.loop-at-test.false, c.loop-at.invariant.within, c.loop-at.invariant.size))
