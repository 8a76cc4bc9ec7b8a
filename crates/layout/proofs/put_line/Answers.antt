-- `layout::put_line` meets its contract: the first token, the others, and a newline.
use native.Mathlib.Omega.{arith}
use Rattle.layout.proofs.Copying.{line_first, line_rest, line_newline, line_written}
use Rattle.layout.proofs.put_line.Goals as goal

pub start_of-requires : goal.start_of-requires
start_of-requires c = (c.token-t.ensures.order, c.token-t.ensures.within)

pub slice_bounds-put_bytes-count : goal.slice_bounds-put_bytes-count
slice_bounds-put_bytes-count c = c.start_of.ensures.0

pub slice_bounds-put_bytes-end : goal.slice_bounds-put_bytes-end
slice_bounds-put_bytes-end c = omega (arith, c.token-t.ensures.within, c.start_of.ensures.0)

pub put_bytes-p-requires : goal.put_bytes-p-requires
put_bytes-p-requires c =
    line_first c.args.s.now _ c.token-t.ensures c.args.copying _ c.start_of.ensures.1 c.args.to c.requires

pub put_rest-q-requires : goal.put_rest-q-requires
put_rest-q-requires c = (
  c.token-t.ensures.within,
  line_rest c.args.s.now _ c.token-t.ensures c.args.copying _ c.start_of.ensures.1 c.requires c.put_bytes-p.ensures,
)

pub put-requires : goal.put-requires
put-requires c =
    line_newline c.args.s.now _ c.token-t.ensures c.args.copying _ c.start_of.ensures.1 c.requires c.put_bytes-p.ensures
    c.put_rest-q.ensures

pub returns : goal.returns
returns c =
    line_written c.args.s.now _ c.token-t.ensures c.args.copying _ c.start_of.ensures.1 c.requires
    c.put_bytes-p.ensures c.put_rest-q.ensures c.put.ensures
