-- `layout::put_copies` meets its contract: the literal is found once.
use Rattle.layout.proofs.Literals.{copies_first, copies_others, copies_moves}
use Rattle.layout.proofs.put_copies.Goals as goal

pub put_literal-p-requires : goal.put_literal-p-requires
put_literal-p-requires c = (
  c.literal_at-l.ensures.within,
  copies_first c.args.s.now c.args.at _ c.literal_at-l.ensures c.args.copies c.args.to c.requires.1,
)

pub put_commas-requires : goal.put_commas-requires
put_commas-requires c = (
  c.literal_at-l.ensures.within,
  copies_others c.args.s.now c.args.at _ c.literal_at-l.ensures c.args.copies c.requires.1 c.put_literal-p.ensures,
)

pub returns : goal.returns
returns c =
    copies_moves c.args.s.now c.args.at _ c.literal_at-l.ensures c.args.copies c.put_literal-p.ensures
    c.put_commas.ensures
