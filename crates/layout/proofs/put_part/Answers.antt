-- `layout::put_part` meets its contract: all copies where `r*` stands, else the next token.
use Rattle.layout.proofs.Copying.{found_within, found_room, found_moves, plain_room, plain_moves}
use Rattle.layout.proofs.put_part.Goals as goal

pub put_copies-requires : goal.put_copies-requires
put_copies-requires c = (
  found_within c.args.s.now c.args.at c.in-Some.r c.args.copying c.in-Some.ensures,
  found_room c.args.s.now c.args.at c.in-Some.r c.args.copying c.in-Some.ensures c.args.to c.requires.1,
)

pub returns-in-Some : goal.returns-in-Some
returns-in-Some c = found_moves c.args.s.now c.args.at c.in-Some.r c.args.copying c.in-Some.ensures c.requires.1 c.put_copies.ensures

pub put_next-requires : goal.put_next-requires
put_next-requires c = (c.requires.0, plain_room c.args.s.now c.args.at c.args.copying c.in-None.ensures c.args.to c.requires.1)

pub returns-in-None : goal.returns-in-None
returns-in-None c = plain_moves c.args.s.now c.args.at c.args.copying c.in-None.ensures c.put_next.ensures
