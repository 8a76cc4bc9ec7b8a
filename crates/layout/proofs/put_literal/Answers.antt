-- `layout::put_literal` meets its contract.
use mathlib.Core.Path.{refl}
use Rattle.lexer.specs.Lex.{part}
use Rattle.writing.specs.Written.{spanned}
use Rattle.writing.proofs.Writing.{writes_then, fits_first, fits_then}
use Rattle.layout.proofs.put_literal.Goals as goal

pub put_span-p-requires : goal.put_span-p-requires
put_span-p-requires c =
    let s = c.args.s.now in
    let l = c.args.l in (
      c.requires.0.first,
      c.requires.0.stop,
      fits_first c.args.to (spanned (part s l.first l.stop)) (spanned (part s l.second l.next)) refl c.requires.1,
    )

pub put_span-requires : goal.put_span-requires
put_span-requires c =
    let s = c.args.s.now in
    let l = c.args.l in (
      c.requires.0.second,
      c.requires.0.next,
      fits_then (spanned (part s l.first l.stop)) (spanned (part s l.second l.next)) refl c.requires.1 c.put_span-p.ensures,
    )

pub returns : goal.returns
returns c =
    writes_then c.put_span-p.ensures c.put_span.ensures
