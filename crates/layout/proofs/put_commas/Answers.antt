-- `layout::put_commas` meets its contract: k copies are written, the first of them before.
use native.Mathlib.Omega.{arith}
use Rattle.writing.proofs.Writing.{writes_length, fits_first, along_none, along_more, along_all, along_fits}
use Rattle.layout.specs.Copied.{literal_bytes, comma_bytes}
use Rattle.layout.proofs.Literals.{comma_more, no_commas}
use Rattle.layout.proofs.put_commas.Goals as goal

pub loop-copy-init : goal.loop-copy-init
loop-copy-init c = (omega arith, along_none _ _ _)

pub put_after_comma-p-requires : goal.put_after_comma-p-requires
put_after_comma-p-requires c =
    let b = literal_bytes c.args.s.now c.args.l in (
      c.requires.0,
      fits_first c.loop-copy.p (comma_bytes 1 b) _ (comma_more c.loop-copy._copy c.args.copies b (omega arith))
          (along_fits c.requires.1 c.loop-copy.invariant.1),
    )

pub loop-copy-preserved : goal.loop-copy-preserved
loop-copy-preserved c =
    (omega arith, along_more _ _ (comma_more c.loop-copy._copy c.args.copies _ (omega arith)) c.loop-copy.invariant.1 c.put_after_comma-p.ensures)

pub shape_of-out : goal.shape_of-out
shape_of-out c = writes_length c.loop-copy.invariant.1.writes

pub returns : goal.returns
returns c =
    along_all (no_commas c.loop-copy._copy c.args.copies _ (omega arith)) c.loop-copy.invariant.1
