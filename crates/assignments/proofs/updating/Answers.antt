-- `assignments::updating` meets its contract.
use native.Mathlib.Omega.{arith}
use Rattle.assignments.proofs.Assigned.{test_few, updates_unread, updates_answers}
use Rattle.assignments.proofs.updating.Goals as goal

pub remainder-requires : goal.remainder-requires
remainder-requires c =
    let r = c.requires.ready in record {
      ready = record {
        inside = r.inside;
        shallow = r.shallow;
        short = r.short;
        room = omega (arith, r.room, c.test-p.ensures.next, test_few c.args.target.subscripted, c.test-p.auto.code);
      };
      line_bound = c.requires.line_bound.0;
    }

pub returns-in_err-g : goal.returns-in_err-g
returns-in_err-g c =
    rw c.from_residual.ensures (updates_unread _ _ _ _ _ _ _ _ _ _ _ _ _ c.requires.line_bound.1 c.test-p.ensures c.in_err-g.ensures)

pub then_emit-requires : goal.then_emit-requires
then_emit-requires c = omega (
  arith,
  c.in_ok-g.ensures.within.room,
  c.in_ok-g.ensures.within.inside,
  c.requires.ready.room,
  c.requires.ready.inside,
  c.test-p.ensures.next,
  test_few c.args.target.subscripted,
  c.test-p.auto.code,
  c.remainder.auto.code,
)

pub returns : goal.returns
returns c =
    updates_answers _ _ _ _ _ _ _ _ _ _ _ _ _ c.requires.line_bound.1 c.test-p.ensures _ _ _ c.operation-o.ensures c.in_ok-g.ensures
    c.then_emit.ensures
