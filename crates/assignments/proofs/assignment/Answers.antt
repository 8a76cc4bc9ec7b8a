-- `assignments::assignment` meets its contract.
use mathlib.Core.Path.{refl, ◌∙◌}
use native.Mathlib.Omega.{arith}
use Rattle.syntax.specs.Bytes.{bytes}
use Rattle.lexer.proofs.InTurn.{stands_onward}
use Rattle.assignments.proofs.Assignments.{assign_unread, assign_unset, assign_stores, assign_updates}
use Rattle.assignments.proofs.assignment.Goals as goal

pub returns-in_err-g : goal.returns-in_err-g
returns-in_err-g c = rw c.from_residual.ensures (assign_unread _ _ _ _ _ _ _ _ c.in_err-g.ensures)

pub returns-in_err-at : goal.returns-in_err-at
returns-in_err-at c = rw c.from_residual-in_err-at.ensures (assign_unset _ _ _ _ _ _ _ _ c.in_ok-g.ensures _ c.in_err-at.ensures)

pub offer-requires : goal.offer-requires
offer-requires c =
    let w = c.in_ok-g.ensures.within in
    let on = stands_onward (bytes "=") c.in_ok-at.ensures (omega arith) in record {
      ready = record {
        inside = c.in_ok-at.ensures.within;
        shallow = omega arith;
        short = c.requires.0;
        room = omega (arith, c.requires.2, w.from, w.inside, w.room, on, c.in_ok-at.ensures.within, c.reference.auto.code);
      };
      end_in_bounds = (w.inside, c.requires.1);
    }

pub updating-requires : goal.updating-requires
updating-requires c =
    let w = c.in_ok-g.ensures.within in
    let on = stands_onward (bytes "=") c.in_ok-at.ensures (omega arith) in
    let pa = c.in-Some.ensures.past in record {
      ready = record {
        inside = pa.within;
        shallow = omega (arith, pa.after);
        short = c.requires.0;
        room = omega (arith, c.requires.2, w.from, w.inside, w.room, on, pa.after, pa.within, pa.place_is, c.reference.auto.code, c.offer.auto.code);
      };
      line_bound = (c.requires.1, c.target_of-target.ensures);
    }

pub storing-requires : goal.storing-requires
storing-requires c =
    let w = c.in_ok-g.ensures.within in
    let on = stands_onward (bytes "=") c.in_ok-at.ensures (omega arith) in record {
      le_at = (
        omega (arith, w.from, on),
        c.in_ok-at.ensures.within,
        c.requires.0,
        omega (arith, c.requires.2, c.reference.auto.code, c.offer.auto.code),
      );
      line_bound = (c.requires.1, c.target_of-target.ensures);
    }

pub returns-in-Some : goal.returns-in-Some
returns-in-Some c =
    assign_updates _ _ _ _ _ _ _ _ c.in_ok-g.ensures c.in_ok-at.ensures _ c.target_of-target.ensures c.assigned_rank.ensures _ refl refl refl _ _
    c.requires.2 (c.offer.auto.code ∙ c.reference.auto.code) _ _ _ c.in-Some.ensures c.updating.ensures

pub returns-in-None : goal.returns-in-None
returns-in-None c =
    assign_stores _ _ _ _ _ _ _ _ c.in_ok-g.ensures c.in_ok-at.ensures _ c.target_of-target.ensures c.assigned_rank.ensures _ refl refl refl _ _
    c.requires.2 (c.offer.auto.code ∙ c.reference.auto.code) _ c.in-None.ensures c.storing.ensures
