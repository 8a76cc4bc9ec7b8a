-- `updates::rival` meets its contract.
use mathlib.Core.Path.{◌∙◌}
use native.Mathlib.Omega.{arith}
use Rattle.syntax.specs.Bytes.{bytes}
use Rattle.lexer.proofs.InTurn.{stands_onward}
use Rattle.updates.proofs.Maxima.{maximum_unsaid, maximum_unopened, two_on, maximum_unread, maximum_single, maximum_unclosed, maximum_found}
use Rattle.updates.proofs.rival.Goals as goal

pub returns-in_err-bracket : goal.returns-in_err-bracket
returns-in_err-bracket c = rw c.from_residual.ensures (maximum_unsaid _ _ _ _ _ c.requires.ready.inside c.in_err-bracket.ensures)

pub returns-in_err-first : goal.returns-in_err-first
returns-in_err-first c = rw c.from_residual-in_err-first.ensures (maximum_unopened _ _ _ _ _ c.in_ok-bracket.ensures c.in_err-first.ensures)

pub repeats-requires : goal.repeats-requires
repeats-requires c =
    let k = two_on c.args.left c.args.table.now _ _ c.args.code.now c.in_ok-bracket.ensures c.in_ok-first.ensures in
    let r = c.requires.ready in record {
      ready = record { inside = c.in_ok-first.ensures.within; shallow = omega (arith, k); short = r.short; room = omega (arith, r.room, k) };
      end_in_bounds = c.requires.end_in_bounds;
    }

pub returns-in_err-g : goal.returns-in_err-g
returns-in_err-g c = rw c.from_residual-in_err-g.ensures (maximum_unread _ _ _ _ _ c.in_ok-bracket.ensures c.in_ok-first.ensures _ _ c.in_err-g.ensures.kept c.in_err-g.ensures)

pub returns-in_err-at : goal.returns-in_err-at
returns-in_err-at c =
    rw c.from_residual-in_err-at.ensures (maximum_single _ _ _ _ _ c.in_ok-bracket.ensures c.in_ok-first.ensures _ _ c.in_ok-g.ensures.kept _ c.in_ok-g.ensures c.in_err-at.ensures)

pub closes-requires : goal.closes-requires
closes-requires c =
    let k = two_on c.args.left c.args.table.now _ _ c.args.code.now c.in_ok-bracket.ensures c.in_ok-first.ensures in
    let w = c.in_ok-g.ensures.past in
    let j = stands_onward (bytes ",") c.in_ok-at.ensures (omega arith) in record {
      ready = record {
        inside = c.in_ok-at.ensures.within;
        shallow = omega (arith, k, w.after, j);
        short = c.requires.ready.short;
        room = omega (arith, c.requires.ready.room, c.repeats.auto.code, k, w.after, j, c.in_ok-at.ensures.within);
      };
      line_bound = c.requires.end_in_bounds.1;
    }

pub returns-then-closes : goal.returns-then-closes
returns-then-closes c =
    maximum_found _ _ _ _ _ c.in_ok-bracket.ensures c.in_ok-first.ensures _ _ (c.closes.ensures.code_unchanged ∙ c.in_ok-g.ensures.kept) _ c.in_ok-g.ensures
    c.in_ok-at.ensures c.closes.ensures.closed c.if-closes.true

pub returns-else-closes : goal.returns-else-closes
returns-else-closes c =
    maximum_unclosed _ _ _ _ _ c.in_ok-bracket.ensures c.in_ok-first.ensures _ _ (c.closes.ensures.code_unchanged ∙ c.in_ok-g.ensures.kept) _ c.in_ok-g.ensures
    c.in_ok-at.ensures c.closes.ensures.closed c.if-closes.false
