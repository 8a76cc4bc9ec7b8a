-- `bounds::bounds_at` meets its contract.
use Rattle.bounds.proofs.DoLines.{no_equals, no_first, no_comma, no_last, bounds_read}
use Rattle.bounds.proofs.bounds_at.Goals as goal

pub returns-in_err-a : goal.returns-in_err-a
returns-in_err-a c = rw c.from_residual-in_err-a.ensures (no_equals c.in_ok-v.v c.in_ok-v.ensures c.in_err-a.ensures)

pub returns-in_err-m : goal.returns-in_err-m
returns-in_err-m c = rw c.from_residual-in_err-m.ensures
    (no_first c.in_ok-v.v c.in_ok-v.ensures c.in_ok-a.ensures c.lead-l.result (c.lead-l.ensures.read c.in_ok-a.ensures.within) c.in_err-m.ensures)

pub returns-in_err-b : goal.returns-in_err-b
returns-in_err-b c = rw c.from_residual-in_err-b.ensures
    (no_comma c.in_ok-v.v c.in_ok-v.ensures c.in_ok-a.ensures c.lead-l.result (c.lead-l.ensures.read c.in_ok-a.ensures.within) c.in_ok-m.m c.in_ok-m.ensures
    c.in_err-b.ensures)

pub returns-in_err-n : goal.returns-in_err-n
returns-in_err-n c = rw c.from_residual-in_err-n.ensures
    (no_last c.in_ok-v.v c.in_ok-v.ensures c.in_ok-a.ensures c.lead-l.result (c.lead-l.ensures.read c.in_ok-a.ensures.within) c.in_ok-m.m c.in_ok-m.ensures
    c.in_ok-b.ensures c.lead-k.result (c.lead-k.ensures.read c.in_ok-b.ensures.within) c.in_err-n.ensures)

pub returns : goal.returns
returns c =
    bounds_read c.in_ok-v.v c.in_ok-v.ensures c.in_ok-a.ensures c.lead-l.result (c.lead-l.ensures.read c.in_ok-a.ensures.within) c.in_ok-m.m c.in_ok-m.ensures
    c.in_ok-b.ensures c.lead-k.result (c.lead-k.ensures.read c.in_ok-b.ensures.within) c.in_ok-n.n c.in_ok-n.ensures
