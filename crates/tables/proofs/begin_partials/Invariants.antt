-- `tables::begin_partials` meets its contract: the partial results of the processors passed have begun.
use Rattle.std.proofs.Common.{◌≡◌}
use Rattle.tables.specs.Entered.{started}
use Rattle.tables.proofs.begin_partials.Given as goal

abbrev pub invariant-loop-q : goal.invariant-loop-q
invariant-loop-q l = l.w ≡ started l.initial.w l.row l.start l.q
