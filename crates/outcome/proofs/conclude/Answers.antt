-- `outcome::conclude` meets its contract.
use mathlib.Core.List.{[]}
use Rattle.outcome.proofs.Concluding.{can_restore, concluded_finished, concluded_faulted, concluded_refused}
use Rattle.outcome.proofs.conclude.Goals as goal

pub restore-requires : goal.restore-requires
restore-requires c = can_restore _ _ _ _ _ c.requires c.in-Err.is c.in-Faulted.is

pub returns-in-Ok : goal.returns-in-Ok
returns-in-Ok c = concluded_finished _ _ _ _ _ c.in-Ok.is c.clear.ensures

pub returns-in-Faulted : goal.returns-in-Faulted
returns-in-Faulted c = concluded_faulted _ _ _ _ _ _ _ c.in-Err.is c.in-Faulted.is c.restore.ensures c.clear-in-Faulted.ensures

pub returns-in-Refused : goal.returns-in-Refused
returns-in-Refused c = concluded_refused _ _ _ [] _ _ c.in-Err.is c.in-Refused.is
