-- `parts::then_negate` meets its contract, lead by lead.
use mathlib.Core.Logic.{inl, inr}
use Rattle.code.specs.Instr.{words}
use Rattle.parts.proofs.Laws.{emits_none, emits_lead}
use Rattle.parts.proofs.then_negate.Goals as goal

pub returns-in-Neither : goal.returns-in-Neither
unfolding words
returns-in-Neither c = elim c.in-Neither.is [ inl e ↦ emits_lead _ _ _ _ e (emits_none _ _) | inr e ↦ emits_lead _ _ _ _ e (emits_none _ _) ]

pub returns-in-Second : goal.returns-in-Second
unfolding words
returns-in-Second c = emits_lead _ _ _ _ c.in-Second.is c.then_emit.ensures
