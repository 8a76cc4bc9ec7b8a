-- `updates::only_times` meets its contract; each call of itself has fewer bytes left.
use mathlib.Core.Path.{refl, ◌∙◌, ap}
use mathlib.Core.Bool.{true, false}
use Rattle.parts.specs.Parts.{joined, chosen}
use Rattle.parts.specs.declared.Joint.{Joint}
use Rattle.expressions.proofs.Shapes.{no_sign, some_sign}
use Rattle.updates.proofs.Parts.{timed_unread, timed_last, timed_slash, timed_more}
use Rattle.updates.proofs.+only_times.Goals as goal

pub returns-in-Neither : goal.returns-in-Neither
returns-in-Neither t c =
    timed_last _ _ _ _ _ _ _ c.in-Some.ensures (no_sign 42 47 _ _ _ c.join-sign.ensures c.in-Neither.is) c.signed.ensures

pub returns-in-First : goal.returns-in-First
returns-in-First t c =
    let (p, q, r) = some_sign 42 47 _ _ _ c.join-sign.ensures refl (ap joined c.in-First.is) in
    timed_more _ _ _ _ _ _ _ c.in-Some.ensures p (q ∙ ap (λ (j : Joint). chosen j false true) c.in-First.is) _ r
    c.only_times.ensures

pub returns-in-Second : goal.returns-in-Second
returns-in-Second t c =
    let (p, q, r) = some_sign 42 47 _ _ _ c.join-sign.ensures refl (ap joined c.in-Second.is) in
    timed_slash _ _ _ _ _ _ _ c.in-Some.ensures p (q ∙ ap (λ (j : Joint). chosen j false true) c.in-Second.is)

pub returns-in_default : goal.returns-in_default
returns-in_default t c = timed_unread _ _ _ _ _ _ c.in_default.ensures
