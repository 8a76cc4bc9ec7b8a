-- `values::item_at` meets its contract: with digits and a star before it, or without.
use mathlib.Core.Path.{refl}
use mathlib.Core.Option.{none}
use Rattle.values.proofs.DataLines.{item_signed, item_once, item_repeated}
use Rattle.values.proofs.item_at.Goals as goal
use Rattle.values.proofs.item_at.Goals.{in-Some+in_default-pass, in_default}

pub returns-in-Some-pass : goal.returns-in-Some-pass
returns-in-Some-pass c = item_repeated _ _ c.in-Some.r c.in-Some.ensures _ c.in-Some-pass.ensures _ c.copied.ensures

pub returns : goal.returns
returns c = elim c.match-digits.branch [
  | in-Some+in_default-pass w ↦ item_once _ _ w.in-Some.r w.in-Some.ensures w.in_default-pass.ensures _ (c.copied-2.ensures none refl)
  | in_default w ↦ item_signed _ _ w.in_default.ensures c.requires _ (c.copied-2.ensures none refl)
]
