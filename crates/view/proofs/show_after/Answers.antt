-- `view::show_after` meets its contract.
use mathlib.Core.Path.{sym, ◌∙◌, ap}
use Prim.Native.Nat.{ℕ, ◌*◌}
use lib.ListN.{replicate}
use Rattle.view.proofs.Looking.{can_follow, can_show, same_size, shows_after}
use Rattle.view.proofs.show_after.Goals as goal

pub follow-requires : goal.follow-requires
follow-requires c =
    can_follow _ _ _ _ c.args.schedule.now _ _ _ c.begin-workers.ensures c.requires.0

pub show-requires : goal.show-requires
show-requires c = (
  can_show _ _ _ _ c.args.schedule.now _ _ _ c.begin-workers.ensures _ _ _ c.follow.ensures c.requires.0,
  c.requires.1
      ∙ ap (λ (n : ℕ). 2 * n)
      (sym (same_size _ _ _ _ c.args.schedule.now _ _ _ c.begin-workers.ensures _ _ _ c.follow.ensures c.requires.0)),
)

pub returns : goal.returns
returns c = record {
  shows_after = shows_after _ _ _ _ c.args.schedule.now _ _ _ c.begin-workers.ensures _ _ _ c.follow.ensures _ c.show.ensures;
  w_after = c.clear.ensures ∙ ap (λ (n : ℕ). replicate n 0) (c.follow.auto.w ∙ c.begin-workers.auto.w);
}
