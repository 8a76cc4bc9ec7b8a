-- What Look does, step by step.
use mathlib.Core.Path.{◌≡◌, sym, ◌∙◌, ap, subst}
use mathlib.Core.List.{List}
use Prim.Native.Nat.{ℕ, ◌-◌, ◌*◌}
use lib.ListN.{length, take, drop}
use lib.IntN.{ℤ}
use Rattle.rules.specs.declared.Class.{Class}
use Rattle.rules.specs.Loop.{Loop, Partition}
use Rattle.rules.specs.Marks.{marks}
use Rattle.rules.specs.Answer.{viewed, look}
use Rattle.rules.specs.Steps.{start, steps}
use Rattle.rules.proofs.CellsLaws.{listed_length}
use Rattle.trial.specs.declared.Setting.{Setting}
use Rattle.trial.specs.declared.Worker.{Worker}
use Rattle.trial.specs.Running.{dealt, Run, Follows, CanFollow}
use Rattle.trial.specs.Start.{Starts, CanTry, Begins}
use Rattle.trial.specs.Standing.{Stands}
use Rattle.view.specs.View.{Shown}
use Rattle.view.specs.View.{ShowsAfter}

-- what is shown after a schedule is what Look shows
shown_look : (l : Loop) (δ : Partition) (ps : List ℕ) (v : List ℕ)
    → (let s = steps l δ ps (start l δ) in v ≡ viewed l.size s.cells (λ c. marks δ.group c s.log)) → v ≡ look l δ ps
unfolding look
shown_look l δ ps v e = e

module _ (code : List ℕ) (g : Setting) (M : List ℤ) (C : List Class) (ps : List ℕ) (n : ℕ) (W' : List ℕ) (ws : List Worker) (b : Begins g M C n W' ws) where
  pub can_follow : CanTry code g M C ps n → CanFollow code g M W' ws ps
  can_follow (l, st, nm) = (l, start l (dealt g), b code l st, nm)

  module _ (M'' : List ℤ) (W'' : List ℕ) (ws' : List Worker) (f : Follows code g M W' ws ps M'' W'' ws') where
    after : (l : Loop) → Starts code g l M C n → Run code g l M'' W'' ws' (steps l (dealt g) ps (start l (dealt g)))
    after l st = f l (start l (dealt g)) (b code l st)

    pub can_show : CanTry code g M C ps n → Stands g.processors M'' W''
    can_show (l, st, nm) = (l, dealt g, steps l (dealt g) ps (start l (dealt g)), (after l st).running.standing)

    pub same_size : CanTry code g M C ps n → length M'' ≡ length M
    same_size (l, st, nm) =
        ap length (after l st).running.standing.cells
        ∙ listed_length l.size (steps l (dealt g) ps (start l (dealt g))).cells
        ∙ sym (ap length st.entry.cells ∙ listed_length l.size l.entry)

    pub shows_after : (U : List ℕ) → Shown g.processors M'' W'' U → ShowsAfter code g M C ps n U
    shows_after U sh l st = shown_look l (dealt g) ps U
        (sh l (dealt g) (steps l (dealt g) ps (start l (dealt g))) (after l st).running.standing)
