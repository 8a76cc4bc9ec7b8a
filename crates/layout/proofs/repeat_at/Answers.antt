-- `layout::repeat_at` meets its contract: digits, and a star after them.
use mathlib.Core.Path.{sym, subst}
use Rattle.std.specs.Prelude.{Option}
use Rattle.layout.specs.declared.Repeat.{Repeat}
use Rattle.layout.specs.Copied.{Repeats}
use Rattle.layout.proofs.Copying.{no_repeat, no_digits, no_star, star_found}
use Rattle.layout.proofs.repeat_at.Goals as goal

pub returns-then-not-copying : goal.returns-then-not-copying
returns-then-not-copying c = no_repeat c.args.s.now c.args.at c.args.copying c.if-not-copying.true

pub returns-in_err-d : goal.returns-in_err-d
returns-in_err-d c =
    subst (λ (o : Option Repeat). Repeats c.args.copying c.args.s.now c.args.at o) (sym c.from_residual.ensures)
    (no_digits c.args.s.now c.args.at c.in_err-d.ensures c.requires c.args.copying c.if-not-copying.false)

pub returns-in_err-next : goal.returns-in_err-next
returns-in_err-next c =
    subst (λ (o : Option Repeat). Repeats c.args.copying c.args.s.now c.args.at o) (sym c.from_residual-in_err-next.ensures)
    (no_star c.args.s.now c.args.at c.in_ok-d.ensures c.args.copying c.if-not-copying.false c.in_err-next.ensures)

pub returns : goal.returns
returns c = star_found c.args.s.now c.args.at c.in_ok-d.ensures c.args.copying c.if-not-copying.false c.in_ok-next.ensures
