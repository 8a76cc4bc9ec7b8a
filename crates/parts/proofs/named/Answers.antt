-- `parts::named` meets its contract.
use native.Mathlib.Omega.{arith}
use mathlib.Core.Path.{sym, ◌∙◌, ap}
use mathlib.Core.List.{List}
use Prim.Native.Nat.{ℕ}
use lib.ListN.{length, drop}
use Rattle.syntax.specs.Conditions.{refers, rightly}
use Rattle.syntax.proofs.RankLaws.{level_most}
use Rattle.names.specs.Table.{variable_of}
use Rattle.parts.proofs.Names.{rank_by}
use Rattle.lexer.proofs.Said.{name_short}
use Rattle.parts.proofs.named.Goals as goal

pub fits-requires : goal.fits-requires
fits-requires c = omega (
  arith,
  name_short (drop c.args.at c.args.s.now) c.requires.1,
  ap length c.token-t.ensures.bytes,
)

pub returns-then-fits : goal.returns-then-fits
returns-then-fits c =
    λ t d.
    omega (
      arith,
      rank_by t (variable_of c.args.table.now) _ c.args.subscripts
          (sym c.if-fits.true ∙ c.fits.ensures t d ∙ ap (λ (x : List ℕ). rightly t (variable_of c.args.table.now) (refers x c.args.subscripts)) (sym c.token-t.ensures.bytes)),
    )

pub returns-else-fits : goal.returns-else-fits
returns-else-fits c =
    λ t d.
    omega (
      arith,
      level_most c.args.rank,
      rank_by t (variable_of c.args.table.now) _ c.args.subscripts
          (sym c.if-fits.false ∙ c.fits.ensures t d ∙ ap (λ (x : List ℕ). rightly t (variable_of c.args.table.now) (refers x c.args.subscripts)) (sym c.token-t.ensures.bytes)),
    )
