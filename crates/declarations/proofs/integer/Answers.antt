-- `declarations::integer` meets its contract.
use Rattle.lexer.proofs.InTurn.{to_saying}
use Rattle.declarations.proofs.IntegerLines.{entered, few_cells, keeps}
use Rattle.declarations.proofs.integer.Goals as goal

pub returns : goal.returns
returns c =
    let s = c.args.s.now in
    let x = c.in_ok-d.d in
    let rank = c.declared_rank-rank.ensures in
    let again = c.repeated-again.result in
    let names = c.count.result in record {
      finds = to_saying c.in_ok-d.ensures (λ d p. entered _ s _ _ _ x again names _ _ rank d p c.repeated-again.ensures c.count.ensures c.enter-cells.ensures);
      keeps = keeps _ s _ _ _ x again names _ _ rank _ c.enter-cells.ensures;
      few_cells = few_cells _ s _ _ _ x again names _ _ rank _ c.enter-cells.ensures c.requires;
    }
