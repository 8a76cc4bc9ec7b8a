-- `clauses::names_at` meets its contract: the kind, the names and the bracket.
use Rattle.clauses.proofs.ClauseWords.{claims_not, names_open, names_read, names_onward}
use Rattle.clauses.proofs.names_at.Goals as goal

pub returns-in_err-c-clause-names_at : goal.returns-in_err-c-clause-names_at
returns-in_err-c-clause-names_at c =
    let k = c.in_ok-k in
    rw c.from_residual-in_err-c.ensures (claims_not c.args.reading c.args.table.now _ c.args.before k.k.kind k.ensures.finds k.ensures.at_lt_next _ c.deed_of-deed.ensures c.claims.new.table c.in_err-c.ensures.claims)

pub returns-in_err-pass-clause-names_at : goal.returns-in_err-pass-clause-names_at
returns-in_err-pass-clause-names_at c =
    let k = c.in_ok-k in
    let n = c.in_ok-c in
    rw c.from_residual-in_err-pass.ensures
    (names_open c.args.reading _ _ c.args.before k.k.kind k.ensures.finds k.ensures.at_lt_next _ c.deed_of-deed.ensures _ n.c n.ensures.claims c.in_err-pass.ensures)

pub returns : goal.returns
returns c =
    let k = c.in_ok-k in
    let n = c.in_ok-c in record {
      names_at = names_read c.args.reading _ _ c.args.before k.k.kind k.ensures.finds k.ensures.at_lt_next _ c.deed_of-deed.ensures _ n.c n.ensures.claims _ c.in_ok-pass.ensures;
      keeps = n.ensures.keeps;
      at_lt_next = names_onward c.args.reading _ _ c.args.before k.k.kind k.ensures.finds k.ensures.at_lt_next _ c.deed_of-deed.ensures _ n.c n.ensures.claims c.requires c.in_ok-pass.ensures;
    }
