-- `names::is_named` meets its contract: the lengths are compared, and then the bytes.
use Rattle.std.proofs.Common.{sym, ◌∙◌, ap, arith}
use borrow.Author.Tests.{ne_eqb}
use Rattle.syntax.specs.Bytes.{same}
use Rattle.names.proofs.Laws.{same_is, name_words_are, name_other}
use Rattle.names.proofs.is_named.Goals as goal

pub returns-then-length_of-w : goal.returns-then-length_of-w
returns-then-length_of-w c =
    let a = c.args in
    same_is _ _ _ c.spells.ensures ∙ ap (same a.w.now) (sym (name_words_are a.table.now a.i a.w.now (sym c.length_of.ensures ∙ c.if-length_of-w.true) (omega arith)))

pub returns-else-length_of-w : goal.returns-else-length_of-w
returns-else-length_of-w c =
    ne_eqb _ _ c.if-length_of-w.false ∙ sym (name_other c.args.table.now c.args.i c.args.w.now (λ e. c.if-length_of-w.false (c.length_of.ensures ∙ e)))
