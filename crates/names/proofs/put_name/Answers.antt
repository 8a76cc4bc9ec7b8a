-- `names::put_name` meets its contract: the length is written after the bytes.
use Rattle.std.proofs.Common.{◌+◌, ◌*◌, ◌∙◌, arith}
use Rattle.std.proofs.Math.ListN.{length-set}
use Rattle.names.specs.Table.{length_word, entry_words}
use Rattle.names.proofs.Laws.{name_written, set_elsewhere}
use Rattle.names.proofs.put_name.Goals as goal

pub returns : goal.returns
returns c =
    let a = c.args in
    let l = c.loop-k in
    record {
      long = simp length-set l.invariant.long;
      name = λ h. name_written l.table a.i a.w.now (omega (arith, l.invariant.long)) (λ j b. l.invariant.written h j (omega arith)) (omega arith);
      before = λ p b. set_elsewhere l.table (entry_words * a.i + length_word) p _ (omega arith) ∙ l.invariant.before p b;
      spare = λ j b d. set_elsewhere l.table (entry_words * a.i + length_word) (entry_words * a.i + j) _ (omega arith)
          ∙ l.invariant.after (entry_words * a.i + j) (omega arith);
      after = λ p b. set_elsewhere l.table (entry_words * a.i + length_word) p _ (omega arith) ∙ l.invariant.after p (omega arith);
    }
