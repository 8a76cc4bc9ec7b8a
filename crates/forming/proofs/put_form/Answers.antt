-- `forming::put_form` meets its contract: the first call writes nothing, and tells the length.
use mathlib.Core.Path.{◌∙◌, ap, subst}
use mathlib.Core.List.{List}
use Prim.Native.Nat.{ℕ}
use native.Mathlib.Omega.{arith}
use lib.ListN.{length}
use Rattle.writing.specs.Written.{Writes}
use Rattle.forming.specs.Lines.{lines_form}
use Rattle.forming.proofs.Answering.{none_lent, form_refused, form_given}
use Rattle.forming.proofs.put_form.Goals as goal

pub returns-then-bytes-size : goal.returns-then-bytes-size
returns-then-bytes-size c =
    let b = c.args.bytes.now in
    let e = none_lent c.put_lines-size.new.out b c.put_lines-size.auto.out in
    let q = form_refused (lines_form c.args.s.now) b (omega (arith, c.if-bytes-size.true, c.put_lines-size.ensures.place, ap length e)) in record {
      value = rw c.of_lent.ensures q.0;
      bytes_after = e ∙ q.1;
    }

pub returns : goal.returns
returns c =
    let b = c.args.bytes.now in
    let e = none_lent c.put_lines-size.new.out b c.put_lines-size.auto.out in
    let f = lines_form c.args.s.now in
    let both = form_given f b (omega (arith, c.if-bytes-size.false, c.put_lines-size.ensures.place, ap length e))
    (subst (λ (x : List ℕ). Writes x 0 f c.put_lines.new.out c.put_lines.result) e c.put_lines.ensures) in
    record { value = both.0; bytes_after = both.1 }
