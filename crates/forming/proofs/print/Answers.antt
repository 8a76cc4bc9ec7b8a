-- `forming::print` meets its contract.
use mathlib.Core.Path.{refl}
use native.Mathlib.Omega.{arith}
use lib.ListN.{replicate}
use Rattle.std.proofs.lemmas.Result.{err_from_is_err_and}
use Rattle.reader.proofs.Whole.{lowered_at}
use Rattle.forming.proofs.Answering.{print_refused, fine_short, fine_low, fine_lines, fine_fits, print_fine}
use Rattle.forming.proofs.print.Goals as goal

pub returns-in_err-read : goal.returns-in_err-read
returns-in_err-read c =
    let q = err_from_is_err_and c.from_residual.result c.from_residual.ensures.1 in
    let both = print_refused _ _ c.args.text.now c.args.bytes.now c.in_err-read.ensures.refused in
    record { value = rw (q.1, q.2) both.0; bytes_after = both.1 }

pub lowered-requires : goal.lowered-requires
lowered-requires c = fine_short _ _ _ _ _ c.in_ok-read.ensures.accepted c.args.bytes.now

pub slice_bounds-put_form-end : goal.slice_bounds-put_form-end
slice_bounds-put_form-end c = omega (arith, fine_short _ _ _ _ _ c.in_ok-read.ensures.accepted c.args.bytes.now)

pub put_form-requires : goal.put_form-requires
put_form-requires c =
    let b = c.args.bytes.now in
    let v = c.in_ok-read.ensures.accepted in
    let m = fine_short _ _ _ _ _ v b in
    let e = lowered_at c.args.text.now (replicate 2048 0) _ _ c.lowered.ensures refl (omega (arith, m)) in
    (fine_low _ _ _ _ _ v b _ e, fine_lines _ _ _ _ _ v b _ e, fine_fits _ _ _ _ _ v b _ e)

pub returns : goal.returns
returns c =
    let b = c.args.bytes.now in
    let v = c.in_ok-read.ensures.accepted in
    let m = fine_short _ _ _ _ _ v b in
    let e = lowered_at c.args.text.now (replicate 2048 0) _ _ c.lowered.ensures refl (omega (arith, m)) in
    let both = print_fine _ _ _ _ _ v b _ e c.put_form.ensures.value c.put_form.ensures.bytes_after in
    record { value = both.0; bytes_after = both.1 }
