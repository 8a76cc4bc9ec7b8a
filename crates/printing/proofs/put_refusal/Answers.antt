-- `printing::put_refusal` meets its contract.
use Rattle.writing.proofs.Writing.{writes_then}
use Rattle.printing.proofs.Writing.{signed_seen}
use Rattle.printing.proofs.put_refusal.Goals as goal

pub returns : goal.returns
returns c =
    let args = c.args in
    let fits = c.ranges in
    let put-bytes = c.put_bytes-a in
    let put-digits = c.put_digits-b in
    let put = c.put-c in
    let put-digits2 = c.put_digits-d in
    let put2 = c.put-e in
    let put-signed = c.put_signed-f in
    let put3 = c.put in
    writes_then put-bytes.ensures
    (writes_then put-digits.ensures
    (writes_then put.ensures
    (writes_then put-digits2.ensures
    (writes_then put2.ensures (writes_then (signed_seen args.v fits.v put-signed.ensures) put3.ensures)))))
