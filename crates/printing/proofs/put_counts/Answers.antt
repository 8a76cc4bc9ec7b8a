-- `printing::put_counts` meets its contract.
use Rattle.writing.proofs.Writing.{writes_then}
use Rattle.printing.proofs.put_counts.Goals as goal

pub returns : goal.returns
returns c =
    let put-bytes = c.put_bytes-a in
    let put-digits = c.put_digits-b in
    let put = c.put-c in
    let put-digits2 = c.put_digits-d in
    let put2 = c.put in
    writes_then put-bytes.ensures (writes_then put-digits.ensures (writes_then put.ensures (writes_then put-digits2.ensures put2.ensures)))
