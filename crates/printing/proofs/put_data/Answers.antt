-- `printing::put_data` meets its contract.
use mathlib.Core.Path.{refl}
use Prim.Native.Nat.{◌-◌}
use Rattle.names.proofs.Rows.{name_length}
use Rattle.printing.proofs.Lines.{line_written}
use Rattle.printing.proofs.Writing.{values_few}
use lib.ListN.{take, drop}
use native.Mathlib.Omega.{arith}
use Rattle.printing.proofs.put_data.Goals as goal

pub put_bytes-a-requires : goal.put_bytes-a-requires
put_bytes-a-requires c = omega (arith, c.requires.2)

pub put_name-b-requires : goal.put_name-b-requires
put_name-b-requires c =
    let pre = c.requires in
    let put-bytes = c.put_bytes-a in
    (omega (arith, put-bytes.ensures.place, pre.2), pre.0)

pub put_bytes-c-requires : goal.put_bytes-c-requires
put_bytes-c-requires c =
    let args = c.args in
    let pre = c.requires in
    let put-bytes = c.put_bytes-a in
    let put-name = c.put_name-b in
    omega (arith, put-bytes.ensures.place, put-name.ensures.place, name_length args.table.now args.i, pre.0.short, pre.2)

pub slice_bounds-put_values-count : goal.slice_bounds-put_values-count
slice_bounds-put_values-count c =
    let pre = c.requires in
    let first_of = c.first_of-first in
    let end_of = c.end_of-stop in
    omega (arith, first_of.ensures, end_of.ensures, pre.1, pre.2)

pub slice_bounds-put_values-start : goal.slice_bounds-put_values-start
slice_bounds-put_values-start c =
    let pre = c.requires in
    let first_of = c.first_of-first in
    let end_of = c.end_of-stop in
    omega (arith, first_of.ensures, end_of.ensures, pre.1, pre.2)

pub slice_bounds-put_values-end : goal.slice_bounds-put_values-end
slice_bounds-put_values-end c =
    let pre = c.requires in
    let first_of = c.first_of-first in
    let end_of = c.end_of-stop in
    omega (arith, first_of.ensures, end_of.ensures, pre.1, pre.2)

pub put_values-d-requires : goal.put_values-d-requires
put_values-d-requires c =
    let args = c.args in
    let pre = c.requires in
    let first_of = c.first_of-first in
    let end_of = c.end_of-stop in
    let put-bytes = c.put_bytes-a in
    let put-name = c.put_name-b in
    let put-bytes2 = c.put_bytes-c in
    omega (
      arith,
      put-bytes.ensures.place,
      put-name.ensures.place,
      name_length args.table.now args.i,
      pre.0.short,
      put-bytes2.ensures.place,
      end_of.ensures,
      pre.2,
    )

pub put_bytes-requires : goal.put_bytes-requires
put_bytes-requires c =
    let args = c.args in
    let pre = c.requires in
    let first_of = c.first_of-first in
    let end_of = c.end_of-stop in
    let put-bytes = c.put_bytes-a in
    let put-name = c.put_name-b in
    let put-bytes2 = c.put_bytes-c in
    let put-values = c.put_values-d in
    omega (
      arith,
      put-bytes.ensures.place,
      put-name.ensures.place,
      name_length args.table.now args.i,
      pre.0.short,
      put-bytes2.ensures.place,
      put-values.ensures.place,
      values_few (take (end_of.result - first_of.result) (drop first_of.result args.cells.now)),
      end_of.ensures,
      pre.2,
    )

pub returns : goal.returns
returns c =
    let args = c.args in
    let first_of = c.first_of-first in
    let end_of = c.end_of-stop in
    let put-bytes = c.put_bytes-a in
    let put-name = c.put_name-b in
    let put-bytes2 = c.put_bytes-c in
    let put-values = c.put_values-d in
    let put-bytes3 = c.put_bytes in
    line_written args.table.now args.cells.now _ args.i first_of.result end_of.result first_of.ensures
    (omega (arith, first_of.ensures, end_of.ensures)) refl put-bytes.ensures put-name.ensures put-bytes2.ensures put-values.ensures
    put-bytes3.ensures
