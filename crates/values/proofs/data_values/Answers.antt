-- `values::data_values` meets its contract.
use mathlib.Core.Path.{refl}
use native.Mathlib.Omega.{arith}
use lib.ListN.{length-take, length-drop}
use Rattle.names.proofs.Rows.{find_bounded}
use Rattle.lexer.specs.Lex.{part}
use borrow.Rule.Slice.PartMut.{same_len_mid}
use Rattle.values.proofs.DataLines.{lies, data_not, data_open, data_read, gives_in, given_keeps}
use Rattle.values.proofs.data_values.Goals as goal

pub slice_bounds-items-end : goal.slice_bounds-items-end
slice_bounds-items-end c =
    let (t, tab) = c.requires.1 in
    let w = part c.args.s.now c.in_ok-x.x.start c.in_ok-x.x.next in
    let (f, z) = lies c.args.table.now w t _ (c.find-n.ensures.known t tab) c.extent_of-first.result c.extent_of-first.ensures in
    omega (arith, f, z, find_bounded c.args.table.now w t tab)

pub items-requires : goal.items-requires
items-requires c =
    let (t, tab) = c.requires.1 in
    let w = part c.args.s.now c.in_ok-x.x.start c.in_ok-x.x.next in
    let (f, z) = lies c.args.table.now w t _ (c.find-n.ensures.known t tab) c.extent_of-first.result c.extent_of-first.ensures in (
      c.in_ok-open.ensures.within,
      simp (length-take, length-drop) (omega (arith, f, z, find_bounded c.args.table.now w t tab)),
      omega arith,
    )

pub returns-in_err-d : goal.returns-in_err-d
returns-in_err-d c = record {
  fact = λ t tab f b. rw c.from_residual-in_err-d.ensures (data_not _ _ c.in_ok-x.x c.in_ok-x.ensures _ c.in_ok-open.ensures c.in_err-d.ensures.items f b);
  keeps = (λ h. (h, refl), same_len_mid _ _ _ _ c.in_err-d.ensures.cells_len_unchanged);
}

pub returns-in_err-next : goal.returns-in_err-next
returns-in_err-next c = record {
  fact = λ t tab f b. rw c.from_residual-in_err-next.ensures
      (data_open _ _ c.in_ok-x.x c.in_ok-x.ensures _ c.in_ok-open.ensures _ _ c.in_ok-d.ensures.items c.in_err-next.ensures f b);
  keeps = (λ h. (h, refl), same_len_mid _ _ _ _ c.items.ensures.cells_len_unchanged);
}

pub returns : goal.returns
returns c =
    let a = c.args in
    let x = c.in_ok-x.x in
    let w = part a.s.now x.start x.next in
    let d = c.in_ok-d.d in record {
      fact = λ t tab f b.
          let k = c.find-n.ensures.known t tab in
          let z = lies a.table.now w t _ k c.extent_of-first.result c.extent_of-first.ensures in
          data_read _ _ x c.in_ok-x.ensures _ c.in_ok-open.ensures _ _ c.in_ok-d.ensures.items _ c.in_ok-next.ensures _
          (λ y is p q. gives_in t _ a.cells.now _ tab c.requires.0 y w p.bytes c.find-n.result k _ _ z c.items.new.cells c.items.ensures.cells_len_unchanged
          d is q _ c.give_data-rank.ensures _) f b;
      keeps = (given_keeps _ _ _ _ _ _ c.give_data-rank.ensures, same_len_mid _ _ _ _ c.items.ensures.cells_len_unchanged);
    }
