-- `lines::integer_line` meets its contract.
use Rattle.std.proofs.lemmas.Result.{err_from_is_err_and}
use Prim.Native.Nat.{◌≤◌}
use Rattle.std.specs.Prelude.{Option, IfSome}
use Rattle.syntax.specs.declared.Rank.TheVariants.{InOrder}
use Rattle.declarations.specs.Integer.{Integers}
use Rattle.declarations.specs.declared.Listed.{Listed}
use Rattle.lines.specs.declared.Progress.{Progress}
use Rattle.lines.specs.Progress.{held}
use Rattle.lines.proofs.Verdicts.{passed, unpassed, some_of, broken_form}
use Rattle.lines.proofs.DeclareLine.{declare_wordless, declare_missing, declare_told, declare_line}
use Rattle.lines.proofs.integer_line.Goals as goal

pub returns-in_err-next : goal.returns-in_err-next
returns-in_err-next c =
    let s = c.args.s.now in
    let e = c.in_err-next.ensures.value in
    let q = err_from_is_err_and c.from_residual.result c.from_residual.ensures.1 in
    rw (q.1, q.2) (λ k I C O. declare_wordless s k _ _ _ (broken_form _ _ e) (unpassed "integer" s 0 _ _ e c.pass.ensures))

pub returns-in_err-r : goal.returns-in_err-r
returns-in_err-r c =
    let a = c.args in
    let s = a.s.now in
    let g = passed "integer" s 0 _ _ c.in_ok-next.ensures.value c.pass.ensures in
    let q = err_from_is_err_and c.from_residual-in_err-r.result c.from_residual-in_err-r.ensures.1 in
    rw (q.1, q.2) (λ k I C O. declare_missing k s (held a.p a.table.now I C O) c.integers.new.table _ g _ _ _ c.in_err-r.ensures.value c.integers.ensures.integers)

pub returns-in_err-judged : goal.returns-in_err-judged
returns-in_err-judged c =
    let a = c.args in
    let s = a.s.now in
    let e = c.in_ok-r.ensures.value in
    let g = passed "integer" s 0 _ _ c.in_ok-next.ensures.value c.pass.ensures in
    let h = some_of (λ (o : Option Listed). Integers a.table.now s (record { next = c.in_ok-next.next; cells = a.p.cells; rank = InOrder }) c.integers.new.table o) _ _ e
    c.integers.ensures.integers in
    let few = some_of (λ (o : Option Listed). IfSome o (λ r. r.cells ≤ 4096)) _ _ e c.integers.ensures.few_cells in
    let q = err_from_is_err_and c.from_residual-in_err-judged.result c.from_residual-in_err-judged.ensures.1 in
    rw (q.1, q.2) (λ k I C O. declare_told k s (held a.p a.table.now I C O) c.integers.new.table _ g _ h c.integers.ensures.keeps few _ c.in_err-judged.ensures.comes)

pub returns : goal.returns
returns c =
    let a = c.args in
    let s = a.s.now in
    let e = c.in_ok-r.ensures.value in
    let g = passed "integer" s 0 _ _ c.in_ok-next.ensures.value c.pass.ensures in
    let h = some_of (λ (o : Option Listed). Integers a.table.now s (record { next = c.in_ok-next.next; cells = a.p.cells; rank = InOrder }) c.integers.new.table o) _ _ e
    c.integers.ensures.integers in
    let few = some_of (λ (o : Option Listed). IfSome o (λ r. r.cells ≤ 4096)) _ _ e c.integers.ensures.few_cells in
    λ k I C O. declare_line k s (held a.p a.table.now I C O) c.integers.new.table _ g _ h c.integers.ensures.keeps few _ _ c.in_ok-judged.ensures.comes c.before_do.ensures
