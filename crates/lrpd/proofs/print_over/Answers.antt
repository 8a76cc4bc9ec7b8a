-- `lrpd::print_over` meets its contract.
use mathlib.Core.Path.{◌≡◌, subst}
use Prim.Native.Nat.{◌≤◌}
use lib.ListN.{length}
use Rattle.printing.specs.Written.{Completes}
use Rattle.syntax.specs.Text.{read}
use Rattle.lrpd.specs.Output.{names_of}
use Rattle.lrpd.proofs.Answering.{holds, prints}
use native.Mathlib.Omega.{arith}
use borrow.Author.Rules.{rules}
use Rattle.lrpd.proofs.print_over.Goals as goal

pub report-requires : goal.report-requires
report-requires c =
    let load = c.load in
    let run = c.run-answer in
    let kept : length load.new.cells ≡ length c.args.cells.now = search rules in
    let few : length load.new.cells ≤ 128 = omega (arith, kept, c.requires.1) in
    let same : length run.new.cells ≡ length load.new.cells = search rules in (
      c.requires.0,
      λ (d : Completes run.result). (
        names_of (read c.args.text.now),
        holds _ _ _ _ _ c.read.ensures.accepted c.read.ensures.refused load.new.cells run.new.cells few same (subst Completes run.ensures.value d),
      ),
    )

pub returns : goal.returns
returns c =
    let load = c.load in
    let run = c.run-answer in
    let kept : length load.new.cells ≡ length c.args.cells.now = search rules in
    let few : length load.new.cells ≤ 128 = omega (arith, kept, c.requires.1) in
    let same : length run.new.cells ≡ length load.new.cells = search rules in
    prints
    _
    _
    _
    _
    _
    c.read.ensures.accepted
    c.read.ensures.refused
    load.new.cells
    run.new.cells
    few
    same
    _
    load.ensures.cells_after
    run.result
    run.ensures.value
    run.ensures.cells_after
    _
    _
    _
    c.report.ensures
