-- `parts::read_of` meets its contract.
use mathlib.Core.Path.{sym, ◌∙◌, ap}
use Rattle.std.proofs.Common.{rules}
use Rattle.code.specs.Instr.{operation, argument}
use Rattle.parts.specs.Parts.{reads_of}
use Rattle.parts.proofs.Names.{span_found, extents_found}
use Rattle.parts.proofs.read_of.Goals as goal

pub returns-in-Indexed : goal.returns-in-Indexed
returns-in-Indexed c =
    let a = c.args in
    λ t d.
    let e = ap (reads_of t _ a.line _) (sym c.in-Indexed.is) in
    (ap operation e, span_found _ t a.w.now d _ (c.find-n.ensures.known t d) _ (search rules) ∙ ap argument e)

pub returns-in-Place : goal.returns-in-Place
returns-in-Place c =
    let a = c.args in
    λ t d.
    let e = ap (reads_of t _ a.line _) (sym c.in-Place.is) in
    (ap operation e, extents_found _ t a.w.now d _ (c.find-n.ensures.known t d) _ (search rules) ∙ ap argument e)
