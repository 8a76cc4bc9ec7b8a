-- `declarations::repeated` meets its contract.
use mathlib.Core.Path.{sym, ◌∙◌, ap}
use mathlib.Core.Bool.{Bool, ◌||◌}
use Rattle.syntax.specs.Bytes.{any, same}
use Rattle.declarations.specs.Integer.{names_of}
use Rattle.declarations.proofs.IntegerLines.{undeclared}
use Rattle.declarations.proofs.repeated.Goals as goal

pub returns-else-is_some : goal.returns-else-is_some
returns-else-is_some c =
    let none = undeclared _ _ c.find.result c.find.ensures.known (sym c.is_some.ensures ∙ c.if-is_some.false) in record {
      before = λ t d e. let n = none t d in cc;
      either = λ t d ds q. c.later.ensures ds q ∙ sym (ap (λ (b : Bool). b || any (same c.args.w.now) (names_of ds)) (none t d));
    }
