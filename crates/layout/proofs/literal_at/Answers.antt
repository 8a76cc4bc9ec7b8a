-- `layout::literal_at` meets its contract: digits are one token, a sign and digits two.
use mathlib.Core.Path.{◌∙◌}
use Rattle.lexer.specs.declared.Kind.TheVariants.{Digits}
use Rattle.lexer.proofs.SameKind.{kind_same}
use Rattle.layout.proofs.Literals.{stands_one, stands_two}
use Rattle.layout.proofs.literal_at.Goals as goal

pub returns-then-eq : goal.returns-then-eq
returns-then-eq c =
    stands_one c.args.s.now c.args.at _ c.token-t.ensures _ c.start_of-first.ensures.0 c.start_of-first.ensures.1 _ (c.eq.ensures ∙ kind_same c.token-t.result.kind Digits) c.if-eq.true

pub returns : goal.returns
returns c =
    stands_two c.args.s.now c.args.at _ c.token-t.ensures _ c.start_of-first.ensures.0 c.start_of-first.ensures.1 _
    (c.eq.ensures ∙ kind_same c.token-t.result.kind Digits) c.if-eq.false _ c.token-u.ensures _ c.start_of.ensures.0 c.start_of.ensures.1
