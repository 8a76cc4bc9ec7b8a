-- `alike::same_token` meets its contract: of digits, without their leading zeros.
use Rattle.std.proofs.Common.{rules}
use Rattle.alike.proofs.Tokens.{same_digits}
use Rattle.alike.proofs.same_token.Goals as goal

pub returns-then-eq-2 : goal.returns-then-eq-2
returns-then-eq-2 c =
    same_digits c.args.t.kind c.args.u.kind _ _ c.past_zeros.ensures c.past_zeros-then-eq-2.ensures c.eq-then-eq-2.ensures (search rules) (search rules)
