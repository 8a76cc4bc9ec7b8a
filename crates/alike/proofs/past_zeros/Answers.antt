-- `alike::past_zeros` meets its contract.
use Prim.Native.Nat.{ℕ}
use lib.Dec.{eqb}
use Rattle.std.proofs.Common.{rules}
use Rattle.alike.proofs.Tokens.{zeros_run}
use Rattle.alike.proofs.past_zeros.Goals as goal

pub returns : goal.returns
returns c = zeros_run c.args.w.now c.run_end.result (c.run_end.ensures.value (λ (b : ℕ). eqb b 48) (λ b r l e. search rules))
