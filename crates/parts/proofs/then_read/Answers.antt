-- `parts::then_read` meets its contract.
use native.Mathlib.Omega.{arith}
use mathlib.Core.Path.{sym, ap, subst}
use mathlib.Core.List.{List}
use Prim.Native.Nat.{ℕ}
use lib.ListN.{length, drop}
use Rattle.parts.specs.Parts.{Worded}
use Rattle.lexer.proofs.Said.{name_short}
use Rattle.parts.proofs.then_read.Goals as goal

pub read_of-i-requires : goal.read_of-i-requires
read_of-i-requires c =
    (omega (arith, name_short (drop c.args.at c.args.s.now) c.requires.1, ap length c.token-t.ensures.bytes), c.requires.2)

pub returns : goal.returns
returns c =
    record {
      words = c.read_of-i.result;
      right = subst (λ (x : List ℕ). Worded c.args.table.now c.args.line x c.args.fetch c.read_of-i.result)
          (sym c.token-t.ensures.bytes) c.read_of-i.ensures;
      emits = c.then_emit.ensures;
    }
