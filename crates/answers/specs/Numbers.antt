-- RULES 9.7 b and 10 (document 01, Services and answers): "Returned: number, line, value of v", and both write counts, for what the serial run answers.
-- Those of the services are in crates/exports.
use Rattle.std.specs.Prelude.{ℕ, ℤ, pos, Result, Ok, Err}
use Rattle.answers.specs.declared.Counts.{Counts}
use Rattle.answers.specs.declared.Failure.{Failure}
use Rattle.answers.specs.declared.Failure.TheVariants.{Refused, Faulted}

pub record Returned : Type 0 where
  pub number : ℕ
  pub line : ℕ
  pub v : ℤ
  pub pairs : ℕ
  pub cells : ℕ

-- both write counts, a fault, a refusal
abbrev pub done : ℕ → ℕ → Returned
done a b = record { number = 0; line = 0; v = pos 0; pairs = a; cells = b }

abbrev pub failure : ℕ → ℕ → ℤ → Returned
failure n k x = record { number = n; line = k; v = x; pairs = 0; cells = 0 }

abbrev pub refusal : ℕ → ℕ → Returned
refusal n k = failure n k (pos 0)

unfoldable pub served_numbers : Result Counts Failure → Returned
served_numbers (Ok c) = done c.pairs c.cells
served_numbers (Err (Faulted f)) = failure f.number f.line f.v
served_numbers (Err (Refused r)) = refusal r.number r.line
