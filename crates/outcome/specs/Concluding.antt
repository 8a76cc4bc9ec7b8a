-- What Run answers after the serial run.
use Rattle.std.specs.Prelude.{◌≡◌, List, ℕ, length, replicate, ℤ, Result, Ok, Err}
use Rattle.answers.specs.declared.Counts.{Counts}
use Rattle.answers.specs.declared.Failure.{Failure}
use Rattle.answers.specs.declared.Failure.TheVariants.{Faulted, Refused}
use Rattle.answers.specs.declared.Ran.{Ran}
use Rattle.answers.specs.declared.Ran.TheVariants.{Rerun}
use Rattle.outcome.specs.ReadOff.{CanRestore, Restores}

-- "if that faults, they return to entry again"
unfoldable pub CanConclude : Result Counts Failure → List ℤ → List ℕ → Type 0
CanConclude (Ok c) M W = Unit {0}
CanConclude (Err (Faulted f)) M W = CanRestore 1 M W
CanConclude (Err (Refused e)) M W = Unit {0}

unfoldable pub ConcludesBy : Result Counts Failure → List ℤ → List ℕ → Result Ran Failure → List ℤ → List ℕ → Type 0
ConcludesBy (Ok c) M W r M' W' = (r ≡ Ok (Rerun c)) × (M' ≡ M) × (W' ≡ replicate (length W) 0)
ConcludesBy (Err (Faulted f)) M W r M' W' = (r ≡ Err (Faulted f)) × Restores 1 M W M' × (W' ≡ replicate (length W) 0)
ConcludesBy (Err (Refused e)) M W r M' W' = (r ≡ Err (Refused e)) × (M' ≡ M) × (W' ≡ W)
