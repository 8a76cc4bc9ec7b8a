-- What Run answers after the serial run.
use mathlib.Core.Path.{◌≡◌, refl, sym, ◌∙◌, ap, subst}
use mathlib.Core.List.{List}
use Prim.Native.Nat.{ℕ}
use lib.ListN.{length, replicate}
use lib.IntN.{ℤ}
use Rattle.std.specs.Prelude.{Result, Ok, Err}
use Rattle.answers.specs.declared.Counts.{Counts}
use Rattle.answers.specs.declared.Failure.{Failure}
use Rattle.answers.specs.declared.Failure.TheVariants.{Faulted, Refused}
use Rattle.answers.specs.declared.Fault.{Fault}
use Rattle.answers.specs.declared.Ran.{Ran}
use Rattle.answers.specs.declared.Ran.TheVariants.{Rerun}
use Rattle.answers.specs.declared.Refusal.{Refusal}
use Rattle.outcome.specs.ReadOff.{CanRestore, Restores}
use Rattle.outcome.specs.Concluding.{CanConclude, ConcludesBy}

pub can_restore : (s : Result Counts Failure) (M : List ℤ) (W : List ℕ) (k : Failure) (f : Fault) → CanConclude s M W → s ≡ Err k → k ≡ Faulted f
    → CanRestore 1 M W
unfolding CanConclude
can_restore s M W k f h e q = subst (λ (x : Result Counts Failure). CanConclude x M W) (e ∙ ap Err q) h

module _ (s : Result Counts Failure) (M : List ℤ) (W : List ℕ) (W' : List ℕ) where
  pub concluded_finished : (c : Counts) → s ≡ Ok c → W' ≡ replicate (length W) 0 → ConcludesBy s M W (Ok (Rerun c)) M W'
  unfolding ConcludesBy
  concluded_finished c e w = subst (λ (x : Result Counts Failure). ConcludesBy x M W (Ok (Rerun c)) M W') (sym e) (refl, refl, w)

  pub concluded_faulted : (k : Failure) (f : Fault) (M' : List ℤ) → s ≡ Err k → k ≡ Faulted f → Restores 1 M W M' → W' ≡ replicate (length W) 0
      → ConcludesBy s M W (Err k) M' W'
  unfolding ConcludesBy
  concluded_faulted k f M' e q h w =
      subst (λ (x : Result Counts Failure). ConcludesBy x M W (Err k) M' W') (sym (e ∙ ap Err q)) (ap Err q, h, w)

  pub concluded_refused : (k : Failure) (r : Refusal) → s ≡ Err k → k ≡ Refused r → ConcludesBy s M W (Err k) M W
  unfolding ConcludesBy
  concluded_refused k r e q = subst (λ (x : Result Counts Failure). ConcludesBy x M W (Err k) M W) (sym (e ∙ ap Err q)) (ap Err q, refl, refl)
