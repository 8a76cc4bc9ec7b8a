-- What Plan's parts promise; what Plan itself promises is in crates/answers.
use Rattle.std.specs.Prelude.{◌≡◌, List, ℕ, ℤ, Result}
use Rattle.rules.specs.declared.Class.{Class}
use Rattle.rules.specs.Loop.{Loop}
use Rattle.rules.specs.Serial.{serial}
use Rattle.stepping.specs.declared.Point.{Point}
use Rattle.trial.specs.declared.Setting.{Setting}
use Rattle.serial.specs.Serving.{Serials, outcome_of}
use Rattle.answers.specs.declared.Failure.{Failure}
use Rattle.answers.specs.Answers.{staged, stages_written}

-- where the serial run ends
abbrev pub Ends : List ℕ → Setting → List ℤ → List Class → ℕ → Point → Type 0
Ends code s M C w t = (l : Loop) → Serials code s l M C w → outcome_of t ≡ (serial l).outcome

-- a loop's serial run can be made, and the list has a number for each iteration
pub record CanPlan (code : List ℕ) (s : Setting) (M : List ℤ) (C : List Class) (w n : ℕ) : Type 0 where
  pub loop : Loop
  pub serials : Serials code s loop M C w
  pub numbers : n ≡ s.iterations

-- the answer, and the list
pub record Plan (l : Loop) (v : ℤ) (L : List ℕ) (r : Result ℕ Failure) (L' : List ℕ) : Type 0 where
  pub answer : r ≡ staged l v (serial l).outcome
  pub list : L' ≡ stages_written l L (serial l).outcome

abbrev pub Plans : List ℕ → Setting → List ℤ → List Class → ℕ → List ℕ → Result ℕ Failure → List ℕ → Type 0
Plans code s M C w L r L' = (l : Loop) → Serials code s l M C w → Plan l s.from L r L'
