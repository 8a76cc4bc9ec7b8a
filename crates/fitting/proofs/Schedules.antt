-- A schedule's test, by what is so of each byte.
use Rattle.std.proofs.Common.{◌≡◌, ◌<◌, ◌↔◌, ℕ, Bool, ltb, List, All, IsTrue, refl}
use Rattle.std.proofs.lemmas.Bool.Decides.{same_from_decides, Decides-ltb, Decides-by_and}
use Rattle.syntax.specs.Bytes.{all}

pub tested : (p : ℕ) (ps : List ℕ) (r : Bool) → (IsTrue r ↔ All (λ b. b < p) ps) → r ≡ all (λ b. ltb b p) ps
tested p ps r h =
    same_from_decides r (all (λ b. ltb b p) ps) h
    (Decides-by_and (λ b. ltb b p) (λ b. b < p) (all (λ b. ltb b p)) (λ b. Decides-ltb b p) refl (λ _ _. refl) ps)
