-- The bytes of a line, and its front.
use mathlib.Core.Path.{◌≡◌, refl, sym, ◌∙◌, ap}
use mathlib.Core.Bool.{Bool, ◌&&◌}
use mathlib.Core.List.{List, [], ◌∷◌}
use Prim.Native.Nat.{ℕ, ◌+◌, ◌-◌}
use native.Mathlib.Omega.{arith}
use lib.ListN.{length, take, drop, length-drop}
use lib.Seq.{take_all}
use Rattle.std.specs.List.{list_all}
use Rattle.syntax.specs.Bytes.{all, run, trimmed}
use Rattle.lexer.specs.Lex.{blank}
use Rattle.lexer.proofs.Tokens.{trimmed_run}

-- a is where the blanks end
pub trimmed_from : (s : List ℕ) (a : ℕ) → a ≡ 0 + run blank s → take (length s - a) (drop a s) ≡ trimmed s
trimmed_from s a e =
    let z : a ≡ run blank s = omega (arith, e) in
    take_all (length s - a) (drop a s) (omega (arith, length-drop a s)) ∙ ap (λ (m : ℕ). drop m s) z ∙ sym (trimmed_run s)

-- the library's word for all bytes
pub all_is : (p : ℕ → Bool) (s : List ℕ) → list_all p s ≡ all p s
all_is p [] = refl
all_is p (b ∷ s) = ap (λ (c : Bool). p b && c) (all_is p s)
