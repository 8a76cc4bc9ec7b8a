-- The printed line by its tokens, as code meets them: data lines and joined endings apart, the line's own tokens without leading zeros; and that
-- every data item of an accepted text has a copy.
use mathlib.Core.Path.{◌≡◌, refl}
use mathlib.Core.Bool.{Bool, true, false}
use mathlib.Core.List.{List, [], ◌∷◌, ◌++◌, map}
use Prim.Native.Nat.{ℕ, ◌<◌}
use native.Mathlib.Omega.{arith}
use lib.Dec.{ltb}
use borrow.Author.Tests.{ltb-true}
use Rattle.syntax.specs.Bytes.{all}
use Rattle.syntax.specs.Grammar.{Item, assign, when, otherwise, end_if, Line, declare, give, direct, loop, inside, end_do, close, wd, show_line}
use Rattle.syntax.specs.Known.{Open, State, copies, after}
use Rattle.syntax.specs.Conditions.{stage_of, may_follow, fits, stands}
use Rattle.syntax.specs.Follows.{Program, InOrder}
use Rattle.syntax.specs.Sane.{Each}
use Rattle.syntax.proofs.Spelling.{both_true}
use Rattle.printed.specs.Form.{zeros_gone, once, written_out, data_line, plain, formed_line}
use Rattle.printed.specs.Differ.{show_data}
use Rattle.printed.proofs.PlainLaws.{Filled, filled, filled_out}

-- lines that are printed with other tokens than their own: data, and endings joined
abbrev pub rewritten : Line → Bool
rewritten (declare d ds) = false
rewritten (give x i is) = true
rewritten (direct cs) = false
rewritten (loop v l m k n) = false
rewritten (inside (assign r e)) = false
rewritten (inside (when a r b)) = false
rewritten (inside otherwise) = false
rewritten (inside (end_if joined?)) = joined?
rewritten (end_do joined?) = joined?
rewritten close = false

pub formed_own : (l : Line) → rewritten l ≡ false → formed_line l ≡ map zeros_gone (show_line l)
unfolding plain
formed_own (declare d ds) h = refl
formed_own (give x i is) h = let z : ◌≡◌ {A = ℕ} 0 1 = cc in absurd (omega arith)
formed_own (direct cs) h = refl
formed_own (loop v l m k n) h = refl
formed_own (inside (assign r e)) h = refl
formed_own (inside (when a r b)) h = refl
formed_own (inside otherwise) h = refl
formed_own (inside (end_if true)) h = let z : ◌≡◌ {A = ℕ} 0 1 = cc in absurd (omega arith)
formed_own (inside (end_if false)) h = refl
formed_own (end_do true) h = let z : ◌≡◌ {A = ℕ} 0 1 = cc in absurd (omega arith)
formed_own (end_do false) h = refl
formed_own close h = refl

pub formed_end_if : (joined? : Bool) → formed_line (inside (end_if joined?)) ≡ wd "end" ++ wd "if"
unfolding plain show_line
formed_end_if joined? = refl

pub formed_end_do : (joined? : Bool) → formed_line (end_do joined?) ≡ wd "end" ++ wd "do"
unfolding plain show_line
formed_end_do joined? = refl

-- data: the items written out, where the first has a copy
pub formed_data : (x : List ℕ) (i : Item) (is : List Item) → 0 < copies i
    → formed_line (give x i is) ≡ map zeros_gone (show_data x (written_out (i ∷ is)))
unfolding plain show_line
formed_data x i is h = go (filled_out i is h)
  where
    go : {js : List Item} → Filled js → map zeros_gone (show_line (data_line x (once i) js)) ≡ map zeros_gone (show_data x js)
    go (filled j js) = refl

-- ---- "a data repeat of 0 is 2"

abbrev pub Copied : Line → Type 0
Copied (declare d ds) = Unit {0}
Copied (give x i is) = Each (λ j. 0 < copies j) (i ∷ is)
Copied (direct cs) = Unit {0}
Copied (loop v l m k n) = Unit {0}
Copied (inside t) = Unit {0}
Copied (end_do joined?) = Unit {0}
Copied close = Unit {0}

fits_copied : (os : List Open) (l : Line) → fits os l ≡ true → Copied l
fits_copied os (declare d ds) h = tt
fits_copied os (give x i is) h = go (i ∷ is) h
  where
    go : (is : List Item) → all (λ j. ltb 0 (copies j)) is ≡ true → Each (λ j. 0 < copies j) is
    go [] h = tt
    go (i ∷ is) h = let (a, b) = both_true (ltb 0 (copies i)) (all (λ j. ltb 0 (copies j)) is) h in (ltb-true 0 (copies i) a, go is b)
fits_copied os (direct cs) h = tt
fits_copied os (loop v l m k n) h = tt
fits_copied os (inside t) h = tt
fits_copied os (end_do joined?) h = tt
fits_copied os close h = tt

pub ordered_copied : (s : State) (p : Program) → InOrder s p → Each (λ q. Copied q.1) p
unfolding stands
ordered_copied s [] h = tt
ordered_copied s ((k, l) ∷ p) h =
    (fits_copied s.opens l (both_true (may_follow s.stage (stage_of l)) (fits s.opens l) h.0).1, ordered_copied (after k l s) p h.3)
