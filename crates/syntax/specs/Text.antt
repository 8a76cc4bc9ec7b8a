-- RULES 1.14 and 9.3 (document 01, Services and answers): the whole text, the first bad line with its number; the cells from the data.
use Rattle.std.specs.Prelude.{Bool, true, false, cond, ◌&&◌, ◌||◌, not, List, [], ◌∷◌, map, ℕ, suc, ltb, length, replicate, ℤ, pos}
use Rattle.std.proofs.Math.Option.{Option, none, some}
use Rattle.syntax.specs.declared.Flaw.{Flaw}
use Rattle.syntax.specs.declared.Flaw.TheVariants.{TooLong, BrokenForm, WrongName, OverLimit}
use Rattle.syntax.specs.Bytes.{choose, lower, lines, tokens, skipped_line, sound_line}
use Rattle.syntax.specs.Grammar.{Line}
use Rattle.syntax.specs.Reader.{parse}
use Rattle.syntax.specs.Known.{Entry, State, nothing, after}
use Rattle.syntax.specs.Conditions.{concat, names, limits, stage_of, stands, finished}

-- what the lines make known, or what is wrong with the first bad one, and which it is
pub data Verdict : Type 0 where
  refused : Flaw → ℕ → Verdict
  good : State → Verdict

-- line k, whether it is the last, and what stands on it: "in it 2 before 3 before 4"; 2 for "form broken; an unfinished text at its last line"
unfoldable pub judged : ℕ → Bool → State → Option Line → Verdict
judged k last s none = refused BrokenForm k
judged k last s (some l) =
    choose (not (stands s l) || (last && not (finished (stage_of l)))) (λ _. refused BrokenForm k) (λ _.
    choose (not (names s l)) (λ _. refused WrongName k) (λ _.
    choose (not (limits s l)) (λ _. refused OverLimit k) (λ _. good (after k l s))))

unfoldable pub judge_line : ℕ → Bool → State → List ℕ → Verdict
judge_line k last s b =
    choose (not (sound_line b)) (λ _. refused BrokenForm k) (λ _.
    choose (skipped_line b) (λ _. cond (last && not (finished s.stage)) (refused BrokenForm k) (good s)) (λ _.
    judged k last s (parse (tokens b))))

abbrev pub is_last : List (List ℕ) → Bool
is_last [] = true
is_last (l ∷ ls) = false

abbrev pub then_judge : Verdict → (State → Verdict) → Verdict
then_judge (refused n k) f = refused n k
then_judge (good s) f = f s

-- "the first bad line counts": the lines from line k on
unfoldable pub judge : ℕ → State → List (List ℕ) → Verdict
judge k s [] = good s
judge k s (l ∷ ls) = then_judge (judge_line k (is_last ls) s l) (λ t. judge (suc k) t ls)

-- "Number 1 is tested first": "text over 2,048 bytes"
unfoldable pub read : List ℕ → Verdict
read text = choose (ltb 2048 (length text)) (λ _. refused TooLong 0) (λ _. judge 1 nothing (lines (map lower text)))

-- ---- Load

-- "Cells without data start at 0"
abbrev pub initial : Entry → Option (List ℤ) → List ℤ
initial e none = replicate e.size (pos 0)
initial e (some vs) = vs

-- "Load fills the cells from the data": each name's, in declared order
unfoldable pub loaded : List Entry → List ℤ
loaded t = concat (λ e. initial e e.given) t
