-- RULES 1.14 d and 12 b, demand 2: "a text is accepted exactly when it follows the stated subset ..., names and limits included". What it is to follow
-- the subset, by the grammar alone, without a reader. That `Text.read` accepts exactly such a text is proved in proofs/Theorem.antt.
use Rattle.std.specs.Prelude.{◌≡◌, true, cond, List, [], ◌∷◌, map, ℕ, suc, ◌≤◌, length}
use Rattle.syntax.specs.Bytes.{all, lower, lines, Token, tokens, skipped_line, sound_line}
use Rattle.syntax.specs.Grammar.{Line, show_line}
use Rattle.syntax.specs.Known.{State, nothing, after}
use Rattle.syntax.specs.Conditions.{names, limits, stands, finished}

-- the syntax of a whole text: its lines with their numbers, skipped lines aside
abbrev pub Program : Type 0
Program = List (ℕ × Line)

-- the tokens of the lines that are not skipped, with the lines' numbers, from line k on
unfoldable pub spoken : ℕ → List (List ℕ) → List (ℕ × List Token)
spoken k [] = []
spoken k (l ∷ ls) = cond (skipped_line l) (spoken (suc k) ls) ((k, tokens l) ∷ spoken (suc k) ls)

-- the tokens that the grammar writes
abbrev pub shown : ℕ × Line → ℕ × List Token
shown (k, l) = (k, show_line l)

-- each line stands in its place, its names and limits are in order after the lines before it, and the text is finished
abbrev pub InOrder : State → Program → Type 0
InOrder s [] = finished s.stage ≡ true
InOrder s (q ∷ p) = (stands s q.1 ≡ true) × (names s q.1 ≡ true) × (limits s q.1 ≡ true) × InOrder (after q.0 q.1 s) p

pub record Follows (text : List ℕ) (p : Program) : Type 0 where
  pub short : length text ≤ 2048
  pub sound : all sound_line (lines (map lower text)) ≡ true
  pub spelled : spoken 1 (lines (map lower text)) ≡ map shown p
  pub ordered : InOrder nothing p

-- what a program makes known
unfoldable pub learnt : State → Program → State
learnt s [] = s
learnt s (q ∷ p) = learnt (after q.0 q.1 s) p
