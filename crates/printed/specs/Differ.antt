-- RULES 1.15 d (document 02, Point 8): "Two accepted texts print alike exactly when they differ only in what this form removes": what it is to differ
-- only in that, without a printer. Lower case, free blanks, comments, empty lines and the last newline are aside in a text's tokens, by document 01's own
-- words (`spoken`); the rest is a rule for each thing that is removed, there and back, wherever it stands and as often as one likes.
use Rattle.std.specs.Prelude.{List, [], ◌∷◌, ◌++◌, map, ℕ, ◌<◌, replicate}
use Rattle.std.proofs.Math.Option.{none, some}
use Rattle.syntax.specs.Bytes.{lower, lines, Token, digits}
use Rattle.syntax.specs.Grammar.{number, Lead, Item, item, ◌⌢◌, wd, sg, show_name, show_item, show_list}
use Rattle.syntax.specs.Follows.{spoken}

-- the tokens of the lines of a text: in lower case, blanks between tokens aside, and skipped lines
abbrev pub speech : List ℕ → List (List Token)
speech text = map (λ q. q.1) (spoken 1 (lines (map lower text)))

abbrev pub show_items : List Item → List Token
show_items [] = []
show_items (i ∷ is) = show_list show_item i is

-- `data` with these items
abbrev pub show_data : List ℕ → List Item → List Token
show_data x is = wd "data" ⌢ show_name x ⌢ sg "/" ⌢ show_items is ⌢ sg "/"

-- u and v are the lines before and after, a and b the tokens before and after on the line
pub data Differ : List (List Token) → List (List Token) → Type 0 where
  nowhere : {x : List (List Token)} → Differ x x
  back : {x y : List (List Token)} → Differ x y → Differ y x
  also : {x y z : List (List Token)} → Differ x y → Differ y z → Differ x z
  -- a leading zero, and not the last digit
  zero : (u v : List (List Token)) (a b : List Token) (d : ℕ) (ds : List ℕ)
      → Differ (u ++ ((a ++ (digits (48 ∷ d ∷ ds) ∷ b)) ∷ v)) (u ++ ((a ++ (digits (d ∷ ds) ∷ b)) ∷ v))
  -- a two-word ending
  end_if : (u v : List (List Token)) → Differ (u ++ (wd "endif" ∷ v)) (u ++ ((wd "end" ⌢ wd "if") ∷ v))
  end_do : (u v : List (List Token)) → Differ (u ++ (wd "enddo" ∷ v)) (u ++ ((wd "end" ⌢ wd "do") ∷ v))
  -- a closing directive
  close : (u v : List (List Token)) → Differ (u ++ ((sg "!$omp" ⌢ wd "end" ⌢ wd "parallel" ⌢ wd "do") ∷ v)) (u ++ v)
  -- `r*` before an item for r copies of it
  copies : (u v : List (List Token)) (x : List ℕ) (is js : List Item) (r : List ℕ) (l : Lead) (d : List ℕ) → 0 < number r
      → Differ (u ++ (show_data x (is ++ (item (some r) l d ∷ js)) ∷ v)) (u ++ (show_data x (is ++ (replicate (number r) (item none l d) ++ js)) ∷ v))

-- two texts
abbrev pub DifferOnly : List ℕ → List ℕ → Type 0
DifferOnly s t = Differ (speech s) (speech t)
