-- A grid's cells gathered one by one, and put back.
use mathlib.Core.Path.{◌≡◌, ◌∙◌}
use mathlib.Core.List.{List}
use mathlib.Core.Logic.{inl, inr}
use Prim.Native.Nat.{ℕ, ◌+◌, ◌-◌, ◌*◌, ◌<◌}
use native.Mathlib.Omega.{arith}
use lib.ListN.{length, get_or, set}
use lib.Seq.{get_or-set_same, get_or-set_other}
use lib.IntN.{ℤ, pos}
use borrow.Rule.Slice.PartMut.{put_mid}
use borrow.Author.Rules.{rules}
use Rattle.std.proofs.Common.{below_more}
use Rattle.std.proofs.lemmas.List.{places}
use Rattle.rules.specs.Cells.{cell_of}
use Rattle.grids.specs.Arrange.{Grid, Other, Within, source, by_rows, rearranged}
use Rattle.grids.proofs.Moved.{is_rearranged}
use Rattle.moving.specs.Moving.{Gathered}

-- a cell more is gathered
pub gathered_more : (M : List ℤ) (first m n : ℕ) (S : List ℤ) (k : ℕ) (v : ℤ) → k < length S → v ≡ get_or M (first + source m n k) (pos 0) → Gathered M first m n S k
    → Gathered M first m n (set S k v) (k + 1)
unfolding cell_of
gathered_more M first m n S k v b e g = below_more _ _ (λ p h. get_or-set_other S k p v (pos 0) (omega arith) ∙ g p h) (get_or-set_same S k v (pos 0) b ∙ e)

-- all gathered ones are put back
pub put_in_order : (M : List ℤ) (g : Grid) (S : List ℤ) → Within (length M) g → length S ≡ g.rows * g.columns → Gathered M g.first g.rows g.columns S (g.rows * g.columns)
    → put_mid g.first (g.first + g.rows * g.columns - g.first) M S ≡ rearranged by_rows g M
unfolding cell_of
put_in_order M g S w s d = is_rearranged g M U (search (rules, places)) (λ p h. (search (rules, places) ∙ d p h)) other
  where
    U : List ℤ
    U = put_mid g.first (g.first + g.rows * g.columns - g.first) M S

    other : (c : ℕ) → c < length M → Other g c → cell_of U c ≡ cell_of M c
    other c b (inl h) = search (rules, places)
    other c b (inr h) = search (rules, places)
