-- The readers of expressions call each other. "Remaining bytes and bracket depth give the falling number": two for each byte that is left, one for each
-- bracket that may still open, and the level of the reader. Each answer hands what is known to one law of `Sums` or `Factors`.
use Prim.Native.Nat.{ℕ, ◌+◌, ◌-◌, ◌*◌}
use mathlib.Core.List.{List}
use lib.ListN.{length}
use Rattle.expressions.proofs.+expression_factor_more_factors_more_terms_pair_subscripts_term.Given as goal

-- a call at the same place has a lower level; one further on has a byte less, and where the level rises by two a bracket has opened
abbrev pub left : List ℕ → ℕ → ℕ → ℕ
left s at depth = 2 * (length s - at) + (length s - depth)

abbrev pub decreases-expression : goal.decreases-expression
decreases-expression l = left l.s.now l.from.at l.depth + 2

abbrev pub decreases-factor : goal.decreases-factor
decreases-factor l = left l.s.now l.from.at l.depth

abbrev pub decreases-more_factors : goal.decreases-more_factors
decreases-more_factors l = left l.s.now l.from.at l.depth

abbrev pub decreases-more_terms : goal.decreases-more_terms
decreases-more_terms l = left l.s.now l.from.at l.depth

abbrev pub decreases-pair : goal.decreases-pair
decreases-pair l = left l.s.now l.from.at l.depth + 3

abbrev pub decreases-subscripts : goal.decreases-subscripts
decreases-subscripts l = left l.s.now l.from.at l.depth + 3

abbrev pub decreases-term : goal.decreases-term
decreases-term l = left l.s.now l.from.at l.depth + 1
