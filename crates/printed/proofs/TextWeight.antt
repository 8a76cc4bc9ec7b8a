-- The tokens of a text have no more bytes than the text.
use mathlib.Core.Path.{◌≡◌, ap}
use mathlib.Core.List.{List, [], ◌∷◌}
use Prim.Native.Nat.{ℕ, zero, suc, ◌+◌, ◌-◌, ◌≤◌, min}
use native.Mathlib.Omega.{arith}
use lib.Dec.{eqb}
use lib.ListN.{length, take, length-take}
use Rattle.syntax.specs.Bytes.{Token, bytes_of, token_size, token_of, tokens_after}
use Rattle.syntax.specs.Grammar.{show_line}
use Rattle.syntax.specs.Known.{total}
use Rattle.syntax.specs.Follows.{Program, Follows}
use Rattle.syntax.proofs.TestLaws.{choose_each}
use Rattle.syntax.proofs.Places.{size_one, token_bytes}
use Rattle.syntax.proofs.TokenCount.{follows_size}

-- the bytes of tokens
unfoldable pub weight : List Token → ℕ
weight ts = total (λ t. length (bytes_of t)) ts

made_length : (b : ℕ) (w : List ℕ) → length (bytes_of (token_of b w)) ≡ length w
made_length b w = ap length (token_bytes b w)

tokens_weight : (k : ℕ) (s : List ℕ) → weight (tokens_after k s) + min k (length s) ≤ length s
unfolding tokens_after weight
tokens_weight k [] = omega arith
tokens_weight zero (b ∷ s) =
    let n = token_size b s in
    let w = take n (b ∷ s) in
    choose_each (λ (ts : List Token). weight ts + min zero (length (b ∷ s)) ≤ length (b ∷ s)) (eqb b 32) _ _
    (λ h. omega (arith, tokens_weight zero s))
    (λ h. omega (arith, tokens_weight (n - 1) s, made_length b w, length-take n (b ∷ s), size_one b s))
tokens_weight (suc k) (b ∷ s) = omega (arith, tokens_weight k s)

pub follows_weight : (text : List ℕ) (p : Program) → Follows text p → total (λ q. weight (show_line q.1)) p ≤ length text
follows_weight = follows_size weight (λ s. omega (arith, tokens_weight 0 s))
