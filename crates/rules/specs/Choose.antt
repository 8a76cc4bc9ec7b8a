-- One of two values by a test of two numbers, and a function changed at one number. Their laws are in ChooseLaws.antt.
use Rattle.std.specs.Prelude.{cond, ℕ, eqb, ltb}

-- x if i is j, else y
unfoldable pub pick : {A : Type 0} → ℕ → ℕ → A → A → A
pick i j x y = cond (eqb i j) x y

-- x if i is below j, else y
unfoldable pub below : {A : Type 0} → ℕ → ℕ → A → A → A
below i j x y = cond (ltb i j) x y

-- f, with a at i
unfoldable pub put : {A : Type 0} → (ℕ → A) → ℕ → A → ℕ → A
put f i a j = pick i j a (f j)
