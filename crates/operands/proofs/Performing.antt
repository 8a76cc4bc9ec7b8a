-- What an instruction comes to, by what it does to the pending values. The code's functions each cite one of these.
use mathlib.Core.Path.{◌≡◌, refl, sym, ◌∙◌, ap, subst}
use mathlib.Core.Bool.{Bool, true, false, cond}
use mathlib.Core.List.{List, ◌∷◌}
use Prim.Native.Nat.{ℕ, ◌+◌, ◌≤◌, ◌<◌}
use native.Mathlib.Omega.{arith}
use mir.Syntax.{w32}
use mir.Val.{SFits, to_z, of_z}
use mir.ValLaws.{to_z-of_z}
use lib.ListN.{length}
use lib.IntN.{ℤ, pos}
use Rattle.int32.specs.declared.Relation.{Relation}
use Rattle.std.specs.Prelude.{Option, Some, None}
use Rattle.int32.specs.Integers.{same, divided, related}
use Rattle.rules.specs.Loop.{Act, fault, done}
use Rattle.syntax.specs.Bytes.{choose}
use Rattle.syntax.specs.Meaning.{divides}
use Rattle.code.specs.Instr.{relation_of}
use Rattle.operands.specs.declared.Move.{Move}
use Rattle.operands.specs.declared.Move.TheVariants.{Read, Write, Update, Fault, End}
use Rattle.operands.specs.declared.Performed.{Performed}
use Rattle.operands.specs.Pending.{pendings, Pushed}
use Rattle.operands.specs.Performing.{onward, stopped, left, coming, then, Performs, with_quotient}

module _ (tree : (ℕ → List ℤ → Act) → Act) (place : ℕ) (a : List ℤ) (d : ℕ) (h : length a ≡ 32) where
  -- it makes a move
  pub moves : (m : Move) → d + coming m ≤ 32 → {r : Performed} → r ≡ stopped place d m
      → ((go : ℕ → List ℤ → Act) → tree go ≡ left m (go place) (pendings a d)) → Performs tree place a r
  unfolding then
  moves m k e f = subst (Performs tree place a) (sym e) (record { meaning = f; size = h; room = k; forward = omega arith })

  -- it can't be performed
  pub ends : d ≤ 32 → {r : Performed} → r ≡ stopped place d End → ((go : ℕ → List ℤ → Act) → tree go ≡ done) → Performs tree place a r
  unfolding left
  ends k e f = moves End (omega arith) e f

  -- it goes on at a place
  pub goes : (p : ℕ) → d ≤ 32 → place ≤ p → {r : Performed} → r ≡ onward p d → ((go : ℕ → List ℤ → Act) → tree go ≡ go p (pendings a d))
      → Performs tree place a r
  unfolding then
  goes p k f e g = subst (Performs tree place a) (sym e) (record { meaning = g; size = h; room = omega arith; forward = f })

  -- it leaves x on d values
  pub pushes : (x : ℤ) (b : List ℤ) (n : ℕ) → d < 32 → Pushed a d x b n → {r : Performed} → r ≡ onward place n
      → ((go : ℕ → List ℤ → Act) → tree go ≡ go place (x ∷ pendings a d)) → Performs tree place b r
  unfolding then
  pushes x b n k p e f = subst (Performs tree place b) (sym e) (record {
    meaning = λ go. f go ∙ ap (go place) (sym p.values);
    size = p.size;
    room = omega (arith, p.deeper);
    forward = omega arith;
  })

-- a move brings one value at most
pub coming_most : (m : Move) → coming m ≤ 1
coming_most (Read c) = omega arith
coming_most (Write c x) = omega arith
coming_most (Update c x) = omega arith
coming_most (Fault n l) = omega arith
coming_most End = omega arith

-- it does what another does
pub like : {tree other : (ℕ → List ℤ → Act) → Act} (place : ℕ) (b : List ℤ) {r : Performed} → ((go : ℕ → List ℤ → Act) → tree go ≡ other go)
    → Performs other place b r → Performs tree place b r
like place b e p = record { meaning = λ go. e go ∙ p.meaning go; size = p.size; room = p.room; forward = p.forward }

-- ---- arithmetic

-- a division, by what the code's division answers
pub divides_by : (line : ℕ) (f : ℤ → ℤ → ℤ) (x y : ℤ) (k : ℤ → Act) → divides line f x y k ≡ with_quotient (divided f x y) line k
unfolding divides divided with_quotient
divides_by line f x y k = go (same y (pos 0))
  where
    go : (b : Bool) → choose b (λ _. fault 10 line) (λ _. k (f x y)) ≡ with_quotient (cond b None (Some (f x y))) line k
    go true = refl
    go false = refl

-- the quotient of the two values from d on
pub settles : (tree : (ℕ → List ℤ → Act) → Act) (place d line : ℕ) (a b : List ℤ) {r : Performed} {q : Option ℤ} (f : ℤ → ℤ → ℤ) (x y : ℤ)
    → q ≡ divided f x y → Performs (λ go. with_quotient q line (λ z. go place (z ∷ pendings a d))) place b r
    → ((go : ℕ → List ℤ → Act) → tree go ≡ divides line f x y (λ z. go place (z ∷ pendings a d))) → Performs tree place b r
settles tree place d line a b f x y e m t =
    like place b (λ go. t go ∙ divides_by line f x y _ ∙ ap (λ (u : Option ℤ). with_quotient u line (λ z. go place (z ∷ pendings a d))) (sym e)) m

-- a branch, by the relation of its number
pub branches : (n : ℕ) (t u : Act) {o : Relation} {x y : ℤ} {b : Bool} → SFits w32 x → SFits w32 y → o ≡ relation_of n
    → related o (to_z w32 (of_z w32 x)) (to_z w32 (of_z w32 y)) ≡ b
    → cond (related (relation_of n) x y) t u ≡ cond b t u
branches n t u {x = x} {y = y} p q e h = ap (λ (c : Bool). cond c t u) ((λ i. related (sym e i) (sym (to_z-of_z w32 x p) i) (sym (to_z-of_z w32 y q) i)) ∙ h)
