-- A fault of the code has a number other than 0, so that a record's 0 says that none stopped its processor.
use mathlib.Core.Path.{◌≡◌, subst}
use mathlib.Core.Bool.{Bool, true, false, cond, ◌&&◌}
use mathlib.Core.List.{List, [], ◌∷◌}
use Prim.Native.Nat.{ℕ, zero, suc, ◌<◌}
use native.Mathlib.Omega.{arith}
use lib.Dec.{leb, ltb}
use lib.ListN.{length}
use lib.IntN.{ℤ, pos, negsuc}
use Rattle.int32.specs.Integers.{quotient, rdiv, related, same}
use Rattle.rules.specs.Loop.{Act, read, write, update, fault, done}
use Rattle.syntax.specs.Bytes.{choose}
use Rattle.syntax.specs.Meaning.{located, in_grid, divides}
use Rattle.code.specs.Instr.{Instr, room, with1, with2, perform, resume}
use Rattle.code.specs.Instr as instr

-- each fault has a number other than 0
abbrev pub Numbered : Act → Type 0
Numbered (read c k) = (x : ℤ) → Numbered (k x)
Numbered (write c v a) = Numbered a
Numbered (update c v a) = Numbered a
Numbered (fault n t) = 0 < n
Numbered done = Unit {0}

room_numbered : (s : List ℤ) (a : Act) → Numbered a → Numbered (room s a)
unfolding room
room_numbered s a h = by (ltb (length s) 32)
  where
    by : (b : Bool) → Numbered (cond b a done)
    by true = h
    by false = tt

with1_numbered : (s : List ℤ) (k : ℤ → List ℤ → Act) → ((x : ℤ) (t : List ℤ) → Numbered (k x t)) → Numbered (with1 s k)
unfolding with1
with1_numbered [] k h = tt
with1_numbered (x ∷ s) k h = h x s

with2_numbered : (s : List ℤ) (k : ℤ → ℤ → List ℤ → Act) → ((x y : ℤ) (t : List ℤ) → Numbered (k x y t)) → Numbered (with2 s k)
unfolding with2
with2_numbered [] k h = tt
with2_numbered (y ∷ []) k h = tt
with2_numbered (y ∷ x ∷ s) k h = h x y s

choose_numbered : (b : Bool) (f g : Unit {0} → Act) → Numbered (f tt) → Numbered (g tt) → Numbered (choose b f g)
choose_numbered true f g x y = x
choose_numbered false f g x y = y

located_numbered : (line first size : ℕ) (i : ℤ) (k : ℕ → Act) → ((c : ℕ) → Numbered (k c)) → Numbered (located line first size i k)
unfolding located
located_numbered line first size (pos n) k h = choose_numbered (leb 1 n && leb n size) _ _ (h _) (omega arith)
located_numbered line first size (negsuc n) k h = omega arith

in_grid_numbered : (line first m n : ℕ) (i j : ℤ) (k : ℕ → Act) → ((c : ℕ) → Numbered (k c)) → Numbered (in_grid line first m n i j k)
unfolding in_grid
in_grid_numbered line first m n i j k h = located_numbered line first m i _ (λ c. located_numbered line 0 n j _ (λ d. h _))

divides_numbered : (line : ℕ) (f : ℤ → ℤ → ℤ) (x y : ℤ) (k : ℤ → Act) → ((z : ℤ) → Numbered (k z)) → Numbered (divides line f x y k)
unfolding divides
divides_numbered line f x y k h = choose_numbered (same y (pos 0)) _ _ (omega arith) (h _)

cond_numbered : (b : Bool) (x y : Act) → Numbered x → Numbered y → Numbered (cond b x y)
cond_numbered true x y p q = p
cond_numbered false x y p q = q

perform_numbered : (i : Instr) (on : List ℤ → Act) (past : ℕ → List ℤ → Act) (s : List ℤ) (v : ℤ)
    → ((t : List ℤ) → Numbered (on t)) → ((n : ℕ) (t : List ℤ) → Numbered (past n t)) → Numbered (perform i on past s v)
unfolding perform
perform_numbered (instr.push n) on past s v h p = room_numbered s _ (h _)
perform_numbered instr.push_v on past s v h p = room_numbered s _ (h _)
perform_numbered (instr.load c) on past s v h p = room_numbered s (read c (λ x. on (x ∷ s))) (λ x. h (x ∷ s))
perform_numbered (instr.load_at b n l) on past s v h p = with1_numbered s _ (λ i t. located_numbered l b n i _ (λ c x. h (x ∷ t)))
perform_numbered instr.add on past s v h p = with2_numbered s _ (λ x y t. h _)
perform_numbered instr.subtract on past s v h p = with2_numbered s _ (λ x y t. h _)
perform_numbered instr.multiply on past s v h p = with2_numbered s _ (λ x y t. h _)
perform_numbered instr.maximum on past s v h p = with2_numbered s _ (λ x y t. h _)
perform_numbered instr.negate on past s v h p = with1_numbered s _ (λ x t. h _)
perform_numbered (instr.divide l) on past s v h p = with2_numbered s _ (λ x y t. divides_numbered l quotient x y _ (λ z. h _))
perform_numbered (instr.round l) on past s v h p = with2_numbered s _ (λ x y t. divides_numbered l rdiv x y _ (λ z. h _))
perform_numbered (instr.store c) on past s v h p = with1_numbered s _ (λ x t. h t)
perform_numbered (instr.store_at b n l) on past s v h p = with2_numbered s _ (λ x i t. located_numbered l b n i _ (λ c. h t))
perform_numbered (instr.check b n l) on past s v h p = with1_numbered s _ (λ i t. located_numbered l b n i _ (λ c. h _))
perform_numbered (instr.update c) on past s v h p = with1_numbered s _ (λ x t. h t)
perform_numbered (instr.update_at b n l) on past s v h p = with2_numbered s _ (λ i x t. located_numbered l b n i _ (λ c. h t))
perform_numbered (instr.jump_unless r n) on past s v h p = with2_numbered s _ (λ x y t. cond_numbered (related r x y) _ _ (h t) (p n t))
perform_numbered (instr.jump n) on past s v h p = p n s
perform_numbered (instr.flatten m n l) on past s v h p = with2_numbered s _ (λ i j t. in_grid_numbered l 0 m n i j _ (λ c. h _))
perform_numbered instr.end on past s v h p = tt

pub resume_numbered : (code : List Instr) (p : ℕ) (s : List ℤ) (v : ℤ) → Numbered (resume code p s v)
unfolding resume
resume_numbered [] p s v = tt
resume_numbered (i ∷ rest) (suc p) s v = resume_numbered rest p s v
resume_numbered (i ∷ rest) zero s v = perform_numbered i _ _ s v (λ t. resume_numbered rest 0 t v) (λ n t. resume_numbered rest n t v)

-- the fault of code that comes to it
pub resume_fault : (code : List Instr) (p : ℕ) (s : List ℤ) (v : ℤ) (n t : ℕ) → resume code p s v ≡ fault n t → 0 < n
resume_fault code p s v n t e = subst Numbered e (resume_numbered code p s v)
