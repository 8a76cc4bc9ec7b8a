-- The code from place to place: the instruction at a place, and what is done from there.
use mathlib.Core.Path.{◌≡◌, refl, ◌∙◌, ap, fun_ext}
use mathlib.Core.List.{List, [], ◌∷◌}
use Prim.Native.Nat.{ℕ, zero, suc, ◌+◌, ◌*◌, ◌/◌, ◌≤◌, ◌<◌}
use native.Mathlib.Omega.{arith}
use lib.ListN.{length, get_or}
use lib.IntN.{ℤ}
use Rattle.rules.specs.Loop.{Act, done}
use Rattle.code.specs.Instr.{Instr, end, decode, instructions, perform, resume}
use Rattle.operands.specs.declared.Move.{Move}
use Rattle.operands.specs.declared.Move.TheVariants.{Read, Write, Update, Fault, End}
use Rattle.operands.specs.declared.Performed.{Performed}
use Rattle.operands.specs.Pending.{pendings}
use Rattle.machine.specs.Machine.{accesses}
use Rattle.operands.specs.Performing.{then, does, Performs}

-- ---- the instruction at a place

pub instruction_in : (code : List ℕ) (p : ℕ) → p < length code / 2 → get_or (instructions code) p end ≡ decode (get_or code (2 * p) 0) (get_or code (2 * p + 1) 0)
unfolding instructions
instruction_in [] p h = absurd (omega arith)
instruction_in (w ∷ []) p h = absurd (omega arith)
instruction_in (w ∷ a ∷ code) zero h = refl
instruction_in (w ∷ a ∷ code) (suc p) h =
    let e : 2 * suc p ≡ suc (suc (2 * p)) = omega arith in
    let f : suc (suc (2 * p)) + 1 ≡ suc (suc (2 * p + 1)) = omega arith in
    rw (e, f) (instruction_in code p (omega arith))

instruction_past : (code : List ℕ) (p : ℕ) → length code / 2 ≤ p → get_or (instructions code) p end ≡ end
unfolding instructions
instruction_past [] p h = refl
instruction_past (w ∷ []) p h = refl
instruction_past (w ∷ a ∷ code) zero h = absurd (omega arith)
instruction_past (w ∷ a ∷ code) (suc p) h = instruction_past code p (omega arith)

-- ---- what is done from there

perform_ext : (i : Instr) (on on' : List ℤ → Act) (past past' : ℕ → List ℤ → Act) (s : List ℤ) (v : ℤ)
    → ((t : List ℤ) → on t ≡ on' t) → ((n : ℕ) (t : List ℤ) → past n t ≡ past' n t) → perform i on past s v ≡ perform i on' past' s v
perform_ext i on on' past past' s v p q =
    let e : on ≡ on' = fun_ext p in
    let f : past ≡ past' = fun_ext (λ n. fun_ext (q n)) in
    cc

resume_suc : (i : Instr) (rest : List Instr) (p q : ℕ) (t : List ℤ) (v : ℤ) → q ≡ suc p → resume rest p t v ≡ resume (i ∷ rest) q t v
unfolding resume
resume_suc i rest p q t v e = rw e

-- one instruction, at any place
resume_at : (code : List Instr) (p : ℕ) (s : List ℤ) (v : ℤ)
    → resume code p s v ≡ perform (get_or code p end) (λ t. resume code (p + 1) t v) (λ n t. resume code (p + 1 + n) t v) s v
unfolding resume perform
resume_at [] p s v = refl
resume_at (i ∷ rest) zero s v = perform_ext i _ _ _ _ s v (λ t. refl) (λ n t. resume_suc i rest n (0 + 1 + n) t v (omega arith))
resume_at (i ∷ rest) (suc p) s v =
    resume_at rest p s v
    ∙ perform_ext (get_or rest p end) _ _ _ _ s v (λ t. resume_suc i rest (p + 1) (suc p + 1) t v (omega arith))
    (λ n t. resume_suc i rest (p + 1 + n) (suc p + 1 + n) t v (omega arith))

module _ (code : List ℕ) (v : ℤ) where
  abbrev pub from : ℕ → List ℤ → Act
  from p s = resume (instructions code) p s v

  -- past the code nothing is done
  pub from_past : (p : ℕ) (s : List ℤ) → length code / 2 ≤ p → from p s ≡ done
  unfolding perform
  from_past p s h = resume_at (instructions code) p s v ∙ ap (λ (i : Instr). perform i (from (p + 1)) (λ n. from (p + 1 + n)) s v) (instruction_past code p h)

  -- the instruction at p, performed
  pub from_performed : (p d : ℕ) (a b : List ℤ) (r : Performed) → p < length code / 2
      → Performs (does (decode (get_or code (2 * p) 0) (get_or code (2 * p + 1) 0)) (p + 1) d a v) (p + 1) b r
      → from p (pendings a d) ≡ then r.next (from r.place) (pendings b r.depth)
  from_performed p d a b r h m =
      resume_at (instructions code) p (pendings a d) v
      ∙ ap (λ (i : Instr). perform i (from (p + 1)) (λ n. from (p + 1 + n)) (pendings a d) v) (instruction_in code p h)
      ∙ m.meaning from

-- an access is one move on
pub accesses_most : (m : Move) → accesses m ≤ 1
accesses_most (Read c) = omega arith
accesses_most (Write c x) = omega arith
accesses_most (Update c x) = omega arith
accesses_most (Fault n l) = omega arith
accesses_most End = omega arith
