-- A step by what is left of the iteration, as a tree: what the trial and the serial run cite of it.
use mathlib.Core.Path.{◌≡◌, refl, ap, subst}
use mathlib.Core.List.{List, ◌∷◌}
use Prim.Native.Nat.{ℕ, suc, ◌<◌}
use native.Mathlib.Numerals.{add-one}
use native.Mathlib.Omega.{arith}
use lib.ListN.{length, length-set}
use lib.IntN.{ℤ}
use mir.Syntax.{w32}
use mir.Val.{SFits}
use Rattle.std.specs.declared.option.Option.TheVariants.{None, Some}
use Rattle.std.specs.Prelude.{IsSome}
use Rattle.rules.specs.Loop.{Act, read, write, update, fault, done}
use Rattle.rules.specs.Proper.{Sized}
use Rattle.machine.specs.declared.Advanced.{Advanced}
use Rattle.code.specs.Instr.{instructions, resume}
use Rattle.operands.specs.declared.Move.{Move}
use Rattle.operands.specs.declared.Move.TheVariants.{Read, Write, Update, Fault, End}
use Rattle.operands.specs.Pending.{pendings, Holding}
use Rattle.operands.specs.Performing.{left}
use Rattle.operands.proofs.Pending.{pendings_push}
use Rattle.stepping.specs.declared.Role.{Role}
use Rattle.stepping.proofs.Opened.{none_stops}
use Rattle.stepping.specs.Access.{Accessible, seen, read_words, stored, written_words, joined, updated_words}
use Rattle.stepping.specs.Step.{Scene, at, variable, moved, Comes, CanMove, Fitting, Goes}

-- what is left of the iteration
abbrev pub rest : Role → List ℕ → Scene → Act
rest x code z = resume (instructions code) z.point.place (pendings z.pending z.point.depth) (variable x z)

-- the next move can be made, where what is left accesses n cells that can be accessed
pub can_reach : (x : Role) (code : List ℕ) (z : Scene) (n : ℕ) → Sized n (rest x code z)
    → ((c : ℕ) → c < n → Accessible x z.cells z.words c)
    → (b : List ℤ) (r : Advanced) → Comes x code z b r → CanMove x z.cells z.words r.done
unfolding CanMove left
can_reach x code z n s f b r h = go r.done refl
  where
    sized : (a : Act) → rest x code z ≡ a → Sized n a
    sized a e = subst (Sized n) e s

    go : (w : Move) → r.done ≡ w → CanMove x z.cells z.words r.done
    go (Read c) q = let y = sized _ (rw q at h.meaning) in rw q (f c y.0)
    go (Write c v) q = let y = sized _ (rw q at h.meaning) in rw q (f c y.0)
    go (Update c v) q = let y = sized _ (rw q at h.meaning) in rw q (f c y.0)
    go (Fault k t) q = rw q tt
    go End q = rw q tt

-- the iteration goes on
pub record Continues (z z' : Scene) : Type 0 where
  pub same : at z' ≡ at z
  pub unstopped : z'.point.fault ≡ None
  pub holding : Holding z'.pending z'.point.depth

-- what a step by a move comes to
pub data Happens (x : Role) (code : List ℕ) (z z' : Scene) : Move → Type 0 where
  reads : (c : ℕ) (k : ℤ → Act) → rest x code z ≡ read c k → rest x code z' ≡ k (seen x (at z) z.cells z.words c) → z'.cells ≡ z.cells
      → z'.words ≡ read_words x (at z) z.words c → Continues z z' → Happens x code z z' (Read c)
  writes : (c : ℕ) (v : ℤ) → SFits w32 v → rest x code z ≡ write c v (rest x code z') → z'.cells ≡ stored x z.cells z.words c v
      → z'.words ≡ written_words x (at z) z.words c v → Continues z z' → Happens x code z z' (Write c v)
  updates : (c : ℕ) (v : ℤ) → SFits w32 v → rest x code z ≡ update c v (rest x code z') → z'.cells ≡ joined x z.cells z.words c v
      → z'.words ≡ updated_words x (at z) z.words c v → Continues z z' → Happens x code z z' (Update c v)
  faults : (n t : ℕ) → rest x code z ≡ fault n t → z'.cells ≡ z.cells → z'.words ≡ z.words → at z' ≡ at z
      → z'.point.fault ≡ Some (record { number = n; line = t }) → Holding z'.pending z'.point.depth → Happens x code z z' (Fault n t)
  ends : rest x code z ≡ done → z'.cells ≡ z.cells → z'.words ≡ z.words → at z' ≡ suc (at z) → z'.point.fault ≡ None
      → z'.point.place ≡ 0 → z'.point.depth ≡ 0 → length z'.pending ≡ 32 → Happens x code z z' End

pub happens : (x : Role) (code : List ℕ) (z z' : Scene) (g : Goes x code z z') → Happens x code z z' g.reached.done
unfolding moved left Fitting
happens x code z z' g = by g.reached.done refl g.makes.after
  where
    on : List ℤ → Act
    on s = resume (instructions code) g.reached.place s (variable x z)

    came : (m : Move) → g.reached.done ≡ m → rest x code z ≡ left m on (pendings g.pending g.reached.depth)
    came m q = rw q at g.comes.meaning

    room : (m : Move) → g.reached.done ≡ m → Holding g.pending g.reached.depth
    room m q = record { size = g.comes.size; most = omega (arith, g.comes.room) }

    by : (m : Move) → g.reached.done ≡ m → z' ≡ moved x (at z) z.cells z.words g.pending g.reached.place g.reached.depth m
        → Happens x code z z' m
    by (Read c) q h =
        let low : g.reached.depth < 32 = omega (arith, rw q at g.comes.room) in
        let v = seen x (at z) z.cells z.words c in
        rw h (reads c (λ y. on (y ∷ pendings g.pending g.reached.depth)) (came (Read c) q)
        (ap on (pendings_push g.pending g.reached.depth v (omega (arith, g.comes.size)))) refl refl
        (record { same = refl; unstopped = refl; holding = record { size = simp length-set g.comes.size; most = omega arith } }))
    by (Write c v) q h = rw h
        (writes c v (rw q at g.makes.fits) (came (Write c v) q) refl refl
        (record { same = refl; unstopped = refl; holding = room (Write c v) q }))
    by (Update c v) q h = rw h
        (updates c v (rw q at g.makes.fits) (came (Update c v) q) refl refl
        (record { same = refl; unstopped = refl; holding = room (Update c v) q }))
    by (Fault n t) q h =
        rw h
        (faults n t (came (Fault n t) q) refl refl refl refl (room (Fault n t) q))
    by End q h = rw h (ends (came End q) refl refl (add-one (at z)) refl refl refl g.comes.size)

-- it stops in its iteration
pub goes_halts : (x : Role) (code : List ℕ) (z z' : Scene) → Goes x code z z' → IsSome z'.point.fault → at z' ≡ at z
goes_halts x code z z' g b = by (happens x code z z' g)
  where
    by : {a : Move} → Happens x code z z' a → at z' ≡ at z
    by (reads c k e f m w o) = o.same
    by (writes c v s e m w o) = o.same
    by (updates c v s e m w o) = o.same
    by (faults n t e m w i f o) = i
    by (ends e m w i f p d h) = absurd (none_stops _ f b)
