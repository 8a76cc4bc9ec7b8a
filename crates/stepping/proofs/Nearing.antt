-- Each step brings a processor nearer to its end.
use mathlib.Core.Path.{◌≡◌, refl, ◌∙◌, ap}
use mathlib.Core.List.{List}
use Prim.Native.Nat.{ℕ, suc, ◌+◌, ◌-◌, ◌*◌, ◌/◌, ◌≤◌, ◌<◌}
use native.Mathlib.Omega.{arith}
use lib.ListN.{length}
use mathlib.Core.Bool.{cond}
use Rattle.std.specs.declared.option.Option.TheVariants.{None, Some}
use Rattle.std.specs.Prelude.{is_none}
use Rattle.stepping.specs.declared.Fault.{Fault as Stop}
use Rattle.code.specs.Instr.{instructions}
use Rattle.operands.specs.Pending.{pendings}
use Rattle.operands.specs.Performing.{left}
use Rattle.operands.specs.declared.Move.{Move}
use Rattle.operands.specs.declared.Move.TheVariants.{Read, Write, Update, Fault, End}
use Rattle.machine.specs.Machine.{accesses}
use Rattle.stepping.specs.declared.Point.{Point}
use Rattle.stepping.specs.declared.Role.{Role}
use Rattle.stepping.specs.Step.{Scene, at, variable, moved, Goes}
use Rattle.stepping.proofs.Faults.{resume_fault}

-- a number that falls with each step of a processor whose block ends before e, with n instructions
unfoldable pub togo : ℕ → ℕ → Point → ℕ
togo n e t = cond (is_none t.fault) (1 + ((e - t.iteration.0) * (n + 2) + (n - t.place))) 0

suc_times : (m k : ℕ) → suc m * k ≡ k + m * k
suc_times m k = omega arith

module _ (n e : ℕ) (t : Point) where
  open_togo : t.fault ≡ None → togo n e t ≡ 1 + ((e - t.iteration.0) * (n + 2) + (n - t.place))
  unfolding togo
  open_togo f = rw f

  stopped_togo : (f : Stop) → t.fault ≡ Some f → togo n e t ≡ 0
  unfolding togo
  stopped_togo f q = rw q

module _ (n e : ℕ) (t t' : Point) (f : t.fault ≡ None) where
  nearer_on : t'.fault ≡ None → t'.iteration.0 ≡ t.iteration.0 → t.place + 1 ≤ t'.place → 1 ≤ n - t.place → togo n e t' < togo n e t
  nearer_on g i a b = omega (arith, open_togo n e t f, open_togo n e t' g, ap (λ (j : ℕ). (e - j) * (n + 2)) i)

  nearer_end : t'.fault ≡ None → t'.iteration.0 ≡ t.iteration.0 + 1 → t.iteration.0 < e → togo n e t' < togo n e t
  nearer_end g i b =
      let m = e - t'.iteration.0 in
      let x : e - t.iteration.0 ≡ suc m = omega arith in
      let y : (e - t.iteration.0) * (n + 2) ≡ n + 2 + m * (n + 2) = ap (λ (j : ℕ). j * (n + 2)) x ∙ suc_times m (n + 2) in
      omega (arith, open_togo n e t f, open_togo n e t' g)

  nearer_fault : (h : Stop) → t'.fault ≡ Some h → togo n e t' < togo n e t
  nearer_fault h g = omega (arith, open_togo n e t f, stopped_togo n e t' h g)

module _ (x : Role) (code : List ℕ) (z z' : Scene) (g : Goes x code z z') where
  abbrev n : ℕ
  n = length code / 2

  -- a fault has a number other than 0
  pub fault_some : (k t : ℕ) → g.reached.done ≡ Fault k t → 0 < k
  unfolding left
  fault_some k t e = resume_fault (instructions code) z.point.place (pendings z.pending z.point.depth) (variable x z) k t
      (rw e at g.comes.meaning)

  pub goes_nearer : (e : ℕ) → z.point.fault ≡ None → at z < e → togo n e z'.point < togo n e z.point
  unfolding moved
  goes_nearer e f b = by g.reached.done refl g.makes.after
    where
      -- past an access the machine stands further on
      access : (m : Move) → g.reached.done ≡ m → 1 ≤ accesses m → z'.point.fault ≡ None → at z' ≡ at z → z'.point.place ≡ g.reached.place
          → togo n e z'.point < togo n e z.point
      access m q y h i p =
          let u : z.point.place + accesses m ≤ g.reached.place = rw q at g.comes.forward in
          let v : accesses m ≤ n - z.point.place = rw q at g.comes.inside in
          nearer_on n e z.point z'.point f h i (omega arith) (omega arith)

      by : (m : Move) → g.reached.done ≡ m → z' ≡ moved x (at z) z.cells z.words g.pending g.reached.place g.reached.depth m
          → togo n e z'.point < togo n e z.point
      by (Read c) q h = access (Read c) q (omega arith) (ap (λ (u : Scene). u.point.fault) h) (ap at h) (ap (λ (u : Scene). u.point.place) h)
      by (Write c v) q h = access (Write c v) q (omega arith) (ap (λ (u : Scene). u.point.fault) h) (ap at h) (ap (λ (u : Scene). u.point.place) h)
      by (Update c v) q h = access (Update c v) q (omega arith) (ap (λ (u : Scene). u.point.fault) h) (ap at h) (ap (λ (u : Scene). u.point.place) h)
      by (Fault k t) q h = nearer_fault n e z.point z'.point f _ (ap (λ (u : Scene). u.point.fault) h)
      by End q h = nearer_end n e z.point z'.point f (ap (λ (u : Scene). u.point.fault) h) (ap at h) b
