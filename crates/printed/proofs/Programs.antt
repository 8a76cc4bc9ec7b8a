-- The program of an accepted text: it is the one that the text follows, and its first line declares.
use mathlib.Core.Bool.{true}
use mathlib.Core.Path.{◌≡◌, refl, sym, ◌∙◌, ap, subst}
use mathlib.Core.List.{List, [], ◌∷◌, map}
use mathlib.Core.Option.{Option}
use Prim.Native.Nat.{ℕ}
use native.Mathlib.Omega.{arith}
use Rattle.syntax.specs.Grammar.{Declared, Line, declare, give, direct, loop, inside, end_do, close}
use Rattle.syntax.specs.Known.{State, nothing}
use Rattle.syntax.specs.Conditions.{stands}
use Rattle.syntax.specs.Text.{read, good}
use Rattle.syntax.specs.Follows.{Program, shown, Follows, learnt}
use Rattle.syntax.proofs.Complete.{parse_complete}
use Rattle.syntax.proofs.Theorem.{accepted_sound}
use Rattle.printed.specs.Form.{parsed, program_of, program}

program_written : (p : Program) → program_of (map shown p) ≡ p
unfolding program_of
program_written [] = refl
program_written ((k, l) ∷ p) =
    ap (λ (o : Option Line). parsed k o (program_of (map shown p))) (parse_complete l) ∙ ap (λ (q : Program). (k, l) ∷ q) (program_written p)

pub program_follows : (text : List ℕ) (p : Program) → Follows text p → program text ≡ p
program_follows text p f = ap program_of f.spelled ∙ program_written p

-- an accepted text follows its program, and is known by it
pub record Accepted (text : List ℕ) (s : State) : Type 0 where
  pub follows : Follows text (program text)
  pub known : learnt nothing (program text) ≡ s

pub accepted : (text : List ℕ) (s : State) → read text ≡ good s → Accepted text s
accepted text s h =
    let (p, f, e) = accepted_sound text s h in
    let i = sym (program_follows text p f) in
    record { follows = subst (Follows text) i f; known = ap (learnt nothing) (sym i) ∙ e }

pub first_declares : (l : Line) → stands nothing l ≡ true → (d : Declared) × (ds : List Declared) × (l ≡ declare d ds)
unfolding stands
first_declares (declare d ds) h = (d, ds, refl)
first_declares (give x i is) h = let z : ◌≡◌ {A = ℕ} 0 1 = cc in absurd (omega arith)
first_declares (direct cs) h = let z : ◌≡◌ {A = ℕ} 0 1 = cc in absurd (omega arith)
first_declares (loop v l m k n) h = let z : ◌≡◌ {A = ℕ} 0 1 = cc in absurd (omega arith)
first_declares (inside t) h = let z : ◌≡◌ {A = ℕ} 0 1 = cc in absurd (omega arith)
first_declares (end_do j) h = let z : ◌≡◌ {A = ℕ} 0 1 = cc in absurd (omega arith)
first_declares close h = let z : ◌≡◌ {A = ℕ} 0 1 = cc in absurd (omega arith)
