-- A line as its kind is read.
use mathlib.Core.Path.{◌≡◌, refl, sym, subst}
use mathlib.Core.Bool.{Bool}
use mathlib.Core.List.{List}
use Prim.Native.Nat.{ℕ, ◌≤◌}
use lib.ListN.{length}
use Rattle.std.specs.Prelude.{Result, Err}
use Rattle.syntax.specs.declared.Flaw.{Flaw}
use Rattle.syntax.specs.declared.Flaw.TheVariants.{BrokenForm}
use Rattle.lines.specs.declared.Progress.{Progress}
use Rattle.lines.specs.Progress.{Held, Underway, Concludes}
use Rattle.lines.specs.Lines.{Takes}
use Rattle.kinds.specs.declared.Kind.{Kind}
use Rattle.kinds.specs.declared.Kind.TheVariants.{Broken, Else, EndIf, EndDo}
use Rattle.kinds.specs.Kinds.{read_by, stage_by, Inside}
use Rattle.reader.specs.Judged.{Lent}

-- ---- the place after its first words

pub inside_else : (s : List ℕ) (k : Kind) (n : ℕ) → Inside s k → k ≡ Else n → n ≤ length s
unfolding Inside
inside_else s k n h e = subst (Inside s) e h

pub inside_end_if : (s : List ℕ) (k : Kind) (n : ℕ) (j : Bool) → Inside s k → k ≡ EndIf n j → n ≤ length s
unfolding Inside
inside_end_if s k n j h e = subst (Inside s) e h

pub inside_end_do : (s : List ℕ) (k : Kind) (n : ℕ) (j : Bool) → Inside s k → k ≡ EndDo n j → n ≤ length s
unfolding Inside
inside_end_do s k n j h e = subst (Inside s) e h

pub underway : (s : List ℕ) (line : ℕ) (H : Held) → Lent s line H → Underway H.progress H.code H.opens
underway s line H h = (H.table, H.initial, h.known.0, h.known.1)

-- ---- its reader

module _ (k : Kind) (s : List ℕ) (line : ℕ) (H : Held) (H' : Progress → Held) where
  pub as_kind : (r : Result Progress Flaw) (x : Kind) → k ≡ x → Takes (read_by x) (stage_by x) s line H H' r → Takes (read_by k) (stage_by k) s line H H' r
  as_kind r x e h = subst (λ (y : Kind). Takes (read_by y) (stage_by y) s line H H' r) (sym e) h

  pub as_broken : k ≡ Broken → Takes (read_by k) (stage_by k) s line H H' (Err BrokenForm)
  unfolding read_by Concludes
  as_broken e = as_kind (Err BrokenForm) Broken e (λ st rp sane fo f b. refl)
