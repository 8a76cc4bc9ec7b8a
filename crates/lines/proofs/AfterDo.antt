-- The lines after `do`: what such a line leaves, and what it comes to where it is known by its first words.
use mathlib.Core.Path.{◌≡◌, refl, sym, ◌∙◌, subst}
use mathlib.Core.Bool.{Bool, true, false, cond, not}
use mathlib.Core.List.{List}
use Prim.Native.Nat.{ℕ, ◌*◌, ◌≤◌}
use native.Mathlib.Omega.{arith}
use lib.ListN.{length, take, drop}
use Rattle.std.specs.Prelude.{Option, Some, None, Ok, Err}
use Rattle.syntax.specs.declared.Flaw.{Flaw}
use Rattle.syntax.specs.declared.Flaw.TheVariants.{BrokenForm, WrongName, OverLimit}
use Rattle.syntax.specs.Bytes.{choose}
use Rattle.syntax.specs.Grammar.{Line}
use Rattle.syntax.specs.Known.{Stmts, Open, State, stating, after}
use Rattle.syntax.specs.Conditions.{names, limits, fits}
use Rattle.code.specs.Instr.{words}
use Rattle.code.specs.Compile.{code_of, places_of}
use Rattle.lexer.specs.Places.{ReadTo}
use Rattle.lines.specs.declared.Progress.{Progress}
use Rattle.lines.specs.Progress.{Held, held, moved, Opened, Represents, flaw_of, flawed, Comes}
use Rattle.lines.specs.Lines.{Takes, reads}
use Rattle.lines.proofs.Verdicts.{Settles, concludes_broken, concludes_told, concludes_good}

-- ---- what it leaves

-- the names and the data stay as they are
abbrev pub further : Held → Progress → List ℕ → List ℕ → Held
further H q C' O' = held q H.table H.initial C' O'

pub carried : (H : Held) (C' O' : List ℕ) (st : State) → Represents H st → (j place depth : ℕ) (os : List Open) (b : Stmts) → 4 ≤ j
    → place ≡ length (code_of (stating j st os b)) → take (2 * place) C' ≡ words (code_of (stating j st os b))
    → Opened O' depth os (places_of (stating j st os b)) → depth ≤ 8 → 8 ≤ length O'
    → Represents (further H (moved H.progress j place depth) C' O') (stating j st os b)
carried H C' O' st rp j place depth os b late len code opened shallow stack = record {
  stage = refl;
  table = rp.table;
  variable = rp.variable;
  short = rp.short;
  unclaimed = λ h. absurd (omega arith);
  nameless = λ h. absurd (omega arith);
  cells_so_far = rp.cells_so_far;
  filled = rp.filled;
  processors = rp.processors;
  grouping = rp.grouping;
  from = rp.from;
  count = rp.count;
  few = rp.few;
  place = len;
  code = code;
  opened = opened;
  shallow = shallow;
  stack = stack;
}

-- ---- what it comes to

-- a line in order but for where it stands
pub flaw_fits : (st : State) (l : Line) (b : Bool) → fits st.opens l ≡ b → names st l ≡ true → limits st l ≡ true
    → flaw_of st l ≡ cond b None (Some BrokenForm)
unfolding flaw_of
flaw_fits st l b ef en el = (λ i. choose (not (ef i)) (λ _. Some BrokenForm) (λ _. choose (not (en i)) (λ _. Some WrongName)
    (λ _. choose (not (el i)) (λ _. Some OverLimit) (λ _. None)))) ∙ go b
  where
    go : (b : Bool) → ◌≡◌ {A = Option Flaw} (choose (not b) (λ _. Some BrokenForm) (λ _. choose (not true) (λ _. Some WrongName)
        (λ _. choose (not true) (λ _. Some OverLimit) (λ _. None)))) (cond b None (Some BrokenForm))
    go true = refl
    go false = refl

-- the line l after its first words, which end at a place
pub known_at : (s : List ℕ) (at : ℕ) → at ≤ length s → (l : Line) (f : ℕ) (P : Line → Type 0) → P l → ReadTo P s 0 (reads l at f) at
known_at s at b l f P h = record { what = l; reads = refl; holds = h; from = omega arith; within = b }

module _ (k : ℕ) (s : List ℕ) (at : ℕ) (b : at ≤ length s) (H : Held) (l : Line) (j : ℕ) where
  module _ (H' : Progress → Held) where
    -- it may not stand here
    pub unfit : ((st : State) → Represents H st → flaw_of st l ≡ Some BrokenForm) → Takes (reads l at) j s k H H' (Err BrokenForm)
    unfit h st rp sane fo f f_large =
        concludes_broken (flaw_of st) (λ l p. Represents (H' p) (after k l st)) (reads l at f) s at
        (known_at s at b l f (λ l. flaw_of st l ≡ Some BrokenForm) (h st rp))

    -- it may, but more comes after it
    pub more : (e : Flaw) → Comes s at 0 (Err e) → ((st : State) → Represents H st → flaw_of st l ≡ None) → Takes (reads l at) j s k H H' (Err e)
    more e he h st rp sane fo f f_large =
        concludes_told (flaw_of st) (λ l p. Represents (H' p) (after k l st)) (reads l at f) s at 0 e he
        (known_at s at b l f (λ l. flawed 0 ≡ flaw_of st l) (sym (h st rp)))

  -- it may
  pub fit : (p q : Progress) (C' O' : List ℕ) (u : Unit {0}) → Comes s at 0 (Ok u) → q ≡ p → ((st : State) → Represents H st → flaw_of st l ≡ None)
      → ((st : State) → Represents H st → Represents (further H p C' O') (after k l st))
      → Takes (reads l at) j s k H (λ x. further H x C' O') (Ok q)
  fit p q C' O' u e eq h g =
      subst (λ (x : Progress). Takes (reads l at) j s k H (λ x. further H x C' O') (Ok x)) (sym eq)
      (λ st rp sane fo f f_large.
      concludes_good (flaw_of st) (λ l p. Represents (further H p C' O') (after k l st)) (reads l at f) s at 0 p u e
      (known_at s at b l f (Settles (flaw_of st) (λ l p. Represents (further H p C' O') (after k l st)) 0 p) (sym (h st rp), λ _. g st rp)))
