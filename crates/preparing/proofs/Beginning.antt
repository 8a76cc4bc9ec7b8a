-- A run can begin: by the verdict on the text and by what is lent.
use mathlib.Core.Path.{◌≡◌, sym, ap, subst}
use mathlib.Core.List.{List}
use Prim.Native.Nat.{ℕ, ◌+◌, ◌*◌, ◌≤◌, ◌<◌}
use native.Mathlib.Nat.{mul-le-mul}
use native.Mathlib.Omega.{arith}
use lib.ListN.{length, get_or, take}
use lib.IntN.{ℤ}
use Rattle.rules.specs.declared.Class.{Class}
use Rattle.syntax.specs.Known.{State, cells}
use Rattle.syntax.specs.Text.{read}
use Rattle.syntax.specs.Meaning.{loop_of, partition_of}
use Rattle.syntax.proofs.Sane.{accepted_sane}
use Rattle.tables.specs.Layout.{row_at}
use Rattle.trial.specs.Running.{dealt}
use Rattle.trial.specs.Start.{Starts, CanTry}
use Rattle.setup.specs.Settings.{setting_of}
use Rattle.setup.proofs.Setting.{late, starts_by}
use Rattle.preparing.specs.declared.Ready.{Ready}
use Rattle.answers.specs.Answers.{needed}
use Rattle.preparing.specs.Prepared.{Prepares, Readies}
use Rattle.fitting.proofs.Fits.{Fits, fit_zero}

-- ---- the tables have room

row_room : (n p : ℕ) → 1 ≤ p → row_at p n ≤ needed n p
row_room n p h =
    let q : n * (6 + 5 * p) ≤ n * (4 + 8 * p) = (let a : n ≤ n = omega arith in let b : 6 + 5 * p ≤ 4 + 8 * p = omega arith in mul-le-mul a b) in
    omega (arith, q)

-- ---- a run can begin

module _ (text : List ℕ) (M : List ℤ) (w : ℕ) (ps : List ℕ) (r : Ready) (K : List ℕ) (C : List Class) (a : Readies (read text) (length M) w ps r K C) where
  abbrev s : State
  s = a.state

  abbrev pr : Prepares s r K C
  pr = a.prepares

  pub fits : Fits (cells s.table) s.processors (length M) w ps
  fits = fit_zero (cells s.table) s.processors (length M) w ps a.fits

  pub few_cells : length M ≤ 4096
  few_cells = omega (arith, fits.cells_are, (accepted_sane text s a.verdict).table.few_cells)

  enough : row_at s.processors (cells s.table) ≤ w
  enough = le_trans (row_room (cells s.table) s.processors some) fits.words_are
    where
      some : 1 ≤ s.processors
      some = (accepted_sane text s a.verdict).some_processors (omega (arith, late text s a.verdict))

      le_trans : {x y z : ℕ} → x ≤ y → y ≤ z → x ≤ z
      le_trans p q = omega arith

  pub setting_is : r.setting ≡ setting_of s
  setting_is = λ i. record { processors = pr.processors i; grouping = pr.grouping i; iterations = pr.iterations i; from = pr.from i }

  pub begins : Starts (take r.end K) r.setting (loop_of s M) M C w
  begins = starts_by text s a.verdict M fits.cells_are C pr.few_cells pr.classes w enough (take r.end K) r.setting
      pr.code setting_is

  pub can_try : CanTry (take r.end K) r.setting M C ps w
  can_try = (loop_of s M, begins, λ j b. subst (λ (p : ℕ). get_or ps j 0 < p) (sym pr.processors) (fits.names j b))

  pub as_dealt : dealt r.setting ≡ partition_of s
  unfolding partition_of
  as_dealt = ap dealt setting_is
