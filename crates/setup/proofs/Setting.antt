-- An accepted text meets what a run asks.
use mathlib.Core.Path.{◌≡◌, refl, sym, ◌∙◌, ap, subst₂}
use mathlib.Core.List.{List, [], append-nil}
use Prim.Native.Nat.{ℕ, ◌≤◌, ◌<◌}
use native.Mathlib.Omega.{arith}
use borrow.Author.Tests.{leb-true}
use lib.ListN.{length, get_or}
use lib.IntN.{ℤ, pos, ◌+ℤ◌}
use Rattle.rules.specs.Cells.{cell_of, listed}
use Rattle.rules.proofs.CellsLaws.{listed_cells}
use Rattle.rules.specs.declared.Class.{Class}
use Rattle.rules.specs.declared.Class.TheVariants.{Shared as shared}
use Rattle.rules.proofs.BlocksLaws.{tested_processors, tested_groups}
use Rattle.syntax.specs.Known.{State, cells}
use Rattle.syntax.specs.Text.{good, read}
use Rattle.syntax.specs.Meaning.{class_of, loop_of, partition_of}
use Rattle.syntax.specs.Sane.{Sane}
use Rattle.syntax.proofs.Sane.{accepted_sane, accepted_finished}
use Rattle.syntax.proofs.ProperLoop.{accepted_proper}
use Rattle.code.specs.Instr.{Instr, instructions, words, resume}
use Rattle.code.specs.Compile.{code_of}
use Rattle.code.proofs.Words.{instructions_words}
use Rattle.code.proofs.RangedCode.{code_ranged}
use Rattle.code.proofs.Compiled.{compiled_text}
use Rattle.tables.specs.Layout.{row_at}
use Rattle.trial.specs.declared.Setting.{Setting}
use Rattle.trial.specs.Standing.{Suits, Coded}
use Rattle.trial.specs.Start.{Entry, Starts}
use Rattle.setup.specs.Settings.{setting_of}

-- a finished text has every kind of line
pub late : (text : List ℕ) (s : State) → read text ≡ good s → 6 ≤ s.stage
late text s e = leb-true 6 s.stage (accepted_finished text s e)

-- the words of the code are the code
pub code_is : (text : List ℕ) (s : State) → read text ≡ good s → instructions (words (code_of s)) ≡ code_of s
unfolding instructions
code_is text s e =
    ap instructions (sym (append-nil (words (code_of s))))
    ∙ instructions_words (code_of s) [] (code_ranged s (accepted_sane text s e) (omega (arith, late text s e)))
    ∙ append-nil (code_of s)

module _ (text : List ℕ) (s : State) (e : read text ≡ good s) (M : List ℤ) where
  abbrev sane : Sane s
  sane = accepted_sane text s e

  coded : Coded (words (code_of s)) s.from (loop_of s M)
  unfolding loop_of
  coded = record {
    body = λ i b. sym (ap (λ (is : List Instr). resume is 0 [] (s.from +ℤ pos i)) (code_is text s e) ∙ compiled_text text s e (s.from +ℤ pos i));
    fits = λ i b. (sane.loop (omega (arith, late text s e))).values_fit i b;
  }

  suits : Suits s.processors (loop_of s M) (partition_of s)
  unfolding loop_of partition_of
  suits = record {
    proper = accepted_proper text s M e;
    processors = tested_processors s.grouping s.count s.processors;
    cells_most = sane.table.few_cells;
    iterations_most = (sane.loop (omega (arith, late text s e))).few_iterations;
    groups_most = tested_groups s.grouping s.count s.processors 65535 (sane.loop (omega (arith, late text s e))).few_iterations
        (omega (arith, sane.few_processors (omega (arith, late text s e))));
    some = sane.some_processors (omega (arith, late text s e));
    most = sane.few_processors (omega (arith, late text s e));
  }

  size_is : (loop_of s M).size ≡ cells s.table
  unfolding loop_of
  size_is = refl

  -- the cells as lent, their classes and n words
  module _ (size : length M ≡ cells s.table) (C : List Class) (long : cells s.table ≤ length C)
      (cl : (c : ℕ) → c < cells s.table → get_or C c shared ≡ class_of s.table c) (n : ℕ)
      (room : row_at s.processors (cells s.table) ≤ n) where
    entry : Entry s.processors (loop_of s M) (partition_of s) M C n
    unfolding loop_of
    entry = record {
      suits = suits;
      cells = sym (ap (λ (k : ℕ). listed k (cell_of M)) (sym size) ∙ listed_cells M);
      number = long;
      classes = cl;
      room = room;
    }

    -- the code and the numbers that the reader found
    starts : Starts (words (code_of s)) (setting_of s) (loop_of s M) M C n
    unfolding loop_of partition_of
    starts = record { coded = coded; iterations = refl; entry = entry }

    pub starts_by : (K : List ℕ) (g : Setting) → K ≡ words (code_of s) → g ≡ setting_of s → Starts K g (loop_of s M) M C n
    starts_by K g ek eg = subst₂ (λ (k : List ℕ) (x : Setting). Starts k x (loop_of s M) M C n) (sym ek) (sym eg) starts
