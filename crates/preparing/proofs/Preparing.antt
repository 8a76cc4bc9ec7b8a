-- What is made ready for a run.
use mathlib.Core.Path.{◌≡◌, sym, ◌∙◌, ap, subst}
use mathlib.Core.List.{List}
use Prim.Native.Nat.{ℕ, ◌*◌, ◌≤◌}
use native.Mathlib.Omega.{arith}
use borrow.Author.Tests.{leb-true}
use lib.ListN.{length, take}
use lib.IntN.{ℤ}
use Rattle.std.specs.Prelude.{Ok, Err}
use Rattle.rules.specs.declared.Class.{Class}
use Rattle.syntax.specs.Known.{State}
use Rattle.syntax.specs.Text.{Verdict, read}
use Rattle.syntax.specs.Sane.{Sane}
use Rattle.syntax.proofs.Sane.{accepted_sane, accepted_finished}
use Rattle.lines.specs.declared.Progress.{Progress}
use Rattle.code.proofs.CodeLength.{text_length}
use Rattle.setup.specs.Classes.{Classifies}
use Rattle.fitting.proofs.Fits.{fits_done, fits_not}
use Rattle.answers.specs.declared.Refusal.{Refusal}
use Rattle.answers.specs.Answers.{completed, fit_number, run_number}
use Rattle.preparing.specs.declared.Ready.{Ready}
use Rattle.preparing.proofs.Verdicts.{flaw_some, refusal_is}
use Rattle.preparing.specs.Prepared.{Accepts, Refuses, Prepares, Prepared, Readies, RefusesRun}

-- a text that is refused
pub run_refused : (v : Verdict) (m w : ℕ) (ps : List ℕ) (e : Refusal) → Refuses v e → RefusesRun v m w ps e
run_refused v m w ps e r = subst (λ (u : Verdict). RefusesRun u m w ps e) (sym r.verdict) (refusal_is r, flaw_some r.flaw)

module _ (text : List ℕ) (p : Progress) (T : List ℕ) (I : List ℤ) (K : List ℕ) (a : Accepts (read text) p T I K) where
  abbrev s : State
  s = a.state

  sane : Sane s
  sane = accepted_sane text s a.verdict

  late : 6 ≤ s.stage
  late = leb-true 6 s.stage (accepted_finished text s a.verdict)

  pub few_cells : p.cells ≤ 4096
  few_cells = omega (arith, a.represents.cells_so_far, sane.table.few_cells)

  pub few_processors : p.processors ≤ 8
  few_processors = omega (arith, a.represents.processors, sane.few_processors (omega (arith, late)))

  pub few_places : p.place ≤ 2048
  few_places = omega (arith, a.represents.place, text_length text s a.verdict)

  pub prepared : (r : Ready) (C₀ C : List Class) → length C₀ ≡ 4096 → Classifies T p.cells C₀ C → r.cells ≡ p.cells → r.setting.processors ≡ p.processors
      → r.setting.grouping ≡ p.grouping → r.setting.iterations ≡ p.count → r.setting.from ≡ p.from → r.end ≡ 2 * p.place → Prepared (read text) r K C
  prepared r C₀ C long cl ec ep eg ei ef ee = record {
    state = s;
    verdict = a.verdict;
    prepares = record {
      cells_are = ec ∙ a.represents.cells_so_far;
      processors = ep ∙ a.represents.processors;
      grouping = eg ∙ a.represents.grouping;
      iterations = ei ∙ a.represents.count;
      from = ef ∙ a.represents.from;
      short = omega (arith, ee, few_places);
      code = ap (λ (n : ℕ). take n K) ee ∙ a.represents.code;
      few_cells = omega (arith, cl.size, long, sane.table.few_cells);
      few_processors = sane.few_processors (omega (arith, late));
      classes = λ c b. cl.classes s.table a.represents.table c (omega (arith, b, a.represents.cells_so_far));
    };
  }

-- what is lent for the run of a text that is ready
module _ (text : List ℕ) (r : Ready) (K : List ℕ) (C : List Class) (a : Prepared (read text) r K C) (m w : ℕ) (ps : List ℕ) where
  abbrev p : Prepares a.state r K C
  p = a.prepares

  -- the number by what is ready, and by the text
  number_as : fit_number r.cells r.setting.processors m w ps ≡ run_number a.state m w ps
  number_as = λ i. fit_number (p.cells_are i) (p.processors i) m w ps

  pub run_fits : r.cells ≤ 4096
  run_fits = omega (arith, p.cells_are, (accepted_sane text a.state a.verdict).table.few_cells)

  pub run_unfit : (e : Refusal) → Err e ≡ completed (fit_number r.cells r.setting.processors m w ps) → RefusesRun (read text) m w ps e
  run_unfit e h =
      let q = fits_not (run_number a.state m w ps) e (h ∙ ap completed number_as) in
      subst (λ (u : Verdict). RefusesRun u m w ps e) (sym a.verdict) q

  pub readies : Ok tt ≡ completed (fit_number r.cells r.setting.processors m w ps) → Readies (read text) m w ps r K C
  readies fit = record { state = a.state; verdict = a.verdict; fits = fits_done (run_number a.state m w ps) (fit ∙ ap completed number_as); prepares = p }
