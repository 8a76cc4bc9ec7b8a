-- The answers of Check and Load, by the verdict on the text and by what is lent.
use mathlib.Core.Path.{◌≡◌, refl, sym, ◌∙◌, ap}
use mathlib.Core.List.{List}
use Prim.Native.Nat.{ℕ, zero, suc, ◌-◌, ◌≤◌}
use native.Mathlib.Omega.{arith}
use borrow.Author.Tests.{eqb-true}
use lib.Dec.{eqb}
use lib.ListN.{length, take, replicate}
use lib.Seq.{take_at}
use lib.IntN.{ℤ, pos}
use Rattle.std.specs.Prelude.{Result, Ok, Err}
use Rattle.syntax.specs.Known.{cells}
use Rattle.syntax.specs.Text.{Verdict, loaded, read}
use Rattle.syntax.proofs.Sane.{accepted_sane}
use Rattle.syntax.proofs.Loaded.{loaded_length}
use Rattle.lines.specs.declared.Progress.{Progress}
use Rattle.answers.specs.declared.Refusal.{Refusal}
use Rattle.answers.specs.declared.Sizes.{Sizes}
use Rattle.answers.specs.Answers.{refusal_at, cells_number, load_number, taken, completed, check_of, load_of, cells_loaded}
use Rattle.preparing.proofs.Verdicts.{refusal_is}
use Rattle.preparing.specs.Prepared.{Accepts, Refuses}
use Rattle.fitting.proofs.Fits.{fits_done, fits_not, cells_done}

-- ---- a text that is refused

pub check_refused : (v : Verdict) (e : Refusal) → Refuses v e → Err e ≡ check_of v
unfolding check_of
check_refused v e r = ap Err (refusal_is r) ∙ sym (ap check_of r.verdict)

pub load_refused : (v : Verdict) (e : Refusal) (M : List ℤ) → Refuses v e → (Err e ≡ load_of v (length M)) × (M ≡ cells_loaded v M)
unfolding load_of cells_loaded
load_refused v e M r = (ap Err (refusal_is r) ∙ sym (ap (λ (u : Verdict). load_of u (length M)) r.verdict), sym (ap (λ (u : Verdict). cells_loaded u M) r.verdict))

-- ---- or accepted

module _ (text : List ℕ) (p : Progress) (T : List ℕ) (I : List ℤ) (C : List ℕ) (a : Accepts (read text) p T I C) where
  pub check_accepted : Ok (record { cells = p.cells; processors = p.processors }) ≡ check_of (read text)
  unfolding check_of
  check_accepted = (λ i. Ok (record { cells = a.represents.cells_so_far i; processors = a.represents.processors i })) ∙ sym (ap check_of a.verdict)

  module _ (M : List ℤ) where
    number_as : cells_number p.cells (length M) ≡ load_number a.state (length M)
    number_as = λ i. cells_number (a.represents.cells_so_far i) (length M)

    by_number : (n : ℕ) (r : Result Unit Refusal) (M' : List ℤ) → load_number a.state (length M) ≡ n → r ≡ completed n
        → M' ≡ taken n (loaded a.state.table) M → (r ≡ load_of (read text) (length M)) × (M' ≡ cells_loaded (read text) M)
    unfolding load_of cells_loaded
    by_number n r M' en er em = (
      er ∙ ap completed (sym en) ∙ sym (ap (λ (v : Verdict). load_of v (length M)) a.verdict),
      em ∙ ap (λ (k : ℕ). taken k (loaded a.state.table) M) (sym en) ∙ sym (ap (λ (v : Verdict). cells_loaded v M) a.verdict),
    )

    pub load_unfit : (e : Refusal) → Err e ≡ completed (cells_number p.cells (length M))
        → (Err e ≡ load_of (read text) (length M)) × (M ≡ cells_loaded (read text) M)
    load_unfit e h = go (cells_number p.cells (length M)) refl
      where
        go : (n : ℕ) → cells_number p.cells (length M) ≡ n → (Err e ≡ load_of (read text) (length M)) × (M ≡ cells_loaded (read text) M)
        go zero q = absurd (omega (arith, (fits_not (cells_number p.cells (length M)) e h).1, q))
        go (suc n) q = by_number (suc n) (Err e) M (sym number_as ∙ q) (h ∙ ap completed q) refl

    module _ (h : Ok tt ≡ completed (cells_number p.cells (length M))) where
      as_many : length M ≡ p.cells
      as_many = cells_done p.cells (length M) h

      pub few_cells : length M ≤ 4096
      few_cells = omega (arith, as_many, a.represents.cells_so_far, (accepted_sane text a.state a.verdict).table.few_cells)

      first_cells : take (length M) I ≡ loaded a.state.table
      first_cells =
          let sane = accepted_sane text a.state a.verdict in
          ap (take (length M)) a.represents.filled
          ∙ take_at (loaded a.state.table) (replicate (4096 - cells a.state.table) (pos 0)) (length M)
          (loaded_length a.state.table sane.table ∙ sym (as_many ∙ a.represents.cells_so_far))

      pub load_done : (M' : List ℤ) → M' ≡ take (length M) I
          → (Ok tt ≡ load_of (read text) (length M)) × (M' ≡ cells_loaded (read text) M)
      load_done M' e = by_number 0 (Ok tt) M' (sym number_as ∙ fits_done (cells_number p.cells (length M)) h) refl (e ∙ first_cells)
