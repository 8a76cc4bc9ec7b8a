-- The answers of Bounds and Name, by the verdict on the text and by the table of names.
use mathlib.Core.Path.{◌≡◌, sym, ◌∙◌, ap}
use mathlib.Core.Bool.{Bool, true, false, cond}
use mathlib.Core.List.{List, map}
use Prim.Native.Nat.{ℕ, ◌<◌}
use native.Mathlib.Omega.{arith}
use lib.ListN.{length, get_or, length-map}
use lib.IntN.{ℤ}
use Rattle.syntax.specs.Bytes.{lower}
use Rattle.syntax.specs.Known.{Entry, known, find, nowhere}
use Rattle.syntax.specs.Text.{Verdict, read}
use Rattle.lexer.proofs.Laws.{same_lengths}
use Rattle.names.specs.Table.{extents_of, Tabled, Unknown, Knows, name_words}
use Rattle.names.specs.declared.Named.{Named}
use Rattle.names.proofs.Laws.{find_none, knows_rows, knows_columns}
use Rattle.std.specs.Prelude.{Result, Ok, Err}
use Rattle.lines.specs.declared.Progress.{Progress}
use Rattle.answers.specs.declared.Located.{Located}
use Rattle.answers.specs.declared.Refusal.{Refusal}
use Rattle.answers.specs.Answers.{refuse, bounds_of, entry_cells, located_in, name_of}
use Rattle.preparing.proofs.Verdicts.{refusal_is}
use Rattle.preparing.specs.Prepared.{Accepts, Refuses}

-- ---- a text that is refused

pub bounds_refused : (v : Verdict) (e : Refusal) → Refuses v e → Err e ≡ bounds_of v
unfolding bounds_of
bounds_refused v e r = ap Err (refusal_is r) ∙ sym (ap bounds_of r.verdict)

pub name_refused : (v : Verdict) (e : Refusal) (x : List ℕ) → Refuses v e → Err e ≡ name_of v x
unfolding name_of
name_refused v e x r = ap Err (refusal_is r) ∙ sym (ap (λ (u : Verdict). name_of u x) r.verdict)

-- ---- or accepted

module _ (v : Verdict) (p : Progress) (T : List ℕ) (I : List ℤ) (C : List ℕ) (a : Accepts v p T I C) where
  pub bounds_accepted : Ok (record { from = p.from; iterations = p.count; grouping = p.grouping }) ≡ bounds_of v
  unfolding bounds_of
  bounds_accepted =
      (λ i. Ok (record { from = a.represents.from i; iterations = a.represents.count i; grouping = a.represents.grouping i })) ∙ sym (ap bounds_of a.verdict)

  -- by what the table's names give
  pub name_accepted : (x : List ℕ) (r : Result Located Refusal) → ((t : List Entry) → Tabled T t → r ≡ located_in t (map lower x)) → r ≡ name_of v x
  unfolding name_of
  name_accepted x r q = q a.state.table a.represents.table ∙ sym (ap (λ (u : Verdict). name_of u x) a.verdict)

module _ (T : List ℕ) (t : List Entry) (d : Tabled T t) where
  -- no name of the table is longer than its room
  pub over_long : (x : List ℕ) → name_words < length x → refuse 3 0 ≡ located_in t (map lower x)
  over_long x h =
      let w = map lower x in
      let unknown = find_none w t (λ k b. same_lengths w (get_or t k nowhere).name (λ e. omega (arith, e, (d.rows k b).short, h, length-map x lower))) in
      sym (ap (λ (b : Bool). cond b (Ok (entry_cells (find w t))) (refuse 3 0)) unknown.0)

  -- what the table knows of the name in lower case
  module _ (x w : List ℕ) (l : w ≡ map lower x) where
    by_known : (b : Bool) → known w t ≡ b → cond b (Ok (entry_cells (find w t))) (refuse 3 0) ≡ located_in t (map lower x)
    by_known b q = sym (ap (λ (c : Bool). cond c (Ok (entry_cells (find w t))) (refuse 3 0)) q) ∙ ap (located_in t) l

    pub declared : (e : Named) → Knows t w e → (n : ℕ) → n ≡ length (extents_of e.rows e.columns)
        → Ok (record { first = e.first; count = e.size; subscripts = n; class = e.class; rows = e.rows; columns = e.columns }) ≡ located_in t (map lower x)
    declared e k n en =
        (λ i. Ok (record {
          first = k.first i;
          count = k.size i;
          subscripts = (en ∙ ap length k.extents) i;
          class = k.class i;
          rows = knows_rows t w e k i;
          columns = knows_columns t w e k i;
        }))
        ∙ by_known true k.known

    pub undeclared : Unknown t w → refuse 3 0 ≡ located_in t (map lower x)
    undeclared u = by_known false u.known
