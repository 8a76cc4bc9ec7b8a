-- Names as the code meets them: short, with the rank of a mention and the instruction of a read, by what the table says.
use mathlib.Core.Path.{◌≡◌, sym, ◌∙◌, ap}
use mathlib.Core.Bool.{Bool, cond, ◌&&◌}
use mathlib.Core.List.{List}
use Prim.Native.Nat.{ℕ, ◌+◌, ◌*◌}
use native.Mathlib.Omega.{arith}
use borrow.Author.Tests.{le-leb}
use lib.Dec.{eqb}
use lib.ListN.{length}
use Rattle.syntax.specs.Bytes.{same}
use Rattle.syntax.specs.Known.{Entry, rows, columns, known, find}
use Rattle.syntax.specs.Conditions.{refers, rightly}
use Rattle.code.specs.Instr.{push_v, load}
use Rattle.names.specs.declared.Named.{Named}
use Rattle.std.specs.Prelude.{Option, Some, None, MatchOption}
use Rattle.names.specs.Table.{Tabled, Unknown, Knows, Stands}
use Rattle.names.proofs.Rows.{find_bounded, find_narrow}
use Rattle.names.proofs.Laws.{knows_rows, knows_columns}
use Rattle.parts.specs.Answer.{rank_of}
use Rattle.parts.specs.Parts.{reads_of, span_of, extents_argument}
use Rattle.parts.specs.declared.Fetch.TheVariants.{Cell}

-- ---- what the table says of it

pub fits_by : (t : List Entry) (v w : List ℕ) (n : ℕ) {m k z c : Bool} → same w v ≡ m → known w t ≡ k → eqb n 0 ≡ z → eqb n (length (find w t).extents) ≡ c
    → cond m z (k && c) ≡ rightly t v (refers w n)
fits_by t v w n em ek ez ec = λ i. cond (sym em i) (sym ez i) (sym ek i && sym ec i)

-- its rank, and the worst with it
pub rank_by : (t : List Entry) (v w : List ℕ) (n : ℕ) {b : Bool} → b ≡ rightly t v (refers w n) → cond b 0 2 ≡ rank_of t v (refers w n)
rank_by t v w n e = ap (λ (b : Bool). cond {A = ℕ} b 0 2) e

pub reads_by : (t : List Entry) (v : List ℕ) (line : ℕ) (w : List ℕ) {m : Bool} → same w v ≡ m
    → cond m push_v (load (find w t).first) ≡ reads_of t v line w Cell
reads_by t v line w em = λ i. cond (sym em i) push_v (load (find w t).first)

-- what is found of a name, or nothing
module _ (T : List ℕ) (t : List Entry) (w : List ℕ) (d : Tabled T t) (o : Option Named)
    (k : MatchOption o (Unknown t w) (λ n. Knows t w n × Stands T t w n)) where
  -- a first cell and a length in one argument
  pub span_found : (r : ℕ) → MatchOption o (r ≡ 0) (λ n. r ≡ span_of n.first n.size) → r ≡ (find w t).first + 4096 * (find w t).size
  span_found r e = by_case o k e
    where
      by_case : (o : Option Named) → MatchOption o (Unknown t w) (λ n. Knows t w n × Stands T t w n) → MatchOption o (r ≡ 0) (λ n. r ≡ span_of n.first n.size)
          → r ≡ (find w t).first + 4096 * (find w t).size
      by_case None k e = e ∙ ap (λ (x : Entry). x.first + 4096 * x.size) (sym k.nowhere)
      by_case (Some n) k e =
          let h = find_bounded T w t d in
          e ∙ (λ i. span_of (k.0.first i) (k.0.size i)) ∙ rw (le-leb (find w t).first 4096 (omega (arith, h)), le-leb (find w t).size 4096 (omega (arith, h)))

  -- two extents in one argument
  pub extents_found : (r : ℕ) → MatchOption o (r ≡ 0) (λ n. r ≡ extents_argument n.rows n.columns) → r ≡ rows (find w t) + 8192 * columns (find w t)
  extents_found r e = by_case o k e
    where
      by_case : (o : Option Named) → MatchOption o (Unknown t w) (λ n. Knows t w n × Stands T t w n)
          → MatchOption o (r ≡ 0) (λ n. r ≡ extents_argument n.rows n.columns) → r ≡ rows (find w t) + 8192 * columns (find w t)
      by_case None k e = e ∙ ap (λ (x : Entry). rows x + 8192 * columns x) (sym k.nowhere)
      by_case (Some n) k e =
          let h = find_narrow T w t d in
          e ∙ (λ i. extents_argument (knows_rows t w n k.0 i) (knows_columns t w n k.0 i))
          ∙ rw (le-leb (rows (find w t)) 4096 h.0, le-leb (columns (find w t)) 4096 h.1)
