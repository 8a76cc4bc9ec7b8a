-- Where Name tells the cells of a name, the text is accepted, and they are the cells of this name in its table.
use mathlib.Core.Path.{◌≡◌, refl, sym, ◌∙◌, ap}
use mathlib.Core.Bool.{Bool, true, false, cond}
use mathlib.Core.List.{List, map}
use Prim.Native.Nat.{ℕ}
use native.Mathlib.Omega.{arith}
use Rattle.syntax.specs.Bytes.{lower}
use Rattle.syntax.specs.Known.{State, cells, find, known}
use Rattle.syntax.specs.Text.{Verdict, refused, good, read}
use Rattle.std.specs.Prelude.{Result, Ok, Err}
use Rattle.answers.specs.declared.Located.{Located}
use Rattle.answers.specs.declared.Refusal.{Refusal}
use Rattle.answers.specs.declared.Sizes.{Sizes}
use Rattle.answers.specs.Answers.{refuse, check_of, entry_cells, name_of}
use Rattle.describing.specs.Told.{Has}

module _ (text : List ℕ) where
  -- the cells of x, in lower case, in the table of the text
  pub record Tells (x : List ℕ) (f n : ℕ) (s : State) : Type 0 where
    pub first : (find (map lower x) s.table).first ≡ f
    pub size : (find (map lower x) s.table).size ≡ n

  pub tells : (x : List ℕ) (f n : ℕ) → Has text x f n → (s : State) → read text ≡ good s → Tells x f n s
  unfolding name_of
  tells x f n h s e = go (known (map lower x) s.table) (sym (ap (λ (v : Verdict). name_of v x) e) ∙ h.answer)
    where
      go : (b : Bool) → cond b (Ok (entry_cells (find (map lower x) s.table))) (refuse 3 0)
          ≡ Ok (record { first = f; count = n; subscripts = h.subscripts; class = h.clause; rows = h.rows; columns = h.columns }) → Tells x f n s
      go true q =
          let told : entry_cells (find (map lower x) s.table)
          ≡ record { first = f; count = n; subscripts = h.subscripts; class = h.clause; rows = h.rows; columns = h.columns } =
          cc in
          record { first = ap (λ (l : Located). l.first) told; size = ap (λ (l : Located). l.count) told }
      go false q = cc

  pub accepted : {P : Type 0} (x : List ℕ) (f n : ℕ) → Has text x f n → ((s : State) → read text ≡ good s → P) → P
  unfolding name_of
  accepted {P} x f n h then = go (read text) refl
    where
      go : (v : Verdict) → read text ≡ v → P
      go (refused a b) e = let q = sym (ap (λ (v : Verdict). name_of v x) e) ∙ h.answer in cc
      go (good s) e = then s e

  -- and Check tells how many cells there are
  pub counted : (N P : ℕ) → check_of (read text) ≡ Ok (record { cells = N; processors = P }) → (s : State) → read text ≡ good s → cells s.table ≡ N
  unfolding check_of
  counted N P c s e = total (sym (ap check_of e) ∙ c)
    where
      total : ◌≡◌ {A = Result Sizes Refusal} (Ok (record { cells = cells s.table; processors = s.processors })) (Ok (record { cells = N; processors = P }))
          → cells s.table ≡ N
      total q =
          let sizes : ◌≡◌ {A = Sizes} (record { cells = cells s.table; processors = s.processors }) (record { cells = N; processors = P }) = cc in
          ap (λ (z : Sizes). z.cells) sizes
