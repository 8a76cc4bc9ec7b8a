-- Reading a line's bytes is reading its tokens.
use mathlib.Core.Path.{◌≡◌, refl, sym, ◌∙◌, ap}
use mathlib.Core.List.{List}
use mathlib.Core.Option.{Option, none, some}
use Prim.Native.Nat.{ℕ, ◌+◌, ◌*◌, ◌≤◌}
use native.Mathlib.Omega.{arith}
use lib.ListN.{length}
use Rattle.syntax.specs.Bytes.{tokens}
use Rattle.syntax.specs.Grammar.{Line, close}
use Rattle.syntax.specs.Conditions.{stage_of}
use Rattle.syntax.specs.Reader.{Parsed, broken, done, next, finish, expects, wants, parse, read_start, read_line, read_closing, peek_in, skip_in}
use Rattle.syntax.proofs.Theorem.{line_exactly}
use Rattle.syntax.proofs.TokenCount.{tokens_length}
use Rattle.syntax.proofs.Places.{bytes_sound, bytes_complete}
use Rattle.lines.specs.Progress.{whole}
use Rattle.lines.proofs.Yields.{Yields, yields_next, yields_declare, yields_give, yields_direct, yields_loop, yields_assign, yields_when}
use Rattle.kinds.specs.declared.Kind.{Kind}
use Rattle.kinds.specs.declared.Kind.TheVariants.{Broken, Integer, Data, Opening, Loop, Assignment, If, Else, EndIf, EndDo, Closing}
use Rattle.kinds.specs.Kinds.{read_by, stage_by, Kinds}

-- ---- tokens and bytes

-- the line that is read
abbrev pub line_of : Parsed (List ℕ) Line → Option Line
line_of broken = none
line_of (done l u) = some l

pub parse_bytes : (s : List ℕ) (f : ℕ) → 3 * length s + 4 ≤ f → parse (tokens s) ≡ line_of (read_line peek_in skip_in f s)
parse_bytes s f b = go (read_line peek_in skip_in f s) refl
  where
    none_read : read_line peek_in skip_in f s ≡ broken → (o : Option Line) → parse (tokens s) ≡ o → o ≡ none
    none_read e none h = refl
    none_read e (some l) h =
        let t = (line_exactly (tokens s) l).0 h in
        let c = bytes_complete f s l (omega (arith, tokens_length 0 s, ap length t)) t in
        absurd (let z : ◌≡◌ {A = ℕ} 0 1 = ap which (sym e ∙ c.1) in omega arith)
      where
        which : Parsed (List ℕ) Line → ℕ
        which broken = 0
        which (done l u) = 1

    go : (q : Parsed (List ℕ) Line) → read_line peek_in skip_in f s ≡ q → parse (tokens s) ≡ line_of q
    go broken e = none_read e (parse (tokens s)) refl
    go (done l u) e = (line_exactly (tokens s) l).1 (bytes_sound f s u l e)

-- ---- kinds and stages

pub yields_closing : (P : Line → Type 0) → P close → (f : ℕ) (s : List ℕ) → Yields P (read_closing peek_in skip_in s)
yields_closing P h f s =
    yields_next P (expects peek_in skip_in "!$omp" s) _ (λ _ t. yields_next P (wants peek_in skip_in "end" t) _ (λ _ u.
    yields_next P (wants peek_in skip_in "parallel" u) _ (λ _ v. yields_next P (wants peek_in skip_in "do" v) _ (λ _ _. h))))

-- a line of a kind is of the kind's stage
stage_is : (k : Kind) (f : ℕ) (s : List ℕ) → Yields (λ l. stage_of l ≡ stage_by k) (read_by k f s)
unfolding read_by
stage_is Broken f s = tt
stage_is Integer f s = yields_declare (λ l. stage_of l ≡ 1) (λ d ds. refl) f s
stage_is Data f s = yields_give (λ l. stage_of l ≡ 2) (λ x i is. refl) f s
stage_is Opening f s = yields_direct (λ l. stage_of l ≡ 3) (λ cs. refl) f s
stage_is Loop f s = yields_loop (λ l. stage_of l ≡ 4) (λ v l m k n. refl) f s
stage_is Assignment f s = yields_assign (λ l. stage_of l ≡ 5) (λ r e. refl) f s
stage_is If f s = yields_when (λ l. stage_of l ≡ 5) (λ a o b. refl) f s
stage_is (Else n) f s = refl
stage_is (EndIf n j) f s = refl
stage_is (EndDo n j) f s = refl
stage_is Closing f s = yields_closing (λ l. stage_of l ≡ 7) refl f s

-- what holds of what is read holds of the whole line
pub line_yields : (P : Line → Type 0) (k : Kind) (f : ℕ) (s : List ℕ) → Yields P (read_by k f s) → Yields P (whole (read_by k f) s)
line_yields P k f s = go (read_by k f s)
  where
    go : (q : Parsed (List ℕ) Line) → Yields P q → Yields P (next q (λ l v. next (finish peek_in skip_in v) (λ _. done l)))
    go broken h = tt
    go (done l u) h = yields_next P (finish peek_in skip_in u) _ (λ _ _. h)

pub line_stage : (k : Kind) (f : ℕ) (s : List ℕ) → Yields (λ l. stage_of l ≡ stage_by k) (whole (read_by k f) s)
line_stage k f s = line_yields (λ l. stage_of l ≡ stage_by k) k f s (stage_is k f s)

-- a line is read as its kind is
pub line_by : (k : Kind) (s : List ℕ) → Kinds (λ f. read_start peek_in skip_in f s) s k → (f : ℕ) → read_line peek_in skip_in f s ≡ whole (read_by k f) s
unfolding read_line
line_by k s h f = ap (λ (q : Parsed (List ℕ) Line). next q (λ l v. next (finish peek_in skip_in v) (λ _. done l))) (h.reads f)
