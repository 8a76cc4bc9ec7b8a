-- What the functions on lines and on whole texts yield, by the first bad line of `Rattle.syntax.specs.Text`.
use Rattle.std.specs.Prelude.{◌≡◌, Bool, List, ℕ, ◌+◌, ◌*◌, ◌≤◌, ◌<◌, length, replicate, ℤ, pos, Result, Ok, Err}
use Rattle.syntax.specs.declared.Flaw.{Flaw}
use Rattle.syntax.specs.Known.{State}
use Rattle.syntax.specs.Text.{Verdict, refused, good, judge_line}
use Rattle.syntax.specs.Sane.{Sane}
use Rattle.code.specs.Compile.{code_words}
use Rattle.names.specs.Table.{table_words}
use Rattle.lines.specs.declared.Progress.{Progress}
use Rattle.lines.specs.Progress.{Held, held, Represents}
use Rattle.reader.specs.declared.BadLine.{BadLine}

-- the verdict on line k: what is wrong with it, or what is known after it, where H is held at a progress
unfoldable pub Judged : ℕ → Verdict → (Progress → Held) → Result Progress Flaw → Type 0
Judged k (refused f j) H (Err e) = (e ≡ f) × (j ≡ k)
Judged k (refused f j) H (Ok p) = ⊥
Judged k (good s) H (Err e) = ⊥
Judged k (good s) H (Ok p) = Represents (H p) s

-- What is lent to the functions on a line: a text was read so far, and there is room for the code of the line
pub record Lent (s : List ℕ) (line : ℕ) (H : Held) : Type 0 where
  pub short : length s ≤ 2048
  pub low : line ≤ 2049
  pub stage : H.progress.stage ≤ 7
  pub place : H.progress.place ≤ 2048
  pub room : 2 * (H.progress.place + 2 * length s + 1) ≤ length H.code
  pub initial : length H.initial ≡ 4096
  pub known : (st : State) × Represents H st × Sane st

-- line k of a text, the last or not: what is held before it, what is held after it at some progress, and what it comes to
abbrev pub JudgesLine : List ℕ → Bool → ℕ → Held → (Progress → Held) → Result Progress Flaw → Type 0
JudgesLine s last k H H' r = (st : State) → Represents H st → Sane st → Judged k (judge_line k last st s) H' r

-- ---- whole texts

-- the first bad line, or what is known of the text
unfoldable pub Reads : Verdict → Result Progress BadLine → List ℕ → List ℤ → List ℕ → Type 0
Reads (refused f k) (Err b) T I C = b ≡ record { flaw = f; line = k }
Reads (refused f k) (Ok p) T I C = ⊥
Reads (good s) (Err b) T I C = ⊥
Reads (good s) (Ok p) T I C = (O : List ℕ) × Represents (held p T I C O) s

-- what is lent before the first line is all zero, and there is room for the code
pub record Fresh (T : List ℕ) (I : List ℤ) (C : List ℕ) : Type 0 where
  pub table : T ≡ replicate table_words 0
  pub initial : I ≡ replicate 4096 (pos 0)
  pub code : length C ≡ code_words
