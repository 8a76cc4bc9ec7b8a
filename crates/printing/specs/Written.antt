-- What the functions leave in the buffer, and what they ask of the table of names and the cells.
use Rattle.std.specs.Prelude.{◌≡◌, List, ◌++◌, ℕ, zero, suc, ◌+◌, ◌≤◌, ◌<◌, length, get_or, take, drop, ℤ, Result, Ok, Err}
use Rattle.syntax.specs.Known.{Entry, nowhere, cells}
use Rattle.names.specs.Table.{word_at, name_at, Tabled, first_at, length_at, size_at, name_words, most_names}
use Rattle.answers.specs.declared.Failure.{Failure}
use Rattle.answers.specs.declared.Ran.{Ran}
use Rattle.syntax.specs.Bytes.{bytes}
use Rattle.printing.specs.Printed.{signed, data_line, report}

-- entry i has a name of at most 32 bytes
pub record Named (T : List ℕ) (i : ℕ) : Type 0 where
  pub low : i < most_names
  pub short : length_at T i ≤ name_words
  pub plain : (k : ℕ) → k < length_at T i → word_at T i k < 256

-- the table stands for the names t, whose cells are among m, at most 128 in all
pub record Holds (T : List ℕ) (m : List ℤ) (t : List Entry) : Type 0 where
  pub tabled : Tabled T t
  pub few : cells t ≤ 128
  pub held : (i : ℕ) → i < length t → (get_or t i nowhere).first + (get_or t i nowhere).size ≤ length m
  pub plain : (i k : ℕ) → i < length t → get_or (get_or t i nowhere).name k 0 < 256

-- the value of a number in its line, with a comma before it unless it is the first
unfoldable pub value_at : ℕ → ℤ → List ℕ
value_at zero v = signed v
value_at (suc k) v = bytes "," ++ signed v

-- the data line of entry i of the table
unfoldable pub line_at : List ℕ → List ℤ → ℕ → List ℕ
line_at T m i = data_line (name_at T i) (take (size_at T i) (drop (first_at T i) m))

-- an answer with cells to print
abbrev pub Completes : Result Ran Failure → Type 0
Completes (Ok r) = Unit {0}
Completes (Err e) = ⊥

-- the first r bytes of the buffer are the report, and the others are as they were
pub record Reports (answer : Result Ran Failure) (T : List ℕ) (m : List ℤ) (before after : List ℕ) (r : ℕ) : Type 0 where
  pub within : r ≤ length after
  pub counted : r ≡ length (take r after)
  pub bytes : (t : List Entry) → (Completes answer → Tabled T t) → take r after ≡ report answer t m
  pub rest : drop r after ≡ drop r before
