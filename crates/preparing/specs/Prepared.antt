-- A text that was read, and what is made ready for its run: what the reader found, the code, and the classes of the cells.
use Rattle.std.specs.Prelude.{◌≡◌, List, ℕ, ◌≤◌, ◌<◌, length, get_or, take, ℤ}
use Rattle.rules.specs.declared.Class.{Class}
use Rattle.rules.specs.declared.Class.TheVariants.{Shared as shared}
use Rattle.syntax.specs.Known.{State, cells}
use Rattle.syntax.specs.declared.Flaw.{Flaw}
use Rattle.syntax.specs.Flaws.{flaw_number}
use Rattle.syntax.specs.Text.{Verdict, refused, good}
use Rattle.syntax.specs.Meaning.{class_of}
use Rattle.code.specs.Instr.{words}
use Rattle.code.specs.Compile.{code_of}
use Rattle.lines.specs.declared.Progress.{Progress}
use Rattle.lines.specs.Progress.{held, Represents}
use Rattle.answers.specs.declared.Refusal.{Refusal}
use Rattle.answers.specs.Answers.{refusal_at, run_number}
use Rattle.preparing.specs.declared.Ready.{Ready}

-- ---- a text that was read

-- refused, with the number of what is wrong and the first bad line
pub record Refuses (v : Verdict) (e : Refusal) : Type 0 where
  pub flaw : Flaw
  pub verdict : v ≡ refused flaw e.line
  pub number : e.number ≡ flaw_number flaw

-- or accepted: what is held stands for what is known of it
pub record Accepts (v : Verdict) (p : Progress) (T : List ℕ) (I : List ℤ) (C : List ℕ) : Type 0 where
  pub state : State
  pub verdict : v ≡ good state
  pub opens : List ℕ
  pub represents : Represents (held p T I C opens) state

-- ---- a text made ready for a run

-- for the text of s: the first words of K are its code, and C has its cells' classes
pub record Prepares (s : State) (r : Ready) (K : List ℕ) (C : List Class) : Type 0 where
  pub cells_are : r.cells ≡ cells s.table
  pub processors : r.setting.processors ≡ s.processors
  pub grouping : r.setting.grouping ≡ s.grouping
  pub iterations : r.setting.iterations ≡ s.count
  pub from : r.setting.from ≡ s.from
  pub short : r.end ≤ 4096
  pub code : take r.end K ≡ words (code_of s)
  pub few_cells : cells s.table ≤ length C
  pub few_processors : s.processors ≤ 8
  pub classes : (c : ℕ) → c < cells s.table → get_or C c shared ≡ class_of s.table c

-- the text is accepted, and made ready
pub record Prepared (v : Verdict) (r : Ready) (K : List ℕ) (C : List Class) : Type 0 where
  pub state : State
  pub verdict : v ≡ good state
  pub prepares : Prepares state r K C

-- ready, where m cells, w words and the schedule ps are lent: they fit
pub record Readies (v : Verdict) (m w : ℕ) (ps : List ℕ) (r : Ready) (K : List ℕ) (C : List Class) : Type 0 where
  pub state : State
  pub verdict : v ≡ good state
  pub fits : run_number state m w ps ≡ 0
  pub prepares : Prepares state r K C

-- or not: the text is refused, or they don't fit
abbrev pub RefusesRun : Verdict → ℕ → ℕ → List ℕ → Refusal → Type 0
RefusesRun (refused f k) m w ps e = (e ≡ refusal_at (flaw_number f) k) × (0 < flaw_number f)
RefusesRun (good s) m w ps e = (e ≡ refusal_at (run_number s m w ps) 0) × (0 < run_number s m w ps)
