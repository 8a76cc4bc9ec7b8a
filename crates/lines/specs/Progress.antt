-- How far a text was read: what the code holds, and what it stands for.
use Rattle.std.specs.Prelude.{◌≡◌, cond, not, List, [], ◌∷◌, ◌++◌, ℕ, zero, suc, ◌+◌, ◌-◌, ◌*◌, ◌≤◌, ◌<◌, eqb, length, get_or, take, drop, replicate, ℤ, pos, Option, Some, None, Result, Ok, Err}
use Rattle.rules.specs.declared.Grouping.{Grouping}
use Rattle.syntax.specs.declared.Flaw.{Flaw}
use Rattle.syntax.specs.declared.Flaw.TheVariants.{BrokenForm, WrongName, OverLimit}
use Rattle.syntax.specs.Bytes.{choose}
use Rattle.syntax.specs.Grammar.{Line}
use Rattle.syntax.specs.Known.{Open, State, cells}
use Rattle.syntax.specs.Conditions.{is_given, names, limits, fits}
use Rattle.syntax.specs.Text.{loaded}
use Rattle.syntax.specs.Reader.{Parsed, broken, done, Reader, ◌>>=◌, ◌>>◌, yield, kind, finish, peek_in, skip_in}
use Rattle.code.specs.Instr.{words}
use Rattle.code.specs.Compile.{code_of, places_of}
use Rattle.names.specs.Table.{variable_of, Tabled, Unclaimed, length_at, variable_entry, name_words}
use Rattle.lines.specs.declared.Progress.{Progress}

-- ---- what a reader holds

pub record Held : Type 0 where
  -- how far the text was read
  pub progress : Progress
  -- the words of the table of names
  pub table : List ℕ
  -- the values of the cells that the data give
  pub initial : List ℤ
  -- the words of the code
  pub code : List ℕ
  -- the words of the open jumps
  pub opens : List ℕ

abbrev pub held : Progress → List ℕ → List ℤ → List ℕ → List ℕ → Held
held p T I C O = record { progress = p; table = T; initial = I; code = C; opens = O }

-- how far a text was read by a line before `do`
abbrev pub before_do : ℕ → ℕ → ℕ → Grouping → Progress
before_do stage cells processors grouping = record {
  stage = stage;
  cells = cells;
  processors = processors;
  grouping = grouping;
  from = pos 0;
  count = 0;
  place = 0;
  depth = 0;
}

-- and by a line after it
abbrev pub moved : Progress → ℕ → ℕ → ℕ → Progress
moved p stage place depth = record {
  stage = stage;
  cells = p.cells;
  processors = p.processors;
  grouping = p.grouping;
  from = p.from;
  count = p.count;
  place = place;
  depth = depth;
}

-- ---- what was read

-- the first d words of O are the places of the open jumps, the innermost last, each twice, and one more once `else` was met
abbrev pub Opened : List ℕ → ℕ → List Open → List ℕ → Type 0
Opened O zero [] [] = Unit {0}
Opened O zero [] (q ∷ qs) = ⊥
Opened O zero (o ∷ os) qs = ⊥
Opened O (suc d) [] qs = ⊥
Opened O (suc d) (o ∷ os) [] = ⊥
Opened O (suc d) (o ∷ os) (q ∷ qs) = (get_or O d 0 ≡ 2 * q + cond (is_given o.first) 1 0) × Opened O d os qs

-- what is held stands for what is known of the text
pub record Represents (H : Held) (s : State) : Type 0 where
  pub stage : H.progress.stage ≡ s.stage
  pub table : Tabled H.table s.table
  pub variable : variable_of H.table ≡ s.variable
  pub short : length_at H.table variable_entry ≤ name_words
  pub unclaimed : s.stage < 3 → Unclaimed H.table (length s.table)
  pub nameless : s.stage < 4 → s.variable ≡ []
  pub cells_so_far : H.progress.cells ≡ cells s.table
  pub filled : H.initial ≡ loaded s.table ++ replicate (4096 - cells s.table) (pos 0)
  pub processors : H.progress.processors ≡ s.processors
  pub grouping : H.progress.grouping ≡ s.grouping
  pub from : H.progress.from ≡ s.from
  pub count : H.progress.count ≡ s.count
  pub few : H.progress.count ≤ 65535
  pub place : H.progress.place ≡ length (code_of s)
  pub code : take (2 * H.progress.place) H.code ≡ words (code_of s)
  pub opened : Opened H.opens H.progress.depth s.opens (places_of s)
  pub shallow : H.progress.depth ≤ 8
  pub stack : 8 ≤ length H.opens

-- some text was read so far
abbrev pub Underway : Progress → List ℕ → List ℕ → Type 0
Underway p C O = (T : List ℕ) × (I : List ℤ) × (s : State) × Represents (held p T I C O) s

-- ---- what a line comes to

-- what is wrong with a line that stands where it may: "2 before 3 before 4"; nothing with a good one
unfoldable pub flaw_of : State → Line → Option Flaw
flaw_of s l =
    choose (not (fits s.opens l)) (λ _. Some BrokenForm) (λ _.
    choose (not (names s l)) (λ _. Some WrongName) (λ _.
    choose (not (limits s l)) (λ _. Some OverLimit) (λ _. None)))

-- what a rank says is wrong: 1 over a limit, 2 a wrong name
abbrev pub flawed : ℕ → Option Flaw
flawed zero = None
flawed (suc zero) = Some OverLimit
flawed (suc (suc n)) = Some WrongName

-- a part of a line that is a whole line
abbrev pub whole : Reader (List ℕ) Line → Reader (List ℕ) Line
whole r = do
  l ← r
  finish peek_in skip_in
  yield l

-- what is told where the form is broken, and else of the line: what is wrong with it, or what a good line leaves
unfoldable pub Concludes : (Line → Option Flaw) → (Line → Progress → Type 0) → Parsed (List ℕ) Line → Result Progress Flaw → Type 0
Concludes flaw good broken (Err f) = f ≡ BrokenForm
Concludes flaw good broken (Ok p) = ⊥
Concludes flaw good (done l u) (Err f) = flaw l ≡ Some f
Concludes flaw good (done l u) (Ok p) = (flaw l ≡ None) × good l p

-- what is wrong, if anything is
abbrev pub told : Option Flaw → Result Unit Flaw
told None = Ok tt
told (Some f) = Err f

-- what a part that ends at a place of the line comes to, with a rank
abbrev pub Comes : List ℕ → ℕ → ℕ → Result Unit Flaw → Type 0
Comes s next rank r = next ≤ length s → r ≡ cond (eqb (kind (peek_in (drop next s))) 0) (told (flawed rank)) (Err BrokenForm)
