-- What holds of every accepted text, and of what its lines make known while it is read: the invariant that each good line keeps (the laws are
-- in proofs/Sane.antt). Nothing here has to be believed.
use Rattle.std.specs.Prelude.{◌≡◌, true, false, List, [], ◌∷◌, map, ℕ, ◌+◌, ◌≤◌, ◌<◌, length, ℤ, pos, nat_abs, ◌+ℤ◌}
use Rattle.std.proofs.Math.Option.{Option, none, some}
use Rattle.std.specs.Int.{w32}
use Rattle.std.proofs.Common.{SFits}
use Rattle.rules.specs.declared.Grouping.TheVariants.{Iterations}
use Rattle.syntax.specs.Bytes.{all}
use Rattle.syntax.specs.Grammar.{Statement, assign, when, inside}
use Rattle.syntax.specs.Known.{Entry, known, cells, cells_of, Stmts, stop, set, if_then, if_else, Open, State}
use Rattle.syntax.specs.Conditions.{in_line, different, names, small}

-- the like of `all` for what is no test
abbrev pub Each : {A : Type 0} → (A → Type 0) → List A → Type 0
Each P [] = Unit {0}
Each P (x ∷ xs) = P x × Each P xs

-- ---- the table of names

-- "in declared order": from cell c on each entry begins where the one before it ends
abbrev pub Laid : ℕ → List Entry → Type 0
Laid c [] = Unit {0}
Laid c (e ∷ es) = (e.first ≡ c) × Laid (c + e.size) es

-- data: "a value for each cell of the name"
abbrev pub Data : ℕ → Option (List ℤ) → Type 0
Data n none = Unit {0}
Data n (some vs) = (length vs ≡ n) × Each (SFits w32) vs

-- "array length 1 to 4,096"; document 02, Point 9: "m × n up to 4,096"
pub record SaneEntry (e : Entry) : Type 0 where
  pub shaped : cells_of e.extents ≡ e.size
  pub some_cells : 1 ≤ e.size
  pub few_cells : e.size ≤ 4096
  pub given : Data e.size e.given

-- "names 16", "N to 4,096", no name twice
pub record SaneTable (t : List Entry) : Type 0 where
  pub laid : Laid 0 t
  pub sized : Each SaneEntry t
  pub apart : different (map (λ e. e.name) t) ≡ true
  pub few_names : length t ≤ 16
  pub few_cells : cells t ≤ 4096

-- ---- statements

-- what names and numbers of a statement are judged by: the table and the loop's variable, which stay as they are once statements come
abbrev pub scope : List Entry → List ℕ → State
scope t v = record { stage = 0; table = t; processors = 0; grouping = Iterations; variable = v; from = pos 0; count = 0; opens = []; inner = stop }

-- a line of a statement: its names and numbers are in order
pub record SaneLine (t : List Entry) (v : List ℕ) (l : Statement) : Type 0 where
  pub named : names (scope t v) (inside l) ≡ true
  pub bounded : all small (in_line (inside l)) ≡ true

abbrev pub SaneStmts : List Entry → List ℕ → Stmts → Type 0
SaneStmts t v stop = Unit {0}
SaneStmts t v (set k r e rest) = SaneLine t v (assign r e) × SaneStmts t v rest
SaneStmts t v (if_then k a rel b p rest) = SaneLine t v (when a rel b) × SaneStmts t v p × SaneStmts t v rest
SaneStmts t v (if_else k a rel b p q rest) = SaneLine t v (when a rel b) × SaneStmts t v p × SaneStmts t v q × SaneStmts t v rest

-- the first part of an open `if`, once `else` was met
abbrev pub SaneFirst : List Entry → List ℕ → Option Stmts → Type 0
SaneFirst t v none = Unit {0}
SaneFirst t v (some p) = SaneStmts t v p

pub record SaneOpen (t : List Entry) (v : List ℕ) (o : Open) : Type 0 where
  pub condition : SaneLine t v (when o.left o.relation o.right)
  pub before : SaneStmts t v o.before
  pub first : SaneFirst t v o.first

-- ---- all that is known

-- once `do` stood
pub record SaneLoop (s : State) : Type 0 where
  pub undeclared : known s.variable s.table ≡ false
  pub few_iterations : s.count ≤ 65535
  pub from_small : nat_abs s.from ≤ 2147483647
  pub values_fit : (i : ℕ) → i < s.count → SFits w32 (s.from +ℤ pos i)
  pub statements : SaneStmts s.table s.variable s.inner
  pub opens : Each (SaneOpen s.table s.variable) s.opens
  pub few_opens : length s.opens ≤ 8

-- by the lines that stood: 1 `integer`, 3 the directive, 4 `do`, 6 `end do`
pub record Sane (s : State) : Type 0 where
  pub table : SaneTable s.table
  pub some_cells : 1 ≤ s.stage → 0 < cells s.table
  pub some_processors : 3 ≤ s.stage → 1 ≤ s.processors
  pub few_processors : 3 ≤ s.stage → s.processors ≤ 8
  pub loop : 4 ≤ s.stage → SaneLoop s
  pub none_yet : s.stage < 4 → (s.opens ≡ []) × (s.inner ≡ stop)
  pub none_open : 6 ≤ s.stage → s.opens ≡ []
