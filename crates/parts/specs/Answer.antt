-- What the readers of expressions answer and emit, by the readers of `Rattle.syntax.specs.Reader` over what is left of a line's bytes.
use Rattle.std.specs.Prelude.{◌≡◌, cond, List, [], ◌∷◌, ℕ, ◌+◌, ◌-◌, ◌*◌, ◌≤◌, ◌<◌, max, length, drop, Option, Some, None, IfSome}
use Rattle.std.proofs.lemmas.List.Edits.{sets}
use Rattle.syntax.specs.Known.{Entry}
use Rattle.syntax.specs.Conditions.{Mention, rightly, small}
use Rattle.syntax.specs.Ranks.{level}
use Rattle.syntax.specs.Reader.{Parsed, broken, done}
use Rattle.code.specs.Instr.{Instr, words}
use Rattle.names.specs.Table.{variable_of, Tabled}
use Rattle.parts.specs.declared.Got.{Got}

-- ---- ranks: 0 in order, 1 over a limit (number 4), 2 a name that is wrong (number 3); a line has the highest of its mentions

abbrev pub rank_of : List Entry → List ℕ → Mention → ℕ
rank_of t v m = cond (rightly t v m) (cond (small m) 0 1) 2

unfoldable pub worst : List Entry → List ℕ → List Mention → ℕ
worst t v [] = 0
worst t v (m ∷ ms) = max (rank_of t v m) (worst t v ms)

-- ---- answers

-- r stopped at place n of the line and p of the code, with a rank of number q
pub record Stops (n p q : ℕ) (r : Option Got) : Type 0 where
  pub got : Got
  pub is : r ≡ Some got
  pub at : got.at ≡ n
  pub place : got.place ≡ p
  pub rank : level got.rank ≡ q

-- None where nothing is read; else the place after what is read, the place in the code after what is emitted, and the worst rank so far; the
-- instructions of what is read are written at the place in the code, two words each, and all else is as it was.
unfoldable pub Reads : {A : Type 0} → (A → List Instr) → (A → ℕ) → List ℕ → Parsed (List ℕ) A → ℕ → ℕ → List ℕ → List ℕ → Option Got → Type 0
Reads code rank s broken place most before after r = r ≡ None
Reads code rank s (done a u) place most before after r =
    (u ≡ drop (length s - length u) s)
    × Stops (length s - length u) (place + length (code a)) (max most (rank a)) r
    × (after ≡ sets before (2 * place) (words (code a)))

-- where a reader that began at `at` and `place` stopped: at lo or after it, and with no more instructions than bytes
pub record Lies (s : List ℕ) (at place lo : ℕ) (g : Got) : Type 0 where
  pub from : lo ≤ g.at
  pub inside : g.at ≤ length s
  pub room : g.place + at ≤ place + g.at

-- and where it stopped, if it read anything
abbrev pub Within : List ℕ → ℕ → ℕ → ℕ → Option Got → Type 0
Within s at place lo r = IfSome r (Lies s at place lo)

-- What a reader promises, for every table that the words T stand for: with enough fuel for the bytes that are left it answers as `read`
pub record Answers {A : Type 0} (read : ℕ → List ℕ → Parsed (List ℕ) A) (code : List Entry → List ℕ → A → List Instr) (said : A → List Mention) (k lo : ℕ)
    (T s : List ℕ) (at place most : ℕ) (before after : List ℕ) (r : Option Got) : Type 0 where
  pub reads : (t : List Entry) → Tabled T t → (f : ℕ) → 3 * (length s - at) + k < f
      → Reads (code t (variable_of T)) (λ a. worst t (variable_of T) (said a)) s (read f (drop at s)) place most before after r
  pub within : Within s at place lo r

-- What a reader asks: the place lies in the line; no more brackets are open than bytes were read; there is room for an instruction for each byte that is left
pub record Ready (s : List ℕ) (at depth place : ℕ) (code : List ℕ) : Type 0 where
  pub inside : at ≤ length s
  pub shallow : depth ≤ at
  pub short : length s ≤ 2048
  pub room : 2 * (place + (length s - at)) ≤ length code
