-- What the functions on lines promise: by a reader of the line, for every state that what is lent stands for.
use Rattle.std.specs.Prelude.{◌≡◌, true, List, ℕ, ◌+◌, ◌*◌, ◌≤◌, length, drop, Result}
use Rattle.syntax.specs.declared.Flaw.{Flaw}
use Rattle.syntax.specs.Known.{State, after}
use Rattle.syntax.specs.Conditions.{may_follow}
use Rattle.syntax.specs.Grammar.{Line}
use Rattle.syntax.specs.Reader.{Reader, done}
use Rattle.syntax.specs.Sane.{Sane}
use Rattle.lines.specs.declared.Progress.{Progress}
use Rattle.lines.specs.Progress.{Held, Represents, flaw_of, whole, Concludes}

-- a line of kind j, read by `read`, that is line k: what is held before it, what is held after it at some progress, and what it comes to
abbrev pub Takes : (ℕ → Reader (List ℕ) Line) → ℕ → List ℕ → ℕ → Held → (Progress → Held) → Result Progress Flaw → Type 0
Takes read j s k H H' r =
    (st : State) → Represents H st → Sane st → may_follow st.stage j ≡ true → (f : ℕ) → 3 * length s + 4 ≤ f
    → Concludes (flaw_of st) (λ l p. Represents (H' p) (after k l st)) (whole (read f) s) r

-- a line that is known by its first words, which end at a place
abbrev pub reads : Line → ℕ → ℕ → Reader (List ℕ) Line
reads l at f s = done l (drop at s)
