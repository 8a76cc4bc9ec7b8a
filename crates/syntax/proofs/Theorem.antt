-- Demand 2, what is accepted. A text is accepted exactly when it follows the stated subset: `Follows` of specs/Follows.antt says so by the
-- grammar (`Grammar`), the names and limits (`Conditions`) and nothing else.
use mathlib.Core.Path.{◌≡◌, ◌∙◌, ap}
use mathlib.Core.Logic.{◌↔◌}
use mathlib.Core.List.{List, map}
use mathlib.Core.Option.{some}
use Prim.Native.Nat.{ℕ}
use Rattle.syntax.specs.Bytes.{Token}
use Rattle.syntax.specs.Grammar.{Statement, Line, show_line}
use Rattle.syntax.specs.Reader.{parse}
use Rattle.syntax.specs.Known.{Stmts, State, nothing}
use Rattle.syntax.specs.Text.{read, good}
use Rattle.syntax.specs.Follows.{Program, Follows, learnt}
use Rattle.syntax.specs.Nesting.{written_out, body_line, body_lines, Framed}
use Rattle.syntax.proofs.Sound.{parse_sound}
use Rattle.syntax.proofs.Complete.{parse_complete}
use Rattle.syntax.proofs.Accepted.{read_sound, read_complete, follows_once}
use Rattle.syntax.proofs.Body.{body_found}
use Rattle.syntax.proofs.Nested.{nested_written, nested_once}

-- A line: its tokens are read as a syntax exactly where they are the tokens of that syntax.
pub line_exactly : (ts : List Token) (l : Line) → (parse ts ≡ some l) ↔ (ts ≡ show_line l)
line_exactly ts l = (parse_sound ts l, λ e. ap parse e ∙ parse_complete l)

-- Sound: what is accepted follows the subset, and what is known of it is what its lines make known.
pub accepted_sound : (text : List ℕ) (s : State) → read text ≡ good s → (p : Program) × Follows text p × (learnt nothing p ≡ s)
accepted_sound = read_sound

-- Complete: what follows the subset is accepted.
pub accepted_complete : (text : List ℕ) (p : Program) → Follows text p → read text ≡ good (learnt nothing p)
accepted_complete = read_complete

-- Demand 2: "a text is accepted exactly when it follows the stated subset ..., names and limits included".
pub accepted_exactly : (text : List ℕ) → ((s : State) × (read text ≡ good s)) ↔ ((p : Program) × Follows text p)
accepted_exactly text =
    (λ a. let (p, f, e) = accepted_sound text a.0 a.1 in (p, f), λ b. (learnt nothing b.0, accepted_complete text b.0 b.1))

-- Unambiguous: a text follows the subset in one way.
pub accepted_once : (text : List ℕ) (p q : Program) → Follows text p → Follows text q → p ≡ q
accepted_once = follows_once

-- Nested: the statements in one another that an accepted text means, written out, are its lines of statements;
pub accepted_nested : (text : List ℕ) (p : Program) → Follows text p → written_out (learnt nothing p).inner ≡ body_lines p
accepted_nested = nested_written

-- no other statements are written out so;
pub nested_one_way : (a b : Stmts) → written_out a ≡ written_out b → a ≡ b
nested_one_way = nested_once

-- and those lines are the ones between `do` and `end do`.
pub accepted_body : (text : List ℕ) (p : Program) → Follows text p → (b : List (ℕ × Statement)) × Framed p b × (body_lines p ≡ map body_line b)
accepted_body = body_found
