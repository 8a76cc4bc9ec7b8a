-- What is written: the words up to the place after a statement's code.
use mathlib.Core.Path.{◌≡◌, ◌∙◌, ap, subst}
use mathlib.Core.List.{List, ◌++◌}
use Prim.Native.Nat.{ℕ, ◌+◌, ◌*◌, ◌≤◌}
use native.Mathlib.Omega.{arith}
use lib.ListN.{length, take, drop, length-append}
use lib.Seq.{sets, sets-eq, take_at, length-take-le}
use Rattle.std.specs.Prelude.{Option, Some, None}
use Rattle.syntax.specs.Grammar.{Line}
use Rattle.syntax.specs.Known.{Entry}
use Rattle.syntax.specs.Reader.{Parsed, broken, done}
use Rattle.code.specs.Instr.{words}
use Rattle.parts.specs.Answer.{Reads}
use Rattle.parts.specs.declared.Got.{Got}
use Rattle.code.proofs.Words.{words_length}
use Rattle.statements.specs.Statement.{code_line, rank_line, Writes, Bounded}

pub take_sets : (b : List ℕ) (i : ℕ) (ws : List ℕ) → i + length ws ≤ length b → take (i + length ws) (sets b i ws) ≡ take i b ++ ws
take_sets b i ws h =
    ap (take (i + length ws)) (sets-eq ws b i h)
    ∙ take_at (take i b ++ ws) (drop (i + length ws) b) (i + length ws) (omega (arith, length-append (take i b) ws, length-take-le i b (omega arith)))

pub bounded_some : (s : List ℕ) (place : ℕ) (g : Got) → Bounded s place (Some g) → (g.at ≤ length s) × (g.place ≤ place + 2 * length s)
unfolding Bounded
bounded_some s place g h = h

pub bounded_none : (s : List ℕ) (place : ℕ) → Bounded s place None
unfolding Bounded
bounded_none s place = tt

-- m is the code when the statement's own code is written
pub reads_writes : (t : List Entry) (v : List ℕ) (k : ℕ) (s : List ℕ) (P : Parsed (List ℕ) Line) (place : ℕ) (b m a : List ℕ) (r : Option Got)
    → 2 * (place + 2 * length s) ≤ length m → take (2 * place) m ≡ take (2 * place) b
    → Bounded s place r → Reads (code_line t v k) (rank_line t v) s P place 0 m a r → Writes t v k s P place b a r
unfolding Writes Reads
reads_writes t v k s broken place b m a r room same w h = h
reads_writes t v k s (done l u) place b m a r room same w h =
    let is = code_line t v k l in
    let st = h.1 in
    let q = bounded_some s place st.got (subst (Bounded s place) st.is w) in
    let e : 2 * (place + length is) ≡ 2 * place + length (words is) = omega (arith, words_length is) in (
      h.0,
      record { got = st.got; is = st.is; at = st.at; place = st.place; rank = omega (arith, st.rank) },
      (λ i. take (e i) (h.2 i)) ∙ take_sets m (2 * place) (words is) (omega (arith, q.1, st.place)) ∙ ap (λ (x : List ℕ). x ++ words is) same,
    )
