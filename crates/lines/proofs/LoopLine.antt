-- The loop's line.
use mathlib.Core.Path.{◌≡◌, refl, sym, ◌∙◌, ap, subst}
use mathlib.Core.Bool.{Bool, not, ◌&&◌, and-true}
use mathlib.Core.List.{List, []}
use Prim.Native.Nat.{ℕ}
use native.Mathlib.Omega.{arith}
use lib.Dec.{leb}
use lib.ListN.{length, drop}
use lib.IntN.{ℤ}
use Rattle.std.specs.Prelude.{Option, Some, None, Ok, Err, ok_or}
use Rattle.syntax.specs.declared.Flaw.{Flaw}
use Rattle.syntax.specs.declared.Flaw.TheVariants.{BrokenForm}
use Rattle.syntax.specs.Ranks.{level}
use Rattle.syntax.specs.Bytes.{bytes}
use Rattle.syntax.specs.Grammar.{number, Line, loop}
use Rattle.syntax.specs.Known.{State, known, after}
use Rattle.syntax.specs.Conditions.{in_line, names, limits}
use Rattle.syntax.specs.Reader.{done, Reader, next, wants, read_bounds, read_loop, peek_in, skip_in}
use Rattle.syntax.proofs.ReaderLaws.{next_assoc, next_same}
use Rattle.code.specs.Instr.{words}
use Rattle.code.proofs.Emitted.{emits_loop}
use Rattle.lexer.specs.Places.{NotRead, ReadTo, Any, passes}
use Rattle.lexer.proofs.InTurn.{to_as, not_as, to_yield, not_then, not_past_word, past_word_not, past_word_to}
use Rattle.heading.specs.Lists.{order}
use Rattle.bounds.specs.DoLine.{Ends, read_ends, count_of, Looping, Do}
use Rattle.bounds.specs.declared.Looped.{Looped}
use Rattle.lines.specs.declared.Progress.{Progress}
use Rattle.lines.specs.Progress.{Held, held, Opened, Represents, flaw_of, flawed, Comes}
use Rattle.lines.specs.Lines.{Takes}
use Rattle.lines.proofs.Verdicts.{Settles, broken_form, none_of, takes_not, takes_flaw, takes_good, flaw_by}

abbrev mk : Ends → Line
mk e = loop e.name e.lead e.first e.last_lead e.last

-- a name and bounds as a line
abbrev bounded : Reader (List ℕ) Line
bounded u = next (read_ends u) (λ e. done (mk e))

loop_by : (f : ℕ) (s : List ℕ) → read_loop peek_in skip_in f s ≡ next (wants peek_in skip_in "do" s) (λ _. bounded)
unfolding read_loop
loop_by f s = next_same (wants peek_in skip_in "do" s) _ _ (λ _ u. sym (go u))
  where
    go : (u : List ℕ) → bounded u ≡ read_bounds peek_in skip_in loop u
    go u = simp next_assoc

-- ---- names and limits

names_are : (st : State) (e : Ends) → names st (mk e) ≡ not (known e.name st.table)
unfolding names in_line
names_are st e = refl

limits_are : (st : State) (e : Ends) → limits st (mk e) ≡ (leb (number e.first) 2147483647 && leb (number e.last) 2147483647) && leb (count_of e) 65535
unfolding limits in_line
limits_are st e = ap (λ (b : Bool). (leb (number e.first) 2147483647 && b) && leb (count_of e) 65535) (and-true (leb (number e.last) 2147483647))

-- ---- the line

-- it does not begin so
pub loop_wordless : (s : List ℕ) (k : ℕ) (H : Held) (H' : Progress → Held) (f : Flaw) → f ≡ BrokenForm → NotRead s 0 (passes (bytes "do"))
    → Takes (read_loop peek_in skip_in) 4 s k H H' (Err f)
loop_wordless s k H H' f e g = takes_not (read_loop peek_in skip_in) 4 s k H H' f e
    (λ st rp sane fo n b. not_as (loop_by n) (not_past_word "do" bounded refl g))

module _ (k : ℕ) (s : List ℕ) (H : Held) (T' : List ℕ) (a : ℕ) (g : ReadTo Any s 0 (passes (bytes "do")) a) where
  -- no bounds are read
  pub loop_boundless : (st : State) → Represents H st → Do H.table s a T' None → (f : ℕ) → NotRead s 0 (read_loop peek_in skip_in f)
  loop_boundless st rp h f = not_as (loop_by f) (past_word_not "do" bounded g refl (not_then (λ e. done (mk e)) (h st.table rp.table)))

  -- whatever is held after it
  pub loop_missing : (H' : Progress → Held) (o : Option Looped) (f : Flaw) → Err f ≡ ok_or o BrokenForm → Do H.table s a T' o
      → Takes (read_loop peek_in skip_in) 4 s k H H' (Err f)
  loop_missing H' o f e h = takes_not (read_loop peek_in skip_in) 4 s k H H' f (broken_form o f e)
      (λ st rp sane fo n b. loop_boundless st rp (none_of (Do H.table s a T') o f e h) n)

  module _ (r : Looped) (h : Do H.table s a T' (Some r)) (m : ℤ) (em : m ≡ r.from) where
    abbrev progress : Progress
    progress = record {
      stage = 4;
      cells = H.progress.cells;
      processors = H.progress.processors;
      grouping = H.progress.grouping;
      from = m;
      count = r.count;
      place = 0;
      depth = 0;
    }

    module _ (st : State) (rp : Represents H st) where
      abbrev good : Line → Progress → Type 0
      good l p = Represents (held p T' H.initial H.code H.opens) (after k l st)

      rank_is : (e : Ends) → Looping st.table T' r e → flawed (level r.rank) ≡ flaw_of st (mk e)
      rank_is e l =
          ap flawed (l.rank ∙ (λ i. order (sym (names_are st e) i) (sym (limits_are st e) i)))
          ∙ flaw_by st (mk e) refl (names st (mk e)) (limits st (mk e)) refl refl

      represents : (e : Ends) → Looping st.table T' r e → level r.rank ≡ 0 → good (mk e) progress
      unfolding after words
      represents e l z =
          let q = emits_loop k st e.name e.lead e.first e.last_lead e.last in
          record {
            stage = refl;
            table = l.table;
            variable = l.variable;
            short = l.short;
            unclaimed = λ j. absurd (omega arith);
            nameless = λ j. absurd (omega arith);
            cells_so_far = rp.cells_so_far;
            filled = rp.filled;
            processors = rp.processors;
            grouping = rp.grouping;
            from = em ∙ l.from z;
            count = l.count z;
            few = l.few z;
            place = sym (ap length q.code);
            code = sym (ap words q.code);
            opened = subst (Opened H.opens 0 []) (sym q.places) tt;
            shallow = omega arith;
            stack = rp.stack;
          }

      -- the line is read
      pub loop_read : (f : ℕ) → ReadTo (Settles (flaw_of st) good (level r.rank) progress) s 0 (read_loop peek_in skip_in f) r.next
      loop_read f = to_as (loop_by f) (past_word_to "do" bounded g refl
          (to_yield mk (h st.table rp.table) (λ e l. (rank_is e l, represents e l))))

    abbrev leaves : Progress → Held
    leaves q = held q T' H.initial H.code H.opens

    pub loop_told : (f : Flaw) → Comes s r.next (level r.rank) (Err f) → Takes (read_loop peek_in skip_in) 4 s k H leaves (Err f)
    loop_told = takes_flaw (read_loop peek_in skip_in) 4 s k H leaves r.next (level r.rank) progress (λ st rp sane fo n b. loop_read st rp n)

    pub loop_line : (q : Progress) (u : Unit {0}) → Comes s r.next (level r.rank) (Ok u) → q ≡ progress
        → Takes (read_loop peek_in skip_in) 4 s k H leaves (Ok q)
    loop_line = takes_good (read_loop peek_in skip_in) 4 s k H leaves r.next (level r.rank) progress (λ st rp sane fo n b. loop_read st rp n)
