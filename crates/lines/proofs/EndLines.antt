-- `end do` and the closing directive.
use mathlib.Core.Path.{◌≡◌, refl, sym, ◌∙◌, ap, subst}
use mathlib.Core.Bool.{Bool, true, false}
use mathlib.Core.List.{List}
use Prim.Native.Nat.{ℕ, ◌≤◌}
use native.Mathlib.Omega.{arith}
use lib.ListN.{length}
use Rattle.std.specs.Prelude.{Some, None, Ok, Err}
use Rattle.syntax.specs.declared.Flaw.{Flaw}
use Rattle.syntax.specs.declared.Flaw.TheVariants.{BrokenForm}
use Rattle.syntax.specs.Bytes.{bytes}
use Rattle.syntax.specs.Grammar.{Line, end_do, close}
use Rattle.syntax.specs.Known.{State, after}
use Rattle.syntax.specs.Conditions.{in_line, names, limits}
use Rattle.syntax.specs.Reader.{done, Reader, next, expects, wants, read_closing, peek_in, skip_in}
use Rattle.code.specs.Instr.{words}
use Rattle.code.proofs.Emitted.{emits_end_do, emits_close}
use Rattle.lexer.specs.Places.{NotRead, ReadTo, Any, passes}
use Rattle.lexer.proofs.InTurn.{to_as, not_as, to_yield, to_done, not_past, past_not, past_to, not_past_word, past_word_not, past_word_to}
use Rattle.lines.specs.declared.Progress.{Progress}
use Rattle.lines.specs.Progress.{Held, moved, Opened, Represents, flaw_of, flawed, Comes}
use Rattle.lines.specs.Lines.{Takes, reads}
use Rattle.lines.proofs.Verdicts.{Settles, concludes_not, concludes_told, concludes_good}
use Rattle.lines.proofs.AfterDo.{further, carried, flaw_fits, unfit, more, fit}
use Rattle.lines.proofs.InnermostJump.{no_depth, some_depth}

-- how far a text was read by a line that leaves the code and the open jumps as they are
abbrev still : Held → ℕ → Progress
still H j = moved H.progress j H.progress.place H.progress.depth

abbrev as_it_was : Held → Progress → Held
as_it_was H q = further H q H.code H.opens

-- ---- end do

module _ (k : ℕ) (s : List ℕ) (at : ℕ) (b : at ≤ length s) (H : Held) (j : Bool) where
  end_do_good : (st : State) → Represents H st → Represents (as_it_was H (still H 6)) (after k (end_do j) st)
  unfolding after
  end_do_good st rp =
      let e = emits_end_do k st j in
      carried H H.code H.opens st rp 6 H.progress.place H.progress.depth st.opens st.inner (omega arith)
      (rp.place ∙ ap length (sym e.code)) (rp.code ∙ ap words (sym e.code))
      (subst (Opened H.opens H.progress.depth st.opens) (sym e.places) rp.opened) rp.shallow rp.stack

  none_wrong : H.progress.depth ≡ 0 → (st : State) → Represents H st → flaw_of st (end_do j) ≡ None
  unfolding names limits in_line
  none_wrong z st rp = flaw_fits st (end_do j) true (no_depth H st rp z) refl refl

  pub end_do_line : (q : Progress) (u : Unit {0}) → Comes s at 0 (Ok u) → q ≡ still H 6 → H.progress.depth ≡ 0
      → Takes (reads (end_do j) at) 6 s k H (as_it_was H) (Ok q)
  end_do_line q u h e z = fit k s at b H (end_do j) 6 (still H 6) q H.code H.opens u h e (none_wrong z) end_do_good

  pub end_do_more : (f : Flaw) → Comes s at 0 (Err f) → H.progress.depth ≡ 0 → Takes (reads (end_do j) at) 6 s k H (as_it_was H) (Err f)
  end_do_more f h z = more k s at b H (end_do j) 6 (as_it_was H) f h (none_wrong z)

  pub end_do_open : (H.progress.depth ≡ 0 → ⊥) → Takes (reads (end_do j) at) 6 s k H (as_it_was H) (Err BrokenForm)
  unfolding names limits in_line
  end_do_open nz = unfit k s at b H (end_do j) 6 (as_it_was H)
      (λ st rp. flaw_fits st (end_do j) false (some_depth H st rp nz) refl refl)

-- ---- the closing directive

-- its words
abbrev after_do : Reader (List ℕ) Line
after_do = done close

abbrev after_parallel : Reader (List ℕ) Line
after_parallel u = next (wants peek_in skip_in "do" u) (λ _. after_do)

abbrev after_end : Reader (List ℕ) Line
after_end u = next (wants peek_in skip_in "parallel" u) (λ _. after_parallel)

abbrev after_sign : Reader (List ℕ) Line
after_sign u = next (wants peek_in skip_in "end" u) (λ _. after_end)

abbrev closing : Reader (List ℕ) Line
closing u = next (expects peek_in skip_in "!$omp" u) (λ _. after_sign)

closing_by : (s : List ℕ) → read_closing peek_in skip_in s ≡ closing s
closing_by s = refl

module _ (k : ℕ) (s : List ℕ) (H : Held) where
  -- nothing is read
  unclosed : (f : Flaw) → f ≡ BrokenForm → NotRead s 0 closing → Takes (λ _. read_closing peek_in skip_in) 7 s k H (as_it_was H) (Err f)
  unclosed f e g st rp sane fo n b =
      concludes_not (flaw_of st) (λ l p. Represents (as_it_was H p) (after k l st)) (read_closing peek_in skip_in) s f e (not_as closing_by g)

  pub close_signless : (f : Flaw) → f ≡ BrokenForm → NotRead s 0 (passes (bytes "!$omp")) → Takes (λ _. read_closing peek_in skip_in) 7 s k H (as_it_was H) (Err f)
  close_signless f e g = unclosed f e (not_past "!$omp" after_sign refl g)

  module _ (w : ℕ) (gw : ReadTo Any s 0 (passes (bytes "!$omp")) w) where
    pub close_endless : (f : Flaw) → f ≡ BrokenForm → NotRead s w (passes (bytes "end")) → Takes (λ _. read_closing peek_in skip_in) 7 s k H (as_it_was H) (Err f)
    close_endless f e g = unclosed f e (past_not "!$omp" after_sign gw refl (not_past_word "end" after_end refl g))

    module _ (x : ℕ) (gx : ReadTo Any s w (passes (bytes "end")) x) where
      pub close_alone : (f : Flaw) → f ≡ BrokenForm → NotRead s x (passes (bytes "parallel")) → Takes (λ _. read_closing peek_in skip_in) 7 s k H (as_it_was H) (Err f)
      close_alone f e g = unclosed f e (past_not "!$omp" after_sign gw refl (past_word_not "end" after_end gx refl
          (not_past_word "parallel" after_parallel refl g)))

      module _ (y : ℕ) (gy : ReadTo Any s x (passes (bytes "parallel")) y) where
        pub close_idle : (f : Flaw) → f ≡ BrokenForm → NotRead s y (passes (bytes "do")) → Takes (λ _. read_closing peek_in skip_in) 7 s k H (as_it_was H) (Err f)
        close_idle f e g = unclosed f e (past_not "!$omp" after_sign gw refl (past_word_not "end" after_end gx refl
            (past_word_not "parallel" after_parallel gy refl (not_past_word "do" after_do refl g))))

        module _ (z : ℕ) (gz : ReadTo Any s y (passes (bytes "do")) z) where
          closed : (P : Line → Type 0) → P close → ReadTo P s 0 (read_closing peek_in skip_in) z
          closed P h = to_as closing_by (past_to "!$omp" after_sign gw refl (past_word_to "end" after_end gx refl
              (past_word_to "parallel" after_parallel gy refl (past_word_to "do" after_do gz refl (to_done close gz.within h)))))

          no_flaw : (st : State) → flaw_of st close ≡ None
          unfolding names limits in_line
          no_flaw st = flaw_fits st close true refl refl refl

          pub close_more : (f : Flaw) → Comes s z 0 (Err f) → Takes (λ _. read_closing peek_in skip_in) 7 s k H (as_it_was H) (Err f)
          close_more f e st rp sane fo n b =
              concludes_told (flaw_of st) (λ l p. Represents (as_it_was H p) (after k l st)) (read_closing peek_in skip_in) s z 0 f e
              (closed (λ l. flawed 0 ≡ flaw_of st l) (sym (no_flaw st)))

          close_good : (st : State) → Represents H st → Represents (as_it_was H (still H 7)) (after k close st)
          unfolding after
          close_good st rp =
              let e = emits_close k st in
              carried H H.code H.opens st rp 7 H.progress.place H.progress.depth st.opens st.inner (omega arith)
              (rp.place ∙ ap length (sym e.code)) (rp.code ∙ ap words (sym e.code))
              (subst (Opened H.opens H.progress.depth st.opens) (sym e.places) rp.opened) rp.shallow rp.stack

          pub close_line : (q : Progress) (u : Unit {0}) → Comes s z 0 (Ok u) → q ≡ still H 7
              → Takes (λ _. read_closing peek_in skip_in) 7 s k H (as_it_was H) (Ok q)
          close_line q u e i = subst (λ (p : Progress). Takes (λ _. read_closing peek_in skip_in) 7 s k H (as_it_was H) (Ok p)) (sym i)
              (λ st rp sane fo n b.
              let good : Line → Progress → Type 0 = λ l p. Represents (as_it_was H p) (after k l st) in
              concludes_good (flaw_of st) good (read_closing peek_in skip_in) s z 0 (still H 7) u e
              (closed (Settles (flaw_of st) good 0 (still H 7)) (sym (no_flaw st), λ _. close_good st rp)))
