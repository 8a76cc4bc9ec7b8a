-- The directive.
use mathlib.Core.Path.{◌≡◌, refl, sym, ◌∙◌, ap, subst}
use mathlib.Core.Bool.{Bool, true, false, cond, not, ◌&&◌}
use mathlib.Core.List.{List, [], ◌∷◌, ◌++◌, map}
use mathlib.Core.Option.{Option, none, some}
use Prim.Native.Nat.{ℕ, ◌+◌, ◌-◌, ◌*◌, ◌≤◌, ◌<◌}
use native.Mathlib.Omega.{arith}
use borrow.Author.Tests.{eqb-true, le-leb, leb-true}
use lib.Dec.{leb, eqb}
use lib.ListN.{length, drop, replicate}
use lib.IntN.{ℤ, pos}
use Rattle.rules.specs.declared.Grouping.{Grouping}
use Rattle.std.specs.Prelude.{Option as Option', Some, None, Ok, Err, ok_or}
use Rattle.syntax.specs.declared.Flaw.{Flaw}
use Rattle.syntax.specs.declared.Flaw.TheVariants.{BrokenForm, WrongName, OverLimit}
use Rattle.syntax.specs.Ranks.{level}
use Rattle.syntax.specs.Bytes.{bytes, all, choose}
use Rattle.syntax.specs.Grammar.{number, Clause, Line, direct}
use Rattle.syntax.specs.Known.{Entry, classify, threads_in, processors_by, statics_in, grouping_by, State, after}
use Rattle.syntax.specs.Conditions.{digits, in_line, rightly, small, names, limits, fits, may_follow}
use Rattle.syntax.specs.Text.{initial, loaded}
use Rattle.syntax.specs.Reader.{Parsed, broken, done, Reader, next, kind, finish, expects, wants, read_clauses, read_opening, peek_in, skip_in}
use Rattle.syntax.proofs.Spelling.{both_true}
use Rattle.syntax.proofs.TestLaws.{both_hold}
use Rattle.syntax.proofs.TableLines.{classify_cells}
use Rattle.lexer.specs.Places.{NotRead, ReadTo, Any, passes}
use Rattle.lexer.proofs.InTurn.{to_saying, to_as, not_as, to_yield, not_then, not_past, past_not, past_to, not_past_word, past_word_not, past_word_to}
use Rattle.names.specs.Table.{Tabled, Unclaimed}
use Rattle.heading.specs.Lists.{order, Keeps}
use Rattle.clauses.specs.Directive.{twice_fit, few, Directing, Directive}
use Rattle.clauses.specs.declared.Directed.{Directed}
use Rattle.clauses.proofs.Readings.{names_fit, classes_are, unmarked}
use Rattle.clauses.proofs.Times.{counted_once, counted_most, counted_grouping, last_once}
use Rattle.heading.proofs.Lists.{good_order}
use Rattle.lines.specs.declared.Progress.{Progress}
use Rattle.lines.specs.Progress.{Held, held, before_do, Represents, flaw_of, flawed, Comes}
use Rattle.lines.specs.Lines.{Takes}
use Rattle.lines.proofs.Verdicts.{Settles, broken_form, none_of, takes_not, takes_broken, takes_flaw, takes_good, flaw_by, follows_most}
use Rattle.lines.proofs.DeclareLine.{headed, implied}

-- clauses as a line, after the words before them
abbrev directed : ℕ → Reader (List ℕ) Line
directed f w = next (read_clauses peek_in skip_in f w) (λ cs. done (direct cs))

abbrev after_parallel : ℕ → Reader (List ℕ) Line
after_parallel f v = next (wants peek_in skip_in "do" v) (λ _. directed f)

abbrev after_sign : ℕ → Reader (List ℕ) Line
after_sign f u = next (wants peek_in skip_in "parallel" u) (λ _. after_parallel f)

opening_by : (f : ℕ) (s : List ℕ) → read_opening peek_in skip_in f s ≡ next (expects peek_in skip_in "!$omp" s) (λ _. after_sign f)
opening_by f s = refl

-- ---- names and limits

digits_right : (t : List Entry) (v : List ℕ) (ps : List (List ℕ)) → all (rightly t v) (map digits ps) ≡ true
digits_right t v [] = refl
digits_right t v (p ∷ ps) = digits_right t v ps

few_small : (ps : List (List ℕ)) → all few ps ≡ true → all small (map digits ps) ≡ true
few_small [] h = refl
few_small (p ∷ ps) h =
    let (a, b) = both_true (few p) _ h in
    both_hold (le-leb (number p) 2147483647 (omega (arith, leb-true (number p) 8 (both_true (leb 1 (number p)) _ a).1))) (few_small ps b)

names_are : (T : List ℕ) (st : State) (cs : List Clause) → Tabled T st.table → Unclaimed T (length st.table)
    → names st (direct cs) ≡ twice_fit st.table cs
unfolding names in_line
names_are T st cs tab u = λ i. digits_right st.table st.variable (threads_in cs) i && sym (names_fit T st.table cs tab u) i

limits_are : (st : State) (cs : List Clause) → limits st (direct cs) ≡ all few (threads_in cs)
unfolding limits in_line
limits_are st cs = implied (all small (map digits (threads_in cs))) (all few (threads_in cs)) (few_small (threads_in cs))

loaded_classify : (cs : List Clause) (t : List Entry) → loaded (map (classify cs) t) ≡ loaded t
unfolding loaded
loaded_classify cs [] = refl
loaded_classify cs (e ∷ t) = λ i. kept e.given i ++ loaded_classify cs t i
  where
    kept : (o : Option (List ℤ)) → initial (classify cs e) o ≡ initial e o
    kept none = refl
    kept (some vs) = refl

-- ---- the line

-- its words do not stand
module _ (s : List ℕ) (k : ℕ) (H : Held) (H' : Progress → Held) (f : Flaw) (e : f ≡ BrokenForm) where
  unopened : ((n : ℕ) → NotRead s 0 (read_opening peek_in skip_in n)) → Takes (read_opening peek_in skip_in) 3 s k H H' (Err f)
  unopened g = takes_not (read_opening peek_in skip_in) 3 s k H H' f e (λ st rp sane fo n b. g n)

  pub direct_signless : NotRead s 0 (passes (bytes "!$omp")) → Takes (read_opening peek_in skip_in) 3 s k H H' (Err f)
  direct_signless g = unopened (λ n. not_as (opening_by n) (not_past "!$omp" (after_sign n) refl g))

  module _ (x : ℕ) (gx : ReadTo Any s 0 (passes (bytes "!$omp")) x) where
    pub direct_alone : NotRead s x (passes (bytes "parallel")) → Takes (read_opening peek_in skip_in) 3 s k H H' (Err f)
    direct_alone g = unopened (λ n. not_as (opening_by n) (past_not "!$omp" (after_sign n) gx refl (not_past_word "parallel" (after_parallel n) refl g)))

    module _ (y : ℕ) (gy : ReadTo Any s x (passes (bytes "parallel")) y) where
      pub direct_idle : NotRead s y (passes (bytes "do")) → Takes (read_opening peek_in skip_in) 3 s k H H' (Err f)
      direct_idle g = unopened (λ n. not_as (opening_by n) (past_not "!$omp" (after_sign n) gx refl
          (past_word_not "parallel" (after_parallel n) gy refl (not_past_word "do" (directed n) refl g))))

module _ (k : ℕ) (s : List ℕ) (H : Held) (T' : List ℕ) (x y a : ℕ) (gx : ReadTo Any s 0 (passes (bytes "!$omp")) x)
    (gy : ReadTo Any s x (passes (bytes "parallel")) y) (g : ReadTo Any s y (passes (bytes "do")) a) where
  early : (st : State) → may_follow st.stage 3 ≡ true → st.stage < 3
  early st fo = omega (arith, follows_most st.stage 3 fo, follows_not st.stage fo)
    where
      follows_not : (m : ℕ) → may_follow m 3 ≡ true → (m ≡ 3 → ⊥)
      follows_not m h e = let z : ◌≡◌ {A = ℕ} 0 1 = ap (λ (b : Bool). cond b 1 0) (sym (ap (λ (j : ℕ). may_follow j 3) e) ∙ h) in omega arith

  -- no clauses are read
  pub direct_clauseless : (st : State) → Represents H st → may_follow st.stage 3 ≡ true → Directive H.table s a T' None → (f : ℕ) → length s < f
      → NotRead s 0 (read_opening peek_in skip_in f)
  direct_clauseless st rp fo h f b = not_as (opening_by f) (past_not "!$omp" (after_sign f) gx refl
      (past_word_not "parallel" (after_parallel f) gy refl (past_word_not "do" (directed f) g refl (not_then (λ cs. done (direct cs))
      (h st.table (unmarked H.table st.table rp.table (rp.unclaimed (early st fo))) f (omega (arith, b)))))))

  -- whatever is held after it
  pub direct_missing : (H' : Progress → Held) (o : Option' Directed) (f : Flaw) → Err f ≡ ok_or o BrokenForm → Directive H.table s a T' o
      → Takes (read_opening peek_in skip_in) 3 s k H H' (Err f)
  direct_missing H' o f e h = takes_not (read_opening peek_in skip_in) 3 s k H H' f (broken_form o f e)
      (λ st rp sane fo n b. direct_clauseless st rp fo (none_of (Directive H.table s a T') o f e h) n b)

  module _ (r : Directed) (h : Directive H.table s a T' (Some r)) (kp : Keeps H.table T') (γ : Grouping) (eg : γ ≡ grouping_by r.statics) where
    abbrev progress : Progress
    progress = before_do 3 H.progress.cells r.processors γ

    module _ (st : State) (rp : Represents H st) (fo : may_follow st.stage 3 ≡ true) where
      abbrev t : List Entry
      t = st.table

      -- these clauses were found
      abbrev Found : List Clause → Type 0
      Found cs = Directing t T' r cs

      abbrev good : Line → Progress → Type 0
      good l p = Represents (held p T' H.initial H.code H.opens) (after k l st)

      reads : (f : ℕ) → length s < f → ReadTo Found s a (read_clauses peek_in skip_in f) r.next
      reads f b = h t (unmarked H.table t rp.table (rp.unclaimed (early st fo))) f (omega (arith, b))

      -- the whole line, of which P holds where it holds of the clauses
      all_read : (P : Line → Type 0) → ((cs : List Clause) → Found cs → P (direct cs)) → (f : ℕ) → length s < f
          → ReadTo P s 0 (read_opening peek_in skip_in f) r.next
      all_read P q f b = to_as (opening_by f) (past_to "!$omp" (after_sign f) gx refl (past_word_to "parallel" (after_parallel f) gy refl
          (past_word_to "do" (directed f) g refl (to_yield direct (reads f b) q))))

      -- by how often `num_threads` and `schedule(static)` stand
      abbrev rightly_so : Bool
      rightly_so = eqb r.threads 1 && leb r.statics 1

      once : (cs : List Clause) → Found cs → rightly_so ≡ fits st.opens (direct cs)
      once cs e =
          let a = ap (λ (m : ℕ). eqb m 1) e.threads_are ∙ counted_once (length (threads_in cs)) in
          let b = ap (λ (m : ℕ). leb m 1) e.statics_are ∙ counted_most (statics_in cs) in
          λ i. a i && b i

      module _ (z : rightly_so ≡ true) where
        fitting : (cs : List Clause) → Found cs → fits st.opens (direct cs) ≡ true
        fitting cs e = sym (once cs e) ∙ z

        rank_is : (cs : List Clause) → Found cs → flawed (level r.rank) ≡ flaw_of st (direct cs)
        rank_is cs e =
            ap flawed (e.rank_is ∙ (λ i. order (sym (names_are H.table st cs rp.table (rp.unclaimed (early st fo))) i) (sym (limits_are st cs) i)))
            ∙ flaw_by st (direct cs) (fitting cs e) (names st (direct cs)) (limits st (direct cs)) refl refl

        represents : (cs : List Clause) → Found cs → level r.rank ≡ 0 → good (direct cs) progress
        unfolding after
        represents cs e zero_rank =
            let (free_all, in_limits) = good_order (twice_fit t cs) (all few (threads_in cs)) (sym e.rank_is ∙ zero_rank) in
            let one = eqb-true (length (threads_in cs)) 1 (both_true (eqb (length (threads_in cs)) 1) _ (fitting cs e)).0 in
            headed H st rp (omega (arith, early st fo)) T' kp H.initial 3 H.progress.cells r.processors (processors_by (threads_in cs))
            γ (grouping_by (statics_in cs)) (map (classify cs) t)
            (subst (Tabled T') (classes_are H.table t cs rp.table (rp.unclaimed (early st fo)) free_all) e.table)
            (λ m. absurd (omega arith)) (rp.cells_so_far ∙ sym (classify_cells cs t))
            (rp.filled ∙ (λ i. sym (loaded_classify cs t) i ++ replicate (4096 - sym (classify_cells cs t) i) (pos 0)))
            (omega (arith, e.processors_are, last_once (threads_in cs) one, most (threads_in cs) in_limits))
            (eg ∙ ap grouping_by e.statics_are ∙ counted_grouping (statics_in cs))
          where
            most : (ps : List (List ℕ)) → all few ps ≡ true → processors_by ps ≤ 8
            most [] h = omega arith
            most (p ∷ ps) h = leb-true (number p) 8 (both_true (leb 1 (number p)) _ (both_true (few p) _ h).0).1

        -- the line is read
        direct_read : (f : ℕ) → length s < f → ReadTo (Settles (flaw_of st) good (level r.rank) progress) s 0 (read_opening peek_in skip_in f) r.next
        direct_read = all_read (Settles (flaw_of st) good (level r.rank) progress) (λ cs e. (rank_is cs e, represents cs e))

      -- the clauses stand too often, or not at all
      module _ (z : rightly_so ≡ false) where
        misused : (cs : List Clause) → Found cs → flaw_of st (direct cs) ≡ Some BrokenForm
        unfolding flaw_of
        misused cs e = ap (λ (c : Bool). choose (not c) (λ _. Some BrokenForm) (λ _. choose (not (names st (direct cs))) (λ _. Some WrongName)
            (λ _. choose (not (limits st (direct cs))) (λ _. Some OverLimit) (λ _. None)))) (sym (once cs e) ∙ z)

        direct_wrong : (f : ℕ) → length s < f → ReadTo (λ l. flaw_of st l ≡ Some BrokenForm) s 0 (read_opening peek_in skip_in f) r.next
        direct_wrong = all_read (λ l. flaw_of st l ≡ Some BrokenForm) misused

    abbrev leaves : Progress → Held
    leaves q = held q T' H.initial H.code H.opens

    -- the clauses that may stand so often do, or not
    pub direct_broken : eqb r.threads 1 && leb r.statics 1 ≡ false → Takes (read_opening peek_in skip_in) 3 s k H leaves (Err BrokenForm)
    direct_broken z = takes_broken (read_opening peek_in skip_in) 3 s k H leaves r.next (λ st rp sane fo n b. direct_wrong st rp fo z n b)

    module _ (z : eqb r.threads 1 && leb r.statics 1 ≡ true) where
      pub direct_told : (f : Flaw) → Comes s r.next (level r.rank) (Err f) → Takes (read_opening peek_in skip_in) 3 s k H leaves (Err f)
      direct_told = takes_flaw (read_opening peek_in skip_in) 3 s k H leaves r.next (level r.rank) progress
          (λ st rp sane fo n b. direct_read st rp fo z n b)

      pub direct_line : (q : Progress) (u : Unit {0}) → Comes s r.next (level r.rank) (Ok u) → q ≡ progress
          → Takes (read_opening peek_in skip_in) 3 s k H leaves (Ok q)
      direct_line = takes_good (read_opening peek_in skip_in) 3 s k H leaves r.next (level r.rank) progress
          (λ st rp sane fo n b. direct_read st rp fo z n b)
