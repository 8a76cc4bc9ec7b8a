-- An integer line.
use mathlib.Core.Path.{◌≡◌, refl, sym, ◌∙◌, ap, subst}
use mathlib.Core.Bool.{Bool, true, false, ◌&&◌}
use mathlib.Core.List.{List, [], ◌∷◌, ◌++◌, append_assoc}
use Prim.Native.Nat.{ℕ, ◌+◌, ◌-◌, ◌*◌, ◌≤◌, ◌<◌}
use native.Mathlib.Omega.{arith}
use borrow.Author.Tests.{le-leb, leb-true}
use lib.Dec.{leb}
use lib.ListN.{length, drop, replicate, length-append, replicate-append-replicate}
use lib.IntN.{ℤ, pos}
use Rattle.rules.specs.declared.Grouping.{Grouping}
use Rattle.rules.specs.declared.Grouping.TheVariants.{Iterations}
use Rattle.std.specs.Prelude.{Option, Some, None, Ok, Err, ok_or}
use Rattle.syntax.specs.declared.Flaw.{Flaw}
use Rattle.syntax.specs.declared.Flaw.TheVariants.{BrokenForm}
use Rattle.syntax.specs.Bytes.{bytes, all, between}
use Rattle.syntax.specs.Grammar.{number, Declared, one, array, grid, Line, declare, close}
use Rattle.syntax.specs.Known.{Entry, declared_size, total, entries, cells, State, heading, after}
use Rattle.syntax.specs.Conditions.{concat, in_declared, in_line, rightly, small, names, limits, may_follow, singly}
use Rattle.syntax.specs.Text.{initial, loaded}
use Rattle.syntax.specs.Reader.{done, Reader, next, wants, read_more, read_declared, read_declare, peek_in, skip_in}
use Rattle.syntax.proofs.Spelling.{both_true}
use Rattle.syntax.proofs.TestLaws.{both_hold}
use Rattle.syntax.proofs.Table.{extents_few}
use Rattle.syntax.proofs.TableLines.{total_append, entries_cells, entries_length}
use Rattle.syntax.proofs.ReaderLaws.{next_assoc, next_same}
use Rattle.code.specs.Instr.{words}
use Rattle.code.specs.Compile.{code_of, code_lines, code_opens, code_stmts, places, places_of}
use Rattle.lexer.specs.Places.{NotRead, ReadTo, Any, passes}
use Rattle.lexer.proofs.InTurn.{goes_to, to_goes, to_as, not_as, to_yield, not_then, not_past_word, past_word_not, past_word_to}
use Rattle.names.specs.Table.{Tabled, Unclaimed}
use Rattle.syntax.specs.declared.Rank.TheVariants.{InOrder}
use Rattle.syntax.specs.Ranks.{level}
use Rattle.heading.specs.Lists.{read_some, order, Keeps}
use Rattle.declarations.specs.Integer.{apart, fit, Enlists, Integers}
use Rattle.declarations.specs.declared.Listed.{Listed}
use Rattle.heading.proofs.Lists.{Nonempty, some_nonempty}
use Rattle.lines.specs.declared.Progress.{Progress}
use Rattle.lines.specs.Progress.{Held, held, before_do, Opened, Represents, flaw_of, flawed, Comes}
use Rattle.lines.specs.Lines.{Takes}
use Rattle.lines.proofs.Verdicts.{Settles, broken_form, none_of, takes_not, takes_flaw, takes_good, flaw_by, follows_most}

-- the syntax of declared names
abbrev mk : List Declared → Line
mk [] = close
mk (d ∷ ds) = declare d ds

-- declared names as a line
abbrev listed : ℕ → Reader (List ℕ) Line
listed f u = next (read_some f (read_declared peek_in skip_in) u) (λ ds. done (mk ds))

declare_by : (f : ℕ) (s : List ℕ) → read_declare peek_in skip_in f s ≡ next (wants peek_in skip_in "integer" s) (λ _. listed f)
unfolding read_declare
declare_by f s = next_same (wants peek_in skip_in "integer" s) _ _ (λ _ u. sym (go u))
  where
    go : (u : List ℕ) → listed f u
        ≡ next (read_declared peek_in skip_in u) (λ d v. next (read_more peek_in skip_in f (read_declared peek_in skip_in) v) (λ ds. done (declare d ds)))
    go u = simp next_assoc

-- some names are declared
module _ (P : List Declared → Type 0) (f : ℕ) {s : List ℕ} {at m : ℕ} (g : ReadTo P s at (read_some f (read_declared peek_in skip_in)) m) where
  pub some_read : ReadTo (λ ds. Nonempty ds × P ds) s at (read_some f (read_declared peek_in skip_in)) m
  some_read = let w = goes_to g in to_goes (record {
    lands = λ b. some_nonempty (read_declared peek_in skip_in) s P f (drop at s) m (w.lands b);
    from = w.from;
    lost = w.lost;
  }) g.within

-- ---- names and limits

digits_right : (t : List Entry) (v : List ℕ) (ds : List Declared) → all (rightly t v) (concat in_declared ds) ≡ true
digits_right t v [] = refl
digits_right t v (one x ∷ ds) = digits_right t v ds
digits_right t v (array x d ∷ ds) = digits_right t v ds
digits_right t v (grid x m n ∷ ds) = digits_right t v ds

names_are : (st : State) (d : Declared) (ds : List Declared) → names st (declare d ds) ≡ apart st.table (d ∷ ds)
unfolding names in_line
names_are st d ds = ap (λ (b : Bool). b && singly st (declare d ds)) (digits_right st.table st.variable (d ∷ ds))

sizes_small : (ds : List Declared) → all (λ d. between 1 4096 (declared_size d)) ds ≡ true → all small (concat in_declared ds) ≡ true
sizes_small [] h = refl
sizes_small (one x ∷ ds) h = sizes_small ds h
sizes_small (array x d ∷ ds) h =
    let (p, q) = both_true (between 1 4096 (number d)) _ h in
    both_hold (le-leb (number d) 2147483647 (omega (arith, leb-true (number d) 4096 (both_true (leb 1 (number d)) _ p).1))) (sizes_small ds q)
sizes_small (grid x m n ∷ ds) h =
    let z = number m * number n in
    let (p, q) = both_true (between 1 4096 z) _ h in
    let (a, b) = both_true (leb 1 z) _ p in
    let most = leb-true z 4096 b in
    let (k, l) = extents_few (number m ∷ number n ∷ []) (leb-true 1 z a) in
    both_hold (le-leb (number m) 2147483647 (omega arith)) (both_hold (le-leb (number n) 2147483647 (omega arith)) (sizes_small ds q))

-- what a test implies adds nothing to it
pub implied : (a b : Bool) → (b ≡ true → a ≡ true) → a && b ≡ b
implied a true h = ap (λ (x : Bool). x && true) (h refl)
implied true false h = refl
implied false false h = refl

limits_are : (st : State) (d : Declared) (ds : List Declared) → limits st (declare d ds) ≡ fit st.table (cells st.table) (d ∷ ds)
unfolding limits in_line
limits_are st d ds = implied (all small (concat in_declared (d ∷ ds))) (fit st.table (cells st.table) (d ∷ ds))
    (λ h. sizes_small (d ∷ ds)
    (both_true (all (λ x. between 1 4096 (declared_size x)) (d ∷ ds)) _ (both_true (leb (length st.table + length (d ∷ ds)) 16) _ h).1).0)

-- ---- what it adds

pub loaded_append : (t u : List Entry) → loaded (t ++ u) ≡ loaded t ++ loaded u
unfolding loaded
loaded_append [] u = refl
loaded_append (e ∷ t) u = ap (λ (l : List ℤ). initial e e.given ++ l) (loaded_append t u) ∙ sym (append_assoc (initial e e.given) (loaded t) (loaded u))

loaded_entries : (c : ℕ) (ds : List Declared) → loaded (entries c ds) ≡ replicate (total declared_size ds) (pos 0)
unfolding loaded
loaded_entries c [] = refl
loaded_entries c (d ∷ ds) =
    ap (λ (l : List ℤ). replicate (declared_size d) (pos 0) ++ l) (loaded_entries (c + declared_size d) ds)
    ∙ replicate-append-replicate (declared_size d) (total declared_size ds) (pos 0)

cells_more : (t : List Entry) (ds : List Declared) → cells (t ++ entries (cells t) ds) ≡ cells t + total declared_size ds
cells_more t ds = total_append (λ e. e.size) t (entries (cells t) ds) ∙ ap (λ (k : ℕ). cells t + k) (entries_cells (cells t) ds)

-- the cells without data are 0, so new ones change nothing
filled_more : (I : List ℤ) (t : List Entry) (ds : List Declared) → cells t + total declared_size ds ≤ 4096 → I ≡ loaded t ++ replicate (4096 - cells t) (pos 0)
    → I ≡ loaded (t ++ entries (cells t) ds) ++ replicate (4096 - cells (t ++ entries (cells t) ds)) (pos 0)
filled_more I t ds b h =
    let n = total declared_size ds in
    let zeros = replicate (4096 - (cells t + n)) (pos 0) in
    let e : 4096 - cells t ≡ n + (4096 - (cells t + n)) = omega arith in
    let c = cells_more t ds in
    h ∙ ap (λ (k : ℕ). loaded t ++ replicate k (pos 0)) e
    ∙ ap (λ (l : List ℤ). loaded t ++ l) (sym (replicate-append-replicate n (4096 - (cells t + n)) (pos 0)))
    ∙ sym (append_assoc (loaded t) (replicate n (pos 0)) zeros)
    ∙ (λ i. sym (loaded_append t (entries (cells t) ds) ∙ ap (λ (l : List ℤ). loaded t ++ l) (loaded_entries (cells t) ds)) i
    ++ replicate (4096 - sym c i) (pos 0))

-- a line before the statements leaves no code and no open ifs
pub heading_code : (j : ℕ) (t : List Entry) (p : ℕ) (γ : Grouping) → (code_of (heading j t p γ) ≡ []) × (places_of (heading j t p γ) ≡ [])
unfolding code_of code_lines code_opens code_stmts places
heading_code j t p γ = (refl, refl)

-- what a line before `do` leaves
pub headed : (H : Held) (st : State) → Represents H st → st.stage < 4 → (T' : List ℕ) → Keeps H.table T' → (I' : List ℤ) (j c m p : ℕ) (δ γ : Grouping)
    (t : List Entry)
    → Tabled T' t → (j < 3 → Unclaimed T' (length t)) → c ≡ cells t → I' ≡ loaded t ++ replicate (4096 - cells t) (pos 0) → m ≡ p
    → δ ≡ γ → Represents (held (before_do j c m δ) T' I' H.code H.opens) (heading j t p γ)
unfolding words
headed H st rp early T' kp I' j c m p δ γ t table unclaimed cells_are filled processors grouping =
    let (v, w) = kp rp.short in
    let (x, y) = heading_code j t p γ in
    record {
      stage = refl;
      table = table;
      variable = w ∙ rp.variable ∙ rp.nameless early;
      short = v;
      unclaimed = unclaimed;
      nameless = λ _. refl;
      cells_so_far = cells_are;
      filled = filled;
      processors = processors;
      grouping = grouping;
      from = refl;
      count = refl;
      few = omega arith;
      place = sym (ap length x);
      code = sym (ap words x);
      opened = subst (Opened H.opens 0 []) (sym y) tt;
      shallow = omega arith;
      stack = rp.stack;
    }

-- ---- the line

-- it does not begin so
pub declare_wordless : (s : List ℕ) (k : ℕ) (H : Held) (H' : Progress → Held) (f : Flaw) → f ≡ BrokenForm → NotRead s 0 (passes (bytes "integer"))
    → Takes (read_declare peek_in skip_in) 1 s k H H' (Err f)
declare_wordless s k H H' f e g = takes_not (read_declare peek_in skip_in) 1 s k H H' f e
    (λ st rp sane fo n b. not_as (declare_by n) (not_past_word "integer" (listed n) refl g))

module _ (k : ℕ) (s : List ℕ) (H : Held) (T' : List ℕ) (a : ℕ) (g : ReadTo Any s 0 (passes (bytes "integer")) a) where
  -- what was read before its names
  abbrev pub before : Listed
  before = record { next = a; cells = H.progress.cells; rank = InOrder }

  -- no names are read
  pub declare_nameless : (st : State) → Represents H st → Integers H.table s before T' None → (f : ℕ) → length s < f
      → NotRead s 0 (read_declare peek_in skip_in f)
  declare_nameless st rp h f b =
      not_as (declare_by f) (past_word_not "integer" (listed f) g refl (not_then (λ ds. done (mk ds)) (h st.table rp.table f (omega (arith, b)))))

  -- whatever is held after it
  pub declare_missing : (H' : Progress → Held) (o : Option Listed) (f : Flaw) → Err f ≡ ok_or o BrokenForm → Integers H.table s before T' o
      → Takes (read_declare peek_in skip_in) 1 s k H H' (Err f)
  declare_missing H' o f e h = takes_not (read_declare peek_in skip_in) 1 s k H H' f (broken_form o f e)
      (λ st rp sane fo n b. declare_nameless st rp (none_of (Integers H.table s before T') o f e h) n b)

  module _ (r : Listed) (h : Integers H.table s before T' (Some r)) (kp : Keeps H.table T') (few : r.cells ≤ 4096) where
    abbrev progress : Progress
    progress = before_do 1 r.cells 0 Iterations

    module _ (st : State) (rp : Represents H st) (fo : may_follow st.stage 1 ≡ true) where
      abbrev t : List Entry
      t = st.table

      -- these names were found
      abbrev Found : List Declared → Type 0
      Found ds = Enlists t H.table H.progress.cells 0 T' r ds

      abbrev good : Line → Progress → Type 0
      good l p = Represents (held p T' H.initial H.code H.opens) (after k l st)

      rank_is : (d : Declared) (ds : List Declared) → Found (d ∷ ds) → flawed (level r.rank) ≡ flaw_of st (declare d ds)
      rank_is d ds e =
          let q = sym (limits_are st d ds ∙ ap (λ (c : ℕ). fit t c (d ∷ ds)) (sym rp.cells_so_far)) in
          let o : level r.rank ≡ order (apart t (d ∷ ds)) (fit t H.progress.cells (d ∷ ds)) = e.rank ∙ omega arith in
          ap flawed (o ∙ (λ i. order (sym (names_are st d ds) i) (q i)))
          ∙ flaw_by st (declare d ds) refl (names st (declare d ds)) (limits st (declare d ds)) refl refl

      early : st.stage ≤ 1
      early = follows_most st.stage 1 fo

      represents : (d : Declared) (ds : List Declared) → Found (d ∷ ds) → level r.rank ≡ 0 → good (declare d ds) progress
      unfolding after
      represents d ds e z =
          let u = t ++ entries (cells t) (d ∷ ds) in
          let c = rp.cells_so_far in
          let sum = e.cells z ∙ ap (λ (c : ℕ). c + total declared_size (d ∷ ds)) c in
          let m = length-append t (entries (cells t) (d ∷ ds)) in
          let l = entries_length (cells t) (d ∷ ds) in
          headed H st rp (omega (arith, early)) T' kp H.initial 1 r.cells 0 0 Iterations Iterations u
          (subst (λ (c : ℕ). Tabled T' (t ++ entries c (d ∷ ds))) c (e.table z))
          (λ _. subst (Unclaimed T') (omega (arith, m, l)) (e.unclaimed z (rp.unclaimed (omega (arith, early)))))
          (sum ∙ sym (cells_more t (d ∷ ds))) (filled_more H.initial t (d ∷ ds) (omega (arith, sum, few)) rp.filled) refl
          refl

      -- the line is read
      pub declare_read : (f : ℕ) → length s < f
          → ReadTo (Settles (flaw_of st) good (level r.rank) progress) s 0 (read_declare peek_in skip_in f) r.next
      declare_read f b = to_as (declare_by f) (past_word_to "integer" (listed f) g refl
          (to_yield mk (some_read Found f (h t rp.table f (omega (arith, b)))) judge))
        where
          judge : (ds : List Declared) → Nonempty ds × Found ds → Settles (flaw_of st) good (level r.rank) progress (mk ds)
          judge [] e = absurd e.0
          judge (d ∷ ds) e = (rank_is d ds e.1, represents d ds e.1)

    abbrev leaves : Progress → Held
    leaves q = held q T' H.initial H.code H.opens

    pub declare_told : (f : Flaw) → Comes s r.next (level r.rank) (Err f) → Takes (read_declare peek_in skip_in) 1 s k H leaves (Err f)
    declare_told = takes_flaw (read_declare peek_in skip_in) 1 s k H leaves r.next (level r.rank) progress
        (λ st rp sane fo n b. declare_read st rp fo n b)

    pub declare_line : (q : Progress) (u : Unit {0}) → Comes s r.next (level r.rank) (Ok u) → q ≡ progress
        → Takes (read_declare peek_in skip_in) 1 s k H leaves (Ok q)
    declare_line = takes_good (read_declare peek_in skip_in) 1 s k H leaves r.next (level r.rank) progress
        (λ st rp sane fo n b. declare_read st rp fo n b)
