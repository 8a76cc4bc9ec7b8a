-- A data line.
use mathlib.Core.Path.{◌≡◌, refl, sym, ◌∙◌, ap, subst}
use mathlib.Core.Bool.{Bool, true, false, cond, not, ◌&&◌, and-true}
use mathlib.Core.List.{List, [], ◌∷◌, ◌++◌, map}
use mathlib.Core.Option.{none, some}
use Prim.Native.Nat.{ℕ, ◌+◌, ◌-◌, ◌*◌, ◌≤◌, ◌<◌}
use native.Mathlib.Omega.{arith}
use borrow.Author.Tests.{eqb-true}
use lib.ListN.{length, drop, replicate, length-map}
use lib.IntN.{ℤ, pos}
use lib.Seq.{sets}
use Rattle.rules.specs.declared.Grouping.TheVariants.{Iterations}
use Rattle.std.specs.Prelude.{Option as Option', Some, None, Result, Ok, Err, ok_or}
use Rattle.syntax.specs.declared.Flaw.{Flaw}
use Rattle.syntax.specs.declared.Flaw.TheVariants.{BrokenForm}
use Rattle.syntax.specs.Ranks.{level}
use Rattle.syntax.specs.Bytes.{bytes, all}
use Rattle.syntax.specs.Grammar.{Item, item, Line, give}
use Rattle.syntax.specs.Known.{Entry, known, find, give_to, copies, values, total, cells, State, after}
use Rattle.syntax.specs.Conditions.{concat, in_item, in_line, is_given, rightly, small, names, limits, may_follow, singly}
use Rattle.syntax.specs.Text.{loaded}
use Rattle.syntax.specs.Reader.{Parsed, broken, done, Reader, next, expects, read_name, read_more, read_item, read_give, peek_in, skip_in}
use Rattle.syntax.specs.Sane.{Sane}
use Rattle.syntax.proofs.Spelling.{both_true}
use Rattle.syntax.proofs.Table.{find_ends}
use Rattle.syntax.proofs.Loaded.{loaded_length}
use Rattle.syntax.proofs.TableLines.{values_length, give_cells}
use Rattle.lexer.specs.Places.{Lands, NotRead, ReadTo, Any, passes}
use Rattle.lexer.proofs.InTurn.{goes_to, to_goes, to_yield, not_then, not_past_word, past_word_not, past_word_to}
use Rattle.names.specs.Table.{Unclaimed}
use Rattle.heading.specs.Lists.{read_some, order, Keeps}
use Rattle.values.specs.Data.{read_counted, read_values, may_give, Gives, Data as DataLine}
use Rattle.heading.specs.declared.Headed.{Headed}
use Rattle.heading.proofs.Lists.{Nonempty, good_order}
use Rattle.lines.specs.declared.Progress.{Progress}
use Rattle.lines.specs.Progress.{Held, held, before_do, Represents, flaw_of, flawed, Comes, whole}
use Rattle.lines.specs.Lines.{Takes}
use Rattle.lines.proofs.Verdicts.{Settles, broken_form, none_of, takes_not, takes_flaw, takes_good, flaw_by, follows_most}
use Rattle.lines.proofs.DeclareLine.{headed}
use Rattle.lines.proofs.DataReading.{counts, some_then, mk, closes, valued, given, give_by, weighed_concludes}
use Rattle.lines.proofs.DataCells.{sets_front, loaded_give}

-- ---- names and limits

digits_right : (t : List Entry) (v : List ℕ) (is : List Item) → all (rightly t v) (concat in_item is) ≡ true
digits_right t v [] = refl
digits_right t v (item none l d ∷ is) = digits_right t v is
digits_right t v (item (some r) l d ∷ is) = digits_right t v is

names_are : (st : State) (x : List ℕ) (i : Item) (is : List Item) → names st (give x i is) ≡ may_give st.table x (i ∷ is)
unfolding names in_line
names_are st x i is = ap (λ (b : Bool). b && singly st (give x i is)) (digits_right st.table st.variable (i ∷ is))

limits_are : (st : State) (x : List ℕ) (i : Item) (is : List Item) → limits st (give x i is) ≡ all small (concat in_item (i ∷ is))
unfolding limits in_line
limits_are st x i is = and-true (all small (concat in_item (i ∷ is)))

-- ---- the line

-- what holds of whatever is read after a part holds of the whole
lands_along : {A B : Type 0} (P Q : B → Type 0) (s : List ℕ) (m : ℕ) (p : Parsed (List ℕ) A) (k : A → Reader (List ℕ) B)
    → ((a : A) (u : List ℕ) → Lands P s (k a u) m → Lands Q s (k a u) m) → Lands P s (next p k) m → Lands Q s (next p k) m
lands_along P Q s m broken k h l = l
lands_along P Q s m (done a u) k h l = h a u l

-- as the code reads it
weighed : (s : List ℕ) (k : ℕ) (H : Held) (H' : Progress → Held) (r : Result Progress Flaw) → Takes given 2 s k H H' r → Takes (read_give peek_in skip_in) 2 s k H H' r
weighed s k H H' r g st rp sane fo n b =
    weighed_concludes st (λ l p. Represents (H' p) (after k l st)) (whole (read_give peek_in skip_in n) s) (whole (given n) s) r (give_by n s) (g st rp sane fo n b)

-- it does not begin so
pub give_wordless : (s : List ℕ) (k : ℕ) (H : Held) (H' : Progress → Held) (f : Flaw) → f ≡ BrokenForm → NotRead s 0 (passes (bytes "data"))
    → Takes (read_give peek_in skip_in) 2 s k H H' (Err f)
give_wordless s k H H' f e g = weighed s k H H' (Err f) (takes_not given 2 s k H H' f e (λ st rp sane fo n b. not_past_word "data" (valued n) refl g))

module _ (k : ℕ) (s : List ℕ) (H : Held) (T' : List ℕ) (I' : List ℤ) (a : ℕ) (g : ReadTo Any s 0 (passes (bytes "data")) a) where
  -- no values are read
  pub give_nothing : (st : State) → Represents H st → DataLine H.table H.initial s a T' I' None → (f : ℕ) → length s < f → NotRead s 0 (given f)
  give_nothing st rp h f b = past_word_not "data" (valued f) g refl (not_then (λ y. done (mk y)) (h st.table rp.table f (omega (arith, b))))

  -- whatever is held after it
  pub give_missing : (H' : Progress → Held) (o : Option' Headed) (f : Flaw) → Err f ≡ ok_or o BrokenForm → DataLine H.table H.initial s a T' I' o
      → Takes (read_give peek_in skip_in) 2 s k H H' (Err f)
  give_missing H' o f e h = weighed s k H H' (Err f) (takes_not given 2 s k H H' f (broken_form o f e)
      (λ st rp sane fo n b. give_nothing st rp (none_of (DataLine H.table H.initial s a T' I') o f e h) n b))

  module _ (r : Headed) (h : DataLine H.table H.initial s a T' I' (Some r)) (kp : Keeps H.table T') where
    abbrev progress : Progress
    progress = before_do 2 H.progress.cells 0 Iterations

    module _ (st : State) (rp : Represents H st) (sane : Sane st) (fo : may_follow st.stage 2 ≡ true) where
      abbrev t : List Entry
      t = st.table

      -- this name and these items were found
      abbrev Found : List ℕ → List Item → Type 0
      Found x is = Gives t H.table H.initial T' I' r x is

      abbrev good : Line → Progress → Type 0
      good l p = Represents (held p T' I' H.code H.opens) (after k l st)

      rank_is : (x : List ℕ) (i : Item) (is : List Item) → counts (i ∷ is) ≡ true → Found x (i ∷ is) → flawed (level r.rank) ≡ flaw_of st (give x i is)
      rank_is x i is c e =
          ap flawed (e.rank ∙ (λ j. order (sym (names_are st x i is) j) (sym (limits_are st x i is) j)))
          ∙ flaw_by st (give x i is) c (names st (give x i is)) (limits st (give x i is)) refl refl

      early : st.stage ≤ 2
      early = follows_most st.stage 2 fo

      filled_so : (x : List ℕ) (i : Item) (is : List Item) → Found x (i ∷ is) → level r.rank ≡ 0
          → I' ≡ loaded (map (give_to x (values (i ∷ is))) t) ++ replicate (4096 - cells (map (give_to x (values (i ∷ is))) t)) (pos 0)
      filled_so x i is e z =
          let vs = values (i ∷ is) in
          let zeros = replicate (4096 - cells t) (pos 0) in
          let (q, _) = good_order (may_give t x (i ∷ is)) (all small (concat in_item (i ∷ is))) (sym e.rank ∙ z) in
          let (kn, rest) = both_true (known x t) _ q in
          let m = eqb-true (total copies (i ∷ is)) (find x t).size (both_true (not (is_given (find x t).given)) _ rest).1 in
          let (_, l) = loaded_give x vs 0 t sane.table.laid sane.table.sized sane.table.apart kn (values_length (i ∷ is) ∙ m) in
          let b : (find x t).first + length vs ≤ length (loaded t) = omega (
            arith,
            find_ends x t sane.table,
            loaded_length t sane.table,
            values_length (i ∷ is),
            m,
          ) in
          e.cells z ∙ ap (λ (u : List ℤ). sets u (find x t).first vs) rp.filled ∙ sets_front (loaded t) zeros (find x t).first vs b
          ∙ ap (λ (u : List ℤ). u ++ zeros) (ap (λ (c : ℕ). sets (loaded t) c vs) (omega arith) ∙ sym l)
          ∙ ap (λ (c : ℕ). loaded (map (give_to x vs) t) ++ replicate (4096 - c) (pos 0)) (sym (give_cells x vs t))

      represents : (x : List ℕ) (i : Item) (is : List Item) → Found x (i ∷ is) → level r.rank ≡ 0 → good (give x i is) progress
      unfolding after
      represents x i is e z =
          let vs = values (i ∷ is) in
          headed H st rp (omega (arith, early)) T' kp I' 2 H.progress.cells 0 0 Iterations Iterations (map (give_to x vs) t) (e.table z)
          (λ _. subst (Unclaimed T') (sym (length-map t (give_to x vs))) (e.unclaimed z (rp.unclaimed (omega (arith, early)))))
          (rp.cells_so_far ∙ sym (give_cells x vs t)) (filled_so x i is e z) refl refl

      -- the items are some, and none has 0 copies
      Full : List ℕ × List Item → Type 0
      Full (x, is) = Nonempty is × (counts is ≡ true) × Found x is

      full : (f : ℕ) (u : List ℕ) (m : ℕ) → Lands (λ (x, is). Found x is) s (read_values f u) m → Lands Full s (read_values f u) m
      unfolding Full
      full f u m = along (read_name peek_in skip_in u) _ (λ x v. along (expects peek_in skip_in "/" v) _ (λ _ w. items x w))
        where
          P : List ℕ × List Item → Type 0
          P (x, is) = Found x is

          along : {A : Type 0} (p : Parsed (List ℕ) A) (k : A → Reader (List ℕ) (List ℕ × List Item))
              → ((a : A) (u : List ℕ) → Lands P s (k a u) m → Lands Full s (k a u) m)
              → Lands P s (next p k) m → Lands Full s (next p k) m
          along = lands_along P Full s m

          end_of : (x : List ℕ) (is : List Item) (p : Parsed (List ℕ) (Unit {0})) → Nonempty is → counts is ≡ true
              → Lands P s (next p (λ _. done (x, is))) m → Lands Full s (next p (λ _. done (x, is))) m
          end_of x is broken ne c l = l
          end_of x is (done a v) ne c l = (l.0, l.1, (ne, c, l.2))

          by_count : (x : List ℕ) (i : Item) (is : List Item) (v : List ℕ) (b : Bool) → counts (i ∷ is) ≡ b
              → Lands P s (next (cond b (done (i ∷ is) v) broken) (closes x)) m → Lands Full s (next (cond b (done (i ∷ is) v) broken) (closes x)) m
          by_count x i is v true e l = end_of x (i ∷ is) (expects peek_in skip_in "/" v) tt e l
          by_count x i is v false e l = l

          items : (x w : List ℕ) → Lands P s (next (read_some f read_counted w) (closes x)) m → Lands Full s (next (read_some f read_counted w) (closes x)) m
          items x w l =
              subst (λ (q : Parsed (List ℕ) (List ℕ × List Item)). Lands Full s q m) (sym (some_then f w (closes x)))
              (along (read_item peek_in skip_in w) _ (λ i t. along (read_more peek_in skip_in f (read_item peek_in skip_in) t) _ (λ is v.
              by_count x i is v (counts (i ∷ is)) refl))
              (subst (λ (q : Parsed (List ℕ) (List ℕ × List Item)). Lands P s q m) (some_then f w (closes x)) l))

      -- the line is read
      pub give_read : (f : ℕ) → length s < f → ReadTo (Settles (flaw_of st) good (level r.rank) progress) s 0 (given f) r.next
      unfolding Full
      give_read f b =
          let w = h st.table rp.table f (omega (arith, b)) in
          past_word_to "data" (valued f) g refl (to_yield mk (fully f w) judge)
        where
          fully : (f : ℕ) → ReadTo (λ (x, is). Found x is) s a (read_values f) r.next → ReadTo Full s a (read_values f) r.next
          fully f w =
              let v = goes_to w in
              to_goes (record { lands = λ b. full f (drop a s) r.next (v.lands b); from = v.from; lost = v.lost }) w.within

          judge : (y : List ℕ × List Item) → Full y → Settles (flaw_of st) good (level r.rank) progress (mk y)
          judge (x, []) e = absurd e.0
          judge (x, i ∷ is) e = (rank_is x i is e.1 e.2, represents x i is e.2)

    abbrev leaves : Progress → Held
    leaves q = held q T' I' H.code H.opens

    pub give_told : (f : Flaw) → Comes s r.next (level r.rank) (Err f) → Takes (read_give peek_in skip_in) 2 s k H leaves (Err f)
    give_told f e = weighed s k H leaves (Err f) (takes_flaw given 2 s k H leaves r.next (level r.rank) progress
        (λ st rp sane fo n b. give_read st rp sane fo n b) f e)

    pub give_line : (q : Progress) (u : Unit {0}) → Comes s r.next (level r.rank) (Ok u) → q ≡ progress
        → Takes (read_give peek_in skip_in) 2 s k H leaves (Ok q)
    give_line q u e i = weighed s k H leaves (Ok q) (takes_good given 2 s k H leaves r.next (level r.rank) progress
        (λ st rp sane fo n b. give_read st rp sane fo n b) q u e i)
