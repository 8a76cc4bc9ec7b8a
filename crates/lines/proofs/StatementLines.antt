-- Assignments and conditions.
use mathlib.Core.Path.{◌≡◌, refl, sym, ◌∙◌, ap, subst, subst₂}
use mathlib.Core.Bool.{Bool, true, false, cond, not, ◌&&◌, and-true, and_comm}
use mathlib.Core.List.{List, [], ◌∷◌, ◌++◌}
use Prim.Native.Nat.{ℕ, zero, suc, ◌+◌, ◌-◌, ◌*◌, ◌≤◌, ◌<◌, max}
use native.Mathlib.Omega.{arith}
use borrow.Author.Tests.{leb-true}
use lib.Dec.{leb}
use lib.ListN.{length, set, take, drop, length-set, length-append}
use lib.Seq.{get_or-set_same}
use Rattle.int32.specs.declared.Relation.{Relation}
use Rattle.std.specs.Prelude.{Option, Some, None, Ok, Err}
use Rattle.syntax.specs.declared.Flaw.{Flaw}
use Rattle.syntax.specs.declared.Flaw.TheVariants.{BrokenForm}
use Rattle.syntax.specs.Ranks.{level}
use Rattle.lexer.specs.Places.{NotRead, ReadTo}
use Rattle.syntax.specs.Bytes.{all, same}
use Rattle.syntax.specs.Grammar.{Expr, Ref, assign, when, Line, inside}
use Rattle.syntax.specs.Known.{Entry, stop, set as assignment, then_do, Open, opened, State, after}
use Rattle.syntax.specs.Conditions.{Mention, in_line, rightly, small, ref_name, names, limits}
use Rattle.syntax.specs.Reader.{Parsed, broken, done, Reader, read_assign, read_when, peek_in, skip_in}
use Rattle.code.specs.Instr.{Instr, words}
use Rattle.code.specs.Compile.{code_assign, code_if, code_of, places_of}
use Rattle.code.proofs.Words.{words_append}
use Rattle.code.proofs.Emitted.{emits_assign, emits_when}
use Rattle.names.specs.Table.{variable_of}
use Rattle.parts.specs.Answer.{rank_of, worst}
use Rattle.parts.specs.declared.Got.{Got}
use Rattle.statements.specs.Statement.{code_line, assigned_rank, rank_line, Writes, Compiles}
use Rattle.statements.proofs.Written.{bounded_some}
use Rattle.heading.specs.Lists.{order}
use Rattle.lines.specs.declared.Progress.{Progress}
use Rattle.lines.specs.Progress.{Held, moved, Opened, Represents, flaw_of, flawed, Comes}
use Rattle.lines.specs.Lines.{Takes}
use Rattle.lines.proofs.Verdicts.{Settles, concludes_not, concludes_told, concludes_flaw, concludes_good, flaw_by}
use Rattle.lines.proofs.AfterDo.{further, carried}
use Rattle.lines.proofs.InnermostJump.{opened_below}
use Rattle.lines.proofs.Yields.{Yields, yields_assign, yields_when}

-- ---- ranks

order_both : (a b c d : Bool) → max (order a b) (order c d) ≡ order (a && c) (b && d)
order_both true true true true = refl
order_both true true true false = refl
order_both true true false d = refl
order_both true false true true = refl
order_both true false true false = refl
order_both true false false d = refl
order_both false b true true = refl
order_both false b true false = refl
order_both false b false d = refl

worst_order : (t : List Entry) (v : List ℕ) (ms : List Mention) → worst t v ms ≡ order (all (rightly t v) ms) (all small ms)
unfolding worst
worst_order t v [] = refl
worst_order t v (m ∷ ms) = ap (max (rank_of t v m)) (worst_order t v ms) ∙ order_both (rightly t v m) (small m) (all (rightly t v) ms) (all small ms)

opened_depth : (O : List ℕ) (d : ℕ) (os : List Open) (qs : List ℕ) → Opened O d os qs → d ≡ length os
opened_depth O zero [] [] h = refl
opened_depth O zero [] (q ∷ qs) h = absurd h
opened_depth O zero (o ∷ os) qs h = absurd h
opened_depth O (suc d) [] qs h = absurd h
opened_depth O (suc d) (o ∷ os) [] h = absurd h
opened_depth O (suc d) (o ∷ os) (q ∷ qs) h = ap suc (opened_depth O d os qs h.1)

-- ---- what is compiled

module _ (k : ℕ) (s : List ℕ) (H : Held) (C' : List ℕ) where
  abbrev p : Progress
  p = H.progress

  -- the loop's variable
  abbrev v : List ℕ
  v = variable_of H.table

  -- the code of a line was written up to a place, and this is its rank
  record Written (st : State) (g : Got) (l : Line) : Type 0 where
    ends : g.place ≡ p.place + length (code_line st.table v k l)
    ranks : level g.rank ≡ rank_line st.table v l
    code : take (2 * g.place) C' ≡ take (2 * p.place) H.code ++ words (code_line st.table v k l)

  some_same : (x y : Got) → Some x ≡ Some y → x ≡ y
  some_same x y h = cc

  module _ (read : ℕ → Reader (List ℕ) Line) (st : State) (rp : Represents H st) (f : ℕ) (b : 3 * length s + 4 ≤ f) where
    -- nothing is read
    compiled_not : Compiles read H.table s k p.place H.code C' None → NotRead s 0 (read f)
    unfolding Writes
    compiled_not w = record { fails = λ _. go (read f s) (w.reads st.table rp.table f b) }
      where
        go : (q : Parsed (List ℕ) Line) → Writes st.table v k s q p.place H.code C' None → q ≡ broken
        go broken x = refl
        go (done l u) x = absurd (let e = x.1.is in let z : ◌≡◌ {A = ℕ} 0 1 = cc in omega arith)

    -- a line is, of which P holds
    compiled_to : (g : Got) → Compiles read H.table s k p.place H.code C' (Some g) → (P : Line → Type 0)
        → Yields (λ l. Written st g l → P l) (read f s) → ReadTo P s 0 (read f) g.at
    unfolding Writes
    compiled_to g w P y = go (read f s) refl y (w.reads st.table rp.table f b)
      where
        go : (q : Parsed (List ℕ) Line) → read f s ≡ q → Yields (λ l. Written st g l → P l) q → Writes st.table v k s q p.place H.code C' (Some g)
            → ReadTo P s 0 (read f) g.at
        go broken e y x = absurd (let z : ◌≡◌ {A = ℕ} 0 1 = cc in omega arith)
        go (done l u) e y x =
            let h = x.1 in
            let is : g ≡ h.got = some_same g h.got h.is in
            let en : g.at ≡ length s - length u = ap (λ (y : Got). y.at) is ∙ h.at in
            let em : g.place ≡ p.place + length (code_line st.table v k l) = ap (λ (y : Got). y.place) is ∙ h.place in record {
              what = l;
              reads = e ∙ ap (done l) (x.0 ∙ ap (λ (i : ℕ). drop i s) (sym en));
              holds = y (record {
                ends = em;
                ranks = ap (λ (y : Got). level y.rank) is ∙ h.rank;
                code = ap (λ (i : ℕ). take (2 * i) C') em ∙ x.2;
              });
              from = omega arith;
              within = (bounded_some s p.place g w.within).0;
            }

  -- nothing is read
  pub unread : (read : ℕ → Reader (List ℕ) Line) → Compiles read H.table s k p.place H.code C' None → (O' : List ℕ) (f : Flaw) → f ≡ BrokenForm
      → Takes read 5 s k H (λ q. further H q C' O') (Err f)
  unread read w O' e h st rp sane fo f b =
      concludes_not (flaw_of st) (λ l q. Represents (further H q C' O') (after k l st)) (read f) s e h (compiled_not read st rp f b w)

  -- the code up to a statement's end
  module _ (st : State) (rp : Represents H st) (l : Line) (c : List Instr) (ec : code_line st.table v k l ≡ c) (g : Got) (w : Written st g l) where
    ends_at : g.place ≡ length (code_of st ++ c)
    ends_at = w.ends ∙ (λ i. rp.place i + length (ec i)) ∙ sym (length-append (code_of st) c)

    holds_code : take (2 * g.place) C' ≡ words (code_of st ++ c)
    holds_code = w.code ∙ (λ i. rp.code i ++ words (ec i)) ∙ sym (words_append (code_of st) c)

  -- ---- a condition

  module _ (g : Got) (w : Compiles (read_when peek_in skip_in) H.table s k p.place H.code C' (Some g)) (worse : ℕ)
      (ew : worse ≡ max (level g.rank) (cond (leb (p.depth + 1) 8) 0 1)) where
    abbrev m : ℕ
    m = g.place

    when_rank : (st : State) → Represents H st → (a : Expr) (o : Relation) (b : Expr) → level g.rank ≡ rank_line st.table v (inside (when a o b))
        → flawed worse ≡ flaw_of st (inside (when a o b))
    unfolding names limits assigned_rank
    when_rank st rp a o b er =
        let l = inside (when a o b) in
        let t = st.table in
        let x = st.variable in
        let z : level g.rank ≡ worst t v (in_line l) = omega (arith, er) in
        let y = z ∙ ap (λ (u : List ℕ). worst t u (in_line l)) rp.variable ∙ worst_order t x (in_line l) in
        let deep = leb (suc (length st.opens)) 8 in
        let one_more : p.depth + 1 ≡ suc (length st.opens) = omega (arith, opened_depth H.opens p.depth st.opens (places_of st) rp.opened) in
        let d : leb (p.depth + 1) 8 ≡ deep = ap (λ (i : ℕ). leb i 8) one_more in
        ap flawed (ew ∙ (λ i. max (y i) (order true (d i))) ∙ order_both (all (rightly t x) (in_line l)) (all small (in_line l)) true deep)
        ∙ flaw_by st l refl (names st l) (limits st l) refl refl

    -- something is wrong with it
    pub when_told : (O' : List ℕ) (e : Flaw) → Comes s g.at worse (Err e)
        → Takes (read_when peek_in skip_in) 5 s k H (λ q. further H q C' O') (Err e)
    when_told O' e h st rp sane fo f b =
        concludes_told (flaw_of st) (λ l q. Represents (further H q C' O') (after k l st)) (read_when peek_in skip_in f) s g.at worse e h
        (compiled_to (read_when peek_in skip_in) st rp f b g w (λ l. flawed worse ≡ flaw_of st l)
        (yields_when (λ l. Written st g l → flawed worse ≡ flaw_of st l) (λ a o b wr. when_rank st rp a o b wr.ranks) f s))

    -- few are open where nothing is
    pub when_shallow : worse ≡ 0 → p.depth < 8
    when_shallow z = go (leb (p.depth + 1) 8) refl
      where
        go : (c : Bool) → leb (p.depth + 1) 8 ≡ c → p.depth < 8
        go true e = omega (arith, leb-true (p.depth + 1) 8 e)
        go false e = absurd (let x : ◌≡◌ {A = ℕ} (cond (leb (p.depth + 1) 8) 0 1) 1 = ap (λ (t : Bool). cond t 0 1) e in omega (arith, x, ew, z))

    -- one more is open
    module _ (low : H.progress.depth < 8) (O' : List ℕ) (eo : O' ≡ set H.opens H.progress.depth (2 * (m - 1))) where
      when_good : (st : State) → Represents H st → (a : Expr) (o : Relation) (b : Expr) → Written st g (inside (when a o b))
          → Represents (further H (moved p 5 m (p.depth + 1)) C' O') (after k (inside (when a o b)) st)
      unfolding after code_line
      when_good st rp a o b wr =
          let l = inside (when a o b) in
          let c = code_if st.table st.variable k a o b 0 in
          let ec : code_line st.table v k l ≡ c = ap (λ (u : List ℕ). code_if st.table u k a o b 0) rp.variable in
          let e = emits_when k st a o b in
          let f = ends_at st rp l c ec g wr in
          let d = p.depth in
          let os = opened k a o b st.inner ∷ st.opens in
          let z : d + 1 ≡ suc d = omega arith in
          let y : 2 * (m - 1) ≡ 2 * (length (code_of st ++ c) - 1) + 0 = omega (arith, f) in
          carried H C' O' st rp 5 m (d + 1) os stop (omega arith) (f ∙ ap length (sym e.code))
          (holds_code st rp l c ec g wr ∙ ap words (sym e.code))
          (subst₂ (λ (U : List ℕ) (i : ℕ). Opened U i os (places_of (after k l st))) (sym eo) (sym z)
          (subst (Opened (set H.opens d (2 * (m - 1))) (suc d) os) (sym e.places) (
            get_or-set_same H.opens d (2 * (m - 1)) 0 (omega (arith, rp.stack)) ∙ y,
            opened_below H.opens d d (2 * (m - 1)) st.opens (places_of st) (omega arith) rp.opened,
          )))
          (omega arith) (omega (arith, rp.stack, ap length eo, length-set H.opens d (2 * (m - 1))))

      pub when_line : (q : Progress) (u : Unit {0}) → Comes s g.at worse (Ok u) → q ≡ moved p 5 m (p.depth + 1)
          → Takes (read_when peek_in skip_in) 5 s k H (λ q. further H q C' O') (Ok q)
      when_line q u h e =
          subst (λ (x : Progress). Takes (read_when peek_in skip_in) 5 s k H (λ q. further H q C' O') (Ok x)) (sym e)
          (λ st rp sane fo f b.
          let good : Line → Progress → Type 0 = λ l q. Represents (further H q C' O') (after k l st) in
          let Fits : Line → Type 0 = Settles (flaw_of st) good worse (moved p 5 m (p.depth + 1)) in
          concludes_good (flaw_of st) good (read_when peek_in skip_in f) s g.at worse (moved p 5 m (p.depth + 1)) u h
          (compiled_to (read_when peek_in skip_in) st rp f b g w Fits
          (yields_when (λ l. Written st g l → Fits l) (λ a o b wr. (when_rank st rp a o b wr.ranks, λ _. when_good st rp a o b wr)) f s)))

  -- ---- an assignment

  module _ (g : Got) (w : Compiles (read_assign peek_in skip_in) H.table s k p.place H.code C' (Some g)) where
    abbrev m' : ℕ
    m' = g.place

    abbrev rank : ℕ
    rank = level g.rank

    abbrev leaves : Progress → Held
    leaves q = further H q C' H.opens

    assign_rank : (st : State) → Represents H st → (r : Ref) (e : Expr) → rank ≡ rank_line st.table v (inside (assign r e))
        → flawed rank ≡ flaw_of st (inside (assign r e))
    unfolding names limits assigned_rank
    assign_rank st rp r e er =
        let l = inside (assign r e) in
        let t = st.table in
        let x = st.variable in
        let other = not (same (ref_name r) x) in
        let right = all (rightly t x) (in_line l) in
        let within = all small (in_line l) in
        let q : cond (same (ref_name r) x) 2 0 ≡ order other true = turned (same (ref_name r) x) in
        let z = er ∙ (λ i. max (cond (same (ref_name r) (rp.variable i)) 2 0) (worst t (rp.variable i) (in_line l))) in
        let y = z ∙ (λ i. max (q i) (worst_order t x (in_line l) i)) ∙ order_both other true right within in
        ap flawed (y ∙ (λ i. order (and_comm other right i) (sym (and-true within) i))) ∙ flaw_by st l refl (names st l) (limits st l) refl refl
      where
        turned : (b : Bool) → cond b 2 0 ≡ order (not b) true
        turned true = refl
        turned false = refl

    assign_good : (st : State) → Represents H st → (r : Ref) (e : Expr) → Written st g (inside (assign r e))
        → Represents (leaves (moved p 5 m' p.depth)) (after k (inside (assign r e)) st)
    unfolding after code_line
    assign_good st rp r e wr =
        let l = inside (assign r e) in
        let c = code_assign st.table st.variable k r e in
        let ec : code_line st.table v k l ≡ c = ap (λ (u : List ℕ). code_assign st.table u k r e) rp.variable in
        let q = emits_assign k st r e in
        carried H C' H.opens st rp 5 m' p.depth st.opens (then_do st.inner (assignment k r e stop)) (omega arith)
        (ends_at st rp l c ec g wr ∙ ap length (sym q.code)) (holds_code st rp l c ec g wr ∙ ap words (sym q.code))
        (subst (Opened H.opens p.depth st.opens) (sym q.places) rp.opened) rp.shallow rp.stack

    -- something is wrong with it
    pub assign_told : (e : Flaw) → Comes s g.at rank (Err e) → Takes (read_assign peek_in skip_in) 5 s k H leaves (Err e)
    assign_told e h st rp sane fo f b =
        concludes_told (flaw_of st) (λ l q. Represents (leaves q) (after k l st)) (read_assign peek_in skip_in f) s g.at rank e h
        (compiled_to (read_assign peek_in skip_in) st rp f b g w (λ l. flawed rank ≡ flaw_of st l)
        (yields_assign (λ l. Written st g l → flawed rank ≡ flaw_of st l) (λ r e wr. assign_rank st rp r e wr.ranks) f s))

    pub assign_line : (q : Progress) (u : Unit {0}) → Comes s g.at rank (Ok u) → q ≡ moved p 5 m' p.depth
        → Takes (read_assign peek_in skip_in) 5 s k H leaves (Ok q)
    assign_line q u h e =
        subst (λ (x : Progress). Takes (read_assign peek_in skip_in) 5 s k H leaves (Ok x)) (sym e)
        (λ st rp sane fo f b.
        let good : Line → Progress → Type 0 = λ l q. Represents (leaves q) (after k l st) in
        let Fits : Line → Type 0 = Settles (flaw_of st) good rank (moved p 5 m' p.depth) in
        concludes_good (flaw_of st) good (read_assign peek_in skip_in f) s g.at rank (moved p 5 m' p.depth) u h
        (compiled_to (read_assign peek_in skip_in) st rp f b g w Fits
        (yields_assign (λ l. Written st g l → Fits l) (λ r e wr. (assign_rank st rp r e wr.ranks, λ _. assign_good st rp r e wr)) f s)))

-- how the code finds what is compiled
pub compiled_bounded : (read : ℕ → List ℕ → Parsed (List ℕ) Line) (T s : List ℕ) (k place : ℕ) (C C' : List ℕ) (g : Got)
    → Compiles read T s k place C C' (Some g) → (g.at ≤ length s) × (g.place ≤ place + 2 * length s)
compiled_bounded read T s k place C C' g w = bounded_some s place g w.within
