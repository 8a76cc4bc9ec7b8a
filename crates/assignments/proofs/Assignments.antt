-- Assignments: what the reader answers, from what the readers that it calls in turn answer.
use mathlib.Core.Path.{◌≡◌, refl, sym, ◌∙◌, ap, subst}
use mathlib.Core.Bool.{Bool, cond}
use mathlib.Core.List.{List, [], ◌∷◌, ◌++◌, append_assoc}
use mathlib.Core.Option.{some}
use Rattle.std.specs.Prelude.{Option, Some, None}
use Rattle.syntax.specs.Ranks.{level}
use Prim.Native.Nat.{ℕ, zero, suc, ◌+◌, ◌*◌, ◌≤◌, max}
use native.Mathlib.Omega.{arith}
use lib.ListN.{length, take, drop, set, length-append}
use lib.Seq.{sets, take-take, take-set-le}
use Rattle.rules.specs.declared.Operator.{Operator}
use Rattle.syntax.specs.Bytes.{bytes, same}
use Rattle.syntax.specs.Grammar.{Expr, Ref, show_ref, assign, Line, inside}
use Rattle.syntax.specs.Known.{Entry}
use Rattle.syntax.specs.Meaning.{same_ref, repeated, operator_at, remainder}
use Rattle.syntax.specs.Conditions.{ref_name, mentions, in_ref, in_line}
use Rattle.syntax.specs.Reader.{Parsed, broken, done, next, expects, peek_in, skip_in, read_expr, read_ref, read_assign}
use Rattle.syntax.specs.Spelled.{Spells}
use Rattle.syntax.proofs.SoundExpr.{sounds}
use Rattle.code.specs.Instr.{Instr, words}
use Rattle.code.specs.Compile.{code, code_ref, checks, updates, code_assign}
use Rattle.names.specs.Table.{variable_of, Tabled}
use Rattle.lexer.specs.Places.{NotRead, ReadTo, Any, passes}
use Rattle.lexer.proofs.InTurn.{stands_onward}
use Rattle.parts.specs.Answer.{worst, Reads, Within, Answers}
use Rattle.parts.specs.declared.Got.{Got}
use Rattle.parts.proofs.Laws.{worst_append, Since, read_done, read_none}
use Rattle.code.proofs.Words.{words_append, words_length}
use Rattle.updates.specs.declared.Left.{Left}
use Rattle.updates.specs.Forms.{depth_of, read_rest, Remains}
use Rattle.assignments.specs.declared.Target.{Target}
use Rattle.statements.specs.Statement.{code_line, assigned_rank, rank_line, Writes, Bounded, Compiles}
use Rattle.assignments.specs.Assignment.{Targets, Offers, code_update, code_store, Updates, Stores}
use Rattle.statements.proofs.Passing.{expects_there, expects_not}
use Rattle.statements.proofs.Written.{take_sets, bounded_some, bounded_none}
use Rattle.assignments.proofs.Assigned.{Meant, meant, no_update, an_update}

-- ---- what is written

-- what lies before is kept
take_before : (n : ℕ) (l : List ℕ) (i : ℕ) (vs : List ℕ) → n ≤ i → take n (sets l i vs) ≡ take n l
take_before n l i [] h = refl
take_before n l i (v ∷ vs) h = take_before n (set l i v) (suc i) vs (omega arith) ∙ take-set-le n l i v h

-- the code `is` at `place` stands up to p, and all before p is as it was
module _ (place p : ℕ) (b m₁ m₂ : List ℕ) (is : List Instr) (ep : p ≡ place + length is) (em : m₁ ≡ sets b (2 * place) (words is))
    (kept : take (2 * p) m₂ ≡ take (2 * p) m₁) where
  kept_before : take (2 * place) m₂ ≡ take (2 * place) b
  kept_before =
      sym (take-take (2 * place) (2 * p) m₂ (omega arith)) ∙ ap (take (2 * place)) kept ∙ take-take (2 * place) (2 * p) m₁ (omega arith)
      ∙ ap (take (2 * place)) em ∙ take_before (2 * place) b (2 * place) (words is) (omega arith)

  -- after it comes the code `js`
  written_after : (a : List ℕ) (js : List Instr) → a ≡ sets m₂ (2 * p) (words js) → 2 * (p + length js) ≤ length m₂ → length m₂ ≡ length b
      → take (2 * (place + length (is ++ js))) a ≡ take (2 * place) b ++ words (is ++ js)
  written_after a js ea room same_length =
      let ej : 2 * (place + length (is ++ js)) ≡ 2 * p + length (words js) = omega (arith, length-append is js, words_length js) in
      let ei : 2 * p ≡ 2 * place + length (words is) = omega (arith, words_length is) in
      (λ k. take (ej k) (ea k)) ∙ take_sets m₂ (2 * p) (words js) (omega (arith, words_length js))
      ∙ ap (λ (l : List ℕ). l ++ words js) (kept ∙ (λ k. take (ei k) (em k)) ∙ take_sets b (2 * place) (words is) (omega (arith, words_length is)))
      ∙ append_assoc (take (2 * place) b) (words is) (words js) ∙ ap (λ (l : List ℕ). take (2 * place) b ++ l) (sym (words_append is js))

-- ---- the left side and =

module _ (T s : List ℕ) (line place : ℕ) (b m₁ : List ℕ) (most : ℕ) where
  -- no reference is read
  pub assign_unread : (a : List ℕ) → Answers (read_ref peek_in skip_in) (λ t v. code_ref t v line) (in_ref 0) 0 1 T s 0 place most b m₁ None
      → Compiles (read_assign peek_in skip_in) T s line place b a None
  unfolding read_assign Writes
  assign_unread a an = record {
    reads = λ t d f lt.
        let h = read_none (code_ref t (variable_of T) line) (λ x. worst t (variable_of T) (in_ref 0 x)) s place most b m₁
        (read_ref peek_in skip_in f s) (an.reads t d f (omega arith)) in
        subst (λ (P : Parsed (List ℕ) Ref). Writes t (variable_of T) line s
        (next P (λ x u. next (expects peek_in skip_in "=" u) (λ _ v. next (read_expr peek_in skip_in f v) (λ e w. done (inside (assign x e)) w))))
        place b a None)
        (sym h) refl;
    within = bounded_none s place;
  }

  module _ (g : Got) (an : Answers (read_ref peek_in skip_in) (λ t v. code_ref t v line) (in_ref 0) 0 1 T s 0 place most b m₁ (Some g)) where
    -- the reference x
    read_left : (t : List Entry) → Tabled T t → (f : ℕ) → 3 * length s + 4 ≤ f
        → (x : Ref) × (read_ref peek_in skip_in f s ≡ done x (drop g.at s))
        × Since place most b (code_ref t (variable_of T) line x) (worst t (variable_of T) (in_ref 0 x)) g.place (level g.rank) m₁
    read_left t d f lt =
        read_done (code_ref t (variable_of T) line) (λ x. worst t (variable_of T) (in_ref 0 x)) s place most b m₁ (read_ref peek_in skip_in f s) g
        (an.reads t d f (omega arith))

    -- no = is read
    pub assign_unset : (a : List ℕ) → NotRead s g.at (passes (bytes "=")) → Compiles (read_assign peek_in skip_in) T s line place b a None
    unfolding read_assign Writes
    assign_unset a go = record {
      reads = λ t d f lt.
          let (x, hx, so) = read_left t d f lt in
          subst (λ (P : Parsed (List ℕ) Line). Writes t (variable_of T) line s P place b a None) (sym (shape f x hx)) refl;
      within = bounded_none s place;
    }
      where
        shape : (f : ℕ) (x : Ref) → read_ref peek_in skip_in f s ≡ done x (drop g.at s) → read_assign peek_in skip_in f s ≡ broken
        shape f x hx = rw (hx, expects_not "=" go refl an.within.inside)

    module _ {from : ℕ} (go : ReadTo Any s g.at (passes (bytes "=")) from) where
      assign_shape : (f : ℕ) (x : Ref) → read_ref peek_in skip_in f s ≡ done x (drop g.at s)
          → read_assign peek_in skip_in f s ≡ next (read_expr peek_in skip_in f (drop from s)) (λ e w. done (inside (assign x e)) w)
      unfolding read_assign
      assign_shape f x hx = rw (hx, expects_there "=" go refl)

      module _ (tg : Target) (ta : Targets T s tg) (em : most ≡ cond tg.variable 2 0) (lf : Left) (en : lf.end ≡ g.at) (ez : level lf.rank ≡ level g.rank)
          (ep : lf.place ≡ g.place) (m₂ a : List ℕ)
          (room : 2 * (place + 2 * length s) ≤ length b) (same_length : length m₂ ≡ length b) where
        -- with the rank of the right side, the whole has its rank
        rank_assigned : (t : List Entry) (x : Ref) (c : Expr) (z : ℕ) → Meant T tg t x → z ≡ max most (worst t (variable_of T) (in_ref 0 x))
            → max z (worst t (variable_of T) (mentions 0 c)) ≡ rank_line t (variable_of T) (inside (assign x c))
        unfolding assigned_rank in_line
        rank_assigned t x c z me ez =
            let v = variable_of T in
            let q : most ≡ cond (same (ref_name x) v) 2 0 = em ∙ ap (λ (y : Bool). cond y 2 0) me.variable in
            omega (arith, worst_append t v (in_ref 0 x) (mentions 0 c))

        -- what lies before the left side's end is kept
        kept_at : take (2 * lf.place) m₂ ≡ take (2 * lf.place) m₁ → take (2 * g.place) m₂ ≡ take (2 * g.place) m₁
        kept_at h = subst (λ (i : ℕ). take (2 * i) m₂ ≡ take (2 * i) m₁) ep h

        -- the left side, as it is spelled
        spelled : (f : ℕ) (x : Ref) → read_ref peek_in skip_in f s ≡ done x (drop g.at s) → Spells peek_in skip_in s (show_ref x) (drop lf.end s)
        spelled f x hx = subst (λ (i : ℕ). Spells peek_in skip_in s (show_ref x) (drop i s)) (sym en) ((sounds peek_in skip_in f).ref s (drop g.at s) x hx)

        -- ---- no update

        module _ (r : Option Got) (su : Offers tg lf T s from m₁ m₂ None) (st : Stores T s from line place (level g.rank) m₂ a r) where
          -- P is what is read as the right side
          stored : (t : List Entry) → Tabled T t → (f : ℕ) → 3 * length s + 4 ≤ suc (suc (suc f)) → (x : Ref)
              → read_ref peek_in skip_in (suc (suc (suc f))) s ≡ done x (drop g.at s)
              → Since place most b (code_ref t (variable_of T) line x) (worst t (variable_of T) (in_ref 0 x)) g.place (level g.rank) m₁
              → (P : Parsed (List ℕ) Expr) → read_expr peek_in skip_in (suc (suc (suc f))) (drop from s) ≡ P
              → Reads (code_store t (variable_of T) line x) (λ c. max (worst t (variable_of T) (mentions 0 c)) (worst t (variable_of T) (in_ref 0 x))) s P
              place (level g.rank) m₂ a r
              → Writes t (variable_of T) line s (next P (λ c w. done (inside (assign x c)) w)) place b a r
          unfolding Reads Writes code_line code_assign
          stored t d f lt x hx so broken e h = h
          stored t d f lt x hx so (done c w) e h =
              let v = variable_of T in
              let me = meant ta t d (suc (suc (suc f))) x (drop g.at s) hx in
              let is = code_store t v line x c in
              let no = no_update t x c
              (λ o k. su.found t d f (omega arith) x (spelled (suc (suc (suc f))) x hx) c w e o (me.reduction ∙ k)) in
              let ec : is ≡ code_assign t v line x c = ap
              (λ (q : Bool). cond q (((code_ref t v line x ++ checks t v line x) ++ code t v line (remainder (operator_at t x) c)) ++ (updates t v line x ∷ [])) is)
              (sym no) in
              let er : max (level g.rank) (max (worst t v (mentions 0 c)) (worst t v (in_ref 0 x))) ≡ rank_line t v (inside (assign x c)) =
              omega (arith, so.rank_is, rank_assigned t x c (level g.rank) me so.rank_is) in
              let ej : 2 * (place + length is) ≡ 2 * place + length (words is) = omega (arith, words_length is) in
              let so' = h.1 in
              let q = bounded_some s place so'.got (subst (Bounded s place) so'.is st.within) in (
                h.0,
                record {
                  got = so'.got;
                  is = so'.is;
                  at = so'.at;
                  place = so'.place ∙ ap (λ (l : List Instr). place + length l) ec;
                  rank = so'.rank ∙ er;
                },
                subst (λ (js : List Instr). take (2 * (place + length js)) a ≡ take (2 * place) b ++ words js) ec
                    ((λ i. take (ej i) (h.2 i)) ∙ take_sets m₂ (2 * place) (words is) (omega (arith, q.1, so'.place))
                    ∙ ap (λ (l : List ℕ). l ++ words is) (kept_before place g.place b m₁ m₂ (code_ref t v line x) so.place_is so.code_is (kept_at su.kept))),
              )

          pub assign_stores : Compiles (read_assign peek_in skip_in) T s line place b a r
          assign_stores = record { reads = by_fuel; within = st.within }
            where
              by_fuel : (t : List Entry) → Tabled T t → (f : ℕ) → 3 * length s + 4 ≤ f
                  → Writes t (variable_of T) line s (read_assign peek_in skip_in f s) place b a r
              by_fuel t d zero lt = absurd (omega arith)
              by_fuel t d (suc zero) lt = absurd (omega arith)
              by_fuel t d (suc (suc zero)) lt = absurd (omega arith)
              by_fuel t d (suc (suc (suc f))) lt =
                  let (x, hx, so) = read_left t d (suc (suc (suc f))) lt in
                  subst (λ (P : Parsed (List ℕ) Line). Writes t (variable_of T) line s P place b a r) (sym (assign_shape (suc (suc (suc f))) x hx))
                  (stored t d f lt x hx so (read_expr peek_in skip_in (suc (suc (suc f))) (drop from s)) refl
                  (st.reads t d (suc (suc (suc f))) (omega arith) x (drop g.at s) hx))

        -- ---- an update, by o

        module _ (r : Option Got) (o : Operator) (h : Got) (su : Offers tg lf T s from m₁ m₂ (Some (o, h)))
            (up : Updates o T s h.at line h.place (level h.rank) m₂ a r) where
          place_left : h.place ≡ g.place
          place_left = su.past.place_is ∙ ep

          updates_bounded : Bounded s place r
          unfolding Bounded
          updates_bounded = by_answer r up.within
            where
              by_answer : (r : Option Got) → Within s h.at (h.place + 2) (suc h.at) r → Bounded s place r
              by_answer None w = tt
              by_answer (Some i) w = (
                w.inside,
                omega (
                  arith,
                  w.inside,
                  w.room,
                  su.past.after,
                  place_left,
                  an.within.room,
                  stands_onward (bytes "=") go (omega arith),
                ),
              )

          module _ (t : List Entry) (d : Tabled T t) (f : ℕ) (lt : 3 * length s + 4 ≤ suc (suc (suc f))) (x : Ref)
              (hx : read_ref peek_in skip_in (suc (suc (suc f))) s ≡ done x (drop g.at s))
              (so : Since place most b (code_ref t (variable_of T) line x) (worst t (variable_of T) (in_ref 0 x)) g.place (level g.rank) m₁) where
            me : Meant T tg t x
            me = meant ta t d (suc (suc (suc f))) x (drop g.at s) hx

            re : Remains o t (variable_of T) s x f from h.at (level lf.rank) (level h.rank)
            re = su.found.1 t d f (omega arith) x (spelled (suc (suc (suc f))) x hx)

            -- the right side is c and its remainder k
            update_code : (c k : Expr) → repeated o c ≡ some re.ref → remainder o c ≡ k
                → code_ref t (variable_of T) line x ++ code_update t (variable_of T) line x k ≡ code_assign t (variable_of T) line x c
            unfolding code_assign
            update_code c k hr e =
                let v = variable_of T in
                let u = an_update t x c o (sym me.reduction ∙ su.found.0) in
                let yes' = u.0 ∙ ap (same_ref x) hr ∙ re.same in
                sym (ap (λ (q : Bool). cond q
                (((code_ref t v line x ++ checks t v line x) ++ code t v line (remainder (operator_at t x) c)) ++ (updates t v line x ∷ []))
                (code_store t v line x c))
                yes'
                ∙ ap (λ (i : Expr). ((code_ref t v line x ++ checks t v line x) ++ code t v line i) ++ (updates t v line x ∷ []))
                (ap (λ (i : Operator). remainder i c) u.1 ∙ e)
                ∙ simp append_assoc)

            -- P is what is read as the remainder
            updated : (P : Parsed (List ℕ) Expr) → read_rest o re.fuel (drop h.at s) ≡ P
                → Reads (code_update t (variable_of T) line x) (λ c. worst t (variable_of T) (mentions (depth_of o) c)) s P h.place (level h.rank) m₂ a r
                → Writes t (variable_of T) line s (read_assign peek_in skip_in (suc (suc (suc f))) s) place b a r
            unfolding Reads Writes code_line
            updated broken e hp =
                subst (λ (P : Parsed (List ℕ) Line). Writes t (variable_of T) line s P place b a r)
                (sym (assign_shape (suc (suc (suc f))) x hx ∙ ap (λ (P : Parsed (List ℕ) Expr). next P (λ c w. done (inside (assign x c)) w)) (re.unread e))) hp
            updated (done k w) e hp =
                let v = variable_of T in
                let (c, hc, hr, hm, hk) = re.read k w e in
                let js = code_update t v line x k in
                let eq = place_left in
                let ec = update_code c k hr hm in
                let el : h.place + length js ≡ place + length (code_ref t v line x ++ js) = omega (arith, so.place_is, length-append (code_ref t v line x) js) in
                let ek : max (level h.rank) (worst t v (mentions (depth_of o) k)) ≡ rank_line t v (inside (assign x c)) =
                hk ∙ ap (λ (i : ℕ). max i (worst t v (mentions 0 c))) ez ∙ rank_assigned t x c (level g.rank) me so.rank_is in
                let st = hp.1 in
                let q = bounded_some s place st.got (subst (Bounded s place) st.is updates_bounded) in
                subst (λ (P : Parsed (List ℕ) Line). Writes t (variable_of T) line s P place b a r)
                (sym (assign_shape (suc (suc (suc f))) x hx ∙ ap (λ (P : Parsed (List ℕ) Expr). next P (λ c w. done (inside (assign x c)) w)) hc)) (
                  hp.0,
                  record {
                    got = st.got;
                    is = st.is;
                    at = st.at;
                    place = st.place ∙ el ∙ ap (λ (i : List Instr). place + length i) ec;
                    rank = st.rank ∙ ek;
                  },
                  subst (λ (i : List Instr). take (2 * (place + length i)) a ≡ take (2 * place) b ++ words i) ec
                      (written_after place g.place b m₁ m₂ (code_ref t v line x) so.place_is so.code_is (kept_at su.kept) a js
                      (hp.2 ∙ ap (λ (i : ℕ). sets m₂ (2 * i) (words js)) eq)
                      (omega (arith, q.1, st.place)) same_length),
                )

          pub assign_updates : Compiles (read_assign peek_in skip_in) T s line place b a r
          assign_updates = record { reads = by_fuel; within = updates_bounded }
            where
              by_fuel : (t : List Entry) → Tabled T t → (f : ℕ) → 3 * length s + 4 ≤ f
                  → Writes t (variable_of T) line s (read_assign peek_in skip_in f s) place b a r
              by_fuel t d zero lt = absurd (omega arith)
              by_fuel t d (suc zero) lt = absurd (omega arith)
              by_fuel t d (suc (suc zero)) lt = absurd (omega arith)
              by_fuel t d (suc (suc (suc f))) lt =
                  let (x, hx, so) = read_left t d (suc (suc (suc f))) lt in
                  updated t d f lt x hx so (read_rest o (re t d f lt x hx so).fuel (drop h.at s)) refl
                  (up.reads t d (re t d f lt x hx so).fuel (re t d f lt x hx so).enough (suc (suc (suc f))) x (drop g.at s) hx)
