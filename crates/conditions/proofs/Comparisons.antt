-- Conditions: the relation between the two sides, and what the reader answers from what the readers that it calls in turn answer.
use mathlib.Core.Path.{◌≡◌, refl, sym, ◌∙◌, ap, subst}
use mathlib.Core.Bool.{Bool, true, false, cond}
use mathlib.Core.List.{List, [], ◌∷◌, append-nil, append_assoc}
use mathlib.Core.Option.{none, some}
use mathlib.Core.Option.{Option as Perhaps}
use Rattle.std.specs.Prelude.{Option, Some, None}
use Prim.Native.Nat.{ℕ, suc, ◌+◌, ◌-◌, ◌*◌, ◌≤◌, ◌<◌}
use native.Mathlib.Omega.{arith}
use lib.ListN.{length, drop}
use Rattle.int32.specs.declared.Relation.{Relation}
use Rattle.int32.specs.declared.Relation.TheVariants.{Equal, Unequal, Less, AtMost, Greater, AtLeast}
use Rattle.syntax.specs.Bytes.{bytes, same, sign}
use Rattle.syntax.specs.Grammar.{Expr, when, Line, inside}
use Rattle.syntax.specs.Known.{Entry}
use Rattle.syntax.specs.Conditions.{mentions, in_line}
use Rattle.syntax.specs.Reader.{Parsed, broken, done, Reader, next, kind, is, rel_of, given, expects, wants, peek_in, skip_in, read_expr, read_rel, read_when}
use Rattle.syntax.proofs.Spelling.{is_true}
use Rattle.code.specs.Instr.{jump_unless, relation_number, words}
use Rattle.code.specs.Compile.{code}
use Rattle.names.specs.Table.{variable_of, Tabled}
use Rattle.lexer.specs.declared.Tok.{Tok}
use Rattle.lexer.specs.Lex.{part, kind_number, Lexed}
use Rattle.lexer.specs.Places.{NotRead, ReadTo, Any, passes}
use Rattle.lexer.proofs.Said.{signed, sees_said}
use Rattle.lexer.proofs.InTurn.{stands_onward}
use Rattle.syntax.specs.Ranks.{level}
use Rattle.parts.specs.Answer.{worst, Reads, Lies, Within, Answers}
use Rattle.parts.specs.Parts.{Passes, stands, Closes, Emits}
use Rattle.parts.specs.declared.Got.{Got}
use Rattle.parts.proofs.Laws.{worst_append, since_none, since_emits, reads_done, read_none, reads_none, reads_closed, reads_unclosed, emits_none, in_turn}
use Rattle.parts.proofs.Signs.{passes_token}
use Rattle.parts.proofs.Spans.{lies_from, lies_emits, lies_closed}
use Rattle.statements.specs.Statement.{code_line, assigned_rank, rank_line, Writes, Bounded, Compiles}
use Rattle.conditions.specs.Comparison.{read_right, code_compared, in_compared}
use Rattle.syntax.proofs.ReaderLaws.{next_assoc, next_same}
use Rattle.statements.proofs.Passing.{wants_there, wants_not, expects_there, expects_not}
use Rattle.statements.proofs.Written.{bounded_none, reads_writes}

-- ---- the relation

module _ {s : List ℕ} {at : ℕ} {t : Tok} (l : Lexed s at t) where
  -- a sign, by its bytes
  pub sign_is : (x : List ℕ) → signed x ≡ true → {r b : Bool} → r ≡ same x (part s t.start t.stop) → r ≡ b → is (sign x) (peek_in (drop at s)) ≡ b
  sign_is x h e f = sees_said l x h ∙ sym e ∙ f

  pub passes_said : (x : List ℕ) → is (sign x) (peek_in (drop at s)) ≡ true → Passes 1 s at t.stop
  passes_said x e =
      let k : 4 ≡ kind_number t.kind = sym (ap kind (is_true (sign x) (peek_in (drop at s)) e)) ∙ l.kinds in
      passes_token l (λ z. omega arith)

  -- by the tests of the definition
  pub relation_is : {a b c d e g : Bool}
      → is (sign (bytes "==")) (peek_in (drop at s)) ≡ a → is (sign (bytes "/=")) (peek_in (drop at s)) ≡ b → is (sign (bytes "<")) (peek_in (drop at s)) ≡ c
      → is (sign (bytes "<=")) (peek_in (drop at s)) ≡ d → is (sign (bytes ">")) (peek_in (drop at s)) ≡ e → is (sign (bytes ">=")) (peek_in (drop at s)) ≡ g
      → rel_of (peek_in (drop at s))
      ≡ cond a (some Equal) (cond b (some Unequal) (cond c (some Less) (cond d (some AtMost) (cond e (some Greater) (cond g (some AtLeast) none)))))
  relation_is ea eb ec ed ee eg =
      λ i. cond (ea i) (some Equal)
      (cond (eb i) (some Unequal)
      (cond (ec i) (some Less) (cond (ed i) (some AtMost) (cond (ee i) (some Greater) (cond (eg i) (some AtLeast) none)))))

-- ---- the relation and the right side

pub relation_small : (r : Relation) → relation_number r ≤ 5
relation_small Equal = omega arith
relation_small Unequal = omega arith
relation_small Less = omega arith
relation_small AtMost = omega arith
relation_small Greater = omega arith
relation_small AtLeast = omega arith

-- what follows a relation
abbrev side : ℕ → Relation → Reader (List ℕ) (Relation × Expr)
side f q w = next (read_expr peek_in skip_in f w) (λ y x. next (expects peek_in skip_in ")" x) (λ _ u. next (wants peek_in skip_in "then" u)
    (λ _ z. done (q, y) z)))

module _ (T s : List ℕ) (at line place most : ℕ) (b a : List ℕ) where
  abbrev ReadsCompared : Option Got → List Entry → Parsed (List ℕ) (Relation × Expr) → Type 0
  ReadsCompared r t P = Reads (code_compared line t (variable_of T)) (λ c. worst t (variable_of T) (in_compared c)) s P place most b a r

  abbrev AnswersCompared : Option Got → Type 0
  AnswersCompared r = Answers read_right (code_compared line) in_compared 2 (suc at) T s at place most b a r

  pub compared_none : rel_of (peek_in (drop at s)) ≡ none → AnswersCompared None
  unfolding Reads
  compared_none h = record {
    reads = λ t d f lt. subst (λ (o : Perhaps Relation). ReadsCompared None t (next (given peek_in skip_in o (drop at s)) (side f))) (sym h) refl;
    within = tt;
  }

  -- with the relation q, and the place n after it
  module _ (q : Relation) (n : ℕ) (re : rel_of (peek_in (drop at s)) ≡ some q) (pa : Passes 1 s at n) (m : List ℕ) where
    compared_by : (r : Option Got) → ((t : List Entry) → Tabled T t → (f : ℕ) → 3 * (length s - n) + 2 < f → ReadsCompared r t (side f q (drop n s)))
        → Within s at place (suc at) r → AnswersCompared r
    compared_by r h w =
        let fr = pa.from in
        record {
          reads = λ t d f lt.
              subst (λ (o : Perhaps Relation). ReadsCompared r t (next (given peek_in skip_in o (drop at s)) (side f))) (sym re)
              (subst (λ (w : List ℕ). ReadsCompared r t (side f q w)) pa.left (h t d f (omega arith)));
          within = w;
        }

    pub right_unread : Answers (read_expr peek_in skip_in) (λ t v. code t v line) (mentions 0) 2 (suc n) T s n place most b m None → AnswersCompared None
    right_unread an =
        compared_by None
        (λ t d f lt.
        let v = variable_of T in
        reads_none (code_compared line t v) (λ c. worst t v (in_compared c)) s place most b a (code t v line) (λ e. worst t v (mentions 0 e))
        (read_expr peek_in skip_in f (drop n s)) (since_none place most b)
        (λ y x. next (expects peek_in skip_in ")" x) (λ _ u. next (wants peek_in skip_in "then" u) (λ _ z. done (q, y) z))) m (an.reads t d f lt))
        tt

    module _ (g : Got) (an : Answers (read_expr peek_in skip_in) (λ t v. code t v line) (mentions 0) 2 (suc n) T s n place most b m (Some g)) where
      pub right_unclosed : stands 41 (drop g.at s) ≡ false → AnswersCompared None
      right_unclosed absent =
          compared_by None
          (λ t d f lt.
          let v = variable_of T in
          reads_unclosed (code_compared line t v) (λ c. worst t v (in_compared c)) s place most b a (code t v line) (λ e. worst t v (mentions 0 e))
          (read_expr peek_in skip_in f (drop n s)) (λ y u. next (wants peek_in skip_in "then" u) (λ _ z. done (q, y) z)) m g (since_none place most b)
          (an.reads t d f lt) 41 absent)
          tt

      module _ (g' : Got) (se : Closes 41 s g g') where
        pub right_only : NotRead s g'.at (passes (bytes "then")) → AnswersCompared None
        unfolding Reads
        right_only th =
            compared_by None
            (λ t d f lt.
            let v = variable_of T in
            let c = code_compared line t v in
            let rank : Relation × Expr → ℕ = λ c. worst t v (in_compared c) in
            reads_closed c rank s place most b a (code t v line) (λ e. worst t v (mentions 0 e)) (read_expr peek_in skip_in f (drop n s))
            (λ y u. next (wants peek_in skip_in "then" u) (λ _ z. done (q, y) z)) m g (since_none place most b) (an.reads t d f lt) None se
            (λ y le so. rw (wants_not "then" th refl le)))
            tt

        -- and its jump, with the relation's number
        pub compared_answers : (z k : ℕ) (r : Got) → ReadTo Any s g'.at (passes (bytes "then")) z → k ≡ relation_number q
            → Emits 1 (15 ∷ k ∷ []) (record { at = z; place = g'.place; rank = g'.rank }) m a r → AnswersCompared (Some r)
        unfolding words
        compared_answers z k r th ek em =
            let fr = pa.from in
            let on = stands_onward (bytes "then") th (omega arith) in
            let w = lies_closed n place (suc n) se an.within in
            let h : Got = record { at = z; place = g'.place; rank = g'.rank } in
            compared_by (Some r)
            (λ t d f lt.
            let v = variable_of T in
            let c = code_compared line t v in
            let rank : Relation × Expr → ℕ = λ c. worst t v (in_compared c) in
            let em' : Emits 1 (words (jump_unless q 0 ∷ [])) h m a r = subst (λ (i : ℕ). Emits 1 (15 ∷ i ∷ []) h m a r) (omega (arith, ek)) em in
            reads_closed c rank s place most b a (code t v line) (λ e. worst t v (mentions 0 e)) (read_expr peek_in skip_in f (drop n s))
            (λ y u. next (wants peek_in skip_in "then" u) (λ _ z. done (q, y) z)) m g (since_none place most b) (an.reads t d f lt) (Some r) se
            (λ y le so.
            rw (wants_there "then" th refl)
            (subst (λ (i : ℕ). Reads c rank s (done (q, y) (drop i s)) place most b a (Some r)) em'.at
            (reads_done c rank s place most b a (q, y) r (omega (arith, em'.at, th.within)) (since_emits (jump_unless q 0 ∷ []) {g = h} so em') refl (omega arith)))))
            (let l : Lies s (n + 1 + 1) place (suc n) h = record { from = omega (arith, w.from, on); inside = th.within; room = omega (arith, w.room, on) } in
            lies_from s (n + 1 + 1) (place + 1) (suc n) at place (suc at) r (omega arith) (omega arith)
            (lies_emits 1 (15 ∷ k ∷ []) h m a r s (n + 1 + 1) place (suc n) em l))

-- ---- the condition

-- the same reader, with what follows the left side in one
abbrev sides : Expr → Relation × Expr → Line
sides x c = inside (when x c.0 c.1)

when_shape : (f : ℕ) (P : Parsed (List ℕ) Expr)
    → next P (λ x w. next (read_rel peek_in skip_in w)
    (λ q u. next (read_expr peek_in skip_in f u) (λ y z. next (expects peek_in skip_in ")" z) (λ _ z₁. next (wants peek_in skip_in "then" z₁)
    (λ _ z₂. done (inside (when x q y)) z₂)))))
    ≡ next P (λ x u. next (read_right f u) (λ c v. done (sides x c) v))
when_shape f P = next_same P _ _ (λ x w. sym (
    next_assoc (read_rel peek_in skip_in w)
    (λ q u. next (read_expr peek_in skip_in f u) (λ y z. next (expects peek_in skip_in ")" z) (λ _ z₁. next (wants peek_in skip_in "then" z₁)
    (λ _ z₂. done (q, y) z₂))))
    (λ c v. done (sides x c) v)
    ∙ next_same (read_rel peek_in skip_in w) _ _ (λ q u.
    next_assoc (read_expr peek_in skip_in f u)
    (λ y z. next (expects peek_in skip_in ")" z) (λ _ z₁. next (wants peek_in skip_in "then" z₁) (λ _ z₂. done (q, y) z₂)))
    (λ c v. done (sides x c) v)
    ∙ next_same (read_expr peek_in skip_in f u) _ _ (λ y z.
    next_assoc (expects peek_in skip_in ")" z) (λ _ z₁. next (wants peek_in skip_in "then" z₁) (λ _ z₂. done (q, y) z₂)) (λ c v. done (sides x c) v)
    ∙ next_same (expects peek_in skip_in ")" z) _ _
    (λ _ z₁. next_assoc (wants peek_in skip_in "then" z₁) (λ _ z₂. done (q, y) z₂) (λ c v. done (sides x c) v))))))

module _ (T s : List ℕ) (line place : ℕ) (b : List ℕ) where
  -- nothing is read
  condition_not : (a : List ℕ) → ((t : List Entry) → Tabled T t → (f : ℕ) → 3 * length s + 4 ≤ f → read_when peek_in skip_in f s ≡ broken)
      → Compiles (read_when peek_in skip_in) T s line place b a None
  unfolding Writes
  condition_not a h = record {
    reads = λ t d f lt. subst (λ (P : Parsed (List ℕ) Line). Writes t (variable_of T) line s P place b a None) (sym (h t d f lt)) refl;
    within = bounded_none s place;
  }

  pub condition_unsaid : (a : List ℕ) → NotRead s 0 (passes (bytes "if")) → Compiles (read_when peek_in skip_in) T s line place b a None
  unfolding read_when
  condition_unsaid a gi = condition_not a (λ t d f lt. rw (wants_not "if" gi refl (omega arith)))

  module _ {x : ℕ} (gi : ReadTo Any s 0 (passes (bytes "if")) x) where
    pub condition_unopened : (a : List ℕ) → NotRead s x (passes (bytes "(")) → Compiles (read_when peek_in skip_in) T s line place b a None
    unfolding read_when
    condition_unopened a go = condition_not a (λ t d f lt. rw (wants_there "if" gi refl, expects_not "(" go refl gi.within))

    module _ {y : ℕ} (go : ReadTo Any s x (passes (bytes "(")) y) (m : List ℕ) where
      -- what follows the bracket
      when_left : (f : ℕ) → next (read_expr peek_in skip_in f (drop y s)) (λ e w. next (read_right f w) (λ c u. done (sides e c) u)) ≡ read_when peek_in skip_in f s
      unfolding read_when
      when_left f = sym (rw (wants_there "if" gi refl, expects_there "(" go refl) (when_shape f (read_expr peek_in skip_in f (drop y s))))

      pub condition_unread : Answers (read_expr peek_in skip_in) (λ t v. code t v line) (mentions 0) 2 (suc y) T s y place 0 b m None
          → Compiles (read_when peek_in skip_in) T s line place b m None
      condition_unread an = condition_not m (λ t d f lt.
          let v = variable_of T in
          sym (when_left f)
          ∙ ap (λ (P : Parsed (List ℕ) Expr). next P (λ e w. next (read_right f w) (λ c u. done (sides e c) u)))
          (read_none (code t v line) (λ e. worst t v (mentions 0 e)) s place 0 b m (read_expr peek_in skip_in f (drop y s)) (an.reads t d f (omega arith))))

      module _ (a : List ℕ) (g : Got) (r : Option Got) (room : 2 * (place + 2 * length s) ≤ length b)
          (an : Answers (read_expr peek_in skip_in) (λ t v. code t v line) (mentions 0) 2 (suc y) T s y place 0 b m (Some g))
          (co : Answers read_right (code_compared line) in_compared 2 (suc g.at) T s g.at g.place (level g.rank) m a r) where
        condition_bounded : Bounded s place r
        unfolding Bounded
        condition_bounded = by_right r co.within
          where
            by_right : (r : Option Got) → Within s g.at g.place (suc g.at) r → Bounded s place r
            by_right None w = tt
            by_right (Some h) w = (w.inside, omega (arith, w.inside, w.room, an.within.inside, an.within.room))

        condition_reads : (t : List Entry) → Tabled T t → (f : ℕ) → 3 * length s + 4 ≤ f
            → Reads (code_line t (variable_of T) line) (rank_line t (variable_of T)) s (read_when peek_in skip_in f s) place 0 b a r
        unfolding code_line assigned_rank in_line words
        condition_reads t d f lt =
            let v = variable_of T in
            subst (λ (P : Parsed (List ℕ) Line). Reads (code_line t v line) (rank_line t v) s P place 0 b a r) (when_left f)
            (in_turn (code t v line) (λ e. worst t v (mentions 0 e)) (code_compared line t v) (λ c. worst t v (in_compared c)) (code_line t v line)
            (rank_line t v) sides []
            (λ e c. rw (append-nil, append_assoc)) (λ e c. omega (arith, worst_append t v (mentions 0 e) (mentions 0 c.1)))
            s place 0 b m m a g g r (read_expr peek_in skip_in f (drop y s)) (read_right f) (an.reads t d f (omega arith)) (emits_none g m)
            (co.reads t d f (omega arith)))

        pub condition_compiles : Compiles (read_when peek_in skip_in) T s line place b a r
        condition_compiles = record {
          reads = λ t d f lt. reads_writes t (variable_of T) line s (read_when peek_in skip_in f s) place b b a r room refl condition_bounded
              (condition_reads t d f lt);
          within = condition_bounded;
        }
