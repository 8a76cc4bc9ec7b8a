-- Factors and references: what their readers answer, by how they begin, from what the readers that they call answer.
use mathlib.Core.Path.{◌≡◌, refl, sym, ◌∙◌, ap, subst}
use mathlib.Core.Bool.{false, cond}
use mathlib.Core.List.{List, [], ◌∷◌, ◌++◌}
use Prim.Native.Nat.{ℕ, suc, ◌+◌, ◌-◌, ◌*◌, ◌≤◌, ◌<◌, max}
use native.Mathlib.Omega.{arith}
use lib.Dec.{leb}
use lib.ListN.{length, drop}
use Rattle.std.specs.Prelude.{Option, Some, None, MatchOption}
use Rattle.syntax.specs.declared.Rank.{Rank}
use Rattle.syntax.specs.Ranks.{level}
use Rattle.syntax.specs.declared.Function.{Function}
use Rattle.syntax.specs.declared.Function.TheVariants.{Rdiv, Max}
use Rattle.syntax.specs.Grammar.{Expr, Factor, literal, cell, call, brackets, Ref, single, element, Subscripts, subscript, subscripts}
use Rattle.syntax.specs.Bytes.{choose}
use Rattle.syntax.specs.Known.{Entry}
use Rattle.syntax.specs.Conditions.{refers, mentions, in_factor, in_ref}
use Rattle.syntax.specs.Reader.{Parsed, done, next, expects, peek_in, skip_in, read_expr, read_factor, read_ref}
use Rattle.code.specs.Instr.{Instr, operation, words}
use Rattle.code.specs.Compile.{calls, code, code_factor, code_ref}
use Rattle.names.specs.Table.{variable_of, Tabled}
use Rattle.parts.specs.Answer.{rank_of, worst, Reads, Within, Answers}
use Rattle.expressions.specs.Readers.{read_arguments, read_indices}
use Rattle.parts.specs.Parts.{text_at, Passes, stands, Joins, begins, begun, Opens, Closes, Emits, Ranked, reads_of, Fetches, pushes, literal_rank, Pushes, Loads}
use Rattle.parts.specs.declared.Got.{Got}
use Rattle.parts.specs.declared.Beginning.{Beginning}
use Rattle.parts.specs.declared.Beginning.TheVariants.{Literal, Bracket, Call, Name, Element}
use Rattle.parts.specs.declared.Begun.{Begun}
use Rattle.parts.specs.declared.Fetch.TheVariants.{Cell, Indexed, Place}
use Rattle.parts.specs.declared.Joined.{Joined}
use Rattle.parts.specs.declared.Joint.TheVariants.{Neither, First, Second}
use Rattle.parts.proofs.Laws.{worst_append, fueled, Since, since_none, since_rank, since_emits, reads_done, reads_next, reads_none, reads_last, reads_closed, reads_unclosed, reads_as}
use Rattle.parts.proofs.Leaves.{fetches_emits}
use Rattle.parts.proofs.Spans.{lies_from, within_from, lies_emits, lies_closed}
use Rattle.expressions.proofs.Shapes.{neither_stands, first_stands, second_stands, named, ref_name, ref_element, ref_none, shape, factor_shape, element_shape}

-- ---- a factor, by how it begins

-- the tokens that it begins with
pub passed : (s : List ℕ) (at : ℕ) (j : Begun) → Opens s at j → (w : Beginning) → j.beginning ≡ w → Passes (begun w) s at j.next
passed s at j be w e = subst (λ (i : Beginning). Passes (begun i) s at j.next) e be.next

module _ (T s : List ℕ) (at depth line place most : ℕ) (b a : List ℕ) where
  abbrev ReadsFactor : Parsed (List ℕ) Factor → List Entry → Option Got → Type 0
  ReadsFactor p t r = Reads (code_factor t (variable_of T) line) (λ x. worst t (variable_of T) (in_factor depth x)) s p place most b a r

  abbrev AnswersFactor : Option Got → Type 0
  AnswersFactor r = Answers (read_factor peek_in skip_in) (λ t v. code_factor t v line) (in_factor depth) 0 (suc at) T s at place most b a r

  by_shape : (r : Option Got) (w : Option Beginning) → begins (drop at s) ≡ w
      → ((t : List Entry) → Tabled T t → (f : ℕ) → 3 * (length s - at) ≤ f → ReadsFactor (shape w f (drop at s)) t r) → Within s at place (suc at) r
      → AnswersFactor r
  by_shape r w e h wi = record {
    reads = λ t d.
        fueled (λ (f : ℕ). ReadsFactor (read_factor peek_in skip_in f (drop at s)) t r) (3 * (length s - at) + 0)
        (λ f le. subst (λ (p : Parsed (List ℕ) Factor). ReadsFactor p t r)
        (sym (factor_shape f (drop at s) ∙ ap (λ (i : Option Beginning). shape i f (drop at s)) e)) (h t d f (omega arith)));
    within = wi;
  }

  -- ---- a reference

  abbrev ReadsRef : Parsed (List ℕ) Ref → List Entry → Option Got → Type 0
  ReadsRef p t r = Reads (code_ref t (variable_of T) line) (λ x. worst t (variable_of T) (in_ref depth x)) s p place most b a r

  abbrev AnswersRef : Option Got → Type 0
  AnswersRef r = Answers (read_ref peek_in skip_in) (λ t v. code_ref t v line) (in_ref depth) 0 (suc at) T s at place most b a r

  pub reference_none : named (begins (drop at s)) ≡ false → AnswersRef None
  unfolding Reads
  reference_none n = record {
    reads = λ t d f lt. subst (λ (p : Parsed (List ℕ) Ref). ReadsRef p t None) (sym (ref_none (drop at s) f n)) refl;
    within = tt;
  }

  pub factor_none : begins (drop at s) ≡ None → AnswersFactor None
  unfolding Reads
  factor_none e = by_shape None None e (λ t d f le. refl) tt

  module _ (j : Begun) (be : Opens s at j) where
    begins_with : (w : Beginning) → j.beginning ≡ w → begins (drop at s) ≡ Some w
    begins_with w e = be.beginning ∙ ap (λ (i : Beginning). Some i) e

    pub factor_literal : (g : Got) → j.beginning ≡ Literal → Pushes s at place most b a g → AnswersFactor (Some g)
    unfolding code mentions worst
    factor_literal g e h =
        let x = text_at s at in
        by_shape (Some g) (Some Literal) (begins_with Literal e) (λ t d f le. reads_as pushes literal_rank (code_factor t (variable_of T) line)
        (λ y. worst t (variable_of T) (in_factor depth y)) s place most b a (Some g) x (literal x) (skip_in (drop at s)) refl (omega arith) h.reads)
        h.within

    pub factor_name : (g : Got) → j.beginning ≡ Name → Loads T s at line place most b a g → AnswersFactor (Some g)
    unfolding code mentions worst
    factor_name g e h =
        let p = passed s at j be Name e in
        let fr = p.from in
        let wi = p.within in
        let x = text_at s at in
        by_shape (Some g) (Some Name) (begins_with Name e) (λ t d f le.
        let v = variable_of T in
        fueled (λ (f : ℕ). ReadsFactor (shape (Some Name) f (drop at s)) t (Some g)) 0 (λ f _.
        subst (λ (q : Parsed (List ℕ) Ref). ReadsFactor (next q (λ r v. done (cell r) v)) t (Some g)) (sym (ref_name (drop at s) f (begins_with Name e)))
        (reads_as (λ y. reads_of t v line y Cell ∷ []) (λ y. rank_of t v (refers y 0)) (code_factor t v line)
        (λ y. worst t v (in_factor depth y)) s place most b a (Some g) x (cell (single x)) (skip_in (drop at s)) refl (omega arith)
        (h.reads t d))) f (omega arith))
        h.within

    -- a bracket: an expression, and its closing bracket
    module _ (inner most' : ℕ) (e : j.beginning ≡ Bracket) (ei : inner ≡ suc depth) (em : most' ≡ max most (cond (leb inner 8) 0 1)) where
      abbrev AnswersInner : Option Got → Type 0
      AnswersInner g = Answers (read_expr peek_in skip_in) (λ t v. code t v line) (mentions inner) 2 (suc j.next) T s j.next place most' b a g

      bracketed : (r : Option Got)
          → ((t : List Entry) → Tabled T t → (f : ℕ) → 3 * (length s - j.next) + 2 < f
          → ReadsFactor (next (read_expr peek_in skip_in f (drop j.next s)) (λ e v. next (expects peek_in skip_in ")" v) (λ _ w. done (brackets e) w))) t r)
          → Within s at place (suc at) r → AnswersFactor r
      bracketed r h w =
          let p = passed s at j be Bracket e in
          let fr = p.from in
          let wi = p.within in
          by_shape r (Some Bracket) (begins_with Bracket e) (λ t d f le.
          subst (λ (u : List ℕ). ReadsFactor
          (next (read_expr peek_in skip_in f u) (λ e v. next (expects peek_in skip_in ")" v) (λ _ w. done (brackets e) w))) t r)
          p.left (h t d f (omega arith)))
          w

      pub bracket_unread : AnswersInner None → AnswersFactor None
      bracket_unread h =
          bracketed None
          (λ t d f lt.
          let v = variable_of T in
          reads_none (code_factor t v line) (λ x. worst t v (in_factor depth x)) s place most b a (code t v line) (λ x. worst t v (mentions inner x))
          (read_expr peek_in skip_in f (drop j.next s)) (since_rank (since_none place most b) (cond (leb inner 8) 0 1) em)
          (λ x v. next (expects peek_in skip_in ")" v) (λ _ w. done (brackets x) w)) a (h.reads t d f lt))
          tt

      pub bracket_read : (g : Got) (r : Option Got) → AnswersInner (Some g) → MatchOption r (stands 41 (drop g.at s) ≡ false) (Closes 41 s g) → AnswersFactor r
      unfolding code mentions worst words
      bracket_read g None h absent =
          bracketed None
          (λ t d f lt.
          let v = variable_of T in
          reads_unclosed (code_factor t v line) (λ x. worst t v (in_factor depth x)) s place most b a (code t v line) (λ x. worst t v (mentions inner x))
          (read_expr peek_in skip_in f (drop j.next s)) (λ x w. done (brackets x) w) a g
          (since_rank (since_none place most b) (cond (leb inner 8) 0 1) em) (h.reads t d f lt) 41 absent)
          tt
      bracket_read g (Some g') h se =
          let p = passed s at j be Bracket e in
          let fr = p.from in
          bracketed (Some g')
          (λ t d f lt.
          let v = variable_of T in
          reads_closed (code_factor t v line) (λ x. worst t v (in_factor depth x)) s place most b a (code t v line) (λ x. worst t v (mentions inner x))
          (read_expr peek_in skip_in f (drop j.next s)) (λ x w. done (brackets x) w) a g
          (since_rank (since_none place most b) (cond (leb inner 8) 0 1) em) (h.reads t d f lt) (Some g') se
          (λ x le so.
          reads_done (code_factor t v line) (λ x. worst t v (in_factor depth x)) s place most b a (brackets x) g' le so refl
          (ap (λ (i : ℕ). max (cond (leb i 8) 0 1) (worst t v (mentions i x))) (sym ei) ∙ omega arith)))
          (lies_from s (j.next + 1) place (suc j.next) at place (suc at) g' (omega arith) (omega arith) (lies_closed j.next place (suc j.next) se h.within))

    pub factor_call : (q : Function) (r : Option Got) → j.beginning ≡ Call q
        → Answers (read_arguments q) (λ t v. code_factor t v line) (in_factor depth) 2 (suc j.next) T s j.next place most b a r → AnswersFactor r
    factor_call q r e h =
        let p = passed s at j be (Call q) e in
        let fr = p.from in
        let wi = p.within in
        by_shape r (Some (Call q)) (begins_with (Call q) e)
        (λ t d f le. subst (λ (u : List ℕ). ReadsFactor (read_arguments q f u) t r) p.left (h.reads t d f (omega arith)))
        (within_from s j.next place (suc j.next) at place (suc at) r (omega arith) (omega arith) h.within)

    -- what the reader of the name's subscripts answers
    abbrev AnswersIndices : List ℕ → Option Got → Type 0
    AnswersIndices m g =
        Answers read_indices (λ t v i. code_ref t v line (element (text_at s at) i)) (λ i. in_ref depth (element (text_at s at) i)) 2 (suc j.next) T s j.next place
        most b m g

    elements : (r : Option Got) → j.beginning ≡ Element
        → ((t : List Entry) → Tabled T t → (f : ℕ) → 3 * (length s - j.next) + 2 < f
        → ReadsFactor (next (read_indices f (drop j.next s)) (λ i v. done (cell (element (text_at s at) i)) v)) t r)
        → Within s at place (suc at) r → AnswersFactor r
    elements r e h w =
        let p = passed s at j be Element e in
        let fr = p.from in
        let wi = p.within in
        by_shape r (Some Element) (begins_with Element e) (λ t d f le.
        fueled (λ (f : ℕ). 3 * (length s - at) ≤ f → ReadsFactor (shape (Some Element) f (drop at s)) t r) 0 (λ f _ le.
        subst (λ (q : Parsed (List ℕ) Factor). ReadsFactor q t r)
        (sym (element_shape f (drop at s) (begins_with Element e)
        ∙ ap (λ (u : List ℕ). next (read_indices f u) (λ i v. done (cell (element (text_at s at) i)) v)) (sym p.left)))
        (h t d f (omega arith))) f (omega arith) le)
        w

    pub element_unread : j.beginning ≡ Element → AnswersIndices a None → AnswersFactor None
    element_unread e h =
        let x = text_at s at in
        elements None e
        (λ t d f lt.
        let v = variable_of T in
        reads_none (code_factor t v line) (λ y. worst t v (in_factor depth y)) s place most b a (λ i. code_ref t v line (element x i))
        (λ i. worst t v (in_ref depth (element x i))) (read_indices f (drop j.next s)) (since_none place most b)
        (λ i w. done (cell (element x i)) w) a (h.reads t d f lt))
        tt

    pub factor_element : (m : List ℕ) (g r : Got) → j.beginning ≡ Element → AnswersIndices m (Some g) → Fetches T s at line Indexed g m a r
        → AnswersFactor (Some r)
    unfolding code mentions
    factor_element m g r e h fe =
        let p = passed s at j be Element e in
        let fr = p.from in
        let x = text_at s at in
        elements (Some r) e
        (λ t d f lt.
        let v = variable_of T in
        let em = fetches_emits T s at line Indexed g m a r fe t d in
        reads_next (code_factor t v line) (λ y. worst t v (in_factor depth y)) s place most b a (λ i. code_ref t v line (element x i))
        (λ i. worst t v (in_ref depth (element x i))) (read_indices f (drop j.next s)) (since_none place most b)
        (λ i w. done (cell (element x i)) w) m g (Some r) (h.reads t d f lt)
        (λ i le so.
        subst (λ (n : ℕ). ReadsFactor (done (cell (element x i)) (drop n s)) t (Some r)) em.at
        (reads_done (code_factor t v line) (λ y. worst t v (in_factor depth y)) s place most b a (cell (element x i)) r (omega (arith, em.at))
        (since_emits (reads_of t v line x Indexed ∷ []) so em) refl (omega arith))))
        (lies_from s j.next (place + 1) (suc j.next) at place (suc at) r (omega arith) (omega arith)
        (lies_emits 1 _ g m a r s j.next place (suc j.next) fe.emits h.within))

    pub reference_element : (r : Option Got) → j.beginning ≡ Element → AnswersIndices a r → AnswersRef r
    reference_element r e h =
        let p = passed s at j be Element e in
        let fr = p.from in
        let wi = p.within in
        let x = text_at s at in
        record {
          reads = λ t d.
              let v = variable_of T in
              fueled (λ (f : ℕ). ReadsRef (read_ref peek_in skip_in f (drop at s)) t r) (3 * (length s - at) + 0)
              (λ f le. subst (λ (q : Parsed (List ℕ) Ref). ReadsRef q t r)
              (sym (ref_element (drop at s) f (begins_with Element e)
              ∙ ap (λ (u : List ℕ). next (read_indices f u) (λ i v. done (element x i) v)) (sym p.left)))
              (reads_last (code_ref t v line) (λ y. worst t v (in_ref depth y)) s place most b a (λ i. code_ref t v line (element x i))
              (λ i. worst t v (in_ref depth (element x i))) (read_indices f (drop j.next s)) (since_none place most b) (element x) r (λ i. refl)
              (λ i. omega arith) (h.reads t d f (omega arith))));
          within = within_from s j.next place (suc j.next) at place (suc at) r (omega arith) (omega arith) h.within;
        }

-- a reference without subscripts
pub reference_single : (T s : List ℕ) (at depth line place : ℕ) (most : Rank) (b : List ℕ) (j : Begun) → Opens s at j → (q : Rank) → j.beginning ≡ Name
    → Ranked T (text_at s at) 0 most q
    → Answers (read_ref peek_in skip_in) (λ t v. code_ref t v line) (in_ref depth) 0 (suc at) T s at place (level most) b b
    (Some (record { at = j.next; place = place; rank = q }))
unfolding code mentions worst
reference_single T s at depth line place most b j be q e eq =
    let p = passed s at j be Name e in
    let x = text_at s at in
    let g : Got = record { at = j.next; place = place; rank = q } in
    record {
      reads = λ t d.
          let v = variable_of T in
          let R : Parsed (List ℕ) Ref → Type 0 =
          λ p. Reads (code_ref t v line) (λ x. worst t v (in_ref depth x)) s p place (level most) b b (Some g) in
          fueled (λ (f : ℕ). R (read_ref peek_in skip_in f (drop at s))) (3 * (length s - at) + 0)
          (λ f le. subst R
          (sym (ref_name (drop at s) f (be.beginning ∙ ap (λ (i : Beginning). Some i) e) ∙ ap (done (single x)) (sym p.left)))
          (reads_done (code_ref t v line) (λ y. worst t v (in_ref depth y)) s place (level most) b b (single x) g p.within
          (since_rank (since_none place (level most) b) (rank_of t v (refers x 0)) (eq t d)) refl (omega arith)));
      within = record { from = omega (arith, p.from); inside = p.within; room = omega (arith, p.from) };
    }

-- ---- the two expressions of a function

call_words : (c : Function) (line : ℕ) → operation (calls line c) ∷ 0 ∷ [] ≡ words (calls line c ∷ [])
unfolding words
call_words Rdiv line = refl
call_words Max line = refl

module _ (c : Function) (T s : List ℕ) (at depth line place most : ℕ) (b m a : List ℕ) (inner most' : ℕ)
    (ei : inner ≡ suc depth) (eo : most' ≡ max most (cond (leb inner 8) 0 1)) where
  abbrev AnswersCall : Option Got → Type 0
  AnswersCall r = Answers (read_arguments c) (λ t v. code_factor t v line) (in_factor depth) 2 (suc at) T s at place most b a r

  -- the rank of the bracket and of the first
  abbrev before_comma : List Entry → Expr → ℕ
  before_comma t x = max (max 0 (cond (leb inner 8) 0 1)) (worst t (variable_of T) (mentions inner x))

  -- what comes after the first, and after the comma
  abbrev after_comma : ℕ → Expr → List ℕ → Parsed (List ℕ) Factor
  after_comma f x w = next (read_expr peek_in skip_in f w) (λ y u. next (expects peek_in skip_in ")" u) (λ _ z. done (call c x y) z))

  -- nothing was read
  pub call_unread : Answers (read_expr peek_in skip_in) (λ t v. code t v line) (mentions inner) 2 (suc at) T s at place most' b m None → AnswersCall None
  call_unread h = record {
    reads = λ t d f lt.
        let v = variable_of T in
        reads_none (code_factor t v line) (λ x. worst t v (in_factor depth x)) s place most b a (code t v line) (λ x. worst t v (mentions inner x))
        (read_expr peek_in skip_in f (drop at s)) (since_rank (since_none place most b) (cond (leb inner 8) 0 1) eo)
        (λ x u. next (expects peek_in skip_in "," u) (λ _. after_comma f x)) m (h.reads t d f lt);
    within = tt;
  }

  module _ (g : Got) (h : Answers (read_expr peek_in skip_in) (λ t v. code t v line) (mentions inner) 2 (suc at) T s at place most' b m (Some g)) where
    -- no comma follows
    pub call_unparted : stands 44 (drop g.at s) ≡ false → AnswersCall None
    call_unparted absent = record {
      reads = λ t d f lt.
          let v = variable_of T in
          reads_unclosed (code_factor t v line) (λ x. worst t v (in_factor depth x)) s place most b a (code t v line) (λ x. worst t v (mentions inner x))
          (read_expr peek_in skip_in f (drop at s)) (after_comma f) m g
          (since_rank (since_none place most b) (cond (leb inner 8) 0 1) eo) (h.reads t d f lt) 44 absent;
      within = tt;
    }

    module _ (g₁ : Got) (se : Closes 44 s g g₁) (m₂ : List ℕ) where
      abbrev AnswersSecond : Option Got → Type 0
      AnswersSecond r =
          Answers (read_expr peek_in skip_in) (λ t v. code t v line) (mentions inner) 2 (suc g₁.at) T s g₁.at g₁.place (level g₁.rank) m m₂ r

      by_second : (r : Option Got)
          → ((t : List Entry) → Tabled T t → (f : ℕ) → 3 * (length s - g₁.at) + 2 < f → (x : Expr)
          → Since place most b (code t (variable_of T) line x) (before_comma t x) g₁.place (level g₁.rank) m
          → Reads (code_factor t (variable_of T) line) (λ x. worst t (variable_of T) (in_factor depth x)) s (after_comma f x (drop g₁.at s)) place most b a r)
          → Within s at place (suc at) r → AnswersCall r
      by_second r go w = record {
        reads = λ t d f lt.
            let v = variable_of T in
            let fr = se.passed.from in
            let lo = h.within.from in
            reads_closed (code_factor t v line) (λ x. worst t v (in_factor depth x)) s place most b a (code t v line) (λ x. worst t v (mentions inner x))
            (read_expr peek_in skip_in f (drop at s)) (after_comma f) m g
            (since_rank (since_none place most b) (cond (leb inner 8) 0 1) eo) (h.reads t d f lt) r se
            (λ x le so. go t d f (omega arith) x so);
        within = w;
      }

      pub second_unread : AnswersSecond None → AnswersCall None
      second_unread h₂ =
          by_second None
          (λ t d f lt x so.
          let v = variable_of T in
          reads_none (code_factor t v line) (λ x. worst t v (in_factor depth x)) s place most b a (code t v line) (λ x. worst t v (mentions inner x))
          (read_expr peek_in skip_in f (drop g₁.at s)) so
          (λ y u. next (expects peek_in skip_in ")" u) (λ _ z. done (call c x y) z)) m₂ (h₂.reads t d f lt))
          tt

      module _ (g₂ : Got) (h₂ : AnswersSecond (Some g₂)) where
        pub call_unclosed : stands 41 (drop g₂.at s) ≡ false → AnswersCall None
        call_unclosed absent =
            by_second None
            (λ t d f lt x so.
            let v = variable_of T in
            reads_unclosed (code_factor t v line) (λ x. worst t v (in_factor depth x)) s place most b a (code t v line) (λ x. worst t v (mentions inner x))
            (read_expr peek_in skip_in f (drop g₁.at s)) (λ y z. done (call c x y) z) m₂ g₂ so (h₂.reads t d f lt) 41 absent)
            tt

        pub call_answers : (g₃ r : Got) (op : ℕ) → op ≡ operation (calls line c) → Closes 41 s g₂ g₃ → Emits 1 (op ∷ 0 ∷ []) g₃ m₂ a r → AnswersCall (Some r)
        unfolding code mentions worst words
        call_answers g₃ r op eop se₂ em =
            by_second (Some r)
            (λ t d f lt x so.
            let v = variable_of T in
            let em' : Emits 1 (words (calls line c ∷ [])) g₃ m₂ a r =
            subst (λ (ws : List ℕ). Emits 1 ws g₃ m₂ a r) (ap (λ (o : ℕ). o ∷ 0 ∷ []) eop ∙ call_words c line) em in
            reads_closed (code_factor t v line) (λ x. worst t v (in_factor depth x)) s place most b a (code t v line) (λ x. worst t v (mentions inner x))
            (read_expr peek_in skip_in f (drop g₁.at s)) (λ y z. done (call c x y) z) m₂ g₂ so (h₂.reads t d f lt) (Some r) se₂
            (λ y le so'.
            subst (λ (n : ℕ). Reads (code_factor t v line) (λ x. worst t v (in_factor depth x)) s (done (call c x y) (drop n s)) place most b a (Some r)) em.at
            (reads_done (code_factor t v line) (λ x. worst t v (in_factor depth x)) s place most b a (call c x y) r (omega (arith, em.at))
            (since_emits (calls line c ∷ []) so' em') refl
            (ap (λ (i : ℕ). max (cond (leb i 8) 0 1) (worst t v (mentions i x ++ mentions i y))) (sym ei)
            ∙ omega (arith, worst_append t v (mentions inner x) (mentions inner y))))))
            (let w = lies_closed at place (suc at) se h.within in
            lies_from s (g₁.at + 1) (g₁.place + 1) (suc g₁.at) at place (suc at) r (omega (arith, w.from)) (omega (arith, w.room))
            (lies_emits 1 (op ∷ 0 ∷ []) g₃ m₂ a r s (g₁.at + 1) g₁.place (suc g₁.at) em (lies_closed g₁.at g₁.place (suc g₁.at) se₂ h₂.within)))

-- ---- the subscripts of a name

-- the ranks of a name, its bracket and its subscripts, as they are met
swapped_ranks : (k w z : ℕ) → max k (max w z) ≡ max (max w k) z
swapped_ranks k w z = omega arith

all_ranks : (k o w z : ℕ) → max k (max o (max w z)) ≡ max (max (max (max 0 o) w) k) z
all_ranks k o w z = let e : max o (max w z) ≡ max (max (max 0 o) w) z = omega arith in rw e (swapped_ranks k (max (max 0 o) w) z)

module _ (T s : List ℕ) (at depth line place most name inner most' : ℕ) (b m a : List ℕ) (ei : inner ≡ suc depth)
    (eo : most' ≡ max most (cond (leb inner 8) 0 1)) where
  abbrev x : List ℕ
  x = text_at s name

  abbrev code_of : List Entry → Subscripts → List Instr
  code_of t i = code_ref t (variable_of T) line (element x i)

  abbrev rank_within : List Entry → Subscripts → ℕ
  rank_within t i = worst t (variable_of T) (in_ref depth (element x i))

  abbrev AnswersSubscripts : Option Got → Type 0
  AnswersSubscripts r =
      Answers read_indices (λ t v i. code_ref t v line (element x i)) (λ i. in_ref depth (element x i)) 2 (suc at) T s at place most b a r

  -- the rank of the bracket and of the first
  abbrev first_rank : List Entry → Expr → ℕ
  first_rank t e = max (max 0 (cond (leb inner 8) 0 1)) (worst t (variable_of T) (mentions inner e))

  -- what comes after the first
  abbrev after_first : ℕ → Expr → List ℕ → Parsed (List ℕ) Subscripts
  after_first f e u =
      choose (stands 44 u)
      (λ _. next (read_expr peek_in skip_in f (skip_in u)) (λ e' w. next (expects peek_in skip_in ")" w) (λ _ z. done (subscripts e e') z)))
      (λ _. next (expects peek_in skip_in ")" u) (λ _ w. done (subscript e) w))

  -- nothing was read
  pub subscripts_unread : Answers (read_expr peek_in skip_in) (λ t v. code t v line) (mentions inner) 2 (suc at) T s at place most' b m None
      → AnswersSubscripts None
  subscripts_unread h = record {
    reads = λ t d f lt.
        let v = variable_of T in
        reads_none (code_of t) (rank_within t) s place most b a (code t v line) (λ e. worst t v (mentions inner e)) (read_expr peek_in skip_in f (drop at s))
        (since_rank (since_none place most b) (cond (leb inner 8) 0 1) eo) (after_first f) m (h.reads t d f lt);
    within = tt;
  }

  module _ (g : Got) (h : Answers (read_expr peek_in skip_in) (λ t v. code t v line) (mentions inner) 2 (suc at) T s at place most' b m (Some g))
      (j : Joined) (jo : Joins 44 41 s g.at j) where
    -- by what the code finds there
    by_first : (r : Option Got)
        → ((t : List Entry) → Tabled T t → (f : ℕ) → 3 * (length s - at) + 2 < f → (e : Expr)
        → Since place most b (code t (variable_of T) line e) (first_rank t e) g.place (level g.rank) m
        → Reads (code_of t) (rank_within t) s (after_first f e (drop g.at s)) place most b a r)
        → Within s at place (suc at) r → AnswersSubscripts r
    by_first r go wi = record {
      reads = λ t d f lt.
          let v = variable_of T in
          reads_next (code_of t) (rank_within t) s place most b a (code t v line) (λ e. worst t v (mentions inner e)) (read_expr peek_in skip_in f (drop at s))
          (since_rank (since_none place most b) (cond (leb inner 8) 0 1) eo) (after_first f) m g r (h.reads t d f lt) (λ e le so. go t d f lt e so);
      within = wi;
    }

    -- neither sign follows
    pub subscripts_unclosed : j.joint ≡ Neither → AnswersSubscripts None
    unfolding Reads
    subscripts_unclosed z =
        by_first None (λ t d f lt y so. let (no44, no41) = neither_stands 44 41 s g.at j jo z in rw (no44, no41)) tt

    -- one subscript
    pub subscripts_one : (q : Rank) → j.joint ≡ Second → Ranked T x 1 g.rank q → a ≡ m
        → AnswersSubscripts (Some (record { at = j.next; place = g.place; rank = q }))
    unfolding code mentions worst
    subscripts_one q z ra ea =
        let (no44, is41, pa) = second_stands 44 41 s g.at j jo z in
        let w = h.within in
        let r : Got = record { at = j.next; place = g.place; rank = q } in
        by_first (Some r) (λ t d f lt y so.
        let v = variable_of T in
        rw (no44, is41, ← pa.left)
        (reads_done (code_of t) (rank_within t) s place most b a (subscript y) r pa.within
        (subst (λ (l : List ℕ). Since place most b (code t v line y) (max (first_rank t y) (rank_of t v (refers x 1))) g.place (level q) l) (sym ea)
        (since_rank so (rank_of t v (refers x 1)) (ra t d)))
        refl (ap (λ (i : ℕ). max (rank_of t v (refers x 1)) (max (cond (leb i 8) 0 1) (worst t v (mentions i y)))) (sym ei) ∙ omega arith)))
        (record { from = omega (arith, w.from, pa.from); inside = pa.within; room = omega (arith, w.room, pa.from) })

    -- two subscripts
    module _ (q : Rank) (m₂ : List ℕ) (z : j.joint ≡ First) (ra : Ranked T x 2 g.rank q) where
      abbrev AnswersOther : Option Got → Type 0
      AnswersOther r = Answers (read_expr peek_in skip_in) (λ t v. code t v line) (mentions inner) 2 (suc j.next) T s j.next g.place (level q) m m₂ r

      by_other : (r : Option Got)
          → ((t : List Entry) → Tabled T t → (f : ℕ) → 3 * (length s - j.next) + 2 < f → (e : Expr)
          → Since place most b (code t (variable_of T) line e) (max (first_rank t e) (rank_of t (variable_of T) (refers x 2))) g.place (level q) m
          → Reads (code_of t) (rank_within t) s
          (next (read_expr peek_in skip_in f (drop j.next s)) (λ e' w. next (expects peek_in skip_in ")" w) (λ _ z. done (subscripts e e') z))) place most b a r)
          → Within s at place (suc at) r → AnswersSubscripts r
      by_other r go wi =
          let (is44, pa) = first_stands 44 41 s g.at j jo z in
          let w = h.within in
          let fr = pa.from in
          let wi' = pa.within in
          by_first r (λ t d f lt y so.
          rw (is44, ← pa.left) (go t d f (omega (arith, w.from)) y (since_rank so (rank_of t (variable_of T) (refers x 2)) (ra t d))))
          wi

      pub other_unread : AnswersOther None → AnswersSubscripts None
      other_unread h₂ =
          by_other None
          (λ t d f lt y so.
          let v = variable_of T in
          reads_none (code_of t) (rank_within t) s place most b a (code t v line) (λ e. worst t v (mentions inner e)) (read_expr peek_in skip_in f (drop j.next s)) so
          (λ e' w. next (expects peek_in skip_in ")" w) (λ _ z. done (subscripts y e') z)) m₂ (h₂.reads t d f lt))
          tt

      module _ (g₂ : Got) (h₂ : AnswersOther (Some g₂)) where
        pub other_unclosed : stands 41 (drop g₂.at s) ≡ false → AnswersSubscripts None
        other_unclosed absent =
            by_other None
            (λ t d f lt y so.
            let v = variable_of T in
            reads_unclosed (code_of t) (rank_within t) s place most b a (code t v line) (λ e. worst t v (mentions inner e))
            (read_expr peek_in skip_in f (drop j.next s)) (λ e' z. done (subscripts y e') z) m₂ g₂ so (h₂.reads t d f lt) 41 absent)
            tt

        -- and the place that is made of them
        pub subscripts_two : (g₃ r : Got) → Closes 41 s g₂ g₃ → Fetches T s name line Place g₃ m₂ a r → AnswersSubscripts (Some r)
        unfolding code mentions worst
        subscripts_two g₃ r se fe =
            let (is44, pa) = first_stands 44 41 s g.at j jo z in
            let w = h.within in
            let fr = pa.from in
            by_other (Some r)
            (λ t d f lt y so.
            let v = variable_of T in
            let em = fetches_emits T s name line Place g₃ m₂ a r fe t d in
            reads_closed (code_of t) (rank_within t) s place most b a (code t v line) (λ e. worst t v (mentions inner e))
            (read_expr peek_in skip_in f (drop j.next s)) (λ e' z. done (subscripts y e') z) m₂ g₂ so (h₂.reads t d f lt) (Some r) se
            (λ y' le so'.
            subst (λ (n : ℕ). Reads (code_of t) (rank_within t) s (done (subscripts y y') (drop n s)) place most b a (Some r)) em.at
            (reads_done (code_of t) (rank_within t) s place most b a (subscripts y y') r (omega (arith, em.at))
            (since_emits (reads_of t v line x Place ∷ []) so' em) refl
            (ap (λ (i : ℕ). max (rank_of t v (refers x 2)) (max (cond (leb i 8) 0 1) (worst t v (mentions i y ++ mentions i y')))) (sym ei)
            ∙ ap (λ (w : ℕ). max (rank_of t v (refers x 2)) (max (cond (leb inner 8) 0 1) w)) (worst_append t v (mentions inner y) (mentions inner y'))
            ∙ all_ranks (rank_of t v (refers x 2)) (cond (leb inner 8) 0 1) (worst t v (mentions inner y)) (worst t v (mentions inner y'))))))
            (lies_from s (j.next + 1) (g.place + 1) (suc j.next) at place (suc at) r (omega (arith, w.from)) (omega (arith, w.room))
            (lies_emits 1 _ g₃ m₂ a r s (j.next + 1) g.place (suc j.next) fe.emits (lies_closed j.next g.place (suc j.next) se h₂.within)))
