-- The parts of an assignment: what the name that it begins with is, the code of an update and of a store, and whether it is an update.
use mathlib.Core.Path.{◌≡◌, refl, sym, ◌∙◌, ap, subst}
use mathlib.Core.Bool.{Bool, true, false, cond, ◌&&◌}
use mathlib.Core.List.{List, [], ◌∷◌}
use Prim.Native.Nat.{ℕ, suc, ◌+◌, ◌-◌, ◌*◌, ◌≤◌, ◌<◌, max}
use native.Mathlib.Omega.{arith}
use lib.ListN.{length, drop, set}
use lib.Seq.{sets}
use Rattle.syntax.specs.Bytes.{same}
use Rattle.syntax.specs.Grammar.{Expr, Ref, single, element}
use Rattle.rules.specs.declared.Operator.{Operator}
use Rattle.std.specs.Prelude.{Option, Some, None}
use Rattle.rules.specs.declared.Class.{Class}
use Rattle.rules.specs.declared.Class.TheVariants.{Shared as shared, Lastprivate as lastprivate, Copied as copied, Reduction as reduction}
use Rattle.rules.specs.Loop.{operator}
use Rattle.syntax.specs.Known.{Entry, find}
use Rattle.syntax.specs.Meaning.{is_reduction, same_ref, repeated, operator_at, is_update}
use Rattle.syntax.specs.Ranks.{level}
use Rattle.syntax.specs.Conditions.{ref_name, mentions, in_ref}
use Rattle.syntax.specs.Reader.{Parsed, broken, done, next, text, peek_in, skip_in, read_expr, read_ref}
use Rattle.code.specs.Instr.{Instr, words}
use Rattle.code.specs.Compile.{code, code_ref, stores, checks, updates}
use Rattle.names.specs.declared.Named as names
use Rattle.names.specs.Table.{variable_of, Tabled, Unknown, Knows, Stands}
use Rattle.lexer.specs.declared.Tok.{Tok}
use Rattle.lexer.specs.Lex.{part, kind_number, Lexed}
use Rattle.lexer.proofs.Said.{sees_said}
use Rattle.parts.specs.Answer.{worst, Reads, Answers}
use Rattle.parts.specs.Parts.{stands, span_of, Emits}
use Rattle.parts.specs.declared.Got.{Got}
use Rattle.parts.proofs.Laws.{Since, since_none, since_rank, since_emit, since_at, since_emits, read_done, read_none, reads_done, reads_next, reads_none}
use Rattle.parts.proofs.Names.{span_found}
use Rattle.parts.proofs.Spans.{lies_from, lies_emits}
use Rattle.assignments.specs.declared.Target.{Target}
use Rattle.statements.specs.Statement.{Bounded}
use Rattle.updates.specs.declared.Left.{Left}
use Rattle.updates.specs.Forms.{depth_of, read_rest, Rests}
use Rattle.assignments.specs.Assignment.{operand_of, reduction_of, Named, Targets, Offers, test_words, Tests, code_update, code_store, Updates, Stores}
use Rattle.updates.proofs.Readings.{indexed, ref_read}

-- ---- small parts

module _ {b : Bool} {line operand place : ℕ} {before after : List ℕ} where
  pub tests_some : b ≡ true → after ≡ set (set before (2 * place) (12 + 32 * line)) (suc (2 * place)) operand
      → Tests b line operand place before after (place + 1)
  tests_some e h = record {
    next = ap (λ (c : Bool). place + cond c 1 0) (sym e);
    written = h ∙ ap (λ (c : Bool). sets before (2 * place) (test_words c line operand)) (sym e);
  }

  pub tests_none : b ≡ false → after ≡ before → Tests b line operand place before after place
  tests_none e h = record {
    next = omega arith ∙ ap (λ (c : Bool). place + cond c 1 0) (sym e);
    written = h ∙ ap (λ (c : Bool). sets before (2 * place) (test_words c line operand)) (sym e);
  }

pub test_few : (c : Bool) → cond c 1 0 ≤ 1
test_few true = omega arith
test_few false = omega arith

-- ---- the name

no_operand : (b : Bool) → 0 ≡ operand_of b 0 0
no_operand true = omega arith
no_operand false = refl

module _ (T s : List ℕ) {t u : Tok} (lt : Lexed s 0 t) (lu : Lexed s t.stop u) {b : Bool} (eb : b ≡ same (40 ∷ []) (part s u.start u.stop)) where
  bracket : b ≡ stands 40 (skip_in s)
  bracket = eb ∙ sym (ap (stands 40) lt.next ∙ sees_said lu (40 ∷ []) refl)

  pub targets_none : (kind_number t.kind ≡ 1 → ⊥) → Targets T s (record { subscripted = b; reduction = None; variable = false; operand = 0 })
  targets_none n = record { subscripted = bracket; named = λ h. absurd (n (sym lt.kinds ∙ h)) }

  module _ (v : Bool) (ev : v ≡ same (part s t.start t.stop) (variable_of T)) where
    named_as : (r : Target) → ((t' : List Entry) → Tabled T t' → Named t' (variable_of T) (part s t.start t.stop) r)
        → (t' : List Entry) → Tabled T t' → Named t' (variable_of T) (text (peek_in s)) r
    named_as r h t' d = subst (λ (x : List ℕ). Named t' (variable_of T) x r) (sym lt.bytes) (h t' d)

    pub targets_unknown : ((t' : List Entry) → Tabled T t' → Unknown t' (part s t.start t.stop))
        → Targets T s (record { subscripted = b; reduction = None; variable = v; operand = 0 })
    targets_unknown k = record {
      subscripted = bracket;
      named = λ _. named_as _ (λ t' d.
          let e = (k t' d).nowhere in record {
            reduction = ap (λ (x : Entry). reduction_of x.class) (sym e);
            variable = ev;
            operand = no_operand b ∙ ap (λ (x : Entry). operand_of b x.first x.size) (sym e);
          });
    }

    pub targets_some : (n : names.Named) (q : Option Operator) (o : ℕ)
        → ((t' : List Entry) → Tabled T t' → Knows t' (part s t.start t.stop) n × Stands T t' (part s t.start t.stop) n)
        → q ≡ reduction_of n.class → o ≡ cond b (span_of n.first n.size) n.first
        → Targets T s (record { subscripted = b; reduction = q; variable = v; operand = o })
    targets_some n q o k eq eo = record {
      subscripted = bracket;
      named = λ _. named_as _ (λ t' d.
          let w = part s t.start t.stop in
          let kn = (k t' d).0 in record {
            reduction = eq ∙ ap reduction_of kn.class;
            variable = ev;
            operand = eo ∙ (λ i. cond b (span_found T t' w d (Some n) (k t' d) (span_of n.first n.size) refl i) (kn.first i));
          });
    }

-- ---- the words of its accesses

module _ (t : List Entry) (v : List ℕ) (line : ℕ) (x : Ref) {b : Bool} (eb : b ≡ indexed x) {o : ℕ}
    (eo : o ≡ operand_of b (find (ref_name x) t).first (find (ref_name x) t).size) where
  operand_is : o ≡ operand_of (indexed x) (find (ref_name x) t).first (find (ref_name x) t).size
  operand_is = eo ∙ ap (λ (c : Bool). operand_of c (find (ref_name x) t).first (find (ref_name x) t).size) eb

  pub store_words : {op : ℕ} → op ≡ cond b (11 + 32 * line) 10 → op ∷ o ∷ [] ≡ words (stores t v line x ∷ [])
  unfolding words
  store_words e = (λ i. (e ∙ ap (λ (c : Bool). cond c (11 + 32 * line) 10) eb) i ∷ operand_is i ∷ []) ∙ go x
    where
      go : (x : Ref)
          → cond (indexed x) (11 + 32 * line) 10 ∷ operand_of (indexed x) (find (ref_name x) t).first (find (ref_name x) t).size ∷ []
          ≡ words (stores t v line x ∷ [])
      go (single y) = refl
      go (element y a) = refl

  pub update_words : {op : ℕ} → op ≡ cond b (14 + 32 * line) 13 → op ∷ o ∷ [] ≡ words (updates t v line x ∷ [])
  unfolding words
  update_words e = (λ i. (e ∙ ap (λ (c : Bool). cond c (14 + 32 * line) 13) eb) i ∷ operand_is i ∷ []) ∙ go x
    where
      go : (x : Ref)
          → cond (indexed x) (14 + 32 * line) 13 ∷ operand_of (indexed x) (find (ref_name x) t).first (find (ref_name x) t).size ∷ []
          ≡ words (updates t v line x ∷ [])
      go (single y) = refl
      go (element y a) = refl

  check_words : test_words b line o ≡ words (checks t v line x)
  unfolding words
  check_words = (λ i. test_words (eb i) line (operand_is i)) ∙ go x
    where
      go : (x : Ref) → test_words (indexed x) line (operand_of (indexed x) (find (ref_name x) t).first (find (ref_name x) t).size) ≡ words (checks t v line x)
      go (single y) = refl
      go (element y a) = refl

  check_length : cond b 1 0 ≡ length (checks t v line x)
  check_length = ap (λ (c : Bool). cond c 1 0) eb ∙ go x
    where
      go : (x : Ref) → cond (indexed x) 1 0 ≡ length (checks t v line x)
      go (single y) = refl
      go (element y a) = refl

-- what the table says of the reference that a line begins with
pub record Meant (T : List ℕ) (r : Target) (t : List Entry) (x : Ref) : Type 0 where
  pub subscripted : r.subscripted ≡ indexed x
  pub reduction : r.reduction ≡ reduction_of (find (ref_name x) t).class
  pub variable : r.variable ≡ same (ref_name x) (variable_of T)
  pub operand : r.operand ≡ operand_of r.subscripted (find (ref_name x) t).first (find (ref_name x) t).size

pub meant : {T s : List ℕ} {r : Target} → Targets T s r → (t : List Entry) → Tabled T t → (f : ℕ) (x : Ref) (u : List ℕ)
    → read_ref peek_in skip_in f s ≡ done x u → Meant T r t x
meant {T} {s} {r} ta t d f x u h =
    let q = ref_read f s u x h in
    let n = subst (λ (y : List ℕ). Named t (variable_of T) y r) (sym q.text) (ta.named q.name t d) in
    record {
      subscripted = ta.subscripted ∙ sym q.subscript;
      reduction = n.reduction;
      variable = n.variable;
      operand = n.operand;
    }

-- what a class tells of an update
module _ (t : List Entry) (x : Ref) (c : Expr) where
  pub no_update : ((o : Operator) → reduction_of (find (ref_name x) t).class ≡ Some o → same_ref x (repeated o c) ≡ false) → is_update t x c ≡ false
  unfolding is_update
  no_update h = by_class (find (ref_name x) t).class h
    where
      by_class : (k : Class) → ((o : Operator) → reduction_of k ≡ Some o → same_ref x (repeated o c) ≡ false)
          → is_reduction k && same_ref x (repeated (operator k) c) ≡ false
      by_class shared h = refl
      by_class lastprivate h = refl
      by_class copied h = refl
      by_class (reduction o) h = h o refl

  pub an_update : (o : Operator) → reduction_of (find (ref_name x) t).class ≡ Some o
      → (is_update t x c ≡ same_ref x (repeated o c)) × (operator_at t x ≡ o)
  unfolding is_update
  an_update o h = by_class (find (ref_name x) t).class h
    where
      by_class : (k : Class) → reduction_of k ≡ Some o → (is_reduction k && same_ref x (repeated (operator k) c) ≡ same_ref x (repeated o c)) × (operator k ≡ o)
      by_class shared h = absurd (let z : ◌≡◌ {A = ℕ} 0 1 = cc in omega arith)
      by_class lastprivate h = absurd (let z : ◌≡◌ {A = ℕ} 0 1 = cc in omega arith)
      by_class copied h = absurd (let z : ◌≡◌ {A = ℕ} 0 1 = cc in omega arith)
      by_class (reduction q) h = let e : q ≡ o = cc in (ap (λ (i : Operator). same_ref x (repeated i c)) e, e)

-- ---- a store

next_done : {A : Type 0} (P : Parsed (List ℕ) A) → next P (λ x v. done x v) ≡ P
next_done broken = refl
next_done (done x v) = refl

module _ (T s : List ℕ) (at line place most : ℕ) (b m : List ℕ) where
  abbrev c_of : List Entry → Ref → Expr → List Instr
  c_of t x = code_store t (variable_of T) line x

  abbrev k_of : List Entry → Ref → Expr → ℕ
  k_of t x e = max (worst t (variable_of T) (mentions 0 e)) (worst t (variable_of T) (in_ref 0 x))

  pub stores_unread : (a : List ℕ) → Answers (read_expr peek_in skip_in) (λ t v. code t v line) (mentions 0) 2 (suc at) T s at place most b m None
      → Stores T s at line place most b a None
  unfolding Bounded
  stores_unread a an = record {
    reads = λ t d f lt x u hx.
        let v = variable_of T in
        subst (λ (P : Parsed (List ℕ) Expr). Reads (c_of t x) (k_of t x) s P place most b a None) (next_done (read_expr peek_in skip_in f (drop at s)))
        (reads_none (c_of t x) (k_of t x) s place most b a (code t v line) (λ e. worst t v (mentions 0 e)) (read_expr peek_in skip_in f (drop at s))
        (since_none place most b) (λ y w. done y w) m (an.reads t d f (omega arith)));
    within = tt;
  }

  module _ (g : Got) (an : Answers (read_expr peek_in skip_in) (λ t v. code t v line) (mentions 0) 2 (suc at) T s at place most b m (Some g)) (m' a : List ℕ) where
    -- the left side was read before
    pub stores_not : Answers (read_ref peek_in skip_in) (λ t v. code_ref t v line) (in_ref 0) 0 1 T s 0 g.place (level g.rank) m m' None
        → Stores T s at line place most b a None
    unfolding Bounded
    stores_not an₂ = record {
      reads = λ t d f lt x u hx.
          let v = variable_of T in
          let e = read_none (code_ref t v line) (λ z. worst t v (in_ref 0 z)) s g.place (level g.rank) m m' (read_ref peek_in skip_in f s)
          (an₂.reads t d f (omega arith)) in
          absurd (let z : ◌≡◌ {A = ℕ} 0 1 = cc (sym hx ∙ e) in omega arith);
      within = tt;
    }

    module _ (h r : Got) (tg : Target) (ta : Targets T s tg) (op : ℕ) (eop : op ≡ cond tg.subscripted (11 + 32 * line) 10) (far : 2 ≤ at)
        (an₂ : Answers (read_ref peek_in skip_in) (λ t v. code_ref t v line) (in_ref 0) 0 1 T s 0 g.place (level g.rank) m m' (Some h))
        (em : Emits 1 (op ∷ tg.operand ∷ []) (record { at = g.at; place = h.place; rank = h.rank }) m' a r) where
      stores_bounded : Bounded s place (Some r)
      unfolding Bounded
      stores_bounded = (
        omega (arith, em.at, an.within.inside),
        omega (arith, em.place, an.within.inside, an.within.room, an₂.within.inside, an₂.within.room),
      )

      stores_reads : (t : List Entry) → Tabled T t → (f : ℕ) → 3 * length s + 2 < f → (x : Ref) (u : List ℕ) → read_ref peek_in skip_in f s ≡ done x u
          → Reads (c_of t x) (k_of t x) s (read_expr peek_in skip_in f (drop at s)) place most b a (Some r)
      stores_reads t d f lt x u hx =
          let v = variable_of T in
          let me = meant ta t d f x u hx in
          let j : Got = record { at = g.at; place = h.place; rank = h.rank } in
          let em' : Emits 1 (words (stores t v line x ∷ [])) j m' a r =
          subst (λ (ws : List ℕ). Emits 1 ws j m' a r) (store_words t v line x me.subscripted me.operand eop) em in
          let (x', hx', so₂) = read_done (code_ref t v line) (λ z. worst t v (in_ref 0 z)) s g.place (level g.rank) m m' (read_ref peek_in skip_in f s) h
          (an₂.reads t d f (omega arith)) in
          let ex : x' ≡ x = cc (sym hx' ∙ hx) in
          let so₃ = subst (λ (y : Ref). Since g.place (level g.rank) m (code_ref t v line y) (worst t v (in_ref 0 y)) h.place (level h.rank) m') ex so₂ in
          subst (λ (P : Parsed (List ℕ) Expr). Reads (c_of t x) (k_of t x) s P place most b a (Some r)) (next_done (read_expr peek_in skip_in f (drop at s)))
          (reads_next (c_of t x) (k_of t x) s place most b a (code t v line) (λ e. worst t v (mentions 0 e)) (read_expr peek_in skip_in f (drop at s))
          (since_none place most b) (λ y w. done y w) m g (Some r) (an.reads t d f (omega arith))
          (λ y le so.
          subst (λ (n : ℕ). Reads (c_of t x) (k_of t x) s (done y (drop n s)) place most b a (Some r)) em.at
          (reads_done (c_of t x) (k_of t x) s place most b a y r (omega (arith, em.at))
          (since_emits (stores t v line x ∷ []) {g = j}
          (since_at (since_rank (since_emit so (code_ref t v line x) so₃.code_is) (worst t v (in_ref 0 x)) refl) so₃.place_is so₃.rank_is) em')
          refl (omega arith))))

      pub stores_answers : Stores T s at line place most b a (Some r)
      stores_answers = record { reads = stores_reads; within = stores_bounded }

-- ---- an update

module _ (o : Operator) (T s : List ℕ) (at line place most : ℕ) (b m m' a : List ℕ) (p : ℕ) (tg : Target) (ta : Targets T s tg)
    (te : Tests tg.subscripted line tg.operand place b m p) where
  -- what the test of the subscript emitted
  tested : (t : List Entry) → Tabled T t → (j : ℕ) (x : Ref) (u : List ℕ) → read_ref peek_in skip_in j s ≡ done x u
      → Since place most b (checks t (variable_of T) line x) 0 p most m
  tested t d j x u hx =
      let v = variable_of T in
      let me = meant ta t d j x u hx in
      let ep : place + length (checks t v line x) ≡ p = omega (arith, te.next, check_length t v line x me.subscripted me.operand) in
      subst (λ (i : ℕ). Since place most b (checks t v line x) 0 i most m) ep (since_emit (since_none place most b) (checks t v line x)
      (te.written ∙ ap (sets b (2 * place)) (check_words t v line x me.subscripted me.operand)))

  pub updates_unread : Answers (read_rest o) (λ t v. code t v line) (mentions (depth_of o)) 2 (suc at) T s at p most m m' None
      → Updates o T s at line place most b a None
  updates_unread an = record {
    reads = λ t d f lt j x u hx.
        let v = variable_of T in
        let c = code_update t v line x in
        let k : Expr → ℕ = λ e. worst t v (mentions (depth_of o) e) in
        subst (λ (P : Parsed (List ℕ) Expr). Reads c k s P place most b a None) (next_done (read_rest o f (drop at s)))
        (reads_none c k s place most b a (code t v line) k (read_rest o f (drop at s)) (tested t d j x u hx) (λ y w. done y w) m' (an.reads t d f lt));
    within = tt;
  }

  module _ (g r : Got) (op : ℕ) (eop : op ≡ cond tg.subscripted (14 + 32 * line) 13)
      (an : Answers (read_rest o) (λ t v. code t v line) (mentions (depth_of o)) 2 (suc at) T s at p most m m' (Some g))
      (em : Emits 1 (op ∷ tg.operand ∷ []) g m' a r) where
    updates_reads : (t : List Entry) → Tabled T t → (f : ℕ) → 3 * (length s - at) + 2 < f → (j : ℕ) (x : Ref) (u : List ℕ)
        → read_ref peek_in skip_in j s ≡ done x u
        → Reads (code_update t (variable_of T) line x) (λ e. worst t (variable_of T) (mentions (depth_of o) e)) s (read_rest o f (drop at s)) place most b a
        (Some r)
    updates_reads t d f lt j x u hx =
        let v = variable_of T in
        let me = meant ta t d j x u hx in
        let c = code_update t v line x in
        let k : Expr → ℕ = λ e. worst t v (mentions (depth_of o) e) in
        let em' : Emits 1 (words (updates t v line x ∷ [])) g m' a r =
        subst (λ (ws : List ℕ). Emits 1 ws g m' a r) (update_words t v line x me.subscripted me.operand eop) em in
        subst (λ (P : Parsed (List ℕ) Expr). Reads c k s P place most b a (Some r)) (next_done (read_rest o f (drop at s)))
        (reads_next c k s place most b a (code t v line) k (read_rest o f (drop at s)) (tested t d j x u hx) (λ y w. done y w) m' g (Some r) (an.reads t d f lt)
        (λ y le so.
        subst (λ (n : ℕ). Reads c k s (done y (drop n s)) place most b a (Some r)) em.at
        (reads_done c k s place most b a y r (omega (arith, em.at)) (since_emits (updates t v line x ∷ []) so em') refl (omega arith))))

    pub updates_answers : Updates o T s at line place most b a (Some r)
    updates_answers = record {
      reads = updates_reads;
      within =
          lies_from s at (p + 1) (suc at) at (place + 2) (suc at) r (omega arith) (omega (arith, te.next, test_few tg.subscripted))
          (lies_emits 1 (op ∷ tg.operand ∷ []) g m' a r s at p (suc at) em an.within);
    }

-- ---- whether it is an update

-- a name that is no reduction's has none
pub offers_none : (g : Target) (l : Left) (T s : List ℕ) (from : ℕ) (b : List ℕ) → g.reduction ≡ None → Offers g l T s from b b None
offers_none g l T s from b e = record {
  found = λ t d f lt x sp c w h o k. absurd (let z : ◌≡◌ {A = ℕ} 0 1 = cc (sym e ∙ k) in omega arith);
  kept = refl;
  past = tt;
}

module _ (g : Target) (l : Left) (T s : List ℕ) (from : ℕ) (b a : List ℕ) (o : Operator) (e : g.reduction ≡ Some o) where
  pub offers_not : Rests o l T s from b a None → Offers g l T s from b a None
  offers_not h = record {
    found = λ t d f lt x sp c w i q k.
        let eo : o ≡ q = cc (sym e ∙ k) in
        subst (λ (p : Operator). same_ref x (repeated p c) ≡ false) eo (h.found t d f lt x sp c w i);
    kept = h.kept;
    past = tt;
  }

  pub offers_some : (r : Got) → Rests o l T s from b a (Some r) → Offers g l T s from b a (Some (o, r))
  offers_some r h = record { found = (e, h.found); kept = h.kept; past = h.past }
