-- Expressions and terms: what their readers answer, from what the readers that they call in turn answer.
use mathlib.Core.Path.{◌≡◌, refl, sym, ◌∙◌, ap, subst}
use mathlib.Core.Bool.{Bool, true, false, cond, ◌||◌}
use mathlib.Core.List.{List, [], ◌∷◌, ◌++◌, append-nil}
use Prim.Native.Nat.{ℕ, suc, ◌+◌, ◌-◌, ◌*◌, ◌≤◌, ◌<◌}
use native.Mathlib.Omega.{arith}
use lib.ListN.{length, drop}
use Rattle.std.specs.Prelude.{Option, Some, None}
use Rattle.syntax.specs.Bytes.{choose, same}
use Rattle.syntax.specs.Grammar.{expr, no_terms, terms, term, no_factors, factors}
use Rattle.syntax.specs.Known.{Entry}
use Rattle.syntax.specs.declared.Rank.{Rank}
use Rattle.syntax.specs.Ranks.{level}
use Rattle.syntax.specs.Conditions.{Mention, mentions, in_terms, in_term, in_factors, in_factor}
use Rattle.syntax.specs.Reader.{Parsed, done, next, peek_in, skip_in, read_expr, read_terms, read_term, read_factors, read_factor}
use Rattle.code.specs.Instr.{Instr, add, subtract, multiply, divide, operation, argument, words}
use Rattle.code.specs.Compile.{code_lead, code, code_terms, code_term, code_factors, code_factor}
use Rattle.names.specs.Table.{variable_of, Tabled}
use Rattle.parts.specs.Answer.{worst, Reads, Lies, Within, Answers}
use Rattle.parts.specs.Parts.{Passes, stands, joined, chosen, lead_by, Joins, Emits}
use Rattle.parts.specs.declared.Got.{Got}
use Rattle.parts.specs.declared.Joint.{Joint}
use Rattle.parts.specs.declared.Joint.TheVariants.{Neither, First, Second}
use Rattle.parts.specs.declared.Joined.{Joined}
use Rattle.parts.proofs.Laws.{worst_append, fueled, since_none, reads_done, reads_none, emits_none, in_turn}
use Rattle.parts.proofs.Spans.{lies_from, within_from, within_then, lies_emits}
use Rattle.expressions.proofs.Shapes.{expr_shape, no_sign, some_sign}

-- ---- two readers in turn, with instructions after the first

module _ {A B C : Type 0}
    (read₁ : ℕ → List ℕ → Parsed (List ℕ) A) (c₁ : List Entry → List ℕ → A → List Instr) (said₁ : A → List Mention) (k₁ lo₁ : ℕ)
    (read₂ : ℕ → List ℕ → Parsed (List ℕ) B) (c₂ : List Entry → List ℕ → B → List Instr) (said₂ : B → List Mention)
    (c : List Entry → List ℕ → C → List Instr) (said : C → List Mention) (mk : A → B → C) (js : List Instr)
    (hc : (t : List Entry) (v : List ℕ) (x : A) (y : B) → c t v (mk x y) ≡ (c₁ t v x ++ js) ++ c₂ t v y)
    (hs : (x : A) (y : B) → said (mk x y) ≡ said₁ x ++ said₂ y)
    (T s : List ℕ) (at from place most : ℕ) (b m : List ℕ) where
  -- the definition's reader, by what it unfolds to
  answers_by : (read : ℕ → List ℕ → Parsed (List ℕ) C) (k lo : ℕ) (a : List ℕ) (r : Option Got)
      → ((f : ℕ) → read (suc f) (drop at s) ≡ next (read₁ f (drop from s)) (λ x u. next (read₂ f u) (λ y v. done (mk x y) v)))
      → ((t : List Entry) → Tabled T t → (f : ℕ) → 3 * (length s - at) + k ≤ f
      → Reads (c t (variable_of T)) (λ z. worst t (variable_of T) (said z)) s
      (next (read₁ f (drop from s)) (λ x u. next (read₂ f u) (λ y v. done (mk x y) v))) place most b a r)
      → Within s at place lo r → Answers read c said k lo T s at place most b a r
  answers_by read k lo a r unfolds h w = record {
    reads = λ t d.
        let P : Parsed (List ℕ) C → Type 0 = λ p. Reads (c t (variable_of T)) (λ z. worst t (variable_of T) (said z)) s p place most b a r in
        fueled (λ (f : ℕ). P (read f (drop at s))) (3 * (length s - at) + k) (λ f le. subst P (sym (unfolds f)) (h t d f le));
    within = w;
  }

  turn_unread : (read : ℕ → List ℕ → Parsed (List ℕ) C) (k lo : ℕ) → Answers read₁ c₁ said₁ k₁ lo₁ T s from place most b m None
      → ((f : ℕ) → read (suc f) (drop at s) ≡ next (read₁ f (drop from s)) (λ x u. next (read₂ f u) (λ y v. done (mk x y) v)))
      → 3 * (length s - from) + k₁ < 3 * (length s - at) + k → Answers read c said k lo T s at place most b m None
  turn_unread read k lo h₁ unfolds less =
      answers_by read k lo m None unfolds
      (λ t d f le.
      let v = variable_of T in
      reads_none (c t v) (λ z. worst t v (said z)) s place most b m (c₁ t v) (λ x. worst t v (said₁ x)) (read₁ f (drop from s)) (since_none place most b)
      (λ x u. next (read₂ f u) (λ y v. done (mk x y) v)) m (h₁.reads t d f (omega arith)))
      tt

  turn_answers : (read : ℕ → List ℕ → Parsed (List ℕ) C) (k lo : ℕ) (m' a : List ℕ) (g g' : Got) (r : Option Got)
      → Answers read₁ c₁ said₁ k₁ lo₁ T s from place most b m (Some g) → Emits (length js) (words js) g m m' g' → Lies s at place (suc at) g'
      → Answers read₂ c₂ said₂ 0 g'.at T s g'.at g'.place (level g'.rank) m' a r
      → ((f : ℕ) → read (suc f) (drop at s) ≡ next (read₁ f (drop from s)) (λ x u. next (read₂ f u) (λ y v. done (mk x y) v)))
      → 3 * (length s - from) + k₁ < 3 * (length s - at) + k → lo ≤ suc at → Answers read c said k lo T s at place most b a r
  turn_answers read k lo m' a g g' r h₁ em w h₂ unfolds less low =
      answers_by read k lo a r unfolds
      (λ t d f le.
      let v = variable_of T in
      in_turn (c₁ t v) (λ x. worst t v (said₁ x)) (c₂ t v) (λ y. worst t v (said₂ y)) (c t v) (λ z. worst t v (said z)) mk js (hc t v)
      (λ x y. ap (worst t v) (hs x y) ∙ worst_append t v (said₁ x) (said₂ y))
      s place most b m m' a g g' r (read₁ f (drop from s)) (read₂ f) (h₁.reads t d f (omega arith)) em (h₂.reads t d f (omega (arith, w.from, w.inside))))
      (within_from s at place (suc at) at place lo r low (omega arith) (within_then s at place (suc at) g' r w h₂.within))

-- ---- expressions

-- a lead emits no more than it reads
pub lead_long : (j : Joint) → length (code_lead (lead_by j)) ≤ joined j
lead_long Neither = omega arith
lead_long First = omega arith
lead_long Second = omega arith

pub lead_lies : (s : List ℕ) (at place : ℕ) (m a : List ℕ) (g r : Got) (j : Joined) → Joins 43 45 s at j
    → Emits (length (code_lead (lead_by j.joint))) (words (code_lead (lead_by j.joint))) g m a r
    → Lies s j.next place (suc j.next) g → Lies s at place (suc at) r
lead_lies s at place m a g r j jo em w =
    let le = lead_long j.joint in
    let fr = jo.next.from in
    let js = code_lead (lead_by j.joint) in
    lies_from s j.next (place + length js) (suc j.next) at place (suc at) r (omega arith) (omega arith)
    (lies_emits (length js) (words js) g m a r s j.next place (suc j.next) em w)

module _ (T s : List ℕ) (at depth line place most : ℕ) (b m : List ℕ) (j : Joined) (jo : Joins 43 45 s at j) where
  pub expression_answers : (m' a : List ℕ) (g g' : Got) (r : Option Got)
      → Emits (length (code_lead (lead_by j.joint))) (words (code_lead (lead_by j.joint))) g m m' g'
      → Answers (read_term peek_in skip_in) (λ t v. code_term t v line) (in_term depth) 1 (suc j.next) T s j.next place most b m (Some g)
      → Answers (read_terms peek_in skip_in) (λ t v. code_terms t v line) (in_terms depth) 0 g'.at T s g'.at g'.place (level g'.rank) m' a r
      → Answers (read_expr peek_in skip_in) (λ t v. code t v line) (mentions depth) 2 (suc at) T s at place most b a r
  unfolding code mentions
  expression_answers m' a g g' r em h₁ h₂ =
      let fr = jo.next.from in
      turn_answers (read_term peek_in skip_in) (λ t v. code_term t v line) (in_term depth) 1 (suc j.next) (read_terms peek_in skip_in)
      (λ t v. code_terms t v line) (in_terms depth)
      (λ t v. code t v line) (mentions depth) (expr (lead_by j.joint)) (code_lead (lead_by j.joint)) (λ t v x y. refl) (λ x y. refl)
      T s at j.next place most b m (read_expr peek_in skip_in) 2 (suc at) m' a g g' r h₁ em (lead_lies s at place m m' g g' j jo em h₁.within) h₂
      (expr_shape s at j jo) (omega arith) (omega arith)

  pub expression_unread : Answers (read_term peek_in skip_in) (λ t v. code_term t v line) (in_term depth) 1 (suc j.next) T s j.next place most b m None
      → Answers (read_expr peek_in skip_in) (λ t v. code t v line) (mentions depth) 2 (suc at) T s at place most b m None
  unfolding code mentions
  expression_unread h₁ =
      let fr = jo.next.from in
      turn_unread (read_term peek_in skip_in) (λ t v. code_term t v line) (in_term depth) 1 (suc j.next) (read_terms peek_in skip_in)
      (λ t v. code_terms t v line) (in_terms depth)
      (λ t v. code t v line) (mentions depth) (expr (lead_by j.joint)) (code_lead (lead_by j.joint)) (λ t v x y. refl) (λ x y. refl)
      T s at j.next place most b m (read_expr peek_in skip_in) 2 (suc at) h₁ (expr_shape s at j jo) (omega arith)

module _ (T s : List ℕ) (at depth line place most : ℕ) (b m : List ℕ) where
  -- a term: a factor, and further factors
  pub term_answers : (a : List ℕ) (g : Got) (r : Option Got)
      → Answers (read_factor peek_in skip_in) (λ t v. code_factor t v line) (in_factor depth) 0 (suc at) T s at place most b m (Some g)
      → Answers (read_factors peek_in skip_in) (λ t v. code_factors t v line) (in_factors depth) 0 g.at T s g.at g.place (level g.rank) m a r
      → Answers (read_term peek_in skip_in) (λ t v. code_term t v line) (in_term depth) 1 (suc at) T s at place most b a r
  unfolding read_expr code mentions words
  term_answers a g r h₁ h₂ =
      turn_answers (read_factor peek_in skip_in) (λ t v. code_factor t v line) (in_factor depth) 0 (suc at) (read_factors peek_in skip_in)
      (λ t v. code_factors t v line) (in_factors depth)
      (λ t v. code_term t v line) (in_term depth) term [] (λ t v x y. rw append-nil) (λ x y. refl)
      T s at at place most b m (read_term peek_in skip_in) 1 (suc at) m a g g r h₁ (emits_none g m) h₁.within h₂ (λ f. refl) (omega arith) (omega arith)

  pub term_unread : Answers (read_factor peek_in skip_in) (λ t v. code_factor t v line) (in_factor depth) 0 (suc at) T s at place most b m None
      → Answers (read_term peek_in skip_in) (λ t v. code_term t v line) (in_term depth) 1 (suc at) T s at place most b m None
  unfolding read_expr code mentions words
  term_unread h₁ =
      turn_unread (read_factor peek_in skip_in) (λ t v. code_factor t v line) (in_factor depth) 0 (suc at) (read_factors peek_in skip_in)
      (λ t v. code_factors t v line) (in_factors depth)
      (λ t v. code_term t v line) (in_term depth) term [] (λ t v x y. rw append-nil) (λ x y. refl)
      T s at at place most b m (read_term peek_in skip_in) 1 (suc at) h₁ (λ f. refl) (omega arith)

-- ---- further terms, and further factors: a sign, one, and further ones

-- the sign makes room for the instruction
pub sign_lies : (ws : List ℕ) (g : Got) (m a : List ℕ) (r : Got) (s : List ℕ) (at next place : ℕ) → Passes 1 s at next → Emits 1 ws g m a r
    → Lies s next place (suc next) g → Lies s at place (suc at) r
sign_lies ws g m a r s at next place p em w =
    let fr = p.from in
    lies_from s next (place + 1) (suc next) at place (suc at) r (omega arith) (omega arith) (lies_emits 1 ws g m a r s next place (suc next) em w)

module _ {A B : Type 0} (x y : ℕ) (apart : same (y ∷ []) (x ∷ []) ≡ false)
    (one : ℕ → List ℕ → Parsed (List ℕ) A) (c₁ : List Entry → List ℕ → A → List Instr) (said₁ : A → List Mention) (k₁ : ℕ) (low : k₁ ≤ 1)
    (rest : ℕ → List ℕ → Parsed (List ℕ) B) (c : List Entry → List ℕ → B → List Instr) (said : B → List Mention) (nil : B) (mk : Bool → A → B → B)
    (i₁ i₂ : Instr)
    (none : (t : List Entry) (v : List ℕ) → c t v nil ≡ []) (silent : said nil ≡ []) (plain₁ : argument i₁ ≡ 0) (plain₂ : argument i₂ ≡ 0)
    (hc : (q : Bool) (t : List Entry) (v : List ℕ) (p : A) (ps : B) → c t v (mk q p ps) ≡ (c₁ t v p ++ (cond q i₂ i₁ ∷ [])) ++ c t v ps)
    (hs : (q : Bool) (p : A) (ps : B) → said (mk q p ps) ≡ said₁ p ++ said ps)
    (unfolds : (f : ℕ) (u : List ℕ) → rest (suc f) u ≡ choose (stands x u || stands y u)
    (λ _. next (one f (skip_in u)) (λ p v. next (rest f v) (λ ps w. done (mk (stands y u) p ps) w))) (λ _. done nil u))
    (T s : List ℕ) (at place : ℕ) (most : Rank) (b : List ℕ) (j : Joined) (jo : Joins x y s at j) where
  more_ended : j.joint ≡ Neither → at ≤ length s
      → Answers rest c said 0 at T s at place (level most) b b (Some (record { at = at; place = place; rank = most }))
  unfolding worst
  more_ended z h = record {
    reads = λ t d.
        let v = variable_of T in
        let g : Got = record { at = at; place = place; rank = most } in
        let P : Parsed (List ℕ) B → Type 0 = λ p. Reads (c t v) (λ ps. worst t v (said ps)) s p place (level most) b b (Some g) in
        fueled (λ (f : ℕ). P (rest f (drop at s))) (3 * (length s - at) + 0)
        (λ f le. subst P (sym (unfolds f (drop at s)
        ∙ ap (λ (o : Bool). choose o
        (λ _. next (one f (skip_in (drop at s))) (λ p v. next (rest f v) (λ ps w. done (mk (stands y (drop at s)) p ps) w)))
        (λ _. done nil (drop at s)))
        (no_sign x y s at j jo z)))
        (reads_done (c t v) (λ ps. worst t v (said ps)) s place (level most) b b nil g h (since_none place (level most) b) (none t v)
        (ap (worst t v) silent)));
    within = record { from = omega arith; inside = h; room = omega arith };
  }

  -- the definition's reader, where a sign stands
  with_sign : (f : ℕ) → stands x (drop at s) || stands y (drop at s) ≡ true → Passes 1 s at j.next
      → rest (suc f) (drop at s) ≡ next (one f (drop j.next s)) (λ p v. next (rest f v) (λ ps w. done (mk (stands y (drop at s)) p ps) w))
  with_sign f o p =
      let u = drop at s in
      unfolds f u
      ∙ ap (λ (o : Bool). choose o (λ _. next (one f (skip_in u)) (λ p v. next (rest f v) (λ ps w. done (mk (stands y u) p ps) w))) (λ _. done nil u)) o
      ∙ ap (λ (u' : List ℕ). next (one f u') (λ p v. next (rest f v) (λ ps w. done (mk (stands y u) p ps) w))) (sym p.left)

  more_unread : joined j.joint ≡ 1 → (m : List ℕ) → Answers one c₁ said₁ k₁ (suc j.next) T s j.next place (level most) b m None
      → Answers rest c said 0 at T s at place (level most) b m None
  more_unread nz m h₁ =
      let (o, q, p) = some_sign x y s at j jo apart nz in
      let fr = p.from in
      let wi = p.within in
      let u = drop at s in
      turn_unread one c₁ said₁ k₁ (suc j.next) rest c said c said (mk (stands y u)) (cond (stands y u) i₂ i₁ ∷ []) (hc (stands y u)) (hs (stands y u))
      T s at j.next place (level most) b m rest 0 at h₁ (λ f. with_sign f o p) (omega arith)

  more_some : joined j.joint ≡ 1 → (m m' a : List ℕ) (g g' : Got) (r : Option Got) (op : ℕ) → op ≡ operation (chosen j.joint i₁ i₂)
      → Emits 1 (op ∷ 0 ∷ []) g m m' g' → Answers one c₁ said₁ k₁ (suc j.next) T s j.next place (level most) b m (Some g)
      → Answers rest c said 0 g'.at T s g'.at g'.place (level g'.rank) m' a r → Answers rest c said 0 at T s at place (level most) b a r
  unfolding words
  more_some nz m m' a g g' r op eo em h₁ h₂ =
      let (o, q, p) = some_sign x y s at j jo apart nz in
      let fr = p.from in
      let wi = p.within in
      let u = drop at s in
      turn_answers one c₁ said₁ k₁ (suc j.next) rest c said c said (mk (stands y u)) (cond (stands y u) i₂ i₁ ∷ []) (hc (stands y u)) (hs (stands y u))
      T s at j.next place (level most) b m rest 0 at m' a g g' r h₁
      (subst (λ (ws : List ℕ). Emits 1 ws g m m' g')
      (λ i. (eo ∙ ap operation (by_sign j.joint ∙ ap (λ (q : Bool). cond q i₂ i₁) (sym q))) i ∷ go (stands y u) i ∷ []) em)
      (sign_lies (op ∷ 0 ∷ []) g m m' g' s at j.next place p em h₁.within) h₂ (λ f. with_sign f o p) (omega arith) (omega arith)
    where
      by_sign : (w : Joint) → chosen w i₁ i₂ ≡ cond (chosen w false true) i₂ i₁
      by_sign Neither = refl
      by_sign First = refl
      by_sign Second = refl

      go : (q : Bool) → 0 ≡ argument (cond q i₂ i₁)
      go true = sym plain₂
      go false = sym plain₁

module _ (T s : List ℕ) (at depth line place : ℕ) (most : Rank) (b : List ℕ) (j : Joined) where
  pub terms_ended : Joins 43 45 s at j → j.joint ≡ Neither → at ≤ length s → Answers (read_terms peek_in skip_in) (λ t v. code_terms t v line)
      (in_terms depth) 0 at T s at place (level most) b b (Some (record { at = at; place = place; rank = most }))
  unfolding read_expr code mentions
  terms_ended =
      more_ended 43 45 refl (read_term peek_in skip_in) (λ t v. code_term t v line) (in_term depth) 1 (omega arith) (read_terms peek_in skip_in)
      (λ t v. code_terms t v line) (in_terms depth) no_terms terms add subtract
      (λ t v. refl) refl refl refl (λ q t v p ps. refl) (λ q p ps. refl) (λ f u. refl) T s at place most b j

  pub factors_ended : Joins 42 47 s at j → j.joint ≡ Neither → at ≤ length s → Answers (read_factors peek_in skip_in) (λ t v. code_factors t v line)
      (in_factors depth) 0 at T s at place (level most) b b (Some (record { at = at; place = place; rank = most }))
  unfolding read_expr code mentions
  factors_ended =
      more_ended 42 47 refl (read_factor peek_in skip_in) (λ t v. code_factor t v line) (in_factor depth) 0 (omega arith) (read_factors peek_in skip_in)
      (λ t v. code_factors t v line) (in_factors depth) no_factors factors multiply (divide line)
      (λ t v. refl) refl refl refl (λ q t v p ps. refl) (λ q p ps. refl) (λ f u. refl) T s at place most b j

  pub terms_unread : Joins 43 45 s at j → joined j.joint ≡ 1 → (m : List ℕ)
      → Answers (read_term peek_in skip_in) (λ t v. code_term t v line) (in_term depth) 1 (suc j.next) T s j.next place (level most) b m None
      → Answers (read_terms peek_in skip_in) (λ t v. code_terms t v line) (in_terms depth) 0 at T s at place (level most) b m None
  unfolding read_expr code mentions
  terms_unread =
      more_unread 43 45 refl (read_term peek_in skip_in) (λ t v. code_term t v line) (in_term depth) 1 (omega arith) (read_terms peek_in skip_in)
      (λ t v. code_terms t v line) (in_terms depth) no_terms terms add subtract
      (λ t v. refl) refl refl refl (λ q t v p ps. refl) (λ q p ps. refl) (λ f u. refl) T s at place most b j

  pub factors_unread : Joins 42 47 s at j → joined j.joint ≡ 1 → (m : List ℕ)
      → Answers (read_factor peek_in skip_in) (λ t v. code_factor t v line) (in_factor depth) 0 (suc j.next) T s j.next place (level most) b m None
      → Answers (read_factors peek_in skip_in) (λ t v. code_factors t v line) (in_factors depth) 0 at T s at place (level most) b m None
  unfolding read_expr code mentions
  factors_unread =
      more_unread 42 47 refl (read_factor peek_in skip_in) (λ t v. code_factor t v line) (in_factor depth) 0 (omega arith) (read_factors peek_in skip_in)
      (λ t v. code_factors t v line) (in_factors depth) no_factors factors multiply (divide line)
      (λ t v. refl) refl refl refl (λ q t v p ps. refl) (λ q p ps. refl) (λ f u. refl) T s at place most b j

  pub terms_some : Joins 43 45 s at j → joined j.joint ≡ 1 → (m m' a : List ℕ) (g g' : Got) (r : Option Got) (op : ℕ)
      → op ≡ operation (chosen j.joint add subtract) → Emits 1 (op ∷ 0 ∷ []) g m m' g'
      → Answers (read_term peek_in skip_in) (λ t v. code_term t v line) (in_term depth) 1 (suc j.next) T s j.next place (level most) b m (Some g)
      → Answers (read_terms peek_in skip_in) (λ t v. code_terms t v line) (in_terms depth) 0 g'.at T s g'.at g'.place (level g'.rank) m' a r
      → Answers (read_terms peek_in skip_in) (λ t v. code_terms t v line) (in_terms depth) 0 at T s at place (level most) b a r
  unfolding read_expr code mentions
  terms_some =
      more_some 43 45 refl (read_term peek_in skip_in) (λ t v. code_term t v line) (in_term depth) 1 (omega arith) (read_terms peek_in skip_in)
      (λ t v. code_terms t v line) (in_terms depth) no_terms terms add subtract
      (λ t v. refl) refl refl refl (λ q t v p ps. refl) (λ q p ps. refl) (λ f u. refl) T s at place most b j

  pub factors_some : Joins 42 47 s at j → joined j.joint ≡ 1 → (m m' a : List ℕ) (g g' : Got) (r : Option Got) (op : ℕ)
      → op ≡ operation (chosen j.joint multiply (divide line)) → Emits 1 (op ∷ 0 ∷ []) g m m' g'
      → Answers (read_factor peek_in skip_in) (λ t v. code_factor t v line) (in_factor depth) 0 (suc j.next) T s j.next place (level most) b m (Some g)
      → Answers (read_factors peek_in skip_in) (λ t v. code_factors t v line) (in_factors depth) 0 g'.at T s g'.at g'.place (level g'.rank) m' a r
      → Answers (read_factors peek_in skip_in) (λ t v. code_factors t v line) (in_factors depth) 0 at T s at place (level most) b a r
  unfolding read_expr code mentions
  factors_some =
      more_some 42 47 refl (read_factor peek_in skip_in) (λ t v. code_factor t v line) (in_factor depth) 0 (omega arith) (read_factors peek_in skip_in)
      (λ t v. code_factors t v line) (in_factors depth) no_factors factors multiply (divide line)
      (λ t v. refl) refl refl refl (λ q t v p ps. refl) (λ q p ps. refl) (λ f u. refl) T s at place most b j
