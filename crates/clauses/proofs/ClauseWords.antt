-- One clause: the words before the names, the names, `num_threads`, `schedule`.
use mathlib.Core.Path.{◌≡◌, refl, ◌∙◌, ap, subst}
use mathlib.Core.Bool.{Bool, true, cond}
use mathlib.Core.List.{List, [], ◌∷◌}
use mathlib.Core.Option.{Option, none, some}
use Prim.Native.Nat.{ℕ, suc, ◌-◌, ◌≤◌, ◌<◌, min}
use native.Mathlib.Omega.{arith}
use borrow.Author.Tests.{le-leb, leb-true}
use lib.Dec.{leb}
use lib.ListN.{length, drop}
use Rattle.rules.specs.declared.Operator.{Operator}
use Rattle.rules.specs.declared.Operator.TheVariants.{Sum, Product, Maximum}
use Rattle.syntax.specs.declared.ClauseKind.{ClauseKind}
use Rattle.syntax.specs.declared.ClauseKind.TheVariants.{Shared, Lastprivate, Firstprivate, Reduction}
use Rattle.syntax.specs.Bytes.{bytes, same, choose, between, Token, word_of}
use Rattle.syntax.specs.Grammar.{Clause, clause, static}
use Rattle.syntax.specs.Reader.{Parsed, broken, done, Reader, next, read_more, text, is, is_sign, says, expects, wants, given, read_name, read_digits, read_operator, read_kind, read_threads, read_static, read_names, peek_in, skip_in}
use Rattle.syntax.proofs.ReaderLaws.{next_assoc}
use Rattle.syntax.proofs.Spelling.{both_true}
use Rattle.syntax.proofs.TestLaws.{both_hold, same_truth}
use Rattle.std.specs.Prelude.{Option as Answer, None, Some}
use Rattle.syntax.specs.Ranks.{level}
use Rattle.lexer.specs.declared.Number.{Number}
use Rattle.lexer.specs.Places.{Any, passes, Numbers, NotRead, ReadTo, Finds}
use Rattle.lexer.proofs.Said.{sign_text, word_text}
use Rattle.lexer.proofs.InTurn.{not_as, to_as, not_then, then_not, then_to, to_done, not_past, past_not, past_to, not_past_word, past_word_not, past_word_to, stands, stands_not, word_to, word_not, other_to, other_not}
use Rattle.heading.specs.Lists.{read_some, Standing}
use Rattle.heading.specs.declared.Headed.{Headed}
use Rattle.claiming.specs.Claims.{deed, Claiming}
use Rattle.clauses.specs.Directive.{Claims, Naming, NamesAt}
use Rattle.claiming.specs.declared.Reading.{Reading}
use Rattle.claiming.specs.declared.Deed.{Deed}
use Rattle.clauses.proofs.SomeMarked.{some_marked}

-- ---- the operator of a reduction

-- this sign or word stands for o; else the operator is as `others` says
abbrev by_test : Operator → (Option Token → Option Operator) → Bool → List ℕ → Parsed (List ℕ) Operator
by_test o others b u = given peek_in skip_in (cond b (some o) (others (peek_in u))) u

module _ {s : List ℕ} {at : ℕ} (w : List ℕ) (test : Option Token → Bool) (told : (u : List ℕ) → test (peek_in u) ≡ same w (text (peek_in u)))
    (o : Operator) (others : Option Token → Option Operator) where
  operator_there : {m : ℕ} → ReadTo Any s at (passes w) m → ReadTo (λ q. o ≡ q) s at (λ u. by_test o others (test (peek_in u)) u) m
  operator_there g = let (e, n) = stands w g in record {
    what = o;
    reads = ap (λ (b : Bool). by_test o others b (drop at s)) (told (drop at s) ∙ e) ∙ ap (done o) n;
    holds = refl;
    from = g.from;
    within = g.within;
  }

  other_by : NotRead s at (passes w) → at ≤ length s → by_test o others (test (peek_in (drop at s))) (drop at s) ≡ given peek_in skip_in (others (peek_in (drop at s))) (drop at s)
  other_by g b = ap (λ (b : Bool). by_test o others b (drop at s)) (told (drop at s) ∙ stands_not w g b)

  operator_other : NotRead s at (passes w) → {P : Operator → Type 0} {r : ℕ} → ReadTo P s at (λ u. given peek_in skip_in (others (peek_in u)) u) r
      → ReadTo P s at (λ u. by_test o others (test (peek_in u)) u) r
  operator_other g k = record {
    what = k.what;
    reads = other_by g (omega (arith, k.from, k.within)) ∙ k.reads;
    holds = k.holds;
    from = k.from;
    within = k.within;
  }

  operator_none : NotRead s at (passes w) → NotRead s at (λ u. given peek_in skip_in (others (peek_in u)) u) → NotRead s at (λ u. by_test o others (test (peek_in u)) u)
  operator_none g k = record { fails = λ b. other_by g b ∙ k.fails b }

abbrev max_only : Option Token → Option Operator
max_only t = cond (is (word_of (bytes "max")) t) (some Maximum) none

abbrev times_or_max : Option Token → Option Operator
times_or_max t = cond (is_sign "*" t) (some Product) (max_only t)

module _ {s : List ℕ} {from : ℕ} where
  pub operator_sum : {a : ℕ} → ReadTo Any s from (passes (bytes "+")) a → ReadTo (λ q. Sum ≡ q) s from (read_operator peek_in skip_in) a
  operator_sum = operator_there (bytes "+") (is_sign "+") (sign_text (bytes "+") refl) Sum times_or_max

  module _ (na : NotRead s from (passes (bytes "+"))) where
    pub operator_product : {b : ℕ} → ReadTo Any s from (passes (bytes "*")) b → ReadTo (λ q. Product ≡ q) s from (read_operator peek_in skip_in) b
    operator_product g =
        operator_other (bytes "+") (is_sign "+") (sign_text (bytes "+") refl) Sum times_or_max na
        (operator_there (bytes "*") (is_sign "*") (sign_text (bytes "*") refl) Product max_only g)

    module _ (nb : NotRead s from (passes (bytes "*"))) where
      pub operator_maximum : {c : ℕ} → ReadTo Any s from (passes (bytes "max")) c → ReadTo (λ q. Maximum ≡ q) s from (read_operator peek_in skip_in) c
      operator_maximum g =
          operator_other (bytes "+") (is_sign "+") (sign_text (bytes "+") refl) Sum times_or_max na
          (operator_other (bytes "*") (is_sign "*") (sign_text (bytes "*") refl) Product max_only nb
          (operator_there (bytes "max") (is (word_of (bytes "max"))) (word_text (bytes "max") refl) Maximum (λ _. none) g))

      pub operator_not : NotRead s from (passes (bytes "max")) → NotRead s from (read_operator peek_in skip_in)
      operator_not g =
          operator_none (bytes "+") (is_sign "+") (sign_text (bytes "+") refl) Sum times_or_max na
          (operator_none (bytes "*") (is_sign "*") (sign_text (bytes "*") refl) Product max_only nb
          (operator_none (bytes "max") (is (word_of (bytes "max"))) (word_text (bytes "max") refl) Maximum (λ _. none) g (record { fails = λ _. refl })))

-- ---- the words before the names

abbrev opens_as : ClauseKind → Reader (List ℕ) ClauseKind
opens_as k u = next (expects peek_in skip_in "(" u) (λ _. done k)

abbrev opens_reduction : Reader (List ℕ) ClauseKind
opens_reduction u =
    next (wants peek_in skip_in "reduction" u) (λ _ v. next (expects peek_in skip_in "(" v) (λ _ w. next (read_operator peek_in skip_in w)
    (λ o x. next (expects peek_in skip_in ":" x) (λ _. done (Reduction o)))))

abbrev opens_first : Reader (List ℕ) ClauseKind
opens_first u = choose (says peek_in skip_in "firstprivate" u) (λ _. opens_as Firstprivate (skip_in u)) (λ _. opens_reduction u)

abbrev opens_other : Reader (List ℕ) ClauseKind
opens_other u = choose (says peek_in skip_in "lastprivate" u) (λ _. opens_as Lastprivate (skip_in u)) (λ _. opens_first u)

-- the bracket after a word
module _ {s : List ℕ} {from : ℕ} (k : ClauseKind) where
  opened : {r : ℕ} → ReadTo Any s from (passes (bytes "(")) r → ReadTo (λ x. k ≡ x) s from (opens_as k) r
  opened g = past_to "(" (done k) g refl (to_done k g.within refl)

  unopened : NotRead s from (passes (bytes "(")) → NotRead s from (opens_as k)
  unopened g = not_past "(" (done k) refl g

abbrev after_operator : Operator → Reader (List ℕ) ClauseKind
after_operator o x = next (expects peek_in skip_in ":" x) (λ _. done (Reduction o))

abbrev after_open : Reader (List ℕ) ClauseKind
after_open w = next (read_operator peek_in skip_in w) after_operator

abbrev after_reduction : Reader (List ℕ) ClauseKind
after_reduction v = next (expects peek_in skip_in "(" v) (λ _. after_open)

module _ {s : List ℕ} {from : ℕ} where
  module _ {a : ℕ} (ga : ReadTo Any s from (passes (bytes "shared")) a) where
    pub kind_shared : {r : ℕ} → ReadTo Any s a (passes (bytes "(")) r → ReadTo (λ k. Shared ≡ k) s from (read_kind peek_in skip_in) r
    kind_shared g = word_to (opens_as Shared) opens_other "shared" refl ga (opened Shared g)

    pub shared_not : NotRead s a (passes (bytes "(")) → NotRead s from (read_kind peek_in skip_in)
    shared_not g = word_not (opens_as Shared) opens_other "shared" refl ga (unopened Shared g)

  module _ (na : NotRead s from (passes (bytes "shared"))) where
    other : {P : ClauseKind → Type 0} {r : ℕ} → ReadTo P s from opens_other r → ReadTo P s from (read_kind peek_in skip_in) r
    other = other_to (opens_as Shared) opens_other "shared" refl na

    not_other : NotRead s from opens_other → NotRead s from (read_kind peek_in skip_in)
    not_other = other_not (opens_as Shared) opens_other "shared" refl na

    module _ {b : ℕ} (gb : ReadTo Any s from (passes (bytes "lastprivate")) b) where
      pub kind_lastprivate : {r : ℕ} → ReadTo Any s b (passes (bytes "(")) r → ReadTo (λ k. Lastprivate ≡ k) s from (read_kind peek_in skip_in) r
      kind_lastprivate g = other (word_to (opens_as Lastprivate) opens_first "lastprivate" refl gb (opened Lastprivate g))

      pub lastprivate_not : NotRead s b (passes (bytes "(")) → NotRead s from (read_kind peek_in skip_in)
      lastprivate_not g = not_other (word_not (opens_as Lastprivate) opens_first "lastprivate" refl gb (unopened Lastprivate g))

    module _ (nb : NotRead s from (passes (bytes "lastprivate"))) where
      first : {P : ClauseKind → Type 0} {r : ℕ} → ReadTo P s from opens_first r → ReadTo P s from (read_kind peek_in skip_in) r
      first k = other (other_to (opens_as Lastprivate) opens_first "lastprivate" refl nb k)

      not_first : NotRead s from opens_first → NotRead s from (read_kind peek_in skip_in)
      not_first k = not_other (other_not (opens_as Lastprivate) opens_first "lastprivate" refl nb k)

      module _ {c : ℕ} (gc : ReadTo Any s from (passes (bytes "firstprivate")) c) where
        pub kind_firstprivate : {r : ℕ} → ReadTo Any s c (passes (bytes "(")) r → ReadTo (λ k. Firstprivate ≡ k) s from (read_kind peek_in skip_in) r
        kind_firstprivate g = first (word_to (opens_as Firstprivate) opens_reduction "firstprivate" refl gc (opened Firstprivate g))

        pub firstprivate_not : NotRead s c (passes (bytes "(")) → NotRead s from (read_kind peek_in skip_in)
        firstprivate_not g = not_first (word_not (opens_as Firstprivate) opens_reduction "firstprivate" refl gc (unopened Firstprivate g))

      module _ (nc : NotRead s from (passes (bytes "firstprivate"))) where
        reduces_not : NotRead s from opens_reduction → NotRead s from (read_kind peek_in skip_in)
        reduces_not k = not_first (other_not (opens_as Firstprivate) opens_reduction "firstprivate" refl nc k)

        pub no_reduction : NotRead s from (passes (bytes "reduction")) → NotRead s from (read_kind peek_in skip_in)
        no_reduction g = reduces_not (not_past_word "reduction" after_reduction refl g)

        module _ {d : ℕ} (gd : ReadTo Any s from (passes (bytes "reduction")) d) where
          pub reduction_unopened : NotRead s d (passes (bytes "(")) → NotRead s from (read_kind peek_in skip_in)
          reduction_unopened g = reduces_not (past_word_not "reduction" after_reduction gd refl (not_past "(" after_open refl g))

          module _ {e : ℕ} (ge : ReadTo Any s d (passes (bytes "(")) e) where
            reads_not : NotRead s e after_open → NotRead s from (read_kind peek_in skip_in)
            reads_not k = reduces_not (past_word_not "reduction" after_reduction gd refl (past_not "(" after_open ge refl k))

            pub no_operator : NotRead s e (read_operator peek_in skip_in) → NotRead s from (read_kind peek_in skip_in)
            no_operator g = reads_not (not_then after_operator g)

            module _ {f : ℕ} {o : Operator} (gf : ReadTo (λ q. o ≡ q) s e (read_operator peek_in skip_in) f) where
              pub no_colon : NotRead s f (passes (bytes ":")) → NotRead s from (read_kind peek_in skip_in)
              no_colon g = reads_not (then_not after_operator gf (λ q _. not_past ":" (done (Reduction q)) refl g))

              pub kind_reduction : {r : ℕ} → ReadTo Any s f (passes (bytes ":")) r → ReadTo (λ k. Reduction o ≡ k) s from (read_kind peek_in skip_in) r
              kind_reduction g = first (other_to (opens_as Firstprivate) opens_reduction "firstprivate" refl nc
                  (past_word_to "reduction" after_reduction gd refl (past_to "(" after_open ge refl (then_to after_operator gf (λ q h.
                  past_to ":" (done (Reduction q)) g refl (to_done (Reduction q) g.within (ap (λ (x : Operator). Reduction x) h)))))))

-- ---- a clause with names

abbrev clause_of : ClauseKind → List (List ℕ) → Clause
clause_of k [] = clause k [] []
clause_of k (x ∷ xs) = clause k x xs

names_by : (f : ℕ) (k : ClauseKind) (u : List ℕ)
    → read_names peek_in skip_in f k u
    ≡ next (read_some f (read_name peek_in skip_in) u) (λ ys v. next (expects peek_in skip_in ")" v) (λ _. done (clause_of k ys)))
names_by f k u = simp next_assoc

abbrev closed : ClauseKind → List (List ℕ) → Reader (List ℕ) Clause
closed k ys v = next (expects peek_in skip_in ")" v) (λ _. done (clause_of k ys))

-- a list that is read has a first part
abbrev Nonempty : List (List ℕ) → Type 0
Nonempty [] = ⊥
Nonempty (x ∷ xs) = Unit {0}

abbrev Begins : Parsed (List ℕ) (List (List ℕ)) → Type 0
Begins broken = Unit {0}
Begins (done xs u) = Nonempty xs

some_begins : (f : ℕ) (u : List ℕ) → Begins (read_some f (read_name peek_in skip_in) u)
some_begins f u = go (read_name peek_in skip_in u)
  where
    on : (x : List ℕ) (p : Parsed (List ℕ) (List (List ℕ))) → Begins (next p (λ xs. done (x ∷ xs)))
    on x broken = tt
    on x (done xs v) = tt

    go : (p : Parsed (List ℕ) (List ℕ)) → Begins (next p (λ x w. next (read_more peek_in skip_in f (read_name peek_in skip_in) w) (λ xs. done (x ∷ xs))))
    go broken = tt
    go (done x w) = on x (read_more peek_in skip_in f (read_name peek_in skip_in) w)

-- the kind, the names and the bracket
module _ (q : Reading) (T s : List ℕ) (b : Headed) where
  pub kind_not : NotRead s b.next (read_kind peek_in skip_in) → NamesAt q T s b T None
  kind_not g σ mk f l = not_then (read_names peek_in skip_in f) g

  module _ {m : ℕ} (k : ClauseKind) (hk : ReadTo (λ x. k ≡ x) s b.next (read_kind peek_in skip_in) m) (far : b.next < m) (d : Deed) (ed : d ≡ deed q k)
      (T₁ : List ℕ) where
    fuel : (f : ℕ) → length s - b.next ≤ f → length s - m < f
    fuel f l = omega (arith, hk.within)

    pub claims_not : Claims d T s (record { next = m; rank = b.rank }) T₁ None → NamesAt q T s b T₁ None
    claims_not h σ mk f l = then_not (read_names peek_in skip_in f) hk
        (λ x e. not_as (names_by f x) (not_then (closed x) (h σ mk f (fuel f l))))

    module _ (r : Headed) (h : Claims d T s (record { next = m; rank = b.rank }) T₁ (Some r)) where
      pub names_open : NotRead s r.next (passes (bytes ")")) → NamesAt q T s b T₁ None
      names_open g σ mk f l = then_not (read_names peek_in skip_in f) hk
          (λ x e. not_as (names_by f x) (then_not (closed x) (h σ mk f (fuel f l)) (λ ys _. not_past ")" (done (clause_of x ys)) refl g)))

      pub names_read : (n : ℕ) → ReadTo Any s r.next (passes (bytes ")")) n → NamesAt q T s b T₁ (Some (record { next = n; rank = r.rank }))
      names_read n g σ mk f l = then_to (read_names peek_in skip_in f) hk on
        where
          c : ReadTo (Claiming d σ (level b.rank) T₁ (level r.rank)) s m (read_some f (read_name peek_in skip_in)) r.next
          c = h σ mk f (fuel f l)

          begun : Nonempty c.what
          begun = subst Begins c.reads (some_begins f (drop m s))

          named : (x : ClauseKind) → k ≡ x → (ys : List (List ℕ)) → Nonempty ys → Claiming d σ (level b.rank) T₁ (level r.rank) ys
              → Naming q σ (level b.rank) T₁ (level r.rank) (clause_of x ys)
          named x e [] p j = absurd p
          named x e (y ∷ ys) p j = subst (λ (z : Deed). Claiming z σ (level b.rank) T₁ (level r.rank) (y ∷ ys)) (ed ∙ ap (deed q) e) j

          on : (x : ClauseKind) → k ≡ x → ReadTo (Naming q σ (level b.rank) T₁ (level r.rank)) s m (read_names peek_in skip_in f x) n
          on x e = to_as (names_by f x) (then_to {P = λ ys. Nonempty ys × Claiming d σ (level b.rank) T₁ (level r.rank) ys} (closed x)
              (record { what = c.what; reads = c.reads; holds = (begun, c.holds); from = c.from; within = c.within })
              (λ ys p. past_to ")" (done (clause_of x ys)) g refl (to_done (clause_of x ys) g.within (named x e ys p.0 p.1))))

      pub names_onward : Standing T → {n : ℕ} → ReadTo Any s r.next (passes (bytes ")")) n → b.next < n
      names_onward st g = let (σ, mk) = some_marked T st in omega (arith, far, (h σ mk (suc (length s - m)) (omega arith)).from, g.from)

-- ---- `num_threads`

abbrev after_digits : List ℕ → Reader (List ℕ) (List ℕ)
after_digits p v = next (expects peek_in skip_in ")" v) (λ _. done p)

abbrev in_threads : Reader (List ℕ) (List ℕ)
in_threads u = next (read_digits peek_in skip_in u) after_digits

module _ {s : List ℕ} {from : ℕ} where
  pub threads_unopened : NotRead s from (passes (bytes "(")) → NotRead s from (read_threads peek_in skip_in)
  threads_unopened g = not_past "(" in_threads refl g

  module _ {o : ℕ} (go : ReadTo Any s from (passes (bytes "(")) o) where
    pub no_threads : NotRead s o (read_digits peek_in skip_in) → NotRead s from (read_threads peek_in skip_in)
    no_threads g = past_not "(" in_threads go refl (not_then after_digits g)

    module _ (d : Number) (gd : ReadTo (Numbers d) s o (read_digits peek_in skip_in) d.next) where
      pub threads_open : NotRead s d.next (passes (bytes ")")) → NotRead s from (read_threads peek_in skip_in)
      threads_open g = past_not "(" in_threads go refl (then_not after_digits gd (λ p _. not_past ")" (done p) refl g))

      pub threads_read : {r : ℕ} → ReadTo Any s d.next (passes (bytes ")")) r
          → ReadTo (Numbers (record { next = r; number = d.number })) s from (read_threads peek_in skip_in) r
      threads_read g = past_to "(" in_threads go refl (then_to after_digits gd (λ p e. past_to ")" (done p) g refl (to_done p g.within e)))

pub within_least : (n : ℕ) → between 1 8 (min n 2147483648) ≡ between 1 8 n
within_least n = same_truth _ _ least most
  where
    least : between 1 8 (min n 2147483648) ≡ true → between 1 8 n ≡ true
    least h =
        let (a, b) = both_true (leb 1 (min n 2147483648)) _ h in
        both_hold (le-leb 1 n (omega (arith, leb-true 1 (min n 2147483648) a))) (le-leb n 8 (omega (arith, leb-true (min n 2147483648) 8 b)))

    most : between 1 8 n ≡ true → between 1 8 (min n 2147483648) ≡ true
    most h =
        let (a, b) = both_true (leb 1 n) _ h in
        both_hold (le-leb 1 (min n 2147483648) (omega (arith, leb-true 1 n a))) (le-leb (min n 2147483648) 8 (omega (arith, leb-true n 8 b)))

-- ---- `schedule`

abbrev after_static : Reader (List ℕ) Clause
after_static v = next (expects peek_in skip_in ")" v) (λ _. done static)

abbrev in_static : Reader (List ℕ) Clause
in_static u = next (wants peek_in skip_in "static" u) (λ _. after_static)

module _ {s : List ℕ} {from : ℕ} where
  pub static_unopened : NotRead s from (passes (bytes "(")) → NotRead s from (read_static peek_in skip_in)
  static_unopened g = not_past "(" in_static refl g

  module _ {o : ℕ} (go : ReadTo Any s from (passes (bytes "(")) o) where
    pub no_static : NotRead s o (passes (bytes "static")) → NotRead s from (read_static peek_in skip_in)
    no_static g = past_not "(" in_static go refl (not_past_word "static" after_static refl g)

    pub static_found : {w : ℕ} → ReadTo Any s o (passes (bytes "static")) w → (r : Answer ℕ)
        → Finds (λ n. n) (λ _. Any) s w (passes (bytes ")")) r → Finds (λ n. n) (λ _ c. static ≡ c) s from (read_static peek_in skip_in) r
    static_found gw None g = past_not "(" in_static go refl (past_word_not "static" after_static gw refl (not_past ")" (done static) refl g))
    static_found gw (Some r) g =
        past_to "(" in_static go refl (past_word_to "static" after_static gw refl (past_to ")" (done static) g refl (to_done static g.within refl)))
