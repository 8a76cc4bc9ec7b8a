-- What a line mentions and the numbers that it gives are the same without leading zeros.
use mathlib.Core.Path.{◌≡◌, refl, sym, ◌∙◌, ap, ap₂}
use mathlib.Core.Bool.{Bool, true, cond, ◌&&◌}
use mathlib.Core.List.{List, [], ◌∷◌, ◌++◌, map}
use mathlib.Core.Option.{none, some}
use Prim.Native.Nat.{ℕ, suc, ◌+◌}
use lib.Dec.{ltb}
use lib.IntN.{ℤ}
use lib.ListN.{length, replicate, length-map}
use Rattle.rules.specs.declared.Class.{Class}
use Rattle.rules.specs.declared.Class.TheVariants.{Shared as shared, Reduction as reduction}
use Rattle.syntax.specs.declared.ClauseKind.{ClauseKind}
use Rattle.syntax.specs.declared.ClauseKind.TheVariants.{Shared, Lastprivate, Firstprivate, Reduction}
use Rattle.syntax.specs.Bytes.{all, any, same, between}
use Rattle.syntax.specs.Grammar.{number, Expr, expr, Terms, no_terms, terms, Term, term, Factors, no_factors, factors, Factor, literal, cell, call, brackets, Ref, single, element, Subscripts, subscript, subscripts, Declared, one, array, grid, Item, item, Clause, clause, threads, static, assign, when, otherwise, end_if, Line, declare, give, direct, loop, inside, end_do, close}
use Rattle.syntax.specs.Known.{Entry, declared_name, declared_extents, cells_of, declared_size, entry_of, signed, copies, values, total, entries, threads_in, processors_by, statics_in, names_in, in_lastprivate, in_firstprivate, reduced_in, class_in, classify, with_class}
use Rattle.syntax.specs.Conditions.{Mention, digits, refers, opens, mentions, in_terms, in_term, in_factors, in_factor, in_ref, in_subscripts, count_of, in_declared, in_item, concat, in_line, ref_name}
use Rattle.syntax.proofs.TestLaws.{all_append}
use Rattle.printed.specs.Form.{shortest}
use Rattle.printed.specs.Restated.{short_expr, short_terms, short_term, short_factors, short_factor, short_ref, short_subscripts, short_declared, short_item, short_clause, short}
use Rattle.printed.proofs.ZeroLaws.{number_shortest}
use Rattle.printed.proofs.PlainLaws.{copies_short}

threads_short : (cs : List Clause) → threads_in (map short_clause cs) ≡ map shortest (threads_in cs)
threads_short [] = refl
threads_short (clause k x xs ∷ cs) = threads_short cs
threads_short (threads p ∷ cs) = ap (λ (ps : List (List ℕ)). shortest p ∷ ps) (threads_short cs)
threads_short (static ∷ cs) = threads_short cs

count_short : (is : Subscripts) → count_of (short_subscripts is) ≡ count_of is
unfolding short_subscripts
count_short (subscript e) = refl
count_short (subscripts e f) = refl

-- ---- what a line mentions, under a test that leading zeros don't change

module _ (p : Mention → Bool) (h : (d : List ℕ) → p (digits (shortest d)) ≡ p (digits d)) where
  both : (a b c d : List Mention) → all p a ≡ all p c → all p b ≡ all p d → all p (a ++ b) ≡ all p (c ++ d)
  both a b c d x y = all_append p a b ∙ ap₂ (λ (u v : Bool). u && v) x y ∙ sym (all_append p c d)

  mutual
    unfolding mentions in_terms in_term in_factors in_factor in_ref in_subscripts short_expr short_terms short_term short_factors short_factor short_ref short_subscripts

    expr_all : (n : ℕ) (e : Expr) → all p (mentions n (short_expr e)) ≡ all p (mentions n e)
    expr_all n (expr l t ts) = both (in_term n (short_term t)) (in_terms n (short_terms ts)) (in_term n t) (in_terms n ts) (term_all n t) (terms_all n ts)

    terms_all : (n : ℕ) (e : Terms) → all p (in_terms n (short_terms e)) ≡ all p (in_terms n e)
    terms_all n no_terms = refl
    terms_all n (terms o t ts) = both (in_term n (short_term t)) (in_terms n (short_terms ts)) (in_term n t) (in_terms n ts) (term_all n t) (terms_all n ts)

    term_all : (n : ℕ) (e : Term) → all p (in_term n (short_term e)) ≡ all p (in_term n e)
    term_all n (term x xs) =
        both (in_factor n (short_factor x)) (in_factors n (short_factors xs)) (in_factor n x) (in_factors n xs) (factor_all n x) (factors_all n xs)

    factors_all : (n : ℕ) (e : Factors) → all p (in_factors n (short_factors e)) ≡ all p (in_factors n e)
    factors_all n no_factors = refl
    factors_all n (factors o x xs) =
        both (in_factor n (short_factor x)) (in_factors n (short_factors xs)) (in_factor n x) (in_factors n xs) (factor_all n x) (factors_all n xs)

    factor_all : (n : ℕ) (e : Factor) → all p (in_factor n (short_factor e)) ≡ all p (in_factor n e)
    factor_all n (literal d) = ap (λ (b : Bool). b && true) (h d)
    factor_all n (cell r) = ref_all n r
    factor_all n (call f a b) =
        ap (λ (c : Bool). p (opens (suc n)) && c)
        (both (mentions (suc n) (short_expr a)) (mentions (suc n) (short_expr b)) (mentions (suc n) a) (mentions (suc n) b)
        (expr_all (suc n) a) (expr_all (suc n) b))
    factor_all n (brackets e) = ap (λ (c : Bool). p (opens (suc n)) && c) (expr_all (suc n) e)

    ref_all : (n : ℕ) (e : Ref) → all p (in_ref n (short_ref e)) ≡ all p (in_ref n e)
    ref_all n (single x) = refl
    ref_all n (element x is) =
        ap₂ (λ (k : ℕ) (c : Bool). p (refers x k) && (p (opens (suc n)) && c)) (count_short is) (subscripts_all (suc n) is)

    subscripts_all : (n : ℕ) (is : Subscripts) → all p (in_subscripts n (short_subscripts is)) ≡ all p (in_subscripts n is)
    subscripts_all n (subscript e) = expr_all n e
    subscripts_all n (subscripts e f) = both (mentions n (short_expr e)) (mentions n (short_expr f)) (mentions n e) (mentions n f) (expr_all n e) (expr_all n f)

  declared_all : (ds : List Declared) → all p (concat in_declared (map short_declared ds)) ≡ all p (concat in_declared ds)
  declared_all [] = refl
  declared_all (one x ∷ ds) = declared_all ds
  declared_all (array x d ∷ ds) = ap₂ (λ (u v : Bool). u && v) (h d) (declared_all ds)
  declared_all (grid x m n ∷ ds) = ap₂ (λ (u v : Bool). u && v) (h m) (ap₂ (λ (u v : Bool). u && v) (h n) (declared_all ds))

  items_all : (is : List Item) → all p (concat in_item (map short_item is)) ≡ all p (concat in_item is)
  items_all [] = refl
  items_all (item none l d ∷ is) = ap₂ (λ (u v : Bool). u && v) (h d) (items_all is)
  items_all (item (some r) l d ∷ is) = ap₂ (λ (u v : Bool). u && v) (h r) (ap₂ (λ (u v : Bool). u && v) (h d) (items_all is))

  digits_all : (ps : List (List ℕ)) → all p (map digits (map shortest ps)) ≡ all p (map digits ps)
  digits_all [] = refl
  digits_all (d ∷ ds) = ap₂ (λ (u v : Bool). u && v) (h d) (digits_all ds)

  pub line_all : (l : Line) → all p (in_line (short l)) ≡ all p (in_line l)
  unfolding in_line short
  line_all (declare d ds) = declared_all (d ∷ ds)
  line_all (give x i is) = items_all (i ∷ is)
  line_all (direct cs) = ap (λ (ps : List (List ℕ)). all p (map digits ps)) (threads_short cs) ∙ digits_all (threads_in cs)
  line_all (loop v l m k n) = ap₂ (λ (u v : Bool). u && (v && true)) (h m) (h n)
  line_all (inside (assign r e)) = both (in_ref 0 (short_ref r)) (mentions 0 (short_expr e)) (in_ref 0 r) (mentions 0 e) (ref_all 0 r) (expr_all 0 e)
  line_all (inside (when a r b)) =
      both (mentions 0 (short_expr a)) (mentions 0 (short_expr b)) (mentions 0 a) (mentions 0 b) (expr_all 0 a) (expr_all 0 b)
  line_all (inside otherwise) = refl
  line_all (inside (end_if j)) = refl
  line_all (end_do j) = refl
  line_all close = refl

-- ---- numbers that a line gives

extents_short : (d : Declared) → declared_extents (short_declared d) ≡ declared_extents d
extents_short (one x) = refl
extents_short (array x d) = ap (λ (k : ℕ). k ∷ []) (number_shortest d)
extents_short (grid x m n) = ap₂ (λ (j k : ℕ). j ∷ k ∷ []) (number_shortest m) (number_shortest n)

size_short : (d : Declared) → declared_size (short_declared d) ≡ declared_size d
size_short d = ap cells_of (extents_short d)

name_short : (d : Declared) → declared_name (short_declared d) ≡ declared_name d
name_short (one x) = refl
name_short (array x d) = refl
name_short (grid x m n) = refl

pub names_short : (ds : List Declared) → map declared_name (map short_declared ds) ≡ map declared_name ds
names_short [] = refl
names_short (d ∷ ds) = ap₂ (λ (x : List ℕ) (xs : List (List ℕ)). x ∷ xs) (name_short d) (names_short ds)

pub sizes_short : (ds : List Declared) → total declared_size (map short_declared ds) ≡ total declared_size ds
sizes_short [] = refl
sizes_short (d ∷ ds) = ap₂ ◌+◌ (size_short d) (sizes_short ds)

pub between_short : (ds : List Declared)
    → all (λ x. between 1 4096 (declared_size x)) (map short_declared ds) ≡ all (λ x. between 1 4096 (declared_size x)) ds
between_short [] = refl
between_short (d ∷ ds) = ap₂ (λ (n : ℕ) (b : Bool). between 1 4096 n && b) (size_short d) (between_short ds)

entry_short : (c : ℕ) (d : Declared) → entry_of c (short_declared d) ≡ entry_of c d
entry_short c d =
    ap₂ (λ (x : List ℕ) (ns : List ℕ). record { name = x; first = c; extents = ns; size = cells_of ns; class = shared; given = none })
    (name_short d) (extents_short d)

pub entries_short : (c : ℕ) (ds : List Declared) → entries c (map short_declared ds) ≡ entries c ds
entries_short c [] = refl
entries_short c (d ∷ ds) =
    ap₂ (λ (e : Entry) (es : List Entry). e ∷ es) (entry_short c d)
    (ap (λ (n : ℕ). entries (c + n) (map short_declared ds)) (size_short d) ∙ entries_short (c + declared_size d) ds)

pub total_short : (is : List Item) → total copies (map short_item is) ≡ total copies is
total_short [] = refl
total_short (i ∷ is) = ap₂ ◌+◌ (copies_short i) (total_short is)

pub some_short : (is : List Item) → all (λ j. ltb 0 (copies j)) (map short_item is) ≡ all (λ j. ltb 0 (copies j)) is
some_short [] = refl
some_short (i ∷ is) = ap₂ (λ (n : ℕ) (b : Bool). ltb 0 n && b) (copies_short i) (some_short is)

pub values_short : (is : List Item) → values (map short_item is) ≡ values is
unfolding values
values_short [] = refl
values_short (item none l d ∷ is) = ap₂ (λ (n : ℕ) (vs : List ℤ). signed l n ∷ vs) (number_shortest d) (values_short is)
values_short (item (some r) l d ∷ is) =
    rw (number_shortest r, number_shortest d) (ap (λ (vs : List ℤ). replicate (number r) (signed l (number d)) ++ vs) (values_short is))

pub ref_short : (r : Ref) → ref_name (short_ref r) ≡ ref_name r
unfolding short_ref
ref_short (single x) = refl
ref_short (element x is) = refl

-- ---- clauses

pub threads_length : (cs : List Clause) → length (threads_in (map short_clause cs)) ≡ length (threads_in cs)
threads_length cs = ap length (threads_short cs) ∙ length-map (threads_in cs) shortest

pub threads_between : (cs : List Clause)
    → all (λ p. between 1 8 (number p)) (threads_in (map short_clause cs)) ≡ all (λ p. between 1 8 (number p)) (threads_in cs)
threads_between [] = refl
threads_between (clause k x xs ∷ cs) = threads_between cs
threads_between (threads p ∷ cs) = ap₂ (λ (n : ℕ) (b : Bool). between 1 8 n && b) (number_shortest p) (threads_between cs)
threads_between (static ∷ cs) = threads_between cs

pub processors_short : (cs : List Clause) → processors_by (threads_in (map short_clause cs)) ≡ processors_by (threads_in cs)
processors_short cs = ap processors_by (threads_short cs) ∙ go (threads_in cs)
  where
    go : (ps : List (List ℕ)) → processors_by (map shortest ps) ≡ processors_by ps
    go [] = refl
    go (p ∷ ps) = number_shortest p

pub statics_short : (cs : List Clause) → statics_in (map short_clause cs) ≡ statics_in cs
statics_short [] = refl
statics_short (clause k x xs ∷ cs) = statics_short cs
statics_short (threads p ∷ cs) = statics_short cs
statics_short (static ∷ cs) = ap suc (statics_short cs)

pub clauses_short : (f : ClauseKind → Bool) (cs : List Clause) → names_in f (map short_clause cs) ≡ names_in f cs
clauses_short f [] = refl
clauses_short f (clause k x xs ∷ cs) = ap (λ (ys : List (List ℕ)). cond (f k) (x ∷ (xs ++ ys)) ys) (clauses_short f cs)
clauses_short f (threads p ∷ cs) = clauses_short f cs
clauses_short f (static ∷ cs) = clauses_short f cs

reduced_short : (cs : List Clause) (x : List ℕ) → reduced_in (map short_clause cs) x ≡ reduced_in cs x
reduced_short [] x = refl
reduced_short (clause Shared y ys ∷ cs) x = reduced_short cs x
reduced_short (clause Lastprivate y ys ∷ cs) x = reduced_short cs x
reduced_short (clause Firstprivate y ys ∷ cs) x = reduced_short cs x
reduced_short (clause (Reduction o) y ys ∷ cs) x = ap (cond (any (same x) (y ∷ ys)) (reduction o)) (reduced_short cs x)
reduced_short (threads p ∷ cs) x = reduced_short cs x
reduced_short (static ∷ cs) x = reduced_short cs x

class_short : (cs : List Clause) (x : List ℕ) → class_in (map short_clause cs) x ≡ class_in cs x
unfolding class_in
class_short cs x = rw (clauses_short in_firstprivate cs, clauses_short in_lastprivate cs, reduced_short cs x)

pub classify_short : (cs : List Clause) (es : List Entry) → map (classify (map short_clause cs)) es ≡ map (classify cs) es
classify_short cs [] = refl
classify_short cs (e ∷ es) =
    ap₂ (λ (c : Class) (fs : List Entry). with_class c e ∷ fs) (class_short cs e.name) (classify_short cs es)
