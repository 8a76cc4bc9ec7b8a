-- Laws of taking leading zeros away: of digits, of tokens, and that the syntax without leading zeros is written with the tokens without them.
use mathlib.Core.Path.{◌≡◌, refl, sym, ◌∙◌, ap, ap₂, subst}
use mathlib.Core.Bool.{true, false}
use mathlib.Core.List.{List, [], ◌∷◌, ◌++◌, map}
use mathlib.Core.Option.{none, some}
use Prim.Native.Nat.{ℕ}
use lib.Dec.{eqb}
use borrow.Author.Tests.{eqb-true}
use Rattle.int32.specs.declared.Relation.{Relation}
use Rattle.int32.specs.declared.Relation.TheVariants.{Equal, Unequal, Less, AtMost, Greater, AtLeast}
use Rattle.rules.specs.declared.Operator.{Operator}
use Rattle.rules.specs.declared.Operator.TheVariants.{Sum, Product, Maximum}
use Rattle.syntax.specs.declared.ClauseKind.{ClauseKind}
use Rattle.syntax.specs.declared.ClauseKind.TheVariants.{Shared, Lastprivate, Firstprivate, Reduction}
use Rattle.syntax.specs.declared.Function.{Function}
use Rattle.syntax.specs.declared.Function.TheVariants.{Rdiv, Max}
use Rattle.syntax.specs.Bytes.{Token, name, other_word, digits, sign}
use Rattle.syntax.specs.Grammar.{number, number_from, Lead, bare, plus, minus, Expr, expr, Terms, no_terms, terms, Term, term, Factors, no_factors, factors, Factor, literal, cell, call, brackets, Ref, single, element, Subscripts, subscript, subscripts, Declared, one, array, grid, Item, item, Clause, clause, threads, static, Statement, assign, when, otherwise, end_if, Line, declare, give, direct, loop, inside, end_do, close, sg, wd, show_name, show_digits, show_lead, show_rel, show_more, show_function, show, show_terms, show_term, show_factors, show_factor, show_ref, show_subscripts, show_declared, show_signed, show_item, show_operator, show_kind, show_clause, show_clauses, show_statement, show_line}
use Rattle.syntax.specs.Meaning.{no_zeros}
use Rattle.syntax.proofs.TestLaws.{choose_each}
use Rattle.printed.specs.Form.{shortest, zeros_gone}
use Rattle.printed.specs.Restated.{short_expr, short_terms, short_term, short_factors, short_factor, short_ref, short_subscripts, short_declared, short_item, short_clause, short_statement, short}

-- ---- digits

-- what holds of digits, and still holds when a zero before others goes, holds of the shortest
pub shortest_holds : (P : List ℕ → Type 0) → ((e : ℕ) (ds : List ℕ) → P (48 ∷ e ∷ ds) → P (e ∷ ds)) → (d : List ℕ) → P d → P (shortest d)
unfolding shortest
shortest_holds P h [] p = p
shortest_holds P h (d ∷ []) p = p
shortest_holds P h (d ∷ e ∷ ds) p =
    choose_each P (eqb d 48) _ _
    (λ q. shortest_holds P h (e ∷ ds) (h e ds (subst (λ (x : ℕ). P (x ∷ e ∷ ds)) (eqb-true d 48 q) p)))
    (λ q. p)

shortest_keeps : {A : Type 0} (f : List ℕ → A) → ((e : ℕ) (ds : List ℕ) → f (48 ∷ e ∷ ds) ≡ f (e ∷ ds)) → (d : List ℕ) → f (shortest d) ≡ f d
shortest_keeps f h d = shortest_holds (λ (x : List ℕ). f x ≡ f d) (λ e ds i. sym (h e ds) ∙ i) d refl

pub number_shortest : (d : List ℕ) → number (shortest d) ≡ number d
unfolding number_from
number_shortest = shortest_keeps number (λ e ds. refl)

shortest_twice : (d : List ℕ) → shortest (shortest d) ≡ shortest d
unfolding shortest
shortest_twice = shortest_keeps shortest (λ e ds. refl)

pub no_zeros_shortest : (d : List ℕ) → no_zeros (shortest d) ≡ no_zeros d
unfolding no_zeros
no_zeros_shortest = shortest_keeps no_zeros (λ e ds. refl)

-- ---- tokens

gone_twice : (t : Token) → zeros_gone (zeros_gone t) ≡ zeros_gone t
gone_twice (name b) = refl
gone_twice (other_word b) = refl
gone_twice (digits b) = ap digits (shortest_twice b)
gone_twice (sign b) = refl

pub all_gone_twice : (ts : List Token) → map zeros_gone (map zeros_gone ts) ≡ map zeros_gone ts
all_gone_twice [] = refl
all_gone_twice (t ∷ ts) = ap₂ (λ (x : Token) (xs : List Token). x ∷ xs) (gone_twice t) (all_gone_twice ts)

-- these tokens become those
data Gone : List Token → List Token → Type 0 where
  nothing : Gone [] []
  token : (t : Token) {ts us : List Token} → Gone ts us → Gone (t ∷ ts) (zeros_gone t ∷ us)

gone_is : {ts us : List Token} → Gone ts us → us ≡ map zeros_gone ts
gone_is nothing = refl
gone_is (token t h) = ap (λ (xs : List Token). zeros_gone t ∷ xs) (gone_is h)

joins : {a b c d : List Token} → Gone a c → Gone b d → Gone (a ++ b) (c ++ d)
joins nothing q = q
joins (token t p) q = token t (joins p q)

itself : (ts : List Token) → Gone ts (map zeros_gone ts)
itself [] = nothing
itself (t ∷ ts) = token t (itself ts)

-- ---- expressions

lead_gone : (l : Lead) → Gone (show_lead l) (show_lead l)
lead_gone bare = nothing
lead_gone plus = token _ nothing
lead_gone minus = token _ nothing

rel_gone : (r : Relation) → Gone (show_rel r) (show_rel r)
rel_gone Equal = token _ nothing
rel_gone Unequal = token _ nothing
rel_gone Less = token _ nothing
rel_gone AtMost = token _ nothing
rel_gone Greater = token _ nothing
rel_gone AtLeast = token _ nothing

signed_gone : (l : Lead) (d : List ℕ) → Gone (show_signed l d) (show_signed l (shortest d))
signed_gone l d = joins (lead_gone l) (itself (show_digits d))

function_gone : (f : Function) → Gone (show_function f) (show_function f)
function_gone Rdiv = token _ nothing
function_gone Max = token _ nothing

mutual
  unfolding show show_terms show_term show_factors show_factor show_ref show_subscripts short_expr short_terms short_term short_factors short_factor short_ref
      short_subscripts

  expr_gone : (e : Expr) → Gone (show e) (show (short_expr e))
  expr_gone (expr l t ts) = joins (lead_gone l) (joins (term_gone t) (terms_gone ts))

  terms_gone : (e : Terms) → Gone (show_terms e) (show_terms (short_terms e))
  terms_gone no_terms = nothing
  terms_gone (terms true t ts) = token _ (joins (term_gone t) (terms_gone ts))
  terms_gone (terms false t ts) = token _ (joins (term_gone t) (terms_gone ts))

  term_gone : (e : Term) → Gone (show_term e) (show_term (short_term e))
  term_gone (term x xs) = joins (factor_gone x) (factors_gone xs)

  factors_gone : (e : Factors) → Gone (show_factors e) (show_factors (short_factors e))
  factors_gone no_factors = nothing
  factors_gone (factors true x xs) = token _ (joins (factor_gone x) (factors_gone xs))
  factors_gone (factors false x xs) = token _ (joins (factor_gone x) (factors_gone xs))

  factor_gone : (e : Factor) → Gone (show_factor e) (show_factor (short_factor e))
  factor_gone (literal d) = token _ nothing
  factor_gone (cell r) = ref_gone r
  factor_gone (call f a b) = joins (function_gone f) (token _ (joins (expr_gone a) (token _ (joins (expr_gone b) (token _ nothing)))))
  factor_gone (brackets e) = token _ (joins (expr_gone e) (token _ nothing))

  ref_gone : (e : Ref) → Gone (show_ref e) (show_ref (short_ref e))
  ref_gone (single x) = token _ nothing
  ref_gone (element x is) = token _ (token _ (joins (subscripts_gone is) (token _ nothing)))

  subscripts_gone : (is : Subscripts) → Gone (show_subscripts is) (show_subscripts (short_subscripts is))
  subscripts_gone (subscript e) = expr_gone e
  subscripts_gone (subscripts e f) = joins (expr_gone e) (token _ (expr_gone f))

-- ---- lines

more_gone : {A : Type 0} (f : A → List Token) (g : A → A) → ((x : A) → Gone (f x) (f (g x))) → (xs : List A)
    → Gone (show_more f xs) (show_more f (map g xs))
unfolding show_more
more_gone f g h [] = nothing
more_gone f g h (x ∷ xs) = token _ (joins (h x) (more_gone f g h xs))

names_gone : (xs : List (List ℕ)) → Gone (show_more show_name xs) (show_more show_name xs)
unfolding show_more
names_gone [] = nothing
names_gone (x ∷ xs) = token _ (token _ (names_gone xs))

declared_gone : (d : Declared) → Gone (show_declared d) (show_declared (short_declared d))
declared_gone (one x) = token _ nothing
declared_gone (array x d) = itself (show_declared (array x d))
declared_gone (grid x m n) = itself (show_declared (grid x m n))

item_gone : (i : Item) → Gone (show_item i) (show_item (short_item i))
item_gone (item none l d) = signed_gone l d
item_gone (item (some r) l d) = token _ (token _ (signed_gone l d))

operator_gone : (o : Operator) → Gone (show_operator o) (show_operator o)
operator_gone Sum = token _ nothing
operator_gone Product = token _ nothing
operator_gone Maximum = token _ nothing

kind_gone : (k : ClauseKind) → Gone (show_kind k) (show_kind k)
kind_gone Shared = itself (show_kind Shared)
kind_gone Lastprivate = itself (show_kind Lastprivate)
kind_gone Firstprivate = itself (show_kind Firstprivate)
kind_gone (Reduction o) = token _ (token _ (joins (operator_gone o) (token _ nothing)))

clause_gone : (c : Clause) → Gone (show_clause c) (show_clause (short_clause c))
clause_gone (clause k x xs) = joins (kind_gone k) (joins (token _ (names_gone xs)) (token _ nothing))
clause_gone (threads p) = itself (show_clause (threads p))
clause_gone static = itself (show_clause static)

clauses_gone : (cs : List Clause) → Gone (show_clauses cs) (show_clauses (map short_clause cs))
unfolding show_clauses
clauses_gone [] = nothing
clauses_gone (c ∷ cs) = joins (clause_gone c) (clauses_gone cs)

statement_gone : (t : Statement) → Gone (show_statement t) (show_statement (short_statement t))
statement_gone (assign r e) = joins (ref_gone r) (token _ (expr_gone e))
statement_gone (when a r b) =
    token _ (token _ (joins (expr_gone a) (joins (rel_gone r) (joins (expr_gone b) (itself (sg ")" ++ wd "then"))))))
statement_gone otherwise = token _ nothing
statement_gone (end_if true) = token _ nothing
statement_gone (end_if false) = itself (show_statement (end_if false))

line_gone : (l : Line) → Gone (show_line l) (show_line (short l))
unfolding show_line short
line_gone (declare d ds) = token _ (joins (declared_gone d) (more_gone show_declared short_declared declared_gone ds))
line_gone (give x i is) =
    token _ (token _ (token _ (joins (joins (item_gone i) (more_gone show_item short_item item_gone is)) (token _ nothing))))
line_gone (direct cs) = token _ (token _ (token _ (clauses_gone cs)))
line_gone (loop v l m k n) =
    token _ (token _ (token _ (joins (signed_gone l m) (token _ (signed_gone k n)))))
line_gone (inside t) = statement_gone t
line_gone (end_do true) = token _ nothing
line_gone (end_do false) = itself (wd "end" ++ wd "do")
line_gone close = itself (sg "!$omp" ++ wd "end" ++ wd "parallel" ++ wd "do")

-- the line without leading zeros is written with the tokens without them
pub show_short : (l : Line) → show_line (short l) ≡ map zeros_gone (show_line l)
show_short l = gone_is (line_gone l)

pub show_short_ref : (r : Ref) → show_ref (short_ref r) ≡ map zeros_gone (show_ref r)
show_short_ref r = gone_is (ref_gone r)
