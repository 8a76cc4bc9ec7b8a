-- Readers: what syntax the tokens at a place of a line are. They are written over any kind of place: `peek` is the token there and `skip` the
-- place after it, so that one text serves both a list of tokens and what is left of a line's bytes. Nothing here has to be believed: a line is
-- read exactly where its tokens are those of the grammar (proofs/Theorem.antt).
use Rattle.std.specs.Prelude.{Bool, true, false, cond, ◌&&◌, ◌||◌, List, [], ◌∷◌, ℕ, zero, suc, ◌+◌, ◌*◌, eqb, length, take, drop}
use Rattle.std.proofs.Math.Option.{Option, none, some}
use Prim.Native.String.{String}
use Rattle.int32.specs.declared.Relation.{Relation}
use Rattle.int32.specs.declared.Relation.TheVariants.{Equal, Unequal, Less, AtMost, Greater, AtLeast}
use Rattle.rules.specs.declared.Operator.{Operator}
use Rattle.rules.specs.declared.Operator.TheVariants.{Sum, Product, Maximum}
use Rattle.syntax.specs.declared.ClauseKind.{ClauseKind}
use Rattle.syntax.specs.declared.ClauseKind.TheVariants.{Shared, Lastprivate, Firstprivate, Reduction}
use Rattle.syntax.specs.declared.Function.TheVariants.{Rdiv, Max}
use Rattle.syntax.specs.Bytes.{choose, same, bytes, Token, kind_of, bytes_of, sign, word_of, token_of, token_size, trimmed}
use Rattle.syntax.specs.Grammar.{Lead, bare, plus, minus, Expr, expr, Terms, no_terms, terms, Term, term, Factors, no_factors, factors, Factor, literal, cell, call, brackets, Ref, single, element, Subscripts, subscript, subscripts, Declared, one, array, grid, Item, item, Clause, clause, threads, static, assign, when, otherwise, end_if, Line, declare, give, direct, loop, inside, end_do, close}

-- what is read, and the place after it
pub data Parsed (S A : Type 0) : Type 0 where
  broken : Parsed S A
  done : A → S → Parsed S A

abbrev pub Reader : Type 0 → Type 0 → Type 0
Reader S A = S → Parsed S A

abbrev pub next : {S A B : Type 0} → Parsed S A → (A → Reader S B) → Parsed S B
next broken k = broken
next (done a s) k = k a s

-- one after the other
abbrev pub ◌>>=◌ : {S A B : Type 0} → Reader S A → (A → Reader S B) → Reader S B
◌>>=◌ p k s = next (p s) k

abbrev pub ◌>>◌ : {S A B : Type 0} → Reader S A → Reader S B → Reader S B
◌>>◌ p q s = next (p s) (λ _. q)

abbrev pub yield : {S A : Type 0} → A → Reader S A
yield a s = done a s

abbrev pub fail : {S A : Type 0} → Reader S A
fail s = broken

abbrev pub at : {S A : Type 0} → S → Reader S A → Parsed S A
at s p = p s

-- Tests of a token, where `none` is the line's end

abbrev pub kind : Option Token → ℕ
kind none = 0
kind (some t) = kind_of t

abbrev pub text : Option Token → List ℕ
text none = []
text (some t) = bytes_of t

abbrev pub is : Token → Option Token → Bool
is t o = eqb (kind_of t) (kind o) && same (bytes_of t) (text o)

abbrev pub is_sign : String → Option Token → Bool
is_sign t = is (sign (bytes t))

abbrev pub rel_of : Option Token → Option Relation
rel_of t =
    cond (is_sign "==" t) (some Equal) (cond (is_sign "/=" t) (some Unequal)
    (cond (is_sign "<" t) (some Less) (cond (is_sign "<=" t) (some AtMost)
    (cond (is_sign ">" t) (some Greater) (cond (is_sign ">=" t) (some AtLeast) none)))))

abbrev pub operator_of : Option Token → Option Operator
operator_of t = cond (is_sign "+" t) (some Sum) (cond (is_sign "*" t) (some Product) (cond (is (word_of (bytes "max")) t) (some Maximum) none))

module _ {S : Type 0} (peek : S → Option Token) (skip : S → S) where
  abbrev pub sees : String → S → Bool
  sees t s = is_sign t (peek s)

  abbrev pub says : String → S → Bool
  says t s = is (word_of (bytes t)) (peek s)

  -- this sign, this word, the line's end
  abbrev pub expects : String → Reader S (Unit {0})
  expects t s = cond (sees t s) (done tt (skip s)) broken

  abbrev pub wants : String → Reader S (Unit {0})
  wants t s = cond (says t s) (done tt (skip s)) broken

  abbrev pub finish : Reader S (Unit {0})
  finish s = cond (eqb (kind (peek s)) 0) (done tt s) broken

  -- a name, digits
  abbrev pub read_name : Reader S (List ℕ)
  read_name s = cond (eqb (kind (peek s)) 1) (done (text (peek s)) (skip s)) broken

  abbrev pub is_digits : S → Bool
  is_digits s = eqb (kind (peek s)) 3

  abbrev pub read_digits : Reader S (List ℕ)
  read_digits s = cond (is_digits s) (done (text (peek s)) (skip s)) broken

  abbrev pub given : {A : Type 0} → Option A → S → Parsed S A
  given none s = broken
  given (some a) s = done a (skip s)

  abbrev pub read_rel : Reader S Relation
  read_rel s = given (rel_of (peek s)) s

  abbrev pub read_operator : Reader S Operator
  read_operator s = given (operator_of (peek s)) s

  abbrev pub read_lead : Reader S Lead
  read_lead s = cond (sees "+" s) (done plus (skip s)) (cond (sees "-" s) (done minus (skip s)) (done bare s))

  -- two arguments and the bracket that ends them
  abbrev pub read_pair : {A : Type 0} → Reader S Expr → (Expr → Expr → A) → Reader S A
  read_pair read_argument mk = do
    a ← read_argument
    expects ","
    b ← read_argument
    expects ")"
    yield (mk a b)

  -- one subscript or two, and the bracket that ends them
  abbrev pub read_subscripts : Reader S Expr → Reader S Subscripts
  read_subscripts read_subscript = do
    e ← read_subscript
    (λ u. choose (sees "," u)
        (λ _. at (skip u) do
          f ← read_subscript
          expects ")"
          yield (subscripts e f))
        (λ _. at u do
          expects ")"
          yield (subscript e)))

  -- Expressions. f bounds how deep the calls go: three for each token that is left, and four more, are enough.
  unfoldable mutual
    pub read_expr : ℕ → Reader S Expr
    read_expr zero = fail
    read_expr (suc f) = do
      l ← read_lead
      t ← read_term f
      ts ← read_terms f
      yield (expr l t ts)

    pub read_terms : ℕ → Reader S Terms
    read_terms zero = fail
    read_terms (suc f) = λ s.
        choose (sees "+" s || sees "-" s)
        (λ _. at (skip s) do
          t ← read_term f
          ts ← read_terms f
          yield (terms (sees "-" s) t ts))
        (λ _. done no_terms s)

    pub read_term : ℕ → Reader S Term
    read_term zero = fail
    read_term (suc f) = do
      x ← read_factor f
      xs ← read_factors f
      yield (term x xs)

    pub read_factors : ℕ → Reader S Factors
    read_factors zero = fail
    read_factors (suc f) = λ s.
        choose (sees "*" s || sees "/" s)
        (λ _. at (skip s) do
          x ← read_factor f
          xs ← read_factors f
          yield (factors (sees "/" s) x xs))
        (λ _. done no_factors s)

    pub read_factor : ℕ → Reader S Factor
    read_factor zero = fail
    read_factor (suc f) = λ s.
        choose (is_digits s) (λ _. at s do
          d ← read_digits
          yield (literal d)) (λ _.
        choose (sees "(" s) (λ _. at (skip s) do
          e ← read_expr f
          expects ")"
          yield (brackets e)) (λ _.
        choose (says "rdiv" s) (λ _. at (skip s) do
          expects "("
          read_pair (read_expr f) (call Rdiv)) (λ _.
        choose (says "max" s) (λ _. at (skip s) do
          expects "("
          read_pair (read_expr f) (call Max)) (λ _. at s do
            r ← read_ref f
            yield (cell r)))))

    pub read_ref : ℕ → Reader S Ref
    read_ref zero = fail
    read_ref (suc f) = do
      x ← read_name
      (λ u. choose (sees "(" u)
          (λ _. at (skip u) do
            is ← read_subscripts (read_expr f)
            yield (element x is))
          (λ _. done (single x) u))

  -- Lists

  -- further parts, each after a comma
  unfoldable pub read_more : {A : Type 0} → ℕ → Reader S A → S → Parsed S (List A)
  read_more zero r s = broken
  read_more (suc f) r s =
      choose (sees "," s)
      (λ _. at (skip s) do
        a ← r
        more ← read_more f r
        yield (a ∷ more))
      (λ _. done [] s)

  -- one part, and further ones
  abbrev pub read_list : {A B : Type 0} → ℕ → Reader S A → (A → List A → B) → Reader S B
  read_list f r mk = do
    a ← r
    more ← read_more f r
    yield (mk a more)

  -- 1. integer lines
  abbrev pub read_declared : Reader S Declared
  read_declared = do
    x ← read_name
    (λ u. choose (sees "(" u)
        (λ _. at (skip u) do
          d ← read_digits
          (λ w. choose (sees "," w)
              (λ _. at (skip w) do
                n ← read_digits
                expects ")"
                yield (grid x d n))
              (λ _. at w do
                expects ")"
                yield (array x d))))
        (λ _. done (one x) u))

  unfoldable pub read_declare : ℕ → S → Parsed S Line
  read_declare f s = at s do
    wants "integer"
    read_list f read_declared declare

  -- 2. data lines
  abbrev pub read_signed : {A : Type 0} → (Lead → List ℕ → A) → Reader S A
  read_signed mk = do
    l ← read_lead
    d ← read_digits
    yield (mk l d)

  -- digits before * are a repeat
  abbrev pub read_item : Reader S Item
  read_item s =
      choose (is_digits s && sees "*" (skip s))
      (λ _. at s do
        r ← read_digits
        expects "*"
        read_signed (item (some r)))
      (λ _. read_signed (item none) s)

  -- what follows `data`
  abbrev pub read_data : {A B : Type 0} → Reader S A → (List ℕ → A → B) → Reader S B
  read_data read_items mk = do
    x ← read_name
    expects "/"
    is ← read_items
    expects "/"
    yield (mk x is)

  unfoldable pub read_give : ℕ → S → Parsed S Line
  read_give f s = at s do
    wants "data"
    read_data (read_list f read_item (λ i is. (i, is))) (λ x (i, is). give x i is)

  -- 3. the directive, and 7. the closing one

  -- the words and signs before the names of a clause
  abbrev pub read_kind : Reader S ClauseKind
  read_kind s =
      choose (says "shared" s) (λ _. at (skip s) do
        expects "("
        yield Shared) (λ _.
      choose (says "lastprivate" s) (λ _. at (skip s) do
        expects "("
        yield Lastprivate) (λ _.
      choose (says "firstprivate" s) (λ _. at (skip s) do
        expects "("
        yield Firstprivate) (λ _. at s do
          wants "reduction"
          expects "("
          o ← read_operator
          expects ":"
          yield (Reduction o))))

  -- the names, after them
  abbrev pub read_names : ℕ → ClauseKind → Reader S Clause
  read_names f k = do
    x ← read_name
    xs ← read_more f read_name
    expects ")"
    yield (clause k x xs)

  abbrev pub read_listed : ℕ → Reader S Clause
  read_listed f = do
    k ← read_kind
    read_names f k

  -- what follows `num_threads`
  abbrev pub read_threads : Reader S (List ℕ)
  read_threads = do
    expects "("
    p ← read_digits
    expects ")"
    yield p

  -- what follows `schedule`
  abbrev pub read_static : Reader S Clause
  read_static = do
    expects "("
    wants "static"
    expects ")"
    yield static

  abbrev pub read_clause : ℕ → Reader S Clause
  read_clause f s =
      choose (says "num_threads" s) (λ _. at (skip s) do
        p ← read_threads
        yield (threads p)) (λ _.
      choose (says "schedule" s) (λ _. read_static (skip s)) (λ _. read_listed f s))

  -- clauses up to the line's end
  unfoldable pub read_clauses : ℕ → S → Parsed S (List Clause)
  read_clauses zero s = broken
  read_clauses (suc f) s =
      choose (eqb (kind (peek s)) 0)
      (λ _. done [] s)
      (λ _. at s do
        c ← read_clause f
        cs ← read_clauses f
        yield (c ∷ cs))

  abbrev pub read_opening : ℕ → Reader S Line
  read_opening f = do
    expects "!$omp"
    wants "parallel"
    wants "do"
    cs ← read_clauses f
    yield (direct cs)

  abbrev pub read_closing : Reader S Line
  read_closing = do
    expects "!$omp"
    wants "end"
    wants "parallel"
    wants "do"
    yield close

  unfoldable pub read_directive : ℕ → S → Parsed S Line
  read_directive f s = choose (says "end" (skip s)) (λ _. read_closing s) (λ _. read_opening f s)

  -- 4. do: the name and the bounds
  abbrev pub read_bounds : {A : Type 0} → (List ℕ → Lead → List ℕ → Lead → List ℕ → A) → Reader S A
  read_bounds mk = do
    v ← read_name
    expects "="
    l ← read_lead
    m ← read_digits
    expects ","
    k ← read_lead
    n ← read_digits
    yield (mk v l m k n)

  unfoldable pub read_loop : ℕ → S → Parsed S Line
  read_loop f s = at s do
    wants "do"
    read_bounds loop

  -- 5. statements
  unfoldable pub read_assign : ℕ → S → Parsed S Line
  read_assign f s = at s do
    r ← read_ref f
    expects "="
    e ← read_expr f
    yield (inside (assign r e))

  -- what follows the left side of a condition
  abbrev pub read_compared : {A : Type 0} → Reader S Expr → (Relation → Expr → A) → Reader S A
  read_compared read_side mk = do
    r ← read_rel
    b ← read_side
    expects ")"
    wants "then"
    yield (mk r b)

  unfoldable pub read_when : ℕ → S → Parsed S Line
  read_when f s = at s do
    wants "if"
    expects "("
    a ← read_expr f
    read_compared (read_expr f) (λ r b. inside (when a r b))

  -- `end if` and 6. `end do`
  unfoldable pub read_end : ℕ → S → Parsed S Line
  read_end f s =
      choose (says "if" (skip s))
      (λ _. at (skip s) do
        wants "if"
        yield (inside (end_if false)))
      (λ _. at (skip s) do
        wants "do"
        yield (end_do false))

  -- which reader a line's first token calls for
  unfoldable pub read_start : ℕ → S → Parsed S Line
  read_start f s =
      choose (says "integer" s) (λ _. read_declare f s) (λ _.
      choose (says "data" s) (λ _. read_give f s) (λ _.
      choose (sees "!$omp" s) (λ _. read_directive f s) (λ _.
      choose (says "do" s) (λ _. read_loop f s) (λ _.
      choose (says "if" s) (λ _. read_when f s) (λ _.
      choose (says "else" s) (λ _. done (inside otherwise) (skip s)) (λ _.
      choose (says "end" s) (λ _. read_end f s) (λ _.
      choose (says "endif" s) (λ _. done (inside (end_if true)) (skip s)) (λ _.
      choose (says "enddo" s) (λ _. done (end_do true) (skip s)) (λ _.
      read_assign f s)))))))))

  -- a whole line
  unfoldable pub read_line : ℕ → S → Parsed S Line
  read_line f s = at s do
    l ← read_start f
    finish
    yield l

-- ---- a line as a list of tokens

abbrev pub first : List Token → Option Token
first [] = none
first (t ∷ ts) = some t

abbrev pub rest : List Token → List Token
rest [] = []
rest (t ∷ ts) = ts

abbrev pub syntax_of : Parsed (List Token) Line → Option Line
syntax_of broken = none
syntax_of (done l s) = some l

-- the syntax of a line's tokens, if they follow the grammar
unfoldable pub parse : List Token → Option Line
parse ts = syntax_of (read_line first rest (3 * length ts + 4) ts)

-- ---- a line as what is left of its bytes

abbrev pub token_in : List ℕ → Option Token
token_in [] = none
token_in (b ∷ s) = some (token_of b (take (token_size b s) (b ∷ s)))

abbrev pub after_in : List ℕ → List ℕ
after_in [] = []
after_in (b ∷ s) = drop (token_size b s) (b ∷ s)

-- the token there, and what is left after it
unfoldable pub peek_in : List ℕ → Option Token
peek_in s = token_in (trimmed s)

unfoldable pub skip_in : List ℕ → List ℕ
skip_in s = after_in (trimmed s)
