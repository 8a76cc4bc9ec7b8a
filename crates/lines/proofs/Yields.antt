-- What lines the readers yield.
use mathlib.Core.List.{List}
use Prim.Native.Nat.{ℕ}
use Rattle.int32.specs.declared.Relation.{Relation}
use Rattle.syntax.specs.Grammar.{Lead, Expr, Ref, Declared, Item, Clause, assign, when, Line, declare, give, direct, loop, inside}
use Rattle.syntax.specs.Reader.{Parsed, broken, done, Reader, next, expects, wants, read_name, read_digits, read_rel, read_lead, read_expr, read_ref, read_more, read_list, read_declared, read_declare, read_item, read_give, read_clauses, read_opening, read_loop, read_assign, read_when, peek_in, skip_in}

-- P holds of the line that is read
abbrev pub Yields : (Line → Type 0) → Parsed (List ℕ) Line → Type 0
Yields P broken = Unit {0}
Yields P (done l u) = P l

module _ (P : Line → Type 0) where
  -- one reader after another
  pub yields_next : {A : Type 0} (q : Parsed (List ℕ) A) (k : A → Reader (List ℕ) Line) → ((a : A) (u : List ℕ) → Yields P (k a u)) → Yields P (next q k)
  yields_next broken k h = tt
  yields_next (done a u) k h = h a u

  pub yields_declare : ((d : Declared) (ds : List Declared) → P (declare d ds)) → (f : ℕ) (s : List ℕ) → Yields P (read_declare peek_in skip_in f s)
  unfolding read_declare
  yields_declare h f s =
      yields_next (wants peek_in skip_in "integer" s) _ (λ _ t. yields_next (read_declared peek_in skip_in t) _ (λ d u.
      yields_next (read_more peek_in skip_in f (read_declared peek_in skip_in) u) _ (λ ds _. h d ds)))

  pub yields_give : ((x : List ℕ) (i : Item) (is : List Item) → P (give x i is)) → (f : ℕ) (s : List ℕ) → Yields P (read_give peek_in skip_in f s)
  unfolding read_give
  yields_give h f s =
      yields_next (wants peek_in skip_in "data" s) _
      (λ _ t. yields_next (read_name peek_in skip_in t) _ (λ x u. yields_next (expects peek_in skip_in "/" u) _ (λ _ v.
      yields_next (read_list peek_in skip_in f (read_item peek_in skip_in) (λ i is. (i, is)) v) _
      (λ (i, is) w. yields_next (expects peek_in skip_in "/" w) _ (λ _ _. h x i is)))))

  pub yields_direct : ((cs : List Clause) → P (direct cs)) → (f : ℕ) (s : List ℕ) → Yields P (read_opening peek_in skip_in f s)
  yields_direct h f s =
      yields_next (expects peek_in skip_in "!$omp" s) _
      (λ _ t. yields_next (wants peek_in skip_in "parallel" t) _ (λ _ u. yields_next (wants peek_in skip_in "do" u) _ (λ _ v.
      yields_next (read_clauses peek_in skip_in f v) _ (λ cs _. h cs))))

  pub yields_loop : ((v : List ℕ) (l : Lead) (m : List ℕ) (k : Lead) (n : List ℕ) → P (loop v l m k n))
      → (f : ℕ) (s : List ℕ) → Yields P (read_loop peek_in skip_in f s)
  unfolding read_loop
  yields_loop h f s =
      yields_next (wants peek_in skip_in "do" s) _
      (λ _ t. yields_next (read_name peek_in skip_in t) _ (λ v u. yields_next (expects peek_in skip_in "=" u) _ (λ _ w.
      yields_next (read_lead peek_in skip_in w) _
      (λ l x. yields_next (read_digits peek_in skip_in x) _ (λ m y. yields_next (expects peek_in skip_in "," y) _ (λ _ z.
      yields_next (read_lead peek_in skip_in z) _ (λ k z. yields_next (read_digits peek_in skip_in z) _ (λ n _. h v l m k n))))))))

  pub yields_assign : ((r : Ref) (e : Expr) → P (inside (assign r e))) → (f : ℕ) (s : List ℕ) → Yields P (read_assign peek_in skip_in f s)
  unfolding read_assign
  yields_assign h f s =
      yields_next (read_ref peek_in skip_in f s) _
      (λ r t. yields_next (expects peek_in skip_in "=" t) _ (λ _ u. yields_next (read_expr peek_in skip_in f u) _ (λ e _. h r e)))

  pub yields_when : ((a : Expr) (o : Relation) (b : Expr) → P (inside (when a o b))) → (f : ℕ) (s : List ℕ) → Yields P (read_when peek_in skip_in f s)
  unfolding read_when
  yields_when h f s =
      yields_next (wants peek_in skip_in "if" s) _ (λ _ t. yields_next (expects peek_in skip_in "(" t) _ (λ _ u.
      yields_next (read_expr peek_in skip_in f u) _ (λ a v. yields_next (read_rel peek_in skip_in v) _ (λ o w.
      yields_next (read_expr peek_in skip_in f w) _ (λ b x. yields_next (expects peek_in skip_in ")" x) _ (λ _ y.
      yields_next (wants peek_in skip_in "then" y) _ (λ _ _. h a o b)))))))
