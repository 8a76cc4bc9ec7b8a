-- A line without leading zeros is good exactly where the line itself is, after lines that made the same known, and makes the same known.
use mathlib.Core.Path.{◌≡◌, refl, ◌∙◌, ap, ap₂}
use mathlib.Core.Bool.{Bool, ◌&&◌, not}
use mathlib.Core.List.{List, [], ◌∷◌, ◌++◌, map}
use mathlib.Core.Option.{Option, none, some}
use Prim.Native.Nat.{ℕ, suc}
use lib.Dec.{leb, eqb}
use lib.IntN.{ℤ}
use lib.ListN.{length, length-map}
use Rattle.rules.specs.declared.Grouping.{Grouping}
use Rattle.syntax.specs.Bytes.{all, any, same}
use Rattle.syntax.specs.Grammar.{assign, when, otherwise, end_if, Line, declare, give, direct, loop, inside, end_do, close}
use Rattle.syntax.specs.Known.{Entry, State, Open, Stmts, then_do, branched, turned, signed, iterations, cells, known, find, entries, give_to, in_lastprivate, in_firstprivate, in_another, grouping_by, classify, heading, stating, otherwise_after, end_if_after, after}
use Rattle.syntax.specs.Conditions.{in_line, rightly, is_given, different, each_once, singly, names, small, bounds, limits, stage_of, may_follow, else_fits, none_open, fits, stands}
use Rattle.printed.specs.Restated.{short_expr, short_declared, short, SameStmts, sets, branches, divides, SameKnown}
use Rattle.printed.specs.Restated as restated
use Rattle.printed.proofs.ZeroLaws.{number_shortest}
use Rattle.printed.proofs.ShortLines.{line_all, names_short, sizes_short, between_short, entries_short, total_short, some_short, values_short, ref_short, threads_length, threads_between, processors_short, statics_short, clauses_short, classify_short}

-- ---- the same made known so far

pub data SameFirst : Option Stmts → Option Stmts → Type 0 where
  neither : SameFirst none none
  both_met : {a b : Stmts} → SameStmts a b → SameFirst (some a) (some b)

pub record SameOpen (o u : Open) : Type 0 where
  pub left : u.left ≡ short_expr o.left
  pub relation : u.relation ≡ o.relation
  pub right : u.right ≡ short_expr o.right
  pub before : SameStmts o.before u.before
  pub first : SameFirst o.first u.first

pub data SameOpens : List Open → List Open → Type 0 where
  no_more : SameOpens [] []
  more : {o u : Open} {os us : List Open} → SameOpen o u → SameOpens os us → SameOpens (o ∷ os) (u ∷ us)

pub record Tracks (s t : State) : Type 0 where
  pub stage : t.stage ≡ s.stage
  pub known : SameKnown s t
  pub opens : SameOpens s.opens t.opens

-- ---- a good line stays good

opens_length : {os us : List Open} → SameOpens os us → length us ≡ length os
opens_length no_more = refl
opens_length (more h k) = ap suc (opens_length k)

given_first : {a b : Option Stmts} → SameFirst a b → is_given b ≡ is_given a
given_first neither = refl
given_first (both_met h) = refl

else_opens : {os us : List Open} → SameOpens os us → else_fits us ≡ else_fits os
else_opens no_more = refl
else_opens (more h k) = ap not (given_first h.first)

none_opens : {os us : List Open} → SameOpens os us → none_open us ≡ none_open os
none_opens no_more = refl
none_opens (more h k) = refl

stage_short : (l : Line) → stage_of (short l) ≡ stage_of l
unfolding short
stage_short (declare d ds) = refl
stage_short (give x i is) = refl
stage_short (direct cs) = refl
stage_short (loop v l m k n) = refl
stage_short (inside t) = refl
stage_short (end_do j) = refl
stage_short close = refl

fits_short : {os us : List Open} → SameOpens os us → (l : Line) → fits us (short l) ≡ fits os l
unfolding short
fits_short h (declare d ds) = refl
fits_short h (give x i is) = some_short (i ∷ is)
fits_short h (direct cs) = ap₂ (λ (n k : ℕ). eqb n 1 && leb k 1) (threads_length cs) (statics_short cs)
fits_short h (loop v l m k n) = refl
fits_short h (inside (assign r e)) = refl
fits_short h (inside (when a r b)) = refl
fits_short h (inside otherwise) = else_opens h
fits_short h (inside (end_if j)) = ap not (none_opens h)
fits_short h (end_do j) = none_opens h
fits_short h close = refl

module _ (s t : State) (h : Tracks s t) where
  pub stands_short : (l : Line) → stands t (short l) ≡ stands s l
  unfolding stands
  stands_short l = ap₂ (λ (a b : Bool). a && b) (ap₂ may_follow h.stage (stage_short l)) (fits_short h.opens l)

  singly_short : (l : Line) → singly t (short l) ≡ singly s l
  unfolding short
  singly_short (declare d ds) =
      ap₂ (λ (xs : List (List ℕ)) (es : List Entry). different xs && not (any (λ x. known x es) xs)) (names_short (d ∷ ds)) h.known.table
  singly_short (give x i is) =
      ap₂ (λ (n : ℕ) (es : List Entry). known x es && (not (is_given (find x es).given) && eqb n (find x es).size)) (total_short (i ∷ is))
      h.known.table
  singly_short (direct cs) =
      ap₂ (λ (a b : Bool). a && b)
      (ap₂ (λ (es : List Entry) (xs : List (List ℕ)). each_once (λ x. known x es) xs) h.known.table (clauses_short in_another cs))
      (ap₂ (λ (xs ys : List (List ℕ)). each_once (λ x. any (same x) xs) ys) (clauses_short in_lastprivate cs) (clauses_short in_firstprivate cs))
  singly_short (loop v l m k n) = ap (λ (es : List Entry). not (known v es)) h.known.table
  singly_short (inside (assign r e)) = ap₂ (λ (x v : List ℕ). not (same x v)) (ref_short r) h.known.variable
  singly_short (inside (when a r b)) = refl
  singly_short (inside otherwise) = refl
  singly_short (inside (end_if j)) = refl
  singly_short (end_do j) = refl
  singly_short close = refl

  pub names_kept : (l : Line) → names t (short l) ≡ names s l
  unfolding names
  names_kept l =
      ap₂ (λ (a b : Bool). a && b)
      (ap₂ (λ (es : List Entry) (v : List ℕ). all (rightly es v) (in_line (short l))) h.known.table h.known.variable
      ∙ line_all (rightly s.table s.variable) (λ d. refl) l)
      (singly_short l)

  bounds_short : (l : Line) → bounds t (short l) ≡ bounds s l
  unfolding short
  bounds_short (declare d ds) = rw (h.known.table, length-map ds short_declared, sizes_short (d ∷ ds), between_short (d ∷ ds))
  bounds_short (give x i is) = refl
  bounds_short (direct cs) = threads_between cs
  bounds_short (loop v l m k n) = ap₂ (λ (x y : ℕ). leb (iterations (signed l x) (signed k y)) 65535) (number_shortest m) (number_shortest n)
  bounds_short (inside (assign r e)) = refl
  bounds_short (inside (when a r b)) = ap (λ (n : ℕ). leb (suc n) 8) (opens_length h.opens)
  bounds_short (inside otherwise) = refl
  bounds_short (inside (end_if j)) = refl
  bounds_short (end_do j) = refl
  bounds_short close = refl

  pub limits_kept : (l : Line) → limits t (short l) ≡ limits s l
  unfolding limits
  limits_kept l = ap₂ (λ (a b : Bool). a && b) (line_all small (λ d. ap (λ (n : ℕ). leb n 2147483647) (number_shortest d)) l) (bounds_short l)

-- ---- and makes the same known

then_same : {a b c d : Stmts} → SameStmts a b → SameStmts c d → SameStmts (then_do a c) (then_do b d)
unfolding then_do
then_same restated.nothing k = k
then_same (sets h) k = sets (then_same h k)
then_same (branches p h) k = branches p (then_same h k)
then_same (divides p q h) k = divides p q (then_same h k)

same_branch : {o u : Open} → SameOpen o u → {a b : Option Stmts} → SameFirst a b → {p q : Stmts} → SameStmts p q
    → SameStmts (branched o a p) (branched u b q)
same_branch {o} {u} h neither {p} {q} k =
    rw (h.left, h.relation, h.right) (branches k restated.nothing)
same_branch {o} {u} h (both_met f) {p} {q} k =
    rw (h.left, h.relation, h.right) (divides f k restated.nothing)

module _ (s t : State) (h : Tracks s t) where
  stating_same : (n : ℕ) {os us : List Open} {a b : Stmts} → SameOpens os us → SameStmts a b → Tracks (stating n s os a) (stating n t us b)
  stating_same n p q = record {
    stage = refl;
    known = record {
      table = h.known.table;
      processors = h.known.processors;
      grouping = h.known.grouping;
      variable = h.known.variable;
      from = h.known.from;
      count = h.known.count;
      inner = q;
    };
    opens = p;
  }

  heading_same : (n : ℕ) {es fs : List Entry} {p q : ℕ} {i j : Grouping} → fs ≡ es → q ≡ p → j ≡ i → Tracks (heading n es p i) (heading n fs q j)
  heading_same n e f g = record {
    stage = refl;
    known = record {
      table = e;
      processors = f;
      grouping = g;
      variable = refl;
      from = refl;
      count = refl;
      inner = restated.nothing;
    };
    opens = no_more;
  }

  otherwise_same : {os us : List Open} → SameOpens os us → Tracks (otherwise_after s os) (otherwise_after t us)
  otherwise_same no_more = stating_same 5 no_more h.known.inner
  otherwise_same (more {o = o} {u = u} p k) = stating_same 5 (more turns k) restated.nothing
    where
      turns : SameOpen (turned o s.inner) (turned u t.inner)
      turns = record { left = p.left; relation = p.relation; right = p.right; before = p.before; first = both_met h.known.inner }

  end_if_same : {os us : List Open} → SameOpens os us → Tracks (end_if_after s os) (end_if_after t us)
  end_if_same no_more = stating_same 5 no_more h.known.inner
  end_if_same (more p k) = stating_same 5 k (then_same p.before (same_branch p p.first h.known.inner))

  pub after_short : (j k : ℕ) (l : Line) → Tracks (after j l s) (after k (short l) t)
  unfolding after short
  after_short j k (declare d ds) =
      heading_same 1
      (ap₂ (λ (es fs : List Entry). es ++ fs) h.known.table
      (entries_short (cells t.table) (d ∷ ds) ∙ ap (λ (es : List Entry). entries (cells es) (d ∷ ds)) h.known.table)) refl refl
  after_short j k (give x i is) =
      heading_same 2 (ap₂ (λ (vs : List ℤ) (es : List Entry). map (give_to x vs) es) (values_short (i ∷ is)) h.known.table) refl refl
  after_short j k (direct cs) =
      heading_same 3 (classify_short cs t.table ∙ ap (map (classify cs)) h.known.table) (processors_short cs)
      (ap grouping_by (statics_short cs))
  after_short j k (loop v l m i n) = record {
    stage = refl;
    known = record {
      table = h.known.table;
      processors = h.known.processors;
      grouping = h.known.grouping;
      variable = refl;
      from = ap (signed l) (number_shortest m);
      count = ap₂ (λ (x y : ℕ). iterations (signed l x) (signed i y)) (number_shortest m) (number_shortest n);
      inner = restated.nothing;
    };
    opens = no_more;
  }
  after_short j k (inside (assign r e)) = stating_same 5 h.opens (then_same h.known.inner (sets restated.nothing))
  after_short j k (inside (when a r b)) =
      stating_same 5
      (more (record { left = refl; relation = refl; right = refl; before = h.known.inner; first = neither }) h.opens) restated.nothing
  after_short j k (inside otherwise) = otherwise_same h.opens
  after_short j k (inside (end_if i)) = end_if_same h.opens
  after_short j k (end_do i) = stating_same 6 h.opens h.known.inner
  after_short j k close = stating_same 7 h.opens h.known.inner
