-- Clauses one after the other.
use mathlib.Core.Path.{◌≡◌, refl, sym, ◌∙◌, ap, subst, subst₂}
use mathlib.Core.Bool.{Bool, true, false, and-true}
use mathlib.Core.List.{List, [], ◌∷◌}
use Prim.Native.Nat.{ℕ, suc, ◌+◌, ◌-◌, ◌≤◌, ◌<◌, min, max}
use native.Mathlib.Omega.{arith}
use lib.Dec.{eqb}
use lib.ListN.{length, drop}
use Rattle.syntax.specs.Bytes.{all, bytes, choose, between}
use Rattle.syntax.specs.Grammar.{number, Clause, clause, threads, static}
use Rattle.syntax.specs.Known.{threads_in, statics_in}
use Rattle.syntax.specs.Reader.{Parsed, done, Reader, next, kind, says, read_kind, read_threads, read_static, read_names, read_clause, read_clauses, peek_in, skip_in}
use Rattle.std.specs.Prelude.{Option, None, Some}
use Rattle.syntax.specs.declared.Rank.{Rank}
use Rattle.syntax.specs.Ranks.{level}
use Rattle.lexer.specs.declared.Number.{Number}
use Rattle.lexer.specs.Places.{Any, passes, Numbers, NotRead, ReadTo}
use Rattle.lexer.proofs.InTurn.{not_then, to_saying, to_yield, word_to, word_not, other_to, other_not}
use Rattle.heading.specs.Lists.{order, Standing}
use Rattle.heading.specs.declared.Headed.{Headed}
use Rattle.heading.proofs.Turns.{fuelled}
use Rattle.claiming.specs.Claims.{deed, Stand, Marked, all_fit, with_names}
use Rattle.clauses.specs.Directive.{Naming, NamesAt, clauses_fit, with_clauses, few, counted, last_threads, Clausal, ClauseAt, Clauses}
use Rattle.clauses.specs.declared.Directed.{Directed}
use Rattle.claiming.specs.declared.Reading.{Reading}
use Rattle.clauses.proofs.Ranks.{both_ranks}
use Rattle.clauses.proofs.SomeMarked.{some_marked}
use Rattle.clauses.proofs.ClauseWords.{within_least}

-- ---- a clause after others

-- what others came to, and a clause more: `num_threads` with its number, `schedule(static)`, one with names
abbrev threaded : Directed → ℕ → Rank → ℕ → Directed
threaded b next rank n = record { next = next; rank = rank; threads = min (b.threads + 1) 2; processors = n; statics = b.statics }

abbrev scheduled : Directed → ℕ → Directed
scheduled b next =
    record { next = next; rank = b.rank; threads = b.threads; processors = b.processors; statics = min (b.statics + 1) 2 }

abbrev listed : Directed → ℕ → Rank → Directed
listed b next rank = record { next = next; rank = rank; threads = b.threads; processors = b.processors; statics = b.statics }

module _ (q : Reading) (σ : Stand) (b : Directed) (T : List ℕ) (m : Marked T σ) where
  pub clausal_none : Clausal q σ b T b []
  clausal_none = record { rank_is = omega arith; threads_are = refl; processors_are = refl; statics_are = refl; marked = m }

  pub clausal_threads : (p : List ℕ) (n next : ℕ) (rank : Rank) → n ≡ min (number p) 2147483648 → level rank ≡ max (level b.rank) (order true (between 1 8 n))
      → Clausal q σ b T (threaded b next rank n) (threads p ∷ [])
  clausal_threads p n next rank en er = record {
    rank_is = er ∙ ap (λ (x : Bool). max (level b.rank) (order true x)) (ap (between 1 8) en ∙ within_least (number p) ∙ sym (and-true (few p)));
    threads_are = refl;
    processors_are = en;
    statics_are = refl;
    marked = m;
  }

  pub clausal_static : (next : ℕ) (c : Clause) → static ≡ c → Clausal q σ b T (scheduled b next) (c ∷ [])
  clausal_static next c e = subst (λ (d : Clause). Clausal q σ b T (scheduled b next) (d ∷ []))
      e (record { rank_is = omega arith; threads_are = refl; processors_are = refl; statics_are = refl; marked = m })

pub clausal_names : (q : Reading) (σ : Stand) (b : Directed) (T : List ℕ) (rank : Rank) (next : ℕ) (c : Clause) → Naming q σ (level b.rank) T (level rank) c
    → Clausal q σ b T (listed b next rank) (c ∷ [])
clausal_names q σ b T rank next (clause k y ys) h = record {
  rank_is = h.rank_is ∙ ap (λ (x : Bool). max (level b.rank) (order x true)) (sym (and-true (all_fit (deed q k) σ (y ∷ ys))));
  threads_are = refl;
  processors_are = refl;
  statics_are = refl;
  marked = h.marked;
}
clausal_names q σ b T rank next (threads p) h = absurd h
clausal_names q σ b T rank next static h = absurd h

abbrev reads_threads : Reader (List ℕ) Clause
reads_threads u = next (read_threads peek_in skip_in u) (λ p. done (threads p))

abbrev reads_names : ℕ → Reader (List ℕ) Clause
reads_names f u = next (read_kind peek_in skip_in u) (read_names peek_in skip_in f)

abbrev reads_other : ℕ → Reader (List ℕ) Clause
reads_other f u = choose (says peek_in skip_in "schedule" u) (λ _. read_static peek_in skip_in (skip_in u)) (λ _. reads_names f u)

module _ (q : Reading) (T s : List ℕ) (b : Directed) where
  module _ {w : ℕ} (gw : ReadTo Any s b.next (passes (bytes "num_threads")) w) where
    pub threads_not : NotRead s w (read_threads peek_in skip_in) → ClauseAt q T s b T None
    threads_not g σ m f k = word_not reads_threads (reads_other f) "num_threads" refl gw (not_then (λ p. done (threads p)) g)

    pub clause_threads : (n : Number) (rank : Rank) → ReadTo (Numbers n) s w (read_threads peek_in skip_in) n.next
        → level rank ≡ max (level b.rank) (order true (between 1 8 n.number)) → ClauseAt q T s b T (Some (threaded b n.next rank n.number))
    clause_threads n rank g er σ m f k =
        word_to reads_threads (reads_other f) "num_threads" refl gw
        (to_yield threads g (λ p e. clausal_threads q σ b T m p n.number n.next rank e er))

  module _ (nw : NotRead s b.next (passes (bytes "num_threads"))) where
    module _ {v : ℕ} (gv : ReadTo Any s b.next (passes (bytes "schedule")) v) where
      pub static_not : NotRead s v (read_static peek_in skip_in) → ClauseAt q T s b T None
      static_not g σ m f k =
          other_not reads_threads (reads_other f) "num_threads" refl nw (word_not (read_static peek_in skip_in) (reads_names f) "schedule" refl gv g)

      pub clause_static : (r : ℕ) → ReadTo (λ c. static ≡ c) s v (read_static peek_in skip_in) r → ClauseAt q T s b T (Some (scheduled b r))
      clause_static r g σ m f k =
          other_to reads_threads (reads_other f) "num_threads" refl nw (word_to (read_static peek_in skip_in) (reads_names f) "schedule" refl gv
          (to_saying g (λ c e. clausal_static q σ b T m r c e)))

    module _ (nv : NotRead s b.next (passes (bytes "schedule"))) (T₁ : List ℕ) where
      pub names_not : NamesAt q T s (record { next = b.next; rank = b.rank }) T₁ None → ClauseAt q T s b T₁ None
      names_not h σ m f k =
          other_not reads_threads (reads_other f) "num_threads" refl nw (other_not (read_static peek_in skip_in) (reads_names f) "schedule" refl nv (h σ m f k))

      pub clause_names : (r : Headed) → NamesAt q T s (record { next = b.next; rank = b.rank }) T₁ (Some r) → ClauseAt q T s b T₁ (Some (listed b r.next r.rank))
      clause_names r h σ m f k =
          other_to reads_threads (reads_other f) "num_threads" refl nw (other_to (read_static peek_in skip_in) (reads_names f) "schedule" refl nv
          (to_saying (h σ m f k) (λ c n. clausal_names q σ b T₁ r.rank r.next c n)))

-- by the numbers that the code has for one time more
pub once_more : {q : Reading} {T s : List ℕ} {b : Directed} {T' : List ℕ} {next n a c x y : ℕ} {rank : Rank} → x ≡ a → y ≡ c
    → ClauseAt q T s b T' (Some (record { next = next; rank = rank; threads = a; processors = n; statics = c }))
    → ClauseAt q T s b T' (Some (record { next = next; rank = rank; threads = x; processors = n; statics = y }))
once_more {q} {T} {s} {b} {T'} {next} {n} {rank} e d = subst₂
    (λ (x y : ℕ). ClauseAt q T s b T' (Some (record { next = next; rank = rank; threads = x; processors = n; statics = y }))) (sym e) (sym d)

-- ---- clauses one after the other

-- one and others
abbrev with_clause : Reading → Stand → Clause → Stand
with_clause q σ c = with_clauses q σ (c ∷ [])

clausal_more : (q : Reading) (σ : Stand) (b : Directed) (T₁ T₂ : List ℕ) (r₁ r₂ : Directed) (c : Clause) (cs : List Clause)
    → Clausal q σ b T₁ r₁ (c ∷ []) → Clausal q (with_clause q σ c) r₁ T₂ r₂ cs → Clausal q σ b T₂ r₂ (c ∷ cs)
clausal_more q σ b T₁ T₂ r₁ r₂ c cs h k = record {
  rank_is =
      k.rank_is ∙ ap (λ (n : ℕ). max n (order (clauses_fit q (with_clause q σ c) cs) (all few (threads_in cs)))) h.rank_is ∙ ranks c;
  threads_are = k.threads_are ∙ ap (λ (n : ℕ). counted n (length (threads_in cs))) h.threads_are ∙ times c;
  processors_are = k.processors_are ∙ ap (λ (n : ℕ). last_threads n (threads_in cs)) h.processors_are ∙ number_last c;
  statics_are = k.statics_are ∙ ap (λ (n : ℕ). counted n (statics_in cs)) h.statics_are ∙ static_times c;
  marked = on c k.marked;
}
  where
    ranks : (c : Clause)
        → max (max (level b.rank) (order (clauses_fit q σ (c ∷ [])) (all few (threads_in (c ∷ [])))))
        (order (clauses_fit q (with_clause q σ c) cs) (all few (threads_in cs)))
        ≡ max (level b.rank) (order (clauses_fit q σ (c ∷ cs)) (all few (threads_in (c ∷ cs))))
    ranks (clause k x ys) =
        let a = all_fit (deed q k) σ (x ∷ ys) in
        let z = clauses_fit q (with_names (deed q k) σ (x ∷ ys)) cs in
        ap (λ (y : Bool). max (max (level b.rank) (order y true)) (order z (all few (threads_in cs)))) (and-true a)
        ∙ both_ranks (level b.rank) a true z (all few (threads_in cs))
    ranks (threads p) =
        ap (λ (y : Bool). max (max (level b.rank) (order true y)) (order (clauses_fit q σ cs) (all few (threads_in cs)))) (and-true (few p))
        ∙ both_ranks (level b.rank) true (few p) (clauses_fit q σ cs) (all few (threads_in cs))
    ranks static = omega arith

    times : (c : Clause) → counted (counted b.threads (length (threads_in (c ∷ [])))) (length (threads_in cs)) ≡ counted b.threads (length (threads_in (c ∷ cs)))
    times (clause k x ys) = refl
    times (threads p) = refl
    times static = refl

    number_last : (c : Clause) → last_threads (last_threads b.processors (threads_in (c ∷ []))) (threads_in cs) ≡ last_threads b.processors (threads_in (c ∷ cs))
    number_last (clause k x ys) = refl
    number_last (threads p) = refl
    number_last static = refl

    static_times : (c : Clause) → counted (counted b.statics (statics_in (c ∷ []))) (statics_in cs) ≡ counted b.statics (statics_in (c ∷ cs))
    static_times (clause k x ys) = refl
    static_times (threads p) = refl
    static_times static = refl

    on : (c : Clause) → Marked T₂ (with_clauses q (with_clause q σ c) cs) → Marked T₂ (with_clauses q σ (c ∷ cs))
    on (clause k x ys) m = m
    on (threads p) m = m
    on static m = m

-- clauses at a place: none, one that is broken, or one and others
module _ (q : Reading) (s : List ℕ) (b : Directed) where
  abbrev ends : Bool
  ends = eqb (kind (peek_in (drop b.next s))) 0

  abbrev reads_more : ℕ → Clause → Reader (List ℕ) (List Clause)
  reads_more f c u = next (read_clauses peek_in skip_in f u) (λ cs. done (c ∷ cs))

  clauses_by : (f : ℕ) (x : Bool) → ends ≡ x
      → read_clauses peek_in skip_in (suc f) (drop b.next s)
      ≡ choose x (λ _. done [] (drop b.next s)) (λ _. next (read_clause peek_in skip_in f (drop b.next s)) (reads_more f))
  unfolding read_clauses
  clauses_by f x e = ap
      (λ (y : Bool). choose y (λ _. done [] (drop b.next s)) (λ _. next (read_clause peek_in skip_in f (drop b.next s)) (reads_more f))) e

  pub clauses_lost : (T : List ℕ) → length s < b.next → Clauses q T s b T None
  clauses_lost T l σ m f k = record { fails = λ i. absurd (omega arith) }

  pub clauses_done : (T : List ℕ) → b.next ≤ length s → ends ≡ true → Clauses q T s b T (Some b)
  clauses_done T l e σ m f k = fuelled (λ f. ReadTo (Clausal q σ b T b) s b.next (read_clauses peek_in skip_in f) b.next) (λ f. record {
    what = [];
    reads = clauses_by f true e;
    holds = clausal_none q σ b T m;
    from = omega arith;
    within = l;
  }) _ f k

  module _ (T T₁ : List ℕ) (e : ends ≡ false) where
    pub clauses_broken : ClauseAt q T s b T₁ None → Clauses q T s b T₁ None
    clauses_broken h σ m f k = fuelled (λ f. length s - b.next < f → NotRead s b.next (read_clauses peek_in skip_in f)) (λ f j. record {
      fails = λ i. clauses_by f false e ∙ ap (λ (p : Parsed (List ℕ) Clause). next p (reads_more f)) ((h σ m f (omega arith)).fails i);
    }) _ f k k

    module _ (r₁ : Directed) (h : ClauseAt q T s b T₁ (Some r₁)) (far : b.next < r₁.next) where
      pub clauses_more : (T₂ : List ℕ) (o : Option Directed) → Clauses q T₁ s r₁ T₂ o → Clauses q T s b T₂ o
      clauses_more T₂ None w σ m f k = fuelled (λ f. length s - b.next < f → NotRead s b.next (read_clauses peek_in skip_in f)) (λ f j.
          let x = h σ m f (omega arith) in record {
            fails = λ i.
                clauses_by f false e ∙ ap (λ (p : Parsed (List ℕ) Clause). next p (reads_more f)) x.reads
                ∙ ap (λ (p : Parsed (List ℕ) (List Clause)). next p (λ cs. done (x.what ∷ cs)))
                ((w (with_clause q σ x.what) x.holds.marked f (omega (arith, far, x.within))).fails x.within);
          }) _ f k k
      clauses_more T₂ (Some r₂) w σ m f k = fuelled (λ f. length s - b.next < f → ReadTo (Clausal q σ b T₂ r₂) s b.next (read_clauses peek_in skip_in f) r₂.next) (λ f j.
          let x = h σ m f (omega arith) in
          let y = w (with_clause q σ x.what) x.holds.marked f (omega (arith, far, x.within)) in record {
            what = x.what ∷ y.what;
            reads =
                clauses_by f false e ∙ ap (λ (p : Parsed (List ℕ) Clause). next p (reads_more f)) x.reads
                ∙ ap (λ (p : Parsed (List ℕ) (List Clause)). next p (λ cs. done (x.what ∷ cs))) y.reads;
            holds = clausal_more q σ b T₁ T₂ r₁ r₂ x.what y.what x.holds y.holds;
            from = omega (arith, x.from, y.from);
            within = y.within;
          }) _ f k k

-- a clause ends in the line
pub clause_within : (q : Reading) (T s : List ℕ) (b : Directed) (T₁ : List ℕ) (r : Directed) → Standing T → ClauseAt q T s b T₁ (Some r) → r.next ≤ length s
clause_within q T s b T₁ r st h = let (σ, m) = some_marked T st in (h σ m (length s - b.next) (omega arith)).within
