-- RULES 1.7: what the functions on clauses yield. The clauses are read twice (RULES 1.12 d): the first time names get the classes
-- of all clauses but `firstprivate`, the second time those of them that are lastprivate may be copied in.
use Rattle.std.specs.Prelude.{◌≡◌, Bool, true, ◌&&◌, List, [], ◌∷◌, ℕ, zero, suc, ◌+◌, ◌-◌, ◌≤◌, ◌<◌, max, min, length, Option}
use Rattle.syntax.specs.Bytes.{all, between}
use Rattle.syntax.specs.Grammar.{number, Clause, clause, threads, static}
use Rattle.syntax.specs.Known.{Entry, threads_in, statics_in}
use Rattle.syntax.specs.declared.Rank.{Rank}
use Rattle.syntax.specs.Ranks.{level}
use Rattle.syntax.specs.Reader.{read_name, read_listed, read_clause, read_clauses, peek_in, skip_in}
use Rattle.lexer.specs.Places.{Finds}
use Rattle.names.specs.Table.{Tabled}
use Rattle.heading.specs.Lists.{read_some, order}
use Rattle.heading.specs.declared.Headed.{Headed}
use Rattle.clauses.specs.declared.Directed.{Directed}
use Rattle.claiming.specs.declared.Reading.{Reading}
use Rattle.claiming.specs.declared.Reading.TheVariants.{Classes, Copies}
use Rattle.claiming.specs.declared.Deed.{Deed}
use Rattle.claiming.specs.Claims.{Claiming, Marked, Stand, all_fit, deed, with_names}

-- ---- names

-- after others that came to b
abbrev pub ClaimAt : Deed → List ℕ → List ℕ → Headed → List ℕ → Option Headed → Type 0
ClaimAt d T s b T' o =
    (σ : Stand) → Marked T σ → Finds (λ r. r.next) (λ r y. Claiming d σ (level b.rank) T' (level r.rank) (y ∷ [])) s b.next (read_name peek_in skip_in) o

abbrev pub Claims : Deed → List ℕ → List ℕ → Headed → List ℕ → Option Headed → Type 0
Claims d T s b T' o =
    (σ : Stand) → Marked T σ → (f : ℕ) → length s - b.next < f
    → Finds (λ r. r.next) (λ r. Claiming d σ (level b.rank) T' (level r.rank)) s b.next (read_some f (read_name peek_in skip_in)) o

-- ---- clauses

abbrev pub clauses_fit : Reading → Stand → List Clause → Bool
clauses_fit q σ [] = true
clauses_fit q σ (clause k x ys ∷ cs) = all_fit (deed q k) σ (x ∷ ys) && clauses_fit q (with_names (deed q k) σ (x ∷ ys)) cs
clauses_fit q σ (threads p ∷ cs) = clauses_fit q σ cs
clauses_fit q σ (static ∷ cs) = clauses_fit q σ cs

abbrev pub with_clauses : Reading → Stand → List Clause → Stand
with_clauses q σ [] = σ
with_clauses q σ (clause k x ys ∷ cs) = with_clauses q (with_names (deed q k) σ (x ∷ ys)) cs
with_clauses q σ (threads p ∷ cs) = with_clauses q σ cs
with_clauses q σ (static ∷ cs) = with_clauses q σ cs

-- "P 1 to 8"
abbrev pub few : List ℕ → Bool
few p = between 1 8 (number p)

-- how often a clause stands, up to 2, after n times and m times more
abbrev pub counted : ℕ → ℕ → ℕ
counted n zero = n
counted n (suc m) = counted (min (n + 1) 2) m

-- the number that `num_threads` gives last, up to 2^31
abbrev pub last_threads : ℕ → List (List ℕ) → ℕ
last_threads n [] = n
last_threads n (p ∷ ps) = last_threads (min (number p) 2147483648) ps

-- a clause with names is one with whose names something is done
abbrev pub Naming : Reading → Stand → ℕ → List ℕ → ℕ → Clause → Type 0
Naming q σ most T' rank (clause k y ys) = Claiming (deed q k) σ most T' rank (y ∷ ys)
Naming q σ most T' rank (threads p) = ⊥
Naming q σ most T' rank static = ⊥

abbrev pub NamesAt : Reading → List ℕ → List ℕ → Headed → List ℕ → Option Headed → Type 0
NamesAt q T s b T' o =
    (σ : Stand) → Marked T σ → (f : ℕ) → length s - b.next ≤ f
    → Finds (λ r. r.next) (λ r. Naming q σ (level b.rank) T' (level r.rank)) s b.next (read_listed peek_in skip_in f) o

-- clauses cs, after others that came to b
pub record Clausal (q : Reading) (σ : Stand) (b : Directed) (T' : List ℕ) (r : Directed) (cs : List Clause) : Type 0 where
  pub rank_is : level r.rank ≡ max (level b.rank) (order (clauses_fit q σ cs) (all few (threads_in cs)))
  pub threads_are : r.threads ≡ counted b.threads (length (threads_in cs))
  pub processors_are : r.processors ≡ last_threads b.processors (threads_in cs)
  pub statics_are : r.statics ≡ counted b.statics (statics_in cs)
  pub marked : Marked T' (with_clauses q σ cs)

abbrev pub ClauseAt : Reading → List ℕ → List ℕ → Directed → List ℕ → Option Directed → Type 0
ClauseAt q T s b T' o =
    (σ : Stand) → Marked T σ → (f : ℕ) → length s - b.next ≤ f
    → Finds (λ r. r.next) (λ r c. Clausal q σ b T' r (c ∷ [])) s b.next (read_clause peek_in skip_in f) o

abbrev pub Clauses : Reading → List ℕ → List ℕ → Directed → List ℕ → Option Directed → Type 0
Clauses q T s b T' o =
    (σ : Stand) → Marked T σ → (f : ℕ) → length s - b.next < f
    → Finds (λ r. r.next) (Clausal q σ b T') s b.next (read_clauses peek_in skip_in f) o

-- ---- the directive

-- no clause comes before its first; so far names and limits came to a rank
abbrev pub none_before : ℕ → Rank → Directed
none_before at rank = record { next = at; rank = rank; threads = 0; processors = 0; statics = 0 }

-- the clauses cs of a directive, over the names t, none of which stood in a clause
abbrev pub bare : List Entry → Stand
bare t = record { table = t; names = [] }

abbrev pub twice_fit : List Entry → List Clause → Bool
twice_fit t cs = clauses_fit Classes (bare t) cs && clauses_fit Copies (with_clauses Classes (bare t) cs) cs

abbrev pub with_both : List Entry → List Clause → List Entry
with_both t cs = (with_clauses Copies (with_clauses Classes (bare t) cs) cs).table

pub record Directing (t : List Entry) (T' : List ℕ) (r : Directed) (cs : List Clause) : Type 0 where
  pub rank_is : level r.rank ≡ order (twice_fit t cs) (all few (threads_in cs))
  pub threads_are : r.threads ≡ counted 0 (length (threads_in cs))
  pub processors_are : r.processors ≡ last_threads 0 (threads_in cs)
  pub statics_are : r.statics ≡ counted 0 (statics_in cs)
  pub table : Tabled T' (with_both t cs)

abbrev pub Directive : List ℕ → List ℕ → ℕ → List ℕ → Option Directed → Type 0
Directive T s at T' o =
    (t : List Entry) → Marked T (bare t) → (f : ℕ) → length s - at < f
    → Finds (λ r. r.next) (Directing t T') s at (read_clauses peek_in skip_in f) o
