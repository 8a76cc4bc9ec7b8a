-- The first reading of the clauses: the classes of all but `firstprivate`.
use mathlib.Core.Path.{◌≡◌, refl, sym, ◌∙◌, ap}
use mathlib.Core.Bool.{Bool, true, false, cond, ◌&&◌, ◌||◌}
use mathlib.Core.List.{List, [], ◌∷◌, ◌++◌, map, append_assoc, append-nil}
use Prim.Native.Nat.{ℕ, suc, ◌<◌}
use native.Mathlib.Omega.{arith}
use lib.ListN.{length, get_or}
use Rattle.rules.specs.declared.Operator.{Operator}
use Rattle.rules.specs.declared.Operator.TheVariants.{Sum, Product, Maximum}
use Rattle.rules.specs.declared.Class.{Class}
use Rattle.rules.specs.declared.Class.TheVariants.{Shared as shared, Lastprivate as lastprivate, Copied as copied, Reduction as reduction}
use Rattle.rules.specs.Numbers.{class_number}
use Rattle.syntax.specs.declared.ClauseKind.{ClauseKind}
use Rattle.syntax.specs.declared.ClauseKind.TheVariants.{Shared, Lastprivate, Firstprivate, Reduction}
use Rattle.syntax.specs.Bytes.{any, same}
use Rattle.syntax.specs.Grammar.{Clause, clause, threads, static}
use Rattle.syntax.specs.Known.{Entry, nowhere, known, with_class, names_in, in_lastprivate, in_firstprivate, in_another, reduced_in}
use Rattle.syntax.specs.Conditions.{different}
use Rattle.syntax.proofs.Spelling.{both_true}
use Rattle.syntax.proofs.TestLaws.{neither_holds, any_append}
use Rattle.claiming.specs.declared.Deed.TheVariants.{Claim}
use Rattle.claiming.specs.declared.Reading.TheVariants.{Classes}
use Rattle.claiming.specs.Claims.{class_by, Stand, is_lastprivate, fits, with_name, all_fit, with_names}
use Rattle.clauses.specs.Directive.{clauses_fit, with_clauses}
use Rattle.clauses.proofs.NamesOnce.{different_apart, different_rest, frees, frees_append, frees_same}
use Rattle.clauses.proofs.NamesGiven.{known_stays, map_none, map_twice, names_class, names_to, skip_fit, skip_with, names_are}

-- ---- the first reading: classes

module _ (k : ClauseKind) where
  claims_fit : (σ : Stand) (ys : List (List ℕ)) → all_fit (Claim k) σ ys ≡ frees (λ x. known x σ.table) σ.names ys
  claims_fit σ [] = refl
  claims_fit σ (y ∷ ys) = ap (λ (b : Bool). fits (Claim k) σ y && b) (claims_fit (with_name (Claim k) σ y) ys
      ∙ frees_same _ _ (known_stays (fits (Claim k) σ y) (class_by k) y σ.table) (σ.names ++ (y ∷ [])) ys)

  claims_known : (σ : Stand) (ys : List (List ℕ)) (x : List ℕ) → known x (with_names (Claim k) σ ys).table ≡ known x σ.table
  claims_known σ [] x = refl
  claims_known σ (y ∷ ys) x = claims_known (with_name (Claim k) σ y) ys x ∙ known_stays (fits (Claim k) σ y) (class_by k) y σ.table x

  claims_names : (σ : Stand) (ys : List (List ℕ)) → (with_names (Claim k) σ ys).names ≡ σ.names ++ ys
  claims_names σ [] = sym (append-nil σ.names)
  claims_names σ (y ∷ ys) = claims_names (with_name (Claim k) σ y) ys ∙ append_assoc σ.names (y ∷ []) ys

abbrev declared_in : Stand → List ℕ → Bool
declared_in σ x = known x σ.table

pub claimed : (k : ClauseKind) (σ : Stand) (y : List ℕ) (ys : List (List ℕ)) (cs : List Clause)
    → clauses_fit Classes (with_names (Claim k) σ (y ∷ ys)) cs
    ≡ frees (declared_in (with_names (Claim k) σ (y ∷ ys))) (with_names (Claim k) σ (y ∷ ys)).names (names_in in_another cs)
    → all_fit (Claim k) σ (y ∷ ys) && clauses_fit Classes (with_names (Claim k) σ (y ∷ ys)) cs
    ≡ frees (declared_in σ) σ.names ((y ∷ ys) ++ names_in in_another cs)
claimed k σ y ys cs h =
    (λ i. claims_fit k σ (y ∷ ys) i && (h ∙ frees_same _ _ (claims_known k σ (y ∷ ys)) (with_names (Claim k) σ (y ∷ ys)).names (names_in in_another cs)
    ∙ ap (λ (l : List (List ℕ)). frees (declared_in σ) l (names_in in_another cs)) (claims_names k σ (y ∷ ys))) i)
    ∙ sym (frees_append (declared_in σ) σ.names (y ∷ ys) (names_in in_another cs))

-- each name is declared, and stands in one clause other than `firstprivate`, once
pub classes_fit : (σ : Stand) (cs : List Clause) → clauses_fit Classes σ cs ≡ frees (declared_in σ) σ.names (names_in in_another cs)
classes_fit σ [] = refl
classes_fit σ (threads p ∷ cs) = classes_fit σ cs
classes_fit σ (static ∷ cs) = classes_fit σ cs
classes_fit σ (clause Firstprivate y ys ∷ cs) =
    (λ i. skip_fit σ ys i && clauses_fit Classes (skip_with σ ys i) cs) ∙ classes_fit σ cs
classes_fit σ (clause Shared y ys ∷ cs) = claimed Shared σ y ys cs (classes_fit (with_names (Claim Shared) σ (y ∷ ys)) cs)
classes_fit σ (clause Lastprivate y ys ∷ cs) = claimed Lastprivate σ y ys cs (classes_fit (with_names (Claim Lastprivate) σ (y ∷ ys)) cs)
classes_fit σ (clause (Reduction o) y ys ∷ cs) = claimed (Reduction o) σ y ys cs (classes_fit (with_names (Claim (Reduction o)) σ (y ∷ ys)) cs)

-- an entry by clauses, one after the other
abbrev pub one_by_one : List Clause → Entry → Entry
one_by_one [] e = e
one_by_one (clause k y ys ∷ cs) e = one_by_one cs (cond (in_firstprivate k) e (names_to (y ∷ ys) (class_by k) e))
one_by_one (threads p ∷ cs) e = one_by_one cs e
one_by_one (static ∷ cs) e = one_by_one cs e

given : (k : ClauseKind) (σ : Stand) (y : List ℕ) (ys : List (List ℕ)) (cs : List Clause)
    → (clauses_fit Classes (with_names (Claim k) σ (y ∷ ys)) cs ≡ true
    → (with_clauses Classes (with_names (Claim k) σ (y ∷ ys)) cs).table ≡ map (one_by_one cs) (with_names (Claim k) σ (y ∷ ys)).table)
    → all_fit (Claim k) σ (y ∷ ys) && clauses_fit Classes (with_names (Claim k) σ (y ∷ ys)) cs ≡ true
    → (with_clauses Classes (with_names (Claim k) σ (y ∷ ys)) cs).table ≡ map (λ e. one_by_one cs (names_to (y ∷ ys) (class_by k) e)) σ.table
given k σ y ys cs f h =
    let (p, q) = both_true (all_fit (Claim k) σ (y ∷ ys)) _ h in
    f q ∙ ap (map (one_by_one cs)) (names_are (Claim k) (class_by k) (λ ρ x. refl) σ (y ∷ ys) p) ∙ map_twice (names_to (y ∷ ys) (class_by k)) (one_by_one cs) σ.table

pub classes_with : (σ : Stand) (cs : List Clause) → clauses_fit Classes σ cs ≡ true → (with_clauses Classes σ cs).table ≡ map (one_by_one cs) σ.table
classes_with σ [] h = map_none σ.table
classes_with σ (threads p ∷ cs) h = classes_with σ cs h
classes_with σ (static ∷ cs) h = classes_with σ cs h
classes_with σ (clause Firstprivate y ys ∷ cs) h =
    ap (λ (z : Stand). (with_clauses Classes z cs).table) (skip_with σ ys)
    ∙ classes_with σ cs (sym (λ i. skip_fit σ ys i && clauses_fit Classes (skip_with σ ys i) cs) ∙ h)
classes_with σ (clause Shared y ys ∷ cs) h = given Shared σ y ys cs (classes_with (with_names (Claim Shared) σ (y ∷ ys)) cs) h
classes_with σ (clause Lastprivate y ys ∷ cs) h = given Lastprivate σ y ys cs (classes_with (with_names (Claim Lastprivate) σ (y ∷ ys)) cs) h
classes_with σ (clause (Reduction o) y ys ∷ cs) h = given (Reduction o) σ y ys cs (classes_with (with_names (Claim (Reduction o)) σ (y ∷ ys)) cs) h

-- ---- the class that it comes to

-- by the clauses other than `firstprivate`
abbrev pub plain : List Clause → List ℕ → Class
plain cs x = cond (any (same x) (names_in in_lastprivate cs)) lastprivate (reduced_in cs x)

-- a name in none of those clauses
module _ (y : List ℕ) (ys : List (List ℕ)) (cs : List Clause) (x : List ℕ) where
  neither : any (same x) ((y ∷ ys) ++ names_in in_another cs) ≡ false
      → (any (same x) (y ∷ ys) ≡ false) × (any (same x) (names_in in_another cs) ≡ false)
  neither h = neither_holds (any (same x) (y ∷ ys)) _ (sym (any_append (same x) (y ∷ ys) (names_in in_another cs)) ∙ h)

not_last : (cs : List Clause) (x : List ℕ) → any (same x) (names_in in_another cs) ≡ false → any (same x) (names_in in_lastprivate cs) ≡ false
not_last [] x h = refl
not_last (threads p ∷ cs) x h = not_last cs x h
not_last (static ∷ cs) x h = not_last cs x h
not_last (clause Firstprivate y ys ∷ cs) x h = not_last cs x h
not_last (clause Shared y ys ∷ cs) x h = not_last cs x (neither y ys cs x h).1
not_last (clause (Reduction o) y ys ∷ cs) x h = not_last cs x (neither y ys cs x h).1
not_last (clause Lastprivate y ys ∷ cs) x h =
    let (p, q) = neither y ys cs x h in
    any_append (same x) (y ∷ ys) (names_in in_lastprivate cs) ∙ (λ i. p i || not_last cs x q i)

not_reduced : (cs : List Clause) (x : List ℕ) → any (same x) (names_in in_another cs) ≡ false → reduced_in cs x ≡ shared
not_reduced [] x h = refl
not_reduced (threads p ∷ cs) x h = not_reduced cs x h
not_reduced (static ∷ cs) x h = not_reduced cs x h
not_reduced (clause Firstprivate y ys ∷ cs) x h = not_reduced cs x h
not_reduced (clause Shared y ys ∷ cs) x h = not_reduced cs x (neither y ys cs x h).1
not_reduced (clause Lastprivate y ys ∷ cs) x h = not_reduced cs x (neither y ys cs x h).1
not_reduced (clause (Reduction o) y ys ∷ cs) x h =
    let (p, q) = neither y ys cs x h in
    (λ i. cond (p i) (reduction o) (not_reduced cs x q i))

-- a lastprivate name is in one of them
pub in_whole : (cs : List Clause) (x : List ℕ) → any (same x) (names_in in_lastprivate cs) ≡ true → any (same x) (names_in in_another cs) ≡ true
in_whole cs x h = go (any (same x) (names_in in_another cs)) refl
  where
    go : (b : Bool) → any (same x) (names_in in_another cs) ≡ b → any (same x) (names_in in_another cs) ≡ true
    go true e = e
    go false e = let y : ◌≡◌ {A = ℕ} 0 1 = ap (λ (b : Bool). cond b 1 0) (sym (not_last cs x e) ∙ h) in absurd (omega arith)

-- the reduction clauses make no name lastprivate
pub reduced_other : (cs : List Clause) (x : List ℕ) → is_lastprivate (reduced_in cs x) ≡ false
reduced_other [] x = refl
reduced_other (threads p ∷ cs) x = reduced_other cs x
reduced_other (static ∷ cs) x = reduced_other cs x
reduced_other (clause Firstprivate y ys ∷ cs) x = reduced_other cs x
reduced_other (clause Shared y ys ∷ cs) x = reduced_other cs x
reduced_other (clause Lastprivate y ys ∷ cs) x = reduced_other cs x
reduced_other (clause (Reduction o) y ys ∷ cs) x = go (any (same x) (y ∷ ys)) (reduced_other cs x)
  where
    go : (b : Bool) → is_lastprivate (reduced_in cs x) ≡ false → is_lastprivate (cond b (reduction o) (reduced_in cs x)) ≡ false
    go true h = refl
    go false h = h

-- one clause more: its names get its class, the others stay
module _ (y : List ℕ) (ys : List (List ℕ)) (cs : List Clause) (x : List ℕ) (d : different ((y ∷ ys) ++ names_in in_another cs) ≡ true) where
  abbrev here : Bool
  here = any (same x) (y ∷ ys)

  abbrev later : Bool
  later = any (same x) (names_in in_another cs)

  none_later : here ≡ true → (any (same x) (names_in in_lastprivate cs) ≡ false) × (reduced_in cs x ≡ shared)
  none_later a =
      let n = different_apart x (y ∷ ys) (names_in in_another cs) d a in
      (not_last cs x n, not_reduced cs x n)

  plain_shared : plain (clause Shared y ys ∷ cs) x ≡ cond here shared (plain cs x)
  plain_shared = go here (any (same x) (names_in in_lastprivate cs)) (reduced_in cs x) none_later
    where
      go : (a l : Bool) (r : Class) → (a ≡ true → (l ≡ false) × (r ≡ shared)) → cond l lastprivate r ≡ cond a shared (cond l lastprivate r)
      go true l r h = let (p, q) = h refl in λ i. cond (p i) lastprivate (q i)
      go false l r h = refl

  plain_lastprivate : plain (clause Lastprivate y ys ∷ cs) x ≡ cond here lastprivate (plain cs x)
  plain_lastprivate =
      ap (λ (b : Bool). cond b lastprivate (reduced_in cs x)) (any_append (same x) (y ∷ ys) (names_in in_lastprivate cs))
      ∙ go here (any (same x) (names_in in_lastprivate cs)) (reduced_in cs x)
    where
      go : (a l : Bool) (z : Class) → cond (a || l) lastprivate z ≡ cond a lastprivate (cond l lastprivate z)
      go true l z = refl
      go false l z = refl

  plain_reduction : (o : Operator) → plain (clause (Reduction o) y ys ∷ cs) x ≡ cond here (reduction o) (plain cs x)
  plain_reduction o = go here (any (same x) (names_in in_lastprivate cs)) none_later
    where
      go : (a l : Bool) → (a ≡ true → (l ≡ false) × (reduced_in cs x ≡ shared))
          → cond l lastprivate (cond a (reduction o) (reduced_in cs x)) ≡ cond a (reduction o) (cond l lastprivate (reduced_in cs x))
      go true l h = ap (λ (b : Bool). cond b lastprivate (reduction o)) (h refl).0
      go false l h = refl

  -- by the names so far, and then by those
  module _ (k : ClauseKind) (e : Entry) (ex : e.name ≡ x) (p : plain (clause k y ys ∷ cs) x ≡ cond here (class_by k) (plain cs x)) where
    abbrev c : Class
    c = class_by k

    joined : ((e : Entry) → e.name ≡ x → one_by_one cs e ≡ with_class (cond later (plain cs x) e.class) e)
        → one_by_one cs (names_to (y ∷ ys) c e)
        ≡ with_class (cond (any (same x) ((y ∷ ys) ++ names_in in_another cs)) (plain (clause k y ys ∷ cs) x) e.class) e
    joined f =
        ap (one_by_one cs) (names_class (y ∷ ys) c e ∙ ap (λ (z : List ℕ). with_class (cond (any (same z) (y ∷ ys)) c e.class) e) ex)
        ∙ f (with_class (cond here c e.class) e) ex
        ∙ ap (λ (z : Class). with_class z e) (go here later (different_apart x (y ∷ ys) (names_in in_another cs) d))
        ∙ sym (λ i. with_class (cond (any_append (same x) (y ∷ ys) (names_in in_another cs) i) (p i) e.class) e)
      where
        go : (a b : Bool) → (a ≡ true → b ≡ false) → cond b (plain cs x) (cond a c e.class) ≡ cond (a || b) (cond a c (plain cs x)) e.class
        go true true h = absurd (let z : ◌≡◌ {A = ℕ} 0 1 = ap (λ (b : Bool). cond b 0 1) (h refl) in omega arith)
        go true false h = refl
        go false true h = refl
        go false false h = refl

clauses_class : (cs : List Clause) (x : List ℕ) → different (names_in in_another cs) ≡ true → (e : Entry) → e.name ≡ x
    → one_by_one cs e ≡ with_class (cond (any (same x) (names_in in_another cs)) (plain cs x) e.class) e
clauses_class [] x d e ex = refl
clauses_class (threads p ∷ cs) x d e ex = clauses_class cs x d e ex
clauses_class (static ∷ cs) x d e ex = clauses_class cs x d e ex
clauses_class (clause Firstprivate y ys ∷ cs) x d e ex = clauses_class cs x d e ex
clauses_class (clause Shared y ys ∷ cs) x d e ex = joined y ys cs x d Shared e ex (plain_shared y ys cs x d)
    (clauses_class cs x (different_rest (y ∷ ys) (names_in in_another cs) d))
clauses_class (clause Lastprivate y ys ∷ cs) x d e ex = joined y ys cs x d Lastprivate e ex (plain_lastprivate y ys cs x d)
    (clauses_class cs x (different_rest (y ∷ ys) (names_in in_another cs) d))
clauses_class (clause (Reduction o) y ys ∷ cs) x d e ex = joined y ys cs x d (Reduction o) e ex (plain_reduction y ys cs x d o)
    (clauses_class cs x (different_rest (y ∷ ys) (names_in in_another cs) d))

-- an entry in no clause before
pub classified : (cs : List Clause) (e : Entry) → different (names_in in_another cs) ≡ true → e.class ≡ shared
    → one_by_one cs e ≡ with_class (plain cs e.name) e
classified cs e d h = clauses_class cs e.name d e refl ∙ ap (λ (k : Class). with_class k e) (go (any (same e.name) (names_in in_another cs)) refl)
  where
    none : any (same e.name) (names_in in_another cs) ≡ false → plain cs e.name ≡ shared
    none n = λ i. cond (not_last cs e.name n i) lastprivate (not_reduced cs e.name n i)

    go : (b : Bool) → any (same e.name) (names_in in_another cs) ≡ b → cond b (plain cs e.name) e.class ≡ plain cs e.name
    go true k = refl
    go false k = h ∙ sym (none k)

pub map_each : (f g : Entry → Entry) (t : List Entry) → ((i : ℕ) → i < length t → f (get_or t i nowhere) ≡ g (get_or t i nowhere)) → map f t ≡ map g t
map_each f g [] h = refl
map_each f g (e ∷ t) h = λ i. h 0 (omega arith) i ∷ map_each f g t (λ j l. h (suc j) (omega arith)) i

-- a class by its number
pub shared_zero : (c : Class) → class_number c ≡ 0 → c ≡ shared
shared_zero shared e = refl
shared_zero lastprivate e = absurd (omega (arith, e))
shared_zero copied e = absurd (omega (arith, e))
shared_zero (reduction Sum) e = absurd (omega (arith, e))
shared_zero (reduction Product) e = absurd (omega (arith, e))
shared_zero (reduction Maximum) e = absurd (omega (arith, e))
