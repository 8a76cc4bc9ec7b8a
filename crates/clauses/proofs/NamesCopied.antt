-- The second reading: names in `firstprivate` are copied in.
use mathlib.Core.Path.{◌≡◌, refl, sym, ◌∙◌, ap}
use mathlib.Core.Bool.{Bool, true, false, cond, not, ◌&&◌, ◌||◌, or-false, and-true, and-false}
use mathlib.Core.List.{List, [], ◌∷◌, ◌++◌, map}
use Prim.Native.Nat.{ℕ}
use Rattle.rules.specs.declared.Class.TheVariants.{Copied as copied}
use Rattle.syntax.specs.declared.ClauseKind.TheVariants.{Shared, Lastprivate, Firstprivate, Reduction}
use Rattle.syntax.specs.Bytes.{any, same}
use Rattle.syntax.specs.Grammar.{Clause, clause, threads, static}
use Rattle.syntax.specs.Known.{Entry, find, with_class, names_in, in_firstprivate}
use Rattle.syntax.proofs.Spelling.{same_true}
use Rattle.syntax.proofs.TestLaws.{any_append}
use Rattle.names.specs.Table.{class_to}
use Rattle.claiming.specs.declared.Deed.TheVariants.{CopyIn}
use Rattle.claiming.specs.declared.Reading.TheVariants.{Copies}
use Rattle.claiming.specs.Claims.{Stand, free, is_lastprivate, fits, class_if, with_name, all_fit, with_names}
use Rattle.clauses.specs.Directive.{clauses_fit, with_clauses}
use Rattle.claiming.proofs.NamesClaimed.{name_stays}
use Rattle.clauses.proofs.NamesOnce.{frees, same_turned}
use Rattle.clauses.proofs.NamesGiven.{fit_append, skip_fit, skip_with, with_append}

pub copies_fit : (σ : Stand) (cs : List Clause) → clauses_fit Copies σ cs ≡ all_fit CopyIn σ (names_in in_firstprivate cs)
copies_fit σ [] = refl
copies_fit σ (threads p ∷ cs) = copies_fit σ cs
copies_fit σ (static ∷ cs) = copies_fit σ cs
copies_fit σ (clause Shared y ys ∷ cs) = (λ i. skip_fit σ ys i && clauses_fit Copies (skip_with σ ys i) cs) ∙ copies_fit σ cs
copies_fit σ (clause Lastprivate y ys ∷ cs) = (λ i. skip_fit σ ys i && clauses_fit Copies (skip_with σ ys i) cs) ∙ copies_fit σ cs
copies_fit σ (clause (Reduction o) y ys ∷ cs) = (λ i. skip_fit σ ys i && clauses_fit Copies (skip_with σ ys i) cs) ∙ copies_fit σ cs
copies_fit σ (clause Firstprivate y ys ∷ cs) =
    ap (λ (b : Bool). all_fit CopyIn σ (y ∷ ys) && b) (copies_fit (with_names CopyIn σ (y ∷ ys)) cs)
    ∙ sym (fit_append CopyIn σ (y ∷ ys) (names_in in_firstprivate cs))

pub copies_with : (σ : Stand) (cs : List Clause) → with_clauses Copies σ cs ≡ with_names CopyIn σ (names_in in_firstprivate cs)
copies_with σ [] = refl
copies_with σ (threads p ∷ cs) = copies_with σ cs
copies_with σ (static ∷ cs) = copies_with σ cs
copies_with σ (clause Shared y ys ∷ cs) = ap (λ (z : Stand). with_clauses Copies z cs) (skip_with σ ys) ∙ copies_with σ cs
copies_with σ (clause Lastprivate y ys ∷ cs) = ap (λ (z : Stand). with_clauses Copies z cs) (skip_with σ ys) ∙ copies_with σ cs
copies_with σ (clause (Reduction o) y ys ∷ cs) = ap (λ (z : Stand). with_clauses Copies z cs) (skip_with σ ys) ∙ copies_with σ cs
copies_with σ (clause Firstprivate y ys ∷ cs) =
    copies_with (with_names CopyIn σ (y ∷ ys)) cs ∙ sym (with_append CopyIn σ (y ∷ ys) (names_in in_firstprivate cs))

-- whether a name is lastprivate
abbrev pub last_in : List Entry → List ℕ → Bool
last_in t x = is_lastprivate (find x t).class

-- it is not, once it is copied in
copied_once : (y x : List ℕ) (t : List Entry) → last_in (map (class_to y copied) t) x ≡ last_in t x && not (same x y)
unfolding find
copied_once y x [] = refl
copied_once y x (e ∷ t) = go (same x e.name) refl (copied_once y x t)
  where
    of_entry : (b : Bool) → is_lastprivate (cond b (with_class copied e) e).class ≡ is_lastprivate e.class && not b
    of_entry true = sym (and-false (is_lastprivate e.class))
    of_entry false = sym (and-true (is_lastprivate e.class))

    go : (b : Bool) → same x e.name ≡ b → last_in (map (class_to y copied) t) x ≡ last_in t x && not (same x y)
        → is_lastprivate (cond (same x (class_to y copied e).name) (class_to y copied e) (find x (map (class_to y copied) t))).class
        ≡ is_lastprivate (cond (same x e.name) e (find x t)).class && not (same x y)
    go true h r =
        (λ i. is_lastprivate (cond ((ap (same x) (name_stays y copied e) ∙ h) i) (class_to y copied e) (find x (map (class_to y copied) t))).class)
        ∙ of_entry (same y e.name)
        ∙ (λ i. is_lastprivate e.class && not ((ap (same y) (sym (same_true x e.name h)) ∙ same_turned y x) i))
        ∙ sym (λ i. is_lastprivate (cond (h i) e (find x t)).class && not (same x y))
    go false h r =
        (λ i. is_lastprivate (cond ((ap (same x) (name_stays y copied e) ∙ h) i) (class_to y copied e) (find x (map (class_to y copied) t))).class)
        ∙ r ∙ sym (λ i. is_lastprivate (cond (h i) e (find x t)).class && not (same x y))

-- names are copied in one after the other exactly where each is lastprivate and none stands twice
pub copies_free : (L : List ℕ → Bool) (σ : Stand) (zs ys : List (List ℕ)) → ((x : List ℕ) → last_in σ.table x ≡ free L zs x)
    → all_fit CopyIn σ ys ≡ frees L zs ys
copies_free L σ zs [] h = refl
copies_free L σ zs (y ∷ ys) h = go (fits CopyIn σ y) refl (copies_free L (with_name CopyIn σ y) (zs ++ (y ∷ [])) ys)
  where
    apart : (l a b : Bool) → (l && not a) && not b ≡ l && not (a || b)
    apart true true b = refl
    apart true false b = refl
    apart false a b = refl

    on : fits CopyIn σ y ≡ true → (x : List ℕ) → last_in (with_name CopyIn σ y).table x ≡ free L (zs ++ (y ∷ [])) x
    on e x =
        ap (λ (b : Bool). last_in (class_if b copied y σ.table) x) e ∙ copied_once y x σ.table
        ∙ ap (λ (b : Bool). b && not (same x y)) (h x) ∙ apart (L x) (any (same x) zs) (same x y)
        ∙ ap (λ (b : Bool). L x && not b) (sym (any_append (same x) zs (y ∷ []) ∙ ap (λ (b : Bool). any (same x) zs || b) (or-false (same x y))))

    go : (b : Bool) → fits CopyIn σ y ≡ b
        → (((x : List ℕ) → last_in (with_name CopyIn σ y).table x ≡ free L (zs ++ (y ∷ [])) x)
        → all_fit CopyIn (with_name CopyIn σ y) ys ≡ frees L (zs ++ (y ∷ [])) ys)
        → all_fit CopyIn σ (y ∷ ys) ≡ frees L zs (y ∷ ys)
    go true e r = λ i. h y i && r (on e) i
    go false e r =
        ap (λ (b : Bool). b && all_fit CopyIn (with_name CopyIn σ y) ys) e
        ∙ ap (λ (b : Bool). b && frees L (zs ++ (y ∷ [])) ys) (sym (sym (h y) ∙ e))
