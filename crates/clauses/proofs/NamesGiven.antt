-- What names in a clause come to, one after the other: whether they may stand there, and the entries that they leave.
use mathlib.Core.Path.{◌≡◌, refl, sym, ◌∙◌, ap}
use mathlib.Core.Bool.{Bool, true, false, cond, ◌&&◌, ◌||◌, and_assoc}
use mathlib.Core.List.{List, [], ◌∷◌, ◌++◌, map}
use Prim.Native.Nat.{ℕ}
use Rattle.rules.specs.declared.Class.{Class}
use Rattle.syntax.specs.Bytes.{any, same}
use Rattle.syntax.specs.Known.{Entry, known, with_class}
use Rattle.names.specs.Table.{class_to}
use Rattle.claiming.specs.declared.Deed.{Deed}
use Rattle.claiming.specs.declared.Deed.TheVariants.{Skip}
use Rattle.claiming.specs.Claims.{Stand, fits, class_if, with_name, all_fit, with_names}
use Rattle.claiming.proofs.NamesClaimed.{name_stays}
use Rattle.clauses.proofs.NamesOnce.{same_turned}
use Rattle.syntax.proofs.Spelling.{both_true}

-- ---- names with which one thing is done

pub skip_fit : (σ : Stand) (ys : List (List ℕ)) → all_fit Skip σ ys ≡ true
skip_fit σ [] = refl
skip_fit σ (y ∷ ys) = skip_fit σ ys

pub skip_with : (σ : Stand) (ys : List (List ℕ)) → with_names Skip σ ys ≡ σ
skip_with σ [] = refl
skip_with σ (y ∷ ys) = skip_with σ ys

pub fit_append : (d : Deed) (σ : Stand) (ys zs : List (List ℕ)) → all_fit d σ (ys ++ zs) ≡ all_fit d σ ys && all_fit d (with_names d σ ys) zs
fit_append d σ [] zs = refl
fit_append d σ (y ∷ ys) zs =
    ap (λ (b : Bool). fits d σ y && b) (fit_append d (with_name d σ y) ys zs)
    ∙ sym (and_assoc (fits d σ y) (all_fit d (with_name d σ y) ys) (all_fit d (with_names d (with_name d σ y) ys) zs))

pub with_append : (d : Deed) (σ : Stand) (ys zs : List (List ℕ)) → with_names d σ (ys ++ zs) ≡ with_names d (with_names d σ ys) zs
with_append d σ [] zs = refl
with_append d σ (y ∷ ys) zs = with_append d (with_name d σ y) ys zs

-- which names are declared stays
pub known_stays : (b : Bool) (c : Class) (y : List ℕ) (t : List Entry) (x : List ℕ) → known x (class_if b c y t) ≡ known x t
known_stays false c y t x = refl
known_stays true c y [] x = refl
known_stays true c y (e ∷ t) x = λ i. same x (name_stays y c e i) || known_stays true c y t x i

-- ---- an entry by the names of a clause, one after the other

abbrev pub names_to : List (List ℕ) → Class → Entry → Entry
names_to [] c e = e
names_to (y ∷ ys) c e = names_to ys c (class_to y c e)

pub map_twice : (f g : Entry → Entry) (t : List Entry) → map g (map f t) ≡ map (λ e. g (f e)) t
map_twice f g [] = refl
map_twice f g (e ∷ t) = ap (λ (l : List Entry). g (f e) ∷ l) (map_twice f g t)

pub map_none : (t : List Entry) → t ≡ map (λ e. e) t
map_none [] = refl
map_none (e ∷ t) = ap (λ (l : List Entry). e ∷ l) (map_none t)

named_class : (y : List ℕ) (c : Class) (e : Entry) → class_to y c e ≡ with_class (cond (same y e.name) c e.class) e
named_class y c e = go (same y e.name)
  where
    go : (b : Bool) → cond b (with_class c e) e ≡ with_class (cond b c e.class) e
    go true = refl
    go false = refl

pub names_class : (ys : List (List ℕ)) (c : Class) (e : Entry) → names_to ys c e ≡ with_class (cond (any (same e.name) ys) c e.class) e
names_class [] c e = refl
names_class (y ∷ ys) c e =
    ap (names_to ys c) (named_class y c e) ∙ names_class ys c (with_class (cond (same y e.name) c e.class) e)
    ∙ ap (λ (k : Class). with_class k e) (either (same y e.name) (any (same e.name) ys))
    ∙ ap (λ (b : Bool). with_class (cond (b || any (same e.name) ys) c e.class) e) (same_turned y e.name)
  where
    either : (a b : Bool) → cond b c (cond a c e.class) ≡ cond (a || b) c e.class
    either true true = refl
    either true false = refl
    either false true = refl
    either false false = refl

-- names that may stand there get the class c
pub names_are : (d : Deed) (c : Class) → ((σ : Stand) (y : List ℕ) → (with_name d σ y).table ≡ class_if (fits d σ y) c y σ.table)
    → (σ : Stand) (ys : List (List ℕ)) → all_fit d σ ys ≡ true → (with_names d σ ys).table ≡ map (names_to ys c) σ.table
names_are d c f σ [] h = map_none σ.table
names_are d c f σ (y ∷ ys) h =
    let (p, q) = both_true (fits d σ y) _ h in
    names_are d c f (with_name d σ y) ys q
    ∙ ap (map (names_to ys c)) (f σ y ∙ ap (λ (b : Bool). class_if b c y σ.table) p)
    ∙ map_twice (class_to y c) (names_to ys c) σ.table
