-- What both readings come to, by the definitions of names (`Conditions.singly`) and classes (`Known.classify`).
use mathlib.Core.Path.{◌≡◌, refl, sym, ◌∙◌, ap}
use mathlib.Core.Bool.{Bool, true, false, cond, ◌&&◌, ◌||◌, and-true, and-false}
use mathlib.Core.List.{List, [], ◌∷◌, map}
use Prim.Native.Nat.{ℕ, ◌/◌, ◌%◌, ◌<◌}
use native.Mathlib.Omega.{arith}
use lib.Dec.{eqb}
use lib.ListN.{length, get_or}
use Rattle.rules.specs.declared.Class.TheVariants.{Lastprivate as lastprivate, Copied as copied}
use Rattle.rules.specs.Numbers.{class_number}
use Rattle.syntax.specs.Bytes.{all, any, same}
use Rattle.syntax.specs.Grammar.{Clause}
use Rattle.syntax.specs.Known.{Entry, nowhere, known, find, with_class, names_in, in_lastprivate, in_firstprivate, in_another, reduced_in, class_in, classify}
use Rattle.syntax.specs.Conditions.{different, each_once}
use Rattle.syntax.proofs.Spelling.{both_true, same_true}
use Rattle.names.specs.Table.{Tabled, Unclaimed, facts_at}
use Rattle.claiming.specs.declared.Reading.TheVariants.{Classes, Copies}
use Rattle.claiming.specs.Claims.{Stand, is_lastprivate, Marked}
use Rattle.clauses.specs.Directive.{clauses_fit, with_clauses, bare, twice_fit, with_both}
use Rattle.clauses.proofs.NamesOnce.{frees_are, frees_true}
use Rattle.clauses.proofs.NamesGiven.{map_twice, names_class, names_to, names_are}
use Rattle.clauses.proofs.ClassesGiven.{classes_fit, classes_with, classified, in_whole, map_each, one_by_one, plain, reduced_other, shared_zero}
use Rattle.clauses.proofs.NamesCopied.{copies_fit, copies_free, copies_with, last_in}
use Rattle.claiming.specs.declared.Deed.TheVariants.{CopyIn}

-- what is said of all names of a list holds of each
among : (K : List ℕ → Bool) (x : List ℕ) (xs : List (List ℕ)) → all K xs ≡ true → any (same x) xs ≡ true → K x ≡ true
among K x [] a m = absurd (let z : ◌≡◌ {A = ℕ} 0 1 = ap (λ (b : Bool). cond b 1 0) m in omega arith)
among K x (y ∷ xs) a m = at (same x y) refl m (among K x xs (both_true (K y) _ a).1)
  where
    at : (b : Bool) → same x y ≡ b → b || any (same x) xs ≡ true → (any (same x) xs ≡ true → K x ≡ true) → K x ≡ true
    at true e k r = ap K (same_true x y e) ∙ (both_true (K y) _ a).0
    at false e k r = r k

module _ (T : List ℕ) (t : List Entry) (cs : List Clause) (tab : Tabled T t) (u : Unclaimed T (length t)) where
  abbrev others : List (List ℕ)
  others = names_in in_another cs

  abbrev firsts : List (List ℕ)
  firsts = names_in in_firstprivate cs

  abbrev σ₁ : Stand
  σ₁ = with_clauses Classes (bare t) cs

  abbrev in_last : List ℕ → Bool
  in_last x = any (same x) (names_in in_lastprivate cs)

  module _ (h : clauses_fit Classes (bare t) cs ≡ true) where
    found : (different others ≡ true) × (all (λ x. known x t) others ≡ true)
    found = let (d, a, _) = frees_true (λ x. known x t) [] others (sym (classes_fit (bare t) cs) ∙ h) in (d, a)

    plain_table : σ₁.table ≡ map (λ e. with_class (plain cs e.name) e) t
    plain_table = classes_with (bare t) cs h ∙ map_each (one_by_one cs) (λ e. with_class (plain cs e.name) e) t each
      where
        each : (i : ℕ) → i < length t → one_by_one cs (get_or t i nowhere) ≡ with_class (plain cs (get_or t i nowhere).name) (get_or t i nowhere)
        each i l =
            let none : class_number (get_or t i nowhere).class ≡ 0 = omega (arith, (tab.rows i l).class, u i l) in
            classified cs (get_or t i nowhere) found.0 (shared_zero (get_or t i nowhere).class none)

    -- a lastprivate name is one in that clause
    plain_last : (x : List ℕ) → is_lastprivate (plain cs x) ≡ in_last x
    plain_last x = go (in_last x)
      where
        go : (l : Bool) → is_lastprivate (cond l lastprivate (reduced_in cs x)) ≡ l
        go true = refl
        go false = reduced_other cs x

    last_found : (x : List ℕ) (v : List Entry) → last_in (map (λ e. with_class (plain cs e.name) e) v) x ≡ known x v && in_last x
    unfolding find
    last_found x [] = refl
    last_found x (e ∷ v) = go (same x e.name) refl (last_found x v)
      where
        go : (b : Bool) → same x e.name ≡ b → last_in (map (λ e. with_class (plain cs e.name) e) v) x ≡ known x v && in_last x
            → is_lastprivate (cond b (with_class (plain cs e.name) e) (find x (map (λ e. with_class (plain cs e.name) e) v))).class
            ≡ (b || known x v) && in_last x
        go true k r = ap (λ (z : List ℕ). is_lastprivate (plain cs z)) (sym (same_true x e.name k)) ∙ plain_last x
        go false k r = r

    declared_last : (x : List ℕ) → known x t && in_last x ≡ in_last x
    declared_last x = go (in_last x) refl
      where
        go : (b : Bool) → in_last x ≡ b → known x t && b ≡ b
        go true e = ap (λ (k : Bool). k && true) (among (λ y. known y t) x others found.1 (in_whole cs x e))
        go false e = and-false (known x t)

    copies_right : clauses_fit Copies σ₁ cs ≡ each_once in_last firsts
    copies_right =
        copies_fit σ₁ cs
        ∙ copies_free in_last σ₁ [] firsts (λ x. ap (λ (v : List Entry). last_in v x) plain_table ∙ last_found x t ∙ declared_last x ∙ sym (and-true (in_last x)))
        ∙ frees_are in_last firsts

  -- both readings find nothing wrong exactly where the names stand as they should
  pub names_fit : twice_fit t cs ≡ each_once (λ x. known x t) others && each_once in_last firsts
  names_fit = go (clauses_fit Classes (bare t) cs) refl
    where
      first_right : clauses_fit Classes (bare t) cs ≡ each_once (λ x. known x t) others
      first_right = classes_fit (bare t) cs ∙ frees_are (λ x. known x t) others

      go : (b : Bool) → clauses_fit Classes (bare t) cs ≡ b → twice_fit t cs ≡ each_once (λ x. known x t) others && each_once in_last firsts
      go true h = λ i. first_right i && copies_right h i
      go false h =
          ap (λ (b : Bool). b && clauses_fit Copies σ₁ cs) h ∙ ap (λ (b : Bool). b && each_once in_last firsts) (sym (sym first_right ∙ h))

  pub classes_are : twice_fit t cs ≡ true → with_both t cs ≡ map (classify cs) t
  unfolding class_in
  classes_are h =
      let (p, q) = both_true (clauses_fit Classes (bare t) cs) _ h in
      ap (λ (z : Stand). z.table) (copies_with σ₁ cs) ∙ names_are CopyIn copied (λ ρ x. refl) σ₁ firsts (sym (copies_fit σ₁ cs) ∙ q)
      ∙ ap (map (names_to firsts copied)) (plain_table p)
      ∙ map_twice (λ e. with_class (plain cs e.name) e) (names_to firsts copied) t
      ∙ map_each _ (classify cs) t (λ i l. let e = get_or t i nowhere in names_class firsts copied (with_class (plain cs e.name) e))

-- before a clause stands, none is marked
pub unmarked : (T : List ℕ) (t : List Entry) → Tabled T t → Unclaimed T (length t) → Marked T (bare t)
unmarked T t tab u = record { table = tab; claimed = λ i l. let z : facts_at T i / 2 ≡ 0 = omega (arith, u i l) in ap (λ (n : ℕ). eqb (n % 2) 1) z }
