-- One name in a clause.
use mathlib.Core.Path.{◌≡◌, refl, sym, ◌∙◌, ap, subst}
use mathlib.Core.Bool.{Bool, true, false, cond, not, ◌&&◌, ◌||◌, or-false, or-true, and-true}
use mathlib.Core.List.{List, [], ◌∷◌, ◌++◌, map}
use Prim.Native.Nat.{ℕ, ◌/◌, ◌%◌, ◌≤◌, ◌<◌, max}
use native.Mathlib.Decide.{dec_lt, ℕ_discrete}
use native.Mathlib.Omega.{arith}
use borrow.Author.Tests.{not-true, not-false}
use lib.Dec.{eqb}
use lib.ListN.{length, get_or, length-map}
use Rattle.rules.specs.declared.Operator.TheVariants.{Sum, Product, Maximum}
use Rattle.rules.specs.declared.Class.{Class}
use Rattle.rules.specs.declared.Class.TheVariants.{Shared as shared, Lastprivate as lastprivate, Copied as copied, Reduction as reduction}
use Rattle.syntax.specs.declared.ClauseKind.{ClauseKind}
use Rattle.syntax.specs.declared.Rank.{Rank}
use Rattle.syntax.specs.Ranks.{level}
use Rattle.syntax.proofs.RankLaws.{level_most}
use Rattle.syntax.specs.Bytes.{any, same}
use Rattle.syntax.specs.Known.{Entry, known, find, nowhere, with_class, in_firstprivate}
use Rattle.syntax.proofs.Spelling.{same_true}
use Rattle.syntax.proofs.TestLaws.{any_append, same_refl, same_comm_false}
use Rattle.names.specs.declared.Named.{Named}
use Rattle.names.specs.Table.{class_to, Tabled, Unknown, Knows, Stands, Classed, CopiedIn, is_claimed, length_at, variable_of, variable_entry, name_words}
use Rattle.names.proofs.Laws.{find_none}
use Rattle.names.proofs.Rows.{name_length, get_d_map, unknown_at}
use Rattle.heading.specs.Lists.{order, Keeps}
use Rattle.claiming.specs.declared.Deed.{Deed}
use Rattle.claiming.specs.declared.Deed.TheVariants.{Skip, Claim, CopyIn}
use Rattle.claiming.specs.declared.Reading.{Reading}
use Rattle.claiming.specs.declared.Reading.TheVariants.{Classes}
use Rattle.claiming.specs.Claims.{deed, class_by, Stand, is_lastprivate, fits, class_if, with_name, Claimed, Marked, ClaimsOne}

-- a name gets the class of its clause in the first reading, unless that is `firstprivate`
pub deed_claims : (q : Reading) (k : ClauseKind) → q ≡ Classes → in_firstprivate k ≡ false → Claim k ≡ deed q k
deed_claims q k e h = sym (ap (λ (x : Reading). deed x k) e ∙ ap (λ (b : Bool). cond b Skip (Claim k)) h)

-- ---- one name

-- a name more among xs
any_more : (x w : List ℕ) (xs : List (List ℕ)) → any (same x) (xs ++ (w ∷ [])) ≡ any (same x) xs || same x w
any_more x w xs = any_append (same x) xs (w ∷ []) ∙ ap (λ (b : Bool). any (same x) xs || b) (or-false (same x w))

-- a class more leaves the names as they are
pub name_stays : (w : List ℕ) (c : Class) (e : Entry) → (class_to w c e).name ≡ e.name
name_stays w c e = go (same w e.name)
  where
    go : (b : Bool) → (cond b (with_class c e) e).name ≡ e.name
    go true = refl
    go false = refl

name_at : (w : List ℕ) (c : Class) (t : List Entry) (i : ℕ) → i < length t → (get_or (map (class_to w c) t) i nowhere).name ≡ (get_or t i nowhere).name
name_at w c t i l = ap (λ (x : Entry). x.name) (get_d_map (class_to w c) t i nowhere nowhere l) ∙ name_stays w c (get_or t i nowhere)

-- the marks are those of the names xs, whatever the classes
marks_stay : (T : List ℕ) (w : List ℕ) (c : Class) (t : List Entry) (xs : List (List ℕ))
    → ((i : ℕ) → i < length t → is_claimed T i ≡ any (same (get_or t i nowhere).name) xs) → Claimed T (map (class_to w c) t) xs
marks_stay T w c t xs h i l =
    let b : i < length t = omega (arith, length-map t (class_to w c)) in
    h i b ∙ ap (λ (x : List ℕ). any (same x) xs) (sym (name_at w c t i b))

-- no other class is lastprivate's
other_class : (c : Class) → (c ≡ lastprivate → ⊥) → is_lastprivate c ≡ false
other_class shared n = refl
other_class lastprivate n = absurd (n refl)
other_class copied n = refl
other_class (reduction o) n = refl

module _ (T : List ℕ) (σ : Stand) (m : Marked T σ) (w : List ℕ) where
  abbrev t : List Entry
  t = σ.table

  abbrev xs : List (List ℕ)
  xs = σ.names

  more_other : (i : ℕ) → i < length t → same (get_or t i nowhere).name w ≡ false → is_claimed T i ≡ any (same (get_or t i nowhere).name) (xs ++ (w ∷ []))
  more_other i l e =
      m.claimed i l ∙ sym (any_more (get_or t i nowhere).name w xs ∙ ap (λ (b : Bool). any (same (get_or t i nowhere).name) xs || b) e ∙ or-false _)

  -- w is none of the names, or is among xs already
  unknown_claimed : known w t ≡ false → Claimed T t (xs ++ (w ∷ []))
  unknown_claimed u i l = more_other i l (same_comm_false w (get_or t i nowhere).name (unknown_at w t u i l))

  taken_claimed : any (same w) xs ≡ true → Claimed T t (xs ++ (w ∷ []))
  taken_claimed a i l = go (same (get_or t i nowhere).name w) refl
    where
      go : (b : Bool) → same (get_or t i nowhere).name w ≡ b → is_claimed T i ≡ any (same (get_or t i nowhere).name) (xs ++ (w ∷ []))
      go false e = more_other i l e
      go true e =
          m.claimed i l ∙ ap (λ (x : List ℕ). any (same x) xs) (same_true (get_or t i nowhere).name w e) ∙ a
          ∙ sym (any_more (get_or t i nowhere).name w xs ∙ ap (λ (b : Bool). any (same (get_or t i nowhere).name) xs || b) e
          ∙ or-true (any (same (get_or t i nowhere).name) xs))

  module _ (k : ClauseKind) where
    abbrev c : Class
    c = class_by k

    claim_none : fits (Claim k) σ w ≡ false → Claimed T t (xs ++ (w ∷ [])) → Marked T (with_name (Claim k) σ w)
    claim_none e h = subst (λ (u : List Entry). Marked T (record { table = u; names = xs ++ (w ∷ []) })) (sym (ap (λ (b : Bool). class_if b c w t) e))
        (record { table = m.table; claimed = h })

    pub claim_unknown : known w t ≡ false → (fits (Claim k) σ w ≡ false) × Marked T (with_name (Claim k) σ w)
    claim_unknown u =
        let e : fits (Claim k) σ w ≡ false = ap (λ (b : Bool). b && not (any (same w) xs)) u in
        (e, claim_none e (unknown_claimed u))

    module _ (n : Named) (kn : known w t ≡ true) (st : Stands T t w n) where
      flag : n.claimed ≡ any (same w) xs
      flag = st.claimed ∙ m.claimed n.index st.within ∙ ap (λ (x : List ℕ). any (same x) xs) st.name

      pub claim_taken : n.claimed ≡ true → (fits (Claim k) σ w ≡ false) × Marked T (with_name (Claim k) σ w)
      claim_taken z =
          let a : any (same w) xs ≡ true = sym flag ∙ z in
          let e : fits (Claim k) σ w ≡ false = λ i. kn i && not (a i) in
          (e, claim_none e (taken_claimed a))

      module _ (T' : List ℕ) (d : Classed T n.index c T') where
        pub claim_free : n.claimed ≡ false → (fits (Claim k) σ w ≡ true) × Marked T' (with_name (Claim k) σ w)
        claim_free z =
            let a : any (same w) xs ≡ false = sym flag ∙ z in
            let e : fits (Claim k) σ w ≡ true = λ i. kn i && not (a i) in
            let tab = subst (λ (x : List ℕ). Tabled T' (map (class_to x c) t)) st.name (d.table t m.table st.within) in (
              e,
              subst (λ (u : List Entry). Marked T' (record { table = u; names = xs ++ (w ∷ []) })) (sym (ap (λ (b : Bool). class_if b c w t) e))
                  (record { table = tab; claimed = marks_stay T' w c t (xs ++ (w ∷ [])) mark }),
            )
          where
            apart : (i : ℕ) → i < length t → (i ≡ n.index → ⊥) → same (get_or t i nowhere).name (get_or t n.index nowhere).name ≡ false
            apart i l x = elim (dec_lt i n.index) [
              | yes b ↦ same_comm_false (get_or t n.index nowhere).name (get_or t i nowhere).name (m.table.distinct i n.index b st.within)
              | no b ↦ m.table.distinct n.index i (omega arith) l
            ]

            -- the name itself is among those marked now
            among : (i : ℕ) → i ≡ n.index → any (same (get_or t i nowhere).name) (xs ++ (w ∷ [])) ≡ true
            among i x =
                let e : same (get_or t i nowhere).name w ≡ true =
                ap (λ (y : List ℕ). same y w) (ap (λ (j : ℕ). (get_or t j nowhere).name) x ∙ st.name) ∙ same_refl w in
                any_more (get_or t i nowhere).name w xs ∙ ap (λ (b : Bool). any (same (get_or t i nowhere).name) xs || b) e
                ∙ or-true (any (same (get_or t i nowhere).name) xs)

            mark : (i : ℕ) → i < length t → is_claimed T' i ≡ any (same (get_or t i nowhere).name) (xs ++ (w ∷ []))
            mark i l = elim (ℕ_discrete i n.index) [
              | yes x ↦ ap (is_claimed T') x ∙ d.here m.table.long ∙ sym (among i x)
              | no x ↦ ap (λ (y : ℕ). eqb (y / 2 % 2) 1) (d.others i x) ∙ more_other i l (ap (same (get_or t i nowhere).name) (sym st.name) ∙ apart i l x)
            ]

  -- a name that is not lastprivate, or is
  copy_none : fits CopyIn σ w ≡ false → Marked T (with_name CopyIn σ w)
  copy_none e = subst (λ (u : List Entry). Marked T (record { table = u; names = xs })) (sym (ap (λ (b : Bool). class_if b copied w t) e))
      (record { table = m.table; claimed = m.claimed })

  pub copy_unknown : known w t ≡ false → (fits CopyIn σ w ≡ false) × Marked T (with_name CopyIn σ w)
  copy_unknown u =
      let e : fits CopyIn σ w ≡ false = ap (λ (x : Entry). is_lastprivate x.class) (find_none w t (unknown_at w t u)).1 in
      (e, copy_none e)

  pub copy_other : ((find w t).class ≡ lastprivate → ⊥) → (fits CopyIn σ w ≡ false) × Marked T (with_name CopyIn σ w)
  copy_other n = let e = other_class (find w t).class n in (e, copy_none e)

  pub copy_last : (find w t).class ≡ lastprivate → (n : Named) → Stands T t w n → (T' : List ℕ) → CopiedIn T n.index T'
      → (fits CopyIn σ w ≡ true) × Marked T' (with_name CopyIn σ w)
  copy_last h n st T' d =
      let e = ap is_lastprivate h in
      let tab = subst (λ (x : List ℕ). Tabled T' (map (class_to x copied) t)) st.name (d.table t m.table st.within) in (
        e,
        subst (λ (u : List Entry). Marked T' (record { table = u; names = xs })) (sym (ap (λ (b : Bool). class_if b copied w t) e))
            (record { table = tab; claimed = marks_stay T' w copied t xs (λ i l. d.claimed m.table.long i ∙ m.claimed i l) }),
      )

-- ---- what the code does

-- a name that may stand there or not
module _ (d : Deed) (T w : List ℕ) (most : ℕ) (T' : List ℕ) (r : ℕ) (b : Bool) (h : r ≡ max most (order b true)) where
  pub claims_as : ((σ : Stand) → Marked T σ → (fits d σ w ≡ b) × Marked T' (with_name d σ w)) → ClaimsOne d T w most T' r
  claims_as f σ m =
      let (e, k) = f σ m in
      record { rank_is = h ∙ ap (λ (y : Bool). max most (order y true)) (sym (and-true (fits d σ w) ∙ e)); marked = k }

pub as_deed : {d e : Deed} {T w : List ℕ} {most : ℕ} {T' : List ℕ} {r : ℕ} → d ≡ e → ClaimsOne e T w most T' r → ClaimsOne d T w most T' r
as_deed {T} {w} {most} {T'} {r} p h = subst (λ (x : Deed). ClaimsOne x T w most T' r) (sym p) h

pub skipped : (T w : List ℕ) (most : ℕ) → ClaimsOne Skip T w most T most
skipped T w most σ m = record { rank_is = omega arith; marked = m }

-- a name that is not declared; one that is, as n
abbrev Undeclared : List ℕ → List ℕ → Type 0
Undeclared T w = (t : List Entry) → Tabled T t → Unknown t w

abbrev Declared : List ℕ → List ℕ → Named → Type 0
Declared T w n = (t : List Entry) → Tabled T t → Knows t w n × Stands T t w n

-- a name that is wrong, after others of a rank
module _ (T w : List ℕ) (q : Rank) where
  unfit : 2 ≡ max (level q) (order false true)
  unfit = omega (arith, level_most q)

  pub claims_none : (k : ClauseKind) → Undeclared T w → ClaimsOne (Claim k) T w (level q) T 2
  claims_none k u = claims_as (Claim k) T w (level q) T 2 false unfit (λ σ m. claim_unknown T σ m w k (u σ.table m.table).known)

  pub copies_none : Undeclared T w → ClaimsOne CopyIn T w (level q) T 2
  copies_none u = claims_as CopyIn T w (level q) T 2 false unfit (λ σ m. copy_unknown T σ m w (u σ.table m.table).known)

  module _ (n : Named) (d : Declared T w n) where
    pub claims_taken : (k : ClauseKind) → not n.claimed ≡ false → ClaimsOne (Claim k) T w (level q) T 2
    claims_taken k z = claims_as (Claim k) T w (level q) T 2 false unfit
        (λ σ m. let (kn, st) = d σ.table m.table in claim_taken T σ m w k n kn.known st (not-false n.claimed z))

    pub copies_other : (n.class ≡ lastprivate → ⊥) → ClaimsOne CopyIn T w (level q) T 2
    copies_other z = claims_as CopyIn T w (level q) T 2 false unfit
        (λ σ m. copy_other T σ m w (λ (e : (find w σ.table).class ≡ lastprivate). z ((d σ.table m.table).0.class ∙ e)))

module _ (T w : List ℕ) (most : ℕ) (n : Named) (d : Declared T w n) (T' : List ℕ) where
  pub claims_free : (k : ClauseKind) → not n.claimed ≡ true → Classed T n.index (class_by k) T' → ClaimsOne (Claim k) T w most T' most
  claims_free k z c = claims_as (Claim k) T w most T' most true (omega arith)
      (λ σ m. let (kn, st) = d σ.table m.table in claim_free T σ m w k n kn.known st T' c (not-true n.claimed z))

  pub copies_last : n.class ≡ lastprivate → CopiedIn T n.index T' → ClaimsOne CopyIn T w most T' most
  copies_last z c = claims_as CopyIn T w most T' most true (omega arith)
      (λ σ m. let (kn, st) = d σ.table m.table in copy_last T σ m w (sym kn.class ∙ z) n st T' c)

-- the variable stays
pub variable_keeps : (T T' : List ℕ) → (length_at T variable_entry ≤ name_words → variable_of T' ≡ variable_of T) → Keeps T T'
variable_keeps T T' k h = let q = k h in (omega (arith, name_length T' 16, name_length T 16, ap length q), q)
