-- The cells that a data line gives: values set among the cells that were loaded before.
use mathlib.Core.Path.{◌≡◌, refl, sym, ◌∙◌, ap}
use mathlib.Core.Bool.{Bool, true, false, cond, not, ◌||◌}
use mathlib.Core.List.{List, [], ◌∷◌, ◌++◌, map}
use mathlib.Core.Option.{some}
use Prim.Native.Nat.{ℕ, suc, ◌+◌, ◌-◌, ◌≤◌}
use native.Mathlib.Nat.{zero-add, suc-add}
use native.Mathlib.Omega.{arith}
use borrow.Author.Tests.{not-true}
use lib.ListN.{length, set, length-set}
use lib.IntN.{ℤ}
use lib.Seq.{sets, set-append_left}
use Rattle.syntax.specs.Bytes.{any, same}
use Rattle.syntax.specs.Known.{Entry, named, known, find, give_to}
use Rattle.syntax.specs.Conditions.{different}
use Rattle.syntax.specs.Text.{initial, loaded}
use Rattle.syntax.proofs.Spelling.{both_true, same_true}
use Rattle.syntax.specs.Sane.{Each, Laid, SaneEntry}
use Rattle.syntax.proofs.TestLaws.{neither_holds}
use Rattle.syntax.proofs.Loaded.{initial_length}

-- values within the first part
pub sets_front : (xs ys : List ℤ) (k : ℕ) (vs : List ℤ) → k + length vs ≤ length xs → sets (xs ++ ys) k vs ≡ sets xs k vs ++ ys
sets_front xs ys k [] b = refl
sets_front xs ys k (v ∷ vs) b =
    ap (λ (l : List ℤ). sets l (suc k) vs) (set-append_left xs ys k v (omega arith)) ∙ sets_front (set xs k v) ys (suc k) vs (omega (arith, length-set xs k v))

sets_cons : (x : ℤ) (l : List ℤ) (n : ℕ) (vs : List ℤ) → sets (x ∷ l) (suc n) vs ≡ x ∷ sets l n vs
sets_cons x l n [] = refl
sets_cons x l n (v ∷ vs) = sets_cons x (set l n v) (suc n) vs

sets_after : (xs ys vs : List ℤ) (k : ℕ) → sets (xs ++ ys) (length xs + k) vs ≡ xs ++ sets ys k vs
sets_after [] ys vs k = ap (λ (n : ℕ). sets ys n vs) (zero-add k)
sets_after (x ∷ xs) ys vs k =
    ap (λ (n : ℕ). sets (x ∷ (xs ++ ys)) n vs) (suc-add (length xs) k)
    ∙ sets_cons x (xs ++ ys) (length xs + k) vs ∙ ap (λ (l : List ℤ). x ∷ l) (sets_after xs ys vs k)

sets_over : (xs ys vs : List ℤ) → length xs ≡ length vs → sets (xs ++ ys) 0 vs ≡ vs ++ ys
sets_over [] ys [] e = refl
sets_over [] ys (v ∷ vs) e = absurd (omega (arith, e))
sets_over (x ∷ xs) ys [] e = absurd (omega (arith, e))
sets_over (x ∷ xs) ys (v ∷ vs) e = sets_cons v (xs ++ ys) 0 vs ∙ ap (λ (l : List ℤ). v ∷ l) (sets_over xs ys vs (omega (arith, e)))

abbrev with_data : Entry → List ℤ → Entry
with_data e vs = record { name = e.name; first = e.first; extents = e.extents; size = e.size; class = e.class; given = some vs }

-- a name that is none of the others
others_kept : (x : List ℕ) (vs : List ℤ) (t : List Entry) → known x t ≡ false → map (give_to x vs) t ≡ t
others_kept x vs [] h = refl
others_kept x vs (e ∷ t) h =
    let (p, q) = neither_holds (named x e) (known x t) h in
    λ i. cond (p i) (with_data e vs) e ∷ others_kept x vs t q i

known_names : (x : List ℕ) (t : List Entry) → known x t ≡ any (same x) (map (λ e. e.name) t)
known_names x [] = refl
known_names x (e ∷ t) = ap (λ (b : Bool). same x e.name || b) (known_names x t)

abbrev names_of : List Entry → List (List ℕ)
names_of t = map (λ e. e.name) t

pub loaded_give : (x : List ℕ) (vs : List ℤ) (c : ℕ) (t : List Entry) → Laid c t → Each SaneEntry t → different (names_of t) ≡ true → known x t ≡ true
    → length vs ≡ (find x t).size → (c ≤ (find x t).first) × (loaded (map (give_to x vs) t) ≡ sets (loaded t) ((find x t).first - c) vs)
unfolding find loaded
loaded_give x vs c [] l s d k n = absurd (let z : ◌≡◌ {A = ℕ} 0 1 = ap (λ (b : Bool). cond b 1 0) k in omega arith)
loaded_give x vs c (e ∷ t) l s d k n = go (named x e) refl (loaded_give x vs (c + e.size) t l.1 s.1 apart.1) k n
  where
    apart : (not (any (same e.name) (names_of t)) ≡ true) × (different (names_of t) ≡ true)
    apart = both_true (not (any (same e.name) (names_of t))) _ d

    own : List ℤ
    own = initial e e.given

    size_of : length own ≡ e.size
    size_of = initial_length e e.given s.0.given

    unknown : named x e ≡ true → known x t ≡ false
    unknown b =
        known_names x t ∙ ap (λ (y : List ℕ). any (same y) (names_of t)) (same_true x e.name b)
        ∙ not-true (any (same e.name) (names_of t)) apart.0

    go : (b : Bool) → named x e ≡ b
        → (known x t ≡ true → length vs ≡ (find x t).size
        → (c + e.size ≤ (find x t).first) × (loaded (map (give_to x vs) t) ≡ sets (loaded t) ((find x t).first - (c + e.size)) vs))
        → b || known x t ≡ true → length vs ≡ (cond b e (find x t)).size → (c ≤ (cond b e (find x t)).first)
        × (initial (cond b (with_data e vs) e) (cond b (with_data e vs) e).given ++ loaded (map (give_to x vs) t)
        ≡ sets (own ++ loaded t) ((cond b e (find x t)).first - c) vs)
    go true b h k n =
        let z : e.first - c ≡ 0 = omega (arith, l.0) in (
          omega (arith, l.0),
          ap (λ (u : List Entry). vs ++ loaded u) (others_kept x vs t (unknown b))
              ∙ sym (ap (λ (m : ℕ). sets (own ++ loaded t) m vs) z ∙ sets_over own (loaded t) vs (size_of ∙ sym n)),
        )
    go false b h k n =
        let (p, q) = h k n in
        let z : length own + ((find x t).first - (c + e.size)) ≡ (find x t).first - c = omega (arith, p, size_of) in (
          omega (arith, p),
          ap (λ (u : List ℤ). own ++ u) q
              ∙ sym (sets_after own (loaded t) vs ((find x t).first - (c + e.size))) ∙ ap (λ (m : ℕ). sets (own ++ loaded t) m vs) z,
        )
