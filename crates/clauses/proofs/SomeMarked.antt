-- Every table has some names marked.
use mathlib.Core.Path.{◌≡◌, refl, sym, ◌∙◌, ap}
use mathlib.Core.Bool.{Bool, true, false, cond, ◌||◌}
use mathlib.Core.List.{List, [], ◌∷◌}
use Prim.Native.Nat.{ℕ, zero, suc, ◌+◌, ◌<◌}
use native.Mathlib.Omega.{arith}
use lib.ListN.{length, get_or}
use Rattle.syntax.specs.Bytes.{any, same}
use Rattle.syntax.specs.Known.{Entry, nowhere}
use Rattle.syntax.proofs.TestLaws.{same_refl, same_comm_false}
use Rattle.names.specs.Table.{is_claimed}
use Rattle.heading.specs.Lists.{Standing}
use Rattle.claiming.specs.Claims.{Stand, Marked}

abbrev marked_names : List ℕ → ℕ → List Entry → List (List ℕ)
marked_names T i [] = []
marked_names T i (e ∷ t) = cond (is_claimed T i) (e.name ∷ marked_names T (suc i) t) (marked_names T (suc i) t)

none_marked : (T : List ℕ) (i : ℕ) (t : List Entry) (x : List ℕ) → ((j : ℕ) → j < length t → same x (get_or t j nowhere).name ≡ false)
    → any (same x) (marked_names T i t) ≡ false
none_marked T i [] x h = refl
none_marked T i (e ∷ t) x h = go (is_claimed T i) (none_marked T (suc i) t x (λ j l. h (suc j) (omega arith)))
  where
    go : (b : Bool) → any (same x) (marked_names T (suc i) t) ≡ false
        → any (same x) (cond b (e.name ∷ marked_names T (suc i) t) (marked_names T (suc i) t)) ≡ false
    go true r = λ k. h 0 (omega arith) k || r k
    go false r = r

abbrev Distinct : List Entry → Type 0
Distinct t = (i j : ℕ) → i < j → j < length t → same (get_or t j nowhere).name (get_or t i nowhere).name ≡ false

marks_of : (T : List ℕ) (i : ℕ) (t : List Entry) → Distinct t → (j : ℕ) → j < length t
    → is_claimed T (i + j) ≡ any (same (get_or t j nowhere).name) (marked_names T i t)
marks_of T i [] d j l = absurd (omega arith)
marks_of T i (e ∷ t) d zero l =
    ap (is_claimed T) (omega arith)
    ∙ go (is_claimed T i)
    (none_marked T (suc i) t e.name (λ j b. same_comm_false (get_or t j nowhere).name e.name (d 0 (suc j) (omega arith) (omega arith))))
  where
    go : (b : Bool) → any (same e.name) (marked_names T (suc i) t) ≡ false
        → b ≡ any (same e.name) (cond b (e.name ∷ marked_names T (suc i) t) (marked_names T (suc i) t))
    go true r = sym (ap (λ (x : Bool). x || any (same e.name) (marked_names T (suc i) t)) (same_refl e.name))
    go false r = sym r
marks_of T i (e ∷ t) d (suc j) l =
    ap (is_claimed T) (omega arith) ∙ marks_of T (suc i) t (λ p q b m. d (suc p) (suc q) (omega arith) (omega arith)) j (omega arith)
    ∙ go (is_claimed T i)
  where
    go : (b : Bool)
        → any (same (get_or t j nowhere).name) (marked_names T (suc i) t)
        ≡ any (same (get_or t j nowhere).name) (cond b (e.name ∷ marked_names T (suc i) t) (marked_names T (suc i) t))
    go true = sym (ap (λ (x : Bool). x || any (same (get_or t j nowhere).name) (marked_names T (suc i) t)) (d 0 (suc j) (omega arith) l))
    go false = refl

pub some_marked : (T : List ℕ) → Standing T → (σ : Stand) × Marked T σ
some_marked T (t, tab) = (
  record { table = t; names = marked_names T 0 t },
  record { table = tab; claimed = λ i l. ap (is_claimed T) (omega arith) ∙ marks_of T 0 t tab.distinct i l },
)
