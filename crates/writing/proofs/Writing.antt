-- Laws of bytes written one after another.
use mathlib.Core.Path.{◌≡◌, refl, sym, ◌∙◌, ap}
use mathlib.Core.List.{List, [], ◌∷◌, ◌++◌, append_assoc, append-nil}
use Prim.Native.Nat.{ℕ, ◌+◌, ◌≤◌}
use native.Mathlib.Omega.{arith}
use lib.ListN.{length, set, length-append}
use lib.Seq.{sets, set_out, length-sets}
use Rattle.lexer.proofs.Laws.{sets_append}
use Rattle.writing.specs.Written.{Writes, Fits}

-- nothing
pub writes_none : (b : List ℕ) (at : ℕ) → Writes b at [] b at
writes_none b at = record { place = omega arith; bytes = refl }

-- one byte, and one past the bytes lent
pub writes_one : (b : List ℕ) (at x : ℕ) → Writes b at (x ∷ []) (set b at x) (at + 1)
writes_one b at x = record { place = omega arith; bytes = refl }

pub writes_past : (b : List ℕ) (at x : ℕ) → length b ≤ at → Writes b at (x ∷ []) b (at + 1)
writes_past b at x h = record { place = omega arith; bytes = sym (set_out b at x h) }

-- some bytes, and then others
pub writes_then : {b m a xs ys : List ℕ} {at p r : ℕ} → Writes b at xs m p → Writes m p ys a r → Writes b at (xs ++ ys) a r
writes_then {b} {m} {a} {xs} {ys} {at} {p} {r} u v = record {
  place = omega (arith, u.place, v.place, length-append xs ys);
  bytes = v.bytes ∙ (λ i. sets (u.bytes i) (u.place i) ys) ∙ sets_append b at xs ys;
}

-- the same bytes
pub writes_as : {b a xs ys : List ℕ} {at r : ℕ} → xs ≡ ys → Writes b at xs a r → Writes b at ys a r
writes_as {b} {a} {xs} {ys} {at} {r} e u = record { place = u.place ∙ ap (λ (l : List ℕ). at + length l) e; bytes = u.bytes ∙ ap (sets b at) e }

-- the place after them
pub writes_up_to : {b a xs : List ℕ} {at r q : ℕ} → r ≡ q → Writes b at xs a r → Writes b at xs a q
writes_up_to {b} {a} {xs} {at} {r} {q} e u = record { place = sym e ∙ u.place; bytes = u.bytes }

-- as many bytes are lent as before
pub writes_length : {b a xs : List ℕ} {at r : ℕ} → Writes b at xs a r → length a ≡ length b
writes_length {b} {a} {xs} {at} u = ap length u.bytes ∙ length-sets b at xs

-- ---- room for the first of some bytes, and for the others after them

pub fits_first : (at : ℕ) (xs ys : List ℕ) {zs : List ℕ} → zs ≡ xs ++ ys → Fits at zs → Fits at xs
fits_first at xs ys e h = omega (arith, ap length e, length-append xs ys)

pub fits_then : {b a zs : List ℕ} {at r : ℕ} (xs ys : List ℕ) → zs ≡ xs ++ ys → Fits at zs → Writes b at xs a r → Fits r ys
fits_then xs ys e h u = omega (arith, ap length e, length-append xs ys, u.place)

-- ---- a loop that writes: of the whole, a part is written, and the rest is left

pub record Along (whole rest b : List ℕ) (at : ℕ) (a : List ℕ) (r : ℕ) : Type 0 where
  pub part : List ℕ
  pub writes : Writes b at part a r
  pub joins : part ++ rest ≡ whole

pub along_none : (whole b : List ℕ) (at : ℕ) → Along whole whole b at b at
along_none whole b at = record { part = []; writes = writes_none b at; joins = refl }

pub along_more : {whole rest b m a : List ℕ} {at p r : ℕ} (xs ys : List ℕ) → rest ≡ xs ++ ys → Along whole rest b at m p → Writes m p xs a r
    → Along whole ys b at a r
along_more xs ys e h u = record {
  part = h.part ++ xs;
  writes = writes_then h.writes u;
  joins = append_assoc h.part xs ys ∙ ap (λ (zs : List ℕ). h.part ++ zs) (sym e) ∙ h.joins;
}

pub along_all : {whole rest b a : List ℕ} {at r : ℕ} → rest ≡ [] → Along whole rest b at a r → Writes b at whole a r
along_all e h = writes_as (sym (append-nil h.part) ∙ ap (λ (zs : List ℕ). h.part ++ zs) (sym e) ∙ h.joins) h.writes

pub along_fits : {whole rest b a : List ℕ} {at r : ℕ} → Fits at whole → Along whole rest b at a r → Fits r rest
along_fits {whole} {rest} w h = omega (arith, ap length h.joins, length-append h.part rest, h.writes.place)
