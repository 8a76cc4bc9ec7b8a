-- Laws of bytes written one after another.
use mathlib.Core.Path.{◌≡◌, refl, sym, ◌∙◌, ap}
use mathlib.Core.Bool.{Bool, true, false, cond}
use mathlib.Core.List.{List, [], ◌∷◌, ◌++◌, append-nil, append_assoc}
use Prim.Native.Nat.{ℕ, zero, suc, ◌+◌, ◌-◌, ◌*◌, ◌/◌, ◌%◌, ◌≤◌, ◌<◌}
use native.Mathlib.Numerals.{add-one}
use native.Mathlib.Omega.{arith}
use lib.Dec.{ltb}
use lib.ListN.{length, get_or, take, length-append}
use borrow.Author.Tests.{lt-ltb, le-ltb, leb-false}
use lib.Signed.{le_z}
use lib.Seq.{take-suc, length-take-le}
use lib.IntN.{ℤ, pos, negsuc, nat_abs}
use mir.Syntax.{w32}
use mir.Val.{SFits, to_z, of_z}
use mir.ValLaws.{to_z-of_z}
use Rattle.syntax.specs.Bytes.{bytes}
use Rattle.std.specs.Prelude.{Result, Ok, Err}
use Rattle.answers.specs.declared.Failure.{Failure}
use Rattle.answers.specs.declared.Failure.TheVariants.{Refused, Faulted}
use Rattle.answers.specs.declared.Ran.{Ran}
use Rattle.answers.specs.declared.Ran.TheVariants.{Passed, Rerun}
use Rattle.printing.specs.Printed.{digits, decimal, signed, counted, refusal, comment, values, later}
use Rattle.writing.specs.Written.{Writes}
use Rattle.writing.proofs.Writing.{writes_none, writes_then, writes_as}
use Rattle.printing.specs.Written.{value_at}

-- ---- numbers

pub digits_few : (k n : ℕ) → length (digits k n) ≤ k
unfolding digits
digits_few zero n = omega arith
digits_few (suc k) n = go (ltb n 10) (digits_few k (n / 10))
  where
    go : (b : Bool) → length (digits k (n / 10)) ≤ k → length (cond b ((48 + n) ∷ []) (digits k (n / 10) ++ ((48 + n % 10) ∷ []))) ≤ suc k
    go true h = omega arith
    go false h = omega (arith, length-append (digits k (n / 10)) ((48 + n % 10) ∷ []))

pub signed_few : (v : ℤ) → length (signed v) ≤ 11
unfolding signed
signed_few (pos n) = omega (arith, digits_few 10 n)
signed_few (negsuc n) = omega (arith, digits_few 10 (suc n))

-- by its sign
pub signed_plain : {b a : List ℕ} {at r n : ℕ} (v : ℤ) → le_z (pos 0) v ≡ true → n ≡ nat_abs v → Writes b at (digits 10 n) a r → Writes b at (signed v) a r
unfolding signed
signed_plain (pos m) h e u = writes_as (ap (digits 10) e) u
signed_plain (negsuc m) h e u = cc

pub signed_negative : {b m a : List ℕ} {at p r n : ℕ} (v : ℤ) → le_z (pos 0) v ≡ false → n ≡ nat_abs v → Writes b at (45 ∷ []) m p
    → Writes m p (digits 10 n) a r → Writes b at (signed v) a r
unfolding signed
signed_negative (pos n) h e u t = absurd (omega (arith, leb-false 0 n h))
signed_negative (negsuc n) h e u t = writes_as (ap (λ (k : ℕ). 45 ∷ digits 10 k) e) (writes_then u t)

-- ---- digits

pub digits_none : (b : List ℕ) (at k n : ℕ) → k ≡ 0 → Writes b at (digits k n) b at
unfolding digits
digits_none b at k n e = writes_as (ap (λ (j : ℕ). digits j n) (sym e)) (writes_none b at)

-- a number below 10
digits_one : (k n : ℕ) → (k ≡ 0 → ⊥) → n < 10 → (48 + n) ∷ [] ≡ digits k n
unfolding digits
digits_one zero n z h = absurd (z refl)
digits_one (suc k) n z h = sym (ap (λ (c : Bool). cond c ((48 + n) ∷ []) (digits k (n / 10) ++ ((48 + n % 10) ∷ []))) (lt-ltb n 10 h))

-- and from 10 on
digits_two : (k n : ℕ) → (k ≡ 0 → ⊥) → 10 ≤ n → digits (k - 1) (n / 10) ++ ((48 + n % 10) ∷ []) ≡ digits k n
unfolding digits
digits_two zero n z h = absurd (z refl)
digits_two (suc k) n z h =
    ap (λ (j : ℕ). digits j (n / 10) ++ ((48 + n % 10) ∷ [])) (less k)
    ∙ sym (ap (λ (c : Bool). cond c ((48 + n) ∷ []) (digits k (n / 10) ++ ((48 + n % 10) ∷ []))) (le-ltb n 10 h))
  where
    less : (k : ℕ) → suc k - 1 ≡ k
    less k = omega arith

pub digits_last : {b a : List ℕ} {at r : ℕ} (k n : ℕ) → (k ≡ 0 → ⊥) → n < 10 → Writes b at ((48 + n) ∷ []) a r → Writes b at (digits k n) a r
digits_last k n z h u = writes_as (digits_one k n z h) u

pub digits_more : {b m a : List ℕ} {at p r : ℕ} (k n : ℕ) → (k ≡ 0 → ⊥) → 10 ≤ n → Writes b at (digits (k - 1) (n / 10)) m p
    → Writes m p ((48 + n % 10) ∷ []) a r → Writes b at (digits k n) a r
digits_more k n z h u v = writes_as (digits_two k n z h) (writes_then u v)

-- ---- signed numbers

-- a number that was passed on
pub signed_seen : {b a : List ℕ} {at r : ℕ} (v : ℤ) → SFits w32 v → Writes b at (signed (to_z w32 (of_z w32 v))) a r → Writes b at (signed v) a r
signed_seen v f u = writes_as (ap signed (to_z-of_z w32 v f)) u

-- ---- values

pub value_first : {b a : List ℕ} {at r : ℕ} (k : ℕ) (v : ℤ) → k ≡ 0 → Writes b at (signed v) a r → Writes b at (value_at k v) a r
unfolding value_at
value_first k v e u = writes_as (ap (λ (j : ℕ). value_at j v) (sym e)) u

pub value_later : {b m a : List ℕ} {at p r : ℕ} (k : ℕ) (v : ℤ) → (k ≡ 0 → ⊥) → Writes b at (44 ∷ []) m p → Writes m p (signed v) a r
    → Writes b at (value_at k v) a r
unfolding value_at
value_later zero v z u t = absurd (z refl)
value_later (suc k) v z u t = writes_then u t

later_snoc : (l : List ℤ) (v : ℤ) → later (l ++ (v ∷ [])) ≡ later l ++ (44 ∷ signed v)
unfolding later
later_snoc [] v = ap (λ (x : List ℕ). 44 ∷ x) (append-nil (signed v))
later_snoc (x ∷ l) v =
    ap (λ (y : List ℕ). 44 ∷ (signed x ++ y)) (later_snoc l v) ∙ ap (λ (y : List ℕ). 44 ∷ y) (sym (append_assoc (signed x) (later l) (44 ∷ signed v)))

values_snoc : (l : List ℤ) (v : ℤ) → values l ++ value_at (length l) v ≡ values (l ++ (v ∷ []))
unfolding values later value_at
values_snoc [] v = sym (append-nil (signed v))
values_snoc (x ∷ l) v = append_assoc (signed x) (later l) (44 ∷ signed v) ∙ ap (λ (y : List ℕ). signed x ++ y) (sym (later_snoc l v))

later_few : (l : List ℤ) → length (later l) ≤ 12 * length l
unfolding later
later_few [] = omega arith
later_few (v ∷ l) = omega (arith, later_few l, signed_few v, length-append (signed v) (later l))

pub values_few : (l : List ℤ) → length (values l) ≤ 12 * length l
unfolding values
values_few [] = omega arith
values_few (v ∷ l) = omega (arith, later_few l, signed_few v, length-append (signed v) (later l))

pub values_none : (b : List ℕ) (at : ℕ) (vs : List ℤ) → Writes b at (values (take 0 vs)) b at
unfolding values
values_none b at vs = writes_none b at

pub values_more : {b m a : List ℕ} {at p r : ℕ} (vs : List ℤ) (k : ℕ) (v : ℤ) → k < length vs → v ≡ get_or vs k (pos 0)
    → Writes b at (values (take k vs)) m p → Writes m p (value_at k v) a r → Writes b at (values (take (k + 1) vs)) a r
values_more vs k v h e u t =
    writes_as
    (ap (λ (j : ℕ). values (take k vs) ++ value_at j v) (sym (length-take-le k vs (omega arith)))
    ∙ values_snoc (take k vs) v
    ∙ ap (λ (x : ℤ). values (take k vs ++ (x ∷ []))) e
    ∙ ap values (sym (take-suc vs k (pos 0) h))
    ∙ ap (λ (n : ℕ). values (take n vs)) (sym (add-one k)))
    (writes_then u t)

-- how far the first k values reach
pub values_reach : {b a : List ℕ} {at r : ℕ} (vs : List ℤ) (k : ℕ) → k ≤ length vs → Writes b at (values (take k vs)) a r → r ≤ at + 12 * k
values_reach vs k h u = omega (arith, u.place, values_few (take k vs), length-take-le k vs h)

-- ---- the comment line

comment_few_counted : (w : List ℕ) (a b : ℕ) → length w ≤ 9 → length (counted w a b) ≤ 44
comment_few_counted w a b h =
    omega (
      arith,
      digits_few 10 a,
      digits_few 10 b,
      length-append w (decimal a ++ (32 ∷ (decimal b ++ (10 ∷ [])))),
      length-append (decimal a) (32 ∷ (decimal b ++ (10 ∷ []))),
      length-append (decimal b) (10 ∷ []),
    )

comment_few_refused : (n k : ℕ) (v : ℤ) → length (refusal n k v) ≤ 44
comment_few_refused n k v =
    omega (
      arith,
      digits_few 10 n,
      digits_few 10 k,
      signed_few v,
      length-append (decimal n) (32 ∷ (decimal k ++ (32 ∷ (signed v ++ (10 ∷ []))))),
      length-append (decimal k) (32 ∷ (signed v ++ (10 ∷ []))),
      length-append (signed v) (10 ∷ []),
    )

pub comment_few : (r : Result Ran Failure) → length (comment r) ≤ 44
unfolding comment
comment_few (Ok (Passed c)) = comment_few_counted (bytes "! passed ") c.pairs c.cells (omega arith)
comment_few (Ok (Rerun c)) = comment_few_counted (bytes "! rerun ") c.pairs c.cells (omega arith)
comment_few (Err (Faulted f)) = comment_few_refused f.number f.line f.v
comment_few (Err (Refused e)) = comment_few_refused e.number e.line (pos 0)
