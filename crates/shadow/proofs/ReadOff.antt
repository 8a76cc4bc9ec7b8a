-- Marks and obstacles read off the tables are those of the log.
use mathlib.Core.Path.{◌≡◌, refl, sym, ◌∙◌, subst}
use mathlib.Core.Logic.{◌≢◌, ◌⊎◌, inl, inr, ◌↔◌}
use mathlib.Core.List.{[]}
use mathlib.Core.Bool.{Bool, true, false, cond}
use Prim.Native.Nat.{ℕ, ◌<◌}
use native.Mathlib.Decide.{ℕ_discrete, dec_lt}
use native.Mathlib.Omega.{arith}
use Rattle.rules.specs.Choose.{below}
use Rattle.rules.specs.ChooseLaws.{below_yes, below_no}
use Rattle.rules.specs.Operation.{Operation}
use Rattle.rules.specs.declared.Class.{Class}
use Rattle.rules.specs.declared.Class.TheVariants.{Shared as shared, Lastprivate as lastprivate, Copied as copied, Reduction as reduction}
use Rattle.rules.specs.Log.{reads, writes, updates, Log, only, Has, newest, older, Exposed, first, earlier, Ordinary, a_read, a_write}
use Rattle.rules.specs.LogLaws.{has_nil, has_only, has_all, exposed_nil}
use Rattle.rules.specs.Obstacles.{Clash, Stale, Late, Mixed, ObstacleAt}
use Rattle.rules.proofs.RecordLaws.{late_by_record}
use Rattle.rules.proofs.SumLaws.{Within}
use Rattle.rules.specs.Marks.{Mark1, Mark2, Mark4, mark1?, mark2?, mark4?, weight, marks}
use Rattle.rules.specs.Decide.{has?}
use Rattle.shadow.specs.Tables.{Row, StaleRow, Blocked, shown}
use Rattle.shadow.proofs.Sets.{size_some, size_has, size_two, size_both, size_rest, size_less}
use Rattle.shadow.specs.Orderly.{InTurn}
use Rattle.shadow.proofs.Judged.{W, E, M, Judged}
use Rattle.shadow.proofs.Rows.{row, judged, updated_right}

-- a read has a write before it or is exposed
pub read_cases : {c : ℕ} {l : Log} → Has reads c l → Has writes c l ⊎ Exposed c l
read_cases {c} (newest {l = l}) = elim (has? writes c l) [ yes w ↦ inl (older w) | no n ↦ inr (first n) ]
read_cases (older h) = elim (read_cases h) [ inl w ↦ inl (older w) | inr x ↦ inr (earlier x) ]

pub exposed_reads : {c : ℕ} {l : Log} → Exposed c l → Has reads c l
exposed_reads (first n) = newest
exposed_reads (earlier h) = older (exposed_reads h)

-- so an ordinary access is a write or there is an exposed read
ordinary_cases : {c : ℕ} {l : Log} → Ordinary c l → Has writes c l ⊎ Exposed c l
ordinary_cases (a_read h) = read_cases h
ordinary_cases (a_write h) = inl h

ordinary_of : {c : ℕ} {l : Log} → Has writes c l ⊎ Exposed c l → Ordinary c l
ordinary_of (inl h) = a_write h
ordinary_of (inr h) = a_read (exposed_reads h)

weight_below : {A : Type 0} (d : Dec A) (a b w : ℕ) → (a < b) ↔ A → below a b w 0 ≡ weight d w
unfolding weight
weight_below (yes x) a b w f = below_yes (f.1 x) w 0
weight_below (no n) a b w f = below_no (elim (dec_lt a b) [ yes y ↦ absurd (n (f.0 y)) | no y ↦ omega arith ]) w 0

weight_cond : {A : Type 0} (d : Dec A) (b : Bool) (w : ℕ) → (b ≡ true) ↔ A → cond b w 0 ≡ weight d w
unfolding weight
weight_cond (yes x) b w f = rw (f.1 x)
weight_cond (no n) true w f = absurd (n (f.0 refl))
weight_cond (no n) false w f = refl

module _ (γ π : ℕ → ℕ) (ops : ℕ → Operation) (n c : ℕ) (l : Log) (t : InTurn γ π l) (u : Within γ n l) where
  abbrev r : Row
  r = row γ π ops c l

  j : Judged γ π n c l r
  j = judged γ π ops c n l t u

  pub low : (Q : Log → Type 0) → ¬ Q [] → (g : ℕ) → Q (only γ g l) → g < n
  low Q z g x = elim (dec_lt g n) [ yes y ↦ y | no y ↦ absurd (z (subst Q (u g (omega arith)) x)) ]

  low_M : (g : ℕ) → M γ c l g → g < n
  low_M g x = elim x [ inl y ↦ low (Has writes c) has_nil g y | inr y ↦ low (Exposed c) exposed_nil g y ]

  pub mark1_right : (0 < r.writers) ↔ Mark1 γ c l
  mark1_right = (λ b. let x = size_some j.writers b in (x.0, x.2), λ (g, x). size_has j.writers (low (Has writes c) has_nil g x) x)

  pub mark2_right : (r.writers < r.met) ↔ Mark2 γ c l
  mark2_right = (
    λ b. let x = size_rest (λ g y. inl y) j.writers j.met b in (x.0, exposed_reads (elim x.1 [ inl y ↦ absurd (x.2 y) | inr y ↦ y ]), x.2),
    λ (g, h, m). let y = read_cases h in size_less (λ g y. inl y) j.writers j.met (low_M g y) y m,
  )

  pub mark4_right : (r.crossed ≡ true) ↔ Mark4 γ c l
  mark4_right = j.crossed

  pub mark8_right : (r.updated ≡ true) ↔ Has updates c l
  mark8_right = updated_right γ π ops c l

  -- the marks
  pub marks_right : shown r ≡ marks γ c l
  unfolding shown marks
  marks_right = cc (
    weight_below (mark1? γ c l) 0 r.writers 1 mark1_right,
    weight_below (mark2? γ c l) r.writers r.met 2 mark2_right,
    weight_cond (mark4? γ c l) r.crossed 4 mark4_right,
    weight_cond (has? updates c l) r.updated 8 mark8_right,
  )

  -- a group that read c exposed
  exposed_right : (r.writers < r.met) ⊎ (r.crossed ≡ true) → (g : ℕ) × E γ c l g
  exposed_right (inl b) = let x = size_rest (λ g y. inl y) j.writers j.met b in (x.0, elim x.1 [ inl y ↦ absurd (x.2 y) | inr y ↦ y ])
  exposed_right (inr q) = let x = mark4_right.0 q in (x.0, x.1)

  right_exposed : (g : ℕ) → E γ c l g → (r.writers < r.met) ⊎ (r.crossed ≡ true)
  right_exposed g x = elim (has? writes c (only γ g l)) [ yes w ↦ inr (mark4_right.1 (g, x, w)) | no m ↦ inl (mark2_right.1 (g, exposed_reads x, m)) ]

  clash_right : Blocked shared r ↔ Clash (λ g. only γ g l) c
  clash_right = (
    λ (b, two).
        let w = size_some j.writers b in
        let d = size_two j.met two in
        elim (ℕ_discrete w.0 d.0) [
          | yes e ↦ (w.0, d.1, λ (q : w.0 ≡ d.1). d.2 (sym e ∙ q), w.2, ordinary_of d.4)
          | no m ↦ (w.0, d.0, m, w.2, ordinary_of d.3)
        ],
    λ (a, b, m, w, o). let y = ordinary_cases o in (mark1_right.1 (a, w), size_both j.met (low_M a (inl w)) (low_M b y) m (inl w) y),
  )

  stale_right : StaleRow r ↔ Stale (λ g. only γ g l) c
  stale_right = (
    λ (b, two, x).
        let w = size_some j.writers b in
        let e = exposed_right x in
        elim (ℕ_discrete w.0 e.0) [
          | no m ↦ (w.0, e.0, m, w.2, e.1)
          | yes q ↦
              let d = size_two j.met two in
              elim (ℕ_discrete w.0 d.0) [
                | yes p ↦ one w.0 w.2 (subst (E γ c l) (sym q) e.1) d.1 (λ (z : w.0 ≡ d.1). d.2 (sym p ∙ z)) d.4
                | no p ↦ one w.0 w.2 (subst (E γ c l) (sym q) e.1) d.0 p d.3
              ]
        ],
    λ (a, b, m, w, x). (mark1_right.1 (a, w), size_both j.met (low_M a (inl w)) (low_M b (inr x)) m (inl w) (inr x), right_exposed b x),
  )
    where
      -- a wrote c and read it exposed; b is another that did either
      one : (a : ℕ) → W γ c l a → E γ c l a → (b : ℕ) → a ≢ b → M γ c l b → Stale (λ g. only γ g l) c
      one a w x b m (inl y) = (b, a, λ (q : b ≡ a). m (sym q), y, x)
      one a w x b m (inr y) = (a, b, m, w, y)

  late_right : Blocked copied r ↔ Late (λ g. only γ g l) c
  late_right = let e = late_by_record j.recorded in (e.1, e.0)

  mixed_right : ((0 < r.met) × (r.updated ≡ true)) ↔ Mixed (λ g. only γ g l) c
  mixed_right = (
    λ (b, q).
        let m = size_some j.met b in
        let y = has_only γ (mark8_right.0 q) in
        (y.0, m.0, y.1, ordinary_of m.2),
    λ (a, b, x, o). let y = ordinary_cases o in (size_has j.met (low_M b y) y, mark8_right.1 (has_all γ a l x)),
  )

  -- the obstacles, by class
  pub obstacle_right : (k : Class) → Blocked k r ↔ ObstacleAt k (λ g. only γ g l) c
  obstacle_right shared = clash_right
  obstacle_right lastprivate = stale_right
  obstacle_right copied = late_right
  obstacle_right (reduction o) = (
    λ x. elim x [ inl y ↦ inl (stale_right.0 y) | inr y ↦ inr (mixed_right.0 y) ],
    λ x. elim x [ inl y ↦ inl (stale_right.1 y) | inr y ↦ inr (mixed_right.1 y) ],
  )
