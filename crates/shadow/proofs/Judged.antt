-- The tables of a log hold what the log says.
use mathlib.Core.Path.{◌≡◌, refl, subst}
use mathlib.Core.Logic.{◌≢◌, ◌⊎◌, inl, inr, ◌↔◌}
use mathlib.Core.List.{◌∷◌}
use mathlib.Core.Bool.{Bool, true}
use Prim.Native.Nat.{ℕ, suc, max, ◌<◌}
use native.Mathlib.Decide.{ℕ_discrete}
use native.Mathlib.Omega.{arith}
use lib.IntN.{ℤ}
use Rattle.rules.specs.Choose.{pick, put}
use Rattle.rules.specs.ChooseLaws.{pick_same, pick_other}
use Rattle.rules.specs.Operation.{Operation}
use Rattle.rules.specs.Log.{Kind, reads, writes, updates, Access, access, Log, only, Has, newest, older, Exposed, first, earlier}
use Rattle.rules.specs.LogLaws.{has_nil, exposed_nil}
use Rattle.rules.specs.Marks.{Mark4}
use Rattle.rules.specs.Record.{Lowest, Highest, Recorded}
use Rattle.shadow.specs.Tables.{Own, Row, noted, kept, newcomer, lower}
use Rattle.shadow.proofs.Sets.{Same, Adds, adds_same, Size, size_same, size_add, lowest_same, lowest_add, highest_same, highest_add, Stamp, stamp_same, stamp_has, stamp_put, stamp_keep}
use Rattle.shadow.proofs.Change.{latest_tops, same_of, adds_of, has_leaves, exposed_leaves}
use Rattle.shadow.specs.Orderly.{Latest}

apart_rw : reads ≢ writes
apart_rw e = let z : ◌≡◌ {A = ℕ} 0 1 = cc in omega arith

apart_wr : writes ≢ reads
apart_wr e = let z : ◌≡◌ {A = ℕ} 0 1 = cc in omega arith

apart_uw : updates ≢ writes
apart_uw e = let z : ◌≡◌ {A = ℕ} 0 1 = cc in omega arith

apart_ur : updates ≢ reads
apart_ur e = let z : ◌≡◌ {A = ℕ} 0 1 = cc in omega arith

pub apart_ru : reads ≢ updates
apart_ru e = let z : ◌≡◌ {A = ℕ} 0 1 = cc in omega arith

pub apart_wu : writes ≢ updates
apart_wu e = let z : ◌≡◌ {A = ℕ} 0 1 = cc in omega arith

-- the groups that wrote c, those that read it exposed, and either
module _ (γ : ℕ → ℕ) (c : ℕ) (l : Log) where
  abbrev pub W : ℕ → Type 0
  W g = Has writes c (only γ g l)

  abbrev pub E : ℕ → Type 0
  E g = Exposed c (only γ g l)

  abbrev pub M : ℕ → Type 0
  M g = W g ⊎ E g

-- what one row says of the log by groups
pub record Judged (γ π : ℕ → ℕ) (n c : ℕ) (l : Log) (r : Row) : Type 0 where
  pub wrote : Stamp π (W γ c l) (λ p. (r.own p).wrote)
  pub exposed : Stamp π (E γ c l) (λ p. (r.own p).exposed)
  pub writers : Size (W γ c l) n r.writers
  pub met : Size (M γ c l) n r.met
  pub recorded : Recorded (λ g. only γ g l) c r.lowest r.highest
  pub crossed : (r.crossed ≡ true) ↔ Mark4 γ c l

union_same : {S S' T T' : ℕ → Type 0} → Same S S' → Same T T' → Same (λ g. S g ⊎ T g) (λ g. S' g ⊎ T' g)
union_same f h g = (λ x. elim x [ inl y ↦ inl ((f g).0 y) | inr y ↦ inr ((h g).0 y) ], λ x. elim x [ inl y ↦ inl ((f g).1 y) | inr y ↦ inr ((h g).1 y) ])

union_left : {i : ℕ} {S S' T T' : ℕ → Type 0} → Adds i S S' → Same T T' → Adds i (λ g. S g ⊎ T g) (λ g. S' g ⊎ T' g)
union_left a h = record {
  member = inl a.member;
  keeps = λ g x. elim x [ inl y ↦ inl (a.keeps g y) | inr y ↦ inr ((h g).0 y) ];
  others = λ g n x. elim x [ inl y ↦ inl (a.others g n y) | inr y ↦ inr ((h g).1 y) ];
}

union_right : {i : ℕ} {S S' T T' : ℕ → Type 0} → Same S S' → Adds i T T' → Adds i (λ g. S g ⊎ T g) (λ g. S' g ⊎ T' g)
union_right h a = record {
  member = inr a.member;
  keeps = λ g x. elim x [ inl y ↦ inl ((h g).0 y) | inr y ↦ inr (a.keeps g y) ];
  others = λ g n x. elim x [ inl y ↦ inl ((h g).1 y) | inr y ↦ inr (a.others g n y) ];
}

-- the sets of one more access that changes neither
module _ (γ π : ℕ → ℕ) (n c : ℕ) (e : Access) (l : Log) (w : Same (W γ c l) (W γ c (e ∷ l))) (x : Same (E γ c l) (E γ c (e ∷ l))) where
  mark4_same : {b : Bool} → (b ≡ true) ↔ Mark4 γ c l → (b ≡ true) ↔ Mark4 γ c (e ∷ l)
  mark4_same h = (λ q. let r = h.0 q in (r.0, (x r.0).0 r.1, (w r.0).0 r.2), λ (g, y, z). h.1 (g, (x g).1 y, (w g).1 z))

  pub judged_same : {r : Row} → Judged γ π n c l r → Judged γ π n c (e ∷ l) r
  judged_same j = record {
    wrote = stamp_same π w j.wrote;
    exposed = stamp_same π x j.exposed;
    writers = size_same w j.writers;
    met = size_same (union_same w x) j.met;
    recorded = record { lowest = lowest_same w j.recorded.lowest; highest = highest_same x j.recorded.highest };
    crossed = mark4_same j.crossed;
  }

module _ (γ π : ℕ → ℕ) (op : Operation) (n c : ℕ) (l : Log) (i : ℕ) (v : ℤ) (r : Row) (low : γ i < n) (late : Latest γ π (γ i) l)
    (j : Judged γ π n c l r) where
  abbrev g : ℕ
  g = γ i

  abbrev o : Own
  o = r.own (π g)

  wrote_yes : o.wrote ≡ suc g → W γ c l g
  wrote_yes e = (j.wrote.down (π g) g e).1

  wrote_no : o.wrote ≢ suc g → ¬ W γ c l g
  wrote_no m x = m (stamp_has π j.wrote (latest_tops γ π (Has writes c) has_nil g l late) x)

  exposed_yes : o.exposed ≡ suc g → E γ c l g
  exposed_yes e = (j.exposed.down (π g) g e).1

  exposed_no : o.exposed ≢ suc g → ¬ E γ c l g
  exposed_no m x = m (stamp_has π j.exposed (latest_tops γ π (Exposed c) exposed_nil g l late) x)

  -- one more group met, or not
  newcomer_right : (e : Access) → Adds g (M γ c l) (M γ c (e ∷ l)) → Size (M γ c (e ∷ l)) n (newcomer g o r.met)
  newcomer_right e a = elim (ℕ_discrete o.wrote (suc g)) [
    | yes p ↦ rw (pick_same p r.met _) (size_same (adds_same a (inl (wrote_yes p))) j.met)
    | no p ↦ rw (pick_other p r.met _) (elim (ℕ_discrete o.exposed (suc g)) [
      | yes q ↦ rw (pick_same q r.met _) (size_same (adds_same a (inr (exposed_yes q))) j.met)
      | no q ↦ rw (pick_other q r.met _) (size_add a (λ x. elim x [ inl y ↦ wrote_no p y | inr y ↦ exposed_no q y ]) low j.met)
    ])
  ]

  -- a read
  read_keeps_W : Same (W γ c l) (W γ c (access reads i c v ∷ l))
  read_keeps_W = same_of γ (access reads i c v) l (Has writes c) (has_leaves c writes (only γ (γ i) l) (λ x. apart_rw x.0))

  read_adds_E : ¬ W γ c l g → Adds g (E γ c l) (E γ c (access reads i c v ∷ l))
  read_adds_E m = adds_of γ (access reads i c v) l (Exposed c) earlier (first m)

  read_keeps_E : W γ c l g → Same (E γ c l) (E γ c (access reads i c v ∷ l))
  read_keeps_E w = same_of γ (access reads i c v) l (Exposed c) (exposed_leaves c (only γ (γ i) l) (λ x. x.1.1 w))

  read_exposed : Stamp π (E γ c (access reads i c v ∷ l)) (λ p. (put r.own (π g) (kept op reads g i v o) p).exposed)
  read_exposed = elim (ℕ_discrete o.wrote (suc g)) [
    | yes p ↦ stamp_keep π (λ (a : Own). a.exposed) r.own (read_keeps_E (wrote_yes p)) (pick_same p o.exposed (suc g)) j.exposed
    | no p ↦ stamp_put π (λ (a : Own). a.exposed) r.own (read_adds_E (wrote_no p)) (latest_tops γ π (Exposed c) exposed_nil g l late)
        (pick_other p o.exposed (suc g)) j.exposed
  ]

  read_crossed : (r.crossed ≡ true) ↔ Mark4 γ c (access reads i c v ∷ l)
  read_crossed = elim (ℕ_discrete o.wrote (suc g)) [
    | yes p ↦ mark4_same γ π n c (access reads i c v) l read_keeps_W (read_keeps_E (wrote_yes p)) j.crossed
    | no p ↦ (
      λ q. let m = j.crossed.0 q in (m.0, (read_adds_E (wrote_no p)).keeps m.0 m.1, (read_keeps_W m.0).0 m.2),
      λ (h, y, z). let w = (read_keeps_W h).1 z in j.crossed.1 (h, (read_adds_E (wrote_no p)).others h (λ (q : h ≡ g). wrote_no p (subst (W γ c l) q w)) y, w),
    )
  ]

  read_met : Size (M γ c (access reads i c v ∷ l)) n (newcomer g o r.met)
  read_met = elim (ℕ_discrete o.wrote (suc g)) [
    | yes p ↦ rw (pick_same p r.met _) (size_same (union_same read_keeps_W (read_keeps_E (wrote_yes p))) j.met)
    | no p ↦ newcomer_right (access reads i c v) (union_right read_keeps_W (read_adds_E (wrote_no p)))
  ]

  read_highest : Highest (E γ c (access reads i c v ∷ l)) (pick o.wrote (suc g) r.highest (max (suc g) r.highest))
  read_highest = elim (ℕ_discrete o.wrote (suc g)) [
    | yes p ↦ rw (pick_same p r.highest (max (suc g) r.highest)) (highest_same (read_keeps_E (wrote_yes p)) j.recorded.highest)
    | no p ↦ rw (pick_other p r.highest (max (suc g) r.highest)) (highest_add (read_adds_E (wrote_no p)) j.recorded.highest)
  ]

  judged_read : Judged γ π n c (access reads i c v ∷ l) (noted op reads (π (γ i)) (γ i) i v r)
  judged_read = record {
    wrote = stamp_keep π (λ (a : Own). a.wrote) r.own read_keeps_W refl j.wrote;
    exposed = read_exposed;
    writers = size_same read_keeps_W j.writers;
    met = read_met;
    recorded = record { lowest = lowest_same read_keeps_W j.recorded.lowest; highest = read_highest };
    crossed = read_crossed;
  }

  -- a write
  write_adds_W : Adds g (W γ c l) (W γ c (access writes i c v ∷ l))
  write_adds_W = adds_of γ (access writes i c v) l (Has writes c) older newest

  write_keeps_E : Same (E γ c l) (E γ c (access writes i c v ∷ l))
  write_keeps_E = same_of γ (access writes i c v) l (Exposed c) (exposed_leaves c (only γ (γ i) l) (λ x. apart_wr x.0))

  write_writers : Size (W γ c (access writes i c v ∷ l)) n (pick o.wrote (suc g) r.writers (suc r.writers))
  write_writers = elim (ℕ_discrete o.wrote (suc g)) [
    | yes p ↦ rw (pick_same p r.writers (suc r.writers)) (size_same (adds_same write_adds_W (wrote_yes p)) j.writers)
    | no p ↦ rw (pick_other p r.writers (suc r.writers)) (size_add write_adds_W (wrote_no p) low j.writers)
  ]

  write_lowest : Lowest (W γ c (access writes i c v ∷ l)) (pick o.wrote (suc g) r.lowest (lower (suc g) r.lowest))
  write_lowest = elim (ℕ_discrete o.wrote (suc g)) [
    | yes p ↦ rw (pick_same p r.lowest (lower (suc g) r.lowest)) (lowest_same (adds_same write_adds_W (wrote_yes p)) j.recorded.lowest)
    | no p ↦ rw (pick_other p r.lowest (lower (suc g) r.lowest)) (lowest_add write_adds_W j.recorded.lowest)
  ]

  write_crossed : (pick o.exposed (suc g) true r.crossed ≡ true) ↔ Mark4 γ c (access writes i c v ∷ l)
  write_crossed = elim (ℕ_discrete o.exposed (suc g)) [
    | yes p ↦ (λ q. (g, (write_keeps_E g).0 (exposed_yes p), write_adds_W.member), λ x. pick_same p true r.crossed)
    | no p ↦ rw (pick_other p true r.crossed) (
      λ q. let m = j.crossed.0 q in (m.0, (write_keeps_E m.0).0 m.1, write_adds_W.keeps m.0 m.2),
      λ (h, y, z). let x = (write_keeps_E h).1 y in j.crossed.1 (h, x, write_adds_W.others h (λ (q : h ≡ g). exposed_no p (subst (E γ c l) q x)) z),
    )
  ]

  judged_write : Judged γ π n c (access writes i c v ∷ l) (noted op writes (π (γ i)) (γ i) i v r)
  judged_write = record {
    wrote = stamp_put π (λ (a : Own). a.wrote) r.own write_adds_W (latest_tops γ π (Has writes c) has_nil g l late) refl j.wrote;
    exposed = stamp_keep π (λ (a : Own). a.exposed) r.own write_keeps_E refl j.exposed;
    writers = write_writers;
    met = newcomer_right (access writes i c v) (union_left write_adds_W write_keeps_E);
    recorded = record { lowest = write_lowest; highest = highest_same write_keeps_E j.recorded.highest };
    crossed = write_crossed;
  }

  -- an update
  update_keeps_W : Same (W γ c l) (W γ c (access updates i c v ∷ l))
  update_keeps_W = same_of γ (access updates i c v) l (Has writes c) (has_leaves c writes (only γ (γ i) l) (λ x. apart_uw x.0))

  update_keeps_E : Same (E γ c l) (E γ c (access updates i c v ∷ l))
  update_keeps_E = same_of γ (access updates i c v) l (Exposed c) (exposed_leaves c (only γ (γ i) l) (λ x. apart_ur x.0))

  judged_update : Judged γ π n c (access updates i c v ∷ l) (noted op updates (π (γ i)) (γ i) i v r)
  judged_update = record {
    wrote = stamp_keep π (λ (a : Own). a.wrote) r.own update_keeps_W refl j.wrote;
    exposed = stamp_keep π (λ (a : Own). a.exposed) r.own update_keeps_E refl j.exposed;
    writers = size_same update_keeps_W j.writers;
    met = size_same (union_same update_keeps_W update_keeps_E) j.met;
    recorded = record { lowest = lowest_same update_keeps_W j.recorded.lowest; highest = highest_same update_keeps_E j.recorded.highest };
    crossed = mark4_same γ π n c (access updates i c v) l update_keeps_W update_keeps_E j.crossed;
  }

  pub judged_noted : (k : Kind) → Judged γ π n c (access k i c v ∷ l) (noted op k (π (γ i)) (γ i) i v r)
  judged_noted reads = judged_read
  judged_noted writes = judged_write
  judged_noted updates = judged_update
