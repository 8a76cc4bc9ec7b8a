-- The serial run is a run in the sense of `Runs`, in the order of the iterations.
use mathlib.Core.Path.{◌≡◌, refl, sym, ◌∙◌, ap, subst}
use mathlib.Core.Logic.{◌≢◌, ◌⊎◌, inl, inr}
use mathlib.Core.List.{[], ◌∷◌}
use mathlib.Core.Option.{Option, none, some, get_or}
use Prim.Native.Nat.{ℕ, zero, suc, ◌+◌, ◌≤◌, ◌<◌}
use native.Mathlib.Decide.{ℕ_discrete, dec_lt}
use native.Mathlib.Omega.{arith}
use lib.IntN.{ℤ}
use Rattle.rules.specs.Choose.{pick, put}
use Rattle.rules.specs.ChooseLaws.{pick_same, pick_other, put_same, put_other}
use Rattle.rules.specs.declared.Class.{Class}
use Rattle.rules.specs.declared.Class.TheVariants.{Shared as shared, Lastprivate as lastprivate, Copied as copied, Reduction as reduction}
use Rattle.rules.specs.Loop.{Act, read, write, update, fault, done, Reduces, Loop, joining, Partition}
use Rattle.rules.specs.Log.{reads, writes, updates, Access, access, iteration, Log, only, each, written, Has, newest, older, first, Ordinary, a_read}
use Rattle.rules.specs.LogLaws.{only_same, only_other, only_nil, written_newest, written_none, written_only_leaving, some_or_none, Writing, writing, leaving, writing?, has_only, has_nil, has_more, extends_only, own_or_other}
use Rattle.rules.specs.Obstacles.{ObstacleAt, Late}
use Rattle.rules.proofs.ObstacleLaws.{obstructed_more, stale_of_late, obstacle_of_mixed}
use Rattle.rules.specs.Steps.{latest, opening}
use Rattle.rules.proofs.Isolated.{finish, finish_sums}
use Rattle.rules.proofs.Runs.{Moved, Agree, Status, Allowed, inside_extends, step_read, step_write, step_update}
use Rattle.rules.proofs.Job.{Job, failing, idle, before, span, job}
use Rattle.rules.proofs.Progress.{left, left_before, left_at, left_other, left_next, left_begun, group_holds, cuts_grow}
use Rattle.rules.specs.Proper.{Proper}
use Rattle.rules.proofs.ProperLaws.{sums_chain}
use Rattle.rules.specs.Serial.{finished, failed, Result, along, from, serial}

module _ (γ : ℕ → ℕ) where
  -- no group after i has an access in g
  abbrev pub Upto : ℕ → Log → Type 0
  Upto i g = (j : ℕ) → i < j → only γ j g ≡ []

  -- accesses in the order of their groups
  pub data Sorted : Log → Type 0 where
    sorted_nil : Sorted []
    sorted_cons : {e : Access} {g : Log} → Upto (γ (iteration e)) g → Sorted g → Sorted (e ∷ g)

  upto_tail : (i : ℕ) (e : Access) (g : Log) → Upto i (e ∷ g) → Upto i g
  upto_tail i e g u j h = (only_nil γ j e g (u j h)).1

  -- in the order of the groups, what i wrote last is what was written last, as long as none comes after i
  sorted_own : (c i : ℕ) (v : ℤ) {g : Log} → Sorted g → Upto i g → written c (only γ i g) ≡ some v → written c g ≡ some v
  unfolding only written
  sorted_own c i v sorted_nil u h = h
  sorted_own c i v (sorted_cons {e = e} {g = g} t s) u h = elim (ℕ_discrete (γ (iteration e)) i) [
    | yes p ↦ same e (writing? c e) p h (sorted_own c i v s (upto_tail i e g u))
    | no n ↦ absurd (some_or_none h (ap (written c) (only_other γ e n g ∙ t i (before n))))
  ]
    where
      before : γ (iteration e) ≢ i → γ (iteration e) < i
      before n = elim (dec_lt i (γ (iteration e))) [ yes y ↦ absurd ((only_nil γ (γ (iteration e)) e g (u (γ (iteration e)) y)).0 refl) | no y ↦ omega arith ]

      same : (e : Access) → Writing c e → γ (iteration e) ≡ i → written c (only γ i (e ∷ g)) ≡ some v
          → (written c (only γ i g) ≡ some v → written c g ≡ some v) → written c (e ∷ g) ≡ some v
      same e (writing {i = j} {v = x}) p q ih =
          written_newest c j x g ∙ sym (written_newest c j x (only γ i g)) ∙ rw (only_same γ (access writes j c x) p g) at q
      same e (leaving k) p q ih = k g ∙ ih (sym (written_only_leaving γ c i e g k) ∙ q)

module _ (l : Loop) where
  -- the cell c after the accesses of g, in place
  unfoldable pub replay : ℕ → Log → ℤ
  replay c [] = l.entry c
  replay c (access reads i d v ∷ g) = replay c g
  replay c (access writes i d v ∷ g) = pick d c v (replay c g)
  replay c (access updates i d v ∷ g) = pick d c ((joining l c).join (replay c g) v) (replay c g)

  -- a cell that was not updated holds the last value written
  pub replay_latest : (c : ℕ) (g : Log) → (replay c g ≡ latest l c g) ⊎ Has updates c g
  unfolding replay written
  replay_latest c [] = inl refl
  replay_latest c (access reads i d v ∷ g) = elim (replay_latest c g) [ inl h ↦ inl h | inr h ↦ inr (older h) ]
  replay_latest c (access writes i d v ∷ g) = elim (ℕ_discrete d c) [
    | yes p ↦ inl (rw (pick_same p v (replay c g), pick_same p (some v) (written c g)))
    | no p ↦ elim (replay_latest c g) [ inl h ↦ inl (rw (pick_other p v (replay c g), pick_other p (some v) (written c g)) h) | inr h ↦ inr (older h) ]
  ]
  replay_latest c (access updates i d v ∷ g) = elim (ℕ_discrete d c) [
    | yes p ↦ inr (rw p newest)
    | no p ↦ elim (replay_latest c g) [ inl h ↦ inl (rw (pick_other p ((joining l c).join (replay c g) v) (replay c g)) h) | inr h ↦ inr (older h) ]
  ]

module _ (l : Loop) (δ : Partition) where
  -- only reduction cells are updated in a run that agrees with the groups by themselves
  pub updated_is_reduction : Proper l δ → (g : Log) (w : ℕ → Job) → Agree l δ g w → (c j : ℕ) → Has updates c (only δ.group j g) → Reduces (l.class c)
  updated_is_reduction h g w ag c j x = finish_sums l (job l δ j) [] (sums_chain l δ h _ (δ.cut j)) (λ d y. absurd (has_nil y)) c
      (has_more (inside_extends l δ g w ag j) x)

  module _ (h : Proper l δ) (g : Log) (w : ℕ → Job) (ag : Agree l δ g w) (i c : ℕ) (t : Sorted δ.group g) (u : Upto δ.group (δ.group i) g) where
    -- a read in place gives what the group would read by itself, or is an obstacle
    allowed : Allowed l δ g i c (replay l c g)
    allowed = elim (replay_latest l c g) [
      | inr x ↦ mixed (has_only γ x)
      | inl q ↦ elim (own_or_other γ c (γ i) g) [ inl r ↦ inl (q ∙ ap value r) | inr o ↦ foreign q o (l.class c) refl ]
    ]
      where
        γ : ℕ → ℕ
        γ = δ.group

        value : Option ℤ → ℤ
        value o = get_or o (l.entry c)

        log' : ℤ → ℕ → Log
        log' y j = only γ j (access reads i c y ∷ g)

        read_there : (y : ℤ) → Ordinary c (log' y (γ i))
        read_there y = a_read (rw (only_same γ (access reads i c y) refl g) newest)

        mixed : (j : ℕ) × Has updates c (only γ j g) → Allowed l δ g i c (replay l c g)
        mixed (j, x) = inr (λ y. (
          c,
          obstacle_of_mixed (l.class c) (updated_is_reduction h g w ag c j x)
              (j, γ i, has_more (extends_only γ j (access reads i c y) g) x, read_there y),
        ))

        -- a group that wrote c is a lower one
        lower : (j : ℕ) → j ≢ γ i → Has writes c (only γ j g) → j < γ i
        lower j n x = elim (dec_lt j (γ i)) [ yes y ↦ y | no y ↦ absurd (has_nil (rw (u j (omega arith)) at x)) ]

        late : replay l c g ≡ latest l c g → (j : ℕ) × (j ≢ γ i) × Has writes c (only γ j g) → (o : Option ℤ) → written c (only γ (γ i) g) ≡ o
            → (replay l c g ≡ latest l c (only γ (γ i) g)) ⊎ ((y : ℤ) → Late (log' y) c)
        late q (j, n, x) none e = inr (λ y. (
          j,
          γ i,
          omega (arith, lower j n x),
          has_more (extends_only γ j (access reads i c y) g) x,
          rw (only_same γ (access reads i c y) refl g) (first (λ z. written_none c z e)),
        ))
        late q (j, n, x) (some v) e = inl (q ∙ ap value (sorted_own γ c (γ i) v t u e ∙ sym e))

        foreign : replay l c g ≡ latest l c g → (j : ℕ) × (j ≢ γ i) × Has writes c (only γ j g) → (k : Class) → l.class c ≡ k
            → Allowed l δ g i c (replay l c g)
        foreign q (j, n, x) shared e = inr (λ y. (
          c,
          subst (λ (k : Class). ObstacleAt k (log' y) c) (sym e) (j, γ i, n, has_more (extends_only γ j (access reads i c y) g) x, read_there y),
        ))
        foreign q o lastprivate e = elim (late q o (written c (only γ (γ i) g)) refl) [
          | inl r ↦ inl r
          | inr f ↦ inr (λ y. (c, subst (λ (k : Class). ObstacleAt k (log' y) c) (sym e) (stale_of_late (f y))))
        ]
        foreign q o copied e = elim (late q o (written c (only γ (γ i) g)) refl) [
          | inl r ↦ inl r
          | inr f ↦ inr (λ y. (c, subst (λ (k : Class). ObstacleAt k (log' y) c) (sym e) (f y)))
        ]
        foreign q o (reduction p) e = elim (late q o (written c (only γ (γ i) g)) refl) [
          | inl r ↦ inl r
          | inr f ↦ inr (λ y. (c, subst (λ (k : Class). ObstacleAt k (log' y) c) (sym e) (inl (stale_of_late (f y)))))
        ]

  -- in the midst of iteration i, of which a is left
  record During (i : ℕ) (a : Act) (m : ℕ → ℤ) (g : Log) : Type 0 where
    status : Status l δ g (left l δ (record { at = i; act = a }))
    memory : (c : ℕ) → m c ≡ replay l c g
    sorted : Sorted δ.group g
    upto : (j : ℕ) → i < δ.cut j → only δ.group j g ≡ []
    in_order : Sorted (λ j. j) g
    future : Upto (λ j. j) i g

  -- how a serial run ends
  pub record Ends (r : Result) : Type 0 where
    pub work : ℕ → Job
    pub status : Status l δ r.log work
    pub memory : (c : ℕ) → r.cells c ≡ replay l c r.log
    pub sorted : Sorted δ.group r.log
    pub in_order : Sorted (λ j. j) r.log
    pub within : (j : ℕ) → l.iterations ≤ j → each j r.log ≡ []
    pub how : ((r.outcome ≡ finished) × ((j : ℕ) → work j ≡ idle))
        ⊎ ((n : ℕ) × (t : ℕ) × (i : ℕ) × (r.outcome ≡ failed n t i) × (work (δ.group i) ≡ failing i n t))

  module _ (h : Proper l δ) where
    module _ (i : ℕ) (lt : i < l.iterations) where
      -- what comes after the iteration in its group
      abbrev after : Job
      after = span l (suc i) (δ.cut (suc (δ.group i)))

      here : (a : Act) → left l δ (record { at = i; act = a }) (δ.group i) ≡ before i a after
      here a = let r = group_holds l δ h i lt in left_at l δ (record { at = i; act = a }) (δ.group i) r.0 r.1

      goes : (a b : Act) → Moved (left l δ (record { at = i; act = a })) (δ.group i) (before i b after) (left l δ (record { at = i; act = b }))
      goes a b = record { there = here b; elsewhere = λ j n. left_other l δ h i b a j n }

      module _ (g : Log) (u : (j : ℕ) → i < δ.cut j → only δ.group j g ≡ []) where
        behind : Upto δ.group (δ.group i) g
        behind j b = u j (omega (arith, (group_holds l δ h i lt).1, cuts_grow l δ h (suc (δ.group i)) j b))

        upto_cons : (e : Access) → iteration e ≡ i → (j : ℕ) → i < δ.cut j → only δ.group j (e ∷ g) ≡ []
        upto_cons e p j b =
            only_other δ.group e
            (λ (q : δ.group (iteration e) ≡ j). omega (arith, (group_holds l δ h i lt).0, ap δ.cut (sym (ap δ.group p) ∙ q))) g
            ∙ u j b

    future_cons : (i : ℕ) (g : Log) → Upto (λ j. j) i g → (e : Access) → iteration e ≡ i → Upto (λ j. j) i (e ∷ g)
    future_cons i g u e p j b = only_other (λ k. k) e (omega arith) g ∙ u j b

    allowed_during : (i c : ℕ) (k : ℤ → Act) (m : ℕ → ℤ) (g : Log) → i < l.iterations → During i (read c k) m g → Allowed l δ g i c (m c)
    allowed_during i c k m g lt d = elim d.status [
      | inl ag ↦ rw (d.memory c) (allowed h g (left l δ (record { at = i; act = read c k })) ag i c d.sorted (behind i lt g d.upto))
      | inr o ↦ inr (λ y. obstructed_more l δ.group (access reads i c y) g o.0)
    ]

    along_ends : (i : ℕ) → i < l.iterations → (a : Act) (m : ℕ → ℤ) (g : Log) (next : (ℕ → ℤ) → Log → Result) → During i a m g
        → ((m' : ℕ → ℤ) (g' : Log) → During (suc i) (l.body (suc i)) m' g' → ((j : ℕ) → suc i ≤ j → each j g' ≡ []) → Ends (next m' g'))
        → Ends (along l i a m g next)
    unfolding along replay before
    along_ends i lt (read c k) m g next d f = along_ends i lt (k (m c)) m (access reads i c (m c) ∷ g) next (record {
      status = step_read l δ g (left l δ (record { at = i; act = read c k })) (left l δ (record { at = i; act = k (m c) })) i c
          (λ x. before i (k x) (after i lt)) (m c) (here i lt (read c k)) (goes i lt (read c k) (k (m c))) (allowed_during i c k m g lt d)
          d.status;
      memory = d.memory;
      sorted = sorted_cons (behind i lt g d.upto) d.sorted;
      upto = upto_cons i lt g d.upto (access reads i c (m c)) refl;
      in_order = sorted_cons d.future d.in_order;
      future = future_cons i g d.future (access reads i c (m c)) refl;
    }) f
    along_ends i lt (write c v a) m g next d f = along_ends i lt a (put m c v) (access writes i c v ∷ g) next (record {
      status = step_write l δ g (left l δ (record { at = i; act = write c v a })) (left l δ (record { at = i; act = a })) i c v
          (before i a (after i lt)) (here i lt (write c v a)) (goes i lt (write c v a) a) d.status;
      memory = λ e. elim (ℕ_discrete c e) [
        | yes p ↦ put_same p m v ∙ sym (pick_same p v (replay l e g))
        | no p ↦ put_other p m v ∙ d.memory e ∙ sym (pick_other p v (replay l e g))
      ];
      sorted = sorted_cons (behind i lt g d.upto) d.sorted;
      upto = upto_cons i lt g d.upto (access writes i c v) refl;
      in_order = sorted_cons d.future d.in_order;
      future = future_cons i g d.future (access writes i c v) refl;
    }) f
    along_ends i lt (update c v a) m g next d f = along_ends i lt a (put m c ((joining l c).join (m c) v)) (access updates i c v ∷ g) next (record {
      status = step_update l δ g (left l δ (record { at = i; act = update c v a })) (left l δ (record { at = i; act = a })) i c v
          (before i a (after i lt)) (here i lt (update c v a)) (goes i lt (update c v a) a) d.status;
      memory = λ e. elim (ℕ_discrete c e) [
        | yes p ↦
            put_same p m ((joining l c).join (m c) v) ∙ ap (λ (x : ℕ). (joining l x).join (m x) v) p
            ∙ ap (λ (x : ℤ). (joining l e).join x v) (d.memory e) ∙ sym (pick_same p ((joining l e).join (replay l e g) v) (replay l e g))
        | no p ↦ put_other p m ((joining l c).join (m c) v) ∙ d.memory e ∙ sym (pick_other p ((joining l e).join (replay l e g) v) (replay l e g))
      ];
      sorted = sorted_cons (behind i lt g d.upto) d.sorted;
      upto = upto_cons i lt g d.upto (access updates i c v) refl;
      in_order = sorted_cons d.future d.in_order;
      future = future_cons i g d.future (access updates i c v) refl;
    }) f
    along_ends i lt (fault n t) m g next d f = record {
      work = left l δ (record { at = i; act = fault n t });
      status = d.status;
      memory = d.memory;
      sorted = d.sorted;
      in_order = d.in_order;
      within = λ j b. d.future j (omega arith);
      how = inr (n, t, i, refl, here i lt (fault n t));
    }
    along_ends i lt done m g next d f = f m g (record {
      status = subst (Status l δ g) (left_next l δ h i) d.status;
      memory = d.memory;
      sorted = d.sorted;
      upto = λ j x. d.upto j (omega arith);
      in_order = d.in_order;
      future = λ j x. d.future j (omega arith);
    }) (λ j x. d.future j x)

    cut_within : (g : ℕ) → δ.cut g ≤ l.iterations
    cut_within g = elim (dec_lt g δ.groups) [
      | yes y ↦ omega (arith, cuts_grow l δ h g δ.groups (omega arith), h.cut_last δ.groups (omega arith))
      | no y ↦ omega (arith, h.cut_last g (omega arith))
    ]

    from_ends : (k i : ℕ) (m : ℕ → ℤ) (g : Log) → i + k ≡ l.iterations → During i (l.body i) m g → ((j : ℕ) → i ≤ j → each j g ≡ []) → Ends (from l k i m g)
    unfolding from
    from_ends zero i m g e d f = record {
      work = left l δ (opening l i);
      status = d.status;
      memory = d.memory;
      sorted = d.sorted;
      in_order = d.in_order;
      within = λ j b. f j (omega arith);
      how = inl (refl, λ j. left_before l δ h (opening l i) j (omega (arith, cut_within (suc j))));
    }
    from_ends (suc k) i m g e d f = along_ends i (omega arith) (l.body i) m g (from l k (suc i)) d
        (λ m' g' d' f'. from_ends k (suc i) m' g' (omega arith) d' f')

    pub serial_ends : Ends (serial l)
    unfolding serial only replay
    serial_ends = from_ends l.iterations 0 l.entry [] (omega arith) (record {
      status = inl (λ j. ap (λ (a : Job). finish l a []) (left_begun l δ h 0 j (omega arith)));
      memory = λ c. refl;
      sorted = sorted_nil;
      upto = λ j x. refl;
      in_order = sorted_nil;
      future = λ j x. refl;
    }) (λ j x. refl)
