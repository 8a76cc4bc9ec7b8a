-- The trial is a run in the sense of `Runs`: its invariant, step by step.
use mathlib.Core.Path.{◌≡◌, refl, sym, ◌∙◌, ap, subst, fun_ext}
use mathlib.Core.Logic.{◌≢◌, ◌⊎◌, inl, inr}
use mathlib.Core.List.{List, [], ◌∷◌}
use mathlib.Core.Option.{Option, some, get_or}
use Prim.Native.Nat.{ℕ, zero, suc, ◌≤◌, ◌<◌}
use native.Mathlib.Decide.{ℕ_discrete, dec_lt, dec_le}
use native.Mathlib.Omega.{arith}
use lib.IntN.{ℤ}
use Rattle.rules.specs.ChooseLaws.{pick_same, pick_other, put_same, put_other, below_yes, below_no}
use Rattle.rules.specs.Choose.{put}
use Rattle.rules.specs.declared.Class.{Class}
use Rattle.rules.specs.declared.Class.TheVariants.{Shared as shared, Lastprivate as lastprivate, Copied as copied, Reduction as reduction}
use Rattle.rules.specs.Loop.{Act, read, write, update, fault, done, Loop, bound, Partition}
use Rattle.rules.specs.Log.{reads, writes, access, Log, only, written, Has, newest, a_read}
use Rattle.rules.specs.LogLaws.{only_same, has_more, extends_only, own_or_other}
use Rattle.rules.specs.Obstacles.{ObstacleAt}
use Rattle.rules.proofs.Job.{Job, before, span}
use Rattle.rules.specs.Steps.{latest, State, given, stored, go_on, step, steps, through, through_all, run_out, run_on, start, trial, Place, opening}
use Rattle.rules.proofs.Isolated.{finish}
use Rattle.rules.proofs.Runs.{Moved, Status, Allowed, step_read, step_write, step_update}
use Rattle.rules.proofs.Progress.{within, left, left_at, left_other, left_next, left_begun, group_holds, owner_is, owner_from, bounds_grow, cuts_grow}
use Rattle.rules.specs.Owner.{whose}
use Rattle.rules.specs.Proper.{Proper}

module _ (l : Loop) (δ : Partition) where
  -- what is left of group g
  abbrev pub rest : State → ℕ → Job
  rest s g = left l δ (s.places (whose δ g)) g

  pub record Invariant (s : State) : Type 0 where
    pub status : Status l δ s.log (rest s)
    pub memory : (c : ℕ) → l.class c ≡ shared → s.cells c ≡ latest l c s.log
    pub placed : (p : ℕ) → bound δ p ≤ (s.places p).at
    pub quiet : s.places δ.processors ≡ opening l (bound δ δ.processors)

  rest_kept : (f : ℕ → Place) (w : Place) (p j : ℕ) → left l δ w j ≡ left l δ (f p) j → left l δ (put f p w (whose δ j)) j ≡ left l δ (f (whose δ j)) j
  rest_kept f w p j h = elim (ℕ_discrete p (whose δ j)) [
    | yes e ↦ ap (λ (u : Place). left l δ u j) (put_same e f w) ∙ subst (λ (q : ℕ). left l δ w j ≡ left l δ (f q) j) e h
    | no n ↦ ap (λ (u : Place). left l δ u j) (put_other n f w)
  ]

  -- a read of a cell gives what the iteration would read by itself, or is an obstacle
  allowed : (s : State) (i c : ℕ) → ((d : ℕ) → l.class d ≡ shared → s.cells d ≡ latest l d s.log) → (k : Class) → l.class c ≡ k
      → Allowed l δ s.log i c (given l δ k s i c)
  allowed s i c m lastprivate e = inl refl
  allowed s i c m copied e = inl refl
  allowed s i c m (reduction o) e = inl refl
  allowed s i c m shared e = go (own_or_other γ c (γ i) s.log)
    where
      γ : ℕ → ℕ
      γ = δ.group

      go : (written c s.log ≡ written c (only γ (γ i) s.log)) ⊎ ((j : ℕ) × (j ≢ γ i) × Has writes c (only γ j s.log))
          → Allowed l δ s.log i c (s.cells c)
      go (inl q) = inl (m c e ∙ ap (λ (o : Option ℤ). get_or o (l.entry c)) q)
      go (inr (j, n, w)) = inr (λ y. (
        c,
        subst (λ (k : Class). ObstacleAt k (λ i'. only γ i' (access reads i c y ∷ s.log)) c) (sym e)
            (j, γ i, n, has_more (extends_only γ j (access reads i c y) s.log) w, a_read (rw (only_same γ (access reads i c y) refl s.log) newest)),
      ))

  -- a write keeps the shared cells at the last values written
  stored_latest : (m : ℕ → ℤ) (g : Log) (i c : ℕ) (v : ℤ) → ((d : ℕ) → l.class d ≡ shared → m d ≡ latest l d g) → (k : Class) → l.class c ≡ k
      → (d : ℕ) → l.class d ≡ shared → stored k m c v d ≡ latest l d (access writes i c v ∷ g)
  unfolding written
  stored_latest m g i c v h shared e d f = elim (ℕ_discrete c d) [
    | yes p ↦ put_same p m v ∙ sym (ap (λ (o : Option ℤ). get_or o (l.entry d)) (pick_same p (some v) (written d g)))
    | no p ↦ put_other p m v ∙ h d f ∙ sym (ap (λ (o : Option ℤ). get_or o (l.entry d)) (pick_other p (some v) (written d g)))
  ]
  stored_latest m g i c v h lastprivate e d f =
      h d f
      ∙ sym (ap (λ (o : Option ℤ). get_or o (l.entry d))
      (pick_other (λ (p : c ≡ d). let z : ◌≡◌ {A = ℕ} 0 1 = cc (ap l.class p) in omega arith) (some v) (written d g)))
  stored_latest m g i c v h copied e d f =
      h d f
      ∙ sym (ap (λ (o : Option ℤ). get_or o (l.entry d))
      (pick_other (λ (p : c ≡ d). let z : ◌≡◌ {A = ℕ} 0 1 = cc (ap l.class p) in omega arith) (some v) (written d g)))
  stored_latest m g i c v h (reduction q) e d f =
      h d f
      ∙ sym (ap (λ (o : Option ℤ). get_or o (l.entry d))
      (pick_other (λ (p : c ≡ d). let z : ◌≡◌ {A = ℕ} 0 1 = cc (ap l.class p) in omega arith) (some v) (written d g)))

  module _ (h : Proper l δ) where
    share_within : (p : ℕ) → δ.share p ≤ δ.groups
    share_within p = elim (dec_le p δ.processors) [
      | yes y ↦ omega (arith, bounds_grow δ.share h.share_grows p δ.processors y, h.share_last δ.processors (omega arith))
      | no y ↦ omega (arith, h.share_last p (omega arith))
    ]

    -- an iteration in the block of p lies in its group, and p has that group
    pub record Home (p i : ℕ) : Type 0 where
      pub inside : i < l.iterations
      pub from : δ.cut (δ.group i) ≤ i
      pub to : i < δ.cut (suc (δ.group i))
      pub owned : whose δ (δ.group i) ≡ p

    pub home : (p i : ℕ) → bound δ p ≤ i → i < bound δ (suc p) → Home p i
    home p i a b =
        let cuts = cuts_grow l δ h in
        let n : i < l.iterations = omega (arith, cuts (δ.share (suc p)) δ.groups (share_within (suc p)), h.cut_last δ.groups (omega arith)) in
        let r = group_holds l δ h i n in
        record {
          inside = n;
          from = r.0;
          to = r.1;
          owned = owner_is δ.share h.share_grows δ.processors (δ.group i) p
              (elim (dec_le (δ.share p) (δ.group i)) [ yes y ↦ y | no y ↦ absurd (omega (arith, cuts (suc (δ.group i)) (δ.share p) (omega arith))) ])
              (elim (dec_lt (δ.group i) (δ.share (suc p))) [ yes y ↦ y | no y ↦ absurd (omega (arith, cuts (δ.share (suc p)) (δ.group i) (omega arith))) ])
              (elim (dec_le p δ.processors) [
                | yes y ↦ y
                | no y ↦ absurd (omega (arith, ap δ.cut (h.share_last p (omega arith)), ap δ.cut (h.share_last (suc p) (omega arith))))
              ]);
        }

    module _ (s : State) (p : ℕ) (inv : Invariant s) (lt : (s.places p).at < bound δ (suc p)) where
      here : Home p (s.places p).at
      here = home p (s.places p).at (inv.placed p) lt

      here_rest : rest s (δ.group (s.places p).at) ≡ within l δ (s.places p) (δ.group (s.places p).at)
      here_rest = rw here.owned (left_at l δ (s.places p) (δ.group (s.places p).at) here.from here.to)

      moves : (a : Act)
          → Moved (rest s) (δ.group (s.places p).at) (within l δ (record { at = (s.places p).at; act = a }) (δ.group (s.places p).at))
          (λ j. left l δ (put s.places p (record { at = (s.places p).at; act = a }) (whose δ j)) j)
      moves a = record {
        there = rw (here.owned, put_same {i = p} refl s.places (record { at = (s.places p).at; act = a }))
            (left_at l δ (record { at = (s.places p).at; act = a }) (δ.group (s.places p).at) here.from here.to);
        elsewhere = λ j n. rest_kept s.places (record { at = (s.places p).at; act = a }) p j (left_other l δ h (s.places p).at a (s.places p).act j n);
      }

      placed_put : (w : Place) → bound δ p ≤ w.at → (q : ℕ) → bound δ q ≤ (put s.places p w q).at
      placed_put w k q = elim (ℕ_discrete p q) [
        | yes e ↦ rw (put_same e s.places w) (subst (λ (x : ℕ). bound δ x ≤ w.at) e k)
        | no n ↦ rw (put_other n s.places w) (inv.placed q)
      ]

      quiet_put : (w : Place) → put s.places p w δ.processors ≡ opening l (bound δ δ.processors)
      quiet_put w =
          put_other
          (λ (e : p ≡ δ.processors). omega (
            arith,
            ap δ.cut (h.share_last p (omega arith)),
            ap δ.cut (h.share_last (suc p) (omega arith)),
            inv.placed p,
          ))
          s.places w
          ∙ inv.quiet

      -- what comes after the iteration in its group
      abbrev after : Job
      after = span l (suc (s.places p).at) (δ.cut (suc (δ.group (s.places p).at)))

      here_act : (a : Act) → (s.places p).act ≡ a → rest s (δ.group (s.places p).at) ≡ before (s.places p).at a after
      here_act a e = here_rest ∙ ap (λ (x : Act). before (s.places p).at x after) e

      go_on_keeps : (a : Act) → (s.places p).act ≡ a → Invariant (go_on l δ p a s)
      unfolding go_on written before
      go_on_keeps (read c k) e = record {
        status = step_read l δ s.log (rest s) (rest (go_on l δ p (read c k) s)) (s.places p).at c (λ x. before (s.places p).at (k x) after)
            (given l δ (l.class c) s (s.places p).at c) (here_act (read c k) e) (moves _)
            (allowed s (s.places p).at c inv.memory (l.class c) refl) inv.status;
        memory = inv.memory;
        placed = placed_put _ (inv.placed p);
        quiet = quiet_put _;
      }
      go_on_keeps (write c v a) e = record {
        status = step_write l δ s.log (rest s) (rest (go_on l δ p (write c v a) s)) (s.places p).at c v (before (s.places p).at a after)
            (here_act (write c v a) e) (moves _) inv.status;
        memory = stored_latest s.cells s.log (s.places p).at c v inv.memory (l.class c) refl;
        placed = placed_put _ (inv.placed p);
        quiet = quiet_put _;
      }
      go_on_keeps (update c v a) e = record {
        status = step_update l δ s.log (rest s) (rest (go_on l δ p (update c v a) s)) (s.places p).at c v (before (s.places p).at a after)
            (here_act (update c v a) e) (moves _) inv.status;
        memory = inv.memory;
        placed = placed_put _ (inv.placed p);
        quiet = quiet_put _;
      }
      go_on_keeps (fault n m) e = inv
      go_on_keeps done e = record {
        status = subst (Status l δ s.log)
            (fun_ext (λ j. sym (rest_kept s.places (opening l (suc (s.places p).at)) p j
            (sym (ap (λ (f : ℕ → Job). f j) (left_next l δ h (s.places p).at))
            ∙ ap (λ (a : Act). left l δ (record { at = (s.places p).at; act = a }) j) (sym e)))))
            inv.status;
        memory = inv.memory;
        placed = placed_put _ (omega (arith, inv.placed p));
        quiet = quiet_put _;
      }

    step_keeps : (p : ℕ) (s : State) → Invariant s → Invariant (step l δ p s)
    unfolding step
    step_keeps p s inv = elim (dec_lt (s.places p).at (bound δ (suc p))) [
      | yes y ↦ rw (below_yes y (go_on l δ p (s.places p).act s) s) (go_on_keeps s p inv y (s.places p).act refl)
      | no y ↦ rw (below_no {i = (s.places p).at} {j = bound δ (suc p)} (omega arith) (go_on l δ p (s.places p).act s) s) inv
    ]

    start_holds : Invariant (start l δ)
    unfolding written only
    start_holds = record {
      status = inl (λ g. ap (λ (a : Job). finish l a [])
          (left_begun l δ h (bound δ (whose δ g)) g
          (bounds_grow δ.cut h.cut_grows (δ.share (whose δ g)) g
          (owner_from δ.share h.share_grows h.share_first δ.processors g))));
      memory = λ c e. refl;
      placed = λ p. omega arith;
      quiet = refl;
    }

  -- what each step keeps, the trial keeps
  module _ (Q : State → Type 0) (k : (p : ℕ) (s : State) → Q s → Q (step l δ p s)) where
    pub steps_keep : (ps : List ℕ) (s : State) → Q s → Q (steps l δ ps s)
    unfolding steps
    steps_keep [] s q = q
    steps_keep (p ∷ ps) s q = steps_keep ps (step l δ p s) (k p s q)

    pub through_keeps : (p : ℕ) (a : Act) (s : State) → Q s → Q (through l δ p a s)
    unfolding through
    through_keeps p (read c f) s q = through_keeps p (f (given l δ (l.class c) s (s.places p).at c)) (step l δ p s) (k p s q)
    through_keeps p (write c v a) s q = through_keeps p a (step l δ p s) (k p s q)
    through_keeps p (update c v a) s q = through_keeps p a (step l δ p s) (k p s q)
    through_keeps p (fault n m) s q = q
    through_keeps p done s q = k p s q

    pub through_all_keeps : (n p : ℕ) (s : State) → Q s → Q (through_all l δ n p s)
    unfolding through_all
    through_all_keeps zero p s q = q
    through_all_keeps (suc n) p s q = through_all_keeps n p (through l δ p (s.places p).act s) (through_keeps p (s.places p).act s q)

    pub run_on_keeps : (p : ℕ) (s : State) → Q s → Q (run_on l δ p s)
    unfolding run_on run_out
    run_on_keeps zero s q = q
    run_on_keeps (suc p) s q = through_all_keeps _ p (run_on l δ p s) (run_on_keeps p s q)

  pub trial_holds : Proper l δ → (ps : List ℕ) → Invariant (trial l δ ps)
  unfolding trial
  trial_holds h ps = run_on_keeps Invariant (step_keeps h) δ.processors (steps l δ ps (start l δ))
      (steps_keep Invariant (step_keeps h) ps (start l δ) (start_holds h))
