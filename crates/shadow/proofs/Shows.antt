-- A loop's tables, whole: for a log in which each processor's iterations go in ascending order, what the tables show is what the log says.
use mathlib.Core.Path.{◌≡◌, refl, sym, ◌∙◌, ap, subst}
use mathlib.Core.Logic.{◌≢◌, inl, inr, ◌↔◌}
use mathlib.Core.List.{[], ◌∷◌}
use mathlib.Core.Bool.{cond}
use mathlib.Core.Option.{Option, some, get_or}
use Prim.Native.Nat.{ℕ, suc, ◌≤◌, ◌<◌}
use native.Mathlib.Decide.{ℕ_discrete, dec_le, dec_lt}
use native.Mathlib.Omega.{arith}
use lib.IntN.{ℤ}
use Rattle.rules.specs.Choose.{below}
use Rattle.rules.specs.ChooseLaws.{below_yes, below_no}
use Rattle.rules.specs.Operation.{operation}
use Rattle.rules.specs.declared.Class.{Class}
use Rattle.rules.specs.declared.Class.TheVariants.{Shared as shared, Lastprivate as lastprivate, Copied as copied, Reduction as reduction}
use Rattle.rules.specs.Loop.{operator, Loop, joining, bound, Partition}
use Rattle.rules.specs.Log.{Kind, access, Log, only, each, written, Has, newest, older}
use Rattle.rules.specs.LogLaws.{only_same, only_other, only_nil, has_all}
use Rattle.rules.specs.Obstacles.{ObstacleAt, Obstructed}
use Rattle.rules.specs.Proper.{Proper}
use Rattle.rules.proofs.Progress.{owner_from, owner_to, bounds_grow, group_holds, group_grows, bound_first, bound_grows, bound_last}
use Rattle.rules.specs.Owner.{owner, whose}
use Rattle.rules.specs.Steps.{State}
use Rattle.rules.proofs.TrialRun.{home}
use Rattle.rules.specs.Merge.{highest, updated, block, total, join_all, gathered, merged_as, merged, pairs, written_cells}
use Rattle.rules.proofs.TouchLaws.{updated_has, has_updated, both_ways}
use Rattle.rules.proofs.SumLaws.{Within, join_same}
use Rattle.rules.specs.Marks.{marks}
use Rattle.rules.specs.Record.{Recorded}
use Rattle.shadow.specs.Tables.{Row, Tables, table, shown, Blocked, chosen, own_value, last_own}
use Rattle.shadow.proofs.Sets.{Stamp}
use Rattle.shadow.proofs.Judged.{W}
use Rattle.shadow.specs.Orderly.{Latest, InTurn, turn_nil, turn_cons, Inside, inside_nil, inside_cons, worker, Ascending}
use Rattle.shadow.proofs.Rows.{judged, valued, joined}
use Rattle.shadow.proofs.ReadOff.{marks_right, obstacle_right, mark8_right}
use Rattle.shadow.proofs.Counts.{pairs_right, cells_right}
use Rattle.shadow.proofs.Merging.{own_right, last_right, chosen_right}

module _ (l : Loop) (δ : Partition) (h : Proper l δ) where
  -- the block that holds an iteration
  pub block_of : (i : ℕ) → i < l.iterations → (p : ℕ) × (p < δ.processors) × (bound δ p ≤ i) × (i < bound δ (suc p)) × (worker l δ i ≡ p)
  block_of i b =
      let k = δ.processors in
      let p = owner (bound δ) k i in
      let from : bound δ p ≤ i = owner_from (bound δ) (bound_grows l δ h) (bound_first l δ h) k i in
      let r = owner_to (bound δ) (bound_grows l δ h) (bound_first l δ h) k i (omega (arith, bound_last l δ h k (omega arith))) in
      (p, r.1, from, r.0, (home l δ h p i from r.0).owned)

  worker_below : (i : ℕ) → i < l.iterations → worker l δ i < δ.processors
  worker_below i b = let r = block_of i b in omega (arith, r.4, r.1)

  worker_from : (i : ℕ) → i < l.iterations → bound δ (worker l δ i) ≤ i
  worker_from i b = let r = block_of i b in subst (λ (p : ℕ). bound δ p ≤ i) (sym r.4) r.2

  worker_to : (i : ℕ) → i < l.iterations → i < bound δ (suc (worker l δ i))
  worker_to i b = let r = block_of i b in subst (λ (p : ℕ). i < bound δ (suc p)) (sym r.4) r.3

  worker_grows : (i j : ℕ) → i ≤ j → j < l.iterations → worker l δ i ≤ worker l δ j
  worker_grows i j a b = elim (dec_le (worker l δ i) (worker l δ j)) [
    | yes y ↦ y
    | no y ↦ absurd (omega (
      arith,
      worker_from i (omega arith),
      worker_to j b,
      bounds_grow (bound δ) (bound_grows l δ h) (suc (worker l δ j)) (worker l δ i) (omega arith),
    ))
  ]

  group_below : (i : ℕ) → i < l.iterations → δ.group i < δ.groups
  group_below i b = elim (dec_lt (δ.group i) δ.groups) [
    | yes y ↦ y
    | no y ↦ absurd (omega (arith, (group_holds l δ h i b).0, h.cut_last (δ.group i) (omega arith)))
  ]

  none_of : (γ : ℕ → ℕ) (j : ℕ) → ((i : ℕ) → i < l.iterations → γ i ≢ j) → {g : Log} → Inside l.iterations l.size g → only γ j g ≡ []
  unfolding only
  none_of γ j f inside_nil = refl
  none_of γ j f (inside_cons {q = q} {i = i} {c = c} {v = v} {l = g} a b x) = only_other γ (access q i c v) (f i a) g ∙ none_of γ j f x

  pub within_iterations : {g : Log} → Inside l.iterations l.size g → Within (λ i. i) l.iterations g
  within_iterations x j b = none_of (λ i. i) j (λ i a. omega arith) x

  pub within_groups : {g : Log} → Inside l.iterations l.size g → Within δ.group δ.groups g
  within_groups x j b = none_of δ.group j (λ i a. omega (arith, group_below i a)) x

  -- then groups ascend too
  pub latest_group : (i : ℕ) → i < l.iterations → {g : Log} → Inside l.iterations l.size g → Latest (λ i. i) (worker l δ) i g
      → Latest δ.group (whose δ) (δ.group i) g
  unfolding only
  latest_group i a inside_nil t j e b = refl
  latest_group i a (inside_cons {q = q} {i = m} {c = c} {v = v} {l = g} w z x) t j e b = only_other δ.group (access q m c v)
      (λ (y : δ.group m ≡ j). (only_nil (λ i. i) m (access q m c v) g (t m (ap (whose δ) y ∙ e) (group_grows l δ h i m a w (omega arith)))).0 refl) g
      ∙ latest_group i a x (λ k p r. (only_nil (λ i. i) k (access q m c v) g (t k p r)).1) j e b

  pub ascending_groups : {g : Log} → Inside l.iterations l.size g → Ascending l δ g → InTurn δ.group (whose δ) g
  ascending_groups inside_nil turn_nil = turn_nil
  ascending_groups (inside_cons {i = i} a b x) (turn_cons t u) = turn_cons (latest_group i a x t) (ascending_groups x u)

  -- a processor's accesses
  block_is : (p : ℕ) {g : Log} → Inside l.iterations l.size g → block δ p g ≡ only (worker l δ) p g
  unfolding only block
  block_is p inside_nil = refl
  block_is p (inside_cons {q = q} {i = i} {c = c} {v = v} {l = g} a b x) = elim (ℕ_discrete (worker l δ i) p) [
    | yes e ↦
        below_no (subst (λ (w : ℕ). bound δ w ≤ i) e (worker_from i a)) (block δ p g) _
        ∙ below_yes (subst (λ (w : ℕ). i < bound δ (suc w)) e (worker_to i a)) (access q i c v ∷ block δ p g) (block δ p g)
        ∙ ap (λ (m : Log). access q i c v ∷ m) (block_is p x) ∙ sym (only_same (worker l δ) (access q i c v) e g)
    | no n ↦ out n ∙ block_is p x ∙ sym (only_other (worker l δ) (access q i c v) n g)
  ]
    where
      out : worker l δ i ≢ p → below i (bound δ p) (block δ p g) (below i (bound δ (suc p)) (access q i c v ∷ block δ p g) (block δ p g)) ≡ block δ p g
      out n = elim (dec_lt i (bound δ p)) [
        | yes y ↦ below_yes y (block δ p g) _
        | no y ↦ elim (dec_lt i (bound δ (suc p))) [
          | yes z ↦ absurd (n (home l δ h p i (omega arith) z).owned)
          | no z ↦ below_no (omega arith) (block δ p g) _ ∙ below_no (omega arith) (access q i c v ∷ block δ p g) (block δ p g)
        ]
      ]

-- what the tables of a log show
pub record Shows (l : Loop) (δ : Partition) (g : Log) (t : Tables) : Type 0 where
  -- the marks
  pub marked : (c : ℕ) → shown (t.rows c) ≡ marks δ.group c g
  -- the record of each cell
  pub recorded : (c : ℕ) → Recorded (λ i. only δ.group i g) c (t.rows c).lowest (t.rows c).highest
  -- the obstacles, by class
  pub obstacle : (k : Class) (c : ℕ) → Blocked k (t.rows c) ↔ ObstacleAt k (λ i. only δ.group i g) c
  -- `wrote` is 1 + the highest group of the processor that wrote, 0 if none did, and the private value what that group wrote last
  pub wrote : (c : ℕ) → Stamp (whose δ) (W δ.group c g) (λ p. ((t.rows c).own p).wrote)
  pub private : (c p i : ℕ) → ((t.rows c).own p).wrote ≡ suc i → written c (only δ.group i g) ≡ some ((t.rows c).own p).value
  -- it is what the processor wrote last
  pub block_last : (c p : ℕ) → last_own ((t.rows c).own p) ≡ written c (block δ p g)
  -- what a group that its processor has not left wrote itself
  pub own : (c i : ℕ) → Latest δ.group (whose δ) i g → own_value i ((t.rows c).own (whose δ i)) ≡ written c (only δ.group i g)
  -- the value of the highest iteration that wrote
  pub last : (c : ℕ) → chosen (t.rows c).own δ.processors ≡ highest (λ i. each i g) c l.iterations
  -- each processor's partial result
  pub partials : (c p : ℕ) → ((t.rows c).own p).partial ≡ total (joining l c) c (block δ p g)
  -- whether there was an update
  pub update : (c : ℕ) → (t.rows c).updated ≡ updated c g
  -- both write counts
  pub pair_count : t.pairs ≡ pairs l g
  pub cell_count : t.cells ≡ written_cells l g

pub tables_right : (l : Loop) (δ : Partition) → Proper l δ → (g : Log) → Inside l.iterations l.size g → Ascending l δ g → Shows l δ g (table l δ g)
tables_right l δ h g x a =
    let t = ascending_groups l δ h x a in
    let u = within_groups l δ h x in
    record {
      marked = λ c. marks_right δ.group (whose δ) (joining l) δ.groups c g t u;
      recorded = λ c. (judged δ.group (whose δ) (joining l) c δ.groups g t u).recorded;
      obstacle = λ k c. obstacle_right δ.group (whose δ) (joining l) δ.groups c g t u k;
      wrote = λ c. (judged δ.group (whose δ) (joining l) c δ.groups g t u).wrote;
      private = λ c p i. valued δ.group (whose δ) (joining l) c δ.groups g t u p i;
      block_last = λ c p. last_right δ.group (whose δ) (joining l) c g p ∙ ap (written c) (sym (block_is l δ h p x));
      own = λ c i late. own_right δ.group (whose δ) (joining l) c δ.groups g t u i late;
      last = λ c. chosen_right (worker l δ) (joining l) c l.iterations g (worker_grows l δ h) a (within_iterations l δ h x) δ.group
          (whose δ) (λ i. refl) δ.processors (worker_below l δ h);
      partials = λ c p. joined δ.group (whose δ) (joining l) c g p ∙ ap (total (joining l c) c) (sym (block_is l δ h p x));
      update = λ c.
          let m = mark8_right δ.group (whose δ) (joining l) δ.groups c g t u in
          both_ways ((table l δ g).rows c).updated (updated c g) (λ q. has_updated (m.0 q)) (λ q. m.1 (updated_has c g q));
      pair_count = pairs_right l δ.group (whose δ) g x a;
      cell_count = cells_right l δ.group (whose δ) δ.groups g x t u;
    }

-- so the merge can be read off: a cell of each class
abbrev pub merged_off : Loop → Partition → Class → (ℕ → ℤ) → ℕ → Row → ℤ
merged_off l δ shared m c r = m c
merged_off l δ lastprivate m c r = get_or (chosen r.own δ.processors) (l.entry c)
merged_off l δ copied m c r = get_or (chosen r.own δ.processors) (l.entry c)
merged_off l δ (reduction o) m c r = cond r.updated
    ((operation o).join (get_or (chosen r.own δ.processors) (l.entry c)) (join_all (operation o) δ.processors (λ p. (r.own p).partial)))
    (get_or (chosen r.own δ.processors) (l.entry c))

pub merged_right : (l : Loop) (δ : Partition) (s : State) (t : Tables) → Shows l δ s.log t → (c : ℕ)
    → merged_off l δ (l.class c) s.cells c (t.rows c) ≡ merged l δ s c
unfolding merged gathered
merged_right l δ s t w c = go (l.class c) refl
  where
    go : (k : Class) → l.class c ≡ k → merged_off l δ k s.cells c (t.rows c) ≡ merged_as l δ k s c
    go shared e = refl
    go lastprivate e = ap (λ (o : Option ℤ). get_or o (l.entry c)) (w.last c)
    go copied e = ap (λ (o : Option ℤ). get_or o (l.entry c)) (w.last c)
    go (reduction o) e = cc (
      w.last c,
      w.update c,
      join_same (operation o) δ.processors (λ p. ((t.rows c).own p).partial) (λ p. total (operation o) c (block δ p s.log))
          (λ p b. w.partials c p ∙ ap (λ (k : Class). total (operation (operator k)) c (block δ p s.log)) e),
    )

-- the accessed cells are those below the size
pub inside_cell : {n k c : ℕ} {q : Kind} {g : Log} → Inside n k g → Has q c g → c < k
inside_cell {n = n} {k = k} {c = c} {q = q} inside_nil h = elim h [ ]
inside_cell (inside_cons a b x) newest = b
inside_cell (inside_cons a b x) (older h) = inside_cell x h

-- some cell has an obstacle
pub obstructed_right : (l : Loop) (δ : Partition) (g : Log) (t : Tables) → Inside l.iterations l.size g → Shows l δ g t
    → Obstructed l δ.group g ↔ ((c : ℕ) × (c < l.size) × Blocked (l.class c) (t.rows c))
obstructed_right l δ g t x w = (λ (c, o). (c, low (l.class c) c o, (w.obstacle (l.class c) c).1 o), λ (c, b, o). (c, (w.obstacle (l.class c) c).0 o))
  where
    at : {c : ℕ} {q : Kind} (i : ℕ) → Has q c (only δ.group i g) → c < l.size
    at i y = inside_cell x (has_all δ.group i g y)

    low : (k : Class) (c : ℕ) → ObstacleAt k (λ i. only δ.group i g) c → c < l.size
    low shared c (i, j, n, y, o) = at i y
    low lastprivate c (i, j, n, y, o) = at i y
    low copied c (i, j, n, y, o) = at i y
    low (reduction q) c (inl (i, j, n, y, o)) = at i y
    low (reduction q) c (inr (i, j, y, o)) = at i y
