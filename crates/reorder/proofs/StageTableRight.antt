-- What the stage table shows: the stages, and how many there are; how large its numbers get; and how it follows a log that grows.
use mathlib.Core.Path.{◌≡◌, refl, sym, ◌∙◌, ap, subst}
use mathlib.Core.Logic.{◌≢◌, ◌⊎◌, inl, inr, ◌↔◌}
use mathlib.Core.List.{[], ◌∷◌}
use mathlib.Core.Bool.{Bool, true, false, cond}
use Prim.Native.Nat.{ℕ, zero, suc, max, ◌≤◌, ◌<◌}
use native.Mathlib.Decide.{ℕ_discrete}
use native.Mathlib.Omega.{arith}
use lib.IntN.{ℤ}
use Rattle.rules.specs.Choose.{put}
use Rattle.rules.specs.ChooseLaws.{pick_same, pick_other, put_same, put_other}
use Rattle.rules.specs.Log.{Kind, reads, writes, updates, Access, access, iteration, Log, each, newest, older}
use Rattle.rules.specs.LogLaws.{only_same, only_other}
use Rattle.rules.specs.Marks.{weight}
use Rattle.reorder.specs.Depends.{Touches, Changes, changes_touches, touches_nil, touches_past, changes_past, changes?, touches?}
use Rattle.reorder.specs.Stages.{greatest, stage, stage_count}
use Rattle.reorder.specs.declared.Row.{Row}
use Rattle.reorder.specs.StageTable.{Table, latest, opened, needs, marked, note, close, noted, swept, during}
use Rattle.reorder.proofs.EachLaws.{Of, of_nil, of_cons, each_of}
use Rattle.reorder.proofs.StageLaws.{greatest_most, weight_holds, weight_fails, stage_suc}
use Rattle.reorder.proofs.StageCells.{changed, touched, asks, over, over_most, behind_over, stage_below, changed_small, touched_small, asks_small}

module _ (g : Log) where
  -- ---- what a row stands for

  -- between iterations: all below i have ended
  record Settled (i c : ℕ) (s : ℕ → ℕ) (r : Row) : Type 0 where
    last : r.last ≤ i
    changed_is : cond r.changes (max r.changed (latest s r.last)) r.changed ≡ changed g c i
    touched_is : max r.touched (latest s r.last) ≡ touched g c i

  -- as iteration i finds it, with its accesses h so far
  record Fresh (i c : ℕ) (h : Log) (r : Row) : Type 0 where
    last : r.last ≡ suc i
    changed_is : r.changed ≡ changed g c i
    touched_is : r.touched ≡ touched g c i
    changes_is : (r.changes ≡ true) ↔ Changes c h

  record Amid (i : ℕ) (h : Log) (t : Table) : Type 0 where
    stages : (j : ℕ) → j < i → t.stages j ≡ stage g j
    rows : (c : ℕ) → ((¬ Touches c h) × Settled i c t.stages (t.rows c)) ⊎ (Touches c h × Fresh i c h (t.rows c))
    over_is : t.over ≡ over g i h
    count : t.count ≡ greatest i (stage g)

  opened_fresh : (i c : ℕ) (h : Log) (s : ℕ → ℕ) (r : Row) → ((¬ Touches c h) × Settled i c s r) ⊎ (Touches c h × Fresh i c h r) → Fresh i c h (opened s i r)
  unfolding opened
  opened_fresh i c h s r (inl (n, w)) = rw (pick_other (λ (p : r.last ≡ suc i). omega (arith, w.last)) r _) (record {
    last = refl;
    changed_is = w.changed_is;
    touched_is = w.touched_is;
    changes_is = (λ (e : false ≡ true). absurd (let z : ◌≡◌ {A = ℕ} 0 1 = cc in omega arith), λ x. absurd (n (changes_touches x)));
  })
  opened_fresh i c h s r (inr (x, w)) = rw (pick_same w.last r _) w

  needs_fresh : (i c : ℕ) (h : Log) (r : Row) (k : Kind) → Fresh i c h r → needs k r ≡ asks g i k c
  unfolding needs asks
  needs_fresh i c h r reads w = w.changed_is
  needs_fresh i c h r writes w = w.touched_is
  needs_fresh i c h r updates w = w.touched_is

  changes_read : {c i d : ℕ} {v : ℤ} {h : Log} → Changes c (access reads i d v ∷ h) → Changes c h
  changes_read (inl (older x)) = inl x
  changes_read (inr (older x)) = inr x

  changes_older : {c : ℕ} {e : Access} {h : Log} → Changes c h → Changes c (e ∷ h)
  changes_older (inl x) = inl (older x)
  changes_older (inr x) = inr (older x)

  marked_fresh : (i c : ℕ) (h : Log) (v : ℤ) (r : Row) (k : Kind) → Fresh i c h r → Fresh i c (access k i c v ∷ h) (marked k r)
  unfolding marked
  marked_fresh i c h v r reads w = record {
    last = w.last;
    changed_is = w.changed_is;
    touched_is = w.touched_is;
    changes_is = (λ e. changes_older (w.changes_is.0 e), λ x. w.changes_is.1 (changes_read x));
  }
  marked_fresh i c h v r writes w = record {
    last = w.last;
    changed_is = w.changed_is;
    touched_is = w.touched_is;
    changes_is = (λ e. inl newest, λ x. refl);
  }
  marked_fresh i c h v r updates w = record {
    last = w.last;
    changed_is = w.changed_is;
    touched_is = w.touched_is;
    changes_is = (λ e. inr newest, λ x. refl);
  }

  -- an access to another cell
  past : (i c d : ℕ) (h : Log) (v : ℤ) (k : Kind) (s : ℕ → ℕ) (r : Row) → d ≢ c → ((¬ Touches c h) × Settled i c s r) ⊎ (Touches c h × Fresh i c h r)
      → ((¬ Touches c (access k i d v ∷ h)) × Settled i c s r) ⊎ (Touches c (access k i d v ∷ h) × Fresh i c (access k i d v ∷ h) r)
  past i c d h v k s r p (inl (n, w)) = inl (λ x. n (touches_past p x), w)
  past i c d h v k s r p (inr (x, w)) = inr (
    (x.0, older x.1),
    record {
      last = w.last;
      changed_is = w.changed_is;
      touched_is = w.touched_is;
      changes_is = (λ e. changes_older (w.changes_is.0 e), λ y. w.changes_is.1 (changes_past p y));
    },
  )

  note_amid : (i c : ℕ) (h : Log) (v : ℤ) (k : Kind) (t : Table) → Amid i h t → Amid i (access k i c v ∷ h) (note (access k i c v) t)
  unfolding note over
  note_amid i c h v k t a = record {
    stages = a.stages;
    rows = λ d. elim (ℕ_discrete c d) [
      | yes p ↦ inr (
        (k, rw p newest),
        rw (put_same p t.rows (marked k r))
            (subst (λ (x : ℕ). Fresh i x (access k i c v ∷ h) (marked k r)) p (marked_fresh i c h v r k fresh)),
      )
      | no p ↦ rw (put_other p t.rows (marked k r)) (past i d c h v k t.stages (t.rows d) p (a.rows d))
    ];
    over_is = rw (a.over_is, needs_fresh i c h r k fresh);
    count = a.count;
  }
    where
      r : Row
      r = opened t.stages i (t.rows c)

      fresh : Fresh i c h r
      fresh = opened_fresh i c h t.stages (t.rows c) (a.rows c)

  noted_amid : {i : ℕ} {h : Log} (t : Table) → Of i h → Amid i [] t → Amid i h (noted h t)
  unfolding noted
  noted_amid t of_nil a = a
  noted_amid {i} t (of_cons {k = k} {c = c} {v = v} {g = h} o) a = note_amid i c h v k (noted h t) (noted_amid t o a)

  -- ---- the end of an iteration

  latest_put : (s : ℕ → ℕ) (i x y : ℕ) → x ≤ i → latest (put s i y) x ≡ latest s x
  unfolding latest
  latest_put s i zero y b = refl
  latest_put s i (suc x) y b = put_other (let q : i ≢ x = (λ (e : i ≡ x). omega arith) in q) s y

  latest_last : (s : ℕ → ℕ) (i y : ℕ) → latest (put s i y) (suc i) ≡ y
  unfolding latest
  latest_last s i y = put_same refl s y

  closed_changes : (b : Bool) (x y : ℕ) {A : Type 0} (d : Dec A) → (b ≡ true) ↔ A → cond b (max x y) x ≡ max x (weight d y)
  unfolding weight
  closed_changes true x y (yes a) f = refl
  closed_changes true x y (no n) f = absurd (n (f.0 refl))
  closed_changes false x y (yes a) f = absurd (let e = f.1 a in let z : ◌≡◌ {A = ℕ} 0 1 = cc in omega arith)
  closed_changes false x y (no n) f = omega arith

  closed_row : (i c : ℕ) (s : ℕ → ℕ) (r : Row) → ((¬ Touches c (each i g)) × Settled i c s r) ⊎ (Touches c (each i g) × Fresh i c (each i g) r)
      → Settled (suc i) c (put s i (stage g i)) r
  unfolding changed touched greatest
  closed_row i c s r (inl (n, w)) = record {
    last = omega (arith, w.last);
    changed_is =
        ap (λ (x : ℕ). cond r.changes (max r.changed x) r.changed) (latest_put s i r.last (stage g i) w.last) ∙ w.changed_is
        ∙ omega (arith, weight_fails (changes? c (each i g)) (stage g i) (λ x. n (changes_touches x)));
    touched_is =
        ap (λ (x : ℕ). max r.touched x) (latest_put s i r.last (stage g i) w.last) ∙ w.touched_is
        ∙ omega (arith, weight_fails (touches? c (each i g)) (stage g i) n);
  }
  closed_row i c s r (inr (t, w)) = record {
    last = omega (arith, w.last);
    changed_is =
        ap (λ (x : ℕ). cond r.changes (max r.changed x) r.changed) now
        ∙ closed_changes r.changes r.changed (stage g i) (changes? c (each i g)) w.changes_is
        ∙ ap (λ (x : ℕ). max x (weight (changes? c (each i g)) (stage g i))) w.changed_is;
    touched_is =
        ap (λ (x : ℕ). max r.touched x) (now ∙ sym (weight_holds (touches? c (each i g)) (stage g i) t))
        ∙ ap (λ (x : ℕ). max x (weight (touches? c (each i g)) (stage g i))) w.touched_is;
  }
    where
      now : latest (put s i (stage g i)) r.last ≡ stage g i
      now = ap (latest (put s i (stage g i))) w.last ∙ latest_last s i (stage g i)

  close_amid : (i : ℕ) (t : Table) → Amid i (each i g) t → Amid (suc i) [] (close i t)
  unfolding close over greatest
  close_amid i t a = record {
    stages = λ j b. elim (ℕ_discrete i j) [
      | yes p ↦ put_same p t.stages (suc t.over) ∙ is ∙ ap (stage g) p
      | no p ↦ put_other p t.stages (suc t.over) ∙ a.stages j (omega arith)
    ];
    rows = λ c. inl (touches_nil, rw is (closed_row i c t.stages (t.rows c) (a.rows c)));
    over_is = refl;
    count = rw (a.count, is);
  }
    where
      is : suc t.over ≡ stage g i
      is = ap suc (a.over_is ∙ sym (behind_over g i)) ∙ sym (stage_suc g i)

  swept_amid : (n : ℕ) → Amid n [] (swept g n)
  unfolding swept over greatest changed touched latest
  swept_amid zero = record {
    stages = λ j b. absurd (omega arith);
    rows = λ c. inl (touches_nil, record { last = omega arith; changed_is = refl; touched_is = refl });
    over_is = refl;
    count = refl;
  }
  swept_amid (suc i) = close_amid i (noted (each i g) (swept g i)) (noted_amid (swept g i) (each_of i g) (swept_amid i))

  -- ---- what is read off it

  -- the stages of the first n iterations
  pub swept_stages : (n i : ℕ) → i < n → (swept g n).stages i ≡ stage g i
  swept_stages n = (swept_amid n).stages

  -- and how many there are
  pub swept_count : (n : ℕ) → (swept g n).count ≡ stage_count g n
  unfolding stage_count
  swept_count n = (swept_amid n).count

  -- ---- how large the numbers get

  -- while iteration i runs
  pub record Small (i : ℕ) (t : Table) : Type 0 where
    pub over : t.over ≤ i
    pub count : t.count ≤ i
    pub last : (c : ℕ) → (t.rows c).last ≤ suc i
    pub changed : (c : ℕ) → (t.rows c).changed ≤ i
    pub touched : (c : ℕ) → (t.rows c).touched ≤ i

  row_small : (i c : ℕ) (h : Log) (s : ℕ → ℕ) (r : Row) → ((¬ Touches c h) × Settled i c s r) ⊎ (Touches c h × Fresh i c h r)
      → (r.last ≤ suc i) × (r.changed ≤ i) × (r.touched ≤ i)
  row_small i c h s r (inl (n, w)) = (
    omega (arith, w.last),
    omega (arith, least r.changes, w.changed_is, changed_small g c i),
    omega (arith, w.touched_is, touched_small g c i),
  )
    where
      least : (b : Bool) → r.changed ≤ cond b (max r.changed (latest s r.last)) r.changed
      least true = omega arith
      least false = omega arith
  row_small i c h s r (inr (x, w)) = (
    omega (arith, w.last),
    omega (arith, w.changed_is, changed_small g c i),
    omega (arith, w.touched_is, touched_small g c i),
  )

  amid_small : (i : ℕ) (h : Log) (t : Table) → Amid i h t → Small i t
  amid_small i h t a = record {
    over = omega (arith, a.over_is, over_most g i i h (λ q c x. asks_small g i q c));
    count = omega (arith, a.count, greatest_most i (stage g) i (stage_below g i));
    last = λ c. (row_small i c h t.stages (t.rows c) (a.rows c)).0;
    changed = λ c. (row_small i c h t.stages (t.rows c) (a.rows c)).1;
    touched = λ c. (row_small i c h t.stages (t.rows c) (a.rows c)).2;
  }

-- ---- a log that grows: what code keeps while iteration i runs, after the accesses g

pub during_small : (g : Log) (i : ℕ) → Small g i (during g i)
unfolding during
during_small g i = amid_small g i (each i g) (noted (each i g) (swept g i)) (noted_amid g (swept g i) (each_of i g) (swept_amid g i))

-- an access of an iteration leaves what is kept of the lower ones
swept_past : (e : Access) (g : Log) (n : ℕ) → n ≤ iteration e → swept (e ∷ g) n ≡ swept g n
unfolding swept
swept_past e g zero b = refl
swept_past e g (suc i) b =
    ap (λ (h : Log). close i (noted h (swept (e ∷ g) i))) (only_other (λ j. j) e (λ (p : iteration e ≡ i). omega arith) g)
    ∙ ap (λ (t : Table). close i (noted (each i g) t)) (swept_past e g i (omega arith))

-- at an access of the iteration one step is made
pub during_access : (e : Access) (g : Log) → during (e ∷ g) (iteration e) ≡ note e (during g (iteration e))
unfolding during noted
during_access e g =
    ap (λ (h : Log). noted h (swept (e ∷ g) (iteration e))) (only_same (λ j. j) e refl g)
    ∙ ap (λ (t : Table). note e (noted (each (iteration e) g) t)) (swept_past e g (iteration e) (omega arith))

-- and one at its end, before the next has an access
pub during_end : (g : Log) (i : ℕ) → each (suc i) g ≡ [] → during g (suc i) ≡ close i (during g i)
unfolding during noted swept
during_end g i h = ap (λ (x : Log). noted x (swept g (suc i))) h
