-- An iteration of the sweep, step by step: it is the serial run's, and rows and list keep the stage table of its accesses.
use mathlib.Core.Path.{◌≡◌, refl, sym, ◌∙◌, ap, subst}
use mathlib.Core.Logic.{◌≢◌, ◌⊎◌, inl, inr}
use mathlib.Core.Bool.{true}
use mathlib.Core.List.{List, ◌∷◌}
use Prim.Native.Nat.{ℕ, suc, ◌+◌, ◌-◌, ◌<◌}
use native.Mathlib.Numerals.{add-one}
use native.Mathlib.Omega.{arith}
use borrow.Author.Tests.{lt-ltb}
use lib.IntN.{ℤ}
use Rattle.std.specs.declared.option.Option.{Option}
use Rattle.std.specs.declared.option.Option.TheVariants.{None, Some}
use Rattle.stepping.specs.declared.Fault.{Fault as Stop}
use Rattle.rules.specs.Loop.{Act, Loop}
use Rattle.rules.specs.Log.{Kind, reads, writes, updates, access, Log}
use Rattle.rules.specs.Proper.{Sized}
use Rattle.rules.specs.Serial.{finished, failed, Result, from, serial}
use Rattle.operands.specs.declared.Move.{Move}
use Rattle.operands.specs.declared.Move.TheVariants.{Read, Write, Update, Fault, End}
use Rattle.operands.specs.Performing.{left}
use Rattle.stepping.specs.Step.{Scene, at, moved, Goes, Went}
use Rattle.stepping.specs.Carrying.{opened, is_open, CanCarry}
use Rattle.stepping.specs.declared.Role.{Role}
use Rattle.stepping.proofs.Happening.{rest}
use Rattle.stepping.proofs.Opened.{not_both, by_some}
use Rattle.serial.specs.Serving.{alone}
use Rattle.serial.proofs.Serving.{onward, grown, Serving}
use Rattle.serial.proofs.Stepping.{onward_begin, serial_grown, can_serve}
use Rattle.reorder.specs.StageTable.{note, during}
use Rattle.reorder.proofs.StageTableRight.{during_small, during_access}
use Rattle.staging.specs.Rows.{noted_in, over_in, Notable}
use Rattle.staging.specs.Kept.{Kept}
use Rattle.staging.proofs.Keeping.{kept_notable, kept_note, kept_over}
use Rattle.sweeping.specs.Sweep.{CanNote, noted_by, over_by, Notes, After, Runs}

-- ---- one access more

module _ (l : Loop) (i : ℕ) (R L : List ℕ) (g : Log) (s : Kept l.size l.iterations i R L (during g i)) (c : ℕ) (b : c < l.size) (k : Kind) (y : ℤ) where
  more : note (access k i c y) (during g i) ≡ during (access k i c y ∷ g) i
  more = sym (during_access (access k i c y) g)

  kept_more : Kept l.size l.iterations i (noted_in k L i R c) L (during (access k i c y ∷ g) i)
  kept_more = rw (← more) (kept_note l.size l.iterations i R L (during g i) s (during_small g i).last c b k y)

  over_more : (o : ℕ) → o ≡ (during g i).over → over_in k L i R c o ≡ (during (access k i c y ∷ g) i).over
  over_more o e = rw (← more) (kept_over l.size l.iterations i R L (during g i) s (during_small g i).last c b k y o e)

-- ---- an iteration under way

module _ (code : List ℕ) (v : ℤ) (l : Loop) (i : ℕ) (L : List ℕ) where
  -- in a scene, with the rows R, having to come after o
  pub record Under (R : List ℕ) (o : ℕ) (z : Scene) : Type 0 where
    pub m : ℕ → ℤ
    pub g : Log
    pub serving : Serving code v l z m g
    pub here : at z ≡ i
    pub kept : Kept l.size l.iterations i R L (during g i)
    pub over : o ≡ (during g i).over

  -- or over
  abbrev pub Reached : List ℕ → ℕ → Scene → Type 0
  Reached R o z = Under R o z ⊎ ((at z ≡ suc i) × After l i z.cells z.words R L o)

  pub still_under : (R : List ℕ) (o : ℕ) (z : Scene) → at z ≡ i → Reached R o z → Under R o z
  still_under R o z e (inl u) = u
  still_under R o z e (inr (n, a)) = absurd (omega arith)

  pub now_after : (R : List ℕ) (o : ℕ) (z : Scene) → at z ≢ i → Reached R o z → After l i z.cells z.words R L o
  now_after R o z e (inl u) = absurd (e u.here)
  now_after R o z e (inr (n, a)) = a

  module _ (faultless : (serial l).outcome ≡ finished) where
    -- no fault stops it
    unfaulted : (z : Scene) (m : ℕ → ℤ) (g : Log) → Serving code v l z m g → z.point.fault ≡ None
    unfolding onward
    unfaulted z m g s = by z.point.fault refl
      where
        by : (o : Option Stop) → z.point.fault ≡ o → z.point.fault ≡ None
        by None e = e
        by (Some h) e =
            let f : failed h.number h.line (at z) ≡ finished = ap (λ (r : Result). r.outcome) (sym (s.result ∙ by_some e _ _)) ∙ faultless in
            let q : ◌≡◌ {A = ℕ} 0 1 = cc in absurd (omega arith)

    module _ (low : i < l.iterations) (R : List ℕ) (o : ℕ) (z : Scene) (u : Under R o z) where
      -- a step can be made
      pub under_open : is_open (alone v l.iterations) z ≡ true
      unfolding opened
      under_open = rw (unfaulted z u.m u.g u.serving, lt-ltb (at z) l.iterations (omega (arith, u.here, low)))

      -- and noted, and then the iteration is still under way, or over
      module _ (z' : Scene) (w : Goes (alone v l.iterations) code z z') where
        abbrev x : Role
        x = alone v l.iterations

        sized_as : (a : Act) → rest x code z ≡ a → Sized l.size a
        sized_as a e = subst (Sized l.size) e (u.serving.sized (unfaulted z u.m u.g u.serving) (omega (arith, u.here, low)))

        notable : (c : ℕ) → c < l.size → Notable L i R c
        notable c b =
            let h = u.serving.stands.suits in
            kept_notable l.size l.iterations i R L (during u.g i) u.kept (during_small u.g i).last c b (omega (arith, b, h.cells_most)) low
            h.iterations_most

        pub can_note : (a : Move) → w.reached.done ≡ a → CanNote L i R a
        unfolding CanNote left
        can_note (Read c) q = notable c (sized_as _ (rw q at w.comes.meaning)).0
        can_note (Write c y) q = notable c (sized_as _ (rw q at w.comes.meaning)).0
        can_note (Update c y) q = notable c (sized_as _ (rw q at w.comes.meaning)).0
        can_note (Fault n t) q = tt
        can_note End q = tt

        -- after an access of cell c
        on : (k : Kind) (c : ℕ) (y : ℤ) → c < l.size → (m' : ℕ → ℤ) → Serving code v l z' m' (access k (at z) c y ∷ u.g) → at z' ≡ at z
            → Reached (noted_in k L i R c) (over_in k L i R c o) z'
        on k c y b m' s e = inl (record {
          m = m';
          g = access k i c y ∷ u.g;
          serving = subst (λ (j : ℕ). Serving code v l z' m' (access k j c y ∷ u.g)) u.here s;
          here = e ∙ u.here;
          kept = kept_more l i R L u.g u.kept c b k y;
          over = over_more l i R L u.g u.kept c b k y o u.over;
        })

        by : (a : Move) → w.reached.done ≡ a → (m' : ℕ → ℤ) → Serving code v l z' m' (grown (at z) u.m u.g a)
            → z' ≡ moved x (at z) z.cells z.words w.pending w.reached.place w.reached.depth a
            → Reached (noted_by L i R a) (over_by L i R o a) z'
        unfolding moved left noted_by over_by
        by (Read c) q m' s h = on reads c (u.m c) (sized_as _ (rw q at w.comes.meaning)).0 m' s (ap at h)
        by (Write c y) q m' s h = on writes c y (sized_as _ (rw q at w.comes.meaning)).0 m' s (ap at h)
        by (Update c y) q m' s h = on updates c y (sized_as _ (rw q at w.comes.meaning)).0 m' s (ap at h)
        by (Fault n t) q m' s h =
            absurd (not_both _ _ (unfaulted z' m' u.g s) (ap (λ (y : Scene). y.point.fault) h))
        by End q m' s h =
            let e : at z' ≡ suc i = ap at h ∙ add-one (at z) ∙ ap suc u.here in
            let k : at z' + (l.iterations - suc i) ≡ l.iterations = omega (arith, e, low) in
            inr (
              e,
              record {
                m = m';
                g = u.g;
                stands = record {
                  suits = s.stands.suits;
                  cells = s.stands.cells;
                  words = s.stands.words;
                  inside = s.stands.inside;
                  ascending = s.stands.ascending;
                  upto = λ j b. u.serving.stands.upto j (omega (arith, u.here, b));
                };
                kept = u.kept;
                over = u.over;
                result =
                    s.result
                    ∙ sym (onward_begin l code v z' m' u.g s.coded (ap (λ (y : Scene). y.point.fault) h) (ap (λ (y : Scene). y.point.place) h)
                    (ap (λ (y : Scene). y.point.depth) h) (l.iterations - suc i) k)
                    ∙ ap (λ (j : ℕ). from l (l.iterations - suc i) j m' u.g) e;
              },
            )

        pub went : Reached (noted_by L i R w.reached.done) (over_by L i R o w.reached.done) z'
        went = let (m', s) = serial_grown code v l z u.m u.g u.serving under_open z' w in by w.reached.done refl m' s w.makes.after

-- ---- a step, as the code makes it

module _ (code : List ℕ) (x : Role) (v : ℤ) (l : Loop) (i : ℕ) (L R : List ℕ) (o : ℕ) (z : Scene) (s : Runs code x v l) (low : i < l.iterations)
    (u : Under code v l i L R o z) where
  pub can_step : CanCarry x code z
  can_step = can_serve code v l x s.role z (u.m, u.g, u.serving)

  pub step_open : is_open x z ≡ true
  step_open = rw s.role (under_open code v l i L s.faultless low R o z u)

  module _ (z' : Scene) (a : Move) (w : Went x code z z' a) where
    gone : Went (alone v l.iterations) code z z' a
    gone = subst (λ (y : Role). Went y code z z' a) s.role w

    pub step_noted : CanNote L i R a
    step_noted = can_note code v l i L s.faultless low R o z u z' gone.goes a gone.by

    pub step_went : (R' : List ℕ) (o' : ℕ) → Notes L i R a o R' o' → Reached code v l i L R' o' z'
    step_went R' o' n = rw (n.rows, n.over) (subst (λ (y : Move). Reached code v l i L (noted_by L i R y) (over_by L i R o y) z') gone.by
        (went code v l i L s.faultless low R o z u z' gone.goes))
