-- The serial run, step by step.
use mathlib.Core.Path.{◌≡◌, refl, sym, ◌∙◌, ap, subst}
use mathlib.Core.Logic.{◌⊎◌, inl, inr}
use mathlib.Core.Bool.{true}
use mathlib.Core.List.{List, [], ◌∷◌}
use Prim.Native.Nat.{ℕ, zero, suc, ◌+◌, ◌-◌, ◌≤◌, ◌<◌}
use native.Mathlib.Omega.{arith}
use lib.ListN.{length}
use lib.IntN.{ℤ}
use Rattle.std.specs.declared.option.Option.{Option}
use Rattle.std.specs.declared.option.Option.TheVariants.{None, Some}
use Rattle.std.specs.Prelude.{IsSome}
use Rattle.rules.specs.declared.Class.{Class}
use Rattle.stepping.specs.declared.Fault.{Fault}
use Rattle.rules.specs.Choose.{put}
use Rattle.rules.specs.ChooseLaws.{below_yes, below_no}
use Rattle.rules.proofs.CellsLaws.{listed_length}
use Rattle.rules.specs.Loop.{Act, Loop, joining}
use Rattle.rules.specs.Log.{reads, writes, updates, access, Log, only}
use Rattle.rules.specs.Proper.{Sized}
use Rattle.rules.specs.Serial.{finished, failed, Result, along, from, serial}
use Rattle.shadow.specs.Orderly.{turn_nil, inside_nil}
use Rattle.shadow.proofs.Shows.{tables_right}
use Rattle.tables.specs.Logged.{Logged}
use Rattle.findings.proofs.Logged.{logged_pairs, logged_cells}
use Rattle.operands.specs.declared.Move.{Move}
use Rattle.operands.specs.Pending.{pendings, Holding}
use Rattle.stepping.specs.declared.Extent.TheVariants.{ToTheEnd}
use Rattle.stepping.specs.declared.Role.{Role}
use Rattle.stepping.specs.Step.{Scene, unstopped as unstopped_at, scene, at, CanGo, Goes}
use Rattle.stepping.specs.Carrying.{is_open, Reached, CanCarry, Carries}
use Rattle.stepping.proofs.Happening.{rest, can_reach, Continues, Happens, happens}
use Rattle.stepping.proofs.Opened.{opened_yes, opened_no, none_stops, not_both, by_none, by_some}
use Rattle.trial.specs.declared.Setting.{Setting}
use Rattle.trial.specs.Standing.{Coded}
use Rattle.serial.specs.Serving.{by_one, alone, Serially, Serials, outcome_of, IsSerial}
use Rattle.serial.proofs.Serving.{Serves, onward, grown, Serving, SerialAt}
use Rattle.serial.proofs.AccessLaws.{serves_accessible, serves_seen, serves_read, serves_write, serves_update, serially_next}
use Rattle.stepping.proofs.Happening as happening
use Rattle.stepping.specs.Carrying as carrying

-- ---- what a scene comes to

module _ (l : Loop) (code : List ℕ) (v : ℤ) (z : Scene) (m : ℕ → ℤ) (g : Log) where
  abbrev left_act : Act
  left_act = rest (alone v l.iterations) code z

  onward_open : z.point.fault ≡ None → at z < l.iterations
      → onward l code v z m g ≡ along l (at z) left_act m g (from l (l.iterations - suc (at z)) (suc (at z)))
  unfolding onward
  onward_open f b = by_none f _ _ ∙ below_yes b _ _

  onward_done : z.point.fault ≡ None → l.iterations ≤ at z → onward l code v z m g ≡ record { cells = m; log = g; outcome = finished }
  unfolding onward
  onward_done f b = by_none f _ _ ∙ below_no b _ _

  onward_failed : (f : Fault) → z.point.fault ≡ Some f → onward l code v z m g ≡ record { cells = m; log = g; outcome = failed f.number f.line (at z) }
  unfolding onward
  onward_failed f e = by_some e _ _

  -- the body of an iteration that begins
  left_body : Coded code v l → z.point.place ≡ 0 → z.point.depth ≡ 0 → at z < l.iterations → left_act ≡ l.body (at z)
  unfolding pendings
  left_body c p d b = rw (p, d) (sym (c.body (at z) b))

  -- an iteration that begins, or the end
  pub onward_begin : Coded code v l → z.point.fault ≡ None → z.point.place ≡ 0 → z.point.depth ≡ 0 → (k : ℕ) → at z + k ≡ l.iterations
      → from l k (at z) m g ≡ onward l code v z m g
  unfolding from
  onward_begin c f p d zero e = sym (onward_done f (omega arith))
  onward_begin c f p d (suc k) e =
      let b : at z < l.iterations = omega arith in
      let n : l.iterations - suc (at z) ≡ k = omega arith in
      sym (onward_open f b ∙ ap (λ (y : Act). along l (at z) y m g (from l (l.iterations - suc (at z)) (suc (at z)))) (left_body c p d b)
      ∙ ap (λ (j : ℕ). along l (at z) (l.body (at z)) m g (from l j (suc (at z)))) n)

-- ---- one step

module _ (code : List ℕ) (v : ℤ) (l : Loop) (z : Scene) (m : ℕ → ℤ) (g : Log) (s : Serving code v l z m g)
    (o : is_open (alone v l.iterations) z ≡ true) where
  abbrev x : Role
  x = alone v l.iterations

  unstopped : z.point.fault ≡ None
  unstopped = (opened_yes z.point l.iterations o).0

  low : at z < l.iterations
  low = (opened_yes z.point l.iterations o).1

  abbrev next : (ℕ → ℤ) → Log → Result
  next = from l (l.iterations - suc (at z)) (suc (at z))

  goes : (a : Act) → rest x code z ≡ a → serial l ≡ along l (at z) a m g next
  goes a e = s.result ∙ onward_open l code v z m g unstopped low ∙ ap (λ (y : Act). along l (at z) y m g next) e

  sized : (a : Act) → rest x code z ≡ a → Sized l.size a
  sized a e = subst (Sized l.size) e (s.sized unstopped low)

  serves : (c : ℕ) → c < l.size → Serves l (at z) c z.cells z.words m g
  serves c b = record { stands = s.stands; low = low; inside = b }

  -- the step can be made
  pub serial_goes : CanGo x code z
  serial_goes = record {
    holding = s.holding;
    low = omega (arith, low, s.stands.suits.iterations_most);
    fits = s.coded.fits (at z) low;
    reach = can_reach x code z l.size (sized _ refl) (λ c y. serves_accessible l (at z) c z.cells z.words m g (serves c y) v);
  }

  module _ (z' : Scene) where
    -- the scene after an access
    moved : (m' : ℕ → ℤ) (g' : Log) → Continues z z' → Serially l (at z) z'.cells z'.words m' g'
        → serial l ≡ along l (at z) (rest x code z') m' g' next → Sized l.size (rest x code z') → (k : ℕ → ℤ) × Serving code v l z' k g'
    moved m' g' c w e y =
        let q : at z ≡ at z' = sym c.same in (
          m',
          record {
            coded = s.coded;
            stands = subst (λ (i : ℕ). Serially l i z'.cells z'.words m' g') q w;
            holding = c.holding;
            result =
                e ∙ ap (λ (i : ℕ). along l i (rest x code z') m' g' (from l (l.iterations - suc i) (suc i))) q
                ∙ sym (onward_open l code v z' m' g' c.unstopped (omega (arith, low)));
            sized = λ _ _. y;
          },
        )

    by : {a : Move} → Happens x code z z' a → (k : ℕ → ℤ) × Serving code v l z' k (grown (at z) m g a)
    unfolding along
    by (happening.reads c k e f h w r) =
        let u = sized _ e in
        let y = serves c u.0 in
        let n : rest x code z' ≡ k (m c) = f ∙ ap k (serves_seen l (at z) c z.cells z.words m g y v) in
        moved m (access reads (at z) c (m c) ∷ g) r (rw (h, w) (serves_read l (at z) c z.cells z.words m g y v (m c))) (goes _ e ∙ rw n)
        (rw n (u.1 (m c)))
    by (happening.writes c y f e h w r) =
        let u = sized _ e in
        moved (put m c y) (access writes (at z) c y ∷ g) r (rw (h, w) (serves_write l (at z) c z.cells z.words m g (serves c u.0) v y f))
        (goes _ e) u.1
    by (happening.updates c y f e h w r) =
        let u = sized _ e in
        moved (put m c ((joining l c).join (m c) y)) (access updates (at z) c y ∷ g) r
        (rw (h, w) (serves_update l (at z) c z.cells z.words m g (serves c u.0) v y)) (goes _ e) u.1
    by (happening.faults n d e h w i f r) = (
      m,
      record {
        coded = s.coded;
        stands = rw (h, w, i) s.stands;
        holding = r;
        result = goes _ e ∙ sym (onward_failed l code v z' m g _ f ∙ rw i);
        sized = λ q _. absurd (not_both _ _ q f);
      },
    )
    by (happening.ends e h w i f p d r) = (
      m,
      record {
        coded = s.coded;
        stands = rw (h, w) (serially_next l (at z) (at z') z.cells z.words m g (omega (arith, i)) s.stands);
        holding = record { size = r; most = omega (arith, d) };
        result =
            goes _ e ∙ ap (λ (j : ℕ). from l (l.iterations - suc (at z)) j m g) (sym i)
            ∙ onward_begin l code v z' m g s.coded f p d (l.iterations - suc (at z)) (omega (arith, i, low));
        sized = λ _ b. rw (left_body l code v z' m g s.coded p d b) (s.stands.suits.proper.sized (at z'));
      },
    )

    -- with one access more, or as many
    pub serial_grown : (h : Goes x code z z') → (k : ℕ → ℤ) × Serving code v l z' k (grown (at z) m g h.reached.done)
    serial_grown h = by (happens x code z z' h)

    serial_went : Goes x code z z' → SerialAt code v l z'
    serial_went h = let (k, t) = serial_grown h in (k, grown (at z) m g h.reached.done, t)

-- ---- all of them

module _ (code : List ℕ) (v : ℤ) (l : Loop) (r : Role) (e : r ≡ alone v l.iterations) where
  along_steps : (z y : Scene) → SerialAt code v l z → Reached (alone v l.iterations) code z y → SerialAt code v l y
  along_steps z y s carrying.start = s
  along_steps z y s (carrying.on {y = u} h o w) = let (m, g, t) = along_steps z u s h in serial_went code v l u m g t o y w

  pub can_serve : (z : Scene) → SerialAt code v l z → CanCarry r code z
  can_serve z s = rw e (λ y h o. let (m, g, t) = along_steps z y s h in serial_goes code v l y m g t o)

  -- where it ends
  pub served : (z z' : Scene) → SerialAt code v l z → Carries ToTheEnd r code z z' → SerialAt code v l z' × (IsSome z'.point.fault ⊎ (l.iterations ≤ at z'))
  unfolding Carries
  served z z' s h = let (y, o) = rw e at h in (along_steps z z' s y, opened_no z'.point l.iterations o)

-- ---- the start and the end

-- before an iteration
pub serving_begin : (code : List ℕ) (v : ℤ) (l : Loop) (i k : ℕ) (M : List ℤ) (W : List ℕ) (m : ℕ → ℤ) (g : Log) → Coded code v l → Serially l i M W m g
    → i + k ≡ l.iterations → serial l ≡ from l k i m g → (a : List ℤ) → Holding a 0 → Serving code v l (scene M W a (unstopped_at 0 0 i)) m g
serving_begin code v l i k M W m g c h n e a o =
    let z = scene M W a (unstopped_at 0 0 i) in
    record {
      coded = c;
      stands = h;
      holding = o;
      result = e ∙ onward_begin l code v z m g c refl refl refl k n;
      sized = λ _ lt. rw (left_body l code v z m g c refl refl lt) (h.suits.proper.sized i);
    }

pub serial_start : (code : List ℕ) (x : Setting) (l : Loop) (M : List ℤ) (C : List Class) (n : ℕ) → Serials code x l M C n → (W : List ℕ)
    → Logged l (by_one l) [] W → (a : List ℤ) → Holding a 0 → SerialAt code x.from l (scene M W a (unstopped_at 0 0 0))
unfolding serial only
serial_start code x l M C n h W w a o = (
  l.entry,
  [],
  serving_begin code x.from l 0 l.iterations M W l.entry [] h.coded
      (record { suits = h.entry.suits; cells = h.entry.cells; words = w; inside = inside_nil; ascending = turn_nil; upto = λ j b. refl })
      (omega arith) refl a o,
)

-- the result at the end
ended : (code : List ℕ) (v : ℤ) (l : Loop) (z : Scene) (m : ℕ → ℤ) (g : Log) → Serving code v l z m g → IsSome z.point.fault ⊎ (l.iterations ≤ at z)
    → serial l ≡ record { cells = m; log = g; outcome = outcome_of z.point }
unfolding outcome_of
ended code v l z m g s h = by z.point.fault refl
  where
    by : (o : Option Fault) → z.point.fault ≡ o → serial l ≡ record { cells = m; log = g; outcome = outcome_of z.point }
    by (Some f) e = s.result ∙ onward_failed l code v z m g f e ∙ rw e
    by None e = s.result ∙ onward_done l code v z m g e (elim h [ inl n ↦ absurd (none_stops _ e n) | inr b ↦ b ]) ∙ rw e

pub serial_end : (code : List ℕ) (v : ℤ) (l : Loop) (z : Scene) → SerialAt code v l z → IsSome z.point.fault ⊎ (l.iterations ≤ at z)
    → IsSerial l z.cells z.words z.point
serial_end code v l z (m, g, s) h =
    let e = ended code v l z m g s h in
    let w = tables_right l (by_one l) s.stands.suits.proper g s.stands.inside s.stands.ascending in
    record {
      cells = rw e s.stands.cells;
      outcome = rw e;
      pairs = rw e (logged_pairs l (by_one l) g z.words s.stands.words w);
      written = rw e (logged_cells l (by_one l) g z.words s.stands.words w);
      kept = record { suits = s.stands.suits; size = ap length s.stands.cells ∙ listed_length l.size m; log = g; words = s.stands.words };
    }
