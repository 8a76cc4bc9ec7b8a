-- A step by what its processor does: the state after it, and what cells, words and record then stand for.
use mathlib.Core.Path.{◌≡◌, refl, sym, ◌∙◌, ap, subst}
use mathlib.Core.Logic.{◌≢◌}
use mathlib.Core.List.{List}
use Prim.Native.Nat.{ℕ, suc, ◌≤◌, ◌<◌}
use native.Mathlib.Decide.{dec_lt}
use native.Mathlib.Omega.{arith}
use lib.IntN.{ℤ, pos, ◌+ℤ◌}
use Rattle.rules.specs.Choose.{put}
use Rattle.rules.specs.ChooseLaws.{put_same, put_other, below_yes, below_no}
use Rattle.rules.specs.Cells.{listed}
use Rattle.rules.specs.Loop.{Act, read, write, update, fault, done, Loop, Partition, bound}
use Rattle.rules.specs.Log.{reads, writes, updates, access}
use Rattle.rules.specs.Proper.{Sized}
use Rattle.rules.specs.Steps.{State, opening, moved, given, stored, go_on, step}
use Rattle.rules.proofs.TrialRun.{Home, home}
use Rattle.shadow.proofs.Orderly.{step_keeps}
use Rattle.tables.specs.Logged.{Logged}
use Rattle.code.specs.Instr.{instructions, resume}
use Rattle.operands.specs.Pending.{pendings}
use Rattle.stepping.specs.declared.Point.{Point}
use Rattle.stepping.specs.declared.Role.{Role}
use Rattle.stepping.specs.Access.{joined_by}
use Rattle.stepping.specs.Step.{Scene, scene, CanGo, Goes}
use Rattle.operands.specs.declared.Move.{Move}
use Rattle.stepping.proofs.Happening.{rest, can_reach, Continues, Happens, happens}
use Rattle.stepping.proofs.Opened.{by_none, by_some}
use Rattle.stepping.proofs.Happening as happening
use Rattle.trial.specs.declared.Setting.{Setting}
use Rattle.trial.specs.Standing.{Standing, Placed, left_of}
use Rattle.trial.specs.Running.{dealt, Open, role_of}
use Rattle.trial.proofs.AccessLaws.{Allowed, access_accessible, access_seen, access_stored, access_reads, access_writes, access_updates}

-- ---- the step rule

module _ (l : Loop) (δ : Partition) (p : ℕ) (s : State) where
  pub step_is : (a : Act) → (s.places p).at < bound δ (suc p) → (s.places p).act ≡ a → step l δ p s ≡ go_on l δ p a s
  unfolding step
  step_is a lt e = below_yes lt (go_on l δ p (s.places p).act s) s ∙ ap (λ (x : Act). go_on l δ p x s) e

  -- "a finished processor does nothing", and a stopped one
  pub step_finished : bound δ (suc p) ≤ (s.places p).at → step l δ p s ≡ s
  unfolding step
  step_finished h = below_no h (go_on l δ p (s.places p).act s) s

  pub step_stopped : (n t : ℕ) → (s.places p).act ≡ fault n t → step l δ p s ≡ s
  unfolding step go_on
  step_stopped n t e = elim (dec_lt (s.places p).at (bound δ (suc p))) [
    | yes y ↦ step_is (fault n t) y e
    | no y ↦ step_finished (omega arith)
  ]

  -- others stay
  pub step_other : (q : ℕ) → p ≢ q → (step l δ p s).places q ≡ s.places q
  unfolding step go_on
  step_other q n = elim (dec_lt (s.places p).at (bound δ (suc p))) [
    | yes y ↦ ap (λ (u : State). u.places q) (below_yes y (go_on l δ p (s.places p).act s) s) ∙ stays (s.places p).act
    | no y ↦ ap (λ (u : State). u.places q) (below_no {i = (s.places p).at} {j = bound δ (suc p)} (omega arith) (go_on l δ p (s.places p).act s) s)
  ]
    where
      stays : (a : Act) → (go_on l δ p a s).places q ≡ s.places q
      stays (read c k) = put_other n s.places _
      stays (write c v a) = put_other n s.places _
      stays (update c v a) = put_other n s.places _
      stays (fault m t) = refl
      stays done = put_other n s.places _

-- ---- what things stand for after it

module _ (code : List ℕ) (g : Setting) (l : Loop) (M : List ℤ) (W : List ℕ) (s : State) (p : ℕ) (a : List ℤ) (t : Point)
    (o : Open code g l M W s p a t) where
  abbrev δ : Partition
  δ = dealt g

  abbrev m : ℤ
  m = g.from

  abbrev i : ℕ
  i = t.iteration.0

  abbrev x : Role
  x = role_of g p

  abbrev z : Scene
  z = scene M W a t

  here : Home l δ o.running.standing.suits.proper p i
  here =
      let b = o.running.standing.orderly.placed p in
      let q = o.placed.at in
      home l δ o.running.standing.suits.proper p i (omega (arith, b, q)) (omega (arith, o.unfinished, q))

  -- what is left
  open_act : (s.places p).act ≡ rest x code z
  unfolding left_of
  open_act =
      let q = o.placed.at in
      o.placed.act (omega (arith, here.inside, q))
      ∙ by_none o.unstopped _ _
      ∙ ap (λ (j : ℕ). resume (instructions code) t.place (pendings a t.depth) (m +ℤ pos j)) q

  -- the access is of a cell that there is
  allowed : (c : ℕ) → c < l.size → Allowed g l M W s p i c
  allowed c b =
      let q = o.placed.at in
      record { standing = o.running.standing; low = o.low; at = q; unfinished = omega (arith, o.unfinished, q); inside = b }

  sized : (b : Act) → rest x code z ≡ b → Sized l.size b
  sized b q = subst (Sized l.size) (open_act ∙ q) (o.running.standing.orderly.sized p)

  -- the step can be made
  pub open_goes : CanGo x code z
  open_goes = record {
    holding = o.placed.holding;
    low = omega (arith, here.inside, o.running.standing.suits.iterations_most);
    fits = o.running.coded.fits i here.inside;
    reach = can_reach x code z l.size (sized _ refl) (λ c y. access_accessible g l M W s p i c (allowed c y));
  }

  module _ (z' : Scene) where
    abbrev After : Type 0
    After = Standing g.processors l δ z'.cells z'.words (step l δ p s) × Placed code m l z'.pending z'.point ((step l δ p s).places p)

    -- a step that leads to the state u
    after : (u : State) → step l δ p s ≡ u → z'.cells ≡ listed l.size u.cells → Logged l δ u.log z'.words
        → Placed code m l z'.pending z'.point (u.places p) → After
    after u q f w h = (
      record {
        suits = o.running.standing.suits;
        orderly = step_keeps l δ o.running.standing.suits.proper p s o.running.standing.orderly;
        cells = rw q f;
        words = rw q w;
      },
      rw q h,
    )

    -- the record of a processor that goes on with b
    goes_on : (b : Act) → b ≡ rest x code z' → Continues z z'
        → Placed code m l z'.pending z'.point (put s.places p (record { at = (s.places p).at; act = b }) p)
    unfolding left_of
    goes_on b q c =
        let j : (s.places p).at ≡ z'.point.iteration.0 = o.placed.at ∙ sym c.same in
        rw (put_same {i = p} refl s.places (record { at = (s.places p).at; act = b })) (record {
          holding = c.holding;
          at = j;
          act = λ _. q
              ∙ ap (λ (n : ℕ). resume (instructions code) z'.point.place (pendings z'.pending z'.point.depth) (m +ℤ pos n)) (sym j)
              ∙ sym (by_none c.unstopped _ _);
        })

    by : {a : Move} → Happens x code z z' a → After
    unfolding go_on left_of pendings joined_by
    by (happening.reads c on f q h w r) =
        let b = allowed c (sized _ f).0 in
        let v = given l δ (l.class c) s i c in
        let y : rest x code z' ≡ on v = q ∙ ap on (access_seen g l M W s p i c b) in
        after (moved p (access reads i c v) (on v) s.cells s) (step_is l δ p s (read c on) o.unfinished (open_act ∙ f) ∙ rw o.placed.at)
        (h ∙ o.running.standing.cells) (rw w (access_reads g l M W s p i c b v)) (goes_on (on v) (sym y) r)
    by (happening.writes c v y f h w r) =
        let b = allowed c (sized _ f).0 in
        after (moved p (access writes i c v) (rest x code z') (stored (l.class c) s.cells c v) s)
        (step_is l δ p s (write c v (rest x code z')) o.unfinished (open_act ∙ f) ∙ rw o.placed.at)
        (h ∙ access_stored g l M W s p i c b v) (rw w (access_writes g l M W s p i c b v y)) (goes_on _ refl r)
    by (happening.updates c v y f h w r) =
        let b = allowed c (sized _ f).0 in
        after (moved p (access updates i c v) (rest x code z') s.cells s)
        (step_is l δ p s (update c v (rest x code z')) o.unfinished (open_act ∙ f) ∙ rw o.placed.at)
        (h ∙ o.running.standing.cells) (rw w (access_updates g l M W s p i c b v)) (goes_on _ refl r)
    by (happening.faults n d f h w j k r) =
        after s (step_is l δ p s (fault n d) o.unfinished (open_act ∙ f)) (h ∙ o.running.standing.cells) (rw w o.running.standing.words) (record {
          holding = r;
          at = o.placed.at ∙ sym j;
          act = λ _. open_act ∙ f ∙ sym (by_some k _ _);
        })
    by (happening.ends f h w j k q d r) =
        after (record { cells = s.cells; log = s.log; places = put s.places p (opening l (suc i)) })
        (step_is l δ p s done o.unfinished (open_act ∙ f) ∙ rw o.placed.at) (h ∙ o.running.standing.cells) (rw w o.running.standing.words)
        (rw (put_same {i = p} refl s.places (opening l (suc i))) (record {
          holding = record { size = r; most = omega (arith, d) };
          at = sym j;
          act = λ lt. o.running.coded.body (suc i) lt ∙ rw (q, d) (sym (by_none k _ _));
        }))

    pub open_steps : Goes x code z z' → After
    open_steps h = by (happens x code z z' h)
