-- What is read off cells, words and records after a run.
use mathlib.Core.Path.{◌≡◌, refl, sym, ◌∙◌, ap}
use mathlib.Core.Logic.{inl, inr, ◌↔◌}
use mathlib.Core.Bool.{Bool, true, false}
use mathlib.Core.List.{List}
use Prim.Native.Nat.{ℕ, suc, ◌≤◌, ◌<◌}
use native.Mathlib.Decide.{ℕ_discrete}
use native.Mathlib.Omega.{arith}
use lib.ListN.{length, get_or, set, length-set}
use lib.Seq.{get_or-set_same, get_or-set_other}
use lib.IntN.{ℤ, pos}
use Rattle.int32.specs.Integers.{value}
use Rattle.rules.specs.Cells.{cell_of, listed}
use Rattle.rules.proofs.CellsLaws.{cell_listed, listed_same, listed_cells}
use Rattle.rules.specs.Loop.{Act, fault, Loop, Partition}
use Rattle.rules.specs.Log.{only}
use Rattle.rules.specs.Obstacles.{ObstacleAt, Obstructed}
use Rattle.rules.specs.Record.{Recorded}
use Rattle.rules.specs.Steps.{State, Faulty, IsFault}
use Rattle.shadow.proofs.Shows.{Shows, tables_right, obstructed_right}
use Rattle.shadow.specs.Tables.{table}
use Rattle.tables.specs.Layout.{row_at, entry_word, lowest_word, highest_word}
use Rattle.findings.specs.Findings.{blocked_of}
use Rattle.tables.proofs.Held.{rows_apart}
use Rattle.findings.proofs.Logged.{logged_record, logged_obstacle, logged_merged, logged_entry}
use Rattle.stepping.proofs.Opened.{stop_of}
use Rattle.trial.specs.declared.Worker.{Worker}
use Rattle.trial.specs.declared.Setting.{Setting}
use Rattle.trial.specs.Standing.{Standing, Kept}
use Rattle.trial.specs.Running.{dealt, nobody, Run, AllOver}
use Rattle.outcome.specs.ReadOff.{Fails}
use Rattle.trial.proofs.Turns.{run_turn, turn_end, turn_fault}
use Rattle.trial.proofs.StandingLaws.{standing_size}
use Rattle.rules.specs.Merge as merge
use Rattle.findings.specs.Findings as findings

-- ---- cells set one by one

-- the first c of the cells are those of f, and the others as they were
pub record SettingTo (f : ℕ → ℤ) (M₀ : List ℤ) (c : ℕ) (M : List ℤ) : Type 0 where
  pub size : length M ≡ length M₀
  pub done : (j : ℕ) → j < c → cell_of M j ≡ f j
  pub rest : (j : ℕ) → c ≤ j → cell_of M j ≡ cell_of M₀ j

pub set_none : (f : ℕ → ℤ) (M : List ℤ) → SettingTo f M 0 M
set_none f M = record { size = refl; done = λ j b. absurd (omega arith); rest = λ j b. refl }

pub set_more : (f : ℕ → ℤ) (M₀ : List ℤ) (c : ℕ) (M : List ℤ) → SettingTo f M₀ c M → c < length M → SettingTo f M₀ (suc c) (set M c (f c))
unfolding cell_of
set_more f M₀ c M h b = record {
  size = simp length-set h.size;
  done = λ j d. elim (ℕ_discrete j c) [
    | yes e ↦ rw e (get_or-set_same M c (f c) (pos 0) b)
    | no n ↦ get_or-set_other M c j (f c) (pos 0) n ∙ h.done j (omega arith)
  ];
  rest = λ j d. get_or-set_other M c j (f c) (pos 0) (omega arith) ∙ h.rest j (omega arith);
}

pub set_all : (f : ℕ → ℤ) (M₀ : List ℤ) (c : ℕ) (M : List ℤ) → SettingTo f M₀ c M → c ≡ length M₀ → (g : ℕ → ℤ)
    → ((j : ℕ) → j < length M₀ → f j ≡ g j) → M ≡ listed (length M₀) g
set_all f M₀ c M h e g k =
    sym (listed_cells M)
    ∙ ap (λ (n : ℕ). listed n (cell_of M)) h.size
    ∙ listed_same (length M₀) (cell_of M) g (λ j b. h.done j (omega arith) ∙ k j b)

-- ---- by what they stand for

-- whether a cell has an obstacle, by its row
abbrev pub blocked_at : List ℕ → ℕ → ℕ → Bool
blocked_at W k c = blocked_of W (row_at k c)

module _ (k : ℕ) (l : Loop) (δ : Partition) (M : List ℤ) (W : List ℕ) (s : State) (h : Standing k l δ M W s) where
  shows : Shows l δ s.log (table l δ s.log)
  shows = tables_right l δ h.suits.proper s.log h.orderly.inside h.orderly.ascending

  -- a cell's obstacle
  pub standing_obstacle : (c : ℕ) → c < length M → ObstacleAt (l.class c) (λ i. only δ.group i s.log) c ↔ (blocked_at W k c ≡ true)
  standing_obstacle c b = rw h.suits.processors at (logged_obstacle l δ s.log W h.words shows c (omega (arith, standing_size k l δ M W s h)))

  -- its record, at any moment of a run
  pub standing_record : (c : ℕ) → c < l.size
      → Recorded (λ i. only δ.group i s.log) c (lowest_word W (row_at k c)) (highest_word W (row_at k c))
  standing_record c b = rw h.suits.processors at (logged_record l δ s.log W h.words shows c b)

  pub standing_obstructed : (c : ℕ) → c < length M → blocked_at W k c ≡ true → Obstructed l δ.group s.log
  standing_obstructed c b e = (c, (standing_obstacle c b).1 e)

  pub standing_free : ((c : ℕ) → c < length M → blocked_at W k c ≡ false) → Obstructed l δ.group s.log → ⊥
  standing_free f o =
      let x = obstructed_right l δ s.log (table l δ s.log) h.orderly.inside shows in
      let (c, b, y) = x.0 o in
      let d : c < length M = omega (arith, b, standing_size k l δ M W s h) in
      let t = (standing_obstacle c d).0 ((shows.obstacle (l.class c) c).0 y) in
      let z : ◌≡◌ {A = ℕ} 0 1 = cc (f c d, t) in
      omega arith

  -- the merge of a cell
  pub standing_merged : (c : ℕ) → c < length M → findings.merged W (row_at k c) k (cell_of M c) ≡ merge.merged l δ s c
  standing_merged c b =
      let lt : c < l.size = omega (arith, standing_size k l δ M W s h) in
      ap (findings.merged W (row_at k c) k) (ap (λ (m : List ℤ). cell_of m c) h.cells ∙ cell_listed l.size s.cells c lt)
      ∙ ap (λ (q : ℕ). findings.merged W (row_at q c) q (s.cells c)) (sym h.suits.processors)
      ∙ logged_merged l δ s W h.words shows c lt

  pub standing_kept : Kept k l δ M W
  standing_kept = record { suits = h.suits; size = standing_size k l δ M W s h; log = s.log; words = h.words }

-- the values at entry
module _ (k : ℕ) (l : Loop) (δ : Partition) (M : List ℤ) (W : List ℕ) (h : Kept k l δ M W) where
  pub kept_room : (c : ℕ) → c < length M → row_at k c < length W
  kept_room c b =
      let w : row_at k l.size ≤ length W = rw h.suits.processors at h.words.size in
      omega (arith, w, rows_apart k c l.size (omega (arith, h.size)))

  pub kept_entry : (c : ℕ) → c < length M → value (entry_word W (row_at k c)) ≡ l.entry c
  kept_entry c b = rw h.suits.processors at (logged_entry l δ h.log W h.words c (omega (arith, h.size)))

-- ---- faults

pub is_fault : (a : Act) (n t : ℕ) → a ≡ fault n t → IsFault a
is_fault a n t e = rw e tt

-- after the end, a fault in the records is a fault met
pub fails_right : (code : List ℕ) (g : Setting) (l : Loop) (M : List ℤ) (W : List ℕ) (ws : List Worker) (s : State) → Run code g l M W ws s
    → AllOver g ws → (r : Bool) → Fails g.processors ws r → Faulty (dealt g) s ↔ (r ≡ true)
fails_right code g l M W ws s u o r f = (to r refl, from)
  where
    to : (b : Bool) → r ≡ b → Faulty (dealt g) s → r ≡ true
    to true e x = e
    to false e (q, d, (lt, _)) =
        let b : q < g.processors = omega (arith, d, u.running.standing.suits.processors) in
        let t = run_turn code g l M W ws s q u b in
        let z = f.none e q b in
        absurd (elim (o q b) [
          | inl y ↦ (let e : ◌≡◌ {A = ℕ} 0 1 = cc in omega arith)
          | inr y ↦ omega (arith, turn_end code g l M W s q (get_or ws q nobody) t, t.held.at)
        ])

    from : r ≡ true → Faulty (dealt g) s
    from e =
        let (q, b, y) = f.some e in
        let t = run_turn code g l M W ws s q u b in
        let lt = u.halted q b y in
        let (h, e) = stop_of _ y in (
          q,
          omega (arith, b, u.running.standing.suits.processors),
          (
            lt,
            is_fault (s.places q).act h.number h.line (turn_fault code g l M W s q (get_or ws q nobody) t h e lt),
          ),
        )
