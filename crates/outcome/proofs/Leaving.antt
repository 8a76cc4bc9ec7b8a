-- What a run that came to its end leaves, word by word.
use mathlib.Core.Path.{◌≡◌, ◌∙◌, subst}
use mathlib.Core.Logic.{inl, inr, ◌↔◌}
use mathlib.Core.List.{List}
use Prim.Native.Nat.{ℕ, ◌<◌}
use native.Mathlib.Omega.{arith}
use lib.ListN.{get_or}
use lib.IntN.{ℤ}
use Rattle.int32.specs.Integers.{value}
use Rattle.rules.specs.Loop.{Loop, joining, Partition}
use Rattle.rules.specs.Log.{written}
use Rattle.rules.specs.Merge.{block, total}
use Rattle.rules.specs.Steps.{State, Stopped}
use Rattle.shadow.proofs.Shows.{Shows, tables_right}
use Rattle.shadow.specs.Tables.{table}
use Rattle.tables.specs.Layout.{row_at, own_at, partial_word}
use Rattle.findings.specs.Findings.{private_of}
use Rattle.findings.proofs.Logged.{logged_pairs, logged_cells, logged_marks, logged_obstacle}
use Rattle.trial.specs.declared.Worker.{Worker}
use Rattle.trial.specs.declared.Setting.{Setting}
use Rattle.trial.specs.Running.{dealt, nobody, Run, AllOver}
use Rattle.outcome.specs.Leaves.{Leaves}
use Rattle.std.specs.Prelude.{IsSome}
use Rattle.stepping.proofs.Opened.{stop_of}
use Rattle.trial.proofs.Turns.{run_turn, turn_end, turn_fault}
use Rattle.outcome.proofs.ReadingOff.{standing_record, is_fault}

module _ (code : List ℕ) (g : Setting) (l : Loop) (M : List ℤ) (W : List ℕ) (ws : List Worker) (s : State) (r : Run code g l M W ws s) (o : AllOver g ws) where
  abbrev δ : Partition
  δ = dealt g

  shows : Shows l δ s.log (table l δ s.log)
  shows = let h = r.running.standing in tables_right l δ h.suits.proper s.log h.orderly.inside h.orderly.ascending

  -- which processors met a fault
  stops : (q : ℕ) → q < g.processors → Stopped δ s q ↔ IsSome (get_or ws q nobody).point.fault
  stops q b = (to, from)
    where
      to : Stopped δ s q → IsSome (get_or ws q nobody).point.fault
      to (lt, _) =
          let t = run_turn code g l M W ws s q r b in
          elim (o q b) [ inl y ↦ y | inr y ↦ absurd (omega (arith, turn_end code g l M W s q (get_or ws q nobody) t, t.held.at)) ]

      from : IsSome (get_or ws q nobody).point.fault → Stopped δ s q
      from y =
          let t = run_turn code g l M W ws s q r b in
          let lt = r.halted q b y in
          let (h, e) = stop_of _ y in (
            lt,
            is_fault (s.places q).act h.number h.line (turn_fault code g l M W s q (get_or ws q nobody) t h e lt),
          )

  pub run_leaves : Leaves code g l s M W ws
  run_leaves =
      let h = r.running.standing in
      let rows = h.words.rows in
      let e = h.suits.processors in
      record {
        cells = h.cells;
        private = λ c q b d. subst (λ (k : ℕ). private_of W (own_at (row_at k c) q) ≡ written c (block δ q s.log)) e
            (let w = (rows c b).own q (omega (arith, d, e)) in rw (w.wrote, w.value) (shows.block_last c q));
        partials = λ c q b d. subst (λ (k : ℕ). value (partial_word W (own_at (row_at k c) q)) ≡ total (joining l c) c (block δ q s.log)) e
            (((rows c b).own q (omega (arith, d, e))).partial ∙ shows.partials c q);
        marked = λ c b. rw e at (logged_marks l δ s.log W h.words shows c b);
        cell_records = standing_record g.processors l δ M W s h;
        records = r.crew;
        pair_count = logged_pairs l δ s.log W h.words shows;
        cell_count = logged_cells l δ s.log W h.words shows;
        faults = stops;
        obstacles = λ c b. rw e at (logged_obstacle l δ s.log W h.words shows c b);
      }
