-- How a run begins.
use mathlib.Core.Path.{◌≡◌, refl, sym, ◌∙◌, ap, subst}
use mathlib.Core.List.{List, []}
use Prim.Native.Nat.{ℕ, suc, ◌+◌, ◌*◌, ◌≤◌, ◌<◌}
use native.Mathlib.Omega.{arith}
use Rattle.std.proofs.Common.{below_more}
use lib.ListN.{length, get_or, set, replicate}
use lib.Seq.{get_or-set_same, get_or-set_other}
use lib.IntN.{ℤ}
use mir.Syntax.{w32}
use mir.Val.{SFits}
use Rattle.rules.specs.declared.Class.{Class}
use Rattle.rules.specs.declared.Class.TheVariants.{Shared as shared}
use Rattle.stepping.proofs.Opened.{none_stops}
use Rattle.rules.specs.Cells.{cell_of}
use Rattle.rules.proofs.CellsLaws.{listed_length, cell_listed}
use Rattle.rules.specs.Loop.{Loop, Partition, bound}
use Rattle.rules.specs.Blocks.{block_start}
use Rattle.rules.proofs.BlocksLaws.{tested_bound}
use Rattle.rules.specs.Steps.{start, steps, run_on, trial}
use Rattle.shadow.proofs.Orderly.{start_orderly}
use Rattle.tables.specs.Layout.{row_at}
use Rattle.tables.specs.Entered.{begun}
use Rattle.tables.proofs.Held.{rows_apart}
use Rattle.tables.proofs.Start.{Begun, begun_clear, begun_more}
use Rattle.tables.proofs.Logged.{logged_nil}
use Rattle.tables.specs.Logged.{Logged}
use Rattle.operands.specs.Pending.{pendings}
use Rattle.trial.specs.declared.Worker.{Worker}
use Rattle.trial.specs.declared.Setting.{Setting}
use Rattle.trial.specs.Standing.{left_of}
use Rattle.trial.specs.Running.{dealt, nobody, Run}
use Rattle.trial.specs.Start.{Entry, Starts, Crew}

-- ---- the tables

module _ (k : ℕ) (l : Loop) (δ : Partition) (M : List ℤ) (C : List Class) (n : ℕ) (h : Entry k l δ M C n) where
  -- how many cells there are
  pub entry_size : length M ≡ l.size
  entry_size = ap length h.cells ∙ listed_length l.size l.entry

  pub entry_class : (c : ℕ) → c < length M → c < length C
  entry_class c b = omega (arith, h.number, entry_size)

  pub entry_room : (c : ℕ) → c < length M → row_at k c + 6 + 5 * k ≤ n
  entry_room c b = omega (arith, h.room, rows_apart k c l.size (omega (arith, entry_size)))

  pub entry_clear : Begun l.size k l.class l.entry 0 (replicate n 0)
  entry_clear = begun_clear l.size k l.class l.entry n h.room

  -- one cell more
  pub entry_more : (c : ℕ) (W : List ℕ) → c < length M → SFits w32 (cell_of M c) → Begun l.size k l.class l.entry c W
      → Begun l.size k l.class l.entry (suc c) (begun W (row_at k c) k (cell_of M c) (get_or C c shared))
  entry_more c W b f x =
      let lt : c < l.size = omega (arith, entry_size) in
      let e : cell_of M c ≡ l.entry c = ap (λ (m : List ℤ). cell_of m c) h.cells ∙ cell_listed l.size l.entry c lt in
      rw (e, h.classes c lt) (begun_more l.size k l.class l.entry c W x lt (subst (SFits w32) e f))

  pub entry_all : (c : ℕ) (W : List ℕ) → c ≡ length M → Begun l.size k l.class l.entry c W → Logged l δ [] W
  entry_all c W e x = logged_nil l δ W
      (subst (λ (q : ℕ). Begun l.size q l.class l.entry l.size W) (sym h.suits.processors)
      (subst (λ (d : ℕ). Begun l.size k l.class l.entry d W) (e ∙ entry_size) x))

-- ---- the records

-- one record more
pub crew_more : (ws : List Worker) (q : ℕ) (f : ℕ → Worker) → q < length ws → ((j : ℕ) → j < q → get_or ws j nobody ≡ f j) → (j : ℕ) → j < q + 1
    → get_or (set ws q (f q)) j nobody ≡ f j
crew_more ws q f b h = below_more _ _ (λ j c. get_or-set_other ws q j (f q) nobody (omega arith) ∙ h j c) (get_or-set_same ws q (f q) nobody b)

pub starts_run : (code : List ℕ) (g : Setting) (l : Loop) (M : List ℤ) (C : List Class) (n : ℕ) → Starts code g l M C n → (W : List ℕ) (ws : List Worker)
    → Logged l (dealt g) [] W → Crew g ws → Run code g l M W ws (start l (dealt g))
unfolding left_of pendings
starts_run code g l M C n h W ws t r = record {
  running = record {
    coded = h.coded;
    iterations = h.iterations;
    standing = record {
      suits = h.entry.suits;
      orderly = start_orderly l (dealt g) h.entry.suits.proper;
      cells = h.entry.cells;
      words = t;
    };
  };
  crew = λ q b. let e : bound (dealt g) q ≡ block_start g.iterations g.processors q =
      tested_bound g.iterations g.processors h.entry.suits.some g.grouping q (omega arith) in
      rw (r q b) (record {
        holding = record { size = refl; most = omega arith };
        at = e;
        act = λ lt. h.coded.body (bound (dealt g) q) lt;
      });
  halted = λ q b x. absurd (none_stops _ (ap (λ (y : Worker). y.point.fault) (r q b)) x);
}

-- ---- the whole: the schedule's steps, and then all processors to their end

pub run_tried : (code : List ℕ) (g : Setting) (l : Loop) (M : List ℤ) (C : List Class) (n : ℕ) → Starts code g l M C n → (ps : List ℕ)
    (M' : List ℤ) (W' : List ℕ) (ws : List Worker)
    → Run code g l M' W' ws (run_on l (dealt g) g.processors (steps l (dealt g) ps (start l (dealt g)))) → Run code g l M' W' ws (trial l (dealt g) ps)
unfolding trial
run_tried code g l M C n h ps M' W' ws =
    subst (λ (k : ℕ). Run code g l M' W' ws (run_on l (dealt g) k (steps l (dealt g) ps (start l (dealt g))))) (sym h.entry.suits.processors)
