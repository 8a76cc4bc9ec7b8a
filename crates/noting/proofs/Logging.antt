-- The words stand for the tables of a log, access by access, and what an access then reads of them. This is what a step over these words cites.
use mathlib.Core.Path.{◌≡◌, ◌∙◌, ap, subst}
use mathlib.Core.List.{List, ◌∷◌}
use mathlib.Core.Option.{Option, get_or}
use Prim.Native.Nat.{ℕ, ◌≤◌, ◌<◌}
use mir.Syntax.{w32}
use mir.Val.{SFits}
use lib.IntN.{ℤ}
use Rattle.rules.specs.Loop.{Loop, joining, Partition}
use Rattle.rules.specs.Log.{reads, writes, updates, Access, access, Log, only}
use Rattle.rules.specs.Steps.{latest}
use Rattle.rules.specs.Proper.{Proper}
use Rattle.rules.specs.Owner.{whose}
use Rattle.shadow.specs.Tables.{tables, note, table}
use Rattle.shadow.specs.Orderly.{Latest, Inside, worker, Ascending}
use Rattle.shadow.proofs.Shows.{Shows}
use Rattle.shadow.proofs.Bounds.{tables_bounded}
use Rattle.tables.specs.Layout.{row_at, own_at, Holds}
use Rattle.noting.specs.Changes.{Ready, read_noted, counted, written, updated, own_seen}
use Rattle.noting.proofs.Accesses.{holds_read, holds_write, holds_update}
use Rattle.noting.proofs.Room.{ready}
use Rattle.tables.specs.Logged.{Logged}
use Rattle.noting.proofs.OwnValue.{own_value_held}

module _ (l : Loop) (δ : Partition) where
  -- ---- one access more, by processor p at iteration i

  module _ (g : Log) (W : List ℕ) (h : Logged l δ g W) (p i c : ℕ) (w : worker l δ i ≡ p) (b : c < l.size) (a : worker l δ i < δ.processors) where
    abbrev row : ℕ
    row = row_at δ.processors c

    -- the words X that go with p's own part
    more : (e : Access) (X : ℕ → List ℕ)
        → Holds l.size δ.processors l.class l.entry (X (own_at row (worker l δ i))) (note δ.group (whose δ) (joining l) e (table l δ g))
        → Logged l δ (e ∷ g) (X (own_at row p))
    unfolding tables
    more e X x = subst (λ (q : ℕ). Logged l δ (e ∷ g) (X (own_at row q))) w x

    pub logged_read : (v : ℤ) → Logged l δ (access reads i c v ∷ g) (read_noted W row (own_at row p) (δ.group i))
    logged_read v = more (access reads i c v) (λ own. read_noted W row own (δ.group i))
        (holds_read l.size δ.processors l.class l.entry W (table l δ g) h δ.group (whose δ) i c b a v)

    pub logged_write : (v : ℤ) → SFits w32 v → Logged l δ (access writes i c v ∷ g) (written (counted W row (own_at row p) i) row (own_at row p) (δ.group i) v)
    logged_write v s = more (access writes i c v) (λ own. written (counted W row own i) row own (δ.group i) v)
        (holds_write l.size δ.processors l.class l.entry W (table l δ g) h δ.group (whose δ) i c b a v s)

    pub logged_update : (v : ℤ) → Logged l δ (access updates i c v ∷ g) (updated (counted W row (own_at row p) i) row (own_at row p) v)
    logged_update v = more (access updates i c v) (λ own. updated (counted W row own i) row own v)
        (holds_update l.size δ.processors l.class l.entry W (table l δ g) h δ.group (whose δ) i c b a v)

-- ---- what is read off

module _ (l : Loop) (δ : Partition) (g : Log) (W : List ℕ) (h : Logged l δ g W) where
  -- there is room for the next access
  pub logged_ready : Proper l δ → Inside l.iterations l.size g → Ascending l δ g → l.size ≤ 4096 → l.iterations ≤ 65535 → δ.groups ≤ 65535
      → (c q : ℕ) → c < l.size → q < δ.processors → Ready W (row_at δ.processors c) (own_at (row_at δ.processors c) q)
  logged_ready o x a s i k = ready l δ δ.processors l.class l.entry W (table l δ g) h (tables_bounded l δ o g x a) s i k

  -- what a group that its processor has not left reads of a cell that is not shared
  pub logged_own : Shows l δ g (table l δ g) → (c : ℕ) → c < l.size → (k : ℕ) → Latest δ.group (whose δ) k g → whose δ k < δ.processors
      → own_seen W (row_at δ.processors c) (own_at (row_at δ.processors c) (whose δ k)) k ≡ latest l c (only δ.group k g)
  logged_own s c b k t a =
      own_value_held δ.processors (l.class c) (l.entry c) W (row_at δ.processors c) ((table l δ g).rows c) (h.rows c b) (whose δ k) k a
      ∙ ap (λ (o : Option ℤ). get_or o (l.entry c)) (s.own c k t)
