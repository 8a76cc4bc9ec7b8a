-- The shadow tables: what is kept of a log so that marks, obstacles, private values, partial results and write counts can be read off in a few steps.
use Rattle.std.specs.Prelude.{[], ◌∷◌, Bool, true, false, cond, ◌⊎◌, ◌≡◌, ℕ, zero, suc, min, max, ◌+◌, ◌<◌, ℤ, pos}
use Rattle.std.proofs.Math.Option.{Option, none, some}
use Rattle.rules.specs.Choose.{pick, put, below}
use Rattle.rules.specs.Operation.{Operation}
use Rattle.rules.specs.declared.Class.{Class}
use Rattle.rules.specs.declared.Class.TheVariants.{Shared as shared, Lastprivate as lastprivate, Copied as copied, Reduction as reduction}
use Rattle.rules.specs.Loop.{Loop, joining, Partition}
use Rattle.rules.specs.Owner.{whose}
use Rattle.rules.specs.Log.{Kind, reads, writes, updates, Access, access, Log}

-- of a processor and a cell
pub record Own : Type 0 where
  pub value : ℤ  -- the last private value
  pub wrote : ℕ  -- 1 + the group of the last ordinary write, 0 if none
  pub exposed : ℕ  -- 1 + the group of the last exposed read, 0 if none
  pub partial : ℤ  -- the partial result of its updates
  pub touched : ℕ  -- 1 + the iteration of the last write or update, 0 if none

-- of a cell
pub record Row : Type 0 where
  pub met : ℕ  -- how many groups wrote it or read it exposed
  pub writers : ℕ  -- how many groups wrote it
  -- document 02, Point 5: "The record of a cell now holds the lowest-numbered iteration that writes it and the highest-numbered that so reads it"
  pub lowest : ℕ  -- 1 + the lowest group that wrote it, 0 if none
  pub highest : ℕ  -- 1 + the highest group that read it exposed, 0 if none
  pub crossed : Bool  -- a group read it first and then wrote it
  pub updated : Bool  -- it was updated
  pub own : ℕ → Own

pub record Tables : Type 0 where
  pub rows : ℕ → Row
  pub pairs : ℕ  -- different pairs of iteration and cell among writes and updates
  pub cells : ℕ  -- different cells among them

-- one more unless the processor's group wrote the cell or read it exposed already
abbrev pub newcomer : ℕ → Own → ℕ → ℕ
newcomer g o m = pick o.wrote (suc g) m (pick o.exposed (suc g) m (suc m))

-- the lower of the stamp s, 1 + a group, and a word that is a stamp or 0 for none
abbrev pub lower : ℕ → ℕ → ℕ
lower s w = pick w 0 s (min s w)

-- o is what updates of the cell do
module _ (o : Operation) where
  -- an access by iteration i of group g, with the value v: what its processor keeps of the cell
  abbrev pub kept : Kind → ℕ → ℕ → ℤ → Own → Own
  kept reads g i v w = record {
    value = w.value;
    wrote = w.wrote;
    exposed = pick w.wrote (suc g) w.exposed (suc g);
    partial = w.partial;
    touched = w.touched;
  }
  kept writes g i v w = record { value = v; wrote = suc g; exposed = w.exposed; partial = w.partial; touched = suc i }
  kept updates g i v w = record { value = w.value; wrote = w.wrote; exposed = w.exposed; partial = o.join v w.partial; touched = suc i }

  -- and what is kept of the cell; p is the processor
  abbrev pub noted : Kind → ℕ → ℕ → ℕ → ℤ → Row → Row
  noted reads p g i v r = record {
    met = newcomer g (r.own p) r.met;
    writers = r.writers;
    lowest = r.lowest;
    highest = pick (r.own p).wrote (suc g) r.highest (max (suc g) r.highest);
    crossed = r.crossed;
    updated = r.updated;
    own = put r.own p (kept reads g i v (r.own p));
  }
  noted writes p g i v r = record {
    met = newcomer g (r.own p) r.met;
    writers = pick (r.own p).wrote (suc g) r.writers (suc r.writers);
    lowest = pick (r.own p).wrote (suc g) r.lowest (lower (suc g) r.lowest);
    highest = r.highest;
    crossed = pick (r.own p).exposed (suc g) true r.crossed;
    updated = r.updated;
    own = put r.own p (kept writes g i v (r.own p));
  }
  noted updates p g i v r = record {
    met = r.met;
    writers = r.writers;
    lowest = r.lowest;
    highest = r.highest;
    crossed = r.crossed;
    updated = true;
    own = put r.own p (kept updates g i v (r.own p));
  }

-- one more if iteration i had not written or updated the cell, and if nobody had
abbrev pub paired : Kind → ℕ → Own → ℕ → ℕ
paired reads i o m = m
paired writes i o m = pick o.touched (suc i) m (suc m)
paired updates i o m = pick o.touched (suc i) m (suc m)

abbrev pub celled : Kind → Row → ℕ → ℕ
celled reads r m = m
celled writes r m = cond r.updated m (pick r.writers 0 (suc m) m)
celled updates r m = cond r.updated m (pick r.writers 0 (suc m) m)

-- γ takes an iteration to its group, π a group to its processor, ops a cell to what its updates do
module _ (γ π : ℕ → ℕ) (ops : ℕ → Operation) where
  unfoldable pub note : Access → Tables → Tables
  note (access k i c v) t = record {
    rows = put t.rows c (noted (ops c) k (π (γ i)) (γ i) i v (t.rows c));
    pairs = paired k i ((t.rows c).own (π (γ i))) t.pairs;
    cells = celled k (t.rows c) t.cells;
  }

  -- a cell before any access. Document 02, Point 6: "Partial results start at 1 and −2147483648"
  abbrev pub blank : ℕ → Row
  blank c = record {
    met = 0;
    writers = 0;
    lowest = 0;
    highest = 0;
    crossed = false;
    updated = false;
    own = λ p. record { value = pos 0; wrote = 0; exposed = 0; partial = (ops c).start; touched = 0 };
  }

  -- the tables of a log
  unfoldable pub tables : Log → Tables
  tables [] = record { rows = blank; pairs = 0; cells = 0 }
  tables (e ∷ l) = note e (tables l)

-- of a loop's log
abbrev pub table : Loop → Partition → Log → Tables
table l δ g = tables δ.group (whose δ) (joining l) g

-- the private value of the highest of the processors below k that wrote
unfoldable pub chosen : (ℕ → Own) → ℕ → Option ℤ
chosen own zero = none
chosen own (suc k) = pick (own k).wrote 0 (chosen own k) (some (own k).value)

-- what a processor wrote last
abbrev pub last_own : Own → Option ℤ
last_own o = pick o.wrote 0 none (some o.value)

-- what group g reads of its own
abbrev pub own_value : ℕ → Own → Option ℤ
own_value g o = pick o.wrote (suc g) (some o.value) none

-- marks read off
unfoldable pub shown : Row → ℕ
shown r = below 0 r.writers 1 0 + below r.writers r.met 2 0 + cond r.crossed 4 0 + cond r.updated 8 0

-- a group wrote it, a group read it exposed, and two different groups did one or the other
abbrev pub StaleRow : Row → Type 0
StaleRow r = (0 < r.writers) × (1 < r.met) × ((r.writers < r.met) ⊎ (r.crossed ≡ true))

-- obstacles read off
abbrev pub Blocked : Class → Row → Type 0
Blocked shared r = (0 < r.writers) × (1 < r.met)
Blocked lastprivate r = StaleRow r
Blocked copied r = (0 < r.lowest) × (r.lowest < r.highest)
Blocked (reduction o) r = StaleRow r ⊎ ((0 < r.met) × (r.updated ≡ true))
