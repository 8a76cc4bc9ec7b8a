-- The stages from the accesses in serial order, a few steps for each: what is kept of a cell are the iteration that touched it last and two numbers of the
-- iterations before that one (src/lib.rt, Row). The stage of the last toucher is known only when that iteration has ended, so it enters the two numbers when
-- the next iteration touches the cell.
use Rattle.std.specs.Prelude.{[], ◌∷◌, true, false, cond, ℕ, zero, suc, max}
use Rattle.rules.specs.Choose.{pick, put}
use Rattle.rules.specs.Log.{Kind, reads, writes, updates, Access, access, Log, each}
use Rattle.reorder.specs.declared.Row.{Row}

pub record Table : Type 0 where
  pub rows : ℕ → Row
  pub stages : ℕ → ℕ  -- of the iterations that have ended
  pub over : ℕ  -- the highest stage that the current iteration has to come after, by its accesses so far
  pub count : ℕ  -- the highest stage of those that have ended

-- the stage of the last toucher
unfoldable pub latest : (ℕ → ℕ) → ℕ → ℕ
latest s zero = 0
latest s (suc i) = s i

-- the row as iteration i finds it: at its first touch the last toucher becomes one of the lower iterations
unfoldable pub opened : (ℕ → ℕ) → ℕ → Row → Row
opened s i r = pick r.last (suc i) r (record {
  last = suc i;
  changes = false;
  changed = cond r.changes (max r.changed (latest s r.last)) r.changed;
  touched = max r.touched (latest s r.last);
})

-- what an access has to come after: a read after what changes the cell, a write or an update after all that touches it
unfoldable pub needs : Kind → Row → ℕ
needs reads r = r.changed
needs writes r = r.touched
needs updates r = r.touched

unfoldable pub marked : Kind → Row → Row
marked reads r = r
marked writes r = record { last = r.last; changes = true; changed = r.changed; touched = r.touched }
marked updates r = record { last = r.last; changes = true; changed = r.changed; touched = r.touched }

-- an access
unfoldable pub note : Access → Table → Table
note (access k i c v) t =
    let r = opened t.stages i (t.rows c) in
    record { rows = put t.rows c (marked k r); stages = t.stages; over = max (needs k r) t.over; count = t.count }

-- the end of iteration i
unfoldable pub close : ℕ → Table → Table
close i t = record { rows = t.rows; stages = put t.stages i (suc t.over); over = 0; count = max t.count (suc t.over) }

-- the accesses of an iteration, so far
unfoldable pub noted : Log → Table → Table
noted [] t = t
noted (e ∷ h) t = note e (noted h t)

-- the iterations below n, one after another
unfoldable pub swept : Log → ℕ → Table
swept g zero = record { rows = λ c. record { last = 0; changes = false; changed = 0; touched = 0 }; stages = λ i. 0; over = 0; count = 0 }
swept g (suc i) = close i (noted (each i g) (swept g i))

-- while iteration i runs, after the accesses g
unfoldable pub during : Log → ℕ → Table
during g i = noted (each i g) (swept g i)
