-- RULES 7.2 and 4.5 (document 01, Obstacles): what a run that passed leaves in the cells. RULES 6 e (The serial run): the two write counts.
use Rattle.std.specs.Prelude.{[], ◌∷◌, Bool, true, false, cond, ℕ, zero, suc, ◌+◌, ℤ}
use Rattle.std.proofs.Math.Option.{Option, none, some, get_or}
use Rattle.rules.specs.Choose.{pick, below}
use Rattle.rules.specs.Operation.{Operation, operation}
use Rattle.rules.specs.declared.Class.{Class}
use Rattle.rules.specs.declared.Class.TheVariants.{Shared as shared, Lastprivate as lastprivate, Copied as copied, Reduction as reduction}
use Rattle.rules.specs.Loop.{Loop, Partition, bound}
use Rattle.rules.specs.Log.{reads, writes, updates, Access, access, iteration, Log, each, written}
use Rattle.rules.specs.Steps.{State}

-- ---- private values

abbrev pub or_else : Option ℤ → Option ℤ → Option ℤ
or_else none o = o
or_else (some v) o = some v

-- what the highest of the iterations below n that wrote c wrote last; `f i` holds the accesses of iteration i
unfoldable pub highest : (ℕ → Log) → ℕ → ℕ → Option ℤ
highest f c zero = none
highest f c (suc n) = or_else (written c (f n)) (highest f c n)

-- "a privately written cell takes the value of the highest iteration that wrote it"
abbrev pub last_value : Loop → ℕ → Log → ℤ
last_value l c g = get_or (highest (λ i. each i g) c l.iterations) (l.entry c)

-- ---- partial results

-- an access updates c
unfoldable pub updated : ℕ → Log → Bool
updated c [] = false
updated c (access reads i d v ∷ g) = updated c g
updated c (access writes i d v ∷ g) = updated c g
updated c (access updates i d v ∷ g) = pick d c true (updated c g)

module _ (o : Operation) where
  -- a partial result for c with one access more
  unfoldable pub add : ℕ → Access → ℤ → ℤ
  add c (access reads i d v) x = x
  add c (access writes i d v) x = x
  add c (access updates i d v) x = pick d c (o.join v x) x

  -- the partial result of the updates of c
  unfoldable pub total : ℕ → Log → ℤ
  total c [] = o.start
  total c (e ∷ g) = add c e (total c g)

  -- the results of k processors, taken together
  unfoldable pub join_all : ℕ → (ℕ → ℤ) → ℤ
  join_all zero f = o.start
  join_all (suc k) f = o.join (join_all k f) (f k)

-- the accesses of processor p
unfoldable pub block : Partition → ℕ → Log → Log
block δ p [] = []
block δ p (e ∷ g) = below (iteration e) (bound δ p) (block δ p g) (below (iteration e) (bound δ (suc p)) (e ∷ block δ p g) (block δ p g))

-- "Updates gather in a sum per processor", by document 02, Point 6, in a partial result: those for c, taken together
unfoldable pub gathered : Operation → Partition → ℕ → Log → ℤ
gathered o δ c g = join_all o δ.processors (λ p. total o c (block δ p g))

-- ---- the cells

-- "updates are added"; Point 6: by the operation of the cell
abbrev pub merged_as : Loop → Partition → Class → State → ℕ → ℤ
merged_as l δ shared s c = s.cells c
merged_as l δ lastprivate s c = last_value l c s.log
merged_as l δ copied s c = last_value l c s.log
merged_as l δ (reduction o) s c =
    cond (updated c s.log) ((operation o).join (last_value l c s.log) (gathered (operation o) δ c s.log)) (last_value l c s.log)

unfoldable pub merged : Loop → Partition → State → ℕ → ℤ
merged l δ s c = merged_as l δ (l.class c) s c

-- ---- the write counts

-- an access writes or updates c
unfoldable pub touches : ℕ → Log → Bool
touches c [] = false
touches c (access reads i d v ∷ g) = touches c g
touches c (access writes i d v ∷ g) = pick d c true (touches c g)
touches c (access updates i d v ∷ g) = pick d c true (touches c g)

-- how many numbers below n pass a test, and the sum of f over them
unfoldable pub count : ℕ → (ℕ → Bool) → ℕ
count zero f = 0
count (suc n) f = cond (f n) 1 0 + count n f

unfoldable pub sum : ℕ → (ℕ → ℕ) → ℕ
sum zero f = 0
sum (suc n) f = f n + sum n f

-- "the different pairs of iteration and cell ... among listed writes and updates"; document 02, Point 3: "The write counts are still by iteration"
unfoldable pub pairs : Loop → Log → ℕ
pairs l g = sum l.iterations (λ i. count l.size (λ c. touches c (each i g)))

-- "and the different cells"
unfoldable pub written_cells : Loop → Log → ℕ
written_cells l g = count l.size (λ c. touches c g)
