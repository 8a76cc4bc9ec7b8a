-- The accesses of the serial run, noted for one processor.
use mathlib.Core.Path.{◌≡◌, ◌∙◌, ap}
use mathlib.Core.List.{List, ◌∷◌}
use Prim.Native.Nat.{ℕ, ◌≤◌, ◌<◌}
use native.Mathlib.Omega.{arith}
use lib.ListN.{length, set}
use lib.IntN.{ℤ}
use mir.Syntax.{w32}
use mir.Val.{SFits}
use Rattle.rules.specs.Choose.{put}
use Rattle.rules.specs.Cells.{cell_of, listed}
use Rattle.rules.proofs.CellsLaws.{listed_length, cell_listed}
use Rattle.rules.specs.Operation.{operation}
use Rattle.rules.specs.Loop.{operator, Loop, joining, Partition}
use Rattle.rules.specs.Blocks.{singles}
use Rattle.rules.specs.Log.{Kind, reads, writes, updates, access, Log}
use Rattle.rules.specs.LogLaws.{only_other}
use Rattle.rules.proofs.Progress.{bound_first, bound_last}
use Rattle.rules.proofs.TrialRun.{home}
use Rattle.shadow.specs.Orderly.{turn_cons, inside_cons, worker}
use Rattle.tables.specs.Logged.{Logged}
use Rattle.tables.proofs.Logged.{logged_class}
use Rattle.noting.proofs.Logging.{logged_read, logged_write, logged_update, logged_ready}
use Rattle.stepping.specs.declared.Role.{Role}
use Rattle.stepping.specs.Access.{Accessible, seen_by, stored_by, joined_by, seen, read_words, stored, written_words, joined, updated_words}
use Rattle.serial.specs.Serving.{by_one, alone, Serially}
use Rattle.trial.proofs.AccessLaws.{listed_set}
use Rattle.serial.proofs.Serving.{Serves}

-- the one processor has all iterations
owned : (l : Loop) (i : ℕ) (M : List ℤ) (W : List ℕ) (m : ℕ → ℤ) (g : Log) → Serially l i M W m g → (j : ℕ) → j < l.iterations → worker l (by_one l) j ≡ 0
unfolding singles
owned l i M W m g h j b =
    let p = h.suits.proper in
    (home l (by_one l) p 0 j (omega (arith, bound_first l (by_one l) p)) (omega (arith, bound_last l (by_one l) p 1 (omega arith)))).owned

module _ (l : Loop) (i c : ℕ) (M : List ℤ) (W : List ℕ) (m : ℕ → ℤ) (g : Log) (s : Serves l i c M W m g) (v : ℤ) where
  abbrev δ : Partition
  δ = by_one l

  abbrev x : Role
  x = alone v l.iterations

  mine : worker l δ i ≡ 0
  mine = owned l i M W m g s.stands i s.low

  low : worker l δ i < 1
  low = omega (arith, mine)

  pub serves_accessible : Accessible x M W c
  unfolding singles
  serves_accessible =
      let t = s.stands in
      let u = t.suits in
      record {
        few = omega arith;
        among = omega arith;
        low = omega (arith, s.inside, u.cells_most);
        inside = omega (arith, s.inside, ap length t.cells, listed_length l.size m);
        ready = logged_ready l δ g W t.words u.proper t.inside t.ascending u.cells_most u.iterations_most u.iterations_most c 0
            s.inside (omega arith);
      }

  stands_as : cell_of M c ≡ m c
  stands_as = ap (λ (y : List ℤ). cell_of y c) s.stands.cells ∙ cell_listed l.size m c s.inside

  -- "A read gives the cell as it now stands, whatever its clause"
  pub serves_seen : seen x i M W c ≡ m c
  unfolding seen_by
  serves_seen = stands_as

  -- one access more
  more : (k : Kind) (y : ℤ) (M' : List ℤ) (W' : List ℕ) (m' : ℕ → ℤ) → M' ≡ listed l.size m' → Logged l δ (access k i c y ∷ g) W'
      → Serially l i M' W' m' (access k i c y ∷ g)
  more k y M' W' m' e w = record {
    suits = s.stands.suits;
    cells = e;
    words = w;
    inside = inside_cons s.low s.inside s.stands.inside;
    ascending = turn_cons (λ j e b. s.stands.upto j b) s.stands.ascending;
    upto = λ j b. only_other (λ n. n) (access k i c y) (omega (arith, b)) g ∙ s.stands.upto j b;
  }

  pub serves_read : (y : ℤ) → Serially l i M (read_words x i W c) m (access reads i c y ∷ g)
  unfolding singles
  serves_read y = more reads y M _ m s.stands.cells (logged_read l δ g W s.stands.words 0 i c mine s.inside low y)

  -- "a write stores in place"
  pub serves_write : (y : ℤ) → SFits w32 y → Serially l i (stored x M W c y) (written_words x i W c y) (put m c y) (access writes i c y ∷ g)
  unfolding singles stored_by
  serves_write y f = more writes y (set M c y) _ (put m c y)
      (ap (λ (n : List ℤ). set n c y) s.stands.cells ∙ listed_set l.size m c y s.inside)
      (logged_write l δ g W s.stands.words 0 i c mine s.inside low y f)

  -- "an update adds its remainder to the cell"; document 02, Point 6: or joins it otherwise, by its class
  pub serves_update : (y : ℤ) → Serially l i (joined x M W c y) (updated_words x i W c y) (put m c ((joining l c).join (m c) y)) (access updates i c y ∷ g)
  unfolding singles joined_by
  serves_update y =
      let o = logged_class l δ g W s.stands.words c s.inside in
      let z : ℤ = (joining l c).join (m c) y in
      more updates y _ _ (put m c z)
      ((λ n. set (s.stands.cells n) c ((operation (operator (o n))).join (stands_as n) y)) ∙ listed_set l.size m c z s.inside)
      (logged_update l δ g W s.stands.words 0 i c mine s.inside low y)

-- the next iteration
pub serially_next : (l : Loop) (i j : ℕ) (M : List ℤ) (W : List ℕ) (m : ℕ → ℤ) (g : Log) → i ≤ j → Serially l i M W m g → Serially l j M W m g
serially_next l i j M W m g b h = record {
  suits = h.suits;
  cells = h.cells;
  words = h.words;
  inside = h.inside;
  ascending = h.ascending;
  upto = λ n c. h.upto n (omega arith);
}
