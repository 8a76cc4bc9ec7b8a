-- What an access needs and gives, by what the words stand for.
use mathlib.Core.Path.{◌≡◌, refl, sym, ◌∙◌, ap, subst}
use mathlib.Core.Bool.{cond}
use mathlib.Core.List.{List, ◌∷◌}
use lib.Dec.{eqb}
use Prim.Native.Nat.{ℕ, suc, ◌<◌}
use native.Mathlib.Decide.{ℕ_discrete}
use native.Mathlib.Omega.{arith}
use lib.ListN.{length, set, length-set}
use lib.IntN.{ℤ}
use mir.Syntax.{w32}
use mir.Val.{SFits}
use Rattle.rules.specs.Choose.{pick, put}
use Rattle.rules.specs.ChooseLaws.{pick_same, pick_other, put_same, put_other}
use Rattle.rules.specs.Cells.{cell_of, listed}
use Rattle.rules.proofs.CellsLaws.{listed_length, cell_listed, listed_same, listed_cells, cell_set}
use Rattle.rules.specs.declared.Operator.TheVariants.{Sum, Product, Maximum}
use Rattle.rules.specs.declared.Class.{Class}
use Rattle.rules.specs.declared.Class.TheVariants.{Shared as shared, Lastprivate as lastprivate, Copied as copied, Reduction as reduction}
use Rattle.rules.specs.Loop.{Loop, Partition, bound}
use Rattle.rules.specs.Numbers.{class_number}
use Rattle.rules.proofs.NumberLaws.{reduction_number}
use Rattle.rules.specs.Log.{reads, writes, updates, Access, access, only}
use Rattle.rules.proofs.BlocksLaws.{tested_bound, tested_group}
use Rattle.rules.specs.Steps.{State, latest, given}
use Rattle.rules.proofs.TrialRun.{Home, home}
use Rattle.shadow.proofs.Shows.{Shows, tables_right, latest_group}
use Rattle.shadow.specs.Orderly.{worker}
use Rattle.shadow.specs.Tables.{table}
use Rattle.tables.specs.Layout.{row_at, own_at, class_word}
use Rattle.noting.specs.Changes.{Ready, read_noted, counted, written, updated, own_seen}
use Rattle.tables.proofs.Logged.{logged_number}
use Rattle.tables.specs.Logged.{Logged}
use Rattle.noting.proofs.Logging.{logged_read, logged_write, logged_update, logged_ready, logged_own}
use Rattle.stepping.specs.declared.Role.{Role}
use Rattle.stepping.specs.Access.{group_of, Accessible, seen_by, stored_by, seen, read_words, stored, written_words, updated_words}
use Rattle.trial.specs.declared.Setting.{Setting}
use Rattle.trial.specs.Standing.{Standing}
use Rattle.trial.specs.Running.{dealt, role_of}
use Rattle.rules.specs.Steps as steps
use Rattle.rules.specs.Numbers.{class_number}

-- processor p, at iteration i, may access cell c
pub record Allowed (g : Setting) (l : Loop) (M : List ℤ) (W : List ℕ) (s : State) (p i c : ℕ) : Type 0 where
  pub standing : Standing g.processors l (dealt g) M W s
  pub low : p < g.processors
  pub at : (s.places p).at ≡ i
  pub unfinished : i < bound (dealt g) (suc p)
  pub inside : c < l.size

-- a store in a list of cells
pub listed_set : (n : ℕ) (f : ℕ → ℤ) (c : ℕ) (v : ℤ) → c < n → set (listed n f) c v ≡ listed n (put f c v)
listed_set n f c v h =
    let m = listed n f in
    let e : length (set m c v) ≡ n = simp length-set (listed_length n f) in
    sym (listed_cells (set m c v))
    ∙ ap (λ (k : ℕ). listed k (cell_of (set m c v))) e
    ∙ ap (λ (g : ℕ → ℤ). listed n g) (cell_set m c v (omega (arith, listed_length n f)))
    ∙ listed_same n (put (cell_of m) c v) (put f c v) (λ d b. elim (ℕ_discrete c d) [
      | yes p ↦ put_same p (cell_of m) v ∙ sym (put_same p f v)
      | no q ↦ put_other q (cell_of m) v ∙ cell_listed n f d b ∙ sym (put_other q f v)
    ])

-- a class by its number
seen_as : (l : Loop) (δ : Partition) (s : State) (i c : ℕ) (k : Class) (x : ℤ) → x ≡ s.cells c → (y : ℤ)
    → y ≡ latest l c (only δ.group (δ.group i) s.log) → pick (class_number k) 0 x y ≡ given l δ k s i c
seen_as l δ s i c shared x e y f = pick_same refl x y ∙ e
seen_as l δ s i c lastprivate x e y f = pick_other {i = 1} {j = 0} (omega arith) x y ∙ f
seen_as l δ s i c copied x e y f = pick_other {i = 3} {j = 0} (omega arith) x y ∙ f
seen_as l δ s i c (reduction o) x e y f = pick_other {i = class_number (reduction o)} {j = 0} (omega (arith, (reduction_number o).0)) x y ∙ f

stored_as : (n : ℕ) (f : ℕ → ℤ) (c : ℕ) (v : ℤ) (k : Class) (M : List ℤ) → M ≡ listed n f → c < n
    → cond (eqb (class_number k) 0) (set M c v) M ≡ listed n (steps.stored k f c v)
stored_as n f c v shared M e b = ap (λ (m : List ℤ). set m c v) e ∙ listed_set n f c v b
stored_as n f c v lastprivate M e b = e
stored_as n f c v copied M e b = e
stored_as n f c v (reduction Sum) M e b = e
stored_as n f c v (reduction Product) M e b = e
stored_as n f c v (reduction Maximum) M e b = e

module _ (g : Setting) (l : Loop) (M : List ℤ) (W : List ℕ) (s : State) (p i c : ℕ) (a : Allowed g l M W s p i c) where
  abbrev δ : Partition
  δ = dealt g

  abbrev x : Role
  x = role_of g p

  abbrev row : ℕ
  row = row_at δ.processors c

  here : Home l δ a.standing.suits.proper p i
  here =
      let o = a.standing.orderly in
      home l δ a.standing.suits.proper p i (omega (arith, o.placed p, a.at)) a.unfinished

  -- the tables are for the setting's processors, and the group is that of the processor's iteration
  processors_are : δ.processors ≡ g.processors
  processors_are = a.standing.suits.processors

  group_is : δ.group i ≡ group_of x i
  group_is =
      let some = a.standing.suits.some in
      let o = a.standing.orderly in
      tested_group g.iterations g.processors some g.grouping p i a.low
      (omega (arith, tested_bound g.iterations g.processors some g.grouping p (omega (arith, a.low)), o.placed p, a.at))
      (omega (arith, tested_bound g.iterations g.processors some g.grouping (suc p) (omega (arith, a.low)), a.unfinished))

  owner_low : worker l δ i < δ.processors
  owner_low = omega (arith, here.owned, a.low, processors_are)

  shows : Shows l δ s.log (table l δ s.log)
  shows = let o = a.standing.orderly in tables_right l δ a.standing.suits.proper s.log o.inside o.ascending

  -- its row lies in the words, and the numbers are within limits
  pub access_accessible : Accessible x M W c
  access_accessible =
      let t = a.standing in
      let u = t.suits in
      record {
        few = u.most;
        among = a.low;
        low = omega (arith, a.inside, u.cells_most);
        inside = omega (arith, a.inside, ap length t.cells, listed_length l.size s.cells);
        ready = subst (λ (k : ℕ). Ready W (row_at k c) (own_at (row_at k c) p)) processors_are
            (logged_ready l δ s.log W t.words u.proper t.orderly.inside t.orderly.ascending u.cells_most u.iterations_most
            u.groups_most c p a.inside (omega (arith, a.low, processors_are)));
      }

  -- what is read
  own_is : own_seen W row (own_at row p) (δ.group i) ≡ latest l c (only δ.group (δ.group i) s.log)
  own_is =
      let o = a.standing.orderly in
      let latest_one = latest_group l δ a.standing.suits.proper i here.inside o.inside
      (λ j f b. o.ahead p j (f ∙ here.owned) (omega (arith, a.at, b))) in
      subst (λ (q : ℕ). own_seen W row (own_at row q) (δ.group i) ≡ latest l c (only δ.group (δ.group i) s.log)) here.owned
      (logged_own l δ s.log W a.standing.words shows c a.inside (δ.group i) latest_one owner_low)

  pub access_seen : seen x i M W c ≡ given l δ (l.class c) s i c
  unfolding seen_by
  access_seen =
      let t = a.standing in
      let by : (k j : ℕ) → ℤ = λ k j. pick (class_word W (row_at k c)) 0 (cell_of M c) (own_seen W (row_at k c) (own_at (row_at k c) p) j) in
      sym (λ n. by (processors_are n) (group_is n))
      ∙ ap (λ (n : ℕ). pick n 0 (cell_of M c) (own_seen W row (own_at row p) (δ.group i))) (logged_number l δ s.log W t.words c a.inside)
      ∙ seen_as l δ s i c (l.class c) (cell_of M c) (ap (λ (n : List ℤ). cell_of n c) t.cells ∙ cell_listed l.size s.cells c a.inside) _ own_is

  -- what is stored
  pub access_stored : (v : ℤ) → stored x M W c v ≡ listed l.size (steps.stored (l.class c) s.cells c v)
  unfolding stored_by
  access_stored v =
      ap (λ (k : ℕ). cond (eqb (class_word W (row_at k c)) 0) (set M c v) M) (sym processors_are)
      ∙ ap (λ (n : ℕ). cond (eqb n 0) (set M c v) M) (logged_number l δ s.log W a.standing.words c a.inside)
      ∙ stored_as l.size s.cells c v (l.class c) M a.standing.cells a.inside

  -- what is noted: the words X that go with the number of processors and the group
  noted : (e : Access) (X : ℕ → ℕ → List ℕ) → Logged l δ (e ∷ s.log) (X δ.processors (δ.group i))
      → Logged l δ (e ∷ s.log) (X g.processors (group_of x i))
  noted e X h =
      subst (λ (k : ℕ). Logged l δ (e ∷ s.log) (X k (group_of x i))) processors_are
      (subst (λ (j : ℕ). Logged l δ (e ∷ s.log) (X δ.processors j)) group_is h)

  pub access_reads : (v : ℤ) → Logged l δ (access reads i c v ∷ s.log) (read_words x i W c)
  access_reads v = noted (access reads i c v) (λ k j. read_noted W (row_at k c) (own_at (row_at k c) p) j)
      (logged_read l δ s.log W a.standing.words p i c here.owned a.inside owner_low v)

  pub access_writes : (v : ℤ) → SFits w32 v → Logged l δ (access writes i c v ∷ s.log) (written_words x i W c v)
  access_writes v f = noted (access writes i c v)
      (λ k j. written (counted W (row_at k c) (own_at (row_at k c) p) i) (row_at k c) (own_at (row_at k c) p) j v)
      (logged_write l δ s.log W a.standing.words p i c here.owned a.inside owner_low v f)

  pub access_updates : (v : ℤ) → Logged l δ (access updates i c v ∷ s.log) (updated_words x i W c v)
  access_updates v = noted (access updates i c v)
      (λ k j. updated (counted W (row_at k c) (own_at (row_at k c) p) i) (row_at k c) (own_at (row_at k c) p) v)
      (logged_update l δ s.log W a.standing.words p i c here.owned a.inside owner_low v)
