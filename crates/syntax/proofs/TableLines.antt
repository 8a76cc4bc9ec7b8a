-- A sane table stays so after a good line of the heading: `integer` lines add entries at its end, `data` lines and the directive change data
-- and classes alone.
use mathlib.Core.Path.{◌≡◌, refl, ◌∙◌, ap}
use mathlib.Core.Bool.{Bool, true, false, cond, not}
use mathlib.Core.List.{List, [], ◌∷◌, ◌++◌, map}
use mathlib.Core.Option.{Option, none, some}
use Prim.Native.Nat.{ℕ, suc, ◌+◌, ◌≤◌}
use native.Mathlib.Omega.{arith}
use lib.Dec.{leb, eqb}
use lib.ListN.{length, length-append, length-map, length-replicate, replicate}
use lib.IntN.{ℤ}
use mir.Syntax.{w32}
use mir.Val.{SFits}
use borrow.Author.Tests.{leb-true, eqb-true, not-true}
use Rattle.syntax.specs.Bytes.{all, any, same, between}
use Rattle.syntax.specs.Grammar.{number, Declared, Item, item, Clause, declare, give}
use Rattle.syntax.specs.Known.{Entry, named, known, find, total, cells, declared_name, declared_size, signed, copies_of, copies, values, State, entries, give_to, classify}
use Rattle.syntax.specs.Conditions.{concat, digits, in_item, in_line, is_given, different, rightly, names, small, limits}
use Rattle.syntax.specs.Sane.{Each, Laid, SaneEntry, SaneTable}
use Rattle.syntax.proofs.Spelling.{both_true, same_true}
use Rattle.syntax.proofs.TestLaws.{both_hold, neither_holds, cond_each, same_comm_false, all_parts, any_append, each_append, each_none, none_each, each_replicate, each_weaken, each_map}
use Rattle.syntax.proofs.LoopValues.{signed_size, small_fits}

abbrev name_of : Entry → List ℕ
name_of e = e.name

pub total_append : {A : Type 0} (f : A → ℕ) (xs ys : List A) → total f (xs ++ ys) ≡ total f xs + total f ys
total_append f [] ys = omega arith
total_append f (x ∷ xs) ys = omega (arith, total_append f xs ys)

-- ---- entries at the end

laid_append : (c : ℕ) (t u : List Entry) → Laid c t → Laid (c + cells t) u → Laid c (t ++ u)
laid_append c [] u h k = let e : c + 0 ≡ c = omega arith in rw e at k
laid_append c (e ∷ es) u h k =
    (h.0, laid_append (c + e.size) es u h.1 (let q : c + (e.size + cells es) ≡ c + e.size + cells es = omega arith in rw q at k))

entries_laid : (c : ℕ) (ds : List Declared) → Laid c (entries c ds)
entries_laid c [] = tt
entries_laid c (d ∷ ds) = (refl, entries_laid (c + declared_size d) ds)

pub entries_cells : (c : ℕ) (ds : List Declared) → cells (entries c ds) ≡ total declared_size ds
entries_cells c [] = refl
entries_cells c (d ∷ ds) = ap (◌+◌ (declared_size d)) (entries_cells (c + declared_size d) ds)

pub entries_length : (c : ℕ) (ds : List Declared) → length (entries c ds) ≡ length ds
entries_length c [] = refl
entries_length c (d ∷ ds) = ap suc (entries_length (c + declared_size d) ds)

entries_names : (c : ℕ) (ds : List Declared) → map name_of (entries c ds) ≡ map declared_name ds
entries_names c [] = refl
entries_names c (d ∷ ds) = ap (◌∷◌ (declared_name d)) (entries_names (c + declared_size d) ds)

entries_sane : (c : ℕ) (ds : List Declared) → all (λ d. between 1 4096 (declared_size d)) ds ≡ true → Each SaneEntry (entries c ds)
entries_sane c [] h = tt
entries_sane c (d ∷ ds) h =
    let (a, b) = both_true (between 1 4096 (declared_size d)) (all (λ d. between 1 4096 (declared_size d)) ds) h in
    let (p, q) = both_true (leb 1 (declared_size d)) (leb (declared_size d) 4096) a in (
      record { shaped = refl; some_cells = leb-true 1 (declared_size d) p; few_cells = leb-true (declared_size d) 4096 q; given = tt },
      entries_sane (c + declared_size d) ds b,
    )

different_parts : (x : List ℕ) (xs : List (List ℕ)) → different (x ∷ xs) ≡ true → (any (same x) xs ≡ false) × (different xs ≡ true)
different_parts x xs h = let (a, b) = both_true (not (any (same x) xs)) (different xs) h in (not-true _ a, b)

-- names of a table and further ones that it does not know
different_append : (t : List Entry) (xs : List (List ℕ)) → different (map name_of t) ≡ true → different xs ≡ true → Each (λ x. known x t ≡ false) xs
    → different (map name_of t ++ xs) ≡ true
different_append [] xs p q n = q
different_append (e ∷ es) xs p q n =
    let (u, b) = different_parts e.name (map name_of es) p in
    let apart : (x : List ℕ) → known x (e ∷ es) ≡ false → same e.name x ≡ false = λ x k. same_comm_false x e.name (unknown x k).0 in
    let w : any (same e.name) xs ≡ false = none_each (λ x. known x (e ∷ es) ≡ false) (same e.name) apart xs n in
    let r = each_weaken (λ x. known x (e ∷ es) ≡ false) (λ x. known x es ≡ false) (λ x k. (unknown x k).1) xs n in
    let m : any (same e.name) (map name_of es ++ xs) ≡ false = any_append (same e.name) (map name_of es) xs ∙ cc in
    both_hold (ap not m) (different_append es xs b q r)
  where
    unknown : (x : List ℕ) → known x (e ∷ es) ≡ false → (named x e ≡ false) × (known x es ≡ false)
    unknown x = neither_holds (named x e) (known x es)

map_append_names : (t u : List Entry) → map name_of (t ++ u) ≡ map name_of t ++ map name_of u
map_append_names [] u = refl
map_append_names (e ∷ es) u = ap (◌∷◌ e.name) (map_append_names es u)

append_sane : (t : List Entry) (ds : List Declared) → SaneTable t → different (map declared_name ds) ≡ true
    → Each (λ x. known x t ≡ false) (map declared_name ds)
    → length t + length ds ≤ 16 → all (λ d. between 1 4096 (declared_size d)) ds ≡ true → cells t + total declared_size ds ≤ 4096
    → SaneTable (t ++ entries (cells t) ds)
append_sane t ds h p n x y z =
    let c = cells t in
    let u = entries c ds in
    record {
      laid = laid_append 0 t u h.laid (let q : 0 + c ≡ c = omega arith in rw q (entries_laid c ds));
      sized = each_append SaneEntry t u h.sized (entries_sane c ds y);
      apart = rw (map_append_names t u, entries_names c ds) (different_append t (map declared_name ds) h.apart p n);
      few_names = rw (length-append t u, entries_length c ds) x;
      few_cells = rw (total_append (λ e. e.size) t u, entries_cells c ds) z;
    }

pub declare_sane : (s : State) (d : Declared) (ds : List Declared) → names s (declare d ds) ≡ true → limits s (declare d ds) ≡ true
    → SaneTable s.table
    → SaneTable (s.table ++ entries (cells s.table) (d ∷ ds))
unfolding names limits
declare_sane s d ds n l h =
    let t = s.table in
    let xs = map declared_name (d ∷ ds) in
    let (_, o) = both_true (all (rightly s.table s.variable) (in_line (declare d ds))) _ n in
    let (p, q) = both_true (different xs) (not (any (λ x. known x t) xs)) o in
    let (x, yz) = both_true (leb (length t + length (d ∷ ds)) 16) _ (both_true (all small (in_line (declare d ds))) _ l).1 in
    let (y, z) = both_true (all (λ e. between 1 4096 (declared_size e)) (d ∷ ds)) (leb (cells t + total declared_size (d ∷ ds)) 4096) yz in
    append_sane t (d ∷ ds) h p (each_none _ (λ x. known x t) (λ x e. e) xs (not-true _ q)) (leb-true _ _ x) y (leb-true _ _ z)

-- ---- entries that keep their cells

record Shape (f : Entry → Entry) : Type 0 where
  names : (e : Entry) → (f e).name ≡ e.name
  firsts : (e : Entry) → (f e).first ≡ e.first
  sizes : (e : Entry) → (f e).size ≡ e.size

module _ (f : Entry → Entry) (k : Shape f) where
  laid_map : (c : ℕ) (t : List Entry) → Laid c t → Laid c (map f t)
  laid_map c [] h = tt
  laid_map c (e ∷ es) h = (k.firsts e ∙ h.0, rw (k.sizes e) (laid_map (c + e.size) es h.1))

  names_map : (t : List Entry) → map name_of (map f t) ≡ map name_of t
  names_map [] = refl
  names_map (e ∷ es) = λ i. k.names e i ∷ names_map es i

  cells_map : (t : List Entry) → cells (map f t) ≡ cells t
  cells_map [] = refl
  cells_map (e ∷ es) = λ i. k.sizes e i + cells_map es i

  map_sane : (t : List Entry) → SaneTable t → Each SaneEntry (map f t) → SaneTable (map f t)
  map_sane t h s = record {
    laid = laid_map 0 t h.laid;
    sized = s;
    apart = rw (names_map t) h.apart;
    few_names = rw (length-map t f) h.few_names;
    few_cells = rw (cells_map t) h.few_cells;
  }

classify_shape : (cs : List Clause) → Shape (classify cs)
classify_shape cs = record { names = λ e. refl; firsts = λ e. refl; sizes = λ e. refl }

pub classify_sane : (cs : List Clause) (t : List Entry) → SaneTable t → SaneTable (map (classify cs) t)
classify_sane cs t h = map_sane (classify cs) (classify_shape cs) t h
    (each_map SaneEntry SaneEntry (classify cs) (λ e s. record { shaped = s.shaped; some_cells = s.some_cells; few_cells = s.few_cells; given = s.given }) t
    h.sized)

give_shape : (x : List ℕ) (vs : List ℤ) → Shape (give_to x vs)
give_shape x vs = record {
  names = λ e. cond_each (λ (u : Entry). u.name ≡ e.name) (named x e) refl refl;
  firsts = λ e. cond_each (λ (u : Entry). u.first ≡ e.first) (named x e) refl refl;
  sizes = λ e. cond_each (λ (u : Entry). u.size ≡ e.size) (named x e) refl refl;
}

pub classify_cells : (cs : List Clause) (t : List Entry) → cells (map (classify cs) t) ≡ cells t
classify_cells cs = cells_map (classify cs) (classify_shape cs)

pub give_cells : (x : List ℕ) (vs : List ℤ) (t : List Entry) → cells (map (give_to x vs) t) ≡ cells t
give_cells x vs = cells_map (give_to x vs) (give_shape x vs)

-- ---- data

pub values_length : (is : List Item) → length (values is) ≡ total copies is
unfolding values
values_length [] = refl
values_length (item r l d ∷ is) = rw (length-append, length-replicate, values_length is)

values_fit : (is : List Item) → all small (concat in_item is) ≡ true → Each (SFits w32) (values is)
unfolding values
values_fit [] h = tt
values_fit (item r l d ∷ is) h =
    let (a, b) = all_parts small (in_item (item r l d)) (concat in_item is) h in
    each_append (SFits w32) (replicate (copies_of r) (signed l (number d))) (values is)
    (each_replicate (SFits w32) (copies_of r) (signed l (number d)) (small_fits _ (omega (arith, signed_size l (number d), written r a))))
    (values_fit is b)
  where
    written : (r : Option (List ℕ)) → all small (in_item (item r l d)) ≡ true → number d ≤ 2147483647
    written none h = leb-true (number d) 2147483647 (both_true (small (digits d)) true h).0
    written (some r) h =
        leb-true (number d) 2147483647 (both_true (small (digits d)) true (both_true (small (digits r)) (all small (digits d ∷ [])) h).1).0

-- no other entry has the name
give_others : (x : List ℕ) (vs : List ℤ) (es : List Entry) → any (same x) (map name_of es) ≡ false → Each SaneEntry es
    → Each SaneEntry (map (give_to x vs) es)
give_others x vs [] n h = tt
give_others x vs (e ∷ es) n h =
    let (a, b) = neither_holds (named x e) (any (same x) (map name_of es)) n in
    (rw a h.0, give_others x vs es b h.1)

give_entries : (x : List ℕ) (vs : List ℤ) (t : List Entry) → different (map name_of t) ≡ true → length vs ≡ (find x t).size → Each (SFits w32) vs
    → Each SaneEntry t → Each SaneEntry (map (give_to x vs) t)
unfolding find
give_entries x vs [] d k f h = tt
give_entries x vs (e ∷ es) d k f h = go (named x e) refl k (λ r. give_entries x vs es (different_parts e.name (map name_of es) d).1 r f h.1)
  where
    given : Entry
    given = record { name = e.name; first = e.first; extents = e.extents; size = e.size; class = e.class; given = some vs }

    go : (b : Bool) → named x e ≡ b → length vs ≡ (cond b e (find x es)).size → (length vs ≡ (find x es).size → Each SaneEntry (map (give_to x vs) es))
        → SaneEntry (cond b given e) × Each SaneEntry (map (give_to x vs) es)
    go true p q ih = (
      record { shaped = h.0.shaped; some_cells = h.0.some_cells; few_cells = h.0.few_cells; given = (q, f) },
      give_others x vs es (rw (same_true x e.name p) (different_parts e.name (map name_of es) d).0) h.1,
    )
    go false p q ih = (h.0, ih q)

pub give_sane : (s : State) (x : List ℕ) (i : Item) (is : List Item) → names s (give x i is) ≡ true → limits s (give x i is) ≡ true
    → SaneTable s.table
    → SaneTable (map (give_to x (values (i ∷ is))) s.table)
unfolding names limits in_line
give_sane s x i is n l h =
    let t = s.table in
    let vs = values (i ∷ is) in
    let (p, q) = both_true (known x t) _ (both_true (all (rightly s.table s.variable) (concat in_item (i ∷ is))) _ n).1 in
    let (u, c) = both_true (not (is_given (find x t).given)) (eqb (total copies (i ∷ is)) (find x t).size) q in
    let f = values_fit (i ∷ is) (both_true (all small (concat in_item (i ∷ is))) true l).0 in
    map_sane (give_to x vs) (give_shape x vs) t h (give_entries x vs t h.apart (values_length (i ∷ is) ∙ eqb-true _ _ c) f h.sized)
