-- Data items.
use mathlib.Core.Path.{◌≡◌, refl, sym, ◌∙◌, ap, subst}
use mathlib.Core.Bool.{Bool, true, false, cond, not, ◌&&◌, and-true}
use mathlib.Core.List.{List, [], ◌∷◌, ◌++◌, append-nil, append_assoc, map}
use mathlib.Core.Option.{Option, none, some}
use Prim.Native.Nat.{ℕ, suc, ◌+◌, ◌-◌, ◌≤◌, ◌<◌, min, max}
use native.Mathlib.Decide.{ℕ_discrete}
use native.Mathlib.Omega.{arith}
use borrow.Author.Tests.{lt-ltb, le-ltb, leb-true, eq-eqb, eqb-true}
use lib.Dec.{eqb, leb}
use lib.ListN.{length, take, drop, replicate, length-replicate, length-take, length-drop, drop_of_length-le}
use lib.IntN.{ℤ}
use lib.Seq.{sets, drop-drop}
use borrow.Rule.Slice.PartMut.{mid_of, put_mid}
use Rattle.std.proofs.lemmas.List.Edits.{sets-eq}
use Rattle.syntax.specs.Bytes.{bytes, choose, all}
use Rattle.syntax.specs.Grammar.{number, Lead, Item, item}
use Rattle.syntax.specs.Known.{Entry, known, find, give_to, copies_of, copies, signed, values, total}
use Rattle.syntax.proofs.Spelling.{both_true}
use Rattle.syntax.proofs.TableLines.{values_length}
use Rattle.syntax.proofs.TestLaws.{all_append, same_truth}
use Rattle.syntax.specs.Conditions.{concat, in_item, is_given, small}
use Rattle.syntax.specs.Reader.{Parsed, broken, done, Reader, next, text, sees, expects, is_digits, read_lead, read_digits, read_signed, read_name, read_item, peek_in, skip_in}
use Rattle.int32.specs.Integers.{value}
use Rattle.syntax.specs.Meaning.{led}
use Rattle.lexer.specs.declared.Sign.{Sign}
use Rattle.lexer.specs.declared.Number.{Number}
use Rattle.lexer.specs.Places.{Any, passes, Spells, Numbers, Leads, lead_of, NotRead, ReadTo, Finds}
use Rattle.std.specs.Prelude.{Option as Answer, Some, None, MatchOption}
use Rattle.syntax.specs.declared.Rank.{Rank}
use Rattle.syntax.specs.Ranks.{level}
use Rattle.syntax.proofs.RankLaws.{level_most}
use Rattle.lexer.specs.declared.Word.{Word}
use Rattle.names.specs.declared.Named.{Named}
use Rattle.names.specs.Table.{variable_of, Tabled, Unknown, Knows, Stands, Gave, length_at, variable_entry, name_words}
use Rattle.names.proofs.Rows.{name_length, find_bounded}
use Rattle.lexer.proofs.InTurn.{not_then, then_not, then_to, to_yield, to_done, not_past, past_not, past_to, stands, stands_not}
use Rattle.lexer.proofs.Said.{sign_text}
use Rattle.values.specs.declared.Datum.{Datum}
use Rattle.lexer.proofs.Laws.{sets_append}
use Rattle.values.specs.Data.{Itemized, counted, read_counted, Placed, Put, Puts, Items, may_take, Given, read_values, may_give, Gives}
use Rattle.values.specs.declared.Filled.{Filled}
use Rattle.heading.specs.Lists.{read_some, order, Keeps}
use Rattle.heading.proofs.Turns.{list_last, list_more}
use Rattle.heading.proofs.Lists.{good_order}
use Rattle.heading.proofs.Literals.{leb_least, signed_value}

-- ---- one item

-- a literal with an optional sign
module _ (s : List ℕ) (at : ℕ) (l : Sign) (g : ReadTo (Leads l) s at (read_lead peek_in skip_in) l.next) (o : Option (List ℕ)) where
  abbrev sized : Lead → Reader (List ℕ) Item
  sized a v = next (read_digits peek_in skip_in v) (λ d. done (item o a d))

  pub copied_not : NotRead s l.next (read_digits peek_in skip_in) → NotRead s at (read_signed peek_in skip_in (item o))
  copied_not n = then_not sized g (λ a _. not_then (λ d. done (item o a d)) n)

  pub copied_to : (d : Number) → ReadTo (Numbers d) s l.next (read_digits peek_in skip_in) d.next → (copies : ℕ) → copies ≡ min (copies_of o) 2147483648
      → ReadTo (Itemized (record { next = d.next; copies = copies; sign = l.sign; size = d.number })) s at (read_signed peek_in skip_in (item o)) d.next
  copied_to d h copies e = then_to sized g (λ a p. to_yield (λ d. item o a d) h (λ d q. record { copies = e; lead = p; size = q }))

-- digits are read where the token is a string of digits
digits_kind : (u v d : List ℕ) → read_digits peek_in skip_in u ≡ done d v → (is_digits peek_in skip_in u ≡ true) × (skip_in u ≡ v) × (text (peek_in u) ≡ d)
digits_kind u v d = go (is_digits peek_in skip_in u)
  where
    go : (b : Bool) → cond b (done (text (peek_in u)) (skip_in u)) broken ≡ done d v → (b ≡ true) × (skip_in u ≡ v) × (text (peek_in u) ≡ d)
    go true e = (
      refl,
      ap (λ (p : Parsed (List ℕ) (List ℕ)). elim p [ broken ↦ [] | done x y ↦ y ]) e,
      ap (λ (p : Parsed (List ℕ) (List ℕ)). elim p [ broken ↦ [] | done x y ↦ x ]) e,
    )
    go false e = let z : ◌≡◌ {A = ℕ} 0 1 = ap (λ (p : Parsed (List ℕ) (List ℕ)). elim p [ broken ↦ 0 | done x y ↦ 1 ]) e in absurd (omega arith)

digits_not : (u : List ℕ) → read_digits peek_in skip_in u ≡ broken → is_digits peek_in skip_in u ≡ false
digits_not u = go (is_digits peek_in skip_in u)
  where
    go : (b : Bool) → cond b (done (text (peek_in u)) (skip_in u)) broken ≡ broken → b ≡ false
    go false e = refl
    go true e = let z : ◌≡◌ {A = ℕ} 0 1 = ap (λ (p : Parsed (List ℕ) (List ℕ)). elim p [ broken ↦ 1 | done x y ↦ 0 ]) e in absurd (omega (arith, z))

module _ (s : List ℕ) (from : ℕ) where
  abbrev repeated : List ℕ → Parsed (List ℕ) Item
  repeated u = next (read_digits peek_in skip_in u) (λ d v. next (expects peek_in skip_in "*" v) (λ _. read_signed peek_in skip_in (item (some d))))

  abbrev by_star : Bool → Parsed (List ℕ) Item
  by_star b = choose b (λ _. repeated (drop from s)) (λ _. read_signed peek_in skip_in (item none) (drop from s))

  -- without a repeat
  once_as : is_digits peek_in skip_in (drop from s) && sees peek_in skip_in "*" (skip_in (drop from s)) ≡ false
      → (o : Answer Datum) → Finds (λ r. r.next) Itemized s from (read_signed peek_in skip_in (item none)) o
      → Finds (λ r. r.next) Itemized s from (read_item peek_in skip_in) o
  once_as e None n = record { fails = λ b. ap by_star e ∙ n.fails b }
  once_as e (Some r) n = record { what = n.what; reads = ap by_star e ∙ n.reads; holds = n.holds; from = n.from; within = n.within }

  pub item_signed : NotRead s from (read_digits peek_in skip_in) → from ≤ length s → (o : Answer Datum)
      → Finds (λ r. r.next) Itemized s from (read_signed peek_in skip_in (item none)) o → Finds (λ r. r.next) Itemized s from (read_item peek_in skip_in) o
  item_signed g b = once_as (ap (λ (c : Bool). c && sees peek_in skip_in "*" (skip_in (drop from s))) (digits_not (drop from s) (g.fails b)))

  module _ (k : Number) (g : ReadTo (Numbers k) s from (read_digits peek_in skip_in) k.next) where
    there : (is_digits peek_in skip_in (drop from s) ≡ true) × (skip_in (drop from s) ≡ drop k.next s)
    there = let (x, y, _) = digits_kind (drop from s) (drop k.next s) g.what g.reads in (x, y)

    -- no star after the digits
    pub item_once : NotRead s k.next (passes (bytes "*")) → (o : Answer Datum)
        → Finds (λ r. r.next) Itemized s from (read_signed peek_in skip_in (item none)) o → Finds (λ r. r.next) Itemized s from (read_item peek_in skip_in) o
    item_once h = once_as
        (λ i. there.0 i && (ap (sees peek_in skip_in "*") there.1 ∙ sign_text (bytes "*") refl (drop k.next s) ∙ stands_not (bytes "*") h g.within) i)

    -- digits and a star before it
    module _ (star : ℕ) (h : ReadTo Any s k.next (passes (bytes "*")) star) where
      same_as : read_item peek_in skip_in (drop from s) ≡ read_signed peek_in skip_in (item (some g.what)) (drop star s)
      same_as =
          let (z, q) = stands (bytes "*") h in
          let seen : sees peek_in skip_in "*" (skip_in (drop from s)) ≡ true =
          ap (sees peek_in skip_in "*") there.1 ∙ sign_text (bytes "*") refl (drop k.next s) ∙ z in
          let starred : expects peek_in skip_in "*" (drop k.next s) ≡ done tt (drop star s) = ap (λ (c : Bool). cond c (done tt (skip_in (drop k.next s))) broken)
          (sign_text (bytes "*") refl (drop k.next s) ∙ z)
          ∙ ap (done tt) q in
          ap by_star (λ i. there.0 i && seen i)
          ∙ ap (λ (p : Parsed (List ℕ) (List ℕ)). next p (λ d v. next (expects peek_in skip_in "*" v) (λ _. read_signed peek_in skip_in (item (some d))))) g.reads
          ∙ ap (λ (p : Parsed (List ℕ) (Unit {0})). next p (λ _. read_signed peek_in skip_in (item (some g.what)))) starred

      pub item_repeated : (o : Answer Datum)
          → ((r : Option (List ℕ)) → k.number ≡ min (copies_of r) 2147483648 → Finds (λ r. r.next) Itemized s star (read_signed peek_in skip_in (item r)) o)
          → Finds (λ r. r.next) Itemized s from (read_item peek_in skip_in) o
      item_repeated None w = record { fails = λ b. same_as ∙ (w (some g.what) g.holds).fails h.within }
      item_repeated (Some r) w = let x = w (some g.what) g.holds in
          record { what = x.what; reads = same_as ∙ x.reads; holds = x.holds; from = omega (arith, g.from, h.from, x.from); within = x.within }

-- ---- an item that is counted

module _ {s : List ℕ} {from : ℕ} {r : Datum} (h : ReadTo (Itemized r) s from (read_item peek_in skip_in) r.next) where
  abbrev told : Item → Bool → Parsed (List ℕ) Item
  told i c = cond c (done i (drop r.next s)) broken

  -- of no copies
  pub item_zero : r.copies ≡ 0 → NotRead s from read_counted
  item_zero z = then_not counted h (λ i p. record { fails = λ _. ap (told i) (le-ltb 0 (copies i) (omega (arith, p.copies, z))) })

  -- of some
  pub item_some : {Q : Item → Type 0} → (r.copies ≡ 0 → ⊥) → ((i : Item) → Itemized r i → Q i) → ReadTo Q s from read_counted r.next
  item_some z f = then_to counted h (λ i p. record {
    what = i;
    reads = ap (told i) (lt-ltb 0 (copies i) (omega (arith, p.copies, z)));
    holds = f i p;
    from = omega arith;
    within = h.within;
  })

small_item : (r : Datum) (i : Item) → Itemized r i → leb r.copies 2147483647 && leb r.size 2147483647 ≡ all small (in_item i)
small_item r (item none l d) p =
    (λ i. leb (p.copies i) 2147483647 && leb (p.size i) 2147483647) ∙ leb_least (number d) ∙ sym (and-true (leb (number d) 2147483647))
small_item r (item (some c) l d) p =
    (λ i. leb (p.copies i) 2147483647 && leb (p.size i) 2147483647)
    ∙ (λ i. leb_least (number c) i && (leb_least (number d) ∙ sym (and-true (leb (number d) 2147483647))) i)

module _ (C : List ℤ) (v most : ℕ) (C' : List ℤ) (low : length C ≤ 4096) where
  pub put : (r : Datum) (x : ℤ) (more : ℕ) (rank : Rank) → x ≡ led (lead_of r.sign) (value r.size) → Placed C v r.copies x C' more
      → level rank ≡ max most (order true (leb r.copies 2147483647 && leb r.size 2147483647)) → (i : Item) → Itemized r i
      → Put C v most C' (record { next = r.next; values = more; rank = rank }) i
  unfolding values
  put r x more rank ex p er (item o l d) q =
      let e = small_item r (item o l d) q in
      record {
        rank = er ∙ ap (λ (b : Bool). max most (order true b)) e;
        many = p.many ∙ omega (arith, q.copies);
        cells = λ h b.
            let (y, z) = both_true (leb r.copies 2147483647) _ (e ∙ h) in
            let c : r.copies ≡ copies_of o = omega (arith, q.copies, leb-true r.copies 2147483647 y) in
            let k : r.size ≡ number d = omega (arith, q.size, leb-true r.size 2147483647 z) in
            let w : x ≡ signed l (number d) =
            ex ∙ (λ i. led (q.lead i) (value (k i))) ∙ signed_value l (number d) (omega (arith, k, leb-true r.size 2147483647 z)) in
            p.cells (omega (arith, c)) ∙ (λ i. sets C v (replicate (c i) (w i)))
            ∙ ap (sets C v) (sym (append-nil (replicate (copies_of o) (signed l (number d)))));
      }

-- ---- items one after the other

-- values in two parts: of the first item, and of the others
values_more : (i : Item) (is : List Item) → (values (i ∷ is) ≡ values (i ∷ []) ++ values is) × (length (values (i ∷ [])) ≡ copies i)
unfolding values
values_more (item o l d) is =
    let vs = replicate (copies_of o) (signed l (number d)) in
    (ap (λ (u : List ℤ). u ++ values is) (sym (append-nil vs)), ap length (append-nil vs) ∙ length-replicate (copies_of o) (signed l (number d)))

module _ (C : List ℤ) (v most : ℕ) (C₁ : List ℤ) (long : length C₁ ≡ length C) (r₁ : Filled) (i : Item) (p : Put C v most C₁ r₁ i) where
  pub puts_more : (C₂ : List ℤ) (r₂ : Filled) (is : List Item) → Puts C₁ r₁.values (level r₁.rank) C₂ r₂ is → Puts C v most C₂ r₂ (i ∷ is)
  puts_more C₂ r₂ is q =
      let e = all_append small (in_item i) (concat in_item is) in
      let (x, y) = values_more i is in
      record {
        rank =
            q.rank ∙ ap (λ (k : ℕ). max k (order true (all small (concat in_item is)))) p.rank
            ∙ both (all small (in_item i)) (all small (concat in_item is)) ∙ ap (λ (b : Bool). max most (order true b)) (sym e);
        many = q.many ∙ omega (arith, p.many);
        cells = λ h b.
            let (a, c) = both_true (all small (in_item i)) _ (sym e ∙ h) in
            let n : r₁.values ≡ v + copies i = omega (arith, p.many) in
            q.cells c (omega (arith, n))
            ∙ (λ j. sets (p.cells a (omega arith) j) (n j) (values is))
            ∙ ap (λ (k : ℕ). sets (sets C v (values (i ∷ []))) k (values is)) (omega (arith, y))
            ∙ sym (ap (sets C v) x ∙ sym (sets_append C v (values (i ∷ [])) (values is)));
      }
    where
      both : (a b : Bool) → max (max most (order true a)) (order true b) ≡ max most (order true (a && b))
      both true true = omega arith
      both true false = omega arith
      both false true = omega arith
      both false false = omega arith

pub puts_nil : (C : List ℤ) (r : Filled) → r.values ≤ suc (length C) → Puts C r.values (level r.rank) C r []
unfolding values
puts_nil C r b = record { rank = omega arith; many = omega arith; cells = λ h k. refl }

-- an item, and then none or a comma and others
module _ (C : List ℤ) (s : List ℕ) (b : Filled) (C₁ : List ℤ) (long : length C₁ ≡ length C) (r₁ : Filled)
    (h : ReadTo (Put C b.values (level b.rank) C₁ r₁) s b.next read_counted r₁.next) where
  pub items_last : NotRead s r₁.next (passes (bytes ",")) → r₁.values ≤ suc (length C₁) → Items C s b C₁ (Some r₁)
  items_last g low f m = list_last read_counted h g
      (λ _. puts_more C b.values (level b.rank) C₁ long r₁ h.what h.holds C₁ r₁ [] (puts_nil C₁ r₁ low)) f m

  pub items_more : {k : ℕ} → ReadTo Any s r₁.next (passes (bytes ",")) k → (C₂ : List ℤ) (o : Answer Filled)
      → Items C₁ s (record { next = k; values = r₁.values; rank = r₁.rank }) C₂ o → Items C s b C₂ o
  items_more g C₂ o w f m =
      list_more read_counted h g (λ r. r.next) (λ r. Puts C₁ r₁.values (level r₁.rank) C₂ r) (λ r. Puts C b.values (level b.rank) C₂ r) o w
      (λ r₂ _ is u e q. puts_more C b.values (level b.rank) C₁ long r₁ h.what h.holds C₂ r₂ is q) f m

-- ---- a whole line

module _ (s : List ℕ) (from : ℕ) (w : Word) (h : ReadTo (Spells s w) s from (read_name peek_in skip_in) w.next) (o : ℕ)
    (g : ReadTo Any s w.next (passes (bytes "/")) o) where
  abbrev ended : List ℕ → List Item → Reader (List ℕ) (List ℕ × List Item)
  ended x is v = next (expects peek_in skip_in "/" v) (λ _. done (x, is))

  abbrev listed : ℕ → List ℕ → Reader (List ℕ) (List ℕ × List Item)
  listed f x u = next (read_some f read_counted u) (ended x)

  abbrev begun : ℕ → List ℕ → Reader (List ℕ) (List ℕ × List Item)
  begun f x u = next (expects peek_in skip_in "/" u) (λ _. listed f x)

  fuel : (f : ℕ) → length s - from < f → length s - o < f
  fuel f k = omega (arith, k, h.from, g.from)

  pub data_not : ((f : ℕ) → length s - o < f → NotRead s o (read_some f read_counted)) → (f : ℕ) → length s - from < f → NotRead s from (read_values f)
  data_not n f k = then_not (begun f) h (λ x _. past_not "/" (listed f x) g refl (not_then (ended x) (n f (fuel f k))))

  module _ (P : List Item → Type 0) (m : ℕ) (it : (f : ℕ) → length s - o < f → ReadTo P s o (read_some f read_counted) m) where
    pub data_open : NotRead s m (passes (bytes "/")) → (f : ℕ) → length s - from < f → NotRead s from (read_values f)
    data_open n f k = then_not (begun f) h (λ x _. past_not "/" (listed f x) g refl (then_not (ended x) (it f (fuel f k))
        (λ is _. not_past "/" (done (x, is)) refl n)))

    pub data_read : (n : ℕ) → ReadTo Any s m (passes (bytes "/")) n → (Q : List ℕ × List Item → Type 0)
        → ((x : List ℕ) (is : List Item) → Spells s w x → P is → Q (x, is)) → (f : ℕ) → length s - from < f → ReadTo Q s from (read_values f) n
    data_read n c Q q f k = then_to (begun f) h (λ x p. past_to "/" (listed f x) g refl (then_to (ended x) (it f (fuel f k))
        (λ is r. past_to "/" (done (x, is)) c refl (to_done (x, is) c.within (q x is p r)))))

-- where the cells of a name lie; one that is not declared has none
pub lies : (T w : List ℕ) (t : List Entry) (o : Answer Named) → MatchOption o (Unknown t w) (λ n. Knows t w n × Stands T t w n)
    → (p : ℕ × ℕ) → MatchOption o (p ≡ (0, 0)) (λ n. p ≡ (n.first, n.size)) → (p.0 ≡ (find w t).first) × (p.1 ≡ (find w t).size)
lies T w t None u p e = (ap (λ (x : ℕ × ℕ). x.0) e ∙ sym (ap (λ (x : Entry). x.first) u.nowhere), ap (λ (x : ℕ × ℕ). x.1) e ∙ sym (ap (λ (x : Entry). x.size) u.nowhere))
lies T w t (Some n) (kn, st) p e = (ap (λ (x : ℕ × ℕ). x.0) e ∙ kn.first, ap (λ (x : ℕ × ℕ). x.1) e ∙ kn.size)

-- a part of the cells that is written
module _ (C : List ℤ) (a n : ℕ) (b : a + n ≤ length C) where
  pub part_length : length (mid_of a (a + n - a) C) ≡ n
  part_length = simp (length-take, length-drop) (omega arith)

  pub part_sets : (A : List ℤ) → length A ≡ length (mid_of a (a + n - a) C) → put_mid a (a + n - a) C A ≡ sets C a A
  part_sets A e =
      let l : length A ≡ n = e ∙ part_length in
      let q : drop (a + n - a) (drop a C) ≡ drop (a + length A) C = drop-drop (a + n - a) a C ∙ ap (λ (n : ℕ). drop n C) (omega (arith, l)) in
      ap (λ (m : List ℤ). take a C ++ (A ++ m)) q ∙ sym (sets-eq A C a (omega (arith, l)) ∙ append_assoc (take a C) A (drop (a + length A) C))

  pub part_filled : (A : List ℤ) (x : ℤ) → A ≡ replicate (length (mid_of a (a + n - a) C)) x → put_mid a (a + n - a) C A ≡ sets C a (replicate n x)
  part_filled A x e =
      part_sets A (ap length e ∙ length-replicate (length (mid_of a (a + n - a) C)) x)
      ∙ ap (sets C a) (e ∙ ap (λ (k : ℕ). replicate k x) part_length)

-- values in all of the cells
sets_all : (A vs : List ℤ) → length vs ≡ length A → sets A 0 vs ≡ vs
sets_all A vs e = sets-eq vs A 0 (omega arith) ∙ ap (λ (l : List ℤ). vs ++ l) (drop_of_length-le A (omega arith)) ∙ append-nil vs

-- what the line comes to, where A are the cells of the name
module _ (t : List Entry) (T : List ℕ) (C : List ℤ) (T' : List ℕ) (C' : List ℤ) (tab : Tabled T t) (x : List ℕ) (o : Answer Named)
    (kn : MatchOption o (Unknown t x) (λ n. Knows t x n × Stands T t x n)) (A A' : List ℤ) (long : length A ≡ (find x t).size)
    (back : C' ≡ sets C (find x t).first A') (r : Filled) (is : List Item) (p : Puts A 0 0 A' r is) (rank : Rank)
    (g : Given T o r.values (level r.rank) T' (level rank)) (next : ℕ) where
  count : eqb r.values (find x t).size ≡ eqb (total copies is) (find x t).size
  count = same_truth _ _
      (λ h. eq-eqb (total copies is) (find x t).size (omega (arith, eqb-true r.values (find x t).size h, p.many, long)))
      (λ h. eq-eqb r.values (find x t).size (omega (arith, eqb-true (total copies is) (find x t).size h, p.many, long)))

  due_is : may_take o r.values ≡ may_give t x is
  due_is = go o kn
    where
      go : (o : Answer Named) → MatchOption o (Unknown t x) (λ n. Knows t x n × Stands T t x n) → may_take o r.values ≡ may_give t x is
      go None u = sym (ap (λ (b : Bool). b && (not (is_given (find x t).given) && eqb (total copies is) (find x t).size)) u.known)
      go (Some n) (k, _) =
          (λ i. not (k.given i) && (ap (eqb r.values) k.size ∙ count) i)
          ∙ sym (ap (λ (b : Bool). b && (not (is_given (find x t).given) && eqb (total copies is) (find x t).size)) k.known)

  rank_is : level rank ≡ order (may_give t x is) (all small (concat in_item is))
  rank_is = g.rank ∙ (λ i. max (p.rank i) (order (due_is i) true)) ∙ both (all small (concat in_item is)) (may_give t x is)
    where
      both : (a b : Bool) → max (max 0 (order true a)) (order b true) ≡ order b a
      both true true = omega arith
      both false true = omega arith
      both true false = omega arith
      both false false = omega arith

  good : level rank ≡ 0 → (may_give t x is ≡ true) × (all small (concat in_item is) ≡ true)
  good z = good_order (may_give t x is) (all small (concat in_item is)) (sym rank_is ∙ z)

  declared : level rank ≡ 0 → (n : Named) × (o ≡ Some n) × Stands T t x n
  declared z = go o kn refl
    where
      go : (q : Answer Named) → MatchOption q (Unknown t x) (λ n. Knows t x n × Stands T t x n) → o ≡ q
          → (n : Named) × (o ≡ Some n) × Stands T t x n
      go None u e = let k = (both_true (known x t) _ (good z).0).0 in let n = u.known in absurd (cc)
      go (Some n) (_, st) e = (n, e, st)

  pub gives : Gives t T C T' C' (record { next = next; rank = rank }) x is
  gives = record {
    rank = rank_is;
    table = λ z.
        let (n, e, st) = declared z in
        subst (λ (y : List ℕ). Tabled T' (map (give_to y (values is)) t)) st.name ((g.gave z n e).table t (values is) tab st.within);
    unclaimed = λ z. let (n, e, _) = declared z in (g.gave z n e).unclaimed tab.long (length t);
    cells = λ z.
        let e = eqb-true (total copies is) (find x t).size (both_true (not (is_given (find x t).given)) _ (both_true (known x t) _ (good z).0).1).1 in
        back ∙ ap (sets C (find x t).first) (p.cells (good z).1 (omega (arith, e, long)) ∙ sets_all A (values is) (omega (arith, values_length is, e, long)));
  }

pub gives_in : (t : List Entry) (T : List ℕ) (C : List ℤ) (T' : List ℕ) → Tabled T t → 4096 ≤ length C → (x y : List ℕ) → x ≡ y
    → (o : Answer Named) → MatchOption o (Unknown t y) (λ n. Knows t y n × Stands T t y n)
    → (first size : ℕ) → (first ≡ (find y t).first) × (size ≡ (find y t).size) → (A' : List ℤ)
    → length A' ≡ length (mid_of first (first + size - first) C) → (r : Filled) (is : List Item) → Puts (mid_of first (first + size - first) C) 0 0 A' r is
    → (rank : Rank) → Given T o r.values (level r.rank) T' (level rank) → (next : ℕ)
    → Gives t T C T' (put_mid first (first + size - first) C A') (record { next = next; rank = rank }) x is
gives_in t T C T' tab b x y e o kn first size (ef, es) A' l r is p rank g next =
    let in_cells : first + size ≤ length C = omega (arith, ef, es, find_bounded T y t tab) in
    subst (λ (z : List ℕ). Gives t T C T' (put_mid first (first + size - first) C A') (record { next = next; rank = rank }) z is) (sym e)
    (gives t T C T' _ tab y o kn (mid_of first (first + size - first) C) A' (part_length C first size in_cells ∙ es)
    (part_sets C first size in_cells A' l ∙ ap (λ (k : ℕ). sets C k A') ef) r is p rank g next)

-- data is given, or the table stays
module _ (T : List ℕ) (v : ℕ) (q : Rank) where
  pub given_none : (o : Answer Named) → may_take o v ≡ false → Given T o v (level q) T 2
  given_none o e = record {
    rank = omega (arith, level_most q) ∙ ap (λ (b : Bool). max (level q) (order b true)) (sym e);
    gave = λ z. absurd (omega (arith, z));
    left = λ _. refl;
  }

  pub given_late : (n : Named) → may_take (Some n) v ≡ true → (level q ≡ 0 → ⊥) → Given T (Some n) v (level q) T (level q)
  given_late n e h = record {
    rank = omega arith ∙ ap (λ (b : Bool). max (level q) (order b true)) (sym e);
    gave = λ z. absurd (h z);
    left = λ _. refl;
  }

  pub given_now : (n : Named) → may_take (Some n) v ≡ true → level q ≡ 0 → (T' : List ℕ) → Gave T n.index T' → Given T (Some n) v (level q) T' (level q)
  given_now n e z T' g = record {
    rank = omega arith ∙ ap (λ (b : Bool). max (level q) (order b true)) (sym e);
    gave = λ _ m i. subst (λ (k : Named). Gave T k.index T') (ap (only n) i) g;
    left = λ h. absurd (h z);
  }
    where
      only : Named → Answer Named → Named
      only d None = d
      only d (Some m) = m

-- and the table keeps the variable
pub given_keeps : (T : List ℕ) (o : Answer Named) (v most : ℕ) (T' : List ℕ) (r : ℕ) → Given T o v most T' r → Keeps T T'
given_keeps T o v most T' r g h = elim (ℕ_discrete r 0) [
  | yes e ↦ go o refl (g.gave e) g.rank e
  | no z ↦ same (g.left z)
]
  where
    same : T' ≡ T → (length_at T' variable_entry ≤ name_words) × (variable_of T' ≡ variable_of T)
    same e = subst (λ (X : List ℕ). (length_at X variable_entry ≤ name_words) × (variable_of X ≡ variable_of T)) (sym e) (h, refl)

    go : (q : Answer Named) → o ≡ q → ((n : Named) → o ≡ Some n → Gave T n.index T') → r ≡ max most (order (may_take o v) true) → r ≡ 0
        → (length_at T' variable_entry ≤ name_words) × (variable_of T' ≡ variable_of T)
    go None e f z w = let q : r ≡ max most 2 = z ∙ ap (λ (x : Answer Named). max most (order (may_take x v) true)) e in absurd (omega (arith, q, w))
    go (Some n) e f z w = let k = (f n e).variable h in (omega (arith, name_length T' 16, name_length T 16, ap length k), k)
