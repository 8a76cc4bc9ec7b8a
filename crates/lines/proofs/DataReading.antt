-- What is read of a data line: "a data repeat of 0 is 2", so the code's reader finds such a line broken.
use mathlib.Core.Path.{◌≡◌, refl, sym, ◌∙◌, ap, subst₂}
use mathlib.Core.Bool.{Bool, true, false, cond, not, ◌&&◌}
use mathlib.Core.List.{List, [], ◌∷◌}
use Prim.Native.Nat.{ℕ, zero, suc}
use native.Mathlib.Omega.{arith}
use lib.Dec.{ltb}
use Rattle.std.specs.Prelude.{Option, Some, None, Result, Ok, Err}
use Rattle.syntax.specs.declared.Flaw.{Flaw}
use Rattle.syntax.specs.declared.Flaw.TheVariants.{BrokenForm, WrongName, OverLimit}
use Rattle.syntax.specs.Bytes.{choose, all}
use Rattle.syntax.specs.Grammar.{Item, Line, give, close}
use Rattle.syntax.specs.Known.{copies, State}
use Rattle.syntax.specs.Conditions.{names, limits}
use Rattle.syntax.specs.Reader.{Parsed, broken, done, Reader, next, sees, finish, expects, wants, read_name, read_more, read_item, read_give, peek_in, skip_in}
use Rattle.syntax.proofs.ReaderLaws.{next_assoc, next_same}
use Rattle.heading.specs.Lists.{read_some}
use Rattle.values.specs.Data.{counted, read_counted, read_values}
use Rattle.lines.specs.declared.Progress.{Progress}
use Rattle.lines.specs.Progress.{flaw_of, whole, Concludes}

-- ---- items of which none has 0 copies

abbrev pub counts : List Item → Bool
counts is = all (λ j. ltb 0 (copies j)) is

abbrev pub counted_by : List Item → Reader (List ℕ) (List Item)
counted_by is u = cond (counts is) (done is u) broken

-- an item, and items that M reads
counted_step : (M : Reader (List ℕ) (List Item)) (w : List ℕ)
    → next (read_counted w) (λ i v. next (next (M v) counted_by) (λ is. done (i ∷ is)))
    ≡ next (read_item peek_in skip_in w) (λ i v. next (M v) (λ is. counted_by (i ∷ is)))
counted_step M w = next_assoc (read_item peek_in skip_in w) counted _ ∙ next_same (read_item peek_in skip_in w) _ _ (λ i v. go i v (ltb 0 (copies i)) refl)
  where
    by : (i : Item) (is : List Item) (u : List ℕ) (c : Bool) → ltb 0 (copies i) ≡ c → cond (c && counts is) (done (i ∷ is) u) broken ≡ counted_by (i ∷ is) u
    by i is u c e = sym (ap (λ (x : Bool). cond (x && counts is) (done (i ∷ is) u) broken) e)

    in_front : (i : Item) (is : List Item) (u : List ℕ) (d : Bool) → next (cond d (done is u) broken) (λ js. done (i ∷ js)) ≡ cond d (done (i ∷ is) u) broken
    in_front i is u true = refl
    in_front i is u false = refl

    none_at : (i : Item) → ltb 0 (copies i) ≡ false → (m : Parsed (List ℕ) (List Item)) → broken ≡ next m (λ is. counted_by (i ∷ is))
    none_at i e broken = refl
    none_at i e (done is u) = by i is u false e

    go : (i : Item) (v : List ℕ) (c : Bool) → ltb 0 (copies i) ≡ c
        → next (cond c (done i v) broken) (λ i v. next (next (M v) counted_by) (λ is. done (i ∷ is))) ≡ next (M v) (λ is. counted_by (i ∷ is))
    go i v true e = next_assoc (M v) counted_by _ ∙ next_same (M v) _ _ (λ is u. in_front i is u (counts is) ∙ by i is u true e)
    go i v false e = none_at i e (M v)

more_counted : (f : ℕ) (u : List ℕ) → read_more peek_in skip_in f read_counted u ≡ next (read_more peek_in skip_in f (read_item peek_in skip_in) u) counted_by
unfolding read_more
more_counted zero u = refl
more_counted (suc f) u = go (sees peek_in skip_in "," u) (more_counted f)
  where
    M : Reader (List ℕ) (List Item)
    M = read_more peek_in skip_in f (read_item peek_in skip_in)

    items : Parsed (List ℕ) (List Item)
    items = next (read_item peek_in skip_in (skip_in u)) (λ i v. next (M v) (λ is. done (i ∷ is)))

    together : next items counted_by ≡ next (read_item peek_in skip_in (skip_in u)) (λ i v. next (M v) (λ is w. counted_by (i ∷ is) w))
    together = simp next_assoc

    go : (b : Bool) → ((v : List ℕ) → read_more peek_in skip_in f read_counted v ≡ next (M v) counted_by)
        → choose b (λ _. next (read_counted (skip_in u)) (λ i v. next (read_more peek_in skip_in f read_counted v) (λ is. done (i ∷ is)))) (λ _. done [] u)
        ≡ next (choose b (λ _. items) (λ _. done [] u)) counted_by
    go false h = refl
    go true h = (λ k. next (read_counted (skip_in u)) (λ i v. next (h v k) (λ is. done (i ∷ is)))) ∙ counted_step M (skip_in u) ∙ sym together

some_counted : (f : ℕ) (u : List ℕ)
    → read_some f read_counted u
    ≡ next (read_item peek_in skip_in u) (λ i v. next (read_more peek_in skip_in f (read_item peek_in skip_in) v) (λ is. counted_by (i ∷ is)))
some_counted f u =
    (λ k. next (read_counted u) (λ i v. next (more_counted f v k) (λ is. done (i ∷ is))))
    ∙ counted_step (read_more peek_in skip_in f (read_item peek_in skip_in)) u

-- and what comes after them
pub some_then : {B : Type 0} (f : ℕ) (u : List ℕ) (k : List Item → Reader (List ℕ) B) → next (read_some f read_counted u) k
    ≡ next (read_item peek_in skip_in u) (λ i v. next (read_more peek_in skip_in f (read_item peek_in skip_in) v) (λ is w. next (counted_by (i ∷ is) w) k))
some_then f u k =
    ap (λ (q : Parsed (List ℕ) (List Item)). next q k) (some_counted f u) ∙ next_assoc (read_item peek_in skip_in u) _ k
    ∙ next_same (read_item peek_in skip_in u) _ _ (λ i v. next_assoc (read_more peek_in skip_in f (read_item peek_in skip_in) v) _ k)

-- ---- what is read

-- the line's syntax
abbrev pub mk : List ℕ × List Item → Line
mk (x, []) = close
mk (x, i ∷ is) = give x i is

abbrev fin : Line → Reader (List ℕ) Line
fin l v = next (finish peek_in skip_in v) (λ _. done l)

-- p is what is read, q what the code reads of it: the same, or p has an item of 0 copies and q is broken
pub data Weighed : Parsed (List ℕ) Line → Parsed (List ℕ) Line → Type 0 where
  equal : {p : Parsed (List ℕ) Line} → Weighed p p
  unfit : {x : List ℕ} {i : Item} {is : List Item} {u : List ℕ} → counts (i ∷ is) ≡ false → Weighed (done (give x i is) u) broken

weighed_next : {A : Type 0} (p : Parsed (List ℕ) A) (k l : A → Reader (List ℕ) Line)
    → ((a : A) (u : List ℕ) → Weighed (k a u) (l a u)) → Weighed (next p k) (next p l)
weighed_next broken k l h = equal
weighed_next (done a u) k l h = h a u

-- the stroke after the items, and what is then read
abbrev pub closes : List ℕ → List Item → Reader (List ℕ) (List ℕ × List Item)
closes x is v = next (expects peek_in skip_in "/" v) (λ _. done (x, is))

-- and then the line's end
abbrev stroke : Line → Reader (List ℕ) Line
stroke l u = next (expects peek_in skip_in "/" u) (λ _ v. fin l v)

give_end : (x : List ℕ) (i : Item) (is : List Item) (u : List ℕ) (b : Bool) → counts (i ∷ is) ≡ b
    → Weighed (stroke (give x i is) u) (next (cond b (done (i ∷ is) u) broken) (λ js v. stroke (mk (x, js)) v))
give_end x i is u true e = equal
give_end x i is u false e = go (expects peek_in skip_in "/" u)
  where
    ended : (p : Parsed (List ℕ) (Unit {0})) → Weighed (next p (λ _. done (give x i is))) broken
    ended broken = equal
    ended (done a v) = unfit e

    go : (p : Parsed (List ℕ) (Unit {0})) → Weighed (next p (λ _ v. fin (give x i is) v)) broken
    go broken = equal
    go (done a v) = ended (finish peek_in skip_in v)

-- a name and values as a line
abbrev pub valued : ℕ → Reader (List ℕ) Line
valued f u = next (read_values f u) (λ y. done (mk y))

abbrev pub given : ℕ → Reader (List ℕ) Line
given f u = next (wants peek_in skip_in "data" u) (λ _. valued f)

pub give_by : (f : ℕ) (s : List ℕ) → Weighed (whole (read_give peek_in skip_in f) s) (whole (given f) s)
unfolding read_give
give_by f s =
    subst₂ Weighed (sym line_steps) (sym code_steps)
    (weighed_next (wants peek_in skip_in "data" s) _ _ (λ _ r. weighed_next (read_name peek_in skip_in r) _ _ (λ x t.
    weighed_next (expects peek_in skip_in "/" t) _ _ (λ _ u. weighed_next (read_item peek_in skip_in u) _ _ (λ i v.
    weighed_next (read_more peek_in skip_in f (read_item peek_in skip_in) v) _ _ (λ is w. give_end x i is w (counts (i ∷ is)) refl))))))
  where
    -- the name, and what comes after its stroke
    begin : (List ℕ → Reader (List ℕ) Line) → Parsed (List ℕ) Line
    begin k = next (wants peek_in skip_in "data" s) (λ _ r. next (read_name peek_in skip_in r) (λ x t. next (expects peek_in skip_in "/" t) (λ _ u. k x u)))

    steps : (List ℕ → Item → List Item → Reader (List ℕ) Line) → Parsed (List ℕ) Line
    steps k = begin (λ x u. next (read_item peek_in skip_in u) (λ i v. next (read_more peek_in skip_in f (read_item peek_in skip_in) v) (λ is w. k x i is w)))

    line_steps : whole (read_give peek_in skip_in f) s ≡ steps (λ x i is. stroke (give x i is))
    line_steps = simp next_assoc

    reads_by : (M : Reader (List ℕ) (List Item))
        → next (next (wants peek_in skip_in "data" s) (λ _ r.
        next (next (read_name peek_in skip_in r) (λ x t. next (expects peek_in skip_in "/" t) (λ _ u. next (M u) (closes x)))) (λ a. done (mk a)))) fin
        ≡ begin (λ x u. next (M u) (λ is v. stroke (mk (x, is)) v))
    reads_by M = simp next_assoc

    code_steps : whole (given f) s
        ≡ steps (λ x i is u. next (counted_by (i ∷ is) u) (λ js v. stroke (mk (x, js)) v))
    code_steps = reads_by (read_some f read_counted) ∙ (λ k. begin (λ x u. some_then f u (λ is v. stroke (mk (x, is)) v) k))

-- a line with an item of 0 copies is broken
pub weighed_concludes : (st : State) (good : Line → Progress → Type 0) (p q : Parsed (List ℕ) Line) (r : Result Progress Flaw) → Weighed p q
    → Concludes (flaw_of st) good q r → Concludes (flaw_of st) good p r
unfolding Concludes flaw_of
weighed_concludes st good p q r equal h = h
weighed_concludes st good p q (Ok x) (unfit e) h = absurd h
weighed_concludes st good p q (Err f) (unfit {x} {i} {is} e) h = ap told_by e ∙ ap Some (sym h)
  where
    told_by : Bool → Option Flaw
    told_by b = choose (not b) (λ _. Some BrokenForm) (λ _. choose (not (names st (give x i is))) (λ _. Some WrongName)
        (λ _. choose (not (limits st (give x i is))) (λ _. Some OverLimit) (λ _. None)))
