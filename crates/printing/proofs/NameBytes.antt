-- The names of an accepted text are made of bytes: every byte of its lines is 32 to 126, and a name is a token of one of them.
use mathlib.Core.Path.{◌≡◌, subst}
use mathlib.Core.Bool.{Bool, true, false, cond, ◌&&◌}
use mathlib.Core.List.{List, [], ◌∷◌, ◌++◌, map}
use mathlib.Core.Option.{some}
use Prim.Native.Nat.{ℕ, zero, suc, ◌+◌, ◌-◌, ◌<◌}
use native.Mathlib.Omega.{arith}
use borrow.Author.Tests.{leb-true}
use lib.Dec.{leb, eqb}
use lib.ListN.{length, get_or, take}
use Rattle.syntax.specs.Bytes.{choose, all, lower, printable, letter, digit, lines, Token, name, other_word, digits, sign, bytes_of, token_size, token_of, tokens_after, tokens, skipped_line, sound_line}
use Rattle.syntax.specs.Grammar.{Declared, one, array, grid, assign, when, otherwise, end_if, Line, declare, give, direct, loop, inside, end_do, close, show_declared, show_more, show_line}
use Rattle.syntax.specs.Known.{Entry, Open, State, nothing, nowhere, named, cells, declared_name, declared_size, entries, values, give_to, classify, otherwise_after, end_if_after, after}
use Rattle.syntax.specs.Text.{read, good}
use Rattle.syntax.specs.Follows.{Program, spoken, shown, learnt}
use Rattle.syntax.specs.Sane.{Each}
use Rattle.syntax.proofs.Spelling.{both_true}
use Rattle.syntax.proofs.TestLaws.{each_append, each_at, each_map}
use Rattle.syntax.proofs.Theorem.{accepted_sound}

abbrev Plain : List ℕ → Type 0
Plain = Each (λ b. b < 256)

abbrev PlainToken : Token → Type 0
PlainToken t = Plain (bytes_of t)

abbrev PlainTable : List Entry → Type 0
PlainTable = Each (λ e. Plain e.name)

each_parts : {A : Type 0} (P : A → Type 0) (xs ys : List A) → Each P (xs ++ ys) → Each P xs × Each P ys
each_parts P [] ys h = (tt, h)
each_parts P (x ∷ xs) ys h = let (a, b) = each_parts P xs ys h.1 in ((h.0, a), b)

-- ---- lines and their tokens

plain_line : (s : List ℕ) → all printable s ≡ true → Plain s
plain_line [] h = tt
plain_line (b ∷ s) h =
    let (x, y) = both_true (printable b) (all printable s) h in
    (omega (arith, leb-true b 126 (both_true (leb 32 b) (leb b 126) x).1), plain_line s y)

plain_take : (n : ℕ) (s : List ℕ) → Plain s → Plain (take n s)
plain_take zero s h = tt
plain_take (suc n) [] h = tt
plain_take (suc n) (b ∷ s) h = (h.0, plain_take n s h.1)

token_bytes : (b : ℕ) (t : List ℕ) → Plain t → PlainToken (token_of b t)
token_bytes b t h = go (letter b) (digit b) (leb (length t) 31 && _)
  where
    go : (x y z : Bool) → PlainToken (cond x (cond z (name t) (other_word t)) (cond y (digits t) (sign t)))
    go true y true = h
    go true y false = h
    go false true z = h
    go false false z = h

plain_tokens : (k : ℕ) (s : List ℕ) → Plain s → Each PlainToken (tokens_after k s)
unfolding tokens_after
plain_tokens k [] h = tt
plain_tokens zero (b ∷ s) h = go (eqb b 32) (plain_tokens zero s h.1)
    (token_bytes b (take (token_size b s) (b ∷ s)) (plain_take (token_size b s) (b ∷ s) h), plain_tokens (token_size b s - 1) s h.1)
  where
    go : (c : Bool) → Each PlainToken (tokens_after zero s) → Each PlainToken (token_of b (take (token_size b s) (b ∷ s)) ∷ tokens_after (token_size b s - 1) s)
        → Each PlainToken (choose c (λ _. tokens_after zero s) (λ _. token_of b (take (token_size b s) (b ∷ s)) ∷ tokens_after (token_size b s - 1) s))
    go true x y = x
    go false x y = y
plain_tokens (suc k) (b ∷ s) h = plain_tokens k s h.1

abbrev PlainSpoken : ℕ × List Token → Type 0
PlainSpoken q = Each PlainToken q.1

plain_spoken : (k : ℕ) (ls : List (List ℕ)) → all sound_line ls ≡ true → Each PlainSpoken (spoken k ls)
unfolding spoken
plain_spoken k [] h = tt
plain_spoken k (l ∷ ls) h =
    let (x, y) = both_true (sound_line l) (all sound_line ls) h in
    go (skipped_line l) (plain_spoken (suc k) ls y) (plain_tokens 0 l (plain_line l (both_true (all printable l) _ x).0))
  where
    go : (c : Bool) → Each PlainSpoken (spoken (suc k) ls) → Each PlainToken (tokens l)
        → Each PlainSpoken (cond c (spoken (suc k) ls) ((k, tokens l) ∷ spoken (suc k) ls))
    go true x y = x
    go false x y = (y, x)

abbrev PlainLine : ℕ × Line → Type 0
PlainLine q = Each PlainToken (show_line q.1)

plain_written : (p : Program) → Each PlainSpoken (map shown p) → Each PlainLine p
plain_written [] h = tt
plain_written ((k, l) ∷ p) h = (h.0, plain_written p h.1)

-- ---- declared names

abbrev PlainDeclared : Declared → Type 0
PlainDeclared d = Plain (declared_name d)

declared_plain : (d : Declared) → Each PlainToken (show_declared d) → PlainDeclared d
declared_plain (one x) h = h.0
declared_plain (array x d) h = h.0
declared_plain (grid x m n) h = h.0

more_plain : (ds : List Declared) → Each PlainToken (show_more show_declared ds) → Each PlainDeclared ds
unfolding show_more
more_plain [] h = tt
more_plain (d ∷ ds) h =
    let (x, y) = each_parts PlainToken (show_declared d) (show_more show_declared ds) h.1 in
    (declared_plain d x, more_plain ds y)

entries_plain : (c : ℕ) (ds : List Declared) → Each PlainDeclared ds → PlainTable (entries c ds)
entries_plain c [] h = tt
entries_plain c (d ∷ ds) h = (h.0, entries_plain (c + declared_size d) ds h.1)

after_plain : (k : ℕ) (l : Line) (s : State) → Each PlainToken (show_line l) → PlainTable s.table → PlainTable (after k l s).table
unfolding after show_line
after_plain k (declare d ds) s h t =
    let (x, y) = each_parts PlainToken (show_declared d) (show_more show_declared ds) h.1 in
    each_append (λ e. Plain e.name) s.table (entries (cells s.table) (d ∷ ds)) t
    (entries_plain (cells s.table) (d ∷ ds) (declared_plain d x, more_plain ds y))
after_plain k (give x i is) s h t = each_map (λ e. Plain e.name) (λ e. Plain e.name) (give_to x (values (i ∷ is))) (λ e p. go e (named x e) p)
    s.table t
  where
    go : (e : Entry) (c : Bool) → Plain e.name
        → Plain (cond c
        (record {
          name = e.name;
          first = e.first;
          extents = e.extents;
          size = e.size;
          class = e.class;
          given = some (values (i ∷ is));
        })
        e).name
    go e true p = p
    go e false p = p
after_plain k (direct cs) s h t = each_map (λ e. Plain e.name) (λ e. Plain e.name) (classify cs) (λ e q. q) s.table t
after_plain k (loop v l m j n) s h t = t
after_plain k (inside (assign r e)) s h t = t
after_plain k (inside (when a rel b)) s h t = t
after_plain k (inside otherwise) s h t = go s.opens
  where
    go : (os : List Open) → PlainTable (otherwise_after s os).table
    go [] = t
    go (o ∷ os) = t
after_plain k (inside (end_if j)) s h t = go s.opens
  where
    go : (os : List Open) → PlainTable (end_if_after s os).table
    go [] = t
    go (o ∷ os) = t
after_plain k (end_do j) s h t = t
after_plain k close s h t = t

learnt_plain : (p : Program) (s : State) → Each PlainLine p → PlainTable s.table → PlainTable (learnt s p).table
unfolding learnt
learnt_plain [] s h t = t
learnt_plain (q ∷ p) s h t = learnt_plain p (after q.0 q.1 s) h.1 (after_plain q.0 q.1 s h.0 t)

-- ---- of an accepted text

plain_at : (s : List ℕ) (k : ℕ) → Plain s → get_or s k 0 < 256
plain_at [] k h = omega arith
plain_at (b ∷ s) zero h = h.0
plain_at (b ∷ s) (suc k) h = plain_at s k h.1

pub name_bytes : (text : List ℕ) (s : State) → read text ≡ good s → (i k : ℕ) → i < length s.table → get_or (get_or s.table i nowhere).name k 0 < 256
name_bytes text s e i k h =
    let (p, f, l) = accepted_sound text s e in
    let spoke : Each PlainSpoken (map shown p) = subst (Each PlainSpoken) f.spelled (plain_spoken 1 (lines (map lower text)) f.sound) in
    let table : PlainTable s.table = subst (λ (u : State). PlainTable u.table) l (learnt_plain p nothing (plain_written p spoke) tt) in
    plain_at (get_or s.table i nowhere).name k (each_at (λ e. Plain e.name) s.table i nowhere table h)
