-- The tokens of an accepted text and of its printed form: as the lexer makes them, of bytes in lower case.
use mathlib.Core.Path.{◌≡◌, refl, ap, ap₂, subst}
use mathlib.Core.Bool.{Bool, true, false, cond, ◌&&◌}
use mathlib.Core.List.{List, [], ◌∷◌, ◌++◌, map}
use mathlib.Core.Option.{none, some}
use Prim.Native.Nat.{ℕ, suc, ◌+◌}
use native.Mathlib.Omega.{arith}
use lib.Dec.{eqb, leb}
use lib.ListN.{replicate}
use borrow.Author.Tests.{eqb-true, leb-true, le-leb, lt-leb, eq-eqb}
use Rattle.syntax.specs.Bytes.{all, between, lower, printable, digit, after_newline, in_front, lines, Token, name, other_word, digits, sign, bytes_of, token_size, run, tokens_after, tokens, skipped_line, sound_line, bytes}
use Rattle.syntax.specs.Grammar.{Item, item, assign, when, otherwise, end_if, Line, declare, give, direct, loop, inside, end_do, close, wd, sg, show_more, show_item, show_line}
use Rattle.syntax.specs.Known.{copies}
use Rattle.syntax.specs.Follows.{Program, spoken, shown, Follows}
use Rattle.syntax.specs.Sane.{Each}
use Rattle.syntax.proofs.Spelling.{both_true}
use Rattle.syntax.proofs.TestLaws.{both_hold, cond_each, each_append, each_map, each_replicate}
use Rattle.printed.specs.Form.{shortest, zeros_gone, once, written_out, data_line, plain, formed_line}
use Rattle.printed.proofs.ZeroLaws.{shortest_holds}
use Rattle.printed.proofs.RoundTrip.{Numeral, Proper}
use Rattle.printed.proofs.LexedLaws.{tokens_proper, tokens_bytes}

-- ---- bytes

-- lower case reads as itself
abbrev pub steady : ℕ → Bool
steady b = eqb (lower b) b

-- a byte that stands on a line of an accepted text in lower case
abbrev pub fair : ℕ → Bool
fair b = steady b && printable b

lower_steady : (b : ℕ) → steady (lower b) ≡ true
lower_steady b = go (between 65 90 b) refl
  where
    go : (c : Bool) → between 65 90 b ≡ c → eqb (lower (cond c (b + 32) b)) (cond c (b + 32) b) ≡ true
    go true h =
        let k = leb-true 65 b (both_true (leb 65 b) (leb b 90) h).0 in
        let e : between 65 90 (b + 32) ≡ false = ap₂ (λ (x y : Bool). x && y) (le-leb 65 (b + 32) (omega arith)) (lt-leb (b + 32) 90 (omega arith)) in
        eq-eqb (lower (b + 32)) (b + 32) (ap (λ (c : Bool). cond c ((b + 32) + 32) (b + 32)) e)
    go false h = eq-eqb (lower b) b (ap (λ (c : Bool). cond c (b + 32) b) h)

all_lower : (s : List ℕ) → all steady (map lower s) ≡ true
all_lower [] = refl
all_lower (b ∷ s) = both_hold (lower_steady b) (all_lower s)

pub lower_same : (s : List ℕ) → all steady s ≡ true → map lower s ≡ s
lower_same [] h = refl
lower_same (b ∷ s) h =
    let (x, y) = both_true (steady b) (all steady s) h in ap₂ (λ (c : ℕ) (t : List ℕ). c ∷ t) (eqb-true (lower b) b x) (lower_same s y)

all_both : (p q : ℕ → Bool) (s : List ℕ) → all p s ≡ true → all q s ≡ true → all (λ b. p b && q b) s ≡ true
all_both p q [] h k = refl
all_both p q (b ∷ s) h k =
    let (x, y) = both_true (p b) (all p s) h in
    let (u, v) = both_true (q b) (all q s) k in
    both_hold (both_hold x u) (all_both p q s y v)

pub all_first : (p q : ℕ → Bool) (s : List ℕ) → all (λ b. p b && q b) s ≡ true → all p s ≡ true
all_first p q [] h = refl
all_first p q (b ∷ s) h =
    let (x, y) = both_true (p b && q b) (all (λ b. p b && q b) s) h in both_hold (both_true (p b) (q b) x).0 (all_first p q s y)

pub all_second : (p q : ℕ → Bool) (s : List ℕ) → all (λ b. p b && q b) s ≡ true → all q s ≡ true
all_second p q [] h = refl
all_second p q (b ∷ s) h =
    let (x, y) = both_true (p b && q b) (all (λ b. p b && q b) s) h in both_hold (both_true (p b) (q b) x).1 (all_second p q s y)

-- ---- the tokens of an accepted text

pub record Lexed (t : Token) : Type 0 where
  pub proper : Proper t
  pub fairly : all fair (bytes_of t) ≡ true

lines_all : (p : ℕ → Bool) (s : List ℕ) → all p s ≡ true → all (all p) (lines s) ≡ true
unfolding lines
lines_all p [] h = refl
lines_all p (b ∷ s) h = let (x, y) = both_true (p b) (all p s) h in go (eqb b 10) s (lines s) x (lines_all p s y)
  where
    go : (c : Bool) (s : List ℕ) (ls : List (List ℕ)) → p b ≡ true → all (all p) ls ≡ true
        → all (all p) (cond c ([] ∷ after_newline s ls) (in_front b ls)) ≡ true
    go true [] ls x i = refl
    go true (d ∷ s) ls x i = i
    go false s [] x i = both_hold (both_hold x refl) refl
    go false s (l ∷ ls) x i = let (u, v) = both_true (all p l) (all (all p) ls) i in both_hold (both_hold x u) v

both_each : {A : Type 0} (P Q R : A → Type 0) → ((x : A) → P x → Q x → R x) → (xs : List A) → Each P xs → Each Q xs → Each R xs
both_each P Q R f [] h k = tt
both_each P Q R f (x ∷ xs) h k = (f x h.0 k.0, both_each P Q R f xs h.1 k.1)

tokens_lexed : (s : List ℕ) → all fair s ≡ true → Each Lexed (tokens s)
tokens_lexed s h =
    both_each Proper (λ t. all fair (bytes_of t) ≡ true) Lexed (λ t p q. record { proper = p; fairly = q }) (tokens s) (tokens_proper 0 s)
    (tokens_bytes fair 0 s h)

spoken_lexed : (k : ℕ) (ls : List (List ℕ)) → all (all steady) ls ≡ true → all sound_line ls ≡ true → Each (λ q. Each Lexed q.1) (spoken k ls)
unfolding spoken
spoken_lexed k [] h i = tt
spoken_lexed k (l ∷ ls) h i =
    let (x, y) = both_true (all steady l) (all (all steady) ls) h in
    let (u, v) = both_true (sound_line l) (all sound_line ls) i in
    let a = tokens_lexed l (all_both steady printable l x (both_true (all printable l) _ u).0) in
    let b = spoken_lexed (suc k) ls y v in
    cond_each (Each (λ q. Each Lexed q.1)) (skipped_line l) b (a, b)

written_lexed : (p : Program) → Each (λ q. Each Lexed q.1) (map shown p) → Each (λ q. Each Lexed (show_line q.1)) p
written_lexed [] h = tt
written_lexed ((k, l) ∷ p) h = (h.0, written_lexed p h.1)

pub follows_lexed : (text : List ℕ) (p : Program) → Follows text p → Each (λ q. Each Lexed (show_line q.1)) p
follows_lexed text p f =
    written_lexed p (subst (Each (λ q. Each Lexed q.1)) f.spelled
    (spoken_lexed 1 (lines (map lower text)) (lines_all steady (map lower text) (all_lower text)) f.sound))

-- ---- the printed tokens are such too

pub each_split : {A : Type 0} (P : A → Type 0) (xs ys : List A) → Each P (xs ++ ys) → Each P xs × Each P ys
each_split P [] ys h = (tt, h)
each_split P (x ∷ xs) ys h = let r = each_split P xs ys h.1 in ((h.0, r.0), r.1)

shortest_numeral : (d : List ℕ) → Numeral d → Numeral (shortest d)
shortest_numeral = shortest_holds Numeral (λ e ds h. both_true (digit e) (all digit ds) h.1)

gone_lexed : (t : Token) → Lexed t → Lexed (zeros_gone t)
gone_lexed (name b) h = h
gone_lexed (other_word b) h = h
gone_lexed (digits b) h =
    record { proper = shortest_numeral b h.proper; fairly = shortest_holds (λ (x : List ℕ). all fair x ≡ true) (λ e ds k. k) b h.fairly }
gone_lexed (sign b) h = h

-- tokens of the form itself
lexed_as : (s : List ℕ) (ts : List Token) → tokens s ≡ ts → all fair s ≡ true → Each Lexed ts
lexed_as s ts e h = subst (Each Lexed) e (tokens_lexed s h)

comma_lexed : Lexed (sign (bytes ","))
unfolding tokens_after token_size run
comma_lexed = (lexed_as (bytes ",") (sg ",") refl refl).0

slash_lexed : Lexed (sign (bytes "/"))
unfolding tokens_after token_size run
slash_lexed = (lexed_as (bytes "/") (sg "/") refl refl).0

data_lexed : Each Lexed (wd "data")
unfolding tokens_after token_size run
data_lexed = lexed_as (bytes "data") (wd "data") refl refl

end_if_lexed : Each Lexed (wd "end" ++ wd "if")
unfolding tokens_after token_size run
end_if_lexed = lexed_as (bytes "end if") (wd "end" ++ wd "if") refl refl

end_do_lexed : Each Lexed (wd "end" ++ wd "do")
unfolding tokens_after token_size run
end_do_lexed = lexed_as (bytes "end do") (wd "end" ++ wd "do") refl refl

abbrev pub ItemLexed : Item → Type 0
ItemLexed i = Each Lexed (show_item i)

pub more_lexed : (is : List Item) → Each Lexed (show_more show_item is) → Each ItemLexed is
unfolding show_more
more_lexed [] h = tt
more_lexed (i ∷ is) h = let r = each_split Lexed (show_item i) (show_more show_item is) h.1 in (r.0, more_lexed is r.1)

lexed_more : (is : List Item) → Each ItemLexed is → Each Lexed (show_more show_item is)
unfolding show_more
lexed_more [] h = tt
lexed_more (i ∷ is) h = (comma_lexed, each_append Lexed (show_item i) (show_more show_item is) h.0 (lexed_more is h.1))

once_lexed : (i : Item) → ItemLexed i → ItemLexed (once i)
once_lexed (item none l d) h = h
once_lexed (item (some r) l d) h = h.1.1

out_lexed : (is : List Item) → Each ItemLexed is → Each ItemLexed (written_out is)
unfolding written_out
out_lexed [] h = tt
out_lexed (i ∷ is) h =
    each_append ItemLexed (replicate (copies i) (once i)) (written_out is) (each_replicate ItemLexed (copies i) (once i) (once_lexed i h.0))
    (out_lexed is h.1)

give_lexed : (x : List ℕ) (i : Item) (is : List Item) → Lexed (name x) → Each ItemLexed (i ∷ is) → Each Lexed (show_line (give x i is))
unfolding show_line
give_lexed x i is n h =
    let items = each_append Lexed (show_item i) (show_more show_item is) h.0 (lexed_more is h.1) in
    (data_lexed.0, (n, (slash_lexed, each_append Lexed (show_item i ++ show_more show_item is) (sg "/") items (slash_lexed, tt))))

data_line_lexed : (x : List ℕ) (i : Item) (is : List Item) → Lexed (name x) → ItemLexed i → Each ItemLexed is
    → Each Lexed (show_line (data_line x i is))
data_line_lexed x i [] n h k = give_lexed x i [] n (h, tt)
data_line_lexed x i (j ∷ js) n h k = give_lexed x j js n k

plain_lexed : (l : Line) → Each Lexed (show_line l) → Each Lexed (show_line (plain l))
unfolding plain show_line
plain_lexed (declare d ds) h = h
plain_lexed (give x i is) h =
    let a = (each_split Lexed (show_item i ++ show_more show_item is) (sg "/") h.1.1.1).0 in
    let b = each_split Lexed (show_item i) (show_more show_item is) a in
    data_line_lexed x (once i) (written_out (i ∷ is)) h.1.0 (once_lexed i b.0) (out_lexed (i ∷ is) (b.0, more_lexed is b.1))
plain_lexed (direct cs) h = h
plain_lexed (loop v l m k n) h = h
plain_lexed (inside (assign r e)) h = h
plain_lexed (inside (when a r b)) h = h
plain_lexed (inside otherwise) h = h
plain_lexed (inside (end_if j)) h = end_if_lexed
plain_lexed (end_do j) h = end_do_lexed
plain_lexed close h = h

pub formed_line_lexed : (l : Line) → Each Lexed (show_line l) → Each Lexed (formed_line l)
formed_line_lexed l h = each_map Lexed Lexed zeros_gone gone_lexed (show_line (plain l)) (plain_lexed l h)
