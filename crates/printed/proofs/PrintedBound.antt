-- How long a printed form can be: a token at most twice its bytes, and 15 bytes for each cell that has data (`, - 2147483647 `).
use mathlib.Core.Path.{◌≡◌, refl, sym, ◌∙◌, ap, ap₂, subst}
use mathlib.Core.Bool.{true, false}
use mathlib.Core.List.{List, [], ◌∷◌, ◌++◌, map, map-append}
use mathlib.Core.Option.{none, some}
use Prim.Native.Nat.{ℕ, ◌+◌, ◌*◌, ◌≤◌}
use native.Mathlib.Omega.{arith}
use lib.Dec.{leb, ltb}
use lib.ListN.{length, replicate, length-append, length-replicate}
use borrow.Author.Tests.{ltb-true, leb-true}
use Rattle.syntax.specs.Bytes.{all, Token, name, other_word, digits, sign, bytes_of}
use Rattle.syntax.specs.Grammar.{Declared, show_declared, number, Lead, bare, plus, minus, Item, item, assign, when, otherwise, end_if, Line, declare, give, direct, loop, inside, end_do, close, sg, show_more, show_signed, show_item, show_line}
use Rattle.syntax.specs.Known.{total, State, nothing, copies, after}
use Rattle.syntax.specs.Conditions.{concat, in_item, in_line, small, limits, fits, stands, may_follow, stage_of}
use Rattle.syntax.specs.Follows.{Program, InOrder, Follows, learnt}
use Rattle.syntax.specs.Sane.{Each}
use Rattle.syntax.proofs.Spelling.{both_true}
use Rattle.syntax.proofs.TableLines.{total_append}
use Rattle.syntax.proofs.TestLaws.{cond_each, each_append, each_replicate, all_parts}
use Rattle.syntax.proofs.Sane.{learnt_sane, nothing_sane}
use Rattle.printed.specs.Form.{shortest, zeros_gone, once, written_out, data_line, plain, closing, kept, formed_line, printed}
use Rattle.printed.proofs.ZeroLaws.{shortest_holds}
use Rattle.printed.proofs.RoundTrip.{Numeral, Proper}
use Rattle.printed.proofs.PlainLaws.{Filled, filled, filled_out}
use Rattle.printed.proofs.PrintedTokens.{Lexed, follows_lexed, each_split, ItemLexed, more_lexed}
use Rattle.printed.proofs.Programs.{first_declares}
use Rattle.printed.proofs.PrintedLength.{room, printed_size, printed_length}
use Rattle.printed.proofs.TextWeight.{weight, follows_weight}
use Rattle.printed.proofs.DataCells.{data_copies, filled_few, filled_learnt}
use Rattle.printed.proofs.LiteralLength.{shortest_length}

-- ---- tokens

proper_some : (t : Token) → Proper t → 1 ≤ length (bytes_of t)
proper_some (name []) h = absurd h.0
proper_some (name (b ∷ s)) h = omega arith
proper_some (other_word []) h = absurd h.0
proper_some (other_word (b ∷ s)) h = omega arith
proper_some (digits []) h = absurd h
proper_some (digits (b ∷ s)) h = omega arith
proper_some (sign []) h = absurd h
proper_some (sign (b ∷ s)) h = omega arith

shortest_less : (d : List ℕ) → length (shortest d) ≤ length d
shortest_less d = shortest_holds (λ (x : List ℕ). length x ≤ length d) (λ e ds h. omega arith) d (omega arith)

gone_less : (t : Token) → length (bytes_of (zeros_gone t)) ≤ length (bytes_of t)
gone_less (name b) = omega arith
gone_less (other_word b) = omega arith
gone_less (digits b) = shortest_less b
gone_less (sign b) = omega arith

-- at most twice the bytes
tokens_room : (ts : List Token) → Each Lexed ts → total room (map zeros_gone ts) ≤ 2 * weight ts
unfolding weight
tokens_room [] h = omega arith
tokens_room (t ∷ ts) h = omega (arith, gone_less t, proper_some t h.0.proper, tokens_room ts h.1)

-- ---- items

-- an item as it is written out
abbrev Brief : Item → Type 0
Brief i = total room (map zeros_gone (show_item i)) ≤ 13

signed_brief : (l : Lead) (d : List ℕ) → Numeral d → number d ≤ 2147483647 → Brief (item none l d)
signed_brief bare d h k = omega (arith, shortest_length d h k)
signed_brief plus d h k = omega (arith, shortest_length d h k)
signed_brief minus d h k = omega (arith, shortest_length d h k)

signed_numeral : (l : Lead) (d : List ℕ) → Each Lexed (show_signed l d) → Numeral d
signed_numeral bare d h = h.0.proper
signed_numeral plus d h = h.1.0.proper
signed_numeral minus d h = h.1.0.proper

once_brief : (i : Item) → ItemLexed i → all small (in_item i) ≡ true → Brief (once i)
once_brief (item none l d) h k = signed_brief l d (signed_numeral l d h) (leb-true _ _ (both_true (leb (number d) 2147483647) true k).0)
once_brief (item (some r) l d) h k =
    let (x, y) = both_true (leb (number r) 2147483647) _ k in
    signed_brief l d (signed_numeral l d h.1.1) (leb-true _ _ (both_true (leb (number d) 2147483647) true y).0)

out_brief : (is : List Item) → Each ItemLexed is → all small (concat in_item is) ≡ true → Each Brief (written_out is)
unfolding written_out
out_brief [] h k = tt
out_brief (i ∷ is) h k =
    let (x, y) = all_parts small (in_item i) (concat in_item is) k in
    each_append Brief (replicate (copies i) (once i)) (written_out is) (each_replicate Brief (copies i) (once i) (once_brief i h.0 x))
    (out_brief is h.1 y)

room_append : (a b : List Token) → total room (map zeros_gone (a ++ b)) ≡ total room (map zeros_gone a) + total room (map zeros_gone b)
room_append a b = ap (total room) (map-append zeros_gone a b) ∙ total_append room (map zeros_gone a) (map zeros_gone b)

more_room : (is : List Item) → Each Brief is → total room (map zeros_gone (show_more show_item is)) ≤ 15 * length is
unfolding show_more
more_room [] h = omega arith
more_room (i ∷ is) h = omega (arith, room_append (show_item i) (show_more show_item is), h.0, more_room is h.1)

out_length : (is : List Item) → length (written_out is) ≡ total copies is
unfolding written_out
out_length [] = refl
out_length (i ∷ is) = length-append (replicate (copies i) (once i)) (written_out is) ∙ ap₂ ◌+◌ (length-replicate (copies i) (once i)) (out_length is)

-- ---- lines

give_room : (x : List ℕ) (i : Item) (is : List Item) → Each Brief (i ∷ is)
    → total room (map zeros_gone (show_line (give x i is))) ≤ 8 + length x + 15 * length (i ∷ is)
unfolding show_line
give_room x i is h =
    let a = show_item i in
    let b = show_more show_item is in
    omega (arith, room_append (a ++ b) (sg "/"), room_append a b, h.0, more_room is h.1)

data_room : (x : List ℕ) (i : Item) {is : List Item} → Filled is → Each Brief is
    → total room (map zeros_gone (show_line (data_line x i is))) ≤ 8 + length x + 15 * length is
data_room x i (filled j js) h = give_room x j js h

line_room : (s : State) (l : Line) → fits s.opens l ≡ true → limits s l ≡ true → Each Lexed (show_line l)
    → total room (formed_line l) ≤ 2 * weight (show_line l) + 15 * data_copies l
unfolding plain show_line limits in_line data_copies weight
line_room s (declare d ds) f k h = omega (arith, tokens_room (show_line (declare d ds)) h)
line_room s (give x i is) f k h =
    let a = (each_split Lexed (show_item i ++ show_more show_item is) (sg "/") h.1.1.1).0 in
    let b = each_split Lexed (show_item i) (show_more show_item is) a in
    let c = (both_true (all small (concat in_item (i ∷ is))) true k).0 in
    let e = out_brief (i ∷ is) (b.0, more_lexed is b.1) c in
    let g = ltb-true 0 (copies i) (both_true (ltb 0 (copies i)) _ f).0 in
    omega (arith, data_room x (once i) (filled_out i is g) e, out_length (i ∷ is))
line_room s (direct cs) f k h = omega (arith, tokens_room (show_line (direct cs)) h)
line_room s (loop v l m j n) f k h = omega (arith, tokens_room (show_line (loop v l m j n)) h)
line_room s (inside (assign r e)) f k h = omega (arith, tokens_room (show_line (inside (assign r e))) h)
line_room s (inside (when a r b)) f k h = omega (arith, tokens_room (show_line (inside (when a r b))) h)
line_room s (inside otherwise) f k h = omega arith
line_room s (inside (end_if true)) f k h = omega arith
line_room s (inside (end_if false)) f k h = omega arith
line_room s (end_do true) f k h = omega arith
line_room s (end_do false) f k h = omega arith
line_room s close f k h = omega arith

-- `integer` is 7 bytes and takes 8
declare_room : (d : Declared) (ds : List Declared) → Each Lexed (show_line (declare d ds))
    → total room (formed_line (declare d ds)) + 6 ≤ 2 * weight (show_line (declare d ds))
unfolding plain show_line weight
declare_room d ds h = omega (arith, tokens_room (show_declared d ++ show_more show_declared ds) h.1)

-- ---- the printed form

abbrev weighs : Program → ℕ
weighs = total (λ q. weight (show_line q.1))

abbrev copied : Program → ℕ
copied = total (λ q. data_copies q.1)

program_room : (s : State) (p : Program) → InOrder s p → Each (λ q. Each Lexed (show_line q.1)) p
    → printed_size p ≤ 2 * weighs p + 15 * copied p
unfolding kept stands
program_room s [] o h = omega arith
program_room s ((k, l) ∷ p) o h =
    let i = program_room (after k l s) p o.3 h.1 in
    let r = line_room s l (both_true (may_follow s.stage (stage_of l)) (fits s.opens l) o.0).1 o.2 h.0 in
    cond_each (λ (ls : List Line). total (total room) (map formed_line ls) ≤ 2 * weighs ((k, l) ∷ p) + 15 * copied ((k, l) ∷ p)) (closing l)
    (omega arith) (omega arith)

declares_room : (s : State) (k : ℕ) (d : Declared) (ds : List Declared) (p : Program) → InOrder s ((k, declare d ds) ∷ p)
    → Each (λ q. Each Lexed (show_line q.1)) ((k, declare d ds) ∷ p)
    → printed_size ((k, declare d ds) ∷ p) + 6 ≤ 2 * weighs ((k, declare d ds) ∷ p) + 15 * copied ((k, declare d ds) ∷ p)
unfolding kept data_copies
declares_room s k d ds p o h = omega (arith, declare_room d ds h.0, program_room (after k (declare d ds) s) p o.3 h.1)

size_bound : (text : List ℕ) (p : Program) → Follows text p → printed_size p ≤ 65530
size_bound text [] f = let z : ◌≡◌ {A = ℕ} 0 1 = cc f.ordered in absurd (omega arith)
size_bound text ((k, l) ∷ p) f = go l (first_declares l f.ordered.0) f
  where
    go : (l : Line) → (d : Declared) × (ds : List Declared) × (l ≡ declare d ds) → Follows text ((k, l) ∷ p) → printed_size ((k, l) ∷ p) ≤ 65530
    go l (d, ds, e) f =
        let q : Program = (k, declare d ds) ∷ p in
        let g : Follows text q = subst (λ (m : Line). Follows text ((k, m) ∷ p)) e f in
        let r = declares_room nothing k d ds p g.ordered (follows_lexed text q g) in
        let c = filled_learnt nothing q g.ordered in
        let t = (learnt_sane nothing q g.ordered nothing_sane).table.few_cells in
        let b : printed_size q ≤ 65530 = omega (arith, r, c, t, filled_few (learnt nothing q).table, follows_weight text q g, g.short) in
        subst (λ (m : Line). printed_size ((k, m) ∷ p) ≤ 65530) (sym e) b

pub printed_bound : (text : List ℕ) (p : Program) → Follows text p → length (printed p) ≤ 65530
printed_bound text p f = rw (printed_length p) (size_bound text p f)
