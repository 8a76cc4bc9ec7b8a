-- The lines of an accepted text, as the code prints them, are those of the printed form.
use mathlib.Core.Path.{◌≡◌, refl, sym, ◌∙◌, ap, subst}
use mathlib.Core.Bool.{Bool, true, false}
use mathlib.Core.List.{List, [], ◌∷◌, ◌++◌, map, append-nil, append_assoc}
use mathlib.Core.Option.{none, some}
use Prim.Native.Nat.{ℕ, zero, suc, ◌-◌, ◌<◌}
use native.Mathlib.Omega.{arith}
use borrow.Author.Tests.{ltb-true}
use lib.Dec.{ltb}
use lib.ListN.{replicate, drop}
use Rattle.syntax.specs.Bytes.{choose, all, same, bytes, Token, name, digits, sign, word_of}
use Rattle.syntax.specs.Grammar.{number, bare, plus, minus, Item, item, give, sg, show_item, show_more, show_list, show_line}
use Rattle.syntax.specs.Known.{copies}
use Rattle.syntax.specs.Reader.{text, first}
use Rattle.syntax.proofs.Spelling.{both_true}
use Rattle.printed.specs.Form.{zeros_gone, once, written_out, formed_line, after_blanks, ended}
use Rattle.printed.specs.Differ.{show_items}
use Rattle.printed.proofs.PlainLaws.{Filled, filled, filled_copies, filled_out}
use Rattle.printed.proofs.FormedLaws.{formed_data}
use Rattle.writing.specs.Written.{blanked}
use Rattle.writing.proofs.TokenBytes.{told_token}
use Rattle.layout.specs.Copied.{signed_size, commas, listed, repeats, spread_after, spread, line_bytes}

-- ---- lines with their own tokens

spread_none : (ts : List Token) → spread false ts ≡ ts
unfolding spread_after repeats
spread_none [] = refl
spread_none (t ∷ ts) = ap (λ (us : List Token). t ∷ us) (spread_none ts)

-- a line whose tokens after the first are these
line_of : (data? : Bool) (t : Token) (ts us : List Token) → spread data? ts ≡ us → line_bytes data? (t ∷ ts) ≡ ended (map zeros_gone (t ∷ us))
unfolding line_bytes blanked
line_of data? t ts us e = λ i. (told_token t i ++ after_blanks (map zeros_gone (e i))) ++ (10 ∷ [])

pub own_line : (ts : List Token) → line_bytes false ts ≡ ended (map zeros_gone ts)
unfolding line_bytes blanked spread_after after_blanks
own_line [] = refl
own_line (t ∷ ts) = line_of false t ts ts (spread_none ts)

-- ---- copies of an item

commas_items : (n : ℕ) (i : Item) → commas n (show_item i) ≡ show_more show_item (replicate n i)
unfolding commas show_more
commas_items zero i = refl
commas_items (suc n) i = ap (λ (ts : List Token). sg "," ++ (show_item i ++ ts)) (commas_items n i)

listed_items : (n : ℕ) (i : Item) → 0 < n → show_item i ++ commas (n - 1) (show_item i) ≡ show_items (replicate n i)
listed_items zero i h = absurd (omega arith)
listed_items (suc n) i h =
    let e : suc n - 1 ≡ n = omega arith in
    ap (λ (ts : List Token). show_item i ++ ts) (ap (λ (m : ℕ). commas m (show_item i)) e ∙ commas_items n i)

-- ---- items, one after the other

-- what comes after digits and is no star
abbrev Starless : List Token → Type 0
Starless ts = same (bytes "*") (text (first ts)) ≡ false

spread_digits : (d : List ℕ) (ts : List Token) → Starless ts → spread true (digits d ∷ ts) ≡ digits d ∷ spread true ts
unfolding spread_after repeats
spread_digits d ts e =
    ap (λ (c : Bool). choose c (λ _. listed (number d) (drop 1 ts) ++ spread_after true (suc (signed_size (drop 1 ts))) ts) (λ _. digits d ∷ spread true ts)) e

-- all copies of an item, and then what comes after it
item_spread : (i : Item) (ts : List Token) → Starless ts → 0 < copies i
    → spread true (show_item i ++ ts) ≡ show_items (replicate (copies i) (once i)) ++ spread true ts
unfolding spread_after repeats show_more
item_spread (item none bare d) ts e h = spread_digits d ts e
item_spread (item none plus d) ts e h = ap (λ (us : List Token). sg "+" ++ us) (spread_digits d ts e)
item_spread (item none minus d) ts e h = ap (λ (us : List Token). sg "-" ++ us) (spread_digits d ts e)
item_spread (item (some r) bare d) ts e h = ap (λ (us : List Token). us ++ spread true ts) (listed_items (number r) (item none bare d) h)
item_spread (item (some r) plus d) ts e h = ap (λ (us : List Token). us ++ spread true ts) (listed_items (number r) (item none plus d) h)
item_spread (item (some r) minus d) ts e h = ap (λ (us : List Token). us ++ spread true ts) (listed_items (number r) (item none minus d) h)

more_append : (is js : List Item) → show_more show_item (is ++ js) ≡ show_more show_item is ++ show_more show_item js
unfolding show_more
more_append [] js = refl
more_append (i ∷ is) js =
    ap (λ (ts : List Token). sg "," ++ ts)
    (ap (λ (ts : List Token). show_item i ++ ts) (more_append is js) ∙ sym (append_assoc (show_item i) (show_more show_item is) (show_more show_item js)))

items_joined : {is js : List Item} → Filled is → Filled js → show_items is ++ (sg "," ++ show_items js) ≡ show_items (is ++ js)
unfolding show_more
items_joined (filled i is) (filled j js) =
    append_assoc (show_item i) (show_more show_item is) (show_more show_item (j ∷ js)) ∙ ap (λ (ts : List Token). show_item i ++ ts) (sym (more_append is (j ∷ js)))

-- every item has copies
abbrev Counted : List Item → Type 0
Counted is = all (λ j. ltb 0 (copies j)) is ≡ true

items_spread : (i : Item) (is : List Item) → Counted (i ∷ is) → spread true (show_list show_item i is ++ sg "/") ≡ show_items (written_out (i ∷ is)) ++ sg "/"
unfolding spread_after repeats show_more written_out
items_spread i [] h =
    let c = ltb-true 0 (copies i) (both_true (ltb 0 (copies i)) true h).0 in
    ap (λ (ts : List Token). spread true (ts ++ sg "/")) (append-nil (show_item i)) ∙ item_spread i (sg "/") refl c
    ∙ ap (λ (js : List Item). show_items js ++ sg "/") (sym (append-nil (replicate (copies i) (once i))))
items_spread i (j ∷ js) h =
    let (a, b) = both_true (ltb 0 (copies i)) _ h in
    let c = ltb-true 0 (copies i) a in
    let d = ltb-true 0 (copies j) (both_true (ltb 0 (copies j)) _ b).0 in
    let xs = replicate (copies i) (once i) in
    ap (spread true) (append_assoc (show_item i) (show_more show_item (j ∷ js)) (sg "/"))
    ∙ item_spread i (show_more show_item (j ∷ js) ++ sg "/") refl c
    ∙ ap (λ (ts : List Token). show_items xs ++ (sg "," ++ ts)) (items_spread j js b)
    ∙ sym (append_assoc (show_items xs) (sg "," ++ show_items (written_out (j ∷ js))) (sg "/"))
    ∙ ap (λ (ts : List Token). ts ++ sg "/") (items_joined (filled_whole c) (filled_out j js d))
  where
    filled_whole : 0 < copies i → Filled (replicate (copies i) (once i))
    filled_whole c = subst Filled (append-nil (replicate (copies i) (once i))) (filled_copies (copies i) (once i) [] c)

pub data_line : (x : List ℕ) (i : Item) (is : List Item) → Counted (i ∷ is) → line_bytes true (show_line (give x i is)) ≡ ended (formed_line (give x i is))
unfolding show_line spread_after repeats
data_line x i is h =
    line_of true (word_of (bytes "data")) (name x ∷ sign (bytes "/") ∷ (show_list show_item i is ++ sg "/"))
    (name x ∷ sign (bytes "/") ∷ (show_items (written_out (i ∷ is)) ++ sg "/"))
    (ap (λ (ts : List Token). name x ∷ sign (bytes "/") ∷ ts) (items_spread i is h))
    ∙ ap ended (sym (formed_data x i is (ltb-true 0 (copies i) (both_true (ltb 0 (copies i)) _ h).0)))
