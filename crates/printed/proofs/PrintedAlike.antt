-- Two texts have the same printed lines exactly when they differ only in what the form removes. One way by the rules, from each text to its
-- printed lines; the other by a line's own form, which no rule changes.
use mathlib.Core.Path.{◌≡◌, refl, sym, ◌∙◌, ap, ap₂, subst, subst₂}
use mathlib.Core.Bool.{Bool, true, false, cond}
use mathlib.Core.List.{List, [], ◌∷◌, ◌++◌, map, map-append, append_assoc}
use mathlib.Core.Option.{Option, none, some}
use Prim.Native.Nat.{ℕ, ◌<◌}
use lib.Dec.{ltb}
use lib.ListN.{replicate}
use borrow.Author.Tests.{ltb-true}
use Rattle.syntax.specs.Bytes.{all, Token, name, other_word, digits, sign}
use Rattle.syntax.specs.Grammar.{number, Lead, Item, item, assign, when, otherwise, end_if, Line, declare, give, direct, loop, inside, end_do, close, show_line}
use Rattle.syntax.specs.Known.{State, Open, copies, after, nothing}
use Rattle.syntax.specs.Conditions.{concat, may_follow, fits, stands, stage_of}
use Rattle.syntax.specs.Reader.{parse}
use Rattle.syntax.specs.Follows.{Program, shown, InOrder, Follows}
use Rattle.syntax.proofs.Spelling.{both_true}
use Rattle.syntax.proofs.Complete.{parse_complete}
use Rattle.printed.specs.Form.{shortest, zeros_gone, once, written_out, data_line, plain, closing, kept, formed_line, formed}
use Rattle.printed.specs.Differ.{speech, show_data, Differ, nowhere, back, also}
use Rattle.printed.specs.Differ as differ
use Rattle.printed.specs.Restated.{short_item, short}
use Rattle.printed.proofs.ZeroLaws.{shortest_holds, show_short}
use Rattle.printed.proofs.PlainLaws.{plain_short, closing_is, closing_short, written_out_append, written_out_once, written_out_short, Filled, filled, filled_after, filled_copies, filled_out}

-- the tokens of a program's lines
abbrev told : Program → List (List Token)
told p = map (λ q. show_line q.1) p

-- ---- the rules lead from a text to its printed lines

differ_below : (l : List Token) {x y : List (List Token)} → Differ x y → Differ (l ∷ x) (l ∷ y)
differ_below l nowhere = nowhere
differ_below l (back h) = back (differ_below l h)
differ_below l (also h k) = also (differ_below l h) (differ_below l k)
differ_below l (differ.zero u v a b d ds) = differ.zero (l ∷ u) v a b d ds
differ_below l (differ.end_if u v) = differ.end_if (l ∷ u) v
differ_below l (differ.end_do u v) = differ.end_do (l ∷ u) v
differ_below l (differ.close u v) = differ.close (l ∷ u) v
differ_below l (differ.copies u v x is js r m d h) = differ.copies (l ∷ u) v x is js r m d h

differ_digits : (v : List (List Token)) (a b : List Token) (d : List ℕ)
    → Differ ((a ++ (digits d ∷ b)) ∷ v) ((a ++ (digits (shortest d) ∷ b)) ∷ v)
differ_digits v a b d =
    shortest_holds (λ (x : List ℕ). Differ ((a ++ (digits d ∷ b)) ∷ v) ((a ++ (digits x ∷ b)) ∷ v))
    (λ e ds h. also h (differ.zero [] v a b e ds)) d nowhere

differ_token : (v : List (List Token)) (a b : List Token) (t : Token) → Differ ((a ++ (t ∷ b)) ∷ v) ((a ++ (zeros_gone t ∷ b)) ∷ v)
differ_token v a b (name x) = nowhere
differ_token v a b (other_word x) = nowhere
differ_token v a b (digits d) = differ_digits v a b d
differ_token v a b (sign x) = nowhere

differ_tokens : (v : List (List Token)) (a ts : List Token) → Differ ((a ++ ts) ∷ v) ((a ++ map zeros_gone ts) ∷ v)
differ_tokens v a [] = nowhere
differ_tokens v a (t ∷ ts) =
    also (differ_token v a ts t)
    (subst₂ (λ (x y : List Token). Differ (x ∷ v) (y ∷ v))
    (append_assoc a (zeros_gone t ∷ []) ts) (append_assoc a (zeros_gone t ∷ []) (map zeros_gone ts))
    (differ_tokens v (a ++ (zeros_gone t ∷ [])) ts))

differ_items : (v : List (List Token)) (x : List ℕ) (is js : List Item) → all (λ j. ltb 0 (copies j)) js ≡ true
    → Differ (show_data x (is ++ js) ∷ v) (show_data x (is ++ written_out js) ∷ v)
unfolding written_out
differ_items v x is [] h = nowhere
differ_items v x is (item none l d ∷ js) h =
    subst₂ (λ (a b : List Item). Differ (show_data x a ∷ v) (show_data x b ∷ v)) (append_assoc is (item none l d ∷ []) js)
    (append_assoc is (item none l d ∷ []) (written_out js))
    (differ_items v x (is ++ (item none l d ∷ [])) js h)
differ_items v x is (item (some r) l d ∷ js) h =
    let (p, q) = both_true (ltb 0 (number r)) (all (λ j. ltb 0 (copies j)) js) h in
    let rs = replicate (number r) (item none l d) in
    also (differ.copies [] v x is js r l d (ltb-true 0 (number r) p))
    (subst₂ (λ (a b : List Item). Differ (show_data x a ∷ v) (show_data x b ∷ v)) (append_assoc is rs js) (append_assoc is rs (written_out js))
    (differ_items v x (is ++ rs) js q))

data_told : (x : List ℕ) (i : Item) (is : List Item) → Filled is → show_line (data_line x i is) ≡ show_data x is
unfolding show_line
data_told x i is (filled j js) = refl

differ_plain : (v : List (List Token)) (os : List Open) (l : Line) → fits os l ≡ true → Differ (show_line l ∷ v) (show_line (plain l) ∷ v)
unfolding plain show_line
differ_plain v os (declare d ds) h = nowhere
differ_plain v os (give x i is) h =
    let (p, q) = both_true (ltb 0 (copies i)) (all (λ j. ltb 0 (copies j)) is) h in
    subst (λ (y : List Token). Differ (show_data x (i ∷ is) ∷ v) (y ∷ v))
    (sym (data_told x (once i) (written_out (i ∷ is)) (filled_out i is (ltb-true 0 (copies i) p))))
    (differ_items v x [] (i ∷ is) h)
differ_plain v os (direct cs) h = nowhere
differ_plain v os (loop w l m k n) h = nowhere
differ_plain v os (inside (assign r e)) h = nowhere
differ_plain v os (inside (when a r b)) h = nowhere
differ_plain v os (inside otherwise) h = nowhere
differ_plain v os (inside (end_if true)) h = differ.end_if [] v
differ_plain v os (inside (end_if false)) h = nowhere
differ_plain v os (end_do true) h = differ.end_do [] v
differ_plain v os (end_do false) h = nowhere
differ_plain v os close h = nowhere

differ_close : (v : List (List Token)) (l : Line) → closing l ≡ true → Differ (show_line l ∷ v) v
unfolding show_line
differ_close v l h = subst (λ (m : Line). Differ (show_line m ∷ v) v) (sym (closing_is l h)) (differ.close [] v)

differ_told : (s : State) (p : Program) → InOrder s p → Differ (told p) (formed p)
unfolding kept stands
differ_told s [] h = nowhere
differ_told s ((k, l) ∷ p) h = go (closing l) refl (differ_told (after k l s) p h.3)
  where
    go : (c : Bool) → closing l ≡ c → Differ (told p) (formed p) → Differ (show_line l ∷ told p) (map formed_line (cond c (kept p) (l ∷ kept p)))
    go true e i = also (differ_close (told p) l e) i
    go false e i =
        also (differ_below (show_line l) i)
        (also (differ_plain (formed p) s.opens l (both_true (may_follow s.stage (stage_of l)) (fits s.opens l) h.0).1)
        (differ_tokens (formed p) [] (show_line (plain l))))

-- ---- a line's own form

settled : Option Line → List Token → List (List Token)
settled none ts = ts ∷ []
settled (some l) ts = cond (closing l) [] (show_line (plain l) ∷ [])

own : List Token → List (List Token)
own ts = settled (parse (map zeros_gone ts)) (map zeros_gone ts)

own_line : (l : Line) → own (show_line l) ≡ settled (some (short l)) (show_line (short l))
unfolding own
own_line l =
    ap (λ (ts : List Token). settled (parse ts) ts) (sym (show_short l))
    ∙ ap (λ (o : Option Line). settled o (show_line (short l))) (parse_complete (short l))

own_formed : (l : Line) → own (show_line l) ≡ cond (closing l) [] (formed_line l ∷ [])
unfolding settled
own_formed l =
    own_line l
    ∙ ap₂ (λ (c : Bool) (ts : List Token). cond c [] (ts ∷ [])) (closing_short l) (ap show_line (plain_short l) ∙ show_short (plain l))

concat_append : {A B : Type 0} (f : A → List B) (u v : List A) → concat f (u ++ v) ≡ concat f u ++ concat f v
concat_append f [] v = refl
concat_append f (x ∷ u) v = ap (λ ys. f x ++ ys) (concat_append f u v) ∙ sym (append_assoc (f x) (concat f u) (concat f v))

-- lines with the same form, among others
among : (u v : List (List Token)) (a b : List Token) → own a ≡ own b → concat own (u ++ (a ∷ v)) ≡ concat own (u ++ (b ∷ v))
among u v a b h =
    concat_append own u (a ∷ v) ∙ ap (λ (x : List (List Token)). concat own u ++ (x ++ concat own v)) h ∙ sym (concat_append own u (b ∷ v))

own_zeros : (a b : List Token) → map zeros_gone a ≡ map zeros_gone b → own a ≡ own b
unfolding own
own_zeros a b h = ap (λ (ts : List Token). settled (parse ts) ts) h

own_plain : (l m : Line) → closing (short l) ≡ closing (short m) → plain (short l) ≡ plain (short m) → own (show_line l) ≡ own (show_line m)
unfolding settled
own_plain l m c h = own_line l ∙ ap₂ (λ (c : Bool) (k : Line). cond c [] (show_line k ∷ [])) c h ∙ sym (own_line m)

data_form : (x : List ℕ) (i : Item) (is : List Item) (j : Item) (js : List Item) → Filled (written_out (i ∷ is))
    → written_out (i ∷ is) ≡ written_out (j ∷ js)
    → own (show_line (give x i is)) ≡ own (show_line (give x j js))
unfolding short plain
data_form x i is j js f h =
    own_plain (give x i is) (give x j js) refl (go (written_out (map short_item (i ∷ is))) _ (written_out_short (i ∷ is)) (written_out_short (j ∷ js)))
  where
    same : {a : List Item} (p q : Item) → Filled a → data_line x p (map short_item a) ≡ data_line x q (map short_item a)
    same p q (filled i is) = refl

    go : (a b : List Item) → a ≡ map short_item (written_out (i ∷ is)) → b ≡ map short_item (written_out (j ∷ js))
        → data_line x (once (short_item i)) a ≡ data_line x (once (short_item j)) b
    go a b p q =
        ap (data_line x (once (short_item i))) p ∙ same (once (short_item i)) (once (short_item j)) f
        ∙ ap (λ (is : List Item). data_line x (once (short_item j)) (map short_item is)) h ∙ ap (data_line x (once (short_item j))) (sym q)

-- ---- no rule changes the form

own_data : (x : List ℕ) (a b : List Item) → Filled a → Filled b → Filled (written_out a) → written_out a ≡ written_out b
    → own (show_data x a) ≡ own (show_data x b)
unfolding show_line
own_data x a b (filled i is) (filled j js) f h = data_form x i is j js f h

own_copies : (x : List ℕ) (is js : List Item) (r : List ℕ) (l : Lead) (d : List ℕ) → 0 < number r
    → own (show_data x (is ++ (item (some r) l d ∷ js))) ≡ own (show_data x (is ++ (replicate (number r) (item none l d) ++ js)))
unfolding written_out
own_copies x is js r l d h =
    let n = number r in
    let i = item (some r) l d in
    let e = written_out_append is (i ∷ js) in
    own_data x (is ++ (i ∷ js)) (is ++ (replicate n (once i) ++ js))
    (filled_after is (filled i js)) (filled_after is (filled_copies n (once i) js h))
    (subst Filled (sym e) (filled_after (written_out is) (filled_copies n (once i) (written_out js) h)))
    (e ∙ sym (written_out_append is (replicate n (once i) ++ js)
    ∙ ap (λ (xs : List Item). written_out is ++ xs)
    (written_out_append (replicate n (once i)) js ∙ ap (λ (xs : List Item). xs ++ written_out js) (written_out_once n i))))

own_ending : own (show_line (end_do true)) ≡ own (show_line (end_do false))
unfolding short plain
own_ending = own_plain (end_do true) (end_do false) refl refl

own_end_if : own (show_line (inside (end_if true))) ≡ own (show_line (inside (end_if false)))
unfolding short plain
own_end_if = own_plain (inside (end_if true)) (inside (end_if false)) refl refl

own_close : own (show_line close) ≡ []
own_close = own_formed close

differ_form : {x y : List (List Token)} → Differ x y → concat own x ≡ concat own y
unfolding show_line shortest
differ_form nowhere = refl
differ_form (back h) = sym (differ_form h)
differ_form (also h k) = differ_form h ∙ differ_form k
differ_form (differ.zero u v a b d ds) =
    among u v _ _ (own_zeros (a ++ (digits (48 ∷ d ∷ ds) ∷ b)) (a ++ (digits (d ∷ ds) ∷ b))
    (map-append zeros_gone a (digits (48 ∷ d ∷ ds) ∷ b) ∙ sym (map-append zeros_gone a (digits (d ∷ ds) ∷ b))))
differ_form (differ.end_if u v) = among u v _ _ own_end_if
differ_form (differ.end_do u v) = among u v _ _ own_ending
differ_form (differ.close u v) =
    concat_append own u (show_line close ∷ v) ∙ ap (λ (x : List (List Token)). concat own u ++ (x ++ concat own v)) own_close
    ∙ sym (concat_append own u v)
differ_form (differ.copies u v x is js r l d h) = among u v _ _ (own_copies x is js r l d h)

told_form : (p : Program) → concat own (told p) ≡ formed p
unfolding kept
told_form [] = refl
told_form ((k, l) ∷ p) = ap₂ (λ (x y : List (List Token)). x ++ y) (own_formed l) (told_form p) ∙ go (closing l)
  where
    go : (c : Bool) → cond c [] (formed_line l ∷ []) ++ map formed_line (kept p) ≡ map formed_line (cond c (kept p) (l ∷ kept p))
    go true = refl
    go false = refl

-- ---- texts

told_written : (p : Program) → map (λ q. q.1) (map shown p) ≡ told p
told_written [] = refl
told_written ((k, l) ∷ p) = ap (λ (x : List (List Token)). show_line l ∷ x) (told_written p)

speech_told : (text : List ℕ) (p : Program) → Follows text p → speech text ≡ told p
speech_told text p f = ap (map (λ q. q.1)) f.spelled ∙ told_written p

module _ (s t : List ℕ) (p q : Program) (f : Follows s p) (g : Follows t q) where
  pub formed_differ : formed p ≡ formed q → Differ (speech s) (speech t)
  formed_differ h =
      subst₂ Differ (sym (speech_told s p f)) (sym (speech_told t q g))
      (also (differ_told nothing p f.ordered)
      (subst (λ (x : List (List Token)). Differ x (told q)) (sym h) (back (differ_told nothing q g.ordered))))

  pub differ_formed : Differ (speech s) (speech t) → formed p ≡ formed q
  differ_formed h =
      sym (told_form p) ∙ differ_form (subst₂ Differ (speech_told s p f) (speech_told t q g) h) ∙ told_form q
