-- Tokens that are alike: two runs of tokens are compared from their beginnings on.
use mathlib.Core.Path.{◌≡◌, refl, sym, ◌∙◌, ap, subst}
use mathlib.Core.Bool.{Bool, true, false, ◌&&◌}
use mathlib.Core.List.{List, [], ◌∷◌}
use mathlib.Core.Option.{some}
use Prim.Native.Nat.{ℕ, suc, ◌+◌, ◌-◌, ◌≤◌, ◌<◌}
use native.Mathlib.Omega.{arith}
use lib.Dec.{eqb}
use lib.Pointwise.{pointwise}
use lib.ListN.{length, take, drop, length-drop}
use lib.Seq.{take_all}
use Rattle.syntax.specs.Bytes.{choose, run, same, Token, kind_of, bytes_of, name, other_word, digits, sign, equal, token_size, trimmed}
use Rattle.syntax.specs.Meaning.{no_zeros, zeros_aside, alike}
use Rattle.syntax.specs.Reader.{kind, text, token_in, after_in, peek_in, skip_in}
use Rattle.syntax.specs.Spelled.{Spells, here, token}
use Rattle.syntax.proofs.Places.{size_one}
use Rattle.lexer.specs.declared.Kind.{Kind}
use Rattle.lexer.specs.declared.Kind.TheVariants.{End, Digits}
use Rattle.lexer.specs.declared.Tok.{Tok}
use Rattle.lexer.specs.Lex.{kind_number, part, Lexed}
use Rattle.lexer.proofs.Laws.{same_is}
use Rattle.lexer.proofs.PlaceLaws.{trimmed_length}
use Rattle.alike.specs.Alike.{same_token, Alike}

-- ---- leading zeros

zeros_dropped : (w : List ℕ) → no_zeros w ≡ drop (run (λ b. eqb b 48) w) w
unfolding no_zeros run
zeros_dropped [] = refl
zeros_dropped (b ∷ w) = go (eqb b 48) (zeros_dropped w)
  where
    go : (c : Bool) → no_zeros w ≡ drop (run (λ b. eqb b 48) w) w
        → choose c (λ _. no_zeros w) (λ _. b ∷ w) ≡ drop (choose c (λ _. suc (run (λ b. eqb b 48) w)) (λ _. 0)) (b ∷ w)
    go true h = h
    go false h = refl

-- a is where they end
pub zeros_run : (w : List ℕ) (a : ℕ) → a ≡ 0 + run (λ b. eqb b 48) w → take (length w - a) (drop a w) ≡ no_zeros w
zeros_run w a e =
    let z : a ≡ run (λ b. eqb b 48) w = omega (arith, e) in
    take_all (length w - a) (drop a w) (omega (arith, length-drop a w)) ∙ ap (λ (n : ℕ). drop n w) z ∙ sym (zeros_dropped w)

-- ---- two tokens

pub same_digits : (t u : Kind) (x y : List ℕ) {p q : List ℕ} {r : Bool} → p ≡ no_zeros x → q ≡ no_zeros y → r ≡ pointwise eqb p q → t ≡ Digits → t ≡ u
    → r ≡ same_token (kind_number t) x (kind_number u) y
same_digits t u x y {p} {q} ep eq er e f =
    er ∙ same_is p q ∙ (λ i. same (ep i) (eq i)) ∙ (λ i. same_token (kind_number (sym e i)) x (kind_number ((sym e ∙ f) i)) y)

pub same_some : (k : Kind) (j : ℕ) (x y : List ℕ) {r : Bool} → r ≡ same_token (kind_number k) x j y → r ≡ true → k ≡ End → ⊥
same_some k j x y er e z =
    let q : ◌≡◌ {A = Bool} false true = ap (λ (i : Kind). same_token (kind_number i) x j y) (sym z) ∙ sym er ∙ e in
    let z : ◌≡◌ {A = ℕ} 0 1 = cc in
    omega arith

same_aside : (x y : Token) → same_token (kind_of x) (bytes_of x) (kind_of y) (bytes_of y) ≡ equal (zeros_aside x) (zeros_aside y)
same_aside (name b) (name d) = refl
same_aside (name b) (other_word d) = refl
same_aside (name b) (digits d) = refl
same_aside (name b) (sign d) = refl
same_aside (other_word b) (name d) = refl
same_aside (other_word b) (other_word d) = refl
same_aside (other_word b) (digits d) = refl
same_aside (other_word b) (sign d) = refl
same_aside (digits b) (name d) = refl
same_aside (digits b) (other_word d) = refl
same_aside (digits b) (digits d) = refl
same_aside (digits b) (sign d) = refl
same_aside (sign b) (name d) = refl
same_aside (sign b) (other_word d) = refl
same_aside (sign b) (digits d) = refl
same_aside (sign b) (sign d) = refl

-- ---- tokens and bytes

skip_shorter : (u : List ℕ) {x : Token} → peek_in u ≡ some x → length (skip_in u) < length u
unfolding peek_in skip_in
skip_shorter u {x} h = go (trimmed u) (trimmed_length u) h
  where
    go : (l : List ℕ) → length l ≤ length u → token_in l ≡ some x → length (after_in l) < length u
    go [] k h = absurd (let z : ◌≡◌ {A = ℕ} 0 1 = cc in omega arith)
    go (b ∷ l) k h = omega (arith, length-drop (token_size b l) (b ∷ l), size_one b l, k)

-- each token has bytes
pub spells_shorter : {u w : List ℕ} {ts : List Token} → Spells peek_in skip_in u ts w → length w + length ts ≤ length u
spells_shorter here = omega arith
spells_shorter (token {s = u} e h) = omega (arith, spells_shorter h, skip_shorter u e)

-- where bytes are left, so is a token
record First (u w : List ℕ) (ts : List Token) : Type 0 where
  first : Token
  rest : List Token
  peeks : peek_in u ≡ some first
  spells : Spells peek_in skip_in (skip_in u) rest w
  tokens : ts ≡ first ∷ rest

begun : {u w : List ℕ} {ts : List Token} → Spells peek_in skip_in u ts w → length w < length u → First u w ts
begun here h = absurd (omega arith)
begun (token {t = t} {ts = ts} e k) h = record { first = t; rest = ts; peeks = e; spells = k; tokens = refl }

ended : {u w : List ℕ} {ts : List Token} → Spells peek_in skip_in u ts w → length u ≤ length w → ts ≡ []
ended here h = refl
ended (token e k) h = absurd (omega (arith, spells_shorter (token e k)))

-- ---- the walk over two runs of tokens

-- b is whether what is left of both is alike
pub record Left (s : List ℕ) (n to i j : ℕ) (b : Bool) : Type 0 where
  pub ts : List Token
  pub us : List Token
  pub left : Spells peek_in skip_in (drop i s) ts (drop n s)
  pub right : Spells peek_in skip_in (drop j s) us (drop to s)
  pub alike : b ≡ alike ts us

abbrev pub Walked : List ℕ → ℕ → ℕ → ℕ → ℕ → ℕ → Type 0
Walked s n from to i j =
    (ts us : List Token) → Spells peek_in skip_in s ts (drop n s) → Spells peek_in skip_in (drop from s) us (drop to s)
    → Left s n to i j (alike ts us)

pub walk_starts : (s : List ℕ) (n from to : ℕ) → Walked s n from to 0 from
walk_starts s n from to ts us h k = record { ts = ts; us = us; left = h; right = k; alike = refl }

-- both have a token more: the tokens at the two places, and what is left after them
record Stepped (s : List ℕ) (n to : ℕ) (t u : Tok) (b : Bool) : Type 0 where
  xs : List Token
  ys : List Token
  left : Spells peek_in skip_in (drop t.stop s) xs (drop n s)
  right : Spells peek_in skip_in (drop u.stop s) ys (drop to s)
  alike : b ≡ same_token (kind_number t.kind) (part s t.start t.stop) (kind_number u.kind) (part s u.start u.stop) && alike xs ys

stepped : {s : List ℕ} {n to i j : ℕ} {t u : Tok} → Lexed s i t → Lexed s j u → {b : Bool} {ts us : List Token} → b ≡ alike ts us → First (drop i s)
    (drop n s) ts → First (drop j s) (drop to s) us → Stepped s n to t u b
unfolding alike
stepped {s} {n} {to} lt lu e x y = record {
  xs = x.rest;
  ys = y.rest;
  left = subst (λ (w : List ℕ). Spells peek_in skip_in w x.rest (drop n s)) lt.next x.spells;
  right = subst (λ (w : List ℕ). Spells peek_in skip_in w y.rest (drop to s)) lu.next y.spells;
  alike =
      e ∙ (λ k. alike (x.tokens k) (y.tokens k)) ∙ ap (λ (q : Bool). q && alike x.rest y.rest)
      (sym (same_aside x.first y.first)
      ∙ (λ k. same_token (kind (sym x.peeks k)) (text (sym x.peeks k)) (kind (sym y.peeks k)) (text (sym y.peeks k)))
      ∙ (λ k. same_token (lt.kinds k) (lt.bytes k) (lu.kinds k) (lu.bytes k)));
}

step : {s : List ℕ} {n to i j : ℕ} {t u : Tok} → Lexed s i t → Lexed s j u → i < n → n ≤ length s → j < to → to ≤ length s → {b : Bool}
    → Left s n to i j b → Stepped s n to t u b
step {s} {n} {to} {i} {j} lt lu hi hn hj ht l =
    stepped lt lu l.alike (begun l.left (omega (arith, length-drop i s, length-drop n s)))
    (begun l.right (omega (arith, length-drop j s, length-drop to s)))

module _ (s : List ℕ) (n from to i j : ℕ) (hn : n ≤ length s) (ht : to ≤ length s) (walked : Walked s n from to i j) where
  module _ {t u : Tok} (lt : Lexed s i t) (lu : Lexed s j u) (hi : i < n) (hj : j < to) {r : Bool}
      (er : r ≡ same_token (kind_number t.kind) (part s t.start t.stop) (kind_number u.kind) (part s u.start u.stop)) where
    -- the two tokens are the same
    pub walk_on : r ≡ true → Walked s n from to t.stop u.stop
    walk_on e ts us h k =
        let p = step lt lu hi hn hj ht (walked ts us h k) in
        record { ts = p.xs; us = p.ys; left = p.left; right = p.right; alike = p.alike ∙ ap (λ (q : Bool). q && alike p.xs p.ys) (sym er ∙ e) }

    -- or not
    pub walk_differs : r ≡ false → Alike s n from to false
    walk_differs e ts us h k =
        let p = step lt lu hi hn hj ht (walked ts us h k) in
        sym (p.alike ∙ ap (λ (q : Bool). q && alike p.xs p.ys) (sym er ∙ e))

  -- only the first has a token more
  pub walk_short : i < n → to ≤ j → Alike s n from to false
  unfolding alike
  walk_short hi hj ts us h k =
      let l = walked ts us h k in
      go l.alike (begun l.left (omega (arith, length-drop i s, length-drop n s))) (ended l.right (omega (arith, length-drop j s, length-drop to s)))
    where
      go : {b : Bool} {ts us : List Token} → b ≡ alike ts us → First (drop i s) (drop n s) ts → us ≡ [] → false ≡ b
      go e x z = sym (e ∙ (λ q. alike (x.tokens q) (z q)))

  -- the first is at its end
  pub walk_ends : n ≤ i → (r : Bool) → (r ≡ true → to ≤ j) → (r ≡ false → j < to) → Alike s n from to r
  unfolding alike
  walk_ends hi r past within ts us h k =
      let l = walked ts us h k in
      go r refl l.alike (ended l.left (omega (arith, length-drop i s, length-drop n s))) l.right
    where
      some : {b : Bool} {ts us : List Token} → b ≡ alike ts us → ts ≡ [] → First (drop j s) (drop to s) us → b ≡ false
      some e z y = e ∙ (λ q. alike (z q) (y.tokens q))

      go : (q : Bool) → r ≡ q → {b : Bool} {ts us : List Token} → b ≡ alike ts us → ts ≡ [] → Spells peek_in skip_in (drop j s) us (drop to s) → r ≡ b
      go true e ea z sp = e ∙ sym (ea ∙ (λ q. alike (z q) (ended sp (omega (arith, past e, length-drop j s, length-drop to s)) q)))
      go false e ea z sp = e ∙ sym (some ea z (begun sp (omega (arith, within e, length-drop j s, length-drop to s))))
