-- One law for every kind of place: a reader over places whose tokens are those of a list reads a line exactly where the list is the line's tokens.
-- Then what is left of a line's bytes as such a place.
use mathlib.Core.Path.{◌≡◌, refl, sym, ◌∙◌, ap, subst}
use mathlib.Core.Bool.{Bool, true, false, cond, ◌&&◌, ◌||◌, not}
use mathlib.Core.List.{List, [], ◌∷◌, ◌++◌, append-nil}
use mathlib.Core.Option.{Option}
use Prim.Native.Nat.{ℕ, zero, suc, ◌+◌, ◌-◌, ◌*◌, ◌≤◌}
use native.Mathlib.Omega.{arith}
use lib.Dec.{eqb, leb}
use lib.ListN.{length, take, drop}
use Rattle.syntax.specs.Bytes.{choose, any, same, reserved, name, other_word, digits, sign, bytes_of, letter, digit, in_word, run, token_size, token_of, tokens_after, tokens, trimmed, Token, starts, bytes}
use Rattle.syntax.specs.Grammar.{Line, show_line}
use Rattle.syntax.specs.Reader.{done, read_line, first, rest, token_in, after_in, peek_in, skip_in}
use Rattle.syntax.specs.Spelled.{Spells, here, token}
use Rattle.syntax.proofs.Sound.{line_sound, spells_list, none_first}
use Rattle.syntax.proofs.CompleteExpr.{yes_choose, no_choose}
use Rattle.syntax.proofs.Complete.{line_complete}

-- h gives the tokens from a place on
module _ {S : Type 0} (peek : S → Option Token) (skip : S → S) (h : S → List Token) (p : (s : S) → peek s ≡ first (h s)) (q : (s : S) → h (skip s) ≡ rest (h s)) where
  listed : {s u : S} {xs : List Token} → Spells peek skip s xs u → Spells first rest (h s) xs (h u)
  listed here = here
  listed (token {s = s} {u = u} {ts = ts} e k) = token (sym (p s) ∙ e) (subst (λ zs. Spells first rest zs ts (h u)) (q s) (listed k))

  placed : (s : S) (xs : List Token) → h s ≡ xs → (u : S) × Spells peek skip s xs u × (h u ≡ [])
  placed s [] e = (s, here, e)
  placed s (x ∷ xs) e =
      let r = placed (skip s) xs (q s ∙ ap rest e) in
      (r.0, token (p s ∙ ap first e) r.1, r.2)

  -- what is read is the line whose tokens stand there
  pub places_sound : (f : ℕ) (s u : S) (l : Line) → read_line peek skip f s ≡ done l u → h s ≡ show_line l
  places_sound f s u l e =
      let r = line_sound peek skip f s u l e in
      spells_list (listed r.0) ∙ ap (λ vs. show_line l ++ vs) (none_first (h u) (sym (p u) ∙ r.1)) ∙ append-nil (show_line l)

  -- and a line whose tokens stand there is read
  pub places_complete : (f : ℕ) (s : S) (l : Line) → 3 * length (show_line l) + 4 ≤ f → h s ≡ show_line l
      → (u : S) × (read_line peek skip f s ≡ done l u)
  places_complete f s l b e =
      let r = placed s (show_line l) e in
      (r.0, line_complete peek skip f l s r.0 b r.1 (p r.0 ∙ ap first r.2))

-- ---- what is left of a line's bytes

pub size_one : (b : ℕ) (s : List ℕ) → 1 ≤ token_size b s
unfolding token_size
size_one b s =
    go (letter b) (digit b) (starts (bytes "!$omp") (b ∷ s))
    (starts (bytes "==") (b ∷ s) || (starts (bytes "/=") (b ∷ s) || (starts (bytes "<=") (b ∷ s) || starts (bytes ">=") (b ∷ s))))
  where
    go : (x y v w : Bool) → 1 ≤ choose x (λ _. suc (run in_word s)) (λ _. choose y (λ _. suc (run digit s)) (λ _. cond v 5 (cond w 2 1)))
    go true y v w = omega arith
    go false true v w = omega arith
    go false false true w = omega arith
    go false false false true = omega arith
    go false false false false = omega arith

-- a token has the bytes that it is made of
pub token_bytes : (b : ℕ) (w : List ℕ) → bytes_of (token_of b w) ≡ w
token_bytes b w = go (letter b) (digit b) (leb (length w) 31 && not (any (same w) reserved))
  where
    go : (l d c : Bool) → bytes_of (cond l (cond c (name w) (other_word w)) (cond d (digits w) (sign w))) ≡ w
    go true d true = refl
    go true d false = refl
    go false true c = refl
    go false false c = refl

after_drop : (k : ℕ) (s : List ℕ) → tokens_after k s ≡ tokens_after 0 (drop k s)
unfolding tokens_after
after_drop zero s = refl
after_drop (suc k) [] = refl
after_drop (suc k) (b ∷ s) = after_drop k s

-- a line's bytes that begin with no blank
token_first : (b : ℕ) (s : List ℕ) → eqb b 32 ≡ false
    → tokens_after 0 (b ∷ s) ≡ token_of b (take (token_size b s) (b ∷ s)) ∷ tokens_after 0 (drop (token_size b s) (b ∷ s))
unfolding tokens_after
token_first b s e = no_choose _ _ e (ap (λ (ts : List Token). token_of b (take (token_size b s) (b ∷ s)) ∷ ts) (go (token_size b s) (size_one b s)))
  where
    go : (n : ℕ) → 1 ≤ n → tokens_after (n - 1) s ≡ tokens_after 0 (drop n (b ∷ s))
    go zero l = absurd (omega arith)
    go (suc k) l = let c : suc k - 1 ≡ k = omega arith in ap (λ (j : ℕ). tokens_after j s) c ∙ after_drop k s

-- the bytes from the first nonblank on: none, or one that is no blank and what comes after it
trimmed_begins : (s : List ℕ) (Q : List ℕ → Type 0) → (tokens_after 0 s ≡ tokens_after 0 [] → Q [])
    → ((b : ℕ) (r : List ℕ) → eqb b 32 ≡ false → tokens_after 0 s ≡ tokens_after 0 (b ∷ r) → Q (b ∷ r)) → Q (trimmed s)
unfolding trimmed tokens_after
trimmed_begins [] Q n c = n refl
trimmed_begins (b ∷ s) Q n c = go (eqb b 32) refl (trimmed_begins s Q)
  where
    go : (x : Bool) → eqb b 32 ≡ x →
        ((tokens_after 0 s ≡ tokens_after 0 [] → Q [])
        → ((b : ℕ) (r : List ℕ) → eqb b 32 ≡ false → tokens_after 0 s ≡ tokens_after 0 (b ∷ r) → Q (b ∷ r)) → Q (trimmed s)) →
        Q (choose x (λ _. trimmed s) (λ _. b ∷ s))
    go true e i = i (λ h. n (yes_choose _ _ e h)) (λ d r k h. c d r k (yes_choose _ _ e h))
    go false e i = c b s e refl

-- the tokens of what is left of a line, one after the other
pub peek_tokens : (s : List ℕ) → peek_in s ≡ first (tokens s)
unfolding peek_in tokens_after
peek_tokens s = trimmed_begins s (λ r. token_in r ≡ first (tokens s)) (λ h. sym (ap first h)) (λ b r e h. sym (ap first (h ∙ token_first b r e)))

pub skip_tokens : (s : List ℕ) → tokens (skip_in s) ≡ rest (tokens s)
unfolding skip_in tokens_after
skip_tokens s =
    trimmed_begins s (λ r. tokens (after_in r) ≡ rest (tokens s)) (λ h. sym (ap rest h)) (λ b r e h. sym (ap rest (h ∙ token_first b r e)))

-- so a line is read from its bytes exactly where its tokens are the line's
pub bytes_sound : (f : ℕ) (s u : List ℕ) (l : Line) → read_line peek_in skip_in f s ≡ done l u → tokens s ≡ show_line l
bytes_sound = places_sound peek_in skip_in tokens peek_tokens skip_tokens

pub bytes_complete : (f : ℕ) (s : List ℕ) (l : Line) → 3 * length (show_line l) + 4 ≤ f → tokens s ≡ show_line l
    → (u : List ℕ) × (read_line peek_in skip_in f s ≡ done l u)
bytes_complete = places_complete peek_in skip_in tokens peek_tokens skip_tokens
