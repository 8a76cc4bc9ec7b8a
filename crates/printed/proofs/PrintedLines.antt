-- The bytes of the printed form, taken apart again: its lines are the printed lines, and their tokens those that were printed.
use mathlib.Core.Path.{◌≡◌, refl, sym, ◌∙◌, ap, ap₂}
use mathlib.Core.Bool.{Bool, true, false, cond, ◌&&◌, ◌||◌, not}
use mathlib.Core.List.{List, [], ◌∷◌, ◌++◌, map, append_assoc}
use Prim.Native.Nat.{ℕ}
use native.Mathlib.Omega.{arith}
use lib.Dec.{eqb, leb}
use borrow.Author.Tests.{leb-true, ne_eqb}
use Rattle.syntax.specs.Bytes.{all, same, lower, printable, letter, after_newline, in_front, lines, Token, bytes_of, tokens, skipped_line, directive_line, starts, bytes, trimmed}
use Rattle.syntax.specs.Grammar.{single, element, show_ref, Item, assign, when, otherwise, end_if, Line, declare, give, direct, loop, inside, end_do, close, show_line}
use Rattle.syntax.specs.Conditions.{concat}
use Rattle.syntax.specs.Sane.{Each}
use Rattle.syntax.proofs.Spelling.{both_true}
use Rattle.syntax.proofs.CompleteExpr.{no_choose}
use Rattle.syntax.proofs.TestLaws.{both_hold, all_append, each_weaken}
use Rattle.printed.specs.Form.{zeros_gone, once, written_out, data_line, plain, closing, formed_line, after_blanks, spaced, ended}
use Rattle.printed.proofs.RoundTrip.{Wordly, Proper, spaced_tokens}
use Rattle.printed.proofs.PrintedTokens.{steady, fair, all_first, lower_same, Lexed}

-- ---- a printed line

fair_no_newline : (b : ℕ) → fair b ≡ true → eqb b 10 ≡ false
fair_no_newline b h =
    let k = leb-true 32 b (both_true (leb 32 b) (leb b 126) (both_true (steady b) (printable b) h).1).0 in ne_eqb b 10 (λ e. omega arith)

after_blanks_fair : (ts : List Token) → Each Lexed ts → all fair (after_blanks ts) ≡ true
unfolding after_blanks
after_blanks_fair [] h = refl
after_blanks_fair (t ∷ ts) h = all_append fair (bytes_of t) (after_blanks ts) ∙ both_hold h.0.fairly (after_blanks_fair ts h.1)

pub spaced_fair : (ts : List Token) → Each Lexed ts → all fair (spaced ts) ≡ true
spaced_fair [] h = refl
spaced_fair (t ∷ ts) h = all_append fair (bytes_of t) (after_blanks ts) ∙ both_hold h.0.fairly (after_blanks_fair ts h.1)

pub tokens_again : (ts : List Token) → Each Lexed ts → tokens (spaced ts) ≡ ts
tokens_again ts h = spaced_tokens ts (each_weaken Lexed Proper (λ t k. k.proper) ts h)

-- ---- the lines

lines_line : (l s : List ℕ) → all fair l ≡ true → lines (l ++ (10 ∷ s)) ≡ l ∷ after_newline s (lines s)
unfolding lines
lines_line [] s h = refl
lines_line (b ∷ l) s h =
    let (x, y) = both_true (fair b) (all fair l) h in
    ap (λ (c : Bool). cond c ([] ∷ after_newline (l ++ (10 ∷ s)) (lines (l ++ (10 ∷ s)))) (in_front b (lines (l ++ (10 ∷ s))))) (fair_no_newline b x)
    ∙ ap (in_front b) (lines_line l s y)

after_some : (l s : List ℕ) (ls : List (List ℕ)) → after_newline ((l ++ (10 ∷ [])) ++ s) ls ≡ ls
after_some [] s ls = refl
after_some (b ∷ l) s ls = refl

line_and_others : (u : List Token) (us : List (List Token)) → Each Lexed u
    → lines (concat ended (u ∷ us)) ≡ spaced u ∷ after_newline (concat ended us) (lines (concat ended us))
line_and_others u us h =
    ap lines (append_assoc (spaced u) (10 ∷ []) (concat ended us)) ∙ lines_line (spaced u) (concat ended us) (spaced_fair u h)

other_lines : (us : List (List Token)) → Each (Each Lexed) us → after_newline (concat ended us) (lines (concat ended us)) ≡ map spaced us
other_lines [] h = refl
other_lines (u ∷ us) h =
    after_some (spaced u) (concat ended us) (lines (concat ended (u ∷ us)))
    ∙ line_and_others u us h.0
    ∙ ap (λ (ls : List (List ℕ)). spaced u ∷ ls) (other_lines us h.1)

pub lines_ended : (u : List Token) (us : List (List Token)) → Each (Each Lexed) (u ∷ us) → lines (concat ended (u ∷ us)) ≡ map spaced (u ∷ us)
lines_ended u us h = line_and_others u us h.0 ∙ ap (λ (ls : List (List ℕ)). spaced u ∷ ls) (other_lines us h.1)

ended_steady : (tss : List (List Token)) → Each (Each Lexed) tss → all steady (concat ended tss) ≡ true
ended_steady [] h = refl
ended_steady (ts ∷ tss) h =
    all_append steady (ended ts) (concat ended tss)
    ∙ both_hold (all_append steady (spaced ts) (10 ∷ []) ∙ both_hold (all_first steady printable (spaced ts) (spaced_fair ts h.0)) refl)
    (ended_steady tss h.1)

pub ended_lower : (tss : List (List Token)) → Each (Each Lexed) tss → map lower (concat ended tss) ≡ concat ended tss
ended_lower tss h = lower_same (concat ended tss) (ended_steady tss h)

-- the printed lines back from the bytes
pub ended_once : (u : List Token) (us : List (List Token)) (v : List Token) (vs : List (List Token)) → Each (Each Lexed) (u ∷ us)
    → Each (Each Lexed) (v ∷ vs)
    → concat ended (u ∷ us) ≡ concat ended (v ∷ vs) → u ∷ us ≡ v ∷ vs
ended_once u us v vs h k e =
    sym (again (u ∷ us) h) ∙ ap (map tokens) (sym (lines_ended u us h) ∙ ap lines e ∙ lines_ended v vs k) ∙ again (v ∷ vs) k
  where
    again : (tss : List (List Token)) → Each (Each Lexed) tss → map tokens (map spaced tss) ≡ tss
    again [] h = refl
    again (t ∷ ts) h = ap₂ (λ (x : List Token) (xs : List (List Token)). x ∷ xs) (tokens_again t h.0) (again ts h.1)

-- ---- a printed line is sound, and not skipped

pub record Heard (s : List ℕ) : Type 0 where
  pub spoken : skipped_line s ≡ false
  pub sound : not (directive_line s) || starts (bytes "!$omp ") (trimmed s) ≡ true

-- a line that begins with a letter
letter_heard : (b : ℕ) (s : List ℕ) → letter b ≡ true → Heard (b ∷ s)
unfolding trimmed
letter_heard b s h =
    let k = leb-true 97 b (both_true (leb 97 b) (leb b 122) h).0 in
    let n : trimmed (b ∷ s) ≡ b ∷ s = no_choose _ _ (ne_eqb b 32 (λ e. omega arith)) refl in
    let m : eqb 33 b ≡ false = ne_eqb 33 b (λ e. omega arith) in
    let d : starts (bytes "!$omp") (b ∷ s) ≡ false = ap (λ (c : Bool). c && starts (bytes "$omp") s) m in
    record {
      spoken =
          ap (λ (l : List ℕ). same l [] || (starts (bytes "!") l && not (starts (bytes "!$omp") l))) n
          ∙ ap (λ (c : Bool). (c && true) && not (starts (bytes "!$omp") (b ∷ s))) m;
      sound =
          ap (λ (l : List ℕ). not (starts (bytes "!$omp") l) || starts (bytes "!$omp ") l) n
          ∙ ap (λ (c : Bool). not c || starts (bytes "!$omp ") (b ∷ s)) d;
    }

word_heard : (w : List ℕ) (s : List ℕ) → Wordly w → Heard (w ++ s)
word_heard [] s h = absurd h
word_heard (b ∷ w) s h = letter_heard b (w ++ s) h.0

data_heard : (x : List ℕ) (i : Item) (is : List Item) → Heard (spaced (map zeros_gone (show_line (data_line x i is))))
unfolding show_line trimmed
data_heard x i [] = record { spoken = refl; sound = refl }
data_heard x i (j ∷ js) = record { spoken = refl; sound = refl }

pub formed_heard : (l : Line) → closing l ≡ false → Each Lexed (formed_line l) → Heard (spaced (formed_line l))
unfolding plain show_line show_ref trimmed after_blanks
formed_heard (declare d ds) c h = record { spoken = refl; sound = refl }
formed_heard (give x i is) c h = data_heard x (once i) (written_out (i ∷ is))
formed_heard (direct cs) c h = record { spoken = refl; sound = refl }
formed_heard (loop v l m k n) c h = record { spoken = refl; sound = refl }
formed_heard (inside (assign (single x) e)) c h = word_heard x _ h.0.proper.0
formed_heard (inside (assign (element x is) e)) c h = word_heard x _ h.0.proper.0
formed_heard (inside (when a r b)) c h = record { spoken = refl; sound = refl }
formed_heard (inside otherwise) c h = record { spoken = refl; sound = refl }
formed_heard (inside (end_if j)) c h = record { spoken = refl; sound = refl }
formed_heard (end_do j) c h = record { spoken = refl; sound = refl }
formed_heard close c h = let z : ◌≡◌ {A = ℕ} 0 1 = cc in absurd (omega arith)
