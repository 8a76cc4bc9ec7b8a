-- The lines of an accepted text, printed one after the other, are its printed form.
use mathlib.Core.Path.{◌≡◌, refl, ◌∙◌, ap, subst}
use mathlib.Core.Bool.{Bool, true, false, cond}
use mathlib.Core.List.{List, [], ◌∷◌, ◌++◌, map}
use mathlib.Core.Option.{some}
use Prim.Native.Nat.{ℕ, suc, ◌+◌, ◌-◌, ◌≤◌, ◌<◌}
use native.Mathlib.Omega.{arith}
use lib.Dec.{leb}
use lib.ListN.{length, take, drop, length-take}
use borrow.Author.Tests.{leb-true, leb-false}
use Rattle.syntax.specs.Bytes.{lower, lines, Token, tokens, skipped_line}
use Rattle.syntax.specs.Grammar.{Line}
use Rattle.syntax.specs.Known.{State, after, nothing}
use Rattle.syntax.specs.Conditions.{concat, may_follow, fits, stands, stage_of}
use Rattle.syntax.specs.Reader.{parse}
use Rattle.syntax.specs.Sane.{Each}
use Rattle.syntax.specs.Follows.{Program, spoken, shown, InOrder, Follows}
use Rattle.syntax.proofs.Spelling.{both_true}
use Rattle.syntax.proofs.Complete.{parse_complete}
use Rattle.lexer.specs.Lex.{ended}
use Rattle.reader.proofs.TextLines.{end_within, lines_last, lines_more}
use Rattle.printed.specs.Form.{closing, kept, formed_line, printed}
use Rattle.printed.specs.Form as form
use Rattle.writing.specs.Written.{Writes, Fits}
use Rattle.writing.proofs.Writing.{fits_first, Along, along_none, along_more, along_all, along_fits}
use Rattle.forming.specs.Lines.{line_form, GoodLine, line_or_none, GoodLines, lines_form}

-- ---- an accepted text's lines

-- lines, each printed or skipped, and their program
pub record Prints (ls : List (List ℕ)) (p : Program) : Type 0 where
  pub good : Each GoodLine ls
  pub whole : concat line_or_none ls ≡ printed p

abbrev first_tokens : List (ℕ × List Token) → List Token
first_tokens [] = []
first_tokens (q ∷ qs) = q.1

abbrev others : List (ℕ × List Token) → List (ℕ × List Token)
others [] = []
others (q ∷ qs) = qs

-- a line that is printed, and then the others
printed_more : (k : ℕ) (l : Line) (p : Program) → line_form (some l) ++ printed p ≡ printed ((k, l) ∷ p)
unfolding kept
printed_more k l p = go (closing l)
  where
    go : (c : Bool) → cond c [] (form.ended (formed_line l)) ++ printed p ≡ concat form.ended (map formed_line (cond c (kept p) (l ∷ kept p)))
    go true = refl
    go false = refl

lines_print : (k : ℕ) (ls : List (List ℕ)) (s : State) (p : Program) → spoken k ls ≡ map shown p → InOrder s p → Prints ls p
unfolding spoken kept line_or_none stands
lines_print k [] s [] e o = record { good = tt; whole = refl }
lines_print k [] s (q ∷ p) e o = let z : ◌≡◌ {A = ℕ} 0 1 = cc in absurd (omega arith)
lines_print k (b ∷ ls) s p e o = go (skipped_line b) refl p e o (λ s p. lines_print (suc k) ls s p)
  where
    go : (c : Bool) → skipped_line b ≡ c → (p : Program) → cond c (spoken (suc k) ls) ((k, tokens b) ∷ spoken (suc k) ls) ≡ map shown p → InOrder s p
        → ((s : State) (p : Program) → spoken (suc k) ls ≡ map shown p → InOrder s p → Prints ls p) → Prints (b ∷ ls) p
    go true q p e o i =
        let r = i s p e o in
        record {
          good = (λ (n : skipped_line b ≡ false). let z : ◌≡◌ {A = ℕ} 0 1 = cc in absurd (omega arith), r.good);
          whole = ap (λ (c : Bool). cond c [] (line_form (parse (tokens b))) ++ concat line_or_none ls) q ∙ r.whole;
        }
    go false q [] e o i = let z : ◌≡◌ {A = ℕ} 0 1 = cc in absurd (omega arith)
    go false q ((j, l) ∷ p) e o i =
        let r = i (after j l s) p (ap others e) o.3 in
        let t : parse (tokens b) ≡ some l = ap parse (ap first_tokens e) ∙ parse_complete l in
        let c = (both_true (may_follow s.stage (stage_of l)) (fits s.opens l) o.0).1 in
        record {
          good = (λ n. record { line = l; follows = t; opens = s.opens; counted = c }, r.good);
          whole =
              ap (λ (c : Bool). cond c [] (line_form (parse (tokens b))) ++ concat line_or_none ls) q
              ∙ (λ i. line_form (t i) ++ r.whole i) ∙ printed_more j l p;
        }

pub text_prints : (text : List ℕ) (p : Program) → Follows text p → Prints (lines (map lower text)) p
text_prints text p f = lines_print 1 (lines (map lower text)) nothing p f.spelled f.ordered

-- ---- the lines up to a place

-- those before it are printed, and those from it on are left
pub record Reached (s out₀ out : List ℕ) (to at : ℕ) : Type 0 where
  pub within : at ≤ length s
  pub along : Along (lines_form s) (concat line_or_none (lines (drop at s))) out₀ 0 out to
  pub good : Each GoodLine (lines (drop at s))

pub reached_none : (s out : List ℕ) → GoodLines s → Reached s out out 0 0
unfolding lines_form
reached_none s out g = record { within = omega arith; along = along_none _ _ _; good = g }

-- the line that begins there
module _ (s out₀ out : List ℕ) (to at : ℕ) (h : Reached s out₀ out to at) (f : Fits 0 (lines_form s)) (e : ℕ) (en : e ≡ ended s at) where
  abbrev this : List ℕ
  this = take (e - at) (drop at s)

  -- and those after it
  begins : (ls : List (List ℕ)) × (lines (drop at s) ≡ this ∷ ls)
  begins = go (leb (length s) (e + 1)) refl
    where
      go : (b : Bool) → leb (length s) (e + 1) ≡ b → (ls : List (List ℕ)) × (lines (drop at s) ≡ this ∷ ls)
      go true q = ([], lines_last s at e en h.within (leb-true (length s) (e + 1) q))
      go false q = (lines (drop (e + 1) s), lines_more s at e en h.within (leb-false (length s) (e + 1) q))

  pub this_good : GoodLine this
  this_good = (subst (Each GoodLine) begins.1 h.good).0

  pub this_short : length s ≤ 2048 → length this ≤ 2048
  this_short b = omega (arith, length-take (e - at) (drop at s), end_within s at e en h.within)

  pub this_fits : Fits to (line_or_none this)
  this_fits = fits_first to (line_or_none this) (concat line_or_none begins.0) (ap (concat line_or_none) begins.1) (along_fits f h.along)

  module _ {a : List ℕ} {r : ℕ} (w : Writes out to (line_or_none this) a r) where
    -- it is the last
    pub all_written : length s ≤ e + 1 → Writes out₀ 0 (lines_form s) a r
    all_written b = along_all refl (along_more (line_or_none this) [] (ap (concat line_or_none) (lines_last s at e en h.within b)) h.along w)

    -- or others come
    pub reached_more : e + 1 < length s → Reached s out₀ a r (e + 1)
    reached_more b =
        let q = lines_more s at e en h.within b in
        record {
          within = omega arith;
          along = along_more (line_or_none this) (concat line_or_none (lines (drop (e + 1) s))) (ap (concat line_or_none) q) h.along w;
          good = (subst (Each GoodLine) q h.good).1;
        }
