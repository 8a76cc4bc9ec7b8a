-- The printed form as a text: it follows the subset where it is short enough, says the same, and prints as itself.
use mathlib.Core.Path.{◌≡◌, refl, sym, ◌∙◌, ap, ap₂, subst}
use mathlib.Core.Logic.{inl, inr}
use mathlib.Core.Bool.{Bool, true, false, cond, ◌&&◌}
use mathlib.Core.List.{List, [], ◌∷◌, map}
use Prim.Native.Nat.{ℕ, suc, ◌+◌, ◌≤◌}
use native.Mathlib.Omega.{arith}
use lib.Dec.{eqb}
use lib.ListN.{length}
use borrow.Author.Tests.{eqb-true, le-leb}
use Rattle.syntax.specs.Bytes.{all, lower, lines, printable, Token, tokens, sound_line}
use Rattle.syntax.specs.Grammar.{Line, declare, give, direct, loop, inside, end_do, close, show_line}
use Rattle.syntax.specs.Known.{State, nothing, after}
use Rattle.syntax.specs.Conditions.{concat, names, limits, stage_of, several, may_miss, may_follow, fits, stands, finished}
use Rattle.syntax.specs.Follows.{Program, spoken, shown, InOrder, Follows, learnt}
use Rattle.syntax.specs.Sane.{Each}
use Rattle.syntax.proofs.Spelling.{both_true}
use Rattle.syntax.proofs.TestLaws.{both_hold, either_holds, each_map}
use Rattle.printed.specs.Form.{zeros_gone, plain, closing, kept, formed_line, formed, spaced, ended, printed}
use Rattle.printed.specs.Restated.{short, numbered, restated, SameKnown}
use Rattle.printed.specs.Restated as restated
use Rattle.printed.proofs.ZeroLaws.{show_short, all_gone_twice}
use Rattle.printed.proofs.PlainLaws.{plain_short, plain_twice, closing_is, closing_short, closing_plain}
use Rattle.printed.proofs.Programs.{first_declares}
use Rattle.printed.proofs.PrintedTokens.{steady, all_second, Lexed, follows_lexed, formed_line_lexed}
use Rattle.printed.proofs.PrintedLines.{spaced_fair, tokens_again, lines_ended, ended_lower, ended_once, formed_heard}
use Rattle.printed.proofs.PlainOrder.{plain_good}
use Rattle.printed.proofs.ShortOrder.{Tracks, no_more, stands_short, names_kept, limits_kept, after_short}

-- ---- the lines that are kept

pub record Keeps (l : Line) : Type 0 where
  pub stays : closing l ≡ false
  pub lexed : Each Lexed (show_line l)

kept_each : (p : Program) → Each (λ q. Each Lexed (show_line q.1)) p → Each Keeps (kept p)
unfolding kept
kept_each [] h = tt
kept_each ((k, l) ∷ p) h = go (closing l) refl (kept_each p h.1)
  where
    go : (c : Bool) → closing l ≡ c → Each Keeps (kept p) → Each Keeps (cond c (kept p) (l ∷ kept p))
    go true e i = i
    go false e i = (record { stays = e; lexed = h.0 }, i)

first_stays : (l : Line) → stands nothing l ≡ true → closing l ≡ false
first_stays l h = let (d, ds, e) = first_declares l h in ap closing e

kept_some : (p : Program) → InOrder nothing p → (l : Line) × (ls : List Line) × (kept p ≡ l ∷ ls)
unfolding kept
kept_some [] h = let z : ◌≡◌ {A = ℕ} 0 1 = cc in absurd (omega arith)
kept_some ((k, l) ∷ p) h = (l, kept p, ap (λ (c : Bool). cond c (kept p) (l ∷ kept p)) (first_stays l h.0))

-- ---- nothing comes after the closing directive, and the text is finished before it

none_follows : (l : Line) → may_follow 7 (stage_of l) ≡ false
none_follows (declare d ds) = refl
none_follows (give x i is) = refl
none_follows (direct cs) = refl
none_follows (loop v l m k n) = refl
none_follows (inside t) = refl
none_follows (end_do j) = refl
none_follows close = refl

before_close : (k : ℕ) → may_follow k 7 ≡ true → finished k ≡ true
before_close k h = elim (either_holds (eqb 7 (k + 1)) _ h) [
  | inl a ↦ le-leb 6 k (omega (arith, eqb-true 7 (k + 1) a))
  | inr b ↦ elim (either_holds (several k && eqb 7 k) _ b) [
    | inl c ↦ le-leb 6 k (omega (arith, eqb-true 7 k (both_true (several k) (eqb 7 k) c).1))
    | inr d ↦
        let (m, e) = both_true (may_miss (k + 1)) (eqb 7 (k + 2)) d in
        let f : k ≡ 5 = omega (arith, eqb-true 7 (k + 2) e) in
        let g : may_miss 6 ≡ true = subst (λ (n : ℕ). may_miss (n + 1) ≡ true) f m in
        let z : ◌≡◌ {A = ℕ} 0 1 = cc in absurd (omega arith)
  ]
]

-- ---- the lines in order

-- these lines from line k on say what the program says
record Retells (s t : State) (k : ℕ) (p : Program) (ls : List Line) : Type 0 where
  ordered : InOrder t (numbered k (map (λ l. short (plain l)) ls))
  known : SameKnown (learnt s p) (learnt t (numbered k (map (λ l. short (plain l)) ls)))

close_retells : (s t : State) (j k : ℕ) (p : Program) → Tracks s t → InOrder s ((j, close) ∷ p) → Retells s t k ((j, close) ∷ p) (kept p)
unfolding stands after learnt kept numbered
close_retells s t j k [] h o = record {
  ordered = ap finished h.stage ∙ before_close s.stage (both_true (may_follow s.stage 7) (fits s.opens close) o.0).0;
  known = record {
    table = h.known.table;
    processors = h.known.processors;
    grouping = h.known.grouping;
    variable = h.known.variable;
    from = h.known.from;
    count = h.known.count;
    inner = h.known.inner;
  };
}
close_retells s t j k (q ∷ p) h o =
    let r = (both_true (may_follow 7 (stage_of q.1)) _ o.3.0).0 in
    let n = none_follows q.1 in
    let z : ◌≡◌ {A = ℕ} 0 1 = cc in absurd (omega arith)

line_retells : (s t : State) (j k : ℕ) (l : Line) (p : Program) (ls : List Line) → Tracks s t → stands s l ≡ true → names s l ≡ true
    → limits s l ≡ true
    → (Tracks (after j l s) (after k (short (plain l)) t) → Retells (after j l s) (after k (short (plain l)) t) (suc k) p ls)
    → Retells s t k ((j, l) ∷ p) (l ∷ ls)
unfolding learnt numbered
line_retells s t j k l p ls h a b c ih =
    let g = plain_good j s l a b c in
    let r = ih (subst (λ (u : State). Tracks u (after k (short (plain l)) t)) g.known (after_short s t h j k (plain l))) in
    record {
      ordered =
          (stands_short s t h (plain l) ∙ g.stood, names_kept s t h (plain l) ∙ g.named, limits_kept s t h (plain l) ∙ g.bounded, r.ordered);
      known = r.known;
    }

retells : (s t : State) (k : ℕ) (p : Program) → Tracks s t → InOrder s p → Retells s t k p (kept p)
unfolding learnt kept numbered
retells s t k [] h o = record { ordered = ap finished h.stage ∙ o; known = h.known }
retells s t k ((j, l) ∷ p) h o = go (closing l) refl (λ i. retells (after j l s) (after k (short (plain l)) t) (suc k) p i o.3)
  where
    go : (c : Bool) → closing l ≡ c
        → (Tracks (after j l s) (after k (short (plain l)) t) → Retells (after j l s) (after k (short (plain l)) t) (suc k) p (kept p))
        → Retells s t k ((j, l) ∷ p) (cond c (kept p) (l ∷ kept p))
    go true e ih =
        let i = closing_is l e in
        subst (λ (m : Line). Retells s t k ((j, m) ∷ p) (kept p)) (sym i)
        (close_retells s t j k p h (subst (λ (m : Line). InOrder s ((j, m) ∷ p)) i o))
    go false e ih = line_retells s t j k l p (kept p) h o.0 o.1 o.2 ih

nothing_tracks : Tracks nothing nothing
nothing_tracks = record {
  stage = refl;
  known = record {
    table = refl;
    processors = refl;
    grouping = refl;
    variable = refl;
    from = refl;
    count = refl;
    inner = restated.nothing;
  };
  opens = no_more;
}

-- ---- the lines as they are read

lines_sound : (ls : List Line) → Each Keeps ls → all sound_line (map spaced (map formed_line ls)) ≡ true
lines_sound [] h = refl
lines_sound (l ∷ ls) h =
    let x = formed_line_lexed l h.0.lexed in
    both_hold
    (both_hold (all_second steady printable (spaced (formed_line l)) (spaced_fair (formed_line l) x)) (formed_heard l h.0.stays x).sound)
    (lines_sound ls h.1)

lines_spoken : (k : ℕ) (ls : List Line) → Each Keeps ls
    → spoken k (map spaced (map formed_line ls)) ≡ map shown (numbered k (map (λ l. short (plain l)) ls))
unfolding spoken numbered
lines_spoken k [] h = refl
lines_spoken k (l ∷ ls) h =
    let b = spaced (formed_line l) in
    let x = formed_line_lexed l h.0.lexed in
    let rest = spoken (suc k) (map spaced (map formed_line ls)) in
    ap (λ (c : Bool). cond c rest ((k, tokens b) ∷ rest)) (formed_heard l h.0.stays x).spoken
    ∙ ap₂ (λ (ts : List Token) (qs : List (ℕ × List Token)). (k, ts) ∷ qs) (tokens_again (formed_line l) x ∙ sym (show_short (plain l)))
    (lines_spoken (suc k) ls h.1)

-- ---- the text

module _ (text : List ℕ) (p : Program) (f : Follows text p) where
  keeps : Each Keeps (kept p)
  keeps = kept_each p (follows_lexed text p f)

  lexed : Each (Each Lexed) (formed p)
  lexed = each_map Keeps (Each Lexed) formed_line (λ l h. formed_line_lexed l h.lexed) (kept p) keeps

  printed_lines : lines (map lower (printed p)) ≡ map spaced (formed p)
  printed_lines =
      let (l, ls, e) = kept_some p f.ordered in
      ap lines (ended_lower (formed p) lexed)
      ∙ subst (λ (ks : List Line). lines (concat ended (map formed_line ks)) ≡ map spaced (map formed_line ks)) (sym e)
      (lines_ended (formed_line l) (map formed_line ls) (subst (λ (ks : List Line). Each (Each Lexed) (map formed_line ks)) e lexed))

  pub printed_follows : length (printed p) ≤ 2048 → Follows (printed p) (restated p)
  printed_follows h = record {
    short = h;
    sound = ap (all sound_line) printed_lines ∙ lines_sound (kept p) keeps;
    spelled = ap (spoken 1) printed_lines ∙ lines_spoken 1 (kept p) keeps;
    ordered = (retells nothing nothing 1 p nothing_tracks f.ordered).ordered;
  }

pub printed_known : (text : List ℕ) (p : Program) → Follows text p → SameKnown (learnt nothing p) (learnt nothing (restated p))
printed_known text p f = (retells nothing nothing 1 p nothing_tracks f.ordered).known

-- ---- alike

pub formed_once : (s t : List ℕ) (p q : Program) → Follows s p → Follows t q → printed p ≡ printed q → formed p ≡ formed q
formed_once s t p q f g h =
    let (l, ls, e) = kept_some p f.ordered in
    let (m, ms, i) = kept_some q g.ordered in
    let a = subst (λ (ks : List Line). Each (Each Lexed) (map formed_line ks)) e (lexed s p f) in
    let b = subst (λ (ks : List Line). Each (Each Lexed) (map formed_line ks)) i (lexed t q g) in
    let c : concat ended (map formed_line (l ∷ ls)) ≡ concat ended (map formed_line (m ∷ ms)) =
    ap (λ (ks : List Line). concat ended (map formed_line ks)) (sym e) ∙ h ∙ ap (λ (ks : List Line). concat ended (map formed_line ks)) i in
    ap (map formed_line) e ∙ ended_once (formed_line l) (map formed_line ls) (formed_line m) (map formed_line ms) a b c ∙ ap (map formed_line) (sym i)

-- ---- printed as itself

formed_again : (l : Line) → formed_line (short (plain l)) ≡ formed_line l
formed_again l =
    ap (λ (m : Line). map zeros_gone (show_line m)) (plain_short (plain l) ∙ ap short (plain_twice l))
    ∙ ap (map zeros_gone) (show_short (plain l))
    ∙ all_gone_twice (show_line (plain l))

all_formed_again : (ls : List Line) → map formed_line (map (λ l. short (plain l)) ls) ≡ map formed_line ls
all_formed_again [] = refl
all_formed_again (l ∷ ls) = ap₂ (λ (x : List Token) (xs : List (List Token)). x ∷ xs) (formed_again l) (all_formed_again ls)

kept_numbered : (k : ℕ) (ls : List Line) → Each Keeps ls → kept (numbered k (map (λ l. short (plain l)) ls)) ≡ map (λ l. short (plain l)) ls
unfolding kept numbered
kept_numbered k [] h = refl
kept_numbered k (l ∷ ls) h =
    let m = short (plain l) in
    let rest = kept (numbered (suc k) (map (λ l. short (plain l)) ls)) in
    ap (λ (c : Bool). cond c rest (m ∷ rest)) (closing_short (plain l) ∙ closing_plain l ∙ h.0.stays)
    ∙ ap (λ (ms : List Line). m ∷ ms) (kept_numbered (suc k) ls h.1)

pub printed_again : (text : List ℕ) (p : Program) → Follows text p → printed (restated p) ≡ printed p
printed_again text p f =
    ap (λ (ls : List Line). concat ended (map formed_line ls)) (kept_numbered 1 (kept p) (keeps text p f))
    ∙ ap (concat ended) (all_formed_again (kept p))
