-- A text is accepted exactly when it follows the grammar, with its names and limits in order; and it follows it in one way.
use mathlib.Core.Path.{◌≡◌, refl, sym, ◌∙◌, ap, subst}
use mathlib.Core.Bool.{Bool, true, false, cond, ◌&&◌, ◌||◌, not}
use mathlib.Core.List.{List, [], ◌∷◌, map}
use mathlib.Core.Option.{Option, none, some}
use Prim.Native.Nat.{ℕ, suc}
use native.Mathlib.Omega.{arith}
use lib.Dec.{eqb, ltb}
use lib.ListN.{length}
use borrow.Author.Tests.{le-ltb, ltb-false}
use Rattle.syntax.specs.declared.Flaw.{Flaw}
use Rattle.syntax.specs.declared.Flaw.TheVariants.{TooLong, BrokenForm, WrongName, OverLimit}
use Rattle.syntax.specs.Bytes.{choose, all, lower, lines, tokens, skipped_line, sound_line, after_newline, in_front, Token}
use Rattle.syntax.specs.Grammar.{Line, declare, give, direct, loop, inside, assign, when, otherwise, end_if, end_do, close, show_line}
use Rattle.syntax.specs.Reader.{parse}
use Rattle.syntax.specs.Known.{State, nothing, after, Open, otherwise_after, end_if_after}
use Rattle.syntax.specs.Conditions.{names, limits, stands, finished, stage_of}
use Rattle.syntax.specs.Text.{Verdict, refused, good, judged, judge_line, is_last, then_judge, judge, read}
use Rattle.syntax.specs.Follows.{Program, spoken, shown, InOrder, Follows, learnt}
use Rattle.syntax.proofs.TestLaws.{both_hold}
use Rattle.syntax.proofs.Spelling.{both_true}
use Rattle.syntax.proofs.Sound.{parse_sound}
use Rattle.syntax.proofs.Complete.{parse_complete}

-- ---- verdicts

not_good : {n : Flaw} {k : ℕ} {s : State} → refused n k ≡ good s → ⊥
not_good {n} {k} {s} h = let z : ◌≡◌ {A = ℕ} 0 1 = cc in omega arith

same_good : {s t : State} → good s ≡ good t → s ≡ t
same_good {s} {t} h = cc

-- a test that refuses where it holds
passed : (c : Bool) (n : Flaw) (k : ℕ) (f : Unit {0} → Verdict) {s : State} → choose c (λ _. refused n k) f ≡ good s → (c ≡ false) × (f tt ≡ good s)
passed true n k f h = absurd (not_good h)
passed false n k f h = (refl, h)

-- and one that refuses where it fails
pub met : (c : Bool) (n : Flaw) (k : ℕ) (f : Unit {0} → Verdict) {s : State} → choose (not c) (λ _. refused n k) f ≡ good s → (c ≡ true) × (f tt ≡ good s)
met true n k f h = (refl, h)
met false n k f h = absurd (not_good h)

neither : (a b : Bool) → not a || b ≡ false → (a ≡ true) × (b ≡ false)
neither true false h = (refl, refl)
neither true true h = let z : ◌≡◌ {A = ℕ} 0 1 = cc in absurd (omega arith)
neither false b h = let z : ◌≡◌ {A = ℕ} 0 1 = cc in absurd (omega arith)

at_end : (last done : Bool) → last && not done ≡ false → last ≡ true → done ≡ true
at_end true true h e = refl
at_end true false h e = let z : ◌≡◌ {A = ℕ} 0 1 = cc in absurd (omega arith)
at_end false d h e = let z : ◌≡◌ {A = ℕ} 0 1 = cc in absurd (omega arith)

-- ---- the stage after a line is the line's

pub stage_after : (k : ℕ) (l : Line) (s : State) → (after k l s).stage ≡ stage_of l
unfolding after
stage_after k (declare d ds) s = refl
stage_after k (give x i is) s = refl
stage_after k (direct cs) s = refl
stage_after k (loop v l m j n) s = refl
stage_after k (inside (assign r e)) s = refl
stage_after k (inside (when a r b)) s = refl
stage_after k (inside otherwise) s = go s.opens
  where
    go : (os : List Open) → (otherwise_after s os).stage ≡ 5
    go [] = refl
    go (o ∷ os) = refl
stage_after k (inside (end_if j)) s = go s.opens
  where
    go : (os : List Open) → (end_if_after s os).stage ≡ 5
    go [] = refl
    go (o ∷ os) = refl
stage_after k (end_do j) s = refl
stage_after k close s = refl

-- ---- a good line

-- line k is skipped, or stands for l: then it is in order, and at the end of the text finishes it
data Good (k : ℕ) (last : Bool) (s : State) (b : List ℕ) (t : State) : Type 0 where
  skips : skipped_line b ≡ true → s ≡ t → (last ≡ true → finished t.stage ≡ true) → Good k last s b t
  speaks : (l : Line) → skipped_line b ≡ false → tokens b ≡ show_line l → stands s l ≡ true → names s l ≡ true → limits s l ≡ true → after k l s ≡ t
      → (last ≡ true → finished t.stage ≡ true) → Good k last s b t

judged_good : (k : ℕ) (last : Bool) (s : State) (b : List ℕ) (t : State) → skipped_line b ≡ false → (o : Option Line) → parse (tokens b) ≡ o
    → judged k last s o ≡ good t → Good k last s b t
unfolding judged
judged_good k last s b t n none p h = absurd (not_good h)
judged_good k last s b t n (some l) p h =
    let (x, h1) = passed (not (stands s l) || (last && not (finished (stage_of l)))) BrokenForm k _ h in
    let (y, z) = neither (stands s l) (last && not (finished (stage_of l))) x in
    let (u, h2) = met (names s l) WrongName k _ h1 in
    let (v, h3) = met (limits s l) OverLimit k _ h2 in
    let e = same_good h3 in
    speaks l n (parse_sound (tokens b) l p) y u v e
    (λ q. subst (λ (w : ℕ). finished w ≡ true) (sym (stage_after k l s) ∙ ap (λ (r : State). r.stage) e) (at_end last (finished (stage_of l)) z q))

line_good : (k : ℕ) (last : Bool) (s : State) (b : List ℕ) (t : State) → judge_line k last s b ≡ good t → (sound_line b ≡ true) × Good k last s b t
unfolding judge_line
line_good k last s b t h =
    let (x, h1) = met (sound_line b) BrokenForm k _ h in
    (x, go (skipped_line b) refl h1)
  where
    go : (c : Bool) → skipped_line b ≡ c
        → choose c (λ _. cond (last && not (finished s.stage)) (refused BrokenForm k) (good s)) (λ _. judged k last s (parse (tokens b))) ≡ good t
        → Good k last s b t
    go true e h = skipped (last && not (finished s.stage)) refl h
      where
        skipped : (c : Bool) → last && not (finished s.stage) ≡ c → cond c (refused BrokenForm k) (good s) ≡ good t → Good k last s b t
        skipped true p q = absurd (not_good q)
        skipped false p q =
            let i = same_good q in skips e i (λ r. subst (λ (w : State). finished w.stage ≡ true) i (at_end last (finished s.stage) p r))
    go false e h = judged_good k last s b t e (parse (tokens b)) refl h

-- ---- sound

-- what lines from line k on that are good say
record Says (k : ℕ) (s : State) (ls : List (List ℕ)) (t : State) : Type 0 where
  program : Program
  sound : all sound_line ls ≡ true
  spelled : spoken k ls ≡ map shown program
  ordered : InOrder s program
  known : learnt s program ≡ t

judge_sound : (k : ℕ) (s : State) (ls : List (List ℕ)) (t : State) → (is_last ls ≡ true → finished s.stage ≡ true) → judge k s ls ≡ good t
    → Says k s ls t
unfolding judge spoken learnt
judge_sound k s [] t f h = record { program = []; sound = refl; spelled = refl; ordered = f refl; known = same_good h }
judge_sound k s (b ∷ ls) t f h = go (λ u. judge_sound (suc k) u ls t) (judge_line k (is_last ls) s b) refl h
  where
    more : (u : State) → (sound_line b ≡ true) × Good k (is_last ls) s b u → Says (suc k) u ls t → Says k s (b ∷ ls) t
    more u (x, skips e i q) r = record {
      program = r.program;
      sound = both_hold x r.sound;
      spelled = ap (λ (c : Bool). cond c (spoken (suc k) ls) ((k, tokens b) ∷ spoken (suc k) ls)) e ∙ r.spelled;
      ordered = subst (λ (w : State). InOrder w r.program) (sym i) r.ordered;
      known = ap (λ (w : State). learnt w r.program) i ∙ r.known;
    }
    more u (x, speaks l e i y n m j q) r = record {
      program = (k, l) ∷ r.program;
      sound = both_hold x r.sound;
      spelled = ap (λ (c : Bool). cond c (spoken (suc k) ls) ((k, tokens b) ∷ spoken (suc k) ls)) e ∙ cc (i, r.spelled);
      ordered = (y, n, m, subst (λ (w : State). InOrder w r.program) (sym j) r.ordered);
      known = ap (λ (w : State). learnt w r.program) j ∙ r.known;
    }

    done : (u : State) → Good k (is_last ls) s b u → is_last ls ≡ true → finished u.stage ≡ true
    done u (skips e i q) = q
    done u (speaks l e i y n m j q) = q

    go : ((u : State) → (is_last ls ≡ true → finished u.stage ≡ true) → judge (suc k) u ls ≡ good t → Says (suc k) u ls t)
        → (v : Verdict) → judge_line k (is_last ls) s b ≡ v → then_judge v (λ u. judge (suc k) u ls) ≡ good t → Says k s (b ∷ ls) t
    go ih (refused n j) e q = absurd (not_good q)
    go ih (good u) e q = let r = line_good k (is_last ls) s b u e in more u r (ih u (done u r.1) q)

-- ---- complete

goes : {c : Bool} (n : Flaw) (k : ℕ) (f : Unit {0} → Verdict) {v : Verdict} → c ≡ true → f tt ≡ v → choose (not c) (λ _. refused n k) f ≡ v
goes n k f e h = ap (λ (c : Bool). choose (not c) (λ _. refused n k) f) e ∙ h

unfinished : {last done : Bool} → (last ≡ true → done ≡ true) → last && not done ≡ false
unfinished {last} {done} f = go last done f
  where
    go : (l d : Bool) → (l ≡ true → d ≡ true) → l && not d ≡ false
    go true d f = ap not (f refl)
    go false d f = refl

judged_it : (k : ℕ) (last : Bool) (s : State) (l : Line) → stands s l ≡ true → names s l ≡ true → limits s l ≡ true
    → (last ≡ true → finished (stage_of l) ≡ true) → judged k last s (some l) ≡ good (after k l s)
unfolding judged
judged_it k last s l y n m f =
    ap (λ (c : Bool). choose c (λ _. refused BrokenForm k)
    (λ _. choose (not (names s l)) (λ _. refused WrongName k) (λ _. choose (not (limits s l)) (λ _. refused OverLimit k) (λ _. good (after k l s)))))
    (ap (λ (c : Bool). not c || (last && not (finished (stage_of l)))) y ∙ unfinished f)
    ∙ goes WrongName k _ n (goes OverLimit k _ m refl)

line_skips : (k : ℕ) (last : Bool) (s : State) (b : List ℕ) → sound_line b ≡ true → skipped_line b ≡ true → (last ≡ true → finished s.stage ≡ true)
    → judge_line k last s b ≡ good s
unfolding judge_line
line_skips k last s b x e f =
    goes BrokenForm k _ x (ap (λ (c : Bool). choose c (λ _. cond (last && not (finished s.stage)) (refused BrokenForm k) (good s))
    (λ _. judged k last s (parse (tokens b)))) e
    ∙ ap (λ (c : Bool). cond c (refused BrokenForm k) (good s)) (unfinished f))

line_speaks : (k : ℕ) (last : Bool) (s : State) (b : List ℕ) (l : Line) → sound_line b ≡ true → skipped_line b ≡ false → tokens b ≡ show_line l
    → stands s l ≡ true → names s l ≡ true → limits s l ≡ true
    → (last ≡ true → finished (stage_of l) ≡ true) → judge_line k last s b ≡ good (after k l s)
unfolding judge_line
line_speaks k last s b l x e i y n m f =
    goes BrokenForm k _ x (ap (λ (c : Bool). choose c (λ _. cond (last && not (finished s.stage)) (refused BrokenForm k) (good s))
    (λ _. judged k last s (parse (tokens b)))) e
    ∙ ap (judged k last s) (ap parse i ∙ parse_complete l) ∙ judged_it k last s l y n m f)

heads : {x y : ℕ × List Token} {xs ys : List (ℕ × List Token)} → x ∷ xs ≡ y ∷ ys → x ≡ y
heads {x} {y} {xs} {ys} h = cc

tails : {x y : ℕ × List Token} {xs ys : List (ℕ × List Token)} → x ∷ xs ≡ y ∷ ys → xs ≡ ys
tails {x} {y} {xs} {ys} h = cc

-- the program of no lines
none_left : (p : Program) → [] ≡ map shown p → p ≡ []
none_left [] h = refl
none_left (q ∷ p) h = let z : ◌≡◌ {A = ℕ} 0 1 = cc in absurd (omega arith)

ends : (ls : List (List ℕ)) → is_last ls ≡ true → ls ≡ []
ends [] h = refl
ends (l ∷ ls) h = let z : ◌≡◌ {A = ℕ} 0 1 = cc in absurd (omega arith)

-- at the last line the program ends
finishes : (k : ℕ) (ls : List (List ℕ)) (s : State) (p : Program) → spoken k ls ≡ map shown p → InOrder s p → is_last ls ≡ true
    → finished s.stage ≡ true
unfolding spoken
finishes k ls s p h o e =
    let i : p ≡ [] = none_left p (ap (spoken k) (sym (ends ls e)) ∙ h) in
    subst (InOrder s) i o

judge_complete : (k : ℕ) (s : State) (ls : List (List ℕ)) (p : Program) → all sound_line ls ≡ true → spoken k ls ≡ map shown p → InOrder s p
    → judge k s ls ≡ good (learnt s p)
unfolding judge spoken learnt
judge_complete k s [] p x h o = ap (λ (q : Program). good (learnt s q)) (sym (none_left p h))
judge_complete k s (b ∷ ls) p x h o =
    go (skipped_line b) refl p h o (λ u q. judge_complete (suc k) u ls q (both_true (sound_line b) (all sound_line ls) x).1)
  where
    speak : (p : Program) → skipped_line b ≡ false → (k, tokens b) ∷ spoken (suc k) ls ≡ map shown p → InOrder s p
        → ((u : State) (q : Program) → spoken (suc k) ls ≡ map shown q → InOrder u q → judge (suc k) u ls ≡ good (learnt u q))
        → judge k s (b ∷ ls) ≡ good (learnt s p)
    speak [] e h o ih = let z : ◌≡◌ {A = ℕ} 0 1 = cc in absurd (omega arith)
    speak ((j, l) ∷ q) e h o ih =
        let i : tokens b ≡ show_line l = ap (λ (r : ℕ × List Token). r.1) (heads h) in
        let n : k ≡ j = ap (λ (r : ℕ × List Token). r.0) (heads h) in
        let r : spoken (suc k) ls ≡ map shown q = tails h in
        let o' = subst (λ (m : ℕ). InOrder (after m l s) q) (sym n) o.3 in
        ap (λ (v : Verdict). then_judge v (λ u. judge (suc k) u ls))
        (line_speaks k (is_last ls) s b l (both_true (sound_line b) (all sound_line ls) x).0 e i o.0 o.1 o.2
        (λ z. subst (λ (w : ℕ). finished w ≡ true) (stage_after k l s) (finishes (suc k) ls (after k l s) q r o' z)))
        ∙ ih (after k l s) q r o'
        ∙ ap (λ (m : ℕ). good (learnt (after m l s) q)) n

    go : (c : Bool) → skipped_line b ≡ c → (p : Program) → cond c (spoken (suc k) ls) ((k, tokens b) ∷ spoken (suc k) ls) ≡ map shown p
        → InOrder s p
        → ((u : State) (q : Program) → spoken (suc k) ls ≡ map shown q → InOrder u q → judge (suc k) u ls ≡ good (learnt u q))
        → judge k s (b ∷ ls) ≡ good (learnt s p)
    go true e p h o ih =
        ap (λ (v : Verdict). then_judge v (λ u. judge (suc k) u ls))
        (line_skips k (is_last ls) s b (both_true (sound_line b) (all sound_line ls) x).0 e (finishes (suc k) ls s p h o)) ∙ ih s p h o
    go false e p h o ih = speak p e h o ih

-- ---- the whole text

pub some_lines : (s : List ℕ) → is_last (lines s) ≡ false
unfolding lines
some_lines [] = refl
some_lines (b ∷ s) = go (eqb b 10) (lines s)
  where
    go : (c : Bool) (ls : List (List ℕ)) → is_last (cond c ([] ∷ after_newline s ls) (in_front b ls)) ≡ false
    go true ls = refl
    go false [] = refl
    go false (l ∷ ls) = refl

not_none : (s : List ℕ) → is_last (lines s) ≡ true → ⊥
not_none s e = let f = some_lines s in let z : ◌≡◌ {A = ℕ} 0 1 = cc in omega arith

pub read_sound : (text : List ℕ) (s : State) → read text ≡ good s → (p : Program) × Follows text p × (learnt nothing p ≡ s)
unfolding read
read_sound text s h =
    let (x, h1) = passed (ltb 2048 (length text)) TooLong 0 _ h in
    let r = judge_sound 1 nothing (lines (map lower text)) s (λ e. absurd (not_none (map lower text) e)) h1 in
    (r.program, record { short = ltb-false 2048 (length text) x; sound = r.sound; spelled = r.spelled; ordered = r.ordered }, r.known)

pub read_complete : (text : List ℕ) (p : Program) → Follows text p → read text ≡ good (learnt nothing p)
unfolding read
read_complete text p f =
    ap (λ (c : Bool). choose c (λ _. refused TooLong 0) (λ _. judge 1 nothing (lines (map lower text)))) (le-ltb 2048 (length text) f.short)
    ∙ judge_complete 1 nothing (lines (map lower text)) p f.sound f.spelled f.ordered

same_written : (p q : Program) → map shown p ≡ map shown q → p ≡ q
same_written [] [] h = refl
same_written [] (y ∷ q) h = let z : ◌≡◌ {A = ℕ} 0 1 = cc in absurd (omega arith)
same_written (x ∷ p) [] h = let z : ◌≡◌ {A = ℕ} 0 1 = cc in absurd (omega arith)
same_written ((j, l) ∷ p) ((k, m) ∷ q) h =
    let a : j ≡ k = ap (λ (r : ℕ × List Token). r.0) (heads h) in
    let b : show_line l ≡ show_line m = ap (λ (r : ℕ × List Token). r.1) (heads h) in
    let c : map shown p ≡ map shown q = tails h in
    let d : some l ≡ some m = sym (parse_complete l) ∙ ap parse b ∙ parse_complete m in
    let e : l ≡ m = cc in
    cc (same_written p q c)

pub follows_once : (text : List ℕ) (p q : Program) → Follows text p → Follows text q → p ≡ q
follows_once text p q f g = same_written p q (sym f.spelled ∙ g.spelled)
