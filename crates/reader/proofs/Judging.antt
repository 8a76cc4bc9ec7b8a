-- The verdict on a line.
use mathlib.Core.Path.{◌≡◌, refl, sym, ◌∙◌, ap, subst}
use mathlib.Core.Bool.{Bool, true, false, cond, ◌&&◌, ◌||◌, not, and-false, or-false, or-true}
use mathlib.Core.List.{List, [], ◌∷◌}
use mathlib.Core.Logic.{◌⊎◌, inl, inr}
use mathlib.Core.Option.{Option, none, some}
use Prim.Native.Nat.{ℕ, suc, ◌+◌, ◌*◌, ◌≤◌, ◌<◌}
use native.Mathlib.Omega.{arith}
use borrow.Author.Tests.{le-leb, lt-leb}
use lib.ListN.{length}
use Rattle.std.specs.Prelude.{Option as Option', Some, None, Result, Ok, Err}
use Rattle.syntax.specs.declared.Flaw.{Flaw}
use Rattle.syntax.specs.declared.Flaw.TheVariants.{BrokenForm, WrongName, OverLimit}
use Rattle.syntax.specs.Bytes.{choose, tokens, skipped_line, sound_line}
use Rattle.syntax.specs.Grammar.{Line, declare, give, direct, loop, assign, when, otherwise, end_if, inside, end_do, close}
use Rattle.syntax.specs.Known.{Open, State, otherwise_after, end_if_after, after}
use Rattle.syntax.specs.Conditions.{names, limits, stage_of, may_follow, fits, stands, finished}
use Rattle.syntax.specs.Reader.{Parsed, broken, done, parse, read_start, peek_in, skip_in}
use Rattle.syntax.specs.Text.{Verdict, refused, good, judged, judge_line}
use Rattle.syntax.specs.Sane.{Sane}
use Rattle.syntax.proofs.Theorem.{line_exactly}
use Rattle.syntax.proofs.TokenCount.{tokens_length}
use Rattle.syntax.proofs.Sane.{after_sane}
use Rattle.code.specs.Compile.{code_of}
use Rattle.code.proofs.CodeLength.{line_length}
use Rattle.lines.specs.declared.Progress.{Progress}
use Rattle.lines.specs.Progress.{Held, Represents, flaw_of, whole, Concludes}
use Rattle.lines.proofs.Yields.{Yields}
use Rattle.kinds.specs.declared.Kind.{Kind}
use Rattle.kinds.specs.Kinds.{read_by, stage_by, Kinds}
use Rattle.reader.specs.Judged.{Judged}
use Rattle.reader.proofs.Parses.{line_of, parse_bytes, line_stage, line_by}

-- the verdict on a line that is read, by whether it stands wrongly, its names are right and it is within the limits
abbrev by_tests : ℕ → State → Line → Bool → Bool → Bool → Verdict
by_tests k st l misplaced named small =
    choose misplaced (λ _. refused BrokenForm k) (λ _. choose (not named) (λ _. refused WrongName k) (λ _. choose (not small) (λ _. refused OverLimit k) (λ _. good (after k l st))))

-- ---- lines that are bad before they are read, and lines that are skipped

module _ (k : ℕ) (last : Bool) (st : State) (s : List ℕ) where
  -- the verdict by the tests of its bytes
  abbrev by_bytes : Bool → Bool → Bool → Verdict
  by_bytes sound skipped early =
      choose (not sound) (λ _. refused BrokenForm k) (λ _. choose skipped (λ _. cond early (refused BrokenForm k) (good st)) (λ _. judged k last st (parse (tokens s))))

  unsound : sound_line s ≡ false → judge_line k last st s ≡ refused BrokenForm k
  unfolding judge_line
  unsound h = ap (λ (b : Bool). by_bytes b (skipped_line s) (last && not (finished st.stage))) h

  passed_over : sound_line s ≡ true → skipped_line s ≡ true → (b : Bool) → last && not (finished st.stage) ≡ b
      → judge_line k last st s ≡ cond b (refused BrokenForm k) (good st)
  unfolding judge_line
  passed_over h g b e = λ i. by_bytes (h i) (g i) (e i)

  spoken : sound_line s ≡ true → skipped_line s ≡ false → judge_line k last st s ≡ judged k last st (parse (tokens s))
  unfolding judge_line
  spoken h g = λ i. by_bytes (h i) (g i) (last && not (finished st.stage))

module _ (k : ℕ) (H' : Progress → Held) where
  is_refused : (v : Verdict) (f e : Flaw) → v ≡ refused f k → e ≡ f → Judged k v H' (Err e)
  unfolding Judged
  is_refused v f e q h = subst (λ (u : Verdict). Judged k u H' (Err e)) (sym q) (h, refl)

  is_good : (v : Verdict) (st : State) (p : Progress) → v ≡ good st → Represents (H' p) st → Judged k v H' (Ok p)
  unfolding Judged
  is_good v st p e rp = subst (λ (u : Verdict). Judged k u H' (Ok p)) (sym e) rp

  -- ---- what the code does for each

  module _ (last : Bool) (st : State) (s : List ℕ) where
    pub bad_bytes : false ≡ sound_line s → Judged k (judge_line k last st s) H' (Err BrokenForm)
    bad_bytes h = is_refused (judge_line k last st s) BrokenForm BrokenForm (unsound k last st s (sym h)) refl

    module _ (h : true ≡ sound_line s) where
      pub skipped_early : true ≡ skipped_line s → last ≡ true → st.stage < 6 → Judged k (judge_line k last st s) H' (Err BrokenForm)
      skipped_early g e b = is_refused (judge_line k last st s) BrokenForm BrokenForm
          (passed_over k last st s (sym h) (sym g) true (λ i. e i && not (lt-leb 6 st.stage (omega arith) i))) refl

      pub skipped_good : true ≡ skipped_line s → last && not (finished st.stage) ≡ false → (p : Progress) → Represents (H' p) st
          → Judged k (judge_line k last st s) H' (Ok p)
      skipped_good g e p rp = is_good (judge_line k last st s) st p (passed_over k last st s (sym h) (sym g) false e) rp

      module _ (g : false ≡ skipped_line s) (kd : Kind) (kn : Kinds (λ f. read_start peek_in skip_in f s) s kd) where
        abbrev f : ℕ
        f = 3 * length s + 4

        read_as : judge_line k last st s ≡ judged k last st (line_of (whole (read_by kd f) s))
        read_as = spoken k last st s (sym h) (sym g) ∙ ap (judged k last st) (parse_bytes s f (omega arith) ∙ ap line_of (line_by kd s kn f))

        bad_by : (l : Line) → not (stands st l) || (last && not (finished (stage_of l))) ≡ true → judged k last st (some l) ≡ refused BrokenForm k
        unfolding judged
        bad_by l e = ap (λ (b : Bool). by_tests k st l b (names st l) (limits st l)) e

        no_line : judged k last st none ≡ refused BrokenForm k
        unfolding judged
        no_line = refl

        -- bad, whatever it is
        misplaced : ((l : Line) → stage_of l ≡ stage_by kd → not (stands st l) || (last && not (finished (stage_of l))) ≡ true)
            → judged k last st (line_of (whole (read_by kd f) s)) ≡ refused BrokenForm k
        misplaced e = go (whole (read_by kd f) s) (line_stage kd f s)
          where
            go : (q : Parsed (List ℕ) Line) → Yields (λ l. stage_of l ≡ stage_by kd) q → judged k last st (line_of q) ≡ refused BrokenForm k
            go broken y = no_line
            go (done l u) y = bad_by l (e l y)

        pub stands_not : false ≡ may_follow st.stage (stage_by kd) → Judged k (judge_line k last st s) H' (Err BrokenForm)
        unfolding stands
        stands_not e = is_refused (judge_line k last st s) BrokenForm BrokenForm (read_as ∙ misplaced unplaced) refl
          where
            unplaced : (l : Line) → stage_of l ≡ stage_by kd → not (stands st l) || (last && not (finished (stage_of l))) ≡ true
            unplaced l y = ap (λ (b : Bool). not (b && fits st.opens l) || (last && not (finished (stage_of l)))) (ap (may_follow st.stage) y ∙ sym e)

        pub ends_early : last ≡ true → stage_by kd < 6 → Judged k (judge_line k last st s) H' (Err BrokenForm)
        ends_early e b = is_refused (judge_line k last st s) BrokenForm BrokenForm (read_as ∙ misplaced unfinished) refl
          where
            unfinished : (l : Line) → stage_of l ≡ stage_by kd → not (stands st l) || (last && not (finished (stage_of l))) ≡ true
            unfinished l y = (λ i. not (stands st l) || (e i && not ((ap finished y ∙ lt-leb 6 (stage_by kd) (omega arith)) i))) ∙ or-true (not (stands st l))

        -- it stands where it may
        module _ (fo : may_follow st.stage (stage_by kd) ≡ true) (fi : last && not (finished (stage_by kd)) ≡ false) where
          standing : (l : Line) → stage_of l ≡ stage_by kd → not (stands st l) || (last && not (finished (stage_of l))) ≡ not (fits st.opens l)
          unfolding stands
          standing l y =
              let follows_on = ap (may_follow st.stage) y ∙ fo in
              let in_time = ap (λ (m : ℕ). last && not (finished m)) y ∙ fi in
              (λ i. not (follows_on i && fits st.opens l) || in_time i) ∙ or-false (not (fits st.opens l))

          in_place : (l : Line) → stage_of l ≡ stage_by kd → judged k last st (some l) ≡ by_tests k st l (not (fits st.opens l)) (names st l) (limits st l)
          unfolding judged
          in_place l y = ap (λ (b : Bool). by_tests k st l b (names st l) (limits st l)) (standing l y)

          -- what its tests say is wrong
          abbrev told_by : Bool → Bool → Bool → Option' Flaw
          told_by a b c = choose (not a) (λ _. Some BrokenForm) (λ _. choose (not b) (λ _. Some WrongName) (λ _. choose (not c) (λ _. Some OverLimit) (λ _. None)))

          by_flaw : (l : Line) → stage_of l ≡ stage_by kd → (e : Flaw) → flaw_of st l ≡ Some e → Judged k (judged k last st (some l)) H' (Err e)
          unfolding flaw_of
          by_flaw l y e q = go (fits st.opens l) (names st l) (limits st l) (in_place l y) q
            where
              go : (a b c : Bool) → judged k last st (some l) ≡ by_tests k st l (not a) b c → told_by a b c ≡ Some e → Judged k (judged k last st (some l)) H' (Err e)
              go true true true p q = absurd (let z : ◌≡◌ {A = ℕ} 0 1 = cc in omega arith)
              go true true false p q = is_refused (judged k last st (some l)) OverLimit e p cc
              go true false c p q = is_refused (judged k last st (some l)) WrongName e p cc
              go false b c p q = is_refused (judged k last st (some l)) BrokenForm e p cc

          flawless : (l : Line) → stage_of l ≡ stage_by kd → (p : Progress) → flaw_of st l ≡ None → Represents (H' p) (after k l st)
              → Judged k (judged k last st (some l)) H' (Ok p)
          unfolding flaw_of
          flawless l y p q rp = go (fits st.opens l) (names st l) (limits st l) (in_place l y) q
            where
              go : (a b c : Bool) → judged k last st (some l) ≡ by_tests k st l (not a) b c → told_by a b c ≡ None → Judged k (judged k last st (some l)) H' (Ok p)
              go true true true e q = is_good (judged k last st (some l)) (after k l st) p e rp
              go true true false e q = absurd (let z : ◌≡◌ {A = ℕ} 0 1 = cc in omega arith)
              go true false c e q = absurd (let z : ◌≡◌ {A = ℕ} 0 1 = cc in omega arith)
              go false b c e q = absurd (let z : ◌≡◌ {A = ℕ} 0 1 = cc in omega arith)

          pub judged_line : (r : Result Progress Flaw) → Concludes (flaw_of st) (λ l p. Represents (H' p) (after k l st)) (whole (read_by kd f) s) r
              → Judged k (judge_line k last st s) H' r
          unfolding Concludes
          judged_line r cs = subst (λ (v : Verdict). Judged k v H' r) (sym read_as) (go (whole (read_by kd f) s) (line_stage kd f s) r cs)
            where
              go : (q : Parsed (List ℕ) Line) → Yields (λ l. stage_of l ≡ stage_by kd) q → (r : Result Progress Flaw)
                  → Concludes (flaw_of st) (λ l p. Represents (H' p) (after k l st)) q r → Judged k (judged k last st (line_of q)) H' r
              go broken y (Err e) c = is_refused (judged k last st none) BrokenForm e no_line c
              go broken y (Ok p) c = absurd c
              go (done l u) y (Err e) c = by_flaw l y e c
              go (done l u) y (Ok p) c = flawless l y p c.0 c.1

-- ---- what a good line keeps

stage_most : (k : ℕ) (l : Line) (st : State) → (after k l st).stage ≤ 7
unfolding after
stage_most k (declare d ds) st = omega arith
stage_most k (give x i is) st = omega arith
stage_most k (direct cs) st = omega arith
stage_most k (loop v l m j n) st = omega arith
stage_most k (inside (assign r e)) st = omega arith
stage_most k (inside (when a o b)) st = omega arith
stage_most k (inside otherwise) st = go st.opens
  where
    go : (os : List Open) → (otherwise_after st os).stage ≤ 7
    go [] = omega arith
    go (o ∷ os) = omega arith
stage_most k (inside (end_if j)) st = go st.opens
  where
    go : (os : List Open) → (end_if_after st os).stage ≤ 7
    go [] = omega arith
    go (o ∷ os) = omega arith
stage_most k (end_do j) st = omega arith
stage_most k close st = omega arith

pub record Kept (st u : State) (n : ℕ) : Type 0 where
  pub sane : Sane u
  pub stage : u.stage ≤ 7
  pub code : length (code_of u) ≤ length (code_of st) + n

module _ (k : ℕ) (last : Bool) (st : State) (s : List ℕ) (u : State) where
  abbrev which : Verdict → ℕ
  which (refused n j) = 0
  which (good x) = 1

  not_refused : {n : Flaw} → refused n k ≡ good u → ⊥
  not_refused e = let z : ◌≡◌ {A = ℕ} 0 1 = ap which e in omega arith

  abbrev state_of : Verdict → State
  state_of (refused n j) = u
  state_of (good x) = x

  -- a line that is read, and good
  pub judged_keeps : Sane st → st.stage ≤ 7 → judge_line k last st s ≡ good u → Kept st u (length s)
  unfolding judge_line judged
  judged_keeps sane late e = go (sound_line s) (skipped_line s) (last && not (finished st.stage)) (parse (tokens s)) refl e
    where
      same_state : good st ≡ good u → Kept st u (length s)
      same_state q = subst (λ (x : State). Kept st x (length s)) (ap state_of q) (record { sane = sane; stage = late; code = omega arith })

      kept_line : (l : Line) → parse (tokens s) ≡ some l → (a b c : Bool) → stands st l ≡ a → names st l ≡ b → limits st l ≡ c → (d : Bool)
          → by_tests k st l (not a || d) b c ≡ good u → Kept st u (length s)
      kept_line l pe true true true ea eb ec false q =
          let short = ap length ((line_exactly (tokens s) l).0 pe) in
          subst (λ (x : State). Kept st x (length s)) (ap state_of q)
          (record { sane = after_sane k l st ea eb ec sane; stage = stage_most k l st; code = omega (arith, line_length k l st ea, tokens_length 0 s, short) })
      kept_line l pe true true false ea eb ec false q = absurd (not_refused q)
      kept_line l pe true false c ea eb ec false q = absurd (not_refused q)
      kept_line l pe false b c ea eb ec d q = absurd (not_refused q)
      kept_line l pe true b c ea eb ec true q = absurd (not_refused q)

      kept_some : (o : Option Line) → parse (tokens s) ≡ o → judged k last st o ≡ good u → Kept st u (length s)
      kept_some none pe q = absurd (not_refused q)
      kept_some (some l) pe q = kept_line l pe (stands st l) (names st l) (limits st l) refl refl refl (last && not (finished (stage_of l))) q

      go : (a b c : Bool) (o : Option Line) → parse (tokens s) ≡ o
          → choose (not a) (λ _. refused BrokenForm k) (λ _. choose b (λ _. cond c (refused BrokenForm k) (good st)) (λ _. judged k last st o)) ≡ good u → Kept st u (length s)
      go false b c o pe q = absurd (not_refused q)
      go true true true o pe q = absurd (not_refused q)
      go true true false o pe q = same_state q
      go true false c o pe q = kept_some o pe q

-- ---- the last line

pub ends_right : (last : Bool) (m n : ℕ) → m ≡ n → ((last ≡ true) × (6 ≤ m)) ⊎ (last ≡ false) → last && not (finished n) ≡ false
ends_right last m n e (inl h) = ap (λ (x : Bool). last && not x) (le-leb 6 n (omega (arith, e, h.1))) ∙ and-false last
ends_right last m n e (inr h) = ap (λ (b : Bool). b && not (finished n)) h
