-- `else` and `end if`.
use mathlib.Core.Path.{◌≡◌, refl, sym, ◌∙◌, ap, subst, subst₂}
use mathlib.Core.Bool.{Bool, true, false, cond, not}
use mathlib.Core.List.{List, [], ◌∷◌, ◌++◌, append_assoc}
use mathlib.Core.Option.{Option, none, some}
use Prim.Native.Nat.{ℕ, suc, ◌+◌, ◌-◌, ◌*◌, ◌/◌, ◌%◌, ◌≤◌}
use native.Mathlib.Omega.{arith}
use lib.ListN.{length, get_or, set, take, length-set, length-append}
use lib.Seq.{take-suc-set, get_or-set_same}
use Rattle.std.specs.Prelude.{None, Ok, Err}
use Rattle.syntax.specs.declared.Flaw.{Flaw}
use Rattle.syntax.specs.declared.Flaw.TheVariants.{BrokenForm}
use Rattle.syntax.specs.Grammar.{otherwise, end_if, inside}
use Rattle.syntax.specs.Known.{Stmts, stop, Open, turned, closed, State, otherwise_after, end_if_after, after}
use Rattle.syntax.specs.Conditions.{in_line, is_given, names, limits, else_fits, none_open}
use Rattle.code.specs.Instr.{Instr, jump, words}
use Rattle.code.specs.Compile.{code_of, places_of}
use Rattle.code.proofs.Words.{words_append}
use Rattle.code.proofs.OpenJumps.{jump_of}
use Rattle.code.proofs.Emitted.{emits_otherwise, emits_end_if}
use Rattle.lines.specs.declared.Progress.{Progress}
use Rattle.lines.specs.Progress.{Held, moved, Opened, Represents, flaw_of, Comes}
use Rattle.lines.specs.Lines.{Takes, reads}
use Rattle.lines.proofs.AfterDo.{further, carried, flaw_fits, unfit, more, fit}
use Rattle.lines.proofs.InnermostJump.{no_depth, opened_below, Top, deep, top_of, filled_code, jump_is}

-- the code with the distance of the jump at a place added
abbrev filled : List ℕ → ℕ → ℕ → List ℕ
filled C q n = set C (2 * q + 1) (get_or C (2 * q + 1) 0 + 8 * n)

-- and with a jump over nothing after it
abbrev turned_at : List ℕ → ℕ → ℕ → List ℕ
turned_at C q place = set (set (filled C q (place - q)) (2 * place) 16) (2 * place + 1) 0

module _ (k : ℕ) (s : List ℕ) (at : ℕ) (b : at ≤ length s) (H : Held) where
  abbrev p : Progress
  p = H.progress

  abbrev place : ℕ
  place = H.progress.place

  -- ---- none is open

  pub end_if_none : (C' : List ℕ) (j : Bool) → p.depth ≡ 0 → Takes (reads (inside (end_if j)) at) 5 s k H (λ q. further H q C' H.opens) (Err BrokenForm)
  unfolding names limits in_line
  end_if_none C' j z = unfit k s at b H (inside (end_if j)) 5 (λ q. further H q C' H.opens)
      (λ st rp. flaw_fits st (inside (end_if j)) false (ap not (no_depth H st rp z)) refl refl)

  pub else_none : p.depth ≡ 0 → Takes (reads (inside otherwise) at) 5 s k H (λ q. further H q H.code H.opens) (Err BrokenForm)
  unfolding names limits in_line
  else_none z = unfit k s at b H (inside otherwise) 5 (λ q. further H q H.code H.opens)
      (λ st rp. flaw_fits st (inside otherwise) false (none_fits st.opens (no_depth H st rp z)) refl refl)
    where
      none_fits : (os : List Open) → none_open os ≡ true → else_fits os ≡ false
      none_fits [] h = refl
      none_fits (x ∷ os) h = absurd (let z : ◌≡◌ {A = ℕ} 0 1 = ap (λ (c : Bool). cond c 1 0) h in omega arith)

  -- ---- some are

  module _ (nz : H.progress.depth ≡ 0 → ⊥) where
    abbrev d : ℕ
    d = H.progress.depth - 1

    -- the innermost one's word
    abbrev w : ℕ
    w = get_or H.opens d 0

    module _ (st : State) (rp : Represents H st) where
      abbrev tp : Top st H.opens d
      tp = top_of H st rp nz

      abbrev br : Open
      br = tp.innermost.branch

      abbrev os : List Open
      os = tp.innermost.others

      -- the code with its jump filled in
      abbrev jumped : ℕ → List Instr
      jumped n = set (code_of st) tp.at (jump_of br br.first n)

      -- ---- end if

      end_if_code : (j : Bool) → code_of (end_if_after st (br ∷ os)) ≡ jumped (place - (tp.at + 1))
      unfolding after
      end_if_code j =
          ap (λ (l : List Open). code_of (end_if_after st l)) (sym tp.innermost.opens)
          ∙ (emits_end_if st tp.innermost tp.at tp.rest tp.places k j).code
          ∙ ap (λ (m : ℕ). jumped (m - (tp.at + 1))) (sym rp.place)

      end_if_places : (j : Bool) → places_of (end_if_after st (br ∷ os)) ≡ tp.rest
      unfolding after
      end_if_places j =
          ap (λ (l : List Open). places_of (end_if_after st l)) (sym tp.innermost.opens)
          ∙ (emits_end_if st tp.innermost tp.at tp.rest tp.places k j).places

      end_if_good : (C' : List ℕ) → C' ≡ filled H.code tp.at (place - (tp.at + 1)) → (j : Bool)
          → Represents (further H (moved p 5 place d) C' H.opens) (after k (inside (end_if j)) st)
      unfolding after
      end_if_good C' ec j =
          subst (λ (l : List Open). Represents (further H (moved p 5 place d) C' H.opens) (end_if_after st l)) (sym tp.innermost.opens)
          (carried H C' H.opens st rp 5 place d os (closed br st.inner) (omega arith)
          (rp.place ∙ sym (length-set (code_of st) tp.at (jump_of br br.first (place - (tp.at + 1)))) ∙ ap length (sym (end_if_code j)))
          (ap (take (2 * place)) ec ∙ filled_code H st rp nz (place - (tp.at + 1)) ∙ ap words (sym (end_if_code j)))
          (subst (Opened H.opens d os) (sym (end_if_places j)) tp.others) (omega (arith, rp.shallow)) rp.stack)

      -- ---- else

      -- it was met before
      met : w % 2 ≡ 1 → is_given br.first ≡ true
      met h = go (is_given br.first) tp.word
        where
          go : (g : Bool) → w ≡ 2 * tp.at + cond g 1 0 → g ≡ true
          go true e = refl
          go false e = absurd (omega (arith, h, e))

      -- or not
      unmet : (w % 2 ≡ 1 → ⊥) → br.first ≡ none
      unmet h = go br.first tp.word
        where
          go : (f : Option Stmts) → w ≡ 2 * tp.at + cond (is_given f) 1 0 → f ≡ none
          go none e = refl
          go (some x) e = absurd (h (omega (arith, e)))

      module _ (h : w % 2 ≡ 1 → ⊥) where
        else_code : code_of (otherwise_after st (br ∷ os)) ≡ jumped (place - tp.at) ++ (jump 0 ∷ [])
        unfolding after
        else_code =
            ap (λ (l : List Open). code_of (otherwise_after st l)) (sym tp.innermost.opens)
            ∙ (emits_otherwise st tp.innermost tp.at tp.rest tp.places k (unmet h)).code
            ∙ (λ i. set (code_of st) tp.at (jump_of br (sym (unmet h) i) (sym rp.place i - tp.at)) ++ (jump 0 ∷ []))

        else_places : places_of (otherwise_after st (br ∷ os)) ≡ place ∷ tp.rest
        unfolding after
        else_places =
            ap (λ (l : List Open). places_of (otherwise_after st l)) (sym tp.innermost.opens)
            ∙ (emits_otherwise st tp.innermost tp.at tp.rest tp.places k (unmet h)).places
            ∙ ap (λ (m : ℕ). m ∷ tp.rest) (sym rp.place)

        module _ (room : 2 * (place + 1) ≤ length H.code) (C' : List ℕ) (ec : C' ≡ turned_at H.code tp.at place)
            (O' : List ℕ) (eo : O' ≡ set H.opens d (2 * place + 1)) where
          else_words : take (2 * (place + 1)) C' ≡ words (jumped (place - tp.at) ++ (jump 0 ∷ []))
          unfolding words
          else_words =
              let m = 2 * place in
              let X = filled H.code tp.at (place - tp.at) in
              let Y = set X m 16 in
              let l = length-set H.code (2 * tp.at + 1) (get_or H.code (2 * tp.at + 1) 0 + 8 * (place - tp.at)) in
              let e1 : 2 * (place + 1) ≡ suc (suc m) = omega arith in
              let e2 : m + 1 ≡ suc m = omega arith in
              (λ i. take (e1 i) (ec i)) ∙ ap (λ (j : ℕ). take (suc (suc m)) (set Y j 0)) e2
              ∙ take-suc-set Y (suc m) 0 (omega (arith, length-set X m 16, l))
              ∙ ap (λ (u : List ℕ). u ++ (0 ∷ [])) (take-suc-set X m 16 (omega (arith, l)))
              ∙ append_assoc (take m X) (16 ∷ []) (0 ∷ [])
              ∙ ap (λ (u : List ℕ). u ++ (16 ∷ 0 ∷ [])) (filled_code H st rp nz (place - tp.at))
              ∙ sym (words_append (jumped (place - tp.at)) (jump 0 ∷ []))

          else_opened : Opened O' p.depth (turned br st.inner ∷ os) (place ∷ tp.rest)
          else_opened =
              subst₂ (λ (U : List ℕ) (m : ℕ). Opened U m (turned br st.inner ∷ os) (place ∷ tp.rest)) (sym eo) (sym (deep H st rp nz)) (
                get_or-set_same H.opens d (2 * place + 1) 0 (omega (arith, nz, rp.shallow, rp.stack)),
                opened_below H.opens d d (2 * place + 1) os tp.rest (omega arith) tp.others,
              )

          else_good : Represents (further H (moved p 5 (place + 1) p.depth) C' O') (after k (inside otherwise) st)
          unfolding after
          else_good =
              let c = jumped (place - tp.at) in
              let l = rp.place ∙ sym (length-set (code_of st) tp.at (jump_of br br.first (place - tp.at))) in
              subst (λ (l : List Open). Represents (further H (moved p 5 (place + 1) p.depth) C' O') (otherwise_after st l)) (sym tp.innermost.opens)
              (carried H C' O' st rp 5 (place + 1) p.depth (turned br st.inner ∷ os) stop (omega arith)
              (ap (λ (m : ℕ). m + 1) l ∙ sym (length-append c (jump 0 ∷ [])) ∙ ap length (sym else_code))
              (else_words ∙ ap words (sym else_code))
              (subst (Opened O' p.depth (turned br st.inner ∷ os)) (sym else_places) else_opened) rp.shallow
              (omega (arith, rp.stack, ap length eo, length-set H.opens d (2 * place + 1))))

    end_if_fits : (j : Bool) (st : State) → Represents H st → flaw_of st (inside (end_if j)) ≡ None
    unfolding names limits in_line
    end_if_fits j st rp = flaw_fits st (inside (end_if j)) true (ap (λ (l : List Open). not (none_open l)) (tp st rp).innermost.opens) refl refl

    pub end_if_more : (j : Bool) (f : Flaw) → Comes s at 0 (Err f)
        → Takes (reads (inside (end_if j)) at) 5 s k H (λ q. further H q H.code H.opens) (Err f)
    end_if_more j f h = more k s at b H (inside (end_if j)) 5 (λ q. further H q H.code H.opens) f h (end_if_fits j)

    pub end_if_ends : (C' : List ℕ) → C' ≡ filled H.code (w / 2) (place - (w / 2 + 1)) → (j : Bool) (q : Progress) (u : Unit {0}) → Comes s at 0 (Ok u)
        → q ≡ moved p 5 place d → Takes (reads (inside (end_if j)) at) 5 s k H (λ q. further H q C' H.opens) (Ok q)
    end_if_ends C' ec j q u h e = fit k s at b H (inside (end_if j)) 5 (moved p 5 place d) q C' H.opens u h e (end_if_fits j)
        (λ st rp. end_if_good st rp C' (ec ∙ ap (λ (m : ℕ). filled H.code m (place - (m + 1))) (jump_is H st rp nz)) j)

    pub else_again : w % 2 ≡ 1 → Takes (reads (inside otherwise) at) 5 s k H (λ q. further H q H.code H.opens) (Err BrokenForm)
    unfolding names limits in_line
    else_again h = unfit k s at b H (inside otherwise) 5 (λ q. further H q H.code H.opens)
        (λ st rp. flaw_fits st (inside otherwise) false (ap else_fits (tp st rp).innermost.opens ∙ ap not (met st rp h)) refl refl)

    module _ (odd : w % 2 ≡ 1 → ⊥) where
      else_stands : (st : State) → Represents H st → flaw_of st (inside otherwise) ≡ None
      unfolding names limits in_line
      else_stands st rp = flaw_fits st (inside otherwise) true
          (ap else_fits (tp st rp).innermost.opens ∙ ap (λ (f : Option Stmts). not (is_given f)) (unmet st rp odd)) refl refl

      pub else_more : (f : Flaw) → Comes s at 0 (Err f)
          → Takes (reads (inside otherwise) at) 5 s k H (λ q. further H q H.code H.opens) (Err f)
      else_more f h = more k s at b H (inside otherwise) 5 (λ q. further H q H.code H.opens) f h else_stands

      pub else_turns : 2 * (place + 1) ≤ length H.code → (C' : List ℕ) → C' ≡ turned_at H.code (w / 2) place
          → (O' : List ℕ) → O' ≡ set H.opens d (2 * place + 1) → (q : Progress) (u : Unit {0}) → Comes s at 0 (Ok u) → q ≡ moved p 5 (place + 1) p.depth
          → Takes (reads (inside otherwise) at) 5 s k H (λ q. further H q C' O') (Ok q)
      else_turns room C' ec O' eo q u h e = fit k s at b H (inside otherwise) 5 (moved p 5 (place + 1) p.depth) q C' O' u h e else_stands
          (λ st rp. else_good st rp odd room C' (ec ∙ ap (λ (m : ℕ). turned_at H.code m place) (jump_is H st rp nz)) O' eo)
