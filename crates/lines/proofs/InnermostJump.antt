-- The innermost open jump: as the words hold it, and as the code finds it.
use mathlib.Core.Path.{◌≡◌, refl, sym, ◌∙◌, ap, subst}
use mathlib.Core.Bool.{true, false, cond}
use mathlib.Core.List.{List, [], ◌∷◌}
use mathlib.Core.Option.{Option, none, some}
use Prim.Native.Nat.{ℕ, zero, suc, ◌+◌, ◌-◌, ◌*◌, ◌/◌, ◌≤◌, ◌<◌}
use native.Mathlib.Omega.{arith}
use lib.ListN.{length, get_or, set, take, length-take}
use lib.Seq.{take-set-lt, get_or-take, get_or-set_other}
use Rattle.syntax.specs.Known.{Stmts, Open, State}
use Rattle.syntax.specs.Conditions.{is_given, none_open}
use Rattle.code.specs.Instr.{argument, words}
use Rattle.code.specs.Compile.{code_stmts, code_of, places_of}
use Rattle.code.proofs.Words.{words_length, words_get_d}
use Rattle.code.proofs.OpenJumps.{InstrAt, instr_length, instr_there, jump_of, words_fill}
use Rattle.code.proofs.Emitted.{Innermost, jump_at}
use Rattle.conditions.proofs.Comparisons.{relation_small}
use Rattle.assignments.proofs.Assigned.{test_few}
use Rattle.lines.specs.declared.Progress.{Progress}
use Rattle.lines.specs.Progress.{Held, held, Opened, Represents, Underway}

-- none is open where the depth is 0, and some where it is not
pub no_depth : (H : Held) (st : State) → Represents H st → H.progress.depth ≡ 0 → none_open st.opens ≡ true
no_depth H st rp e = go st.opens (places_of st) (subst (λ (n : ℕ). Opened H.opens n st.opens (places_of st)) e rp.opened)
  where
    go : (os : List Open) (qs : List ℕ) → Opened H.opens 0 os qs → none_open os ≡ true
    go [] [] h = refl
    go [] (q ∷ qs) h = absurd h
    go (o ∷ os) qs h = absurd h

pub some_depth : (H : Held) (st : State) → Represents H st → (H.progress.depth ≡ 0 → ⊥) → none_open st.opens ≡ false
some_depth H st rp = go H.progress.depth st.opens (places_of st) rp.opened
  where
    go : (n : ℕ) (os : List Open) (qs : List ℕ) → Opened H.opens n os qs → (n ≡ 0 → ⊥) → none_open os ≡ false
    go zero os qs x h = absurd (h refl)
    go (suc n) [] qs x h = absurd x
    go (suc n) (o ∷ os) qs x h = refl

-- open jumps below d stand in the words below d
pub opened_below : (O : List ℕ) (d i x : ℕ) (os : List Open) (qs : List ℕ) → d ≤ i → Opened O d os qs → Opened (set O i x) d os qs
opened_below O zero i x [] [] b h = tt
opened_below O zero i x [] (q ∷ qs) b h = h
opened_below O zero i x (o ∷ os) qs b h = h
opened_below O (suc d) i x [] qs b h = h
opened_below O (suc d) i x (o ∷ os) [] b h = h
opened_below O (suc d) i x (o ∷ os) (q ∷ qs) b h =
    (get_or-set_other O i d x 0 (λ (e : d ≡ i). omega arith) ∙ h.0, opened_below O d i x os qs (omega arith) h.1)

-- ---- the innermost

pub record Top (st : State) (O : List ℕ) (d : ℕ) : Type 0 where
  pub innermost : Innermost st
  pub at : ℕ
  pub rest : List ℕ
  pub places : places_of st ≡ at ∷ rest
  pub word : get_or O d 0 ≡ 2 * at + cond (is_given innermost.branch.first) 1 0
  pub others : Opened O d innermost.others rest

top : (st : State) (O : List ℕ) (d : ℕ) → Opened O (suc d) st.opens (places_of st) → Top st O d
top st O d h = go st.opens (places_of st) refl refl h
  where
    go : (os : List Open) (qs : List ℕ) → st.opens ≡ os → places_of st ≡ qs → Opened O (suc d) os qs → Top st O d
    go [] qs eo eq h = absurd h
    go (o ∷ os) [] eo eq h = absurd h
    go (o ∷ os) (q ∷ qs) eo eq h = record {
      innermost = record { branch = o; others = os; opens = eo };
      at = q;
      rest = qs;
      places = eq;
      word = h.0;
      others = h.1;
    }

jump_small : (o : Open) (f : Option Stmts) → argument (jump_of o f 0) ≤ 7
jump_small o none = omega (arith, relation_small o.relation)
jump_small o (some p) = omega arith

-- the innermost jump, as the code finds it
pub record Jumps (p : Progress) (C O : List ℕ) : Type 0 where
  pub before : get_or O (p.depth - 1) 0 / 2 < p.place
  pub small : get_or C (2 * (get_or O (p.depth - 1) 0 / 2) + 1) 0 ≤ 7
  pub long : 2 * p.place ≤ length C
  pub word : get_or O (p.depth - 1) 0 ≤ 2 * p.place

module _ (H : Held) (st : State) (rp : Represents H st) (nz : H.progress.depth ≡ 0 → ⊥) where
  abbrev p : Progress
  p = H.progress

  abbrev C : List ℕ
  C = H.code

  abbrev d : ℕ
  d = H.progress.depth - 1

  pub deep : H.progress.depth ≡ suc d
  deep = omega (arith, nz)

  pub top_of : Top st H.opens d
  top_of = top st H.opens d (subst (λ (n : ℕ). Opened H.opens n st.opens (places_of st)) deep rp.opened)

  abbrev o : Open
  o = top_of.innermost.branch

  abbrev q : ℕ
  q = top_of.at

  here : InstrAt (code_of st) q (jump_of o o.first 0) (code_stmts st.table st.variable st.inner)
  here = jump_at st top_of.innermost q top_of.rest top_of.places

  within : q < p.place
  within = omega (arith, instr_length here, rp.place)

  code_long : 2 * p.place ≤ length C
  code_long = omega (arith, length-take (2 * p.place) C, ap length rp.code, words_length (code_of st), rp.place)

  word_is : get_or C (2 * q + 1) 0 ≡ get_or (words (code_of st)) (2 * q + 1) 0
  word_is = sym (get_or-take (2 * p.place) C (2 * q + 1) 0 (omega (arith, within))) ∙ ap (λ (l : List ℕ). get_or l (2 * q + 1) 0) rp.code

  -- the jump's argument is small
  argument_small : get_or C (2 * q + 1) 0 ≤ 7
  argument_small =
      let b = (words_get_d (code_of st) q (omega (arith, instr_length here))).1 ∙ ap argument (instr_there here) in
      omega (arith, word_is, b, jump_small o o.first)

  -- the code with the jump filled in
  pub filled_code : (n : ℕ) → take (2 * p.place) (set C (2 * q + 1) (get_or C (2 * q + 1) 0 + 8 * n)) ≡ words (set (code_of st) q (jump_of o o.first n))
  filled_code n =
      take-set-lt (2 * p.place) C (2 * q + 1) (get_or C (2 * q + 1) 0 + 8 * n) (omega (arith, within))
      ∙ (λ i. set (rp.code i) (2 * q + 1) (word_is i + 8 * n)) ∙ words_fill o o.first here n

  pub jump_is : get_or H.opens d 0 / 2 ≡ q
  jump_is = omega (arith, top_of.word, test_few (is_given o.first))

  jumps_of : Jumps p C H.opens
  jumps_of = record {
    before = omega (arith, jump_is, within);
    small = subst (λ (m : ℕ). get_or C (2 * m + 1) 0 ≤ 7) (sym jump_is) argument_small;
    long = code_long;
    word = omega (arith, top_of.word, test_few (is_given o.first), within);
  }

pub jumps : (p : Progress) (C O : List ℕ) → Underway p C O → (p.depth ≡ 0 → ⊥) → Jumps p C O
jumps p C O (T, I, st, rp) h = jumps_of (held p T I C O) st rp h
