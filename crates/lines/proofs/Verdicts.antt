-- What a line comes to, by what was read of it.
use mathlib.Core.Path.{◌≡◌, refl, sym, ◌∙◌, ap, subst}
use mathlib.Core.Bool.{Bool, true, false, cond, not, ◌&&◌}
use mathlib.Core.List.{List}
use mathlib.Core.Logic.{inl, inr}
use Prim.Native.String.{String}
use Prim.Native.Nat.{ℕ, zero, suc, ◌+◌, ◌*◌, ◌≤◌, ◌<◌}
use native.Mathlib.Omega.{arith}
use borrow.Author.Tests.{eqb-true}
use lib.Dec.{eqb}
use lib.ListN.{length, drop}
use Rattle.std.specs.Prelude.{Option, Some, None, Result, Ok, Err, ok_or}
use Rattle.syntax.specs.declared.Flaw.{Flaw}
use Rattle.syntax.specs.declared.Flaw.TheVariants.{BrokenForm, WrongName, OverLimit}
use Rattle.syntax.specs.Bytes.{bytes, choose}
use Rattle.syntax.specs.Grammar.{Line}
use Rattle.syntax.specs.Known.{State, after}
use Rattle.syntax.specs.Conditions.{names, limits, fits, several, may_miss, may_follow}
use Rattle.syntax.specs.Reader.{Parsed, broken, done, Reader, next, kind, finish, peek_in, skip_in}
use Rattle.syntax.specs.Sane.{Sane}
use Rattle.syntax.proofs.Spelling.{both_true}
use Rattle.syntax.proofs.TestLaws.{either_holds}
use Rattle.lexer.specs.Places.{NotRead, ReadTo, Finds, Any, passes}
use Rattle.lexer.proofs.InTurn.{to_saying}
use Rattle.heading.specs.Lists.{order}
use Rattle.lines.specs.declared.Progress.{Progress}
use Rattle.lines.specs.Lines.{Takes}
use Rattle.lines.specs.Progress.{Held, Represents, flaw_of, flawed, told, Comes, whole, Concludes}

-- ---- what a reader found, or the form is broken

module _ {A R : Type 0} (after : R → ℕ) (P : R → A → Type 0) (s : List ℕ) (at : ℕ) (read : Reader (List ℕ) A) where
  pub found : (o : Option R) (r : R) → Ok r ≡ ok_or o BrokenForm → Finds after P s at read o → ReadTo (P r) s at read (after r)
  found None r e h = absurd (let z : ◌≡◌ {A = ℕ} 0 1 = cc in omega arith)
  found (Some x) r e h = let z : x ≡ r = cc in subst (λ (y : R). ReadTo (P y) s at read (after y)) z h

  pub missed : (o : Option R) (f : Flaw) → Err f ≡ ok_or o BrokenForm → Finds after P s at read o → NotRead s at read
  missed None f e h = h
  missed (Some x) f e h = absurd (let z : ◌≡◌ {A = ℕ} 0 1 = cc in omega arith)

-- a sign or a word
module _ (t : String) (s : List ℕ) (at : ℕ) (o : Option ℕ) where
  pub passed : (m : ℕ) → Ok m ≡ ok_or o BrokenForm → Finds (λ next. next) (λ _. Any) s at (passes (bytes t)) o → ReadTo Any s at (passes (bytes t)) m
  passed m = found (λ next. next) (λ _. Any) s at (passes (bytes t)) o m

  pub unpassed : (f : Flaw) → Err f ≡ ok_or o BrokenForm → Finds (λ next. next) (λ _. Any) s at (passes (bytes t)) o → NotRead s at (passes (bytes t))
  unpassed f = missed (λ next. next) (λ _. Any) s at (passes (bytes t)) o f

-- something else
pub some_of : {R : Type 0} (P : Option R → Type 0) (o : Option R) (r : R) → Ok r ≡ ok_or o BrokenForm → P o → P (Some r)
some_of P None r e h = absurd (let z : ◌≡◌ {A = ℕ} 0 1 = cc in omega arith)
some_of {R} P (Some x) r e h = let z : x ≡ r = cc in subst (λ (y : R). P (Some y)) z h

pub none_of : {R : Type 0} (P : Option R → Type 0) (o : Option R) (f : Flaw) → Err f ≡ ok_or o BrokenForm → P o → P None
none_of P None f e h = h
none_of P (Some x) f e h = absurd (let z : ◌≡◌ {A = ℕ} 0 1 = cc in omega arith)

-- and so says the flaw
pub broken_form : {R : Type 0} (o : Option R) (f : Flaw) → Err f ≡ ok_or o BrokenForm → f ≡ BrokenForm
broken_form None f e = cc
broken_form (Some x) f e = absurd (let z : ◌≡◌ {A = ℕ} 0 1 = cc in omega arith)

-- ---- what is told of it

told_some : (o : Option Flaw) (f : Flaw) → Err f ≡ told o → o ≡ Some f
told_some None f e = absurd (let z : ◌≡◌ {A = ℕ} 0 1 = cc in omega arith)
told_some (Some x) f e = let z : x ≡ f = cc in ap Some z

told_none : (o : Option Flaw) (u : Unit {0}) → Ok u ≡ told o → o ≡ None
told_none None u e = refl
told_none (Some x) u e = absurd (let z : ◌≡◌ {A = ℕ} 0 1 = cc in omega arith)

pub flawed_none : (n : ℕ) → flawed n ≡ None → n ≡ 0
flawed_none zero h = refl
flawed_none (suc zero) h = absurd (let z : ◌≡◌ {A = ℕ} 0 1 = cc in omega arith)
flawed_none (suc (suc n)) h = absurd (let z : ◌≡◌ {A = ℕ} 0 1 = cc in omega arith)

module _ (flaw : Line → Option Flaw) (good : Line → Progress → Type 0) where
  -- a line of a rank: what is wrong with it, and else what it leaves
  abbrev pub Settles : ℕ → Progress → Line → Type 0
  Settles rank p l = (flawed rank ≡ flaw l) × (rank ≡ 0 → good l p)

  -- the line's end after it
  module _ (l : Line) (v : List ℕ) (rank : ℕ) where
    abbrev after_it : Bool → Parsed (List ℕ) Line
    after_it b = next (cond b (done (tt {0}) v) broken) (λ _. done l)

    end_told : (b : Bool) (f : Flaw) → flawed rank ≡ flaw l → Err f ≡ cond b (told (flawed rank)) (Err BrokenForm)
        → Concludes flaw good (after_it b) (Err f)
    unfolding Concludes
    end_told true f e h = sym e ∙ told_some (flawed rank) f h
    end_told false f e h = cc

    end_broken : (b : Bool) → flaw l ≡ Some BrokenForm → Concludes flaw good (after_it b) (Err BrokenForm)
    unfolding Concludes
    end_broken true e = e
    end_broken false e = refl

    end_good : (b : Bool) (u : Unit {0}) (p : Progress) → Settles rank p l → Ok u ≡ cond b (told (flawed rank)) (Err BrokenForm)
        → Concludes flaw good (after_it b) (Ok p)
    unfolding Concludes
    end_good true u p (e, g) h = let n = told_none (flawed rank) u h in (sym e ∙ n, g (flawed_none rank n))
    end_good false u p q h = absurd (let z : ◌≡◌ {A = ℕ} 0 1 = cc in omega arith)

  module _ (R : Reader (List ℕ) Line) (s : List ℕ) where
    -- nothing is read
    pub concludes_not : (f : Flaw) → f ≡ BrokenForm → NotRead s 0 R → Concludes flaw good (whole R s) (Err f)
    unfolding Concludes
    concludes_not f e g = subst (λ (p : Parsed (List ℕ) Line). Concludes flaw good (next p (λ l u. next (finish peek_in skip_in u) (λ _. done l))) (Err f))
        (sym (g.fails (omega arith))) e

    module _ (m : ℕ) where
      -- a line is read that may not stand there
      pub concludes_broken : ReadTo (λ l. flaw l ≡ Some BrokenForm) s 0 R m → Concludes flaw good (whole R s) (Err BrokenForm)
      concludes_broken g = subst (λ (q : Parsed (List ℕ) Line). Concludes flaw good (next q (λ l u. next (finish peek_in skip_in u) (λ _. done l))) (Err BrokenForm))
          (sym g.reads) (end_broken g.what (drop m s) 0 (eqb (kind (peek_in (drop m s))) 0) g.holds)

    module _ (m rank : ℕ) where
      -- a line is read, and something is wrong with it
      pub concludes_told : (f : Flaw) → Comes s m rank (Err f) → ReadTo (λ l. flawed rank ≡ flaw l) s 0 R m → Concludes flaw good (whole R s) (Err f)
      concludes_told f e g = subst (λ (q : Parsed (List ℕ) Line). Concludes flaw good (next q (λ l u. next (finish peek_in skip_in u) (λ _. done l))) (Err f))
          (sym g.reads) (end_told g.what (drop m s) rank (eqb (kind (peek_in (drop m s))) 0) f g.holds (e g.within))

      pub concludes_flaw : (p : Progress) (f : Flaw) → Comes s m rank (Err f) → ReadTo (Settles rank p) s 0 R m → Concludes flaw good (whole R s) (Err f)
      concludes_flaw p f e g = concludes_told f e (to_saying g (λ l q. q.0))

      -- or nothing is
      pub concludes_good : (p : Progress) (u : Unit {0}) → Comes s m rank (Ok u) → ReadTo (Settles rank p) s 0 R m → Concludes flaw good (whole R s) (Ok p)
      concludes_good p u e g = subst (λ (q : Parsed (List ℕ) Line). Concludes flaw good (next q (λ l u. next (finish peek_in skip_in u) (λ _. done l))) (Ok p))
          (sym g.reads) (end_good g.what (drop m s) rank (eqb (kind (peek_in (drop m s))) 0) u p g.holds (e g.within))

-- a good part's rank
pub ended_well : (s : List ℕ) (m rank : ℕ) (u : Unit {0}) → m ≤ length s → Comes s m rank (Ok u) → rank ≡ 0
ended_well s m rank u b h = go (eqb (kind (peek_in (drop m s))) 0) (h b)
  where
    go : (b : Bool) → Ok u ≡ cond b (told (flawed rank)) (Err BrokenForm) → rank ≡ 0
    go true h = flawed_none rank (told_none (flawed rank) u h)
    go false h = absurd (let z : ◌≡◌ {A = ℕ} 0 1 = cc in omega arith)

-- ---- a line in order

-- where it may stand, what is wrong with it is what its rank says
pub flaw_by : (st : State) (l : Line) → fits st.opens l ≡ true → (a b : Bool) → names st l ≡ a → limits st l ≡ b → flawed (order a b) ≡ flaw_of st l
unfolding flaw_of
flaw_by st l e a b ea eb =
    sym ((λ i. choose (not (e i)) (λ _. Some BrokenForm) (λ _. choose (not (ea i)) (λ _. Some WrongName)
    (λ _. choose (not (eb i)) (λ _. Some OverLimit) (λ _. None)))) ∙ go a b)
  where
    go : (a b : Bool) → choose (not a) (λ _. Some WrongName) (λ _. choose (not b) (λ _. Some OverLimit) (λ _. None)) ≡ flawed (order a b)
    go true true = refl
    go true false = refl
    go false b = refl

-- ---- the order of lines

pub follows_most : (k n : ℕ) → may_follow k n ≡ true → k ≤ n
follows_most k n h = elim (either_holds (eqb n (k + 1)) _ h) [
  | inl a ↦ omega (arith, eqb-true n (k + 1) a)
  | inr b ↦ elim (either_holds (several k && eqb n k) _ b) [
    | inl c ↦ omega (arith, eqb-true n k (both_true (several k) (eqb n k) c).1)
    | inr d ↦ omega (arith, eqb-true n (k + 2) (both_true (may_miss (k + 1)) (eqb n (k + 2)) d).1)
  ]
]

-- ---- a line of a kind, by what its reader reads

module _ (read : ℕ → Reader (List ℕ) Line) (j : ℕ) (s : List ℕ) (k : ℕ) (H : Held) (H' : Progress → Held) where
  -- of each state that is held, with enough fuel
  abbrev Each : ((st : State) → Reader (List ℕ) Line → Type 0) → Type 0
  Each P = (st : State) → Represents H st → Sane st → may_follow st.stage j ≡ true → (n : ℕ) → length s < n → P st (read n)

  abbrev leaves : State → Line → Progress → Type 0
  leaves st l p = Represents (H' p) (after k l st)

  pub takes_not : (f : Flaw) → f ≡ BrokenForm → Each (λ st. NotRead s 0) → Takes read j s k H H' (Err f)
  takes_not f e g st rp sane fo n b = concludes_not (flaw_of st) (leaves st) (read n) s f e (g st rp sane fo n (omega (arith, b)))

  pub takes_broken : (m : ℕ) → Each (λ st R. ReadTo (λ l. flaw_of st l ≡ Some BrokenForm) s 0 R m) → Takes read j s k H H' (Err BrokenForm)
  takes_broken m g st rp sane fo n b = concludes_broken (flaw_of st) (leaves st) (read n) s m (g st rp sane fo n (omega (arith, b)))

  module _ (m rank : ℕ) (p : Progress) (g : Each (λ st R. ReadTo (Settles (flaw_of st) (leaves st) rank p) s 0 R m)) where
    pub takes_flaw : (f : Flaw) → Comes s m rank (Err f) → Takes read j s k H H' (Err f)
    takes_flaw f e st rp sane fo n b = concludes_flaw (flaw_of st) (leaves st) (read n) s m rank p f e (g st rp sane fo n (omega (arith, b)))

    pub takes_good : (q : Progress) (u : Unit {0}) → Comes s m rank (Ok u) → q ≡ p → Takes read j s k H H' (Ok q)
    takes_good q u e i = subst (λ (x : Progress). Takes read j s k H H' (Ok x)) (sym i)
        (λ st rp sane fo n b. concludes_good (flaw_of st) (leaves st) (read n) s m rank p u e (g st rp sane fo n (omega (arith, b))))
