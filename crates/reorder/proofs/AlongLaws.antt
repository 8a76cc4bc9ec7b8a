-- Laws of `along`, an iteration run whole. What an iteration is, reads, writes, updates and faults, shows here only; the lemmas of each clause are one for each
-- kind of access.
use mathlib.Core.Path.{◌≡◌, refl, sym, ◌∙◌, ap, subst}
use mathlib.Core.Logic.{inl, inr}
use mathlib.Core.List.{[], ◌∷◌, ◌++◌, append_assoc}
use Prim.Native.Nat.{ℕ}
use native.Mathlib.Decide.{ℕ_discrete}
use lib.IntN.{ℤ}
use Rattle.rules.specs.Choose.{put}
use Rattle.rules.specs.ChooseLaws.{put_same, put_other}
use Rattle.rules.specs.Loop.{Act, read, write, update, fault, done, Loop, joining}
use Rattle.rules.specs.Log.{reads, updates, Access, access, Log, newest}
use Rattle.rules.specs.LogLaws.{Extends, same, more, extends_trans, has_more}
use Rattle.rules.specs.Serial.{Outcome, finished, failed, Result, along}
use Rattle.reorder.specs.Depends.{Touches, Changes}
use Rattle.reorder.specs.Whole.{ended, whole}
use Rattle.reorder.proofs.EachLaws.{Of, of_nil, of_cons}
use Rattle.reorder.proofs.Local.{Same, Local}

touches_more : {c : ℕ} {g h : Log} → Extends g h → Touches c g → Touches c h
touches_more x t = (t.0, has_more x t.1)

changes_more : {c : ℕ} {g h : Log} → Extends g h → Changes c g → Changes c h
changes_more x (inl t) = inl (has_more x t)
changes_more x (inr t) = inr (has_more x t)

-- what comes after a run, if it met no fault; the accesses before are g
unfoldable pub resumed : Outcome → Result → Log → ((ℕ → ℤ) → Log → Result) → Result
resumed finished r g next = next r.cells (r.log ++ g)
resumed (failed n t i) r g next = record { cells = r.cells; log = r.log ++ g; outcome = failed n t i }

-- one access before
resumed_more : (o : Outcome) (r : Result) (e : Access) (g : Log) (next : (ℕ → ℤ) → Log → Result)
    → resumed (resumed o r (e ∷ []) ended).outcome (resumed o r (e ∷ []) ended) g next ≡ resumed o r (e ∷ g) next
unfolding resumed
resumed_more finished r e g next = ap (next r.cells) (append_assoc r.log (e ∷ []) g)
resumed_more (failed n t i) r e g next = ap (λ (h : Log). record { cells = r.cells; log = h; outcome = failed n t i }) (append_assoc r.log (e ∷ []) g)

put_agree : (m n : ℕ → ℤ) (d c : ℕ) (v w : ℤ) → w ≡ v → n c ≡ m c → put n d w c ≡ put m d v c
put_agree m n d c v w e f = elim (ℕ_discrete d c) [ yes p ↦ put_same p n w ∙ e ∙ sym (put_same p m v) | no p ↦ put_other p n w ∙ f ∙ sym (put_other p m v) ]

module _ (l : Loop) (x : ℕ) where
  -- a run whole over the cells m, with no accesses before
  abbrev pub alone : Act → (ℕ → ℤ) → Result
  alone a m = along l x a m [] ended

  -- one access more
  later : (a : Act) (m : ℕ → ℤ) (e : Access) (g : Log) (next : (ℕ → ℤ) → Log → Result)
      → ((g : Log) (next : (ℕ → ℤ) → Log → Result) → along l x a m g next ≡ resumed (alone a m).outcome (alone a m) g next)
      → along l x a m (e ∷ g) next ≡ resumed (along l x a m (e ∷ []) ended).outcome (along l x a m (e ∷ []) ended) g next
  later a m e g next h =
      h (e ∷ g) next
      ∙ sym (ap (λ (r : Result). resumed r.outcome r g next) (h (e ∷ []) ended) ∙ resumed_more (alone a m).outcome (alone a m) e g next)

  -- what was listed before matters only to the list
  pub along_is : (a : Act) (m : ℕ → ℤ) (g : Log) (next : (ℕ → ℤ) → Log → Result) → along l x a m g next ≡ resumed (alone a m).outcome (alone a m) g next
  unfolding along resumed
  along_is (read c k) m g next = later (k (m c)) m _ g next (along_is (k (m c)) m)
  along_is (write c v a) m g next = later a _ _ g next (along_is a _)
  along_is (update c v a) m g next = later a _ _ g next (along_is a _)
  along_is (fault n t) m g next = refl
  along_is done m g next = refl

  -- the accesses before stay
  along_extends : (a : Act) (m : ℕ → ℤ) (g : Log) → Extends g (along l x a m g ended).log
  unfolding along
  along_extends (read c k) m g = extends_trans (more same) (along_extends (k (m c)) m _)
  along_extends (write c v a) m g = extends_trans (more same) (along_extends a _ _)
  along_extends (update c v a) m g = extends_trans (more same) (along_extends a _ _)
  along_extends (fault n t) m g = same
  along_extends done m g = same

  -- all accesses are its own
  along_own : (a : Act) (m : ℕ → ℤ) (g : Log) → Of x g → Of x (along l x a m g ended).log
  unfolding along
  along_own (read c k) m g h = along_own (k (m c)) m _ (of_cons h)
  along_own (write c v a) m g h = along_own a _ _ (of_cons h)
  along_own (update c v a) m g h = along_own a _ _ (of_cons h)
  along_own (fault n t) m g h = h
  along_own done m g h = h

  -- a cell that it does not change keeps its value
  along_frame : (a : Act) (m : ℕ → ℤ) (g : Log) (c : ℕ) → ¬ Changes c (along l x a m g ended).log → (along l x a m g ended).cells c ≡ m c
  unfolding along
  along_frame (read d k) m g c h = along_frame (k (m d)) m _ c h
  along_frame (write d v a) m g c h = along_frame a _ _ c h ∙ put_other (λ p. h (changes_more (along_extends a _ _) (inl (rw p newest)))) m _
  along_frame (update d v a) m g c h = along_frame a _ _ c h ∙ put_other (λ p. h (changes_more (along_extends a _ _) (inr (rw p newest)))) m _
  along_frame (fault n t) m g c h = refl
  along_frame done m g c h = refl

  -- it goes only by the cells that it touches
  along_same : (a : Act) (m n : ℕ → ℤ) (g : Log) → ((c : ℕ) → Touches c (along l x a m g ended).log → n c ≡ m c)
      → Same (along l x a m g ended) (along l x a n g ended)
  unfolding along
  along_same (read d k) m n g h = subst
      (λ (y : ℤ). Same (along l x (k (m d)) m (access reads x d (m d) ∷ g) ended) (along l x (k y) n (access reads x d y ∷ g) ended))
      (sym (h d (touches_more (along_extends (k (m d)) m _) (reads, newest))))
      (along_same (k (m d)) m n _ h)
  along_same (write d v a) m n g h = along_same a _ _ _ (λ c t. put_agree m n d c v v refl (h c t))
  along_same (update d v a) m n g h = along_same a _ _ _
      (λ c t. put_agree m n d c _ _ (ap (λ (y : ℤ). (joining l d).join y v) (h d (touches_more (along_extends a _ _) (updates, newest)))) (h c t))
  along_same (fault n t) m k g h = record { log = refl; outcome = refl; cells = h }
  along_same done m n g h = record { log = refl; outcome = refl; cells = h }

-- ---- the same of an iteration of a loop

pub whole_local : (l : Loop) (i : ℕ) → Local i (whole l i)
unfolding whole
whole_local l i = record {
  own = λ m. along_own l i (l.body i) m [] of_nil;
  frame = λ m. along_frame l i (l.body i) m [];
  same = λ m n. along_same l i (l.body i) m n [];
}
