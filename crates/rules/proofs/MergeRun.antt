-- The merged cells and the write counts of a trial that passed are those of the serial run.
use mathlib.Core.Path.{◌≡◌, refl, sym, ◌∙◌, ap}
use mathlib.Core.Logic.{inl, inr}
use mathlib.Core.List.{[], ◌∷◌}
use mathlib.Core.Option.{Option, none, some, get_or}
use Prim.Native.Nat.{ℕ, zero, suc, ◌<◌}
use native.Mathlib.Decide.{ℕ_discrete}
use native.Mathlib.Omega.{arith}
use lib.IntN.{ℤ}
use Rattle.rules.specs.ChooseLaws.{pick_same, pick_other}
use Rattle.rules.specs.Operation.{Operation, Lawful}
use Rattle.rules.specs.Loop.{Loop, operator, joining}
use Rattle.rules.specs.Log.{reads, writes, updates, Access, access, iteration, Log, only, written, Has, newest, older, a_write}
use Rattle.rules.specs.LogLaws.{only_same, only_other, written_newest, written_some, written_only_leaving, Writing, writing, leaving, writing?, has_nil, has_cases, not_read, not_written, has_more, extends_only}
use Rattle.rules.specs.Obstacles.{Clash}
use Rattle.rules.proofs.ObstacleLaws.{clash_more}
use Rattle.rules.specs.Steps.{latest}
use Rattle.rules.proofs.SerialRun.{Upto, Sorted, sorted_nil, sorted_cons, replay, replay_latest}
use Rattle.rules.proofs.OperationLaws.{lawful}
use Rattle.rules.specs.Merge.{highest, add, total}
use Rattle.rules.specs.Decide.{has?}
use Rattle.rules.proofs.SumLaws.{Within, within_tail, within_newest}

highest_same : (f f' : ℕ → Log) (c n : ℕ) → ((j : ℕ) → written c (f j) ≡ written c (f' j)) → highest f c n ≡ highest f' c n
unfolding highest
highest_same f f' c zero h = refl
highest_same f f' c (suc n) h = cc (h n, highest_same f f' c n h)

pub highest_is : (f : ℕ → Log) (c i : ℕ) (v : ℤ) (n : ℕ) → i < n → written c (f i) ≡ some v → ((j : ℕ) → i < j → written c (f j) ≡ none)
    → highest f c n ≡ some v
unfolding highest
highest_is f c i v zero b h u = absurd (omega arith)
highest_is f c i v (suc n) b h u = elim (ℕ_discrete i n) [
  | yes e ↦ rw (← e, h)
  | no m ↦ rw (u n (omega arith)) (highest_is f c i v n (omega arith) h u)
]

pub highest_none : (f : ℕ → Log) (c n : ℕ) → ((j : ℕ) → written c (f j) ≡ none) → highest f c n ≡ none
unfolding highest
highest_none f c zero h = refl
highest_none f c (suc n) h = rw (h n) (highest_none f c n h)

pub unwritten : (c : ℕ) (g : Log) → ¬ Has writes c g → written c g ≡ none
unwritten c g n = go (written c g) refl
  where
    go : (o : Option ℤ) → written c g ≡ o → written c g ≡ none
    go none e = e
    go (some v) e = absurd (n (written_some c g v e))

nothing : (c : ℕ) → written c [] ≡ none
unfolding written
nothing c = refl

module _ (γ : ℕ → ℕ) where
  -- no group writes c after a higher one did
  pub data Climbs (c : ℕ) : Log → Type 0 where
    climbs_nil : Climbs c []
    climbs_write : {i : ℕ} {v : ℤ} {g : Log} → ((j : ℕ) → γ i < j → written c (only γ j g) ≡ none) → Climbs c g → Climbs c (access writes i c v ∷ g)
    climbs_leave : {e : Access} {g : Log} → ((k : Log) → written c (e ∷ k) ≡ written c k) → Climbs c g → Climbs c (e ∷ g)

  -- then the last value written is the highest group's
  pub highest_written : (c n : ℕ) {g : Log} → Climbs c g → Within γ n g → written c g ≡ highest (λ i. only γ i g) c n
  unfolding only written
  highest_written c n climbs_nil u = sym (highest_none (λ i. []) c n (λ j. refl))
  highest_written c n (climbs_write {i = i} {v = v} {g = g} h k) u =
      written_newest c i v g ∙ sym (highest_is (λ j. only γ j (access writes i c v ∷ g)) c (γ i) v n (within_newest γ n (access writes i c v) g u)
      (ap (written c) (only_same γ (access writes i c v) refl g) ∙ written_newest c i v (only γ (γ i) g))
      (λ j b. ap (written c) (only_other γ (access writes i c v) (omega arith) g) ∙ h j b))
  highest_written c n (climbs_leave {e = e} {g = g} h k) u =
      h g ∙ highest_written c n k (within_tail γ n e g u)
      ∙ highest_same (λ i. only γ i g) (λ i. only γ i (e ∷ g)) c n (λ j. sym (written_only_leaving γ c j e g h))

  pub sorted_climbs : (c : ℕ) {g : Log} → Sorted γ g → Climbs c g
  sorted_climbs c sorted_nil = climbs_nil
  sorted_climbs c (sorted_cons {e = e} {g = g} u s) = go e (writing? c e) u (sorted_climbs c s)
    where
      go : (e : Access) → Writing c e → Upto γ (γ (iteration e)) g → Climbs c g → Climbs c (e ∷ g)
      go e writing u k = climbs_write (λ j b. ap (written c) (u j b) ∙ nothing c) k
      go e (leaving x) u k = climbs_leave x k

  -- so it is where no two groups meet at c
  pub free_climbs : (c : ℕ) (g : Log) → ¬ Clash (λ i. only γ i g) c → Climbs c g
  free_climbs c [] n = climbs_nil
  free_climbs c (e ∷ g) n = go e (writing? c e) n
      (free_climbs c g (λ x. n (clash_more (λ i. only γ i g) (λ i. only γ i (e ∷ g)) (λ i. extends_only γ i e g) c x)))
    where
      go : (e : Access) → Writing c e → ¬ Clash (λ i. only γ i (e ∷ g)) c → Climbs c g → Climbs c (e ∷ g)
      go e (writing {i = i} {v = v}) m k = climbs_write
          (λ j (b : γ i < j). unwritten c (only γ j g) (λ w. m (
            γ i,
            j,
            omega arith,
            rw (only_same γ (access writes i c v) refl g) newest,
            a_write (has_more (extends_only γ j (access writes i c v) g) w),
          )))
          k
      go e (leaving x) m k = climbs_leave x k

module _ (l : Loop) (c : ℕ) where
  -- what updates of c do
  abbrev o : Operation
  o = joining l c

  w : Lawful o
  w = lawful (operator (l.class c))

  -- a cell without updates has the result that it begins with
  pub total_none : (g : Log) → ¬ Has updates c g → total o c g ≡ o.start
  unfolding total add
  total_none [] n = refl
  total_none (access reads i d v ∷ g) n = total_none g (λ x. n (older x))
  total_none (access writes i d v ∷ g) n = total_none g (λ x. n (older x))
  total_none (access updates i d v ∷ g) n =
      pick_other (λ (p : d ≡ c). n (rw p newest)) (o.join v (total o c g)) (total o c g) ∙ total_none g (λ x. n (older x))

  -- a cell with updates and no writes holds its entry and the result of its updates
  replay_join : (g : Log) → ¬ Has writes c g → Has updates c g → replay l c g ≡ o.join (l.entry c) (total o c g)
  unfolding total add replay written
  replay_join [] n u = absurd (has_nil u)
  replay_join (access reads i d v ∷ g) n u = replay_join g (λ x. n (older x)) (not_read u)
  replay_join (access writes i d v ∷ g) n u = pick_other (λ (p : d ≡ c). n (rw p newest)) v (replay l c g) ∙ replay_join g (λ x. n (older x)) (not_written u)
  replay_join (access updates i d v ∷ g) n u = elim (ℕ_discrete d c) [
    | yes p ↦ rw (pick_same p (o.join (replay l c g) v) (replay l c g), pick_same p (o.join v (total o c g)) (total o c g)) (elim (has? updates c g) [
      | yes y ↦
          ap (λ (x : ℤ). o.join x v) (replay_join g (λ x. n (older x)) y) ∙ w.assoc (l.entry c) (total o c g) v
          ∙ ap (o.join (l.entry c)) (w.comm (total o c g) v)
      | no y ↦
          ap (λ (x : ℤ). o.join x v) (unmet y) ∙ sym (w.neutral (l.entry c) v) ∙ w.assoc (l.entry c) v o.start
          ∙ ap (λ (x : ℤ). o.join (l.entry c) (o.join v x)) (sym (total_none g y))
    ])
    | no p ↦ rw (pick_other p (o.join (replay l c g) v) (replay l c g), pick_other p (o.join v (total o c g)) (total o c g))
        (replay_join g (λ x. n (older x)) (elim (has_cases u) [ inl x ↦ absurd (p x.1) | inr x ↦ x ]))
  ]
    where
      unmet : ¬ Has updates c g → replay l c g ≡ l.entry c
      unmet y = elim (replay_latest l c g) [
        | inr x ↦ absurd (y x)
        | inl q ↦ q ∙ ap (λ (s : Option ℤ). get_or s (l.entry c)) (unwritten c g (λ x. n (older x)))
      ]

  -- a cell that is updated and not written
  pub replay_updated : (g : Log) → ¬ Has writes c g → Has updates c g → replay l c g ≡ o.join (latest l c g) (total o c g)
  replay_updated g n u = replay_join g n u ∙ ap (λ (s : Option ℤ). o.join (get_or s (l.entry c)) (total o c g)) (sym (unwritten c g n))

  pub replay_plain : (g : Log) → ¬ Has updates c g → replay l c g ≡ latest l c g
  replay_plain g n = elim (replay_latest l c g) [ inl q ↦ q | inr u ↦ absurd (n u) ]
