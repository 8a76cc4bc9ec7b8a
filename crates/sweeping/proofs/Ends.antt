-- The sweep at its start, between iterations, and at its end.
use mathlib.Core.Path.{◌≡◌, refl, sym, ◌∙◌, ap, subst}
use mathlib.Core.List.{List, []}
use Prim.Native.Nat.{ℕ, zero, suc, max, ◌+◌, ◌*◌, ◌-◌, ◌≤◌, ◌<◌}
use native.Mathlib.Numerals.{add-one}
use native.Mathlib.Omega.{arith}
use lib.ListN.{length, set}
use lib.Seq.{ext_get_or, get_or-set_same, get_or-set_other}
use lib.IntN.{ℤ}
use Rattle.rules.specs.declared.Class.{Class}
use Rattle.rules.specs.Cells.{listed}
use Rattle.rules.proofs.CellsLaws.{listed_length, listed_at}
use Rattle.rules.specs.Loop.{Loop}
use Rattle.rules.specs.Log.{Log, only, each}
use Rattle.rules.specs.Serial.{Result, from, serial}
use Rattle.shadow.specs.Orderly.{turn_nil, inside_nil}
use Rattle.tables.specs.Logged.{Logged}
use Rattle.tables.proofs.Start.{get_d_zeros}
use Rattle.stepping.specs.declared.Role.{Role}
use Rattle.stepping.specs.Step.{unstopped, scene}
use Rattle.trial.specs.declared.Setting.{Setting}
use Rattle.serial.specs.Serving.{by_one, alone}
use Rattle.serial.proofs.AccessLaws.{serially_next}
use Rattle.serial.proofs.Stepping.{serving_begin}
use Rattle.reorder.specs.Stages.{greatest, stage, stage_count}
use Rattle.reorder.specs.StageTable.{Table, close, noted, swept, during}
use Rattle.reorder.proofs.StageLaws.{greatest_same}
use Rattle.reorder.proofs.StageTableRight.{swept_stages, during_small, during_end}
use Rattle.staging.specs.Rows.{stage_in, row_in}
use Rattle.staging.proofs.Keeping.{kept_close}
use Rattle.sweeping.specs.Sweep.{Faultless, Zeros, Planned, Before, After, Runs}
use Rattle.sweeping.proofs.Stepping.{Under}

-- ---- the start

module _ (code : List ℕ) (s : Setting) (l : Loop) (M : List ℤ) (C : List Class) (w : ℕ) (f : Faultless code s l M C w) where
  pub sweep_start : (W R L : List ℕ) → Logged l (by_one l) [] W → Zeros M R → length L ≡ s.iterations → Before l 0 M W R L
  unfolding serial only during noted swept row_in
  sweep_start W R L t r n =
      let h = f.serials in
      let k = length R in
      record {
        m = l.entry;
        g = [];
        stands = record { suits = h.entry.suits; cells = h.entry.cells; words = t; inside = inside_nil; ascending = turn_nil; upto = λ j b. refl };
        kept = record {
          rows = λ c b. rw (r.zero, get_d_zeros k (c * 4), get_d_zeros k (c * 4 + 1), get_d_zeros k (c * 4 + 2), get_d_zeros k (c * 4 + 3));
          stages = λ j b. absurd (omega arith);
          room = omega (arith, r.room, ap length h.entry.cells, listed_length l.size l.entry);
          numbers = n ∙ sym h.iterations;
        };
        fresh = refl;
        result = let z : l.iterations - 0 ≡ l.iterations = omega arith in rw z;
      }

  -- what an iteration needs of the loop
  pub sweep_runs : (x : Role) → x ≡ alone s.from s.iterations → Runs code x s.from l
  sweep_runs x e = record { role = e ∙ ap (alone s.from) (sym f.serials.iterations); coded = f.serials.coded; faultless = f.faultless }

-- ---- an iteration begins and ends

-- before its first access an iteration has to come after none
swept_over : (g : Log) (i : ℕ) → (swept g i).over ≡ 0
unfolding swept close
swept_over g zero = refl
swept_over g (suc i) = refl

during_fresh : (g : Log) (i : ℕ) → each i g ≡ [] → during g i ≡ swept g i
unfolding during noted
during_fresh g i e = ap (λ (h : Log). noted h (swept g i)) e

module _ (l : Loop) (i : ℕ) (M : List ℤ) (W R L : List ℕ) where
  pub iterate_start : (code : List ℕ) (x : Role) (v : ℤ) → Runs code x v l → i < l.iterations → Before l i M W R L → (a : List ℤ) → length a ≡ 32
      → Under code v l i L R 0 (scene M W a (unstopped 0 0 i))
  iterate_start code x v s low b a e = record {
    m = b.m;
    g = b.g;
    serving = serving_begin code v l i (l.iterations - i) M W b.m b.g s.coded b.stands (omega (arith, low)) b.result a
        (record { size = e; most = omega arith });
    here = refl;
    kept = b.kept;
    over = sym (ap (λ (t : Table). t.over) (during_fresh b.g i b.fresh) ∙ swept_over b.g i);
  }

  -- its stage is in the list, and the next comes
  next_begins : (o : ℕ) → i < l.iterations → After l i M W R L o → Before l (suc i) M W R (set L i (o + 1))
  next_begins o b a =
      let fresh = a.stands.upto (suc i) (omega arith) in
      let e : o + 1 ≡ suc (during a.g i).over = omega (arith, a.over) in
      record {
        m = a.m;
        g = a.g;
        stands = serially_next l i (suc i) M W a.m a.g (omega arith) a.stands;
        kept = rw (e, during_end a.g i fresh)
            (kept_close l.size l.iterations i R L (during a.g i) a.kept (during_small a.g i).last b);
        fresh = fresh;
        result = a.result;
      }

  pub iterate_end : (o : ℕ) → i < l.iterations → After l i M W R L o → Before l (i + 1) M W R (set L i (o + 1))
  iterate_end o b a = subst (λ (n : ℕ). Before l n M W R (set L i (o + 1))) (sym (add-one i)) (next_begins o b a)

  -- what an iteration has to come after is at most its index
  pub after_small : (o : ℕ) → After l i M W R L o → o ≤ i
  after_small o a = omega (arith, a.over, (during_small a.g i).over)

-- ---- the highest so far

pub highest_next : (L : List ℕ) (i x : ℕ) → i < length L → greatest (i + 1) (stage_in (set L i x)) ≡ max (greatest i (stage_in L)) x
unfolding greatest
highest_next L i x b = rw (add-one i) (rw (get_or-set_same L i x 0 b, below i (omega arith)))
  where
    below : (k : ℕ) → k ≤ i → greatest k (stage_in (set L i x)) ≡ greatest k (stage_in L)
    below zero h = unfold greatest in refl
    below (suc k) h = unfold greatest in rw (below k (omega arith), get_or-set_other L i k x 0 (omega arith))

-- ---- the end

pub sweep_end : (l : Loop) (M : List ℤ) (W R L : List ℕ) (r i : ℕ) → i ≡ l.iterations → Before l i M W R L → r ≡ greatest i (stage_in L) → Planned l L r
unfolding from stage_count
sweep_end l M W R L r i q b e =
    let n = l.iterations in
    let z : n - i ≡ 0 = omega arith in
    let log : (serial l).log ≡ b.g = ap (λ (x : Result). x.log) (b.result ∙ ap (λ (k : ℕ). from l k i b.m b.g) z) in
    let at : (j : ℕ) → j < n → stage_in L j ≡ stage (serial l).log j
    = (λ j y. b.kept.stages j (omega arith) ∙ ap (λ (t : _). t.stages j) (during_fresh b.g i b.fresh)
    ∙ swept_stages b.g i j (omega arith) ∙ ap (λ (g : Log). stage g j) (sym log)) in
    record {
      stages = ext_get_or 0 L (listed n (stage (serial l).log)) (b.kept.numbers ∙ sym (listed_length n (stage (serial l).log)))
          (λ j y. let y' : j < n = omega (arith, y, b.kept.numbers) in at j y' ∙ sym (listed_at n (stage (serial l).log) j 0 y'));
      number = e ∙ ap (λ (k : ℕ). greatest k (stage_in L)) q ∙ greatest_same n (stage_in L) (stage (serial l).log) at;
    }
