-- A trial that passed shares its accesses, its cells and its counts with the serial run.
use mathlib.Core.Path.{◌≡◌, refl, sym, ◌∙◌, ap, fun_ext}
use mathlib.Core.List.{List, []}
use mathlib.Core.Bool.{Bool, true, false, cond}
use mathlib.Core.Option.{Option, get_or}
use Prim.Native.Nat.{ℕ, suc}
use native.Mathlib.Omega.{arith}
use lib.IntN.{ℤ}
use Rattle.rules.specs.Operation.{Operation, Lawful, operation}
use Rattle.rules.specs.declared.Class.{Class}
use Rattle.rules.specs.declared.Class.TheVariants.{Shared as shared, Lastprivate as lastprivate, Copied as copied, Reduction as reduction}
use Rattle.rules.specs.Loop.{Reduces, operator, Loop, joining, Partition}
use Rattle.rules.specs.Log.{Log, writes, updates, Has, a_write, each}
use Rattle.rules.specs.LogLaws.{has_only}
use Rattle.rules.proofs.Job.{Job, span_none}
use Rattle.rules.specs.Steps.{latest, trial}
use Rattle.rules.proofs.Isolated.{finish}
use Rattle.rules.proofs.Runs.{Clean, agree_of_clean, log_of_clean}
use Rattle.rules.specs.Proper.{Proper}
use Rattle.rules.specs.Serial.{serial}
use Rattle.rules.proofs.TrialRun.{trial_holds}
use Rattle.rules.proofs.SerialRun.{serial_ends, updated_is_reduction, replay}
use Rattle.rules.specs.Merge.{highest, updated, total, gathered, last_value, merged_as, merged, pairs, written_cells}
use Rattle.rules.proofs.OperationLaws.{lawful}
use Rattle.rules.proofs.ObstacleLaws.{obstacle_of_mixed}
use Rattle.rules.proofs.SumLaws.{Within, join_same, total_iterations, total_gathered}
use Rattle.rules.proofs.MergeRun.{highest_written, sorted_climbs, free_climbs, replay_updated, replay_plain}
use Rattle.rules.proofs.TouchLaws.{updated_has, has_updated, same_updated, same_pairs, same_written_cells}
use Rattle.rules.specs.Answer.{TrialPasses}
use Rattle.rules.proofs.Order.{passes, same_accesses, same_each, clean_of_trial, serial_done}

module _ (l : Loop) (δ : Partition) (h : Proper l δ) (ps : List ℕ) (t : TrialPasses l δ ps) where
  open serial_ends l δ h use {work, status, memory, sorted, in_order, within}

  clean : Clean l δ
  clean = clean_of_trial l δ h ps t

  same : (i : ℕ) → each i (trial l δ ps).log ≡ each i (serial l).log
  same = same_each l δ h ps t

  within_trial : Within (λ j. j) l.iterations (trial l δ ps).log
  within_trial j b = same j ∙ within j b

  -- no group from the last on has an access
  groups_within : Within δ.group δ.groups (serial l).log
  unfolding finish
  groups_within j b = log_of_clean l δ (serial l).log work clean status (serial_done l δ h clean).1 j
      ∙ ap (λ (a : Job). (finish l a []).0) (span_none l (δ.cut j) (δ.cut (suc j)) (omega (arith, h.cut_last j b, h.cut_last (suc j) (omega arith))))

  module _ (c : ℕ) where
    value : Option ℤ → ℤ
    value o = get_or o (l.entry c)

    same_last : last_value l c (trial l δ ps).log ≡ last_value l c (serial l).log
    same_last = ap (λ (f : ℕ → Log). get_or (highest f c l.iterations) (l.entry c)) (fun_ext same)

    serial_last : last_value l c (serial l).log ≡ latest l c (serial l).log
    unfolding value
    serial_last = ap value (sym (highest_written (λ j. j) c l.iterations (sorted_climbs (λ j. j) c in_order) within))

    -- for any lawful operation
    same_result : (o : Operation) → Lawful o → gathered o δ c (trial l δ ps).log ≡ total o c (serial l).log
    same_result o w =
        sym (total_gathered l δ h o w c (trial l δ ps).log within_trial)
        ∙ total_iterations o w l.iterations c (trial l δ ps).log within_trial
        ∙ join_same o l.iterations (λ i. total o c (each i (trial l δ ps).log)) (λ i. total o c (each i (serial l).log))
        (λ i b. ap (total o c) (same i))
        ∙ sym (total_iterations o w l.iterations c (serial l).log within)

    serial_updated : Has updates c (serial l).log → Reduces (l.class c)
    serial_updated u =
        let r = has_only δ.group u in
        updated_is_reduction l δ h (serial l).log work (agree_of_clean l δ (serial l).log work clean status) c r.0 r.1

    not_mixed : ¬ (Has writes c (serial l).log × Has updates c (serial l).log)
    not_mixed (w, u) =
        let a = has_only δ.group w in
        let b = has_only δ.group u in
        ((passes l δ h ps).0 t).free (c, obstacle_of_mixed (l.class c) (serial_updated u) (b.0, a.0, b.1, a_write a.1))

    plain : ¬ Reduces (l.class c) → replay l c (serial l).log ≡ latest l c (serial l).log
    plain n = replay_plain l c (serial l).log (λ u. n (serial_updated u))

    -- by groups, the last value written to a shared cell is the same in both
    same_latest : l.class c ≡ shared → latest l c (trial l δ ps).log ≡ latest l c (serial l).log
    unfolding value
    same_latest e =
        ap value
        (highest_written δ.group c δ.groups (free_climbs δ.group c (trial l δ ps).log (λ o. t.free (c, rw e o)))
        (λ j b. same_accesses l δ h ps t j ∙ groups_within j b))
        ∙ ap (λ (f : ℕ → Log). get_or (highest f c δ.groups) (l.entry c)) (fun_ext (same_accesses l δ h ps t))
        ∙ sym (ap value (highest_written δ.group c δ.groups (sorted_climbs δ.group c sorted) groups_within))

    merged_is : (k : Class) → l.class c ≡ k → merged_as l δ k (trial l δ ps) c ≡ replay l c (serial l).log
    merged_is shared e = (trial_holds l δ h ps).memory c e ∙ same_latest e ∙ sym (plain (λ r. rw e at r))
    merged_is lastprivate e = same_last ∙ serial_last ∙ sym (plain (λ r. rw e at r))
    merged_is copied e = same_last ∙ serial_last ∙ sym (plain (λ r. rw e at r))
    merged_is (reduction o) e = rw (same_updated (trial l δ ps).log (serial l).log same c) (go (updated c (serial l).log) refl)
      where
        go : (b : Bool) → updated c (serial l).log ≡ b
            → cond b ((operation o).join (last_value l c (trial l δ ps).log) (gathered (operation o) δ c (trial l δ ps).log))
            (last_value l c (trial l δ ps).log)
            ≡ replay l c (serial l).log
        go true q =
            let u = updated_has c (serial l).log q in
            let z : joining l c ≡ operation o = ap (λ (k : Class). operation (operator k)) e in
            cc (same_last, serial_last, same_result (operation o) (lawful o), replay_updated l c (serial l).log (λ w. not_mixed (w, u)) u)
        go false q =
            same_last ∙ serial_last
            ∙ sym (replay_plain l c (serial l).log (λ u. let p = has_updated u in let z : ◌≡◌ {A = ℕ} 0 1 = cc in omega arith))

    pub same_cell : merged l δ (trial l δ ps) c ≡ (serial l).cells c
    unfolding merged
    same_cell = merged_is (l.class c) refl ∙ sym (memory c)

-- what a trial that passed shares with the serial run
pub record Same (l : Loop) (δ : Partition) (ps : List ℕ) : Type 0 where
  pub accesses : (i : ℕ) → each i (trial l δ ps).log ≡ each i (serial l).log
  pub cells : (c : ℕ) → merged l δ (trial l δ ps) c ≡ (serial l).cells c
  pub pair_count : pairs l (trial l δ ps).log ≡ pairs l (serial l).log
  pub cell_count : written_cells l (trial l δ ps).log ≡ written_cells l (serial l).log

pub same_of_passed : (l : Loop) (δ : Partition) → Proper l δ → (ps : List ℕ) → TrialPasses l δ ps → Same l δ ps
same_of_passed l δ h ps t = record {
  accesses = same_each l δ h ps t;
  cells = same_cell l δ h ps t;
  pair_count = same_pairs l (trial l δ ps).log (serial l).log (same_each l δ h ps t);
  cell_count = same_written_cells l (trial l δ ps).log (serial l).log (same_each l δ h ps t);
}
