-- The serial run of a text.
use mathlib.Core.Path.{◌≡◌, refl, sym, ◌∙◌, ap, subst}
use mathlib.Core.List.{List, []}
use Prim.Native.Nat.{ℕ, zero, suc, ◌≤◌, ◌<◌}
use native.Mathlib.Omega.{arith}
use borrow.Author.Tests.{leb-true}
use mir.Syntax.{w32}
use mir.Val.{SFits}
use lib.ListN.{length, get_or, take}
use lib.IntN.{ℤ, pos, ◌+ℤ◌}
use Rattle.std.specs.declared.option.Option.TheVariants.{None, Some}
use Rattle.rules.specs.declared.Class.{Class}
use Rattle.stepping.specs.declared.Fault.{Fault as Stopped}
use Rattle.stepping.proofs.Opened.{by_none, by_some}
use Rattle.rules.specs.Loop.{Loop}
use Rattle.rules.specs.Serial.{finished, failed, serial}
use Rattle.rules.proofs.SerialFault.{Below, serial_below}
use Rattle.syntax.specs.Known.{State}
use Rattle.syntax.specs.Text.{Verdict, refused, good, read}
use Rattle.syntax.specs.Meaning.{loop_of}
use Rattle.syntax.proofs.Sane.{accepted_sane, accepted_finished}
use Rattle.stepping.specs.declared.Point.{Point}
use Rattle.trial.specs.Start.{Starts}
use Rattle.serial.specs.Serving.{CanSerial, outcome_of, IsSerial, RunsSerially}
use Rattle.serial.proofs.Starting.{serials_of}
use Rattle.preparing.specs.declared.Ready.{Ready}
use Rattle.preparing.specs.Prepared.{Readies, RefusesRun}
use Rattle.std.specs.Prelude.{Result, Ok, Err}
use Rattle.answers.specs.declared.Counts.{Counts}
use Rattle.answers.specs.declared.Failure.{Failure}
use Rattle.answers.specs.declared.Failure.TheVariants.{Refused, Faulted}
use Rattle.answers.specs.declared.Fault.{Fault}
use Rattle.answers.specs.declared.Refusal.{Refusal}
use Rattle.answers.specs.Answers.{counted, fault_at, refusal_at, run_number, taken}
use Rattle.answers.specs.Numbers.{refusal, served_numbers}
use Rattle.serving.specs.Serial.{served_by, ServesBy, SerialOf, serial_numbers}
use Rattle.preparing.proofs.Beginning.{fits, begins}

-- ---- the answer's numbers

pub with_numbers : (v : Verdict) (M : List ℤ) (W : List ℕ) (r : Result Counts Failure) (M' : List ℤ) (W' : List ℕ) → SerialOf v M W r M' W'
    → SerialOf v M W r M' W' × (served_numbers r ≡ serial_numbers v M (length W))
unfolding SerialOf serial_numbers served_numbers
with_numbers (refused n k) M W r M' W' h = (h, ap served_numbers h.0)
with_numbers (good s) M W r M' W' h = (h, by_number (run_number s (length M) (length W) []) h)
  where
    by_number : (n : ℕ) → ServesBy s n M W r M' W' → served_numbers r ≡ taken n (served_numbers (served_by s M (serial (loop_of s M)).outcome)) (refusal n 0)
    by_number zero g = ap served_numbers g.answer
    by_number (suc n) g = ap served_numbers g.0

-- ---- by the verdict

module _ (text : List ℕ) (M : List ℤ) (W : List ℕ) where
  by_number : (s : State) (n : ℕ) (r : Result Counts Failure) (M' : List ℤ) (W' : List ℕ) → read text ≡ good s → run_number s (length M) (length W) [] ≡ n
      → ServesBy s n M W r M' W' → SerialOf (read text) M W r M' W'
  unfolding SerialOf
  by_number s n r M' W' e en h = subst (λ (v : Verdict). SerialOf v M W r M' W') (sym e) (subst (λ (k : ℕ). ServesBy s k M W r M' W') (sym en) h)

  pub serial_refused : (e : Refusal) → RefusesRun (read text) (length M) (length W) [] e → SerialOf (read text) M W (Err (Refused e)) M W
  unfolding SerialOf
  serial_refused e h = go (read text) refl h
    where
      by : (s : State) (n : ℕ) → read text ≡ good s → run_number s (length M) (length W) [] ≡ n → (e ≡ refusal_at n 0) × (0 < n)
          → SerialOf (read text) M W (Err (Refused e)) M W
      by s zero q en h = absurd (omega arith)
      by s (suc k) q en h = by_number s (suc k) (Err (Refused e)) M W q en (ap (λ (f : Refusal). Err (Refused f)) h.0, refl, refl)

      go : (v : Verdict) → read text ≡ v → RefusesRun v (length M) (length W) [] e → SerialOf (read text) M W (Err (Refused e)) M W
      go (refused n k) q h =
          subst (λ (v : Verdict). SerialOf v M W (Err (Refused e)) M W) (sym q) (ap (λ (f : Refusal). Err (Refused f)) h.0, refl, refl)
      go (good s) q h = by s (run_number s (length M) (length W) []) q refl h

  module _ (r : Ready) (K : List ℕ) (C : List Class) (a : Readies (read text) (length M) (length W) [] r K C) where
    abbrev s : State
    s = a.state

    abbrev l : Loop
    l = loop_of s M

    abbrev K' : List ℕ
    K' = take r.end K

    starts_now : Starts K' r.setting l M C (length W)
    starts_now = begins text M (length W) [] r K C a

    pub can_serve : CanSerial K' r.setting M C (length W)
    can_serve = (l, serials_of K' r.setting l M C (length W) starts_now)

    pub words_two : 2 ≤ length W
    words_two = omega (arith, (fits text M (length W) [] r K C a).words_are)

    module _ (M' : List ℤ) (W' : List ℕ) (t : Point) (h : RunsSerially K' r.setting M C (length W) M' W' t) where
      is_serial : IsSerial l M' W' t
      is_serial = h l (serials_of K' r.setting l M C (length W) starts_now)

      pub serial_done : t.fault ≡ None → (x y : ℕ) → x ≡ get_or W' 0 0 → y ≡ get_or W' 1 0 → SerialOf (read text) M W (Ok (counted x y)) M' W'
      unfolding outcome_of
      serial_done e x y ex ey =
          let o : (serial l).outcome ≡ finished = sym is_serial.outcome ∙ by_none e _ _ in
          by_number s 0 (Ok (counted x y)) M' W' a.verdict a.fits (record {
            answer = (λ i. Ok (counted ((ex ∙ is_serial.pairs) i) ((ey ∙ is_serial.written) i))) ∙ sym (ap (served_by s M) o);
            cells = is_serial.cells;
            kept = is_serial.kept;
          })

      module _ (f : Stopped) (q : t.fault ≡ Some f) where
        outcome_is : (serial l).outcome ≡ failed f.number f.line t.iteration.0
        unfolding outcome_of
        outcome_is = sym is_serial.outcome ∙ by_some q _ _

        inside : t.iteration.0 < s.count
        unfolding loop_of
        inside = subst (Below l.iterations) outcome_is (serial_below l)

        pub value_fits : (m : ℤ) → m ≡ r.setting.from → (t.iteration.0 ≤ 65535) × SFits w32 (m +ℤ pos t.iteration.0)
        value_fits m em =
            let sane = accepted_sane text s a.verdict in
            let late = leb-true 6 s.stage (accepted_finished text s a.verdict) in
            let loop = sane.loop (omega (arith, late)) in (
              omega (arith, inside, loop.few_iterations),
              subst (λ (m : ℤ). SFits w32 (m +ℤ pos t.iteration.0)) (sym (em ∙ a.prepares.from))
                  (loop.values_fit t.iteration.0 inside),
            )

        pub serial_fault : (v m w : ℤ) → m ≡ r.setting.from → v ≡ m +ℤ pos t.iteration.0 → w ≡ v
            → SerialOf (read text) M W (Err (Faulted (fault_at f.number f.line w))) M' W'
        serial_fault v m w em ev ew = by_number s 0 (Err (Faulted (fault_at f.number f.line w))) M' W' a.verdict a.fits (record {
          answer =
              ap (λ (x : ℤ). Err (Faulted (fault_at f.number f.line x))) (ew ∙ ev ∙ ap (λ (x : ℤ). x +ℤ pos t.iteration.0) (em ∙ a.prepares.from))
              ∙ sym (ap (served_by s M) outcome_is);
          cells = is_serial.cells;
          kept = is_serial.kept;
        })
