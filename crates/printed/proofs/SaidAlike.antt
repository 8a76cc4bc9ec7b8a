-- Accepted texts that print alike have the same printed program, and so say the same.
use mathlib.Core.Path.{◌≡◌, refl, sym, ◌∙◌, ap, subst}
use mathlib.Core.List.{List, [], ◌∷◌, ◌++◌, map}
use mathlib.Core.Option.{Option, none, some}
use Prim.Native.Nat.{ℕ}
use Rattle.rules.specs.Serial.{Outcome, Result}
use Rattle.rules.specs.Answer.{Answer, Ending}
use Rattle.syntax.specs.Bytes.{Token}
use Rattle.syntax.specs.Grammar.{Line}
use Rattle.syntax.specs.Known.{State, nothing}
use Rattle.syntax.specs.Conditions.{concat}
use Rattle.syntax.specs.Reader.{parse}
use Rattle.syntax.specs.Text.{read, good}
use Rattle.syntax.specs.Follows.{Program, learnt}
use Rattle.syntax.proofs.Complete.{parse_complete}
use Rattle.printed.specs.Form.{plain, kept, formed_line, formed, program, form}
use Rattle.printed.specs.Restated.{short, numbered, restated, SameKnown, SameOutcome, no_fault, one_fault, SameResult, SameAnswer, both_passed, both_rerun, both_faulted, SameEnding}
use Rattle.printed.proofs.ZeroLaws.{show_short}
use Rattle.printed.proofs.Programs.{accepted}
use Rattle.printed.proofs.PrintedAgain.{printed_known, formed_once}

-- ---- the printed lines, read

line_of : Option Line → List Line
line_of none = []
line_of (some l) = l ∷ []

lines_read : List (List Token) → List Line
lines_read ts = concat (λ t. line_of (parse t)) ts

formed_read : (ls : List Line) → lines_read (map formed_line ls) ≡ map (λ l. short (plain l)) ls
unfolding lines_read line_of
formed_read [] = refl
formed_read (l ∷ ls) =
    (λ i. line_of ((ap parse (sym (show_short (plain l))) ∙ parse_complete (short (plain l))) i) ++ formed_read ls i)

restated_alike : (p q : Program) → formed p ≡ formed q → restated p ≡ restated q
restated_alike p q e = ap (numbered 1) (sym (formed_read (kept p)) ∙ ap lines_read e ∙ formed_read (kept q))

-- ---- what is known

-- what both say, as their form does
pub record SaidAlike (u v : State) : Type 0 where
  pub state : State
  pub first : SameKnown u state
  pub second : SameKnown v state

pub said_alike : (s t : List ℕ) (u v : State) → read s ≡ good u → read t ≡ good v → form s ≡ form t → SaidAlike u v
unfolding form
said_alike s t u v h k e =
    let p = program s in
    let q = program t in
    let a = accepted s u h in
    let b = accepted t v k in
    let z = restated_alike q p (sym (formed_once s t p q a.follows b.follows e)) in
    record {
      state = learnt nothing (restated p);
      first = subst (λ (x : State). SameKnown x (learnt nothing (restated p))) a.known (printed_known s p a.follows);
      second =
          subst (λ (x : State). SameKnown x (learnt nothing (restated p))) b.known
          (subst (λ (r : Program). SameKnown (learnt nothing q) (learnt nothing r)) z (printed_known t q b.follows));
    }

-- ---- runs and endings like a third

outcome_both : {x y z : Outcome} → SameOutcome x z → SameOutcome y z → SameOutcome x y
outcome_both no_fault no_fault = no_fault
outcome_both one_fault one_fault = one_fault

pub result_both : {x y z : Result} → SameResult x z → SameResult y z → SameResult x y
result_both a b = record { cells = sym b.cells ∙ a.cells; log = sym b.log ∙ a.log; outcome = outcome_both a.outcome b.outcome }

answer_both : {x y z : Answer} → SameAnswer x z → SameAnswer y z → SameAnswer x y
answer_both both_passed both_passed = both_passed
answer_both both_rerun both_rerun = both_rerun
answer_both both_faulted both_faulted = both_faulted

pub ending_both : {e f g : Ending} → SameEnding e g → SameEnding f g → SameEnding e f
ending_both a b = record { answer = answer_both a.answer b.answer; cells = sym b.cells ∙ a.cells }
