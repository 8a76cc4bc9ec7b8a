-- RULES 9.1 a, 9.2 and 10 (document 01, Services and answers): "Returned: number, line, value of v", for each answer.
use Rattle.std.specs.Prelude.{ℕ, pos, Result, Ok, Err}
use Rattle.rules.specs.Numbers.{class_number}
use Rattle.rules.specs.declared.Grouping.{Grouping}
use Rattle.rules.specs.declared.Grouping.TheVariants.{Iterations, Blocks}
use Rattle.answers.specs.declared.Bounds.{Bounds}
use Rattle.answers.specs.declared.Failure.{Failure}
use Rattle.answers.specs.declared.Failure.TheVariants.{Refused, Faulted}
use Rattle.answers.specs.declared.Located.{Located}
use Rattle.answers.specs.declared.Ran.{Ran}
use Rattle.answers.specs.declared.Ran.TheVariants.{Passed, Rerun}
use Rattle.answers.specs.declared.Refusal.{Refusal}
use Rattle.answers.specs.declared.Sizes.{Sizes}
use Rattle.exports.specs.declared.BoundsAnswer.{BoundsAnswer}
use Rattle.exports.specs.declared.CheckAnswer.{CheckAnswer}
use Rattle.exports.specs.declared.DoneAnswer.{DoneAnswer}
use Rattle.exports.specs.declared.NameAnswer.{NameAnswer}
use Rattle.exports.specs.declared.PlanAnswer.{PlanAnswer}
use Rattle.exports.specs.declared.PrintAnswer.{PrintAnswer}
use Rattle.exports.specs.declared.RunAnswer.{RunAnswer}

unfoldable pub check_numbers : Result Sizes Refusal → CheckAnswer
check_numbers (Ok s) = record { number = 0; line = 0; v = pos 0; cells = s.cells; processors = s.processors }
check_numbers (Err e) = record { number = e.number; line = e.line; v = pos 0; cells = 0; processors = 0 }

-- whether the test is by blocks
abbrev pub by_blocks : Grouping → ℕ
by_blocks Iterations = 0
by_blocks Blocks = 1

unfoldable pub bounds_numbers : Result Bounds Refusal → BoundsAnswer
bounds_numbers (Ok b) = record { number = 0; line = 0; v = pos 0; from = b.from; iterations = b.iterations; blocks = by_blocks b.grouping }
bounds_numbers (Err e) = record { number = e.number; line = e.line; v = pos 0; from = pos 0; iterations = 0; blocks = 0 }

unfoldable pub name_numbers : Result Located Refusal → NameAnswer
name_numbers (Ok l) = record {
  number = 0;
  line = 0;
  v = pos 0;
  first = l.first;
  cells = l.count;
  subscripts = l.subscripts;
  clause = class_number l.class;
  rows = l.rows;
  columns = l.columns;
}
name_numbers (Err e) = record { number = e.number; line = e.line; v = pos 0; first = 0; cells = 0; subscripts = 0; clause = 0; rows = 0; columns = 0 }

unfoldable pub done_numbers : Result Unit Refusal → DoneAnswer
done_numbers (Ok u) = record { number = 0; line = 0; v = pos 0 }
done_numbers (Err e) = record { number = e.number; line = e.line; v = pos 0 }

unfoldable pub run_numbers : Result Ran Failure → RunAnswer
run_numbers (Ok (Passed c)) = record { number = 0; line = 0; v = pos 0; rerun = 0; pairs = c.pairs; cells = c.cells }
run_numbers (Ok (Rerun c)) = record { number = 0; line = 0; v = pos 0; rerun = 1; pairs = c.pairs; cells = c.cells }
run_numbers (Err (Faulted f)) = record { number = f.number; line = f.line; v = f.v; rerun = 0; pairs = 0; cells = 0 }
run_numbers (Err (Refused e)) = record { number = e.number; line = e.line; v = pos 0; rerun = 0; pairs = 0; cells = 0 }

-- document 02, Point 7: "the number of stages"
unfoldable pub plan_numbers : Result ℕ Failure → PlanAnswer
plan_numbers (Ok k) = record { number = 0; line = 0; v = pos 0; stages = k }
plan_numbers (Err (Faulted f)) = record { number = f.number; line = f.line; v = f.v; stages = 0 }
plan_numbers (Err (Refused e)) = record { number = e.number; line = e.line; v = pos 0; stages = 0 }

-- document 02, Point 8: "The answer is the length"
unfoldable pub print_numbers : Result ℕ Refusal → PrintAnswer
print_numbers (Ok n) = record { number = 0; line = 0; v = pos 0; length = n }
print_numbers (Err e) = record { number = e.number; line = e.line; v = pos 0; length = 0 }
