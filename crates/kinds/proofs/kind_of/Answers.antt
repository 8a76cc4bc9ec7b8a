-- `kinds::kind_of` meets its contract.
use mathlib.Core.Path.{refl, ◌∙◌}
use Rattle.kinds.proofs.Starts.{said, seen, starts_integer, starts_data, starts_directive, starts_do, starts_if, starts_else, starts_end, starts_endif, starts_enddo, starts_other}
use Rattle.lexer.proofs.PlaceLaws.{taken_next, taken_within}
use Rattle.kinds.proofs.kind_of.Goals as goal

pub returns-then-reads : goal.returns-then-reads
returns-then-reads c =
    starts_integer c.args.s.now (said c.args.s.now 0 _ c.take-t.ensures.lexed "integer" _ c.reads.ensures refl ∙ c.if-reads.true)

pub returns-then-reads-2 : goal.returns-then-reads-2
returns-then-reads-2 c =
    starts_data c.args.s.now (said c.args.s.now 0 _ c.take-t.ensures.lexed "integer" _ c.reads.ensures refl ∙ c.if-reads.false)
    (said c.args.s.now 0 _ c.take-t.ensures.lexed "data" _ c.reads-else-reads.ensures refl ∙ c.if-reads-2.true)

pub directive_kind-requires : goal.directive_kind-requires
directive_kind-requires c =
    taken_within c.take-t.ensures.lexed c.take-t.ensures.moved.1

pub returns-then-reads-3 : goal.returns-then-reads-3
returns-then-reads-3 c =
    starts_directive c.args.s.now _ (c.directive_kind.ensures (taken_next c.take-t.ensures.lexed c.take-t.ensures.moved.1))
    (said c.args.s.now 0 _ c.take-t.ensures.lexed "integer" _ c.reads.ensures refl ∙ c.if-reads.false)
    (said c.args.s.now 0 _ c.take-t.ensures.lexed "data" _ c.reads-else-reads.ensures refl ∙ c.if-reads-2.false)
    (seen c.args.s.now 0 _ c.take-t.ensures.lexed "!$omp" _ c.reads-else-reads-2.ensures refl ∙ c.if-reads-3.true)

pub returns-then-reads-4 : goal.returns-then-reads-4
returns-then-reads-4 c =
    starts_do c.args.s.now (said c.args.s.now 0 _ c.take-t.ensures.lexed "integer" _ c.reads.ensures refl ∙ c.if-reads.false)
    (said c.args.s.now 0 _ c.take-t.ensures.lexed "data" _ c.reads-else-reads.ensures refl ∙ c.if-reads-2.false)
    (seen c.args.s.now 0 _ c.take-t.ensures.lexed "!$omp" _ c.reads-else-reads-2.ensures refl ∙ c.if-reads-3.false)
    (said c.args.s.now 0 _ c.take-t.ensures.lexed "do" _ c.reads-else-reads-3.ensures refl ∙ c.if-reads-4.true)

pub returns-then-reads-5 : goal.returns-then-reads-5
returns-then-reads-5 c =
    starts_if c.args.s.now (said c.args.s.now 0 _ c.take-t.ensures.lexed "integer" _ c.reads.ensures refl ∙ c.if-reads.false)
    (said c.args.s.now 0 _ c.take-t.ensures.lexed "data" _ c.reads-else-reads.ensures refl ∙ c.if-reads-2.false)
    (seen c.args.s.now 0 _ c.take-t.ensures.lexed "!$omp" _ c.reads-else-reads-2.ensures refl ∙ c.if-reads-3.false)
    (said c.args.s.now 0 _ c.take-t.ensures.lexed "do" _ c.reads-else-reads-3.ensures refl ∙ c.if-reads-4.false)
    (said c.args.s.now 0 _ c.take-t.ensures.lexed "if" _ c.reads-else-reads-4.ensures refl ∙ c.if-reads-5.true)

pub returns-then-reads-6 : goal.returns-then-reads-6
returns-then-reads-6 c =
    starts_else c.args.s.now _ (taken_next c.take-t.ensures.lexed c.take-t.ensures.moved.1)
    (taken_within c.take-t.ensures.lexed c.take-t.ensures.moved.1)
    (said c.args.s.now 0 _ c.take-t.ensures.lexed "integer" _ c.reads.ensures refl ∙ c.if-reads.false)
    (said c.args.s.now 0 _ c.take-t.ensures.lexed "data" _ c.reads-else-reads.ensures refl ∙ c.if-reads-2.false)
    (seen c.args.s.now 0 _ c.take-t.ensures.lexed "!$omp" _ c.reads-else-reads-2.ensures refl ∙ c.if-reads-3.false)
    (said c.args.s.now 0 _ c.take-t.ensures.lexed "do" _ c.reads-else-reads-3.ensures refl ∙ c.if-reads-4.false)
    (said c.args.s.now 0 _ c.take-t.ensures.lexed "if" _ c.reads-else-reads-4.ensures refl ∙ c.if-reads-5.false)
    (said c.args.s.now 0 _ c.take-t.ensures.lexed "else" _ c.reads-else-reads-5.ensures refl ∙ c.if-reads-6.true)

pub end_kind-requires : goal.end_kind-requires
end_kind-requires c =
    taken_within c.take-t.ensures.lexed c.take-t.ensures.moved.1

pub returns-then-reads-7 : goal.returns-then-reads-7
returns-then-reads-7 c =
    starts_end c.args.s.now _ (c.end_kind.ensures (taken_next c.take-t.ensures.lexed c.take-t.ensures.moved.1))
    (said c.args.s.now 0 _ c.take-t.ensures.lexed "integer" _ c.reads.ensures refl ∙ c.if-reads.false)
    (said c.args.s.now 0 _ c.take-t.ensures.lexed "data" _ c.reads-else-reads.ensures refl ∙ c.if-reads-2.false)
    (seen c.args.s.now 0 _ c.take-t.ensures.lexed "!$omp" _ c.reads-else-reads-2.ensures refl ∙ c.if-reads-3.false)
    (said c.args.s.now 0 _ c.take-t.ensures.lexed "do" _ c.reads-else-reads-3.ensures refl ∙ c.if-reads-4.false)
    (said c.args.s.now 0 _ c.take-t.ensures.lexed "if" _ c.reads-else-reads-4.ensures refl ∙ c.if-reads-5.false)
    (said c.args.s.now 0 _ c.take-t.ensures.lexed "else" _ c.reads-else-reads-5.ensures refl ∙ c.if-reads-6.false)
    (said c.args.s.now 0 _ c.take-t.ensures.lexed "end" _ c.reads-else-reads-6.ensures refl ∙ c.if-reads-7.true)

pub returns-then-reads-8 : goal.returns-then-reads-8
returns-then-reads-8 c =
    starts_endif c.args.s.now _ (taken_next c.take-t.ensures.lexed c.take-t.ensures.moved.1)
    (taken_within c.take-t.ensures.lexed c.take-t.ensures.moved.1)
    (said c.args.s.now 0 _ c.take-t.ensures.lexed "integer" _ c.reads.ensures refl ∙ c.if-reads.false)
    (said c.args.s.now 0 _ c.take-t.ensures.lexed "data" _ c.reads-else-reads.ensures refl ∙ c.if-reads-2.false)
    (seen c.args.s.now 0 _ c.take-t.ensures.lexed "!$omp" _ c.reads-else-reads-2.ensures refl ∙ c.if-reads-3.false)
    (said c.args.s.now 0 _ c.take-t.ensures.lexed "do" _ c.reads-else-reads-3.ensures refl ∙ c.if-reads-4.false)
    (said c.args.s.now 0 _ c.take-t.ensures.lexed "if" _ c.reads-else-reads-4.ensures refl ∙ c.if-reads-5.false)
    (said c.args.s.now 0 _ c.take-t.ensures.lexed "else" _ c.reads-else-reads-5.ensures refl ∙ c.if-reads-6.false)
    (said c.args.s.now 0 _ c.take-t.ensures.lexed "end" _ c.reads-else-reads-6.ensures refl ∙ c.if-reads-7.false)
    (said c.args.s.now 0 _ c.take-t.ensures.lexed "endif" _ c.reads-else-reads-7.ensures refl ∙ c.if-reads-8.true)

pub returns-then-reads-9 : goal.returns-then-reads-9
returns-then-reads-9 c =
    starts_enddo c.args.s.now _ (taken_next c.take-t.ensures.lexed c.take-t.ensures.moved.1)
    (taken_within c.take-t.ensures.lexed c.take-t.ensures.moved.1)
    (said c.args.s.now 0 _ c.take-t.ensures.lexed "integer" _ c.reads.ensures refl ∙ c.if-reads.false)
    (said c.args.s.now 0 _ c.take-t.ensures.lexed "data" _ c.reads-else-reads.ensures refl ∙ c.if-reads-2.false)
    (seen c.args.s.now 0 _ c.take-t.ensures.lexed "!$omp" _ c.reads-else-reads-2.ensures refl ∙ c.if-reads-3.false)
    (said c.args.s.now 0 _ c.take-t.ensures.lexed "do" _ c.reads-else-reads-3.ensures refl ∙ c.if-reads-4.false)
    (said c.args.s.now 0 _ c.take-t.ensures.lexed "if" _ c.reads-else-reads-4.ensures refl ∙ c.if-reads-5.false)
    (said c.args.s.now 0 _ c.take-t.ensures.lexed "else" _ c.reads-else-reads-5.ensures refl ∙ c.if-reads-6.false)
    (said c.args.s.now 0 _ c.take-t.ensures.lexed "end" _ c.reads-else-reads-6.ensures refl ∙ c.if-reads-7.false)
    (said c.args.s.now 0 _ c.take-t.ensures.lexed "endif" _ c.reads-else-reads-7.ensures refl ∙ c.if-reads-8.false)
    (said c.args.s.now 0 _ c.take-t.ensures.lexed "enddo" _ c.reads-else-reads-8.ensures refl ∙ c.if-reads-9.true)

pub returns-else-reads-9 : goal.returns-else-reads-9
returns-else-reads-9 c =
    starts_other c.args.s.now (said c.args.s.now 0 _ c.take-t.ensures.lexed "integer" _ c.reads.ensures refl ∙ c.if-reads.false)
    (said c.args.s.now 0 _ c.take-t.ensures.lexed "data" _ c.reads-else-reads.ensures refl ∙ c.if-reads-2.false)
    (seen c.args.s.now 0 _ c.take-t.ensures.lexed "!$omp" _ c.reads-else-reads-2.ensures refl ∙ c.if-reads-3.false)
    (said c.args.s.now 0 _ c.take-t.ensures.lexed "do" _ c.reads-else-reads-3.ensures refl ∙ c.if-reads-4.false)
    (said c.args.s.now 0 _ c.take-t.ensures.lexed "if" _ c.reads-else-reads-4.ensures refl ∙ c.if-reads-5.false)
    (said c.args.s.now 0 _ c.take-t.ensures.lexed "else" _ c.reads-else-reads-5.ensures refl ∙ c.if-reads-6.false)
    (said c.args.s.now 0 _ c.take-t.ensures.lexed "end" _ c.reads-else-reads-6.ensures refl ∙ c.if-reads-7.false)
    (said c.args.s.now 0 _ c.take-t.ensures.lexed "endif" _ c.reads-else-reads-7.ensures refl ∙ c.if-reads-8.false)
    (said c.args.s.now 0 _ c.take-t.ensures.lexed "enddo" _ c.reads-else-reads-8.ensures refl ∙ c.if-reads-9.false)
