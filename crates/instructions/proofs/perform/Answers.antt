-- `instructions::perform` meets its contract: each arm performs the instruction of its number.
use mathlib.Core.Path.{◌≡◌, refl, sym, subst}
use Prim.Native.Nat.{◌%◌, ◌≤◌}
use borrow.Author.Rules.{rules}
use mir.Syntax.{w32}
use mir.Val.{to_z, of_z}
use Rattle.int32.specs.Integers.{value, sum, difference, product, larger, quotient, rdiv}
use Rattle.int32.proofs.Laws.{landed, value_fits}
use Rattle.code.specs.Instr.{Instr, perform}
use Rattle.operands.specs.Performing.{left, does, Performs}
use Rattle.operands.specs.declared.Move.TheVariants.{Write, Update}
use Rattle.operands.proofs.Performing.{ends}
use Rattle.instructions.proofs.Decoding.{past_all, performs_as, decode_last}
use Rattle.instructions.proofs.perform.Goals as goal

pub returns-in-0 : goal.returns-in-0
unfolding perform
returns-in-0 c =
    let a = c.args in
    let e : to_z w32 (of_z w32 c.of_word.result) ≡ value a.arg = landed c.of_word.ensures
    (value_fits a.arg c.ranges.arg.fits) in
    performs_as 0 _ _ _ _ _ _ _ c.in-0.is (rw e at c.push.ensures)

pub returns-in-1 : goal.returns-in-1
unfolding perform
returns-in-1 c =
    let a = c.args in
    let e : to_z w32 (of_z w32 a.v) ≡ a.v = search rules in
    performs_as 1 _ _ _ _ _ _ _ c.in-1.is (rw e at c.push-in-1.ensures)

pub returns-in-2 : goal.returns-in-2
returns-in-2 c = performs_as 2 _ _ _ _ _ _ _ c.in-2.is (c.load.ensures c.args.pending.now c.args.v c.requires.0.size)

pub returns-in-3 : goal.returns-in-3
returns-in-3 c = performs_as 3 _ _ _ _ _ _ _ c.in-3.is (c.load_at.ensures c.args.v)

pub returns-in-4 : goal.returns-in-4
unfolding perform
returns-in-4 c = performs_as 4 _ _ _ _ _ _ _ c.in-4.is (c.compute.ensures sum (λ x y f g r h. h))

pub returns-in-5 : goal.returns-in-5
unfolding perform
returns-in-5 c = performs_as 5 _ _ _ _ _ _ _ c.in-5.is (c.compute-in-5.ensures difference (λ x y f g r h. h))

pub returns-in-6 : goal.returns-in-6
unfolding perform
returns-in-6 c = performs_as 6 _ _ _ _ _ _ _ c.in-6.is (c.compute-in-6.ensures product (λ x y f g r h. h))

pub returns-in-7 : goal.returns-in-7
returns-in-7 c = performs_as 7 _ _ _ _ _ _ _ c.in-7.is (c.negate.ensures c.args.v)

pub returns-in-8 : goal.returns-in-8
unfolding perform
returns-in-8 c = performs_as 8 _ _ _ _ _ _ _ c.in-8.is (c.divide.ensures quotient (λ x y f g r h. h))

pub returns-in-9 : goal.returns-in-9
unfolding perform
returns-in-9 c = performs_as 9 _ _ _ _ _ _ _ c.in-9.is (c.divide-in-9.ensures rdiv (λ x y f g r h. h))

pub returns-in-10 : goal.returns-in-10
unfolding perform left
returns-in-10 c = performs_as 10 _ _ _ _ _ _ _ c.in-10.is (c.change_cell.ensures Write (λ x f r h. search rules))

pub returns-in-11 : goal.returns-in-11
returns-in-11 c = performs_as 11 _ _ _ _ _ _ _ c.in-11.is (c.store_at.ensures c.args.v)

pub returns-in-12 : goal.returns-in-12
returns-in-12 c = performs_as 12 _ _ _ _ _ _ _ c.in-12.is (c.check.ensures c.args.v)

pub returns-in-13 : goal.returns-in-13
unfolding perform left
returns-in-13 c = performs_as 13 _ _ _ _ _ _ _ c.in-13.is (c.change_cell-in-13.ensures Update (λ x f r h. search rules))

pub returns-in-14 : goal.returns-in-14
returns-in-14 c = performs_as 14 _ _ _ _ _ _ _ c.in-14.is (c.update_at.ensures c.args.v)

pub returns-in-15 : goal.returns-in-15
returns-in-15 c = performs_as 15 _ _ _ _ _ _ _ c.in-15.is (c.jump_unless.ensures c.args.v)

pub returns-in-16 : goal.returns-in-16
returns-in-16 c = performs_as 16 _ _ _ _ _ _ _ c.in-16.is (c.jump.ensures c.args.pending.now c.args.v c.requires.0.size)

pub returns-in-17 : goal.returns-in-17
unfolding perform
returns-in-17 c = performs_as 17 _ _ _ _ _ _ _ c.in-17.is (c.compute-in-17.ensures larger (λ x y f g r h. h))

pub returns-in-18 : goal.returns-in-18
returns-in-18 c = performs_as 18 _ _ _ _ _ _ _ c.in-18.is (c.flatten.ensures c.args.v)

pub returns-in_default : goal.returns-in_default
unfolding perform
returns-in_default c =
    let a = c.args in
    let p = c.requires in
    let k : 19 ≤ a.word % 32 = past_all 19 (a.word % 32) c.in_default.in_default-own.rest in
    subst (λ (i : Instr). Performs (does i a.place a.depth a.pending.now a.v) a.place a.pending.now c.stop.result) (sym (decode_last a.word a.arg k))
    (ends (does Instr.end a.place a.depth a.pending.now a.v) _ _ _ p.0.size p.0.most c.stop.ensures (λ go. refl))
