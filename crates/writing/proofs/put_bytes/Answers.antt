-- `writing::put_bytes` meets its contract: the first bytes are written, and the others are left.
use mathlib.Core.Path.{◌≡◌, ◌∙◌, ap}
use mathlib.Core.List.{[], ◌∷◌}
use Prim.Native.Nat.{ℕ, suc, ◌+◌}
use native.Mathlib.Omega.{arith}
use lib.ListN.{get_or, drop, drop_of_length-le, length-drop}
use lib.Seq.{drop-cons}
use Rattle.writing.proofs.Writing.{writes_length, along_none, along_more, along_all, along_fits}
use Rattle.writing.proofs.put_bytes.Goals as goal

pub loop-b-init : goal.loop-b-init
loop-b-init c = along_none _ _ _

pub put-p-requires : goal.put-p-requires
put-p-requires c =
    let l = c.loop-b in
    omega (arith, along_fits c.requires l.invariant, length-drop l.b-index c.args.s.now)

pub loop-b-preserved : goal.loop-b-preserved
loop-b-preserved c =
    let l = c.loop-b in
    let s = c.args.s.now in
    let e : suc l.b-index ≡ l.b-index + 1 = omega arith in
    let f = drop-cons s l.b-index 0 (omega arith) ∙ ap (λ (n : ℕ). get_or s l.b-index 0 ∷ drop n s) e in
    along_more (get_or s l.b-index 0 ∷ []) (drop (l.b-index + 1) s) f l.invariant c.put-p.ensures

pub shape_of-out : goal.shape_of-out
shape_of-out c = writes_length c.loop-b.invariant.writes

pub returns : goal.returns
returns c =
    let l = c.loop-b in
    along_all (drop_of_length-le c.args.s.now {i = l.b-index} (omega arith)) l.invariant
