-- `alike::alike` meets its contract: what was passed of both runs of tokens is the same.
use mathlib.Core.Path.{sym, ◌∙◌, subst}
use Prim.Native.Nat.{ℕ}
use native.Mathlib.Omega.{arith}
use borrow.Author.Tests.{leb-true, leb-false}
use Rattle.std.proofs.Common.{Bor}
use mathlib.Core.List.{List}
use Rattle.lexer.specs.Lex.{Lexed}
use Rattle.alike.proofs.Tokens.{Walked, walk_on, walk_differs, walk_short, walk_ends}
use Rattle.alike.proofs.alike.Goals as goal

pub returns-then-to-right : goal.returns-then-to-right
returns-then-to-right c =
    walk_short c.args.s.now c.args.n c.args.from c.args.to c.loop-left.left.at c.loop-left.right.at c.requires.0 c.requires.2
    c.loop-left.invariant.4 c.loop-left-test.true c.if-to-right.true

pub returns-then-not-same_token : goal.returns-then-not-same_token
returns-then-not-same_token c =
    let l = c.loop-left in
    walk_differs c.args.s.now c.args.n c.args.from c.args.to l.left.at l.right.at c.requires.0 c.requires.2 l.invariant.4
    (subst (λ (x : Bor (List ℕ)). Lexed x.now l.left.at c.take-t.result) l.invariant.0 c.take-t.ensures.lexed)
    (subst (λ (x : Bor (List ℕ)). Lexed x.now l.right.at c.take-u.result) l.invariant.1 c.take-u.ensures.lexed)
    (omega arith) (omega arith) c.same_token.ensures c.if-not-same_token.true

pub loop-left-preserved : goal.loop-left-preserved
loop-left-preserved c =
    let l = c.loop-left in
    let t = subst (λ (x : Bor (List ℕ)). Lexed x.now l.left.at c.take-t.result) l.invariant.0 c.take-t.ensures.lexed in
    let u = subst (λ (x : Bor (List ℕ)). Lexed x.now l.right.at c.take-u.result) l.invariant.1 c.take-u.ensures.lexed in (
      c.take-t.ensures.moved.0 ∙ l.invariant.0,
      c.take-u.ensures.moved.0 ∙ l.invariant.1,
      omega (arith, c.take-t.ensures.moved.1, t.within),
      omega (arith, c.take-u.ensures.moved.1, u.within),
      subst (λ (i : ℕ). Walked c.args.s.now c.args.n c.args.from c.args.to i c.take-u.new.self.at) (sym c.take-t.ensures.moved.1)
          (subst (λ (j : ℕ). Walked c.args.s.now c.args.n c.args.from c.args.to c.take-t.result.stop j) (sym c.take-u.ensures.moved.1)
          (walk_on c.args.s.now c.args.n c.args.from c.args.to l.left.at l.right.at c.requires.0 c.requires.2 l.invariant.4 t u (omega arith) (omega arith)
          c.same_token.ensures c.if-not-same_token.false)),
    )

pub returns : goal.returns
returns c =
    walk_ends c.args.s.now c.args.n c.args.from
    c.args.to c.loop-left.left.at c.loop-left.right.at c.requires.0
    c.requires.2 c.loop-left.invariant.4 c.loop-left-test.false _ (leb-true _ _) (leb-false _ _)
