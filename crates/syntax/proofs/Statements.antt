-- The statements of an accepted text, closed and open, are sane: each stands on a line whose names and numbers are in order.
use mathlib.Core.Path.{◌≡◌, refl, ◌∙◌, ap}
use mathlib.Core.Bool.{Bool, true, ◌&&◌}
use mathlib.Core.List.{List}
use mathlib.Core.Option.{Option, none, some}
use Prim.Native.Nat.{ℕ}
use Rattle.int32.specs.declared.Relation.{Relation}
use Rattle.syntax.specs.Bytes.{all}
use Rattle.syntax.specs.Grammar.{Expr, Ref, Statement, assign, when, otherwise, end_if, inside}
use Rattle.syntax.specs.Known.{Entry, State, Stmts, stop, set, if_then, if_else, then_do, Open, branched, closed, turned}
use Rattle.syntax.specs.Conditions.{mentions, in_ref, in_line, rightly, singly, names, small, bounds, limits}
use Rattle.syntax.specs.Sane.{scope, SaneLine, SaneStmts, SaneFirst, SaneOpen}
use Rattle.syntax.proofs.Spelling.{both_true}
use Rattle.syntax.proofs.TestLaws.{all_parts}

singly_scope : (s : State) (l : Statement) → singly (scope s.table s.variable) (inside l) ≡ singly s (inside l)
singly_scope s (assign r e) = refl
singly_scope s (when a r b) = refl
singly_scope s otherwise = refl
singly_scope s (end_if j) = refl

pub names_scope : (s : State) (l : Statement) → names (scope s.table s.variable) (inside l) ≡ names s (inside l)
unfolding names
names_scope s l = ap (λ (b : Bool). all (rightly s.table s.variable) (in_line (inside l)) && b) (singly_scope s l)

pub line_sane : (s : State) (l : Statement) → names s (inside l) ≡ true → limits s (inside l) ≡ true → SaneLine s.table s.variable l
unfolding limits
line_sane s l n k = record { named = names_scope s l ∙ n; bounded = (both_true _ (bounds s (inside l)) k).0 }

module _ (t : List Entry) (v : List ℕ) where
  -- ---- what a statement's line says of its parts

  module _ (r : Ref) (e : Expr) (h : SaneLine t v (assign r e)) where
    pub assign_small : (all small (in_ref 0 r) ≡ true) × (all small (mentions 0 e) ≡ true)
    unfolding in_line
    assign_small = all_parts small (in_ref 0 r) (mentions 0 e) h.bounded

  module _ (a : Expr) (rel : Relation) (b : Expr) (h : SaneLine t v (when a rel b)) where
    pub when_small : (all small (mentions 0 a) ≡ true) × (all small (mentions 0 b) ≡ true)
    unfolding in_line
    when_small = all_parts small (mentions 0 a) (mentions 0 b) h.bounded

  -- ---- statements in one another

  pub then_do_sane : (a b : Stmts) → SaneStmts t v a → SaneStmts t v b → SaneStmts t v (then_do a b)
  unfolding then_do
  then_do_sane stop b h k = k
  then_do_sane (set l r e a) b h k = (h.0, then_do_sane a b h.1 k)
  then_do_sane (if_then l x rel y p a) b h k = (h.0, h.1, then_do_sane a b h.2 k)
  then_do_sane (if_else l x rel y p q a) b h k = (h.0, h.1, h.2, then_do_sane a b h.3 k)

  pub closed_sane : (o : Open) (inner : Stmts) → SaneOpen t v o → SaneStmts t v inner → SaneStmts t v (closed o inner)
  closed_sane o inner h k = then_do_sane o.before (branched o o.first inner) h.before (go o.first h.first)
    where
      go : (f : Option Stmts) → SaneFirst t v f → SaneStmts t v (branched o f inner)
      go none p = (h.condition, k, tt)
      go (some q) p = (h.condition, p, k, tt)

  pub turned_sane : (o : Open) (inner : Stmts) → SaneOpen t v o → SaneStmts t v inner → SaneOpen t v (turned o inner)
  turned_sane o inner h k = record { condition = h.condition; before = h.before; first = k }
