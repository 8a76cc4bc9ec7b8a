-- The words stand for the tables of a log: at the start, for those of no access.
use mathlib.Core.Path.{◌≡◌, ◌∙◌, ap}
use mathlib.Core.List.{List, []}
use Prim.Native.Nat.{ℕ, ◌/◌, ◌<◌}
use Rattle.rules.specs.Loop.{Loop, Partition}
use Rattle.rules.specs.Log.{Log}
use Rattle.rules.specs.Owner.{whose}
use Rattle.rules.specs.Numbers.{class_number, class_by}
use Rattle.rules.proofs.NumberLaws.{numbered}
use Rattle.shadow.specs.Tables.{table}
use Rattle.tables.specs.Logged.{Logged}
use Rattle.tables.specs.Layout.{row_at, class_word, class_held}
use Rattle.tables.proofs.Flags.{flags_number}
use Rattle.tables.proofs.Start.{Begun, holds_blank}

module _ (l : Loop) (δ : Partition) where
  -- no access yet
  pub logged_nil : (W : List ℕ) → Begun l.size δ.processors l.class l.entry l.size W → Logged l δ [] W
  logged_nil W b = holds_blank l.size δ.processors l.class l.entry δ.group (whose δ) W b

module _ (l : Loop) (δ : Partition) (g : Log) (W : List ℕ) (h : Logged l δ g W) where
  -- the class of a cell, by its number
  pub logged_number : (c : ℕ) → c < l.size → class_word W (row_at δ.processors c) ≡ class_number (l.class c)
  logged_number c b = ap (λ (x : ℕ). x / 4) (h.rows c b).flags ∙ flags_number (l.class c) ((table l δ g).rows c).crossed ((table l δ g).rows c).updated

  pub logged_class : (c : ℕ) → c < l.size → class_held W (row_at δ.processors c) ≡ l.class c
  logged_class c b = ap class_by (logged_number c b) ∙ numbered (l.class c)
