-- The words stand for the tables of a loop's log.
use Rattle.std.specs.Prelude.{List, ℕ}
use Rattle.rules.specs.Loop.{Loop, Partition}
use Rattle.rules.specs.Log.{Log}
use Rattle.shadow.specs.Tables.{table}
use Rattle.tables.specs.Layout.{Holds}

abbrev pub Logged : Loop → Partition → Log → List ℕ → Type 0
Logged l δ g W = Holds l.size δ.processors l.class l.entry W (table l δ g)
