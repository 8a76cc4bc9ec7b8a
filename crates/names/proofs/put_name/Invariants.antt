-- `names::put_name` meets its contract: the first k bytes stand in the entry's first k words, and no other word has changed.
use Rattle.std.proofs.Common.{◌≡◌, ℕ, ◌≤◌, ◌<◌, ◌+◌, ◌*◌, length, get_or}
use Rattle.names.specs.Table.{word_at, table_words, entry_words}
use Rattle.names.proofs.put_name.Given as goal

abbrev pub invariant-loop-k : goal.invariant-loop-k
invariant-loop-k l = record {
  long : length l.table ≡ length l.initial.table;
  written : table_words ≤ length l.initial.table → (j : ℕ) → j < l.k → word_at l.table l.i j ≡ get_or l.w j 0;
  before : (p : ℕ) → p < entry_words * l.i → get_or l.table p 0 ≡ get_or l.initial.table p 0;
  after : (p : ℕ) → entry_words * l.i + l.k ≤ p → get_or l.table p 0 ≡ get_or l.initial.table p 0;
}
