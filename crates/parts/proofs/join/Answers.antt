-- `parts::join` meets its contract: the first sign is tried before the second.
use Rattle.parts.proofs.Signs.{sign_seen, joins_first, joins_second, joins_none}
use Rattle.parts.proofs.join.Goals as goal

pub returns-then-reads : goal.returns-then-reads
returns-then-reads c =
    joins_first c.token-t.ensures _ _
    (sign_seen c.token-t.ensures _ c.requires.1 c.reads.ensures c.if-reads.true)

pub returns-then-reads-2 : goal.returns-then-reads-2
returns-then-reads-2 c =
    joins_second c.token-t.ensures _ _ (sign_seen c.token-t.ensures _ c.requires.1 c.reads.ensures c.if-reads.false)
    (sign_seen c.token-t.ensures _ c.requires.2 c.reads-else-reads.ensures c.if-reads-2.true)

pub returns-else-reads-2 : goal.returns-else-reads-2
returns-else-reads-2 c =
    joins_none _ _ c.requires.0 (sign_seen c.token-t.ensures _ c.requires.1 c.reads.ensures c.if-reads.false)
    (sign_seen c.token-t.ensures _ c.requires.2 c.reads-else-reads.ensures c.if-reads-2.false)
