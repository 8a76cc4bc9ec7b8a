-- `parts::expect` meets its contract.
use mathlib.Core.Path.{refl}
use Rattle.parts.proofs.Signs.{sign_seen, passes_sign}
use Rattle.parts.proofs.expect.Goals as goal

pub returns-then-reads : goal.returns-then-reads
returns-then-reads c =
    let h = sign_seen c.token-t.ensures _ c.requires.1 c.reads.ensures c.if-reads.true in
    record { stood = h; passed = passes_sign c.token-t.ensures _ h; place = refl; rank = refl }

pub returns-else-reads : goal.returns-else-reads
returns-else-reads c = sign_seen c.token-t.ensures _ c.requires.1 c.reads.ensures c.if-reads.false
