-- What Name's answer is good for (RULES 1.5 b, 9.2 c): the cells that it tells are of those that Check counts, and no cell is of two names.
use mathlib.Core.Path.{◌≡◌}
use mathlib.Core.List.{List, map}
use Prim.Native.Nat.{ℕ, ◌+◌, ◌≤◌, ◌<◌}
use native.Mathlib.Omega.{arith}
use Rattle.syntax.specs.Bytes.{lower}
use Rattle.syntax.specs.Text.{read}
use Rattle.syntax.proofs.Sane.{accepted_sane}
use Rattle.syntax.proofs.Table.{find_ends, find_apart}
use Rattle.std.specs.Prelude.{Ok}
use Rattle.answers.specs.Answers.{check_of}
use Rattle.describing.specs.Told.{Has}
use Rattle.describing.proofs.Telling.{tells, accepted, counted}

-- the cells of a name are of the N that Check tells
pub name_within : (text x : List ℕ) (f n N P : ℕ) → Has text x f n → check_of (read text) ≡ Ok (record { cells = N; processors = P }) → f + n ≤ N
name_within text x f n N P h c = accepted text x f n h (λ s e.
    let d = tells text x f n h s e in
    omega (arith, find_ends (map lower x) s.table (accepted_sane text s e).table, d.first, d.size, counted text N P c s e))

-- and no cell is of two names
pub names_apart : (text x y : List ℕ) → (map lower x ≡ map lower y → ⊥) → (f n g m : ℕ) → Has text x f n → Has text y g m
    → (k : ℕ) → f ≤ k → k < f + n → g ≤ k → k < g + m → ⊥
names_apart text x y differ f n g m h i k a b c d = accepted text x f n h (λ s e.
    let p = tells text x f n h s e in
    let q = tells text y g m i s e in
    find_apart (map lower x) (map lower y) differ 0 s.table k (accepted_sane text s e).table.laid
    (omega (arith, p.first), omega (arith, p.first, p.size)) (omega (arith, q.first), omega (arith, q.first, q.size)))
