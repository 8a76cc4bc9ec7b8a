-- Words and signs that `pass` goes over, as the readers of the definitions meet them.
use mathlib.Core.Path.{◌≡◌, sym, ◌∙◌}
use mathlib.Core.Bool.{true}
use mathlib.Core.List.{List}
use Prim.Native.Nat.{ℕ, ◌≤◌, ◌<◌}
use Prim.Native.String.{String}
use native.Mathlib.Omega.{arith}
use lib.ListN.{length, drop}
use Rattle.syntax.specs.Bytes.{bytes}
use Rattle.syntax.specs.Reader.{broken, done, expects, wants, peek_in, skip_in}
use Rattle.lexer.specs.Places.{NotRead, ReadTo, Any, passes}
use Rattle.lexer.proofs.Said.{signed, lettered}
use Rattle.lexer.proofs.PlaceLaws.{expects_passes, wants_passes}
use Rattle.lexer.proofs.InTurn.{stands, stands_onward}
use Rattle.parts.specs.Parts.{Passes}

-- ---- a word or a sign at a place

pub read_passes : {s : List ℕ} (w : List ℕ) {at r : ℕ} → ReadTo Any s at (passes w) r → 0 < length w → Passes 1 s at r
read_passes w g lt = record { left = sym (stands w g).1; from = omega (arith, stands_onward w g lt); within = g.within }

module _ {s : List ℕ} (t : String) {at : ℕ} where
  pub wants_there : {r : ℕ} → ReadTo Any s at (passes (bytes t)) r → lettered (bytes t) ≡ true → wants peek_in skip_in t (drop at s) ≡ done tt (drop r s)
  wants_there g l = wants_passes t l (drop at s) ∙ g.reads

  pub wants_not : NotRead s at (passes (bytes t)) → lettered (bytes t) ≡ true → at ≤ length s → wants peek_in skip_in t (drop at s) ≡ broken
  wants_not g l b = wants_passes t l (drop at s) ∙ g.fails b

  pub expects_there : {r : ℕ} → ReadTo Any s at (passes (bytes t)) r → signed (bytes t) ≡ true → expects peek_in skip_in t (drop at s) ≡ done tt (drop r s)
  expects_there g l = expects_passes t l (drop at s) ∙ g.reads

  pub expects_not : NotRead s at (passes (bytes t)) → signed (bytes t) ≡ true → at ≤ length s → expects peek_in skip_in t (drop at s) ≡ broken
  expects_not g l b = expects_passes t l (drop at s) ∙ g.fails b
