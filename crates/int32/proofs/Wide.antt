-- A cell's number on 64 bits, and back on 32. Assumes nothing.
use Rattle.std.proofs.Common.{◌≡◌, ℤ, pos, negsuc, arith, w32, w64, SFits, to_z, of_z}
use Rattle.int32.proofs.Laws.{landed}

wide : (z : ℤ) → SFits w32 z → SFits w64 z
wide (pos n) f = record { sfits = omega (arith, f.sfits) }
wide (negsuc n) f = record { sfits = omega (arith, f.sfits) }

module _ {u z : ℤ} (e : u ≡ z) (f : SFits w32 z) where
  pub wide_back : to_z w64 (of_z w64 u) ≡ z
  wide_back = landed e (wide z f)

  pub narrowed : to_z w32 (of_z w32 (to_z w64 (of_z w64 u))) ≡ z
  narrowed = landed wide_back f
