-- A run of steps of one processor, as far as it is to go.
use Rattle.std.specs.Prelude.{◌≡◌, ◌⊎◌, Bool, true, false, ◌&&◌, List, ℕ, is_none, ltb}
use Rattle.stepping.specs.declared.Extent.{Extent}
use Rattle.stepping.specs.declared.Extent.TheVariants.{Once, ToTheEnd}
use Rattle.stepping.specs.declared.Point.{Point}
use Rattle.stepping.specs.declared.Role.{Role}
use Rattle.operands.specs.declared.Move.{Move}
use Rattle.stepping.specs.Step.{Scene, CanGo, Goes, Went}

-- a processor whose block ends before e is neither stopped nor finished
unfoldable pub opened : Point → ℕ → Bool
opened t e = is_none t.fault && ltb t.iteration.0 e

abbrev pub is_open : Role → Scene → Bool
is_open x z = opened z.point x.end.0

-- steps lead from z to a scene
pub data Reached (x : Role) (code : List ℕ) (z : Scene) : Scene → Type 0 where
  start : Reached x code z z
  on : {y u : Scene} → Reached x code z y → is_open x y ≡ true → Goes x code y u → Reached x code z u

-- wherever they lead, a step more can be made if the processor is open there
abbrev pub CanCarry : Role → List ℕ → Scene → Type 0
CanCarry x code z = (y : Scene) → Reached x code z y → is_open x y ≡ true → CanGo x code y

-- one step if it is open; or all of them
unfoldable pub Carries : Extent → Role → List ℕ → Scene → Scene → Type 0
Carries Once x code z z' = ((is_open x z ≡ true) × Goes x code z z') ⊎ ((is_open x z ≡ false) × (z ≡ z'))
Carries ToTheEnd x code z z' = Reached x code z z' × (is_open x z' ≡ false)

-- the one step is by the move m
unfoldable pub Does : Extent → Role → List ℕ → Scene → Scene → Move → Type 0
Does Once x code z z' m = is_open x z ≡ true → Went x code z z' m
Does ToTheEnd x code z z' m = Unit {0}
