-- What planning knows of a starting and a wanted image: the registers in which they differ, as a map, and whether 09 has to be written once more after the 3E.
use Rattle.std.specs.Prelude.{◌≡◌, Bool, List, ℕ}
use Rattle.bits.specs.Maps.{has}
use Rattle.bus.specs.Registers.{differs}
use Rattle.adv7195_least.specs.Reaching.{Change}
use Rattle.adv7195_least.specs.Plan.{restores}

pub record Told (image wanted : List ℕ) (changed : ℕ) (restored : Bool) : Type 0 where
  pub change : Change image wanted
  pub differ : (i : ℕ) → has changed i ≡ differs image wanted i
  pub back : restored ≡ restores wanted
