-- Document 01, "Refusals", row 2: the bus address is odd or above 254.
use Rattle.std.specs.Prelude.{◌≡◌, ◌⊎◌, Bool, ◌&&◌, ℕ, ◌%◌, ◌<◌, leb, eqb}

-- a bus address is at fault: it is odd or above 254
abbrev pub AddressFault : ℕ → Type 0
AddressFault a = (a % 2 ≡ 1) ⊎ (254 < a)

-- a bus address is right where it is even and not above 254
abbrev pub address_right : ℕ → Bool
address_right a = leb a 254 && eqb (a % 2) 0
