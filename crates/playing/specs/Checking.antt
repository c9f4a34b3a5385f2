-- Document 01, "Refusals": playing checks 1, then 2 for either address, before its plan.
use Rattle.std.specs.Prelude.{cond, ◌&&◌, ℕ, eqb}
use Rattle.refusals.specs.Refusal.{Judged, accepted, refused}
use Rattle.bus.specs.Address.{address_right}

-- what is found of an image of so many bytes, for a chip with so many registers, of the address used and of the chip's own
abbrev pub checked_before : ℕ → ℕ → ℕ → ℕ → Judged (Unit {0})
checked_before bytes registers used own =
    cond (eqb bytes registers) (cond (address_right used && address_right own) (accepted tt) (refused 2)) (refused 1)
