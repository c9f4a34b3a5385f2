-- What planning aims at, with the registers that settings fix in whole as a map; two images that can be compared; settings that pass the check; and the maps
-- that a plan is made of.
use Rattle.std.specs.Prelude.{◌≡◌, true, ◌&&◌, List, ℕ, ◌<◌, ℤ, length}
use Rattle.bits.specs.Maps.{has}
use Rattle.refusals.specs.Verdict.{good}
use Rattle.bus.specs.Registers.{differs, among}
use Rattle.adv7194_bus.specs.Kind.{register_count}
use Rattle.adv7194_bus.specs.declared.board.Board.{Board}
use Rattle.adv7194_table.specs.Fields.{number_count}
use Rattle.adv7194_settings.specs.Rows.{check_of}
use Rattle.adv7194_least.specs.Aim.{Aim, must}
use Rattle.adv7194_least.specs.Change.{settable}
use Rattle.adv7194_least.specs.Plan.{word_in, may, needed}
use Rattle.adv7194_planning.specs.declared.registers.RegisterMaps.{RegisterMaps}

-- from a board to a wanted image, the fixed registers being those of a map, with a limit
abbrev pub aim_by : Board → List ℕ → ℕ → ℕ → Aim
aim_by b wanted fixed limit = record { board = b; wanted = wanted; fixes = has fixed; limit = limit }

-- two images of a byte a register that differ only in registers that have a field or a must-be-zero bit
pub record Comparable (image wanted : List ℕ) : Type 0 where
  pub found : length image ≡ register_count
  pub wants : length wanted ≡ register_count
  pub settable_only : (r : ℕ) → differs image wanted r ≡ true → (r < register_count) × (settable r ≡ true)

-- settings that pass the check
pub record Passing (zs : List ℤ) : Type 0 where
  pub size : length zs ≡ number_count
  pub passes : check_of zs ≡ good tt

-- maps of registers: those that are needed by themselves, those that are needed, those that a plan may write, and those before which no transaction may end
pub record MapsOf (a : Aim) (m : RegisterMaps) : Type 0 where
  pub musts : (i : ℕ) → has m.must i ≡ must a i
  pub needs : (i : ℕ) → has m.needed i ≡ needed a i
  pub mays : (i : ℕ) → has m.allowed i ≡ may a i
  pub holds : (i : ℕ) → has m.held i ≡ (among 0x0d 0x0f i && word_in (must a))
