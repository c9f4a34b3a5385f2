-- Document 02, P1: which fields of two images differ, in the table's order, and which registers do in bits outside all fields. Register 34 is never
-- compared. Equal images, register 34 excepted, have no difference, and only they do.
use Rattle.std.specs.Prelude.{◌≡◌, Bool, not, cond, ◌&&◌, ℕ, ◌+◌, ◌^◌, ◌<◌, eqb, length, get_or}
use mathlib.Core.List.{List, [], ◌∷◌, foldr}
use Rattle.bits.specs.Bytes.{same_bytes}
use Rattle.adv7194_bus.specs.Kind.{register_count, read_only}
use Rattle.adv7194_table.specs.Table.{table, order_of}
use Rattle.adv7194_table.specs.Masks.{each}
use Rattle.adv7194_table.specs.RawCodes.{raw_code, outside_bits}

-- those of some numbers that pass a test
unfoldable pub those : (ℕ → Bool) → List ℕ → List ℕ
those P ns = foldr (λ n rest. cond (P n) (n ∷ rest) rest) [] ns

-- field n differs: any of its bits does, must-be-zero bits too
abbrev pub field_differs : List ℕ → List ℕ → ℕ → Bool
field_differs a b n = not (same_bytes (raw_code a n) (raw_code b n))

-- the fields that differ, in the table's order
unfoldable pub fields_differing : List ℕ → List ℕ → List ℕ
fields_differing a b = those (field_differs a b) (order_of table)

-- register r differs in bits outside all fields
abbrev pub register_differs : List ℕ → List ℕ → ℕ → Bool
register_differs a b r = not (eqb r read_only) && not (eqb (outside_bits a r) (outside_bits b r))

-- the registers that do, in order
unfoldable pub registers_differing : List ℕ → List ℕ → List ℕ
registers_differing a b = those (register_differs a b) (each (λ r. r) 0 register_count)

-- numbers as a map: bit n is set where n is one of them
unfoldable pub map_of : List ℕ → ℕ
map_of [] = 0
map_of (n ∷ ns) = 2 ^ n + map_of ns

-- two images are equal, register 34 excepted
pub record Equal (a b : List ℕ) : Type 0 where
  pub size : (length a ≡ register_count) × (length b ≡ register_count)
  pub same : (r : ℕ) → r < register_count → (r ≡ read_only → ⊥) → get_or a r 0 ≡ get_or b r 0
