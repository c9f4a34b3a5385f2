-- A field's raw code (request P1's term): its registers in order, with bits not its own zeroed.
use Rattle.std.specs.Prelude.{cond, List, [], ◌∷◌, ℕ, zero, suc, eqb, get_or}
use Rattle.std.specs.Int.Bits.{bit_and}
use Rattle.adv7194_bus.specs.Kind.{register_count}
use Rattle.adv7194_table.specs.Masks.{own_mask, setting_mask, zero_mask, outside_mask}

-- what an image has in field n's bits of register r, every other bit zero
abbrev pub own_bits : List ℕ → ℕ → ℕ → ℕ
own_bits image n r = bit_and (get_or image r 0) (own_mask n r)

-- what it has in those of them that must-be-zero bits are apart from
abbrev pub setting_bits : List ℕ → ℕ → ℕ → ℕ
setting_bits image n r = bit_and (get_or image r 0) (setting_mask n r)

-- what it has in register r's must-be-zero bits, every other bit zero
abbrev pub zero_bits : List ℕ → ℕ → ℕ
zero_bits image r = bit_and (get_or image r 0) (zero_mask r)

-- what it has in register r's bits outside all fields, every other bit zero
abbrev pub outside_bits : List ℕ → ℕ → ℕ
outside_bits image r = bit_and (get_or image r 0) (outside_mask r)

-- field n's bits in those of the registers from r on, of which there are k, that it has bits of
unfoldable pub raw_from : List ℕ → ℕ → ℕ → ℕ → List ℕ
raw_from image n r zero = []
raw_from image n r (suc k) = cond (eqb (own_mask n r) 0) (raw_from image n (suc r) k) (own_bits image n r ∷ raw_from image n (suc r) k)

-- field n's raw code
abbrev pub raw_code : List ℕ → ℕ → List ℕ
raw_code image n = raw_from image n 0 register_count
