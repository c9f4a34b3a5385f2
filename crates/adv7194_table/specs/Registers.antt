-- Document 02, P5: refusals by an unknown register name the lowest field that has a bit there. Which registers a field has is the table's.
use Rattle.std.specs.Prelude.{Bool, false, cond, not, ◌&&◌, ◌||◌, List, [], ◌∷◌, ℕ, zero, suc, ◌+◌, ◌^◌, eqb}
use Rattle.adv7194_bus.specs.Kind.{register_count}
use Rattle.adv7194_table.specs.Table.{table, order_of}
use Rattle.adv7194_table.specs.Masks.{own_mask, each}

-- field f has a bit in register r
abbrev pub has_bits : ℕ → ℕ → Bool
has_bits f r = not (eqb (own_mask f r) 0)

-- one of the numbers below n passes a test
unfoldable pub some_below : (ℕ → Bool) → ℕ → Bool
some_below P zero = false
some_below P (suc n) = P n || some_below P n

-- field f has a bit in one of the registers that pass a test
unfoldable pub field_among : (ℕ → Bool) → ℕ → Bool
field_among P f = some_below (λ r. has_bits f r && P r) register_count

-- the lowest field that has one, or 0
unfoldable pub lowest_in : (ℕ → Bool) → List ℕ → ℕ
lowest_in P [] = 0
lowest_in P (f ∷ fs) = cond (field_among P f) f (lowest_in P fs)

abbrev pub lowest_field : (ℕ → Bool) → ℕ
lowest_field P = lowest_in P (order_of table)

-- how many numbers of fields there are, 0 among them
abbrev pub field_count : ℕ
field_count = 29

-- the map of field f's registers below n
unfoldable pub registers_below : ℕ → ℕ → ℕ
registers_below f zero = 0
registers_below f (suc n) = cond (has_bits f n) (2 ^ n) 0 + registers_below f n

-- the map of the registers of each field
unfoldable pub field_registers : List ℕ
field_registers = each (λ f. registers_below f register_count) 0 field_count
