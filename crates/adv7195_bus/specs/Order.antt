-- Document 02, P13: before a transaction that flips MR36, an earlier one in the list must have written 3E to 09 with 09 untouched since, even if 09 held 3E
-- at the start.
use Rattle.std.specs.Prelude.{◌≡◌, ◌⊎◌, Bool, true, false, cond, not, ◌&&◌, ◌||◌, List, [], ◌∷◌, ◌++◌, ℕ, ◌-◌, eqb, get_or}
use Rattle.std.specs.Bool.{xor}
use Rattle.bits.specs.Maps.{has}
use Rattle.bus.specs.Transactions.{Transaction, Touches, touches, Touched}
use Rattle.bus.specs.Chip.{Kind, Chip}
use Rattle.bus.specs.Run.{run, transaction_events, after}

-- MR36 in some registers, the interpolation bit: bit 6 of 03, Mode Register 3
unfoldable pub interpolation : List ℕ → Bool
interpolation registers = has (get_or registers 0x03 0) 6

-- some transaction of a list has written 3E to 09, Mode Register 6, with 09 untouched since
abbrev pub Prepared : List Transaction → Type 0
Prepared [] = ⊥
Prepared (t ∷ ts) =
    ((Touches t 0x09 × (get_or t.bytes (0x09 - t.subaddress) 0 ≡ 0x3e)) × (Touched ts 0x09 → ⊥)) ⊎ Prepared ts

-- the order: before each transaction of a list that flips MR36 in the chip as it finds it, the list is prepared
abbrev pub Ordered : Kind → Chip → List Transaction → Type 0
Ordered κ c ts =
    (before : List Transaction) (t : Transaction) (rest : List Transaction) → ts ≡ before ++ t ∷ rest
    → xor (interpolation (after κ c before).registers) (interpolation (run κ (after κ c before) (transaction_events κ.address t)).registers) ≡ true
    → Prepared before

-- ---- as a test

-- Mode Register 3, whose bit 6 is MR36, the interpolation bit
abbrev pub mode_register3 : ℕ
mode_register3 = 0x03

abbrev pub interpolation_bit : ℕ
interpolation_bit = 6

-- Mode Register 6, to which 3E is written before MR36 is flipped
abbrev pub mode_register6 : ℕ
mode_register6 = 0x09

abbrev pub preparing_byte : ℕ
preparing_byte = 0x3e

-- MR36 differs in two lists of registers
abbrev pub flipped : List ℕ → List ℕ → Bool
flipped before after = xor (interpolation before) (interpolation after)

-- the byte that a transaction has for register r, which it touches
abbrev pub byte_for : Transaction → ℕ → ℕ
byte_for t r = get_or t.bytes (r - t.subaddress) 0

-- the byte in register r after a transaction, where it was b before
abbrev pub byte_after : ℕ → ℕ → Transaction → ℕ
byte_after r b t = cond (touches t r) (byte_for t r) b

-- whether 3E was the last byte for 09 in the list so far, after a transaction, where it was so before it or not
abbrev pub prepared_by : Bool → Transaction → Bool
prepared_by p t = cond (touches t mode_register6) (eqb (byte_for t mode_register6) preparing_byte) p

-- the order as a test, transaction by transaction: p says whether 3E was the last byte for 09 so far, and m is the byte in 03. It holds exactly where the
-- order does (theorem `order-agrees` of proofs/OrderLaws.antt)
unfoldable pub order_from : Bool → ℕ → List Transaction → Bool
order_from p m [] = true
order_from p m (t ∷ ts) =
    (not (xor (has m interpolation_bit) (has (byte_after mode_register3 m t) interpolation_bit)) || p)
    && order_from (prepared_by p t) (byte_after mode_register3 m t) ts

-- of a list played on an image: at its start nothing has been written
abbrev pub keeps_order : List ℕ → List Transaction → Bool
keeps_order image ts = order_from false (get_or image mode_register3 0) ts
