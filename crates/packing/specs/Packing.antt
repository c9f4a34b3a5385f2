-- Document 01, "Packing": fields most significant bit first, no gaps: 6 bits of transaction count; for each transaction 6 bits of subaddress,
-- 6 bits of data count (never 0), then the data. Zero bits fill the last byte. Starts ascend, and no transaction overlaps another; what may come
-- next is a parameter, for a chip whose packing allows any order.
use Rattle.std.specs.Prelude.{◌≡◌, Bool, true, ◌&&◌, ℕ, ◌+◌, ◌*◌, ◌/◌, T, leb, ltb, length}
use mathlib.Core.List.{List, [], ◌∷◌, ◌++◌, flat_map}
use Rattle.std.proofs.Math.Pow.{are_bytes}
use Rattle.bits.specs.Strings.{msb_first, byte_bits, bytes_of}
use Rattle.bus.specs.Transactions.{Transaction, size, end}

-- a transaction's bits: subaddress, data count, data
unfoldable pub transaction_bits : Transaction → List Bool
transaction_bits t = msb_first 6 t.subaddress ++ (msb_first 6 (size t) ++ byte_bits t.bytes)

-- the packed plan: the transaction count, then the transactions, one after the other; zero bits fill the last byte
unfoldable pub packed : List Transaction → List ℕ
packed ts = bytes_of (msb_first 6 (length ts) ++ flat_map transaction_bits ts)

-- the bytes of a packed plan with that many transactions and that many data bytes in all: 6 bits, 12 for each transaction and 8 for each data byte,
-- in whole bytes (theorem `packed-length` of proofs/PackedLaws.antt: every such plan has these)
abbrev pub packed_length : ℕ → ℕ → ℕ
packed_length transactions bytes = (6 + 12 * transactions + 8 * bytes + 7) / 8

-- the packing can hold the transaction: a 6-bit subaddress, a 6-bit data count that is not 0, and bytes for data
abbrev pub encodable : Transaction → Bool
encodable t = ltb t.subaddress 64 && (ltb 0 (size t) && (ltb (size t) 64 && are_bytes t.bytes))

-- by the end of a transaction, the first register that the next may start at: that end, where starts ascend without overlap
abbrev pub behind : ℕ → ℕ
behind e = e

-- and any register, where any order and overlap are allowed
abbrev pub anywhere : ℕ → ℕ
anywhere e = 0

-- each transaction is encodable and starts at the first register that it may start at, or past it
unfoldable pub arranged : (ℕ → ℕ) → ℕ → List Transaction → Bool
arranged next free [] = true
arranged next free (t ∷ ts) = leb free t.subaddress && (encodable t && arranged next (next (end t)) ts)

-- starts ascend without overlap
abbrev pub ascending : ℕ → List Transaction → Bool
ascending free ts = arranged behind free ts

-- the list can be packed: at most 63 transactions, so arranged
unfoldable pub well_formed_by : (ℕ → ℕ) → List Transaction → Bool
well_formed_by next ts = ltb (length ts) 64 && arranged next 0 ts

-- at most 63 transactions, their starts ascending without overlap
abbrev pub well_formed : List Transaction → Bool
well_formed ts = well_formed_by behind ts

-- a plan's bytes are the packing of a list that can be packed
abbrev pub Packs : (ℕ → ℕ) → List ℕ → List Transaction → Type 0
Packs next plan ts = T (well_formed_by next ts) × (plan ≡ packed ts)
