-- Document 01, "The bus and its three rules": data are stored, and the pointer rises by one. What a list of transactions that playing takes leaves of an
-- image.
use Rattle.std.specs.Prelude.{◌≡◌, Bool, cond, ◌&&◌, List, ℕ, ◌+◌, leb, ltb, eqb, length, get_or}
use Rattle.refusals.specs.Refusal.{Judged, accepted, refused}
use Rattle.bus.specs.Transactions.{Transaction}
use Rattle.bus.specs.Written.{all_written}
use Rattle.adv7195_bus.specs.Order.{mode_register6, preparing_byte}

-- what is left of some registers: the data of an accepted list; after a refusal anything, but as many registers
abbrev pub Written : Judged (List Transaction) → List ℕ → List ℕ → Type 0
Written (accepted ts) before after = after ≡ all_written before ts
Written (refused n) before after = length after ≡ length before

-- whether 3E was the last byte for 09 after count data from a subaddress on, which registers hold, where it was so before them or not
abbrev pub prepared_after : Bool → List ℕ → ℕ → ℕ → Bool
prepared_after p registers subaddress count =
    cond (leb subaddress mode_register6 && ltb mode_register6 (subaddress + count)) (eqb (get_or registers mode_register6 0) preparing_byte) p
