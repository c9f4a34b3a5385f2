-- Document 01, "The bus and its three rules": data are stored, and the pointer rises by one.
use Rattle.std.specs.Prelude.{List, [], ◌∷◌, ℕ}
use Rattle.std.proofs.lemmas.List.Edits.{sets}
use Rattle.bus.specs.Transactions.{Transaction}

-- the registers with the data of every transaction written over them, transaction after transaction
unfoldable pub all_written : List ℕ → List Transaction → List ℕ
all_written l [] = l
all_written l (t ∷ ts) = all_written (sets l t.subaddress t.bytes) ts
