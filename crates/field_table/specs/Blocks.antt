-- A field that has several numbers and fills whole registers, a block: the numbers are some of the settings' from an index on, the bytes some of an
-- image's from a register on.
use Rattle.std.specs.Prelude.{Bool, false, ◌&&◌, List, [], ◌∷◌, ℕ, zero, suc, eqb, ℤ, pos, negsuc, get_or, set}
use Rattle.std.specs.Int.Signed.{le_z}
use Rattle.field_table.specs.Writes.{Write}

-- a number is k
abbrev pub is : ℕ → ℤ → Bool
is k (pos n) = eqb n k
is k (negsuc n) = false

-- a number is low to high
abbrev pub between : ℕ → ℕ → ℤ → Bool
between low high z = le_z (pos low) z && le_z z (pos high)

-- n values of a list, from index k on; another value past the last
unfoldable pub slice : {A : Type 0} → A → List A → ℕ → ℕ → List A
slice other xs k zero = []
slice other xs k (suc n) = get_or xs k other ∷ slice other xs (suc k) n

-- numbers with some of them stored from index k on
unfoldable pub store_from : List ℤ → ℕ → List ℤ → List ℤ
store_from zs k [] = zs
store_from zs k (v ∷ vs) = store_from (set zs k v) (suc k) vs

-- whole registers set, from register r on
unfoldable pub byte_writes : ℕ → List ℕ → List Write
byte_writes r [] = []
byte_writes r (b ∷ bs) = record { register = r; place = 0; width = 8; value = b } ∷ byte_writes (suc r) bs
