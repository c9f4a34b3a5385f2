-- Document 02, P4: caption registers 13 and 14, the ordinary pair, and 11 and 12, the extended one. A call writes one or both pairs, each a transaction
-- of its own, 11 before 13, first character lower.
use Rattle.std.specs.Prelude.{Bool, ◌&&◌, ◌||◌, List, [], ◌∷◌, ◌++◌, map, ℕ, ◌+◌, ◌*◌, ltb, eqb, ℤ, pos, length, get_or}
use Rattle.bus.specs.Transactions.{Transaction}
use Rattle.adv7194_captions.specs.Characters.{is_character, caption_byte}

-- the first register of a pair, by its number: 11 of the extended one, which is 0, and 13 of the ordinary one, which is 1
abbrev pub pair_register : ℕ → ℕ
pair_register pair = 0x11 + 2 * pair

-- the field number that a refusal of a pair carries
abbrev pub caption_field : ℕ
caption_field = 29

-- a pair is not given, or it is two characters
abbrev pub pair_right : List ℤ → Bool
pair_right zs = eqb (length zs) 0 || (eqb (length zs) 2 && (is_character (get_or zs 0 (pos 0)) && is_character (get_or zs 1 (pos 0))))

-- both are so, and one at least is given
abbrev pub pairs_right : List ℤ → List ℤ → Bool
pairs_right extended ordinary = pair_right extended && (pair_right ordinary && ltb 0 (length extended + length ordinary))

-- the transaction of a pair at its first register; none where it is not given
unfoldable pub pair_at : ℕ → List ℤ → List Transaction
pair_at r [] = []
pair_at r (z ∷ zs) = record { subaddress = r; bytes = map caption_byte (z ∷ zs) } ∷ []

-- the list: the extended pair before the ordinary one
unfoldable pub caption_list : List ℤ → List ℤ → List Transaction
caption_list extended ordinary = pair_at (pair_register 0) extended ++ pair_at (pair_register 1) ordinary
