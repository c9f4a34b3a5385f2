-- Document 02, P4: a play call takes just the plans of captions, by 9, for an even count of ones too.
use Rattle.std.specs.Prelude.{◌≡◌, Bool, true, ◌&&◌, ◌||◌, List, [], ◌∷◌, ℕ, eqb, ltb, ℤ, length}
use Rattle.bus.specs.Transactions.{Transaction, size}
use Rattle.adv7194_captions.specs.Characters.{is_odd}
use Rattle.adv7194_captions.specs.Pairs.{pair_register, pairs_right, caption_list}

-- the data bytes of a pair
abbrev pub pair_size : ℕ
pair_size = 2

-- the first register of each pair
abbrev pub extended_pair : ℕ
extended_pair = pair_register 0

abbrev pub ordinary_pair : ℕ
ordinary_pair = pair_register 1

-- a subaddress and a data count are a pair's
abbrev pub at_pair : ℕ → ℕ → Bool
at_pair subaddress count = (eqb subaddress extended_pair || eqb subaddress ordinary_pair) && eqb count pair_size

-- every byte has an odd count of ones
unfoldable pub all_odd : List ℕ → Bool
all_odd [] = true
all_odd (b ∷ bs) = is_odd b && all_odd bs

-- a transaction writes a pair
abbrev pub is_pair : Transaction → Bool
is_pair t = at_pair t.subaddress (size t) && all_odd t.bytes

-- every transaction of a list does
unfoldable pub all_pairs : List Transaction → Bool
all_pairs [] = true
all_pairs (t ∷ ts) = is_pair t && all_pairs ts

-- a list is the one of pairs that may be written
pub record Captions (ts : List Transaction) : Type 0 where
  pub extended : List ℤ
  pub ordinary : List ℤ
  pub right : pairs_right extended ordinary ≡ true
  pub list : ts ≡ caption_list extended ordinary

-- as a test: it has a transaction, and each writes a pair. Where starts ascend, as the packing demands, it holds exactly for those lists (theorem
-- `just_these` of proofs/JustThese.antt)
abbrev pub are_captions : List Transaction → Bool
are_captions ts = ltb 0 (length ts) && all_pairs ts
