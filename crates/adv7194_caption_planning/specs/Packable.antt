-- Document 02, P4: each pair is a transaction of its own; the packing is document 01's.
use Rattle.std.specs.Prelude.{◌≡◌, true, List, ℕ, ◌≤◌, ℤ, length}
use Rattle.packing.specs.Packing.{packed}
use Rattle.adv7194_captions.specs.Pairs.{pairs_right, caption_list}

-- the pairs can be packed: they are right, `transactions` is how many there are, and the lent plan has room for them
pub record Packable (extended ordinary : List ℤ) (transactions : ℕ) (plan : List ℕ) : Type 0 where
  pub right : pairs_right extended ordinary ≡ true
  pub counted : transactions ≡ length (caption_list extended ordinary)
  pub fits : length (packed (caption_list extended ordinary)) ≤ length plan
