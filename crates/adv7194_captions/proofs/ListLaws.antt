-- The list of right pairs: the packing takes it and gives it back in no more than eight bytes, and its data are for registers that keep a byte.
-- Assumes nothing.
use mathlib.Core.Path.{◌≡◌, refl}
use mathlib.Core.Logic.{◌⊎◌, inl, inr, ◌≢◌, ⊎_elim}
use mathlib.Core.Bool.{true, ◌&&◌}
use mathlib.Core.List.{List, [], ◌∷◌, map}
use Prim.Native.Nat.{ℕ, ◌≤◌, ◌<◌}
use native.Mathlib.Omega.{arith}
use lib.Dec.{T, ltb, lt→ltb}
use lib.IntN.{ℤ, nat_abs}
use lib.ListN.{length}
use lib.Pow.{are_bytes}
use Rattle.bits.proofs.ParityLaws.{parity_fits}
use Rattle.bits.proofs.FlagLaws.{both}
use Rattle.refusals.specs.Refusal.{accepted}
use Rattle.bus.specs.Transactions.{Transaction, size, Touches}
use Rattle.bus.specs.Cost.{data_count}
use Rattle.packing.specs.Packing.{packed, behind, arranged, well_formed_by, well_formed}
use Rattle.packing.proofs.PackedLaws.{packed-length}
use Rattle.unpacking.specs.Unpacking.{unpack}
use Rattle.unpacking.proofs.Exact.{packed_unpacks}
use Rattle.adv7194_bus.specs.Kind.{register_count, read_only}
use Rattle.adv7194_captions.specs.Characters.{caption_byte}
use Rattle.adv7194_captions.specs.Pairs.{pairs_right, pair_at, caption_list}
use Rattle.adv7194_captions.specs.Plans.{extended_pair, ordinary_pair, pair_size}
use Rattle.adv7194_captions.proofs.PairLaws.{Character, Right, ordinary-alone, extended-alone, both_given, right}
use Rattle.bits.specs.Lists.{Every}

-- ---- the transactions of given pairs

module _ (P : Transaction → Type 0) (extended ordinary : List ℤ) (h : Every P (caption_list extended ordinary)) where
  -- what holds of each of the list holds of the extended pair's, where that is given
  pub at-extended : 0 < length extended → P (record { subaddress = extended_pair; bytes = map caption_byte extended })
  unfolding caption_list pair_at
  at-extended = go extended h
    where
      go : (zs : List ℤ) → Every P (caption_list zs ordinary) → 0 < length zs → P (record { subaddress = extended_pair; bytes = map caption_byte zs })
      go [] h n = absurd (omega arith)
      go (z ∷ zs) h n = h.0

  -- and of the ordinary pair's, where that is given
  pub at-ordinary : 0 < length ordinary → P (record { subaddress = ordinary_pair; bytes = map caption_byte ordinary })
  unfolding caption_list pair_at
  at-ordinary = go extended ordinary h
    where
      go : (es zs : List ℤ) → Every P (caption_list es zs) → 0 < length zs → P (record { subaddress = ordinary_pair; bytes = map caption_byte zs })
      go es [] h n = absurd (omega arith)
      go [] (z ∷ zs) h n = h.0
      go (e ∷ es) (z ∷ zs) h n = h.1.0

-- ---- the list of right pairs

-- the data of a pair
abbrev data_of : ℤ → ℤ → List ℕ
data_of a b = caption_byte a ∷ caption_byte b ∷ []

-- they are bytes
bytes_of : (a b : ℤ) → Character a → Character b → T (are_bytes (data_of a b))
bytes_of a b p q =
    both (ltb (caption_byte a) 256) (ltb (caption_byte b) 256 && true)
    (lt→ltb (caption_byte a) 256 (parity_fits 7 (nat_abs a) p.small))
    (both (ltb (caption_byte b) 256) true (lt→ltb (caption_byte b) 256 (parity_fits 7 (nat_abs b) q.small)) tt)

-- what holds of a pair's transaction at either place holds of each of the list
each : (P : Transaction → Type 0) → ((r : ℕ) (a b : ℤ) → (r ≡ extended_pair) ⊎ (r ≡ ordinary_pair) → P (record { subaddress = r; bytes = data_of a b }))
    → {e o : List ℤ} → Right e o → Every P (caption_list e o)
unfolding caption_list pair_at
each P f (ordinary-alone {c} {d} p q) = (f ordinary_pair c d (inr refl), tt)
each P f (extended-alone {a} {b} p q) = (f extended_pair a b (inl refl), tt)
each P f (both_given {a} {b} {c} {d} p q p' q') = (f extended_pair a b (inl refl), (f ordinary_pair c d (inr refl), tt))

-- the packing's test of the list
formed : {e o : List ℤ} → Right e o → T (well_formed (caption_list e o))
unfolding caption_list pair_at well_formed_by arranged
formed (ordinary-alone {c} {d} p q) = both (are_bytes (data_of c d)) true (bytes_of c d p q) tt
formed (extended-alone {a} {b} p q) = both (are_bytes (data_of a b)) true (bytes_of a b p q) tt
formed (both_given {a} {b} {c} {d} p q p' q') =
    both (are_bytes (data_of a b)) (are_bytes (data_of c d) && true) (bytes_of a b p q) (both (are_bytes (data_of c d)) true (bytes_of c d p' q') tt)

-- how many transactions and data bytes it has
few : {e o : List ℤ} → Right e o → (0 < length (caption_list e o)) × ((length (caption_list e o) ≤ 2) × (data_count (caption_list e o) ≤ 4))
unfolding caption_list pair_at data_count
few (ordinary-alone p q) = (omega arith, (omega arith, omega arith))
few (extended-alone p q) = (omega arith, (omega arith, omega arith))
few (both_given p q p' q') = (omega arith, (omega arith, omega arith))

module _ (extended ordinary : List ℤ) (h : pairs_right extended ordinary ≡ true) where
  abbrev list : List Transaction
  list = caption_list extended ordinary

  -- the packing takes it
  pub captions_formed : T (well_formed list)
  captions_formed = formed (right extended ordinary h)

  -- and gives it back
  pub captions-unpack : unpack (packed list) ≡ accepted list
  captions-unpack = packed_unpacks behind list captions_formed

  -- it has a transaction
  pub captions-some : 0 < length list
  captions-some = (few (right extended ordinary h)).0

  -- of two data each
  pub captions_sized : Every (λ t. size t ≡ pair_size) list
  captions_sized = each (λ t. size t ≡ pair_size) (λ r a b p. refl) (right extended ordinary h)

  -- no data outside the registers, and none to the one that is only read
  pub captions-inside : Every (λ t. (r : ℕ) → Touches t r → (r < register_count) × (r ≢ read_only)) list
  captions-inside =
      each (λ t. (r : ℕ) → Touches t r → (r < register_count) × (r ≢ read_only))
      (λ s a b p r m. ⊎_elim (λ e. (omega (arith, m.1), λ k. omega (arith, m.1))) (λ e. (omega (arith, m.1), λ k. omega (arith, m.1))) p)
      (right extended ordinary h)

  -- packed it has no more than eight bytes
  pub captions-length : length (packed list) ≤ 8
  captions-length = let f = few (right extended ordinary h) in omega (arith, packed-length list, f.1.0, f.1.1)
