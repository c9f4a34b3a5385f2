-- The table's rules, each computed over all of it, and the round trip of its fields of one number. Assumes nothing.
use mathlib.Core.Path.{◌≡◌, refl, sym, subst}
use mathlib.Core.List.{List, [], ◌∷◌}
use Prim.Native.Nat.{ℕ}
use lib.Dec.{T}
use lib.IntN.{ℤ}
use lib.ListN.{length}
use Rattle.refusals.specs.Verdict.{good}
use Rattle.field_table.specs.Walk.{judge_of, numbers_of, within}
use Rattle.field_table.specs.RoundTrip.{apart_from, all_apart, some_at, own_numbers, MeansItself}
use Rattle.field_table.proofs.RoundTripLaws.{means_itself}
use Rattle.adv7194_bus.specs.Kind.{register_count}
use Rattle.adv7194_table.specs.Fields.{number_count, timing, output, picture, dnr}
use Rattle.adv7194_table.specs.Table.{single_fields, table, order_of, number_field}
use Rattle.adv7194_table.specs.Masks.{mask_where, each, own_mask}
use Rattle.adv7194_table.specs.RawCodes.{raw_from, raw_code}

-- the checking order is 1 to 28
pub order_is : order_of table ≡ each (λ k. k) 1 28
unfolding order_of table timing output picture dnr
order_is = refl

-- the field of each of the settings' numbers, in the order in which they cross to another language
pub numbers_are : each (λ k. number_field k table) 0 number_count
    ≡ 1 ∷ 2 ∷ 3 ∷ 4 ∷ 5 ∷ 6 ∷ 7 ∷ 8 ∷ 9 ∷ 10 ∷ 11 ∷ 11 ∷ 11 ∷ 11 ∷ 11 ∷ 12 ∷ 13 ∷ 14 ∷ 15 ∷ 16 ∷ 17 ∷ 18 ∷ 19 ∷ 20 ∷ 21 ∷ 22 ∷ 23 ∷ 24 ∷ 25
    ∷ 26 ∷ 26 ∷ 26 ∷ 26 ∷ 26 ∷ 26 ∷ 26 ∷ 26 ∷ 26 ∷ 26 ∷ 27 ∷ 27 ∷ 27 ∷ 27 ∷ 27 ∷ 27 ∷ 27 ∷ 27 ∷ 27 ∷ 27 ∷ []
unfolding number_field table timing output picture dnr
numbers_are = refl

-- every register is an image's
pub fields_within : T (within register_count (single_fields table))
unfolding within single_fields table timing output picture dnr
fields_within = tt

-- no two have a bit in common
pub fields-apart : T (all_apart (single_fields table))
unfolding apart_from all_apart single_fields table timing output picture dnr
fields-apart = tt

-- no two have the same number, and must-be-zero bits have none
pub fields_own : T (own_numbers number_count (single_fields table))
unfolding some_at own_numbers single_fields table timing output picture dnr
fields_own = tt

-- the raw codes of an image whose bits are all set are the fields' own bits: clamp delay, signalling, brightness and the word
abbrev all_set : List ℕ
all_set = each (λ k. 0xFF) 0 register_count

pub raw_codes : ◌≡◌ {A = List (List ℕ)} (raw_code all_set 8 ∷ raw_code all_set 11 ∷ raw_code all_set 16 ∷ raw_code all_set 28 ∷ [])
    ((0x70 ∷ []) ∷ (0xFF ∷ 0xFF ∷ 0xFF ∷ []) ∷ (0xFF ∷ []) ∷ (0xFF ∷ 0xFF ∷ 0xFF ∷ 0xFF ∷ []) ∷ [])
unfolding raw_from own_mask mask_where table timing output picture dnr
raw_codes = refl

-- ---- the round trip

-- whatever the codings, the settings read from an image that is good pass the check, and want nothing else over that image
pub read_means_itself : (image : List ℕ) (zs : List ℤ) → length zs ≡ number_count → judge_of image (single_fields table) ≡ good tt
    → MeansItself (single_fields table) image (numbers_of image zs (single_fields table))
read_means_itself image zs size e =
    means_itself image zs (single_fields table) (subst (λ (n : ℕ). T (own_numbers n (single_fields table))) (sym size) fields_own) e
