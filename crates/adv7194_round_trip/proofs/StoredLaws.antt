-- The numbers that an image's settings have for each entry of the table, by computing them over all of it. Assumes nothing.
use mathlib.Core.Path.{◌≡◌, refl}
use mathlib.Core.Logic.{◌⊎◌, inl, inr}
use mathlib.Core.List.{List, []}
use Prim.Native.Nat.{ℕ}
use lib.Dec.{T}
use lib.IntN.{ℤ, pos}
use Rattle.refusals.specs.Refusal.{value_or}
use Rattle.field_table.specs.Blocks.{store_from, slice}
use Rattle.field_table.specs.Walk.{given}
use Rattle.field_table.specs.RoundTrip.{only_zero}
use Rattle.adv7194_table.specs.Fields.{standard, square_pixel, oversampling, pedestal, timing, output, picture, dnr}
use Rattle.adv7194_table.specs.Table.{Entry, single, whole, table}
use Rattle.adv7194_settings.specs.Codes.{numbers_in}
use Rattle.adv7194_settings.specs.Held.{setting_held, block_reading, settings_held}
use Rattle.adv7194_round_trip.proofs.EntryLaws.{All}

-- the settings have an entry's numbers; must-be-zero bits have none, and no other setting than 0
abbrev pub Stored : List ℕ → List ℤ → Entry → Type 0
Stored image zs (single f) = (given zs f.row ≡ setting_held image f) ⊎ ((given zs f.row ≡ pos 0) × T (only_zero f.row))
Stored image zs (whole c b) = numbers_in zs b ≡ slice (pos 0) (value_or [] (block_reading image c b)) 0 b.numbers

infixr 5 ◌and◌
◌and◌ : {A B : Type 0} → A → B → A × B
a and b = (a, b)

-- fields 1 to 10, 11, 12 to 17 with must-be-zero bits, 18 to 25, curves and word
pub stored : (image : List ℕ) → All (Stored image (settings_held image)) table
unfolding settings_held store_from slice table timing output picture dnr
stored image =
    inl refl and inl refl and inl refl and inl refl and inl refl and inl refl and inl refl and inl refl and inl refl and inl refl and refl
    and inl refl and inl refl and inl refl and inl refl and inl refl and inr (refl, tt) and inl refl and inr (refl, tt)
    and inl refl and inl refl and inl refl and inl refl and inl refl and inl refl and inl refl and inl refl and refl and refl and refl and tt

-- those that other fields depend on
pub standard-stored : (image : List ℕ) → given (settings_held image) standard.row ≡ setting_held image standard
unfolding settings_held store_from slice table timing output picture dnr
standard-stored image = refl

pub square_pixel_stored : (image : List ℕ) → given (settings_held image) square_pixel.row ≡ setting_held image square_pixel
unfolding settings_held store_from slice table timing output picture dnr
square_pixel_stored image = refl

pub oversampling-stored : (image : List ℕ) → given (settings_held image) oversampling.row ≡ setting_held image oversampling
unfolding settings_held store_from slice table timing output picture dnr
oversampling-stored image = refl

pub pedestal-stored : (image : List ℕ) → given (settings_held image) pedestal.row ≡ setting_held image pedestal
unfolding settings_held store_from slice table timing output picture dnr
pedestal-stored image = refl
