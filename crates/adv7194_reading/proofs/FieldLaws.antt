-- What the rows of each field say of an image is what its reading says. Assumes nothing.
use mathlib.Core.Path.{◌≡◌, refl, ap, ap₂, ◌∙◌}
use mathlib.Core.List.{List, [], ◌∷◌, ◌++◌, flat_map}
use Prim.Native.Nat.{ℕ}
use lib.ListN.{take}
use Rattle.refusals.specs.Verdict.{Verdict, after, fault_where}
use Rattle.refusals.specs.Order.{first_of, places_at, places_in}
use Rattle.refusals.proofs.VerdictLaws.{after_assoc}
use Rattle.refusals.proofs.OrderLaws.{first-append}
use Rattle.field_table.specs.Rows.{row_of}
use Rattle.field_table.specs.Coding.{Field, plain_of}
use Rattle.field_table.specs.Walk.{reading_of, reading_fault, judge_of}
use Rattle.adv7194_table.specs.Fields.{standard, square_pixel, oversampling, pedestal, timing, output, picture, dnr, brightness, sharpness}
use Rattle.adv7194_table.specs.Table.{table}
use Rattle.adv7194_settings.specs.Held.{settings_held}
use Rattle.adv7194_settings.specs.Order.{rows_at}
use Rattle.adv7194_settings.specs.Rows.{square_with_oversampling, pedestal_with_pal, some_of, row_held}
use Rattle.adv7194_reading.specs.Steps.{fault_in}
use Rattle.adv7194_reading.proofs.RowLaws.{alone_rows, alone, alone-with, with-zero-bits, reading_small, reading_only}

abbrev pub Found : Type 0
Found = Verdict (Unit {0})

-- the first row of field f that holds
abbrev pub field_fault : List ℕ → ℕ → Found
field_fault image f = first_of (row_held image) (places_at (rows_at f) f) tt

-- ---- fields one after the other

-- one field before others
pub field-first : (image : List ℕ) (f : ℕ) (fs : List ℕ) → fault_in image (f ∷ fs) ≡ after (field_fault image f) (fault_in image fs)
unfolding places_in flat_map
field-first image f fs = first-append (row_held image) (places_at (rows_at f) f) (places_in rows_at fs) tt

-- the faults of some readings, before others
abbrev pub in_turn : List ℕ → List Field → Found → Found
in_turn image [] v = v
in_turn image (f ∷ fs) v = after (reading_fault image f) (in_turn image fs v)

pub judged_turn : (image : List ℕ) (fs : List Field) (v : Found) → after (judge_of image fs) v ≡ in_turn image fs v
unfolding judge_of
judged_turn image [] v = refl
judged_turn image (f ∷ fs) v = after_assoc (reading_fault image f) (judge_of image fs) v ∙ ap (after (reading_fault image f)) (judged_turn image fs v)

-- the rows of some fields are those of a field of one number
abbrev Alone : List ℕ → List Field → Type 0
Alone image [] = Unit {0}
Alone image (f ∷ fs) = (field_fault image f.row.field ≡ alone_rows f.row.field (reading_of image f)) × Alone image fs

-- their numbers
abbrev numbers : List Field → List ℕ
numbers [] = []
numbers (f ∷ fs) = f.row.field ∷ numbers fs

-- such fields before others
group : (image : List ℕ) (fs : List Field) (gs : List ℕ) → Alone image fs → fault_in image (numbers fs ++ gs) ≡ in_turn image fs (fault_in image gs)
group image [] gs h = refl
group image (f ∷ fs) gs h =
    field-first image f.row.field (numbers fs ++ gs)
    ∙ ap₂ after (h.0 ∙ alone f.row.field (reading_of image f) (reading_small image f)) (group image fs gs h.1)

-- ---- the fields

-- the must-be-zero bits of 21 and of 22
abbrev brightness_zero : Field
brightness_zero = plain_of (row_of 0x10_FF_21_71_000_000_04)

abbrev sharpness_zero : Field
sharpness_zero = plain_of (row_of 0x11_FF_22_44_000_000_04)

-- 16 and 17, each with its must-be-zero bits
brightness_fault : (image : List ℕ) → field_fault image 16 ≡ after (reading_fault image brightness) (reading_fault image brightness_zero)
unfolding first_of places_at row_held some_of table timing output picture dnr
brightness_fault image =
    with-zero-bits 16 (reading_of image brightness) (reading_of image brightness_zero) (reading_only image brightness) (reading_only image brightness_zero)

sharpness_fault : (image : List ℕ) → field_fault image 17 ≡ after (reading_fault image sharpness) (reading_fault image sharpness_zero)
unfolding first_of places_at row_held some_of table timing output picture dnr
sharpness_fault image =
    with-zero-bits 17 (reading_of image sharpness) (reading_of image sharpness_zero) (reading_only image sharpness) (reading_only image sharpness_zero)

-- such a field before others
zero-first : (image : List ℕ) (n : ℕ) (f z : Field) (gs : List ℕ) → field_fault image n ≡ after (reading_fault image f) (reading_fault image z)
    → fault_in image (n ∷ gs) ≡ in_turn image (f ∷ z ∷ []) (fault_in image gs)
zero-first image n f z gs e =
    field-first image n gs ∙ ap (λ (v : Found). after v (fault_in image gs)) e
    ∙ after_assoc (reading_fault image f) (reading_fault image z) (fault_in image gs)

module _ (image : List ℕ) (gs : List ℕ) where
  -- 3: 4x oversampling, and row 5
  oversampling_fault : field_fault image 3 ≡ after (reading_fault image oversampling) (fault_where (square_with_oversampling (settings_held image)) 5 3)
  unfolding first_of places_at row_held some_of table timing output picture dnr
  oversampling_fault = alone-with 3 5 (square_with_oversampling (settings_held image)) (reading_of image oversampling) (reading_small image oversampling)

  -- 4: pedestal, and row 6
  pedestal_fault : field_fault image 4 ≡ after (reading_fault image pedestal) (fault_where (pedestal_with_pal (settings_held image)) 6 4)
  unfolding first_of places_at row_held some_of table timing output picture dnr
  pedestal_fault = alone-with 4 6 (pedestal_with_pal (settings_held image)) (reading_of image pedestal) (reading_small image pedestal)

  -- 1 to 3
  pub timing-first : fault_in image (1 ∷ 2 ∷ 3 ∷ gs)
      ≡ in_turn image timing (after (fault_where (square_with_oversampling (settings_held image)) 5 3) (fault_in image gs))
  unfolding first_of places_at row_held some_of table timing output picture dnr
  timing-first =
      group image (standard ∷ square_pixel ∷ []) (3 ∷ gs) (refl, (refl, tt))
      ∙ ap (in_turn image (standard ∷ square_pixel ∷ [])) (field-first image 3 gs ∙ ap (λ (v : Found). after v (fault_in image gs)) oversampling_fault
      ∙ after_assoc (reading_fault image oversampling) (fault_where (square_with_oversampling (settings_held image)) 5 3) (fault_in image gs))

  -- 4
  pub pedestal-first : fault_in image (4 ∷ gs)
      ≡ after (reading_fault image pedestal) (after (fault_where (pedestal_with_pal (settings_held image)) 6 4) (fault_in image gs))
  pedestal-first =
      field-first image 4 gs ∙ ap (λ (v : Found). after v (fault_in image gs)) pedestal_fault
      ∙ after_assoc (reading_fault image pedestal) (fault_where (pedestal_with_pal (settings_held image)) 6 4) (fault_in image gs)

  -- 5 to 10
  pub output-first : fault_in image (5 ∷ 6 ∷ 7 ∷ 8 ∷ 9 ∷ 10 ∷ gs) ≡ in_turn image output (fault_in image gs)
  unfolding first_of places_at row_held some_of table timing output picture dnr
  output-first = group image output gs (refl, (refl, (refl, (refl, (refl, (refl, tt))))))

  -- 12 to 17
  pub picture-first : fault_in image (12 ∷ 13 ∷ 14 ∷ 15 ∷ 16 ∷ 17 ∷ gs) ≡ in_turn image picture (fault_in image gs)
  unfolding first_of places_at row_held some_of table timing output picture dnr
  picture-first =
      group image (take 4 picture) (16 ∷ 17 ∷ gs) (refl, (refl, (refl, (refl, tt))))
      ∙ ap (in_turn image (take 4 picture))
      (zero-first image 16 brightness brightness_zero (17 ∷ gs) (brightness_fault image)
      ∙ ap (in_turn image (brightness ∷ brightness_zero ∷ [])) (zero-first image 17 sharpness sharpness_zero gs (sharpness_fault image)))

  -- 18 to 25
  pub dnr-first : fault_in image (18 ∷ 19 ∷ 20 ∷ 21 ∷ 22 ∷ 23 ∷ 24 ∷ 25 ∷ gs) ≡ in_turn image dnr (fault_in image gs)
  unfolding first_of places_at row_held some_of table timing output picture dnr
  dnr-first = group image dnr gs (refl, (refl, (refl, (refl, (refl, (refl, (refl, (refl, tt))))))))
