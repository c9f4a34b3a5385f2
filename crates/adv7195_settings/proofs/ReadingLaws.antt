-- Reading: lengths, then the judgement of the image; and the settings that an image holds. Assumes nothing.
use mathlib.Core.Path.{◌≡◌, refl, sym, ap, ◌∙◌, subst}
use mathlib.Core.Bool.{Bool, true, false, not, cond, ◌&&◌}
use mathlib.Core.List.{List}
use Prim.Native.Nat.{ℕ, ◌^◌}
use native.Mathlib.Omega.{arith}
use lib.Dec.{T, eqb, lt→ltb}
use lib.IntN.{ℤ, pos}
use lib.ListN.{length, replicate, length-replicate}
use lib.Pow.{pow_pos}
use borrow.Author.Tests.{eq-eqb, ne_eqb, eqb-true}
use Rattle.bits.proofs.FlagLaws.{both}
use Rattle.refusals.specs.Refusal.{Judged, value_or}
use Rattle.refusals.specs.Verdict.{Verdict, good, refused_at, left_by}
use Rattle.refusals.specs.Order.{first_of, places_at, Exactly}
use Rattle.refusals.proofs.OrderLaws.{exactly}
use Rattle.field_table.specs.declared.row.Row.{Row}
use Rattle.field_table.specs.Coding.{outside, decode, plain_of}
use Rattle.field_table.specs.Walk.{held, numbers_of, row_fits}
use Rattle.field_table.proofs.PlainLaws.{Fits, row_fits_lem, small, read_in, read_out}
use Rattle.field_table.proofs.RoundTripLaws as table
use Rattle.adv7195_bus.specs.Kind.{register_count}
use Rattle.adv7195_settings.specs.Fields.{byte, nibble, modes, outputs, blocks, filters, fields}
use Rattle.adv7195_settings.specs.Numbers.{number_count, part_count, cgms_part, in_bits, joins}
use Rattle.adv7195_settings.specs.Rows.{image_row, judge_of, settings_held}
use Rattle.adv7195_settings.specs.Reading.{row_read, read_order, read_of, read_left}
use Rattle.adv7195_settings.proofs.NumberLaws as lists
use Rattle.adv7195_settings.proofs.PlaceLaws.{rows_alike}

abbrev Found : Type 0
Found = Verdict (Unit {0})

-- ---- what reading answers

module _ (image : List ℕ) (count : ℕ) where
  -- at a field reading's row is the image's
  same_row : (n f : ℕ) → eqb f 0 ≡ false → row_read image count n f ≡ image_row image n f
  unfolding row_read
  same_row n f e = rw e

  -- row 1, row 3 at field 0, then the fields
  read_parts : read_of image count
      ≡ cond (not (eqb (length image) register_count)) (refused_at 1 0) (cond (not (eqb count number_count)) (refused_at 3 0) (judge_of image))
  unfolding read_of read_order first_of places_at row_read judge_of
  read_parts =
      ap (λ (v : Found). cond (not (eqb (length image) register_count)) (refused_at 1 0) (cond (not (eqb count number_count)) (refused_at 3 0) v))
      (rows_alike (row_read image count) (image_row image) same_row)

  pub image-length : (length image ≡ register_count → ⊥) → refused_at 1 0 ≡ read_of image count
  image-length h = sym (read_parts ∙ rw (ne_eqb (length image) register_count h))

  pub numbers-length : length image ≡ register_count → (count ≡ number_count → ⊥) → refused_at 3 0 ≡ read_of image count
  numbers-length e h = sym (read_parts ∙ rw (eq-eqb (length image) register_count e, ne_eqb count number_count h))

  pub judged_read : length image ≡ register_count → count ≡ number_count → judge_of image ≡ read_of image count
  judged_read e d = sym (read_parts ∙ rw (eq-eqb (length image) register_count e, eq-eqb count number_count d))

-- an image that is read has the right length and is good, and so many numbers were lent
pub record IsRead (image : List ℕ) (count : ℕ) : Type 0 where
  pub size : length image ≡ register_count
  pub numbers : count ≡ number_count
  pub judged : judge_of image ≡ good tt

pub is_read : (image : List ℕ) (count : ℕ) → read_of image count ≡ good tt → IsRead image count
is_read image count e = by (eqb (length image) register_count) (eqb count number_count) refl refl (sym (read_parts image count) ∙ e)
  where
    never : {n f : ℕ} → ◌≡◌ {A = Found} (refused_at n f) (good tt) → ⊥
    never e = let z : ◌≡◌ {A = ℕ} 0 1 = cc in omega arith

    by : (s t : Bool) → eqb (length image) register_count ≡ s → eqb count number_count ≡ t
        → cond (not s) (refused_at 1 0) (cond (not t) (refused_at 3 0) (judge_of image)) ≡ good tt → IsRead image count
    by true true p q e = record { size = eqb-true _ _ p; numbers = eqb-true _ _ q; judged = e }
    by true false p q e = absurd (never e)
    by false t p q e = absurd (never e)

-- all that reading ensures, from the answer and what it leaves
pub answered : (image : List ℕ) (zs : List ℤ) {v : Found} {l : List ℤ} → v ≡ read_of image (length zs) → l ≡ left_by zs (settings_held image) v
    → (v ≡ read_of image (length zs)) × ((l ≡ read_left image zs) × Exactly (row_read image (length zs)) read_order tt v)
unfolding read_of
answered image zs e h = (e, (h ∙ ap (left_by zs (settings_held image)) e, exactly (row_read image (length zs)) read_order tt e))

-- ---- the settings held

-- what a row's code is read as is a number of its bits
read_bits : (row : Row) → T (row_fits row) → (c : ℕ) → T (in_bits row.width (value_or (pos 0) (decode (plain_of row) c)))
read_bits row t c = by (outside row (pos c)) refl
  where
    fits : Fits row
    fits = row_fits_lem row t

    same : {j k : Judged ℤ} → j ≡ k → T (in_bits row.width (value_or (pos 0) j)) → T (in_bits row.width (value_or (pos 0) k))
    same e h = subst (λ (j : Judged ℤ). T (in_bits row.width (value_or (pos 0) j))) e h

    by : (b : Bool) → outside row (pos c) ≡ b → T (in_bits row.width (value_or (pos 0) (decode (plain_of row) c)))
    by true o = same (read_out row fits c _ o refl) (lt→ltb 0 (2 ^ row.width) (pow_pos row.width))
    by false o = same (read_in row fits c o) (lt→ltb c (2 ^ row.width) (small row fits (pos c) o).1)

-- the table's numbers that an image holds
abbrev pub parts_held : List ℕ → List ℤ
parts_held image = numbers_of image (replicate part_count (pos 0)) fields

-- those of the CGMS data are of 8, 8 and 4 bits
pub held-joins : (image : List ℕ) → T (joins (parts_held image))
unfolding numbers_of modes outputs blocks filters fields
held-joins image =
    let low : Row = (byte 41 34 0x11).row in
    let middle : Row = (byte 41 35 0x12).row in
    let high : Row = (nibble 41 36 0x13 0).row in
    let part = cgms_part (parts_held image) in
    both (in_bits 8 (part 0)) (in_bits 8 (part 1) && in_bits 4 (part 2)) (read_bits low tt (held image low))
    (both (in_bits 8 (part 1)) (in_bits 4 (part 2)) (read_bits middle tt (held image middle)) (read_bits high tt (held image high)))

-- they are 60, and the settings 58
pub held_parts_length : (image : List ℕ) → length (parts_held image) ≡ part_count
held_parts_length image = table.numbers-length image (replicate part_count (pos 0)) fields ∙ length-replicate part_count (pos 0)

pub held-length : (image : List ℕ) → length (settings_held image) ≡ number_count
unfolding settings_held
held-length image = lists.numbers-length (parts_held image) (held_parts_length image)
