-- The check of settings is the faults of the fields in turn, as the code meets them. Assumes nothing.
use mathlib.Core.Path.{◌≡◌, refl, sym, ap, ap₂, ◌∙◌}
use mathlib.Core.List.{List, [], ◌∷◌, ◌++◌, flat_map}
use Prim.Native.Nat.{ℕ}
use lib.IntN.{ℤ}
use lib.ListN.{length}
use Rattle.refusals.specs.Refusal.{Judged}
use Rattle.refusals.specs.Verdict.{good, refused_at, after, fault_of, fault_where}
use Rattle.refusals.specs.Order.{Place, first_of, places_at, places_in}
use Rattle.refusals.proofs.VerdictLaws.{after-good, after_assoc, row_before}
use Rattle.refusals.proofs.OrderLaws.{places-append, first-append}
use Rattle.field_table.specs.Coding.{Field}
use Rattle.field_table.specs.Walk.{given, coding_of, coding_fault, check_of}
use Rattle.field_table.proofs.RoundTripLaws.{All}
use Rattle.adv7194_table.specs.Fields.{number_count, standard, square_pixel, oversampling, pedestal, contrast, u_scale, v_scale, hue, brightness, sharpness, timing, output, picture, dnr}
use Rattle.adv7194_table.specs.Table.{table, order_of}
use Rattle.adv7194_table.specs.declared.blocks.Block.{Block}
use Rattle.adv7194_table.specs.Blocks.{signalling, curve_a, curve_b}
use Rattle.adv7194_signalling.specs.Signalling.{signalling_codes, signalling_conflict}
use Rattle.adv7194_gamma.specs.Curve.{curve_codes}
use Rattle.adv7194_setting_rows.proofs.ZeroLaws.{brightness_zero, sharpness_zero, brightness-zero, sharpness-zero}
use Rattle.adv7194_settings.specs.Codes.{numbers_in}
use Rattle.adv7194_settings.specs.Order.{rows_at, order}
use Rattle.adv7194_settings.specs.Rows.{some_of, row_holds, square_with_oversampling, pedestal_with_pal, check_of as check}
use Rattle.adv7194_wanted.specs.Parts.{first_part, second_part, fault_in}
use Rattle.adv7194_wanted.proofs.RowLaws.{Found, encode-sound, alone_rows_lem, zero_rows, square_rows, pedestal_rows}
use Rattle.adv7194_wanted.proofs.SoundLaws.{signalling-sound, curve-sound}

-- the first row that holds at a field, and at some fields
abbrev field_fault : List ℤ → ℕ → Found
field_fault zs k = first_of (row_holds zs) (places_at (rows_at k) k) tt

abbrev pub fault_at : List ℤ → List ℕ → Found
fault_at zs ks = first_of (row_holds zs) (places_in rows_at ks) tt

-- a field before others
next : (zs : List ℤ) (k : ℕ) (ks : List ℕ) {v : Found} → field_fault zs k ≡ v → fault_at zs (k ∷ ks) ≡ after v (fault_at zs ks)
unfolding places_in flat_map
next zs k ks e = first-append (row_holds zs) (places_at (rows_at k) k) (places_in rows_at ks) tt ∙ ap (λ (u : Found). after u (fault_at zs ks)) e

-- after the last
no_faults : (zs : List ℤ) → fault_at zs [] ≡ good tt
unfolding first_of places_in flat_map
no_faults zs = refl

-- ---- fields that no other one is set against

abbrev Alone : List ℤ → Field → Type 0
Alone zs f = field_fault zs f.row.field ≡ coding_fault zs f

abbrev numbers_of : List Field → List ℕ
numbers_of [] = []
numbers_of (f ∷ fs) = f.row.field ∷ numbers_of fs

-- some of them before others
part : (zs : List ℤ) (fs : List Field) (ks : List ℕ) → All (Alone zs) fs → fault_at zs (numbers_of fs ++ ks) ≡ after (check_of zs fs) (fault_at zs ks)
unfolding check_of
part zs [] ks h = refl
part zs (f ∷ fs) ks h =
    next zs f.row.field (numbers_of fs ++ ks) h.0
    ∙ ap (after (coding_fault zs f)) (part zs fs ks h.1)
    ∙ sym (after_assoc (coding_fault zs f) (check_of zs fs) (fault_at zs ks))

output_part : (zs : List ℤ) (ks : List ℕ) → fault_at zs (5 ∷ 6 ∷ 7 ∷ 8 ∷ 9 ∷ 10 ∷ ks) ≡ after (check_of zs output) (fault_at zs ks)
unfolding first_of places_at row_holds some_of table timing output picture dnr
output_part zs ks =
    part zs output ks (
      alone_rows_lem 5 _ (encode-sound _ _),
      (
        alone_rows_lem 6 _ (encode-sound _ _),
        (
          alone_rows_lem 7 _ (encode-sound _ _),
          (alone_rows_lem 8 _ (encode-sound _ _), (alone_rows_lem 9 _ (encode-sound _ _), (alone_rows_lem 10 _ (encode-sound _ _), tt))),
        ),
      ),
    )

dnr_part : (zs : List ℤ) (ks : List ℕ) → fault_at zs (18 ∷ 19 ∷ 20 ∷ 21 ∷ 22 ∷ 23 ∷ 24 ∷ 25 ∷ ks) ≡ after (check_of zs dnr) (fault_at zs ks)
unfolding first_of places_at row_holds some_of table timing output picture dnr
dnr_part zs ks =
    part zs dnr ks (
      alone_rows_lem 18 _ (encode-sound _ _),
      (
        alone_rows_lem 19 _ (encode-sound _ _),
        (
          alone_rows_lem 20 _ (encode-sound _ _),
          (
            alone_rows_lem 21 _ (encode-sound _ _),
            (
              alone_rows_lem 22 _ (encode-sound _ _),
              (alone_rows_lem 23 _ (encode-sound _ _), (alone_rows_lem 24 _ (encode-sound _ _), (alone_rows_lem 25 _ (encode-sound _ _), tt))),
            ),
          ),
        ),
      ),
    )

-- ---- brightness and sharpness have must-be-zero bits

-- the picture's fields without those bits
abbrev settable : List Field
settable = contrast ∷ u_scale ∷ v_scale ∷ hue ∷ brightness ∷ sharpness ∷ []

-- which are never at fault
picture_fault : (zs : List ℤ) → length zs ≡ number_count → check_of zs settable ≡ check_of zs picture
unfolding check_of picture
picture_fault zs size =
    sym (ap₂ (λ (j k : Judged ℕ).
    after (coding_fault zs contrast) (after (coding_fault zs u_scale) (after (coding_fault zs v_scale) (after (coding_fault zs hue)
    (after (coding_fault zs brightness) (after (fault_of 16 j) (after (coding_fault zs sharpness) (after (fault_of 17 k) (good tt)))))))))
    (brightness-zero zs size) (sharpness-zero zs size))

picture_part : (zs : List ℤ) (ks : List ℕ) → length zs ≡ number_count
    → fault_at zs (12 ∷ 13 ∷ 14 ∷ 15 ∷ 16 ∷ 17 ∷ ks) ≡ after (check_of zs picture) (fault_at zs ks)
unfolding first_of places_at row_holds some_of table timing output picture dnr
picture_part zs ks size =
    part zs settable ks (
      alone_rows_lem 12 _ (encode-sound _ _),
      (
        alone_rows_lem 13 _ (encode-sound _ _),
        (
          alone_rows_lem 14 _ (encode-sound _ _),
          (
            alone_rows_lem 15 _ (encode-sound _ _),
            (
              zero_rows 16 _ (coding_of zs brightness_zero) (encode-sound _ _) (brightness-zero zs size),
              (zero_rows 17 _ (coding_of zs sharpness_zero) (encode-sound _ _) (sharpness-zero zs size), tt),
            ),
          ),
        ),
      ),
    )
    ∙ ap (λ (v : Found). after v (fault_at zs ks)) (picture_fault zs size)

-- ---- fields with conflicts

-- 3 and 4
oversampling_fault : (zs : List ℤ) → field_fault zs 3 ≡ after (coding_fault zs oversampling) (fault_where (square_with_oversampling zs) 5 3)
unfolding first_of places_at row_holds some_of table timing output picture dnr
oversampling_fault zs = square_rows 3 (coding_of zs oversampling) (square_with_oversampling zs) (encode-sound _ _)

pedestal_fault : (zs : List ℤ) → field_fault zs 4 ≡ after (coding_fault zs pedestal) (fault_where (pedestal_with_pal zs) 6 4)
unfolding first_of places_at row_holds some_of table timing output picture dnr
pedestal_fault zs = pedestal_rows 4 (coding_of zs pedestal) (pedestal_with_pal zs) (encode-sound _ _)

-- 11
abbrev pub signal_fault : List ℤ → Found
signal_fault zs =
    after (fault_where (signalling_conflict (given zs standard.row) (numbers_in zs signalling)) 7 11)
    (fault_of 11 (signalling_codes (numbers_in zs signalling)))

signal_fault_lem : (zs : List ℤ) → field_fault zs 11 ≡ signal_fault zs
unfolding first_of places_at row_holds some_of table timing output picture dnr
signal_fault_lem zs =
    let j = signalling_codes (numbers_in zs signalling) in
    row_before (signalling_conflict (given zs standard.row) (numbers_in zs signalling)) 7 11 _
    ∙ ap (after (fault_where (signalling_conflict (given zs standard.row) (numbers_in zs signalling)) 7 11))
    (alone_rows_lem 11 j (signalling-sound (numbers_in zs signalling)))

-- 26 and 27
abbrev pub curve_fault : List ℤ → Block → Found
curve_fault zs b = fault_of b.field (curve_codes (numbers_in zs b))

curve_a_fault : (zs : List ℤ) → field_fault zs 26 ≡ curve_fault zs curve_a
unfolding first_of places_at row_holds some_of table timing output picture dnr
curve_a_fault zs = alone_rows_lem 26 (curve_codes (numbers_in zs curve_a)) (curve-sound (numbers_in zs curve_a))

curve_b_fault : (zs : List ℤ) → field_fault zs 27 ≡ curve_fault zs curve_b
unfolding first_of places_at row_holds some_of table timing output picture dnr
curve_b_fault zs = alone_rows_lem 27 (curve_codes (numbers_in zs curve_b)) (curve-sound (numbers_in zs curve_b))

-- 28 has none
word_fault_lem : (zs : List ℤ) → field_fault zs 28 ≡ good tt
unfolding first_of places_at row_holds some_of table timing output picture dnr
word_fault_lem zs = refl

-- ---- the two parts of the table

-- standard and square pixel, then 4x oversampling with its conflict
timing_turn : (a b c w r : Found) → after a (after b (after (after c w) r)) ≡ after (after a (after b (after c (good (tt {0}))))) (after w r)
timing_turn (refused_at n f) b c w r = refl
timing_turn (good u) (refused_at n f) c w r = refl
timing_turn (good u) (good x) (refused_at n f) w r = refl
timing_turn (good u) (good x) (good y) w r = refl

timing_part : (zs : List ℤ) (ks : List ℕ)
    → fault_at zs (1 ∷ 2 ∷ 3 ∷ ks) ≡ after (check_of zs timing) (after (fault_where (square_with_oversampling zs) 5 3) (fault_at zs ks))
unfolding check_of first_of places_at row_holds some_of table timing output picture dnr
timing_part zs ks =
    next zs 1 (2 ∷ 3 ∷ ks) (alone_rows_lem 1 (coding_of zs standard) (encode-sound _ _))
    ∙ ap (after (coding_fault zs standard))
    (next zs 2 (3 ∷ ks) (alone_rows_lem 2 (coding_of zs square_pixel) (encode-sound _ _))
    ∙ ap (after (coding_fault zs square_pixel)) (next zs 3 ks (oversampling_fault zs)))
    ∙ timing_turn (coding_fault zs standard) (coding_fault zs square_pixel) (coding_fault zs oversampling)
    (fault_where (square_with_oversampling zs) 5 3) (fault_at zs ks)

-- the faults of the first part in turn
abbrev pub first_faults : List ℤ → Found
first_faults zs =
    after (check_of zs timing) (after (fault_where (square_with_oversampling zs) 5 3)
    (after (coding_fault zs pedestal) (after (fault_where (pedestal_with_pal zs) 6 4) (check_of zs output))))

pub first_part_lem : (zs : List ℤ) → fault_in zs first_part ≡ first_faults zs
unfolding fault_in first_part order_of timing output
first_part_lem zs =
    timing_part zs (4 ∷ 5 ∷ 6 ∷ 7 ∷ 8 ∷ 9 ∷ 10 ∷ [])
    ∙ ap (λ (v : Found). after (check_of zs timing) (after (fault_where (square_with_oversampling zs) 5 3) v))
    (next zs 4 (5 ∷ 6 ∷ 7 ∷ 8 ∷ 9 ∷ 10 ∷ []) (pedestal_fault zs)
    ∙ after_assoc (coding_fault zs pedestal) (fault_where (pedestal_with_pal zs) 6 4) (fault_at zs (5 ∷ 6 ∷ 7 ∷ 8 ∷ 9 ∷ 10 ∷ []))
    ∙ ap (λ (v : Found). after (coding_fault zs pedestal) (after (fault_where (pedestal_with_pal zs) 6 4) v))
    (output_part zs [] ∙ ap (after (check_of zs output)) (no_faults zs) ∙ after-good (check_of zs output)))

-- and of the second
abbrev pub second_faults : List ℤ → Found
second_faults zs =
    after (signal_fault zs) (after (check_of zs picture) (after (check_of zs dnr) (after (curve_fault zs curve_a) (after (curve_fault zs curve_b) (good tt)))))

pub second_part_lem : (zs : List ℤ) → length zs ≡ number_count → fault_in zs second_part ≡ second_faults zs
unfolding fault_in second_part order_of picture dnr
second_part_lem zs size =
    next zs 11 _ (signal_fault_lem zs)
    ∙ ap (after (signal_fault zs))
    (picture_part zs _ size
    ∙ ap (after (check_of zs picture))
    (dnr_part zs (26 ∷ 27 ∷ 28 ∷ [])
    ∙ ap (after (check_of zs dnr))
    (next zs 26 _ (curve_a_fault zs)
    ∙ ap (after (curve_fault zs curve_a))
    (next zs 27 _ (curve_b_fault zs) ∙ ap (after (curve_fault zs curve_b)) (next zs 28 [] (word_fault_lem zs) ∙ no_faults zs)))))

-- ---- the whole table

-- the check is the first part's, then the second's
pub check_parts : (zs : List ℤ) → after (fault_in zs first_part) (fault_in zs second_part) ≡ check zs
unfolding fault_in check order first_part second_part order_of table timing output picture dnr
check_parts zs =
    sym (ap (λ (l : List Place). first_of (row_holds zs) l tt) (places-append rows_at (order_of first_part) (order_of second_part))
    ∙ first-append (row_holds zs) (places_in rows_at (order_of first_part)) (places_in rows_at (order_of second_part)) tt)
