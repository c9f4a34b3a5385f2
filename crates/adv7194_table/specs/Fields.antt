-- Document 01, "Fields, in their fixed order" and "Codings": the table of the fields that hold one number, a row a field, and a row for must-be-zero bits.
-- Everything that depends on a field's place, width, range or coding is computed from it. Fields are grouped as they are checked and read.
use Rattle.std.specs.Prelude.{List, [], ◌∷◌, ℕ, ℤ, pos, neg_ℤ}
use Rattle.field_table.specs.Coding.{Coding, plain, offset, sign_magnitude, rounded, rounded_signed, Field}

-- how many numbers a set of settings is, in field order: signalling has five, a curve ten, every other field one
abbrev pub number_count : ℕ
number_count = 49

-- field n, whose setting is number k: w bits from bit b of register r up, settings from the lowest to the highest, the refusal of other codes, the coding
abbrev row : ℕ → ℕ → ℕ → ℕ → ℕ → ℤ → ℤ → ℕ → Coding → Field
row n k r b w lowest highest refusal c =
    record { row = record { field = n; index = k; register = r; bit = b; width = w; low = lowest; high = highest; outside = refusal }; coding = c }

-- a field whose setting is its code: other codes are reserved
abbrev code : ℕ → ℕ → ℕ → ℕ → ℕ → ℕ → ℕ → Field
code n k r b w lowest highest = row n k r b w (pos lowest) (pos highest) 4 plain

-- yes or no, a yes being bit 1
abbrev yes_no : ℕ → ℕ → ℕ → ℕ → Field
yes_no n k r b = code n k r b 1 0 1

-- must-be-zero bits, counted to field n: no number of the settings is theirs
abbrev zero_bits : ℕ → ℕ → ℕ → ℕ → Field
zero_bits n r b w = code n 0xFF r b w 0 0

-- ---- the fields whose setting isn't their code

-- 8, clamp delay, in clocks: magnitude in bits 5-4, bit 6 only for a negative delay
abbrev pub clamp_delay : Field
clamp_delay = row 8 7 0x05 4 3 (neg_ℤ (pos 3)) (pos 3) 4 sign_magnitude

-- contrast and the scales, in thousandths: the whole number nearest to 128 times the setting over 1000
abbrev pub per_thousand : Coding
per_thousand = rounded 0 128 1000

abbrev thousandths : ℕ → ℕ → ℕ → ℕ → Field
thousandths n k r highest = row n k r 0 8 (pos 0) (pos highest) 3 per_thousand

-- 12, contrast
abbrev pub contrast : Field
contrast = thousandths 12 15 0x1D 1500

-- 13, U scale
abbrev pub u_scale : Field
u_scale = thousandths 13 16 0x1E 1996

-- 14, V scale
abbrev pub v_scale : Field
v_scale = thousandths 14 17 0x1F 1996

-- 15, hue, in tenths of a degree: 128 plus the whole number nearest to 256 t / 450
abbrev pub hue : Field
hue = row 15 18 0x20 0 8 (neg_ℤ (pos 225)) (pos 224) 3 (rounded 128 256 450)

-- 16, brightness, in tenths of an IRE: the whole number nearest to 2015631 t / 10000000, as seven-bit two's complement
abbrev pub brightness : Field
brightness = row 16 19 0x21 0 7 (neg_ℤ (pos 75)) (pos 150) 3 (rounded_signed 2015631 10000000)

-- 17, sharpness, in steps: the step plus 6
abbrev pub sharpness : Field
sharpness = row 17 20 0x22 0 4 (neg_ℤ (pos 6)) (pos 6) 3 (offset 6)

-- ---- the fields that others depend on

-- 1, standard: 0 NTSC, 1 PAL
abbrev pub standard : Field
standard = code 1 0 0x00 0 2 0 1

-- 2, square pixel
abbrev pub square_pixel : Field
square_pixel = yes_no 2 1 0x02 4

-- 3, 4x oversampling
abbrev pub oversampling : Field
oversampling = yes_no 3 2 0x01 6

-- 4
abbrev pub pedestal : Field
pedestal = yes_no 4 3 0x02 3

-- 23, DNR input
abbrev pub dnr_input : Field
dnr_input = code 23 26 0x25 0 3 1 4

-- ---- the groups, in field order

-- 1 to 3
unfoldable pub timing : List Field
timing = standard ∷ square_pixel ∷ oversampling ∷ []

-- 5 Y level, 6 UV level, 7 RGB sync, 8 clamp delay, 9 clamp in back porch, 10 subcarrier phase
unfoldable pub output : List Field
output = yes_no 5 4 0x05 0 ∷ code 6 5 0x05 1 2 0 2 ∷ yes_no 7 6 0x05 3 ∷ clamp_delay ∷ yes_no 9 8 0x05 7 ∷ code 10 9 0x10 0 8 0 255 ∷ []

-- 12 contrast, 13 U scale, 14 V scale, 15 hue, 16 brightness with bit 7 of 21 zero, 17 sharpness with bits 7-4 of 22 zero
unfoldable pub picture : List Field
picture = contrast ∷ u_scale ∷ v_scale ∷ hue ∷ brightness ∷ zero_bits 16 0x21 7 1 ∷ sharpness ∷ zero_bits 17 0x22 4 4 ∷ []

-- 18 DNR border gain, 19 data gain, 20 threshold, 21 border area, 22 block size, 23 input, 24 mode, 25 block offset
unfoldable pub dnr : List Field
dnr =
    code 18 21 0x23 0 4 0 8 ∷ code 19 22 0x23 4 4 0 8
    ∷ code 20 23 0x24 0 6 0 63 ∷ yes_no 21 24 0x24 6 ∷ yes_no 22 25 0x24 7
    ∷ dnr_input ∷ yes_no 24 27 0x25 3 ∷ code 25 28 0x25 4 4 0 15 ∷ []
