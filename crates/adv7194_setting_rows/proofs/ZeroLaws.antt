-- Clearing the must-be-zero bits of a register is writing zeros in their row. Assumes nothing.
use mathlib.Core.Path.{◌≡◌, sym, ap, ◌∙◌, subst}
use mathlib.Core.List.{List}
use Prim.Native.Nat.{ℕ, ◌-◌, ◌^◌, ◌≤◌, ◌<◌}
use native.Mathlib.Omega.{arith}
use lib.Bits.{bit_and}
use lib.Dec.{eqb, eqb→eq}
use lib.IntN.{ℤ, pos}
use lib.ListN.{length, get_or, set, get_or-eq_default}
use lib.Seq.{set_out}
use Rattle.bits.specs.Fields.{with_field}
use Rattle.rounding.proofs.Range.{below_at}
use Rattle.refusals.specs.Refusal.{Judged, accepted, value_or}
use Rattle.refusals.specs.Verdict.{Verdict, after, fault_of}
use Rattle.refusals.proofs.VerdictLaws.{after-good}
use Rattle.field_table.specs.Rows.{row_of}
use Rattle.field_table.specs.Coding.{Field, plain_of, code_by, encode}
use Rattle.field_table.specs.Writes.{put}
use Rattle.field_table.specs.Walk.{coding_of, coding_fault, write_of}
use Rattle.adv7194_table.specs.Fields.{number_count, timing, output, picture, dnr}
use Rattle.adv7194_table.specs.Table.{table}
use Rattle.adv7194_table.specs.Masks.{mask_where, zero_mask, zero_masks}

-- bit 7 of 21, bits 7-4 of 22
abbrev pub brightness_zero : Field
brightness_zero = plain_of (row_of 0x10_FF_21_71_000_000_04)

abbrev pub sharpness_zero : Field
sharpness_zero = plain_of (row_of 0x11_FF_22_44_000_000_04)

-- they have no number among the settings'
no_number_lem : (zs : List ℤ) → length zs ≡ number_count → get_or zs 0xFF (pos 0) ≡ pos 0
no_number_lem zs size = get_or-eq_default zs (pos 0) (omega arith)

-- so their code is 0
pub brightness-zero : (zs : List ℤ) → length zs ≡ number_count → coding_of zs brightness_zero ≡ accepted 0
unfolding encode code_by
brightness-zero zs size = ap (encode brightness_zero) (no_number_lem zs size)

pub sharpness-zero : (zs : List ℤ) → length zs ≡ number_count → coding_of zs sharpness_zero ≡ accepted 0
unfolding encode code_by
sharpness-zero zs size = ap (encode sharpness_zero) (no_number_lem zs size)

-- bit 7 cleared, bits 7-4 cleared: computed at every byte
bit_7 : (b : ℕ) → b < 256 → bit_and b 0x7F ≡ with_field 7 1 b 0
bit_7 b h = eqb→eq (bit_and b 0x7F) (with_field 7 1 b 0) (below_at (λ k. eqb (bit_and k 0x7F) (with_field 7 1 k 0)) 256 tt b h)

bits_7_4 : (b : ℕ) → b < 256 → bit_and b 0x0F ≡ with_field 4 4 b 0
bits_7_4 b h = eqb→eq (bit_and b 0x0F) (with_field 4 4 b 0) (below_at (λ k. eqb (bit_and k 0x0F) (with_field 4 4 k 0)) 256 tt b h)

-- a register without its must-be-zero bits
abbrev pub cleared : List ℕ → ℕ → List ℕ
cleared image r = set image r (bit_and (get_or image r 0) (255 - get_or zero_masks r 0))

-- the bits that these rows clear
pub brightness-cleared : (zs : List ℤ) (image : List ℕ) {l : List ℕ} → length zs ≡ number_count → get_or image 0x21 0 < 2 ^ 8 → l ≡ cleared image 0x21
    → l ≡ put image (write_of zs brightness_zero)
unfolding zero_masks zero_mask mask_where table timing output picture dnr
brightness-cleared zs image size small e = rw (e, brightness-zero zs size, bit_7 (get_or image 0x21 0) small)

pub sharpness-cleared : (zs : List ℤ) (image : List ℕ) {l : List ℕ} → length zs ≡ number_count → get_or image 0x22 0 < 2 ^ 8 → l ≡ cleared image 0x22
    → l ≡ put image (write_of zs sharpness_zero)
unfolding zero_masks zero_mask mask_where table timing output picture dnr
sharpness-cleared zs image size small e = rw (e, sharpness-zero zs size, bits_7_4 (get_or image 0x22 0) small)
