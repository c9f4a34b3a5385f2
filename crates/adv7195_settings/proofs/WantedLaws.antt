-- The wanted image of any settings is demand 2's image, bit by bit, and no other is; it is as long as the starting image, bytes where that is,
-- and the same in the registers that 001 doesn't name. Assumes nothing.
use mathlib.Core.Path.{◌≡◌, sym, ◌∙◌, subst}
use mathlib.Core.Bool.{true, false, not, and-false}
use mathlib.Core.List.{List}
use Prim.Native.Nat.{ℕ}
use lib.Dec.{T, ltb, ltb→lt}
use lib.IntN.{ℤ}
use lib.ListN.{length, get_or}
use Rattle.bits.specs.Fields.{bit}
use Rattle.bits.proofs.FlagLaws.{first}
use Rattle.bits.proofs.SameLaws.{same-registers}
use Rattle.field_table.specs.Writes.{puts}
use Rattle.field_table.proofs.WriteLaws.{AllFit, puts-length, puts-bit}
use Rattle.field_table.proofs.ApartLaws.{puts-held}
use Rattle.field_table.proofs.RoundTripLaws.{plain_fit, all_apart_lem}
use Rattle.field_table.proofs.FitLaws.{FitsIn, fields_fit, all_fit, Bytes, puts-bytes, puts_stay}
use Rattle.field_table.proofs.MaskLaws.{kept-bit, zero_bit_lem}
use Rattle.adv7195_bus.specs.Kind.{register_count, unnamed}
use Rattle.adv7195_bus.specs.Rules.{writable}
use Rattle.adv7195_settings.specs.Fields.{fields}
use Rattle.adv7195_settings.specs.Numbers.{parts_of}
use Rattle.adv7195_settings.specs.Wanted.{setting_writes, wanted_by, must_be_zero, field_mask, zero_mask, Demanded}
use Rattle.adv7195_settings.proofs.TableLaws.{fields-apart, fields-plain, fields-zero, fields-writable}
use Rattle.bits.specs.Lists.{Every}

-- ---- what settings set

-- every value fits its bits, and these are bits of a register that may be written
writes_fit : (zs : List ℤ) → Every (FitsIn writable) (setting_writes zs)
writes_fit zs = fields_fit writable (parts_of zs) fields fields-writable (plain_fit fields fields-plain)

-- the same as the laws of writes have it
writes_inside : (zs : List ℤ) → AllFit register_count (setting_writes zs)
writes_inside zs =
    all_fit writable register_count (λ r t. ltb→lt r register_count (first (ltb r register_count) (not (unnamed r)) t)) (setting_writes zs) (writes_fit zs)

-- ---- the wanted image

-- it is as long as the starting image
pub wanted-length : (image : List ℕ) (zs : List ℤ) → length (wanted_by image zs) ≡ length image
unfolding wanted_by
wanted-length image zs = puts-length image (setting_writes zs)

-- it is bytes where the starting image is
pub wanted-bytes : (image : List ℕ) (zs : List ℤ) → Bytes image → Bytes (wanted_by image zs)
unfolding wanted_by
wanted-bytes image zs b = puts-bytes writable (setting_writes zs) image (writes_fit zs) b

-- a register that 001 doesn't name is as found
pub wanted-kept : (image : List ℕ) (zs : List ℤ) (r : ℕ) → unnamed r ≡ true → get_or (wanted_by image zs) r 0 ≡ get_or image r 0
unfolding wanted_by
wanted-kept image zs r e = puts_stay writable (setting_writes zs) image r (writes_fit zs) (rw e (and-false (ltb r register_count)))

-- ---- demand 2

-- the wanted image of any settings is as demand 2 has it
pub demanded : (image : List ℕ) (zs : List ℤ) → length image ≡ register_count → Demanded image zs (wanted_by image zs)
unfolding wanted_by field_mask zero_mask
demanded image zs size =
    let ws = setting_writes zs in
    let fit = subst (λ (n : ℕ). AllFit n ws) (sym size) (writes_inside zs) in
    let held = puts-held image ws (subst T (all_apart_lem (parts_of zs) fields) fields-apart) fit in
    record {
      size = puts-length image ws;
      bits = λ r i hi. puts-bit image ws r i hi fit;
      fields = held;
      zero = λ r i hr hi e. zero_bit_lem must_be_zero (parts_of zs) fields (puts image ws) r i fields-apart fields-zero held e;
      kept = λ r i hr hi e. puts-bit image ws r i hi fit ∙ kept-bit must_be_zero (parts_of zs) fields (bit i (get_or image r 0)) r i fields-apart e;
    }

-- no two images of bytes are
pub one_demanded : (image : List ℕ) (zs : List ℤ) (a b : List ℕ) → Bytes a → Bytes b → Demanded image zs a → Demanded image zs b → a ≡ b
one_demanded image zs a b ha hb p q = same-registers a b (p.size ∙ sym q.size) ha hb (λ r i h. p.bits r i h ∙ sym (q.bits r i h))
