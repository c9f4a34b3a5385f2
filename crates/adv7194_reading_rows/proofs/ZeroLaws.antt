-- Must-be-zero bits are read by their mask: a byte that has none of them set is read as 0, any other is refused 4. Assumes nothing.
use mathlib.Core.Path.{◌≡◌, refl, sym, ap, ◌∙◌}
use mathlib.Core.List.{List}
use Prim.Native.Nat.{ℕ, zero, suc, ◌-◌, ◌*◌, ◌%◌, ◌^◌, ◌≤◌, ◌<◌}
use native.Mathlib.Nat.{zero-mul, div-eq_of_lt, mod-eq_of_lt}
use native.Mathlib.Omega.{arith}
use lib.Bits.{bit_and, and_high}
use lib.Pow.{pow_pos}
use lib.IntN.{pos}
use lib.ListN.{length, get_or, get_or-eq_default}
use borrow.Author.Tests.{lt-ltb, le-ltb}
use Rattle.bits.specs.Fields.{field}
use Rattle.bits.proofs.FieldLaws.{field_lt}
use Rattle.refusals.specs.Refusal.{accepted, refused}
use Rattle.field_table.specs.declared.row.Row.{Row}
use Rattle.field_table.specs.Coding.{plain_of, decode}
use Rattle.field_table.specs.Walk.{held, reading_of}
use Rattle.field_table.proofs.PlainLaws.{row_fits_lem, read_in, read_out, refused-code}
use Rattle.adv7194_table.specs.Masks.{zero_masks}
use Rattle.adv7194_reading_rows.specs.Zero.{ZeroBits}

-- a field of 0
zero_field : (k w : ℕ) → field k w 0 ≡ 0
zero_field k w = ap (λ (x : ℕ). x % 2 ^ w) (div-eq_of_lt (pow_pos k)) ∙ mod-eq_of_lt (pow_pos w)

module _ (r : Row) (h : ZeroBits r) where
  -- a code that is 0
  read_clear : (c : ℕ) → c ≡ 0 → accepted (pos 0) ≡ decode (plain_of r) c
  read_clear c e = rw e (read_in r (row_fits_lem r h.fits) 0 (rw (h.low, h.high)))

  -- a code that isn't
  read_set : (c : ℕ) → c < 2 ^ r.width → (c ≡ 0 → ⊥) → refused 4 ≡ decode (plain_of r) c
  read_set zero l e = absurd (e refl)
  read_set (suc c) l e = read_out r (row_fits_lem r h.fits) (suc c) 4
      (rw (h.low, h.high, le-ltb (suc c) 0 (omega arith), lt-ltb 0 (suc c) (omega arith))) (sym h.reserved ∙ refused-code r (suc c) l)

  module _ (image : List ℕ) {k m : ℕ} (at : k ≡ r.register) where
    -- the bits that the mask has of the register
    masked : m ≡ get_or zero_masks k 0 → bit_and (get_or image k 0) m ≡ held image r * 2 ^ r.bit
    masked e = rw (e, at, h.mask) (and_high (get_or image r.register 0) r.width r.bit)

    -- none of them is set
    pub clear_read : m ≡ get_or zero_masks k 0 → bit_and (get_or image k 0) m ≡ 0 → accepted (pos 0) ≡ reading_of image (plain_of r)
    clear_read e z = read_clear (held image r) (none (held image r) (sym (masked e) ∙ z))
      where
        none : (c : ℕ) → c * 2 ^ r.bit ≡ 0 → c ≡ 0
        none zero q = refl
        none (suc c) q = absurd (omega (arith, pow_pos r.bit))

    -- one is
    pub set_read : m ≡ get_or zero_masks k 0 → (bit_and (get_or image k 0) m ≡ 0 → ⊥) → refused 4 ≡ reading_of image (plain_of r)
    set_read e z =
        read_set (held image r) (field_lt r.bit r.width (get_or image r.register 0))
        (λ q. z (masked e ∙ ap (λ (c : ℕ). c * 2 ^ r.bit) q ∙ zero-mul (2 ^ r.bit)))

  -- the image has no such register
  pub past_read : (image : List ℕ) {k : ℕ} → k ≡ r.register → length image ≤ k → accepted (pos 0) ≡ reading_of image (plain_of r)
  past_read image at l =
      read_clear (held image r)
      (ap (field r.bit r.width) (ap (λ (j : ℕ). get_or image j 0) (sym at) ∙ get_or-eq_default image 0 l) ∙ zero_field r.bit r.width)
