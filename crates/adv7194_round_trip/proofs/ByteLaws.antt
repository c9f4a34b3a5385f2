-- Whole registers of an image: bytes that are there, curves that are coded as their bytes. Assumes nothing.
use mathlib.Core.Path.{◌≡◌, refl, sym, ap₂, ◌∙◌}
use mathlib.Core.List.{List, [], ◌∷◌}
use Prim.Native.Nat.{ℕ, zero, suc, ◌<◌}
use native.Mathlib.Omega.{arith}
use lib.ListN.{length, get_or}
use Rattle.bits.specs.Fields.{field}
use Rattle.refusals.specs.Refusal.{accepted}
use Rattle.field_table.specs.Blocks.{byte_writes, slice}
use Rattle.field_table.proofs.ApartLaws.{AllThere}
use Rattle.adv7194_gamma.proofs.SettingLaws.{curve-back}
use Rattle.adv7194_gamma.specs.Curve.{curve_codes, curve_numbers}
use Rattle.adv7194_round_trip.specs.RoundTrip.{Bytes}

-- a byte is all of its eight bits
whole : (b : ℕ) → b < 256 → field 0 8 b ≡ b
whole b h = omega arith

-- the bytes of an image from a register on are there
pub bytes_there : (image : List ℕ) → Bytes image → (r n : ℕ) → AllThere image (byte_writes r (slice 0 image r n))
unfolding byte_writes slice
bytes_there image b r zero = tt
bytes_there image b r (suc n) = (whole (get_or image r 0) (b.byte r), bytes_there image b (suc r) n)

-- and bytes that are there are the image's
pub there_bytes : (image : List ℕ) → Bytes image → (r : ℕ) (cs : List ℕ) → AllThere image (byte_writes r cs) → slice 0 image r (length cs) ≡ cs
unfolding byte_writes slice
there_bytes image b r [] h = refl
there_bytes image b r (c ∷ cs) h =
    ap₂ (λ (x : ℕ) (l : List ℕ). x ∷ l) (sym (whole (get_or image r 0) (b.byte r)) ∙ h.0) (there_bytes image b (suc r) cs h.1)

-- each of them is a byte
bytes_small : (image : List ℕ) → Bytes image → (r n i : ℕ) → get_or (slice 0 image r n) i 0 < 256
unfolding slice
bytes_small image b r zero i = omega arith
bytes_small image b r (suc n) zero = b.byte r
bytes_small image b r (suc n) (suc i) = bytes_small image b (suc r) n i

-- so a curve that is read is coded as its bytes
pub curve_coded : (image : List ℕ) → Bytes image → (r n : ℕ) → curve_codes (curve_numbers (slice 0 image r n)) ≡ accepted (slice 0 image r n)
curve_coded image b r n = curve-back (slice 0 image r n) (bytes_small image b r n)
