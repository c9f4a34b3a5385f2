-- Document 01, "Cases on each side", those marked P: one table, and what it is for a row to hold.
use Rattle.std.specs.Prelude.{◌≡◌, Bool, true, false, List, [], ◌∷◌, ℕ, ℤ, pos, neg_ℤ}
use Rattle.refusals.specs.Refusal.{accepted, refused}
use Rattle.field_table.specs.Coding.{Field, encode}
use Rattle.adv7194_table.specs.Fields.{hue, brightness, contrast, u_scale, v_scale}
use Rattle.adv7194_gamma.specs.Curve.{curve_of}
use Rattle.adv7194_subcarrier.specs.declared.Standard.{Standard}
use Rattle.adv7194_subcarrier.specs.declared.Standard.TheVariants.{Ntsc, Pal}
use Rattle.adv7194_subcarrier.specs.Subcarrier.{word_of}
use Rattle.adv7194_subcarrier.specs.Answers.{is_pal}

-- a worked example
pub data Example : Type 0 where
  -- a setting and its code
  code : Field → ℤ → ℕ → Example
  -- a setting and the number of its refusal
  refusal : Field → ℤ → ℕ → Example
  -- a ratio p/q and the bytes of its curve
  curve : ℕ → ℕ → List ℕ → Example
  -- a standard, square pixel or not, and the subcarrier word
  word : Standard → Bool → ℕ → Example

-- it holds of the definitions
abbrev pub Holds : Example → Type 0
Holds (code f s c) = encode f s ≡ accepted c
Holds (refusal f s n) = encode f s ≡ refused n
Holds (curve p q bytes) = curve_of (pos p) (pos q) ≡ accepted bytes
Holds (word standard square w) = word_of (is_pal standard) square ≡ w

-- every row of a table holds
infixr 5 ◌and◌
pub data AllHold : List Example → Type 0 where
  none : AllHold []
  ◌and◌ : {e : Example} {es : List Example} → Holds e → AllHold es → AllHold (e ∷ es)

-- the table
abbrev pub examples : List Example
examples =
    code hue (pos 40) 0x97
    ∷ code hue (neg_ℤ (pos 40)) 0x69
    ∷ code hue (neg_ℤ (pos 225)) 0x00
    ∷ code hue (pos 224) 0xFF
    ∷ refusal hue (pos 225) 3
    ∷ code brightness (pos 150) 0x1E
    ∷ code brightness (neg_ℤ (pos 75)) 0x71
    ∷ code brightness (neg_ℤ (pos 70)) 0x72
    ∷ code contrast (pos 1180) 0x97
    ∷ code u_scale (pos 1996) 0xFF
    ∷ refusal u_scale (pos 1997) 3
    ∷ code v_scale (pos 1996) 0xFF
    ∷ refusal v_scale (pos 1997) 3
    ∷ curve 1 2 (76 ∷ 120 ∷ 150 ∷ 174 ∷ 196 ∷ 215 ∷ 232 ∷ [])
    ∷ word Ntsc false 0x21F07C1F
    ∷ word Pal false 0x2A098ACB
    ∷ word Ntsc true 0x25555555
    ∷ word Pal true 0x26798C0C
    ∷ []
