-- Document 01, "Fields, in their fixed order": the table of names and units, by the number of the field. Number 0, which stands for no field, is the image's.
use Rattle.std.specs.Prelude.{List, [], ◌∷◌, ℕ, get_or}
use Prim.Native.String.{String}

-- a row: the field's name, the words of the settings 0 and 1 where they have some, and the unit of any other setting, with the space before it
pub record Named : Type 0 where
  pub name : String
  pub zero : String
  pub one : String
  pub unit : String

-- a row by its four columns
abbrev row : String → String → String → String → Named
row n a b u = record { name = n; zero = a; one = b; unit = u }

-- the table, fields 1 to 28 after the image
unfoldable pub names : List Named
names =
    row "image" "" "" ""
    ∷ row "standard" "NTSC" "PAL" ""
    ∷ row "square pixel" "no" "yes" ""
    ∷ row "4x oversampling" "no" "yes" ""
    ∷ row "pedestal" "no" "yes" ""
    ∷ row "Y level" "Betacam" "SMPTE" ""
    ∷ row "UV level" "" "" ""
    ∷ row "RGB sync" "no" "yes" ""
    ∷ row "clamp delay" "" "" " clocks"
    ∷ row "clamp in back porch" "no" "yes" ""
    ∷ row "subcarrier phase" "" "" ""
    ∷ row "signalling" "" "" ""
    ∷ row "contrast" "" "" " thousandths"
    ∷ row "U scale" "" "" " thousandths"
    ∷ row "V scale" "" "" " thousandths"
    ∷ row "hue" "" "" " tenths of a degree"
    ∷ row "brightness" "" "" " tenths of an IRE"
    ∷ row "sharpness" "" "" " steps"
    ∷ row "DNR border gain" "" "" ""
    ∷ row "DNR data gain" "" "" ""
    ∷ row "DNR threshold" "" "" ""
    ∷ row "DNR border area" "no" "yes" ""
    ∷ row "DNR block size" "no" "yes" ""
    ∷ row "DNR input" "" "" ""
    ∷ row "DNR mode" "no" "yes" ""
    ∷ row "DNR block offset" "" "" ""
    ∷ row "gamma curve A" "" "" ""
    ∷ row "gamma curve B" "" "" ""
    ∷ row "subcarrier word" "" "" ""
    ∷ []

-- the row of field f; a number that is no field's has no name
abbrev pub named : ℕ → Named
named f = get_or names f (row "" "" "" "")
