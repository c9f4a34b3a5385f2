-- Document 01, "Codings": how a setting becomes the code that stands in a field's bits, and which setting a code is read as.
use Rattle.std.specs.Prelude.{Bool, false, cond, ◌&&◌, ◌||◌, List, [], ◌∷◌, ℕ, suc, ◌+◌, ◌-◌, ◌*◌, ◌^◌, max, eqb, ltb, ℤ, pos, negsuc, neg_ℤ, nat_abs, ◌+ℤ◌}
use Rattle.std.specs.Int.Signed.{lt_z, non_neg}
use Rattle.refusals.specs.Refusal.{Judged, accepted, refused}
use Rattle.rounding.specs.First.{first}
use Rattle.rounding.specs.Nearest.{nearest}
use Rattle.field_table.specs.declared.row.Row.{Row}
use Rattle.field_table.specs.Rows.{row_of, refusal_outside}

-- the kinds of coding
pub data Coding : Type 0 where
  -- the setting is the code
  plain : Coding
  -- the setting plus a number
  offset : ℕ → Coding
  -- the magnitude, and above it a sign bit that is 1 only for a negative setting
  sign_magnitude : Coding
  -- a number b plus the whole number nearest to the setting times n / d
  rounded : ℕ → ℕ → ℕ → Coding
  -- the whole number nearest to the setting times n / d, as two's complement
  rounded_signed : ℕ → ℕ → Coding

-- a field (document 01's term) that holds one number: its row of the table and how its settings are coded
pub record Field : Type 0 where
  pub row : Row
  pub coding : Coding

-- the whole number nearest to s times n / d
abbrev pub nearest_times : ℕ → ℕ → ℤ → ℤ
nearest_times n d (pos m) = pos (nearest (n * m) d)
nearest_times n d (negsuc m) = neg_ℤ (pos (nearest (n * suc m) d))

-- a number as two's complement of w bits
abbrev pub twos_complement : ℕ → ℤ → ℕ
twos_complement w (pos m) = m
twos_complement w (negsuc m) = 2 ^ w - suc m

-- the code of a setting, in w bits
unfoldable pub code_by : Coding → ℕ → ℤ → ℕ
code_by plain w s = nat_abs s
code_by (offset b) w s = nat_abs (s +ℤ pos b)
code_by sign_magnitude w s = cond (non_neg s) (nat_abs s) (2 ^ (w - 1) + nat_abs s)
code_by (rounded b n d) w s = nat_abs (pos b +ℤ nearest_times n d s)
code_by (rounded_signed n d) w s = twos_complement w (nearest_times n d s)

-- the code of a field's setting
abbrev pub code_of : Field → ℤ → ℕ
code_of f s = code_by f.coding f.row.width s

-- s is outside the range of a row's settings
abbrev pub outside : Row → ℤ → Bool
outside r s = lt_z s r.low || lt_z r.high s

-- the setting is itself a code of w bits
abbrev pub is_code : Coding → ℕ → ℤ → Bool
is_code plain w s = non_neg s && ltb (nat_abs s) (2 ^ w)
is_code (offset b) w s = false
is_code sign_magnitude w s = false
is_code (rounded b n d) w s = false
is_code (rounded_signed n d) w s = false

-- a setting's code: a reserved code in a setting is refusal 4, any other outside number 3
unfoldable pub encode : Field → ℤ → Judged ℕ
encode f s =
    cond (outside f.row s)
    (refused (cond (is_code f.coding f.row.width s) (refusal_outside f.row) 3))
    (accepted (code_of f s))

-- s is a setting that has the code c
abbrev pub has : Field → ℕ → ℤ → Bool
has f c s = cond (outside f.row s) false (eqb (code_of f s) c)

-- a setting of magnitude m has the code c
abbrev pub has_at : Field → ℕ → ℕ → Bool
has_at f c m = has f c (pos m) || has f c (neg_ℤ (pos m))

-- that setting
abbrev pub setting_at : Field → ℕ → ℕ → ℤ
setting_at f c m = cond (has f c (pos m)) (pos m) (neg_ℤ (pos m))

-- the magnitude nearest zero of a setting that has the code c; none is larger than the range's ends
abbrev pub least_magnitude : Field → ℕ → ℕ
least_magnitude f c = first (has_at f c) (suc (max (nat_abs f.row.low) (nat_abs f.row.high)))

-- a code's setting: the one nearest zero that has that code. A code that no setting has is refused as the row says, a number that is no code by 3
unfoldable pub decode : Field → ℕ → Judged ℤ
decode f c =
    cond (has_at f c (least_magnitude f c))
    (accepted (setting_at f c (least_magnitude f c)))
    (refused (cond (ltb c (2 ^ f.row.width)) (refusal_outside f.row) 3))

-- a row whose setting is the code
abbrev pub plain_of : Row → Field
plain_of r = record { row = r; coding = plain }

-- a table of such rows, packed
unfoldable pub plain_fields : List ℕ → List Field
plain_fields [] = []
plain_fields (p ∷ ps) = plain_of (row_of p) ∷ plain_fields ps
