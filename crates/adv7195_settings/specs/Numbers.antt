-- Document 02, P13: settings are 58 signed numbers in field order, must-be-zero bits have none. The CGMS data are one number of 20 bits, C0 its lowest, over
-- three registers; the table has a number for each register, 60 in all: they are the settings' numbers with the CGMS data in three parts.
use Rattle.std.specs.Prelude.{Bool, cond, ◌&&◌, List, ◌∷◌, ◌++◌, ℕ, suc, ◌+◌, ◌*◌, ◌/◌, ◌%◌, ◌^◌, ltb, ℤ, pos, negsuc, nat_abs, get_or, take, drop}
use Rattle.std.specs.Int.Signed.{non_neg}

-- how many numbers settings are, and how many the table has
abbrev pub number_count : ℕ
number_count = 58

abbrev pub part_count : ℕ
part_count = 60

-- the index of the CGMS data among the settings' numbers, and of the first of its parts among the table's
abbrev pub cgms : ℕ
cgms = 34

-- how many parts it has, and how many bits
abbrev pub cgms_parts : ℕ
cgms_parts = 3

abbrev pub cgms_bits : ℕ
cgms_bits = 20

-- no setting of any row
abbrev pub no_setting : ℤ
no_setting = negsuc 0

-- the part of a number that is w bits from bit k up; a number that is none of 20 bits has no setting for a part
abbrev pub part_of : ℕ → ℕ → ℤ → ℤ
part_of k w (pos n) = cond (ltb n (2 ^ cgms_bits)) (pos (n / 2 ^ k % 2 ^ w)) no_setting
part_of k w (negsuc n) = no_setting

-- the CGMS data of settings
abbrev pub cgms_data : List ℤ → ℤ
cgms_data zs = get_or zs cgms (pos 0)

-- the table's numbers of settings
unfoldable pub parts_of : List ℤ → List ℤ
parts_of zs = take cgms zs ++ (part_of 0 8 (cgms_data zs) ∷ part_of 8 8 (cgms_data zs) ∷ part_of 16 4 (cgms_data zs) ∷ drop (suc cgms) zs)

-- one number from its parts, lowest first
abbrev pub joined : ℤ → ℤ → ℤ → ℤ
joined a b c = pos (nat_abs a + 2 ^ 8 * nat_abs b + 2 ^ 16 * nat_abs c)

-- part i of the CGMS data among the table's numbers
abbrev pub cgms_part : List ℤ → ℕ → ℤ
cgms_part ps i = get_or ps (cgms + i) (pos 0)

-- the settings of the table's numbers
unfoldable pub numbers_of : List ℤ → List ℤ
numbers_of ps = take cgms ps ++ (joined (cgms_part ps 0) (cgms_part ps 1) (cgms_part ps 2) ∷ drop (cgms + cgms_parts) ps)

-- a number of w bits
abbrev pub in_bits : ℕ → ℤ → Bool
in_bits w z = non_neg z && ltb (nat_abs z) (2 ^ w)

-- the parts of the CGMS data are numbers of 8, 8 and 4 bits: a test
abbrev pub joins : List ℤ → Bool
joins ps = in_bits 8 (cgms_part ps 0) && (in_bits 8 (cgms_part ps 1) && in_bits 4 (cgms_part ps 2))
