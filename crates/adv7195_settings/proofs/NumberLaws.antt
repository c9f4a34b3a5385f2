-- The settings' numbers and the table's: each by its index, and that one is made of the other again. Assumes nothing.
use mathlib.Core.Path.{◌≡◌, sym, ap, ap₂, ◌∙◌}
use mathlib.Core.Bool.{cond}
use mathlib.Core.List.{List, [], ◌∷◌, ◌++◌}
use Prim.Native.Nat.{ℕ, suc, ◌+◌, ◌-◌, ◌≤◌, ◌<◌}
use native.Mathlib.Omega.{arith}
use lib.Dec.{T}
use lib.IntN.{ℤ, pos}
use lib.ListN.{length, get_or, take, drop, length-append, length-drop, get_or-append}
use lib.Seq.{length-take-le, take_at, drop-append-add, drop-append_seam, get_or-append-add, get_or-take, get_or-drop}
use Rattle.bits.proofs.FlagLaws.{first, second}
use Rattle.adv7195_settings.specs.Numbers.{number_count, part_count, cgms, part_of, cgms_data, parts_of, joined, cgms_part, numbers_of}

-- ---- a list with some of its elements replaced

-- the first k of a list, others, and those of the list from m on
module _ (l : List ℤ) (k : ℕ) (ms : List ℤ) (m : ℕ) (h : k ≤ length l) where
  abbrev spliced : List ℤ
  spliced = take k l ++ (ms ++ drop m l)

  -- one of the first
  before : (i : ℕ) → i < k → get_or spliced i (pos 0) ≡ get_or l i (pos 0)
  before i lt =
      let n = length-take-le k l h in
      get_or-append (take k l) (ms ++ drop m l) (pos 0) i (omega arith) ∙ get_or-take k l i (pos 0) lt

  -- one of the others
  among : (i : ℕ) → i < length ms → get_or spliced (k + i) (pos 0) ≡ get_or ms i (pos 0)
  among i lt =
      ap (λ (n : ℕ). get_or spliced (n + i) (pos 0)) (sym (length-take-le k l h)) ∙ get_or-append-add (take k l) (ms ++ drop m l) i (pos 0)
      ∙ get_or-append ms (drop m l) (pos 0) i lt

  -- one after them
  past : (i : ℕ) → get_or spliced (k + (length ms + i)) (pos 0) ≡ get_or l (m + i) (pos 0)
  past i =
      ap (λ (n : ℕ). get_or spliced (n + (length ms + i)) (pos 0)) (sym (length-take-le k l h))
      ∙ get_or-append-add (take k l) (ms ++ drop m l) (length ms + i) (pos 0) ∙ get_or-append-add ms (drop m l) i (pos 0) ∙ get_or-drop m l i (pos 0)

  spliced_length : length spliced ≡ k + (length ms + (length l - m))
  spliced_length =
      length-append (take k l) (ms ++ drop m l)
      ∙ ap₂ ◌+◌ (length-take-le k l h) (length-append ms (drop m l) ∙ ap (λ (n : ℕ). length ms + n) (length-drop m l))

  spliced_first : take k spliced ≡ take k l
  spliced_first = take_at (take k l) (ms ++ drop m l) k (length-take-le k l h)

  spliced_last : drop (k + length ms) spliced ≡ drop m l
  spliced_last =
      ap (λ (n : ℕ). drop (n + length ms) spliced) (sym (length-take-le k l h)) ∙ drop-append-add (take k l) (ms ++ drop m l) (length ms)
      ∙ drop-append_seam ms (drop m l)

-- ---- the table's numbers by index

module _ (zs : List ℤ) (size : length zs ≡ number_count) where
  -- the parts of the CGMS data
  abbrev data_parts : List ℤ
  data_parts = part_of 0 8 (cgms_data zs) ∷ part_of 8 8 (cgms_data zs) ∷ part_of 16 4 (cgms_data zs) ∷ []

  enough : cgms ≤ length zs
  enough = omega arith

  pub part_before : (i : ℕ) → i < cgms → get_or zs i (pos 0) ≡ get_or (parts_of zs) i (pos 0)
  unfolding parts_of
  part_before i lt = sym (before zs cgms data_parts (suc cgms) enough i lt)

  pub part_first : part_of 0 8 (cgms_data zs) ≡ get_or (parts_of zs) cgms (pos 0)
  unfolding parts_of
  part_first = sym (among zs cgms data_parts (suc cgms) enough 0 (omega arith))

  pub part_second : part_of 8 8 (cgms_data zs) ≡ get_or (parts_of zs) (cgms + 1) (pos 0)
  unfolding parts_of
  part_second = sym (among zs cgms data_parts (suc cgms) enough 1 (omega arith))

  pub part_third : part_of 16 4 (cgms_data zs) ≡ get_or (parts_of zs) (cgms + 2) (pos 0)
  unfolding parts_of
  part_third = sym (among zs cgms data_parts (suc cgms) enough 2 (omega arith))

  pub part_past : (i : ℕ) → cgms + 2 < i → get_or zs (i - 2) (pos 0) ≡ get_or (parts_of zs) i (pos 0)
  unfolding parts_of
  part_past i lt =
      let k : suc cgms + (i - 37) ≡ i - 2 = omega arith in
      let n : cgms + (3 + (i - 37)) ≡ i = omega arith in
      sym (ap (λ (j : ℕ). get_or (parts_of zs) j (pos 0)) (sym n) ∙ past zs cgms data_parts (suc cgms) enough (i - 37) ∙ ap (λ (j : ℕ). get_or zs j (pos 0)) k)

  pub parts_length : length (parts_of zs) ≡ part_count
  unfolding parts_of
  parts_length = spliced_length zs cgms data_parts (suc cgms) enough ∙ omega arith

  -- its first and its last
  pub parts_first : take cgms (parts_of zs) ≡ take cgms zs
  unfolding parts_of
  parts_first = spliced_first zs cgms data_parts (suc cgms) enough

  pub parts_last : drop (cgms + 3) (parts_of zs) ≡ drop (suc cgms) zs
  unfolding parts_of
  parts_last = spliced_last zs cgms data_parts (suc cgms) enough

-- ---- the settings' numbers by index

module _ (ps : List ℤ) (size : length ps ≡ part_count) where
  -- the CGMS data
  abbrev one_number : List ℤ
  one_number = joined (cgms_part ps 0) (cgms_part ps 1) (cgms_part ps 2) ∷ []

  long : cgms ≤ length ps
  long = omega arith

  pub number-before : (i : ℕ) → i < cgms → get_or ps i (pos 0) ≡ get_or (numbers_of ps) i (pos 0)
  unfolding numbers_of
  number-before i lt = sym (before ps cgms one_number (cgms + 3) long i lt)

  pub number-joined : joined (cgms_part ps 0) (cgms_part ps 1) (cgms_part ps 2) ≡ get_or (numbers_of ps) cgms (pos 0)
  unfolding numbers_of
  number-joined = sym (among ps cgms one_number (cgms + 3) long 0 (omega arith))

  pub number_past : (i : ℕ) → cgms < i → get_or ps (i + 2) (pos 0) ≡ get_or (numbers_of ps) i (pos 0)
  unfolding numbers_of
  number_past i lt =
      let k : cgms + 3 + (i - 35) ≡ i + 2 = omega arith in
      let n : cgms + (1 + (i - 35)) ≡ i = omega arith in
      sym (ap (λ (j : ℕ). get_or (numbers_of ps) j (pos 0)) (sym n) ∙ past ps cgms one_number (cgms + 3) long (i - 35) ∙ ap (λ (j : ℕ). get_or ps j (pos 0)) k)

  pub numbers-length : length (numbers_of ps) ≡ number_count
  unfolding numbers_of
  numbers-length = spliced_length ps cgms one_number (cgms + 3) long ∙ omega arith

  -- its first and its last
  pub numbers-first : take cgms (numbers_of ps) ≡ take cgms ps
  unfolding numbers_of
  numbers-first = spliced_first ps cgms one_number (cgms + 3) long

  pub numbers_last : drop (suc cgms) (numbers_of ps) ≡ drop (cgms + 3) ps
  unfolding numbers_of
  numbers_last = spliced_last ps cgms one_number (cgms + 3) long
