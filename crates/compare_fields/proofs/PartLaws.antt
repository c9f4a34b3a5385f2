-- What is shown of a field on one side. Assumes nothing.
use mathlib.Core.Path.{◌≡◌, refl, sym, ap, ◌∙◌, subst}
use mathlib.Core.Bool.{Bool, true, false, not, cond, ◌&&◌, ◌||◌}
use mathlib.Core.List.{List, [], ◌∷◌, ◌++◌, reverse, foldr, flat_map}
use Prim.Native.Nat.{ℕ, suc, ◌+◌, ◌-◌, ◌≤◌, ◌<◌}
use native.Mathlib.Numerals.{add-one}
use native.Mathlib.Omega.{arith}
use lib.Dec.{T, eqb}
use lib.IntN.{ℤ}
use lib.ListN.{get_or}
use mir.Syntax.{w32}
use mir.Val.{to_z}
use borrow.Author.Tests.{eqb-true, eq-eqb, ne_eqb}
use Rattle.text.specs.Text.{space, hex_byte, hex_text}
use Rattle.field_table.specs.declared.row.Row.{Row}
use Rattle.field_table.specs.Walk.{given}
use Rattle.adv7194_bus.specs.Kind.{register_count}
use Rattle.bits.proofs.Checks.{below, at-below}
use Rattle.adv7194_table.specs.Fields.{timing, output, picture, dnr}
use Rattle.adv7194_table.specs.Blocks.{signalling, curve_a, curve_b, word}
use Rattle.adv7194_table.specs.Table.{Entry, single, whole, table, field_of, single_fields, rows_in}
use Rattle.adv7194_table.specs.Masks.{own_mask}
use Rattle.adv7194_table.specs.RawCodes.{own_bits, raw_from}
use Rattle.writing.specs.Ascii.{ascii}
use Rattle.template.specs.Template.{stands_for, filled}
use Rattle.template.proofs.TemplateLaws.{byte-number, byte-code}
use Rattle.adv7194_names.specs.Names.{named}
use Rattle.adv7194_names.specs.Values.{number_text}
use Rattle.adv7194_lines.specs.Kinds.{signalling_text, curve_text}
use Rattle.adv7194_listing.specs.Faults.{row_at, field_row}
use Rattle.compare_fields.specs.Values.{own_text, entry_value, field_value}
use Rattle.field_table.specs.Blocks.{slice}

-- ---- raw codes

module _ (image : List ℕ) (n : ℕ) where
  -- those of the registers from r on
  abbrev pub raw_text : ℕ → List ℕ
  raw_text r = hex_text (raw_from image n r (register_count - r))

  -- the next register's byte, where the field has one there, and the others
  pub raw_turn : (r : ℕ) → r < register_count → raw_text r ≡ own_text image n r ++ raw_text (r + 1)
  unfolding raw_from hex_text flat_map
  raw_turn r h =
      let c : register_count - r ≡ suc (register_count - (r + 1)) = omega arith in
      ap (λ (x : ℕ). hex_text (raw_from image n r x)) c ∙ split (eqb (own_mask n r) 0) (raw_from image n (suc r) (register_count - (r + 1)))
      ∙ ap (λ (x : ℕ). own_text image n r ++ hex_text (raw_from image n x (register_count - (r + 1)))) (sym (add-one r))
    where
      split : (t : Bool) (rest : List ℕ)
          → hex_text (cond t rest (own_bits image n r ∷ rest)) ≡ cond t [] (space ++ hex_byte (own_bits image n r)) ++ hex_text rest
      split true rest = refl
      split false rest = refl

  pub raw_end : (r : ℕ) → register_count ≤ r → raw_text r ≡ []
  unfolding raw_from hex_text flat_map
  raw_end r h = let c : register_count - r ≡ 0 = omega arith in ap (λ (x : ℕ). hex_text (raw_from image n r x)) c

-- what a register adds
pub own_none : (image : List ℕ) (n r : ℕ) {m : ℕ} → m ≡ own_mask n r → m ≡ 0 → [] ≡ own_text image n r
own_none image n r e h = let g : eqb (own_mask n r) 0 ≡ true = eq-eqb _ _ (sym e ∙ h) in rw g

pub own_some : (image : List ℕ) (n r : ℕ) {m b : ℕ} → m ≡ own_mask n r → (m ≡ 0 → ⊥) → b ≡ own_bits image n r → space ++ hex_byte b ≡ own_text image n r
own_some image n r e h k =
    let g : eqb (own_mask n r) 0 ≡ false = ne_eqb _ _ (λ z. h (e ∙ z)) in
    ap (λ (x : ℕ). space ++ hex_byte x) k ∙ rw g

-- ---- the subcarrier word

-- its bytes shown by a template
pub word-filled : (image : List ℕ) {r b3 b2 b1 b0 : ℕ} → r ≡ word.register → b3 ≡ get_or image (r + 3) 0 → b2 ≡ get_or image (r + 2) 0
    → b1 ≡ get_or image (r + 1) 0 → b0 ≡ get_or image r 0 → b3 < 256 → b2 < 256 → b1 < 256 → b0 < 256
    → filled (ascii "####") (to_z w32 b3 ∷ to_z w32 b2 ∷ to_z w32 b1 ∷ to_z w32 b0 ∷ [])
    ≡ flat_map hex_byte (reverse (slice 0 image word.register word.registers))
unfolding filled stands_for flat_map slice
word-filled image {r} {b3} {b2} {b1} {b0} e k3 k2 k1 k0 s3 s2 s1 s0 =
    rw (byte-number b3 s3, byte-number b2 s2, byte-number b1 s1, byte-number b0 s0, byte-code b3 s3, byte-code b2 s2, byte-code b1 s1, byte-code b0 s0)
    (rw (k3, k2, k1, k0, e))

-- ---- the settings

-- some entry of field n has one number, and none fills whole registers
unfoldable some_row : ℕ → List Entry → Bool
some_row n [] = false
some_row n (single f ∷ es) = eqb n f.row.field || some_row n es
some_row n (whole c b ∷ es) = not (eqb n b.field) && some_row n es

-- the setting of field n, by some entries
abbrev value_in : List ℕ → List ℤ → ℕ → List Entry → List ℕ
value_in image zs n es = foldr (λ e other. cond (eqb n (field_of e)) (entry_value image zs e) other) [] es

row-value : (image : List ℕ) (zs : List ℤ) (n : ℕ) (es : List Entry) → T (some_row n es)
    → value_in image zs n es ≡ number_text (named n) (given zs (row_at n (rows_in (single_fields es))))
unfolding some_row row_at rows_in single_fields
row-value image zs n [] t = absurd t
row-value image zs n (single f ∷ es) t = split (eqb n f.row.field) refl (row-value image zs n es)
  where
    split : (s : Bool) → eqb n f.row.field ≡ s → (T (some_row n es)
        → value_in image zs n es ≡ number_text (named n) (given zs (row_at n (rows_in (single_fields es)))))
        → cond s (number_text (named f.row.field) (given zs f.row)) (value_in image zs n es)
        ≡ number_text (named n) (given zs (cond s f.row (row_at n (rows_in (single_fields es)))))
    split true e rest = ap (λ (k : ℕ). number_text (named k) (given zs f.row)) (sym (eqb-true _ _ e))
    split false e rest = rest (subst (λ (b : Bool). T (b || some_row n es)) e t)
row-value image zs n (whole c b ∷ es) t = split (eqb n b.field) refl (row-value image zs n es)
  where
    split : (s : Bool) → eqb n b.field ≡ s → (T (some_row n es)
        → value_in image zs n es ≡ number_text (named n) (given zs (row_at n (rows_in (single_fields es)))))
        → cond s (entry_value image zs (whole c b)) (value_in image zs n es) ≡ number_text (named n) (given zs (row_at n (rows_in (single_fields es))))
    split true e rest = absurd (subst (λ (b : Bool). T (not b && some_row n es)) e t)
    split false e rest = rest (subst (λ (b : Bool). T (not b && some_row n es)) e t)

-- the fields that fill whole registers
abbrev whole_field : ℕ → Bool
whole_field n = eqb n 11 || (eqb n 26 || (eqb n 27 || eqb n 28))

-- every other one has one number: the one test
rows_all : T (below 29 (λ n. eqb n 0 || (whole_field n || some_row n table)))
unfolding below some_row table timing output picture dnr
rows_all = tt

module _ (image : List ℕ) (zs : List ℤ) where
  pub one_number : (n : ℕ) → 0 < n → n < 29 → (n ≡ 11 → ⊥) → (n ≡ 26 → ⊥) → (n ≡ 27 → ⊥) → (n ≡ 28 → ⊥) → {row : Row} → row ≡ field_row n
      → number_text (named n) (given zs row) ≡ field_value image zs n
  one_number n p q a b c d {row} e =
      let u : eqb n 11 ≡ false = ne_eqb _ _ a in
      let v : eqb n 26 ≡ false = ne_eqb _ _ b in
      let w : eqb n 27 ≡ false = ne_eqb _ _ c in
      let x : eqb n 28 ≡ false = ne_eqb _ _ d in
      let y : eqb n 0 ≡ false = ne_eqb n 0 (λ z. omega arith) in
      let t : T (eqb n 0 || (whole_field n || some_row n table)) = at-below 29 (λ n. eqb n 0 || (whole_field n || some_row n table)) rows_all n q in
      ap (λ (r : Row). number_text (named n) (given zs r)) e ∙ sym (row-value image zs n table (rw (y, u, v, w, x) at t))

  pub signalling-value : signalling_text zs signalling.index ≡ field_value image zs 11
  unfolding table timing output picture dnr
  signalling-value = refl

  pub curve_a_value : curve_text zs curve_a.index ≡ field_value image zs 26
  unfolding table timing output picture dnr
  curve_a_value = refl

  pub curve_b_value : curve_text zs curve_b.index ≡ field_value image zs 27
  unfolding table timing output picture dnr
  curve_b_value = refl

  pub word_value : flat_map hex_byte (reverse (slice 0 image word.register word.registers)) ≡ field_value image zs 28
  unfolding table timing output picture dnr
  word_value = refl
