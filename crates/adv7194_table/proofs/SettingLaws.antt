-- A field's bits of a register, must-be-zero bits apart, are those of its own bits that belong to a field. Assumes nothing.
use mathlib.Core.Path.{◌≡◌, refl, sym, ap, ◌∙◌}
use mathlib.Core.Bool.{Bool, true, false, not, ◌&&◌}
use mathlib.Core.List.{List, [], ◌∷◌}
use Prim.Native.Nat.{ℕ, ◌≤◌, ◌<◌}
use native.Mathlib.Omega.{arith}
use lib.Bits.{bit_and, and_zero_l}
use lib.Dec.{T, eqb, ltb, ltb→lt, eqb→eq}
use borrow.Author.Tests.{ne_eqb, ltb-true, ltb-false}
use Rattle.bits.proofs.FlagLaws.{first, second}
use Rattle.adv7194_bus.specs.Kind.{register_count}
use Rattle.bits.proofs.Checks.{below, at-below}
use Rattle.adv7194_table.specs.Fields.{timing, output, picture, dnr}
use Rattle.adv7194_table.specs.Table.{Entry, table, field_of, must_be_zero}
use Rattle.adv7194_table.specs.Masks.{mask_where, field_mask, own_mask, setting_mask}
use Rattle.adv7194_table.specs.Registers.{field_count}

-- ---- past the last field

-- the entries' fields are below a number
all_below : ℕ → List Entry → Bool
all_below n [] = true
all_below n (e ∷ es) = ltb (field_of e) n && all_below n es

-- so none of theirs are another field's bits
past : (P : Entry → Bool) (n r : ℕ) → ((e : Entry) → eqb (field_of e) n ≡ false → P e ≡ false) → field_count ≤ n → (es : List Entry)
    → T (all_below field_count es) → mask_where P es r ≡ 0
unfolding mask_where all_below
past P n r f h [] t = refl
past P n r f h (e ∷ es) t =
    let l = ltb→lt (field_of e) field_count (first (ltb (field_of e) field_count) (all_below field_count es) t) in
    let d : P e ≡ false = f e (ne_eqb (field_of e) n (λ q. omega arith)) in
    let none = past P n r f h es (second (ltb (field_of e) field_count) (all_below field_count es) t) in
    rw d (omega arith)

table_below : T (all_below field_count table)
unfolding all_below table timing output picture dnr
table_below = tt

module _ (n r : ℕ) (h : field_count ≤ n) where
  own_past : own_mask n r ≡ 0
  unfolding own_mask
  own_past = past (λ e. eqb (field_of e) n) n r (λ e d. d) h table table_below

  setting_past : setting_mask n r ≡ 0
  unfolding setting_mask
  setting_past = past (λ e. eqb (field_of e) n && not (must_be_zero e)) n r (λ e d. rw d) h table table_below

-- ---- every field

-- the mask is right
right : ℕ → ℕ → Bool
right n r = eqb (bit_and (own_mask n r) (field_mask r)) (setting_mask n r)

-- the one test over every field and register
all_right : T (below field_count (λ n. below register_count (right n)))
unfolding right below own_mask field_mask setting_mask mask_where table timing output picture dnr
all_right = tt

-- a field's bits that belong to a field
pub setting_mask_lem : (n r : ℕ) → r < register_count → bit_and (own_mask n r) (field_mask r) ≡ setting_mask n r
unfolding right
setting_mask_lem n r h = split (ltb n field_count) refl
  where
    split : (b : Bool) → ltb n field_count ≡ b → bit_and (own_mask n r) (field_mask r) ≡ setting_mask n r
    split true e =
        let l = ltb-true n field_count e in
        eqb→eq _ _ (at-below register_count (right n) (at-below field_count (λ n. below register_count (right n)) all_right n l) r h)
    split false e =
        let l = ltb-false n field_count e in
        ap (λ (m : ℕ). bit_and m (field_mask r)) (own_past n r l) ∙ and_zero_l (field_mask r) ∙ sym (setting_past n r l)
