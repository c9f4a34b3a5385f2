-- A known register that differs has a field whose bits change there, or a must-be-zero bit that was set. Assumes nothing.
use mathlib.Core.Path.{◌≡◌, refl, sym, ap, ◌∙◌}
use mathlib.Core.Bool.{Bool, true, false, not, ◌&&◌, and-true, and-false}
use mathlib.Core.List.{List, [], ◌∷◌, map}
use Prim.Native.Nat.{ℕ, ◌^◌, ◌<◌}
use native.Mathlib.Omega.{arith}
use lib.Bits.{bit_and, and_le_l}
use lib.Dec.{T, eqb, eqb→eq}
use lib.IntN.{ℤ}
use lib.ListN.{get_or}
use borrow.Author.Tests.{eqb-true, eqb-false, not-false}
use Rattle.bits.specs.Fields.{bit}
use Rattle.bits.specs.Maps.{has}
use Rattle.bits.proofs.CoverLaws.{all_masks, SameUnder, same_number}
use Rattle.bits.proofs.SetLaws.{has_and, has-past, by_bits_lem}
use Rattle.adv7194_bus.specs.Kind.{register_count}
use Rattle.adv7194_bus.specs.declared.board.Board.{Board}
use Rattle.bits.proofs.Checks.{below, at-below}
use Rattle.adv7194_table.specs.Blocks.{signalling}
use Rattle.adv7194_table.specs.Fields.{timing, output, picture, dnr}
use Rattle.adv7194_table.specs.Table.{signals, table, order_of}
use Rattle.adv7194_table.specs.Masks.{mask_where, field_mask, zero_mask, setting_mask, outside_mask}
use Rattle.adv7194_table.specs.RawCodes.{zero_bits, outside_bits}
use Rattle.adv7194_settings.specs.Codes.{block_codes}
use Rattle.adv7194_settings.specs.Demand.{fixed_mask}
use Rattle.adv7194_settings.specs.Wanted.{wanted_by}
use Rattle.adv7194_settings.proofs.DemandLaws.{demanded}
use Rattle.adv7194_settings.proofs.FitLaws.{wanted-bytes}
use Rattle.adv7194_least.specs.Aim.{Aim, aim_of}
use Rattle.adv7194_least.specs.Change.{Image, Change}
use Rattle.adv7194_reasons.specs.First.{NoneTrue}
use Rattle.adv7194_reasons.specs.Reasons.{bits_differ}
use Rattle.refusals.specs.Refusal.{value_or}

-- a wanted image has its must-be-zero bits zero, and the found byte's bits outside all fields
pub record Settled (a : Aim) : Type 0 where
  pub zero : (r : ℕ) → r < register_count → zero_bits a.wanted r ≡ 0
  pub kept : (r : ℕ) → r < register_count → outside_bits a.wanted r ≡ outside_bits a.board.registers r

-- ---- the wanted image of settings is such

-- no fixed bit lies outside all fields: a test over the masks, whether field 11 is off or not
outside_free : (cs : List ℕ) → T (below register_count (λ r. eqb (bit_and (fixed_mask cs r) (outside_mask r)) 0))
unfolding below fixed_mask outside_mask field_mask zero_mask mask_where table timing output picture dnr
outside_free [] = tt
outside_free (c ∷ cs) = tt

module _ (b : Board) (zs : List ℤ) (limit : ℕ) (image : Image b.registers) where
  -- the wanted byte of a register
  wanted : ℕ → ℕ
  wanted r = get_or (wanted_by b.registers zs) r 0

  -- it is a byte
  wanted-byte : (r : ℕ) → wanted r < 2 ^ 8
  unfolding wanted
  wanted-byte = wanted-bytes b.registers zs image.bytes

  -- its must-be-zero bits are zero
  zero-wanted : (r : ℕ) → r < register_count → bit_and (wanted r) (zero_mask r) ≡ 0
  unfolding wanted
  zero-wanted r h =
      by_bits_lem 8 (bit_and (wanted r) (zero_mask r)) 0 (omega (arith, and_le_l (wanted r) (zero_mask r), wanted-byte r)) (omega arith)
      (λ i k. has_and (wanted r) (zero_mask r) i ∙ both i k (has (zero_mask r) i) refl ∙ sym (has-past 0 0 i (omega arith) (omega arith)))
    where
      both : (i : ℕ) → i < 8 → (t : Bool) → has (zero_mask r) i ≡ t → (has (wanted r) i && t) ≡ false
      both i k true e =
          ap (λ (x : Bool). x && true)
          (ap (λ (n : ℕ). eqb n 1) ((demanded b.registers zs image.size).zero r i h k (eqb-true (bit i (zero_mask r)) 1 e)))
      both i k false e = and-false (has (wanted r) i)

  -- a bit outside all fields isn't fixed
  not_fixed : (r i : ℕ) → r < register_count → has (outside_mask r) i ≡ true → bit i (fixed_mask (value_or [] (block_codes zs signals signalling)) r) ≡ 0
  not_fixed r i h e =
      let cs = value_or [] (block_codes zs signals signalling) in
      let none = at-below register_count (λ r. eqb (bit_and (fixed_mask cs r) (outside_mask r)) 0) (outside_free cs) r h in
      let both : (has (fixed_mask cs r) i && has (outside_mask r) i) ≡ false =
      sym (has_and (fixed_mask cs r) (outside_mask r) i) ∙ ap (λ (x : ℕ). has x i) (eqb→eq (bit_and (fixed_mask cs r) (outside_mask r)) 0 none)
      ∙ has-past 0 0 i (omega arith) (omega arith) in
      let clear = eqb-false (bit i (fixed_mask cs r)) 1 (sym (and-true (has (fixed_mask cs r) i)) ∙ rw e at both) in
      omega arith

  -- its bits outside all fields are as found
  outside-wanted : (r : ℕ) → r < register_count → bit_and (wanted r) (outside_mask r) ≡ bit_and (get_or b.registers r 0) (outside_mask r)
  unfolding wanted
  outside-wanted r h =
      by_bits_lem 8 (bit_and (wanted r) (outside_mask r)) (bit_and (get_or b.registers r 0) (outside_mask r))
      (omega (arith, and_le_l (wanted r) (outside_mask r), wanted-byte r))
      (omega (arith, and_le_l (get_or b.registers r 0) (outside_mask r), image.bytes r))
      (λ i k. has_and (wanted r) (outside_mask r) i ∙ both i k (has (outside_mask r) i) refl ∙ sym (has_and (get_or b.registers r 0) (outside_mask r) i))
    where
      both : (i : ℕ) → i < 8 → (t : Bool) → has (outside_mask r) i ≡ t → (has (wanted r) i && t) ≡ (has (get_or b.registers r 0) i && t)
      both i k true e =
          ap (λ (n : ℕ). eqb n 1 && true) ((demanded b.registers zs image.size).kept r i h k (not_fixed r i h e))
      both i k false e = and-false (has (wanted r) i) ∙ sym (and-false (has (get_or b.registers r 0) i))

  -- so settings aim at such an image
  pub settings_settled : Settled (aim_of b zs limit)
  unfolding wanted
  settings_settled = record { zero = zero-wanted; kept = outside-wanted }

-- ---- every bit of a register is some field's setting bit, a must-be-zero bit, or outside all fields

-- the masks of a register
abbrev masks_at : ℕ → List ℕ
masks_at r = zero_mask r ∷ outside_mask r ∷ map (λ f. setting_mask f r) (order_of table)

-- together they are all bits, at every register: the one test
covers-all : T (below register_count (λ r. eqb (all_masks (masks_at r)) 0xFF))
unfolding below all_masks outside_mask field_mask zero_mask setting_mask mask_where order_of table timing output picture dnr
covers-all = tt

-- so they are at one
covers : (r : ℕ) → r < register_count → all_masks (masks_at r) ≡ 0xFF
covers r h = eqb→eq (all_masks (masks_at r)) 0xFF (at-below register_count (λ r. eqb (all_masks (masks_at r)) 0xFF) covers-all r h)

module _ (a : Aim) (χ : Change a) (σ : Settled a) (r : ℕ) (h : r < register_count) where
  -- two bytes of which no field's bits change are the same under each field's
  fields-same : (fs : List ℕ) → NoneTrue (bits_differ a.board.registers a.wanted r) fs
      → SameUnder (get_or a.board.registers r 0) (get_or a.wanted r 0) (map (λ f. setting_mask f r) fs)
  fields-same [] n = tt
  fields-same (f ∷ fs) n = (eqb-true _ _ (not-false _ n.0), fields-same fs n.1)

  -- where no field's bits change and no must-be-zero bit was set, the byte is the wanted one
  pub byte_stays : NoneTrue (bits_differ a.board.registers a.wanted r) (order_of table) → not (eqb (zero_bits a.board.registers r) 0) ≡ false
      → get_or a.board.registers r 0 ≡ get_or a.wanted r 0
  byte_stays n z =
      same_number 8 (get_or a.board.registers r 0) (get_or a.wanted r 0) (masks_at r) (χ.found.bytes r) (χ.wants.bytes r) (covers r h)
      (eqb-true _ _ (not-false _ z) ∙ sym (σ.zero r h), (sym (σ.kept r h), fields-same (order_of table) n))
