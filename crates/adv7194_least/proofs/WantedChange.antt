-- What settings aim at over a board: the wanted image differs from the board's registers only where there is a field or a must-be-zero bit, what is fixed has
-- such bits, and where no unknown register is fixed only in part, every register with such bits is known or fixed, but for 1A and 1B where signalling is
-- off. Assumes nothing.
use mathlib.Core.Path.{◌≡◌, refl, sym, ◌∙◌}
use mathlib.Core.Bool.{Bool, true, false, ◌&&◌, false≢true}
use mathlib.Core.List.{List, [], ◌∷◌}
use Prim.Native.Nat.{ℕ, ◌<◌}
use native.Mathlib.Omega.{arith}
use lib.Dec.{T, eqb, ltb}
use lib.IntN.{ℤ}
use borrow.Author.Tests.{ltb-true, ltb-false}
use Rattle.bits.proofs.FlagLaws.{first, second, holds}
use Rattle.rounding.proofs.Range.{below, below_at, imp, imp→}
use Rattle.field_table.proofs.FitLaws.{puts_stay}
use Rattle.adv7194_bus.specs.Kind.{register_count}
use Rattle.adv7194_bus.specs.declared.board.Board.{Board}
use Rattle.adv7194_bus.specs.Board.{knows}
use Rattle.adv7194_bus.specs.Limit.{limit_right}
use Rattle.adv7194_table.specs.Blocks.{signalling}
use Rattle.adv7194_table.specs.Fields.{timing, output, picture, dnr}
use Rattle.adv7194_table.specs.Table.{signals, table}
use Rattle.adv7194_table.specs.Masks.{mask_where, field_mask, zero_mask}
use Rattle.adv7194_table.specs.Registers.{field_count}
use Rattle.adv7194_settings.specs.Codes.{block_codes}
use Rattle.adv7194_settings.specs.Wanted.{writes_of, wanted_by}
use Rattle.adv7194_settings.specs.Demand.{fixed_mask}
use Rattle.adv7194_settings.specs.Known.{fixes_some, partly_fixed}
use Rattle.adv7194_settings.proofs.FitLaws.{table_test, settings_fit, wanted-bytes, wanted-length}
use Rattle.adv7194_settings.proofs.FixedLaws.{none-fixed, found-byte, none_partly}
use Rattle.adv7194_least.specs.Aim.{must, aim_of}
use Rattle.adv7194_least.specs.Change.{settable, Image, Change, Told}
use Rattle.bus.specs.Registers.{among}
use Rattle.adv7194_least.specs.Plan.{in_word}
use Rattle.bus.proofs.RegisterLaws.{among_true, no_difference}
use Rattle.refusals.specs.Refusal.{value_or}
use Rattle.adv7194_settings.proofs.Names.{unknown}

-- ---- what is written

-- the table's registers have such bits: a test over the masks
table-settable : T (table_test settable table)
unfolding settable field_mask zero_mask mask_where table timing output picture dnr
table-settable = tt

-- ---- what is fixed

-- the codes of field 11 are none: it is off
abbrev off : List ℕ → Bool
off [] = true
off (c ∷ cs) = false

-- all bits of register r are fixed, and none is, field 11's codes being these
abbrev full : List ℕ → ℕ → Bool
full cs r = eqb (fixed_mask cs r) 0xFF

abbrev free : List ℕ → ℕ → Bool
free cs r = eqb (fixed_mask cs r) 0

-- what is fixed has such bits, the word is fixed, and what has such bits and none fixed is 1A or 1B, with field 11 off
abbrev fixed_test : List ℕ → ℕ → Bool
fixed_test cs r = imp (full cs r) (settable r) && (imp (in_word r) (full cs r) && imp (settable r && free cs r) (off cs && among 0x1a 0x1b r))

-- tests over the masks
fixed_tests : (cs : List ℕ) → T (below (fixed_test cs) register_count)
unfolding fixed_mask settable field_mask zero_mask mask_where table timing output picture dnr
fixed_tests [] = tt
fixed_tests (c ∷ cs) = tt

-- with field 11 off, 1A and 1B have no fixed bit
spare_free : (cs : List ℕ) → off cs ≡ true → (fixed_mask cs 0x1a ≡ 0) × (fixed_mask cs 0x1b ≡ 0)
unfolding fixed_mask
spare_free [] o = (refl, refl)
spare_free (c ∷ cs) o = absurd (false≢true o)

module _ (cs : List ℕ) where
  -- the tests of one register
  at_register : (r : ℕ) → r < register_count → T (fixed_test cs r)
  at_register r h = below_at (fixed_test cs) register_count (fixed_tests cs) r h

  -- past the chip's registers nothing is fixed
  full_inside : (r : ℕ) → full cs r ≡ true → r < register_count
  full_inside r e = by (ltb r register_count) refl
    where
      by : (b : Bool) → ltb r register_count ≡ b → r < register_count
      by true u = ltb-true r register_count u
      by false u = absurd (false≢true (sym (rw (none-fixed cs r (ltb-false r register_count u))) ∙ e))

  -- what is fixed has such bits
  full_settable : (r : ℕ) → full cs r ≡ true → (r < register_count) × (settable r ≡ true)
  full_settable r e =
      let h = full_inside r e in
      let rest = imp (in_word r) (full cs r) && imp (settable r && free cs r) (off cs && among 0x1a 0x1b r) in
      (h, holds (settable r) (imp→ (full cs r) (settable r) (first (imp (full cs r) (settable r)) rest (at_register r h)) e))

  -- the word is fixed
  word_full : (r : ℕ) → in_word r ≡ true → full cs r ≡ true
  word_full r e =
      let w = among_true 0x0c 0x0f r e in
      let last = imp (settable r && free cs r) (off cs && among 0x1a 0x1b r) in
      let rest = second (imp (full cs r) (settable r)) (imp (in_word r) (full cs r) && last) (at_register r (omega arith)) in
      holds (full cs r) (imp→ (in_word r) (full cs r) (first (imp (in_word r) (full cs r)) last rest) e)

  -- what has such bits and none fixed
  free_spare : (r : ℕ) → r < register_count → settable r ≡ true → free cs r ≡ true → (off cs ≡ true) × (among 0x1a 0x1b r ≡ true)
  free_spare r h e f =
      let last = imp (settable r && free cs r) (off cs && among 0x1a 0x1b r) in
      let rest = second (imp (full cs r) (settable r)) (imp (in_word r) (full cs r) && last) (at_register r h) in
      let t = imp→ (settable r && free cs r) (off cs && among 0x1a 0x1b r) (second (imp (in_word r) (full cs r)) last rest) (rw (e, f)) in
      (holds (off cs) (first (off cs) (among 0x1a 0x1b r) t), holds (among 0x1a 0x1b r) (second (off cs) (among 0x1a 0x1b r) t))

-- ---- what settings aim at

-- the codes of field 11
abbrev signal_codes : List ℤ → List ℕ
signal_codes zs = value_or [] (block_codes zs signals signalling)

module _ (b : Board) (zs : List ℤ) (limit : ℕ) (i : Image b.registers) where
  -- the wanted image of any settings, with a right limit
  pub settings_change : limit_right limit ≡ true → Change (aim_of b zs limit)
  unfolding wanted_by
  settings_change l = record {
    found = i;
    wants = record { size = wanted-length b.registers zs ∙ i.size; bytes = wanted-bytes b.registers zs i.bytes };
    kept = λ r h e. puts_stay settable (writes_of zs table) b.registers r (settings_fit settable table-settable zs) e;
    fixed = full_settable (signal_codes zs);
    word = word_full (signal_codes zs);
    limited = l;
  }

  -- a register without a fixed bit is not needed
  free_rests : (r : ℕ) → r < register_count → fixed_mask (signal_codes zs) r ≡ 0 → must (aim_of b zs limit) r ≡ false
  free_rests r h e = by (knows b r) refl
    where
      by : (k : Bool) → knows b r ≡ k → must (aim_of b zs limit) r ≡ false
      by true k = rw (k, found-byte b.registers zs r i.size i.bytes h e) (no_difference b.registers r)
      by false k = rw (k, e)

  -- where no unknown register is fixed only in part, every register with such a bit is known or fixed, but for 1A and 1B where field 11 is off
  pub registers_told : ((r : ℕ) → r < register_count → (unknown b r && fixes_some zs r) ≡ false) → Told (aim_of b zs limit)
  registers_told h r k s c = by (knows b r) refl (free (signal_codes zs) r) refl (full (signal_codes zs) r) refl
    where
      by : (x : Bool) → knows b r ≡ x → (y : Bool) → free (signal_codes zs) r ≡ y → (z : Bool) → full (signal_codes zs) r ≡ z
          → (among 0x1a 0x1b r ≡ true) × ((must (aim_of b zs limit) 0x1a ≡ false) × (must (aim_of b zs limit) 0x1b ≡ false))
      by true p y q z u = absurd (false≢true (sym c ∙ rw p))
      by false p y q true u = absurd (false≢true (sym c ∙ rw (p, u)))
      by false p false q false u = absurd (false≢true (sym (h r k) ∙ rw (p, q, u)))
      by false p true q false u =
          let o = free_spare (signal_codes zs) r k s q in
          let e = spare_free (signal_codes zs) o.0 in
          (o.1, (free_rests 0x1a (omega arith) e.0, free_rests 0x1b (omega arith) e.1))

  -- the same where row 11 of planning holds at no field
  pub settings_told : ((f : ℕ) → 0 < f → f < field_count → partly_fixed b zs f ≡ false) → Told (aim_of b zs limit)
  settings_told h = registers_told (none_partly b zs h)
