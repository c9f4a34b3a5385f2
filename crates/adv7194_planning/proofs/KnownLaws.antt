-- Where every register of the fields is known, every register with a bit that settings fix is. Assumes nothing.
use mathlib.Core.Path.{◌≡◌, refl, sym, ◌∙◌}
use mathlib.Core.Bool.{Bool, true, false, cond, not, ◌&&◌, false≢true, and-false}
use mathlib.Core.List.{List, [], ◌∷◌}
use Prim.Native.Nat.{ℕ, ◌<◌}
use lib.Dec.{T, eqb, ltb, ltb→lt}
use lib.IntN.{ℤ}
use borrow.Author.Tests.{eqb-true, ltb-true, ltb-false}
use Rattle.bits.proofs.FlagLaws.{first, second, holds}
use Rattle.rounding.proofs.Range.{below, below_at, imp, imp→}
use Rattle.adv7194_bus.specs.Kind.{register_count}
use Rattle.adv7194_bus.specs.declared.board.Board.{Board}
use Rattle.adv7194_bus.specs.Board.{knows}
use Rattle.adv7194_table.specs.Fields.{timing, output, picture, dnr}
use Rattle.adv7194_table.specs.Blocks.{signalling}
use Rattle.adv7194_table.specs.Table.{Entry, signals, table, field_of, order_of}
use Rattle.adv7194_table.specs.Masks.{bits_of, mask_where, field_mask, zero_mask, own_mask}
use Rattle.adv7194_table.specs.Registers.{has_bits, field_among, lowest_field, field_count}
use Rattle.adv7194_table.proofs.RegisterLaws.{one_below, none_below, none_lowest}
use Rattle.adv7194_settings.specs.Codes.{block_codes}
use Rattle.adv7194_settings.specs.Demand.{fixed_mask}
use Rattle.adv7194_settings.specs.Known.{fixed_bits, fixes_all}
use Rattle.adv7194_settings.proofs.FixedLaws.{none-fixed}
use Rattle.adv7194_planning.proofs.CaseLaws.{unfixed, lowest_unfixed}
use Rattle.adv7194_planning.proofs.Outcomes.{none-among}
use Rattle.refusals.specs.Refusal.{value_or}
use Rattle.adv7194_settings.proofs.Names.{unknown}

-- the field of the first entry that has a bit of register r
abbrev field_at : List Entry → ℕ → ℕ
field_at [] r = 0
field_at (e ∷ es) r = cond (eqb (bits_of e r) 0) (field_at es r) (field_of e)

-- it is a field, and has the register
abbrev field_test : ℕ → Bool
field_test r = let f = field_at table r in has_bits f r && (ltb 0 f && ltb f field_count)

-- where a bit is fixed: a test over the table, whether field 11 is off or not
with-field : (cs : List ℕ) → T (below (λ r. imp (not (eqb (fixed_mask cs r) 0)) (field_test r)) register_count)
unfolding fixed_mask field_mask zero_mask own_mask mask_where table timing output picture dnr
with-field [] = tt
with-field (c ∷ cs) = tt

module _ (b : Board) (zs : List ℤ) (known : lowest_field (unknown b) ≡ 0) where
  -- a register with a fixed bit is known
  some_known : (r : ℕ) → r < register_count → eqb (fixed_bits zs r) 0 ≡ false → knows b r ≡ true
  unfolding field_among
  some_known r h e = by (knows b r) refl
    where
      f : ℕ
      f = field_at table r

      test : T (field_test r)
      test =
          let cs = value_or [] (block_codes zs signals signalling) in
          imp→ (not (eqb (fixed_mask cs r) 0)) (field_test r)
          (below_at (λ x. imp (not (eqb (fixed_mask cs x) 0)) (field_test x)) register_count (with-field cs) r h) (rw e)

      by : (x : Bool) → knows b r ≡ x → knows b r ≡ true
      by true p = p
      by false p =
          let range = second (has_bits f r) (ltb 0 f && ltb f field_count) test in
          let bits = holds (has_bits f r) (first (has_bits f r) (ltb 0 f && ltb f field_count) test) in
          let low = ltb→lt 0 f (first (ltb 0 f) (ltb f field_count) range) in
          let high = ltb→lt f field_count (second (ltb 0 f) (ltb f field_count) range) in
          let here : (has_bits f r && unknown b r) ≡ true = rw (bits, p) in
          absurd (false≢true (sym (none-among (unknown b) known f low high) ∙ one_below (λ x. has_bits f x && unknown b x) register_count r h here))

  -- so one that is fixed in whole is
  pub all_known_lem : (r : ℕ) → fixes_all zs r ≡ true → knows b r ≡ true
  all_known_lem r e = by (ltb r register_count) refl
    where
      some : eqb (fixed_bits zs r) 0xFF ≡ true → eqb (fixed_bits zs r) 0 ≡ false
      some e = rw (eqb-true (fixed_bits zs r) 0xFF e)

      by : (x : Bool) → ltb r register_count ≡ x → knows b r ≡ true
      by true p = some_known r (ltb-true r register_count p) (some e)
      by false p =
          let z = none-fixed (value_or [] (block_codes zs signals signalling)) r (ltb-false r register_count p) in
          absurd (false≢true (sym (rw z) ∙ e))

  -- and no unknown one is fixed only in part
  pub none_unfixed : lowest_unfixed b zs ≡ 0
  unfolding field_among
  none_unfixed =
      none_lowest (unfixed b zs) (λ f. none_below (λ r. has_bits f r && unfixed b zs r) register_count (λ r h. none f r h)) (order_of table)
    where
      rest : (r : ℕ) → r < register_count → (x : Bool) → eqb (fixed_bits zs r) 0 ≡ x → (unknown b r && (not x && not (fixes_all zs r))) ≡ false
      rest r h true p = and-false (unknown b r)
      rest r h false p = let k : knows b r ≡ true = some_known r h p in rw k

      none : (f r : ℕ) → r < register_count → (has_bits f r && unfixed b zs r) ≡ false
      none f r h = let e : unfixed b zs r ≡ false = rest r h (eqb (fixed_bits zs r) 0) refl in rw e (and-false (has_bits f r))
