-- The bits that settings and must-be-zero bits fix: none past the last register, a register without one is as found, and one of which only some are fixed has
-- a field's. Assumes nothing.
use mathlib.Core.Path.{◌≡◌, refl, sym, ap, ap₂, ◌∙◌}
use mathlib.Core.Bool.{Bool, true, false, cond, not, ◌&&◌, false≢true}
use mathlib.Core.List.{List, [], ◌∷◌}
use Prim.Native.Nat.{ℕ, zero, suc, ◌+◌, ◌%◌, ◌^◌, ◌≤◌, ◌<◌}
use native.Mathlib.Nat.{zero-div}
use native.Mathlib.Omega.{arith}
use lib.Dec.{T, eqb, leb, ltb, leb→le, ltb→lt}
use lib.IntN.{ℤ}
use lib.ListN.{length, get_or}
use borrow.Author.Tests.{le-leb, le-ltb, ne_eqb}
use Rattle.bits.specs.Fields.{bit}
use Rattle.bits.proofs.FlagLaws.{first, second, holds, fails}
use Rattle.bits.proofs.SetLaws.{by_bits_lem}
use Rattle.rounding.proofs.Range.{below, below_at, imp, imp→}
use Rattle.adv7194_bus.specs.Kind.{register_count}
use Rattle.adv7194_bus.specs.declared.board.Board.{Board}
use Rattle.adv7194_table.specs.declared.blocks.Block.{Block}
use Rattle.adv7194_table.specs.Blocks.{signalling}
use Rattle.adv7194_table.specs.Fields.{timing, output, picture, dnr}
use Rattle.adv7194_table.specs.Table.{signals, Entry, single, whole, table}
use Rattle.adv7194_table.specs.Masks.{in_block, bits_of, mask_where, field_mask, zero_mask, own_mask}
use Rattle.adv7194_table.specs.Registers.{has_bits, field_among, field_count}
use Rattle.adv7194_table.proofs.RegisterLaws.{one_below}
use Rattle.adv7194_settings.specs.Codes.{block_codes}
use Rattle.adv7194_settings.specs.Wanted.{wanted_by}
use Rattle.adv7194_settings.specs.Demand.{fixed_mask}
use Rattle.adv7194_settings.specs.Known.{fixed_bits, fixes_some, partly_fixed}
use Rattle.field_table.proofs.FitLaws.{Bytes}
use Rattle.adv7194_settings.proofs.FitLaws.{wanted-bytes}
use Rattle.adv7194_settings.proofs.DemandLaws.{demanded}
use Rattle.refusals.specs.Refusal.{value_or}
use Rattle.adv7194_settings.proofs.Names.{unknown}

-- ---- past the last register

-- a block has no register past its last
past-block : (b : Block) (r : ℕ) → b.register + b.registers ≤ r → in_block b r ≡ false
past-block b r h = rw (le-leb b.register r (omega arith), le-ltb r (b.register + b.registers) h)

-- an entry's registers are below n
abbrev entry_below : ℕ → Entry → Bool
entry_below n (single f) = ltb f.row.register n
entry_below n (whole c b) = leb (b.register + b.registers) n

-- those of some entries are
abbrev all_below : ℕ → List Entry → Bool
all_below n [] = true
all_below n (e ∷ es) = entry_below n e && all_below n es

-- an entry has no bit there
entry_none : (n r : ℕ) (e : Entry) → T (entry_below n e) → n ≤ r → bits_of e r ≡ 0
entry_none n r (single f) t h =
    let l = ltb→lt f.row.register n t in
    rw (ne_eqb f.row.register r (λ e. omega (arith, e)))
entry_none n r (whole c b) t h = let l = leb→le (b.register + b.registers) n t in rw (past-block b r (omega arith))

-- and no entries have
none_there : (P : Entry → Bool) (n r : ℕ) (es : List Entry) → T (all_below n es) → n ≤ r → mask_where P es r ≡ 0
unfolding mask_where
none_there P n r [] t h = refl
none_there P n r (e ∷ es) t h =
    ap₂ ◌+◌ (by (P e) (entry_none n r e (first (entry_below n e) (all_below n es) t) h)) (none_there P n r es (second (entry_below n e) (all_below n es) t) h)
  where
    by : (b : Bool) → bits_of e r ≡ 0 → cond b (bits_of e r) 0 ≡ 0
    by true e = e
    by false e = refl

-- the table's registers are the chip's
table_below : T (all_below register_count table)
unfolding table timing output picture dnr
table_below = tt

no_bits : (r : ℕ) → register_count ≤ r → field_mask r + zero_mask r ≡ 0
unfolding field_mask zero_mask
no_bits r h = ap₂ ◌+◌ (none_there _ register_count r table table_below h) (none_there _ register_count r table table_below h)

-- so nothing is fixed there
pub none-fixed : (cs : List ℕ) (r : ℕ) → register_count ≤ r → fixed_mask cs r ≡ 0
unfolding fixed_mask
none-fixed [] r h = rw (past-block signalling r (omega arith)) (no_bits r h)
none-fixed (c ∷ cs) r h = no_bits r h

-- ---- a register without a fixed bit

-- it is as found
pub found-byte : (image : List ℕ) (zs : List ℤ) (r : ℕ) → length image ≡ register_count → Bytes image → r < register_count → fixed_bits zs r ≡ 0
    → get_or (wanted_by image zs) r 0 ≡ get_or image r 0
found-byte image zs r size bytes h e =
    by_bits_lem 8 (get_or (wanted_by image zs) r 0) (get_or image r 0) (wanted-bytes image zs bytes r) (bytes r)
    (λ i k. ap (λ (n : ℕ). eqb n 1) ((demanded image zs size).kept r i h k (ap (bit i) e ∙ ap (λ (n : ℕ). n % 2 ^ 1) (zero-div (2 ^ i)))))

-- ---- a register of which only some bits are fixed

-- a field with bits in such a register: standard in 00, 4x oversampling in 01, square pixel in 02, else signalling
abbrev field_in : ℕ → ℕ
field_in r = cond (eqb r 0x00) 1 (cond (eqb r 0x01) 3 (cond (eqb r 0x02) 2 11))

-- it is a field
field_in_lem : (r : ℕ) → (0 < field_in r) × (field_in r < field_count)
field_in_lem r = by (eqb r 0x00) (eqb r 0x01) (eqb r 0x02)
  where
    by : (x y z : Bool) → (0 < cond x 1 (cond y 3 (cond z 2 11))) × (cond x 1 (cond y 3 (cond z 2 11)) < field_count)
    by true y z = (omega arith, omega arith)
    by false true z = (omega arith, omega arith)
    by false false true = (omega arith, omega arith)
    by false false false = (omega arith, omega arith)

-- only some of register r's bits are fixed, the codes of field 11 being these
abbrev some_fixed : List ℕ → ℕ → Bool
some_fixed cs r = not (eqb (fixed_mask cs r) 0) && not (eqb (fixed_mask cs r) 0xFF)

-- then the field has bits there: a test over the table, whether field 11 is off or not
some-field : (cs : List ℕ) → T (below (λ r. imp (some_fixed cs r) (has_bits (field_in r) r)) register_count)
unfolding fixed_mask field_mask zero_mask own_mask mask_where table timing output picture dnr
some-field [] = tt
some-field (c ∷ cs) = tt

-- where no field has bits in an unknown register that is fixed only in part, there is none
pub none_partly : (b : Board) (zs : List ℤ) → ((f : ℕ) → 0 < f → f < field_count → partly_fixed b zs f ≡ false)
    → (r : ℕ) → r < register_count → (unknown b r && fixes_some zs r) ≡ false
unfolding field_among
none_partly b zs h r k = fails (unknown b r && fixes_some zs r) refused
  where
    refused : T (unknown b r && fixes_some zs r) → ⊥
    refused t =
        let cs = value_or [] (block_codes zs signals signalling) in
        let some = holds (fixes_some zs r) (second (unknown b r) (fixes_some zs r) t) in
        let has : has_bits (field_in r) r ≡ true = holds (has_bits (field_in r) r) (imp→ (fixes_some zs r) (has_bits (field_in r) r)
        (below_at (λ x. imp (some_fixed cs x) (has_bits (field_in x) x)) register_count (some-field cs) r k) some) in
        let here : (has_bits (field_in r) r && (unknown b r && fixes_some zs r)) ≡ true = rw has (holds (unknown b r && fixes_some zs r) t) in
        false≢true (sym (h (field_in r) (field_in_lem r).0 (field_in_lem r).1)
        ∙ one_below (λ x. has_bits (field_in r) x && (unknown b x && fixes_some zs x)) register_count r k here)
