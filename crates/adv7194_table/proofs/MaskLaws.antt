-- The masks of registers: those of a field by rows and blocks, and that all of a register's masks together are at most a byte. Assumes nothing.
use mathlib.Core.Path.{◌≡◌, refl, ap, ◌∙◌}
use mathlib.Core.Bool.{Bool, true, false, not, cond}
use mathlib.Core.List.{List, [], ◌∷◌}
use Prim.Native.Nat.{ℕ, zero, suc, ◌+◌, ◌≤◌, ◌<◌}
use native.Mathlib.Numerals.{add-one}
use native.Mathlib.Omega.{arith}
use lib.Dec.{eqb, leb, ltb, leb→le}
use lib.ListN.{length, get_or, drop}
use lib.Seq.{drop-cons, drop-length}
use borrow.Author.Tests.{le-leb, le-ltb}
use Rattle.field_table.specs.Rows.{row_of}
use Rattle.adv7194_bus.specs.Kind.{register_count, read_only}
use Rattle.bits.proofs.Checks.{below, at-below}
use Rattle.adv7194_table.specs.declared.blocks.Block.{Block}
use Rattle.adv7194_table.specs.Fields.{timing, output, picture, dnr}
use Rattle.adv7194_table.specs.Blocks.{block_of, blocks_of}
use Rattle.adv7194_table.specs.Table.{Entry, single, whole, table, field_of, must_be_zero, single_fields, blocks_in, rows_in, rows_of}
use Rattle.field_table.specs.Masks.{row_bits}
use Rattle.adv7194_table.specs.Masks.{in_block, block_bits, bits_of, mask_where, field_mask, zero_mask, own_mask, rows_mask, blocks_mask, each, field_masks, zero_masks}

-- ---- the bits of a field, by rows and blocks

split : (n r : ℕ) (es : List Entry)
    → mask_where (λ e. eqb (field_of e) n) es r ≡ rows_mask n r (rows_in (single_fields es)) + blocks_mask n r (blocks_in es)
unfolding mask_where rows_mask blocks_mask rows_in single_fields blocks_in
split n r [] = refl
split n r (single f ∷ es) = let h = split n r es in omega arith
split n r (whole c b ∷ es) = let h = split n r es in omega arith

pub own_split : (n r : ℕ) → own_mask n r ≡ rows_mask n r (rows_in (single_fields table)) + blocks_mask n r (blocks_in table)
unfolding own_mask
own_split n r = split n r table

-- ---- all bits of a register

-- some entries' bits are at most those of all
some-all : (P : Entry → Bool) (es : List Entry) (r : ℕ) → mask_where P es r ≤ mask_where (λ e. true) es r
unfolding mask_where
some-all P [] r = omega arith
some-all P (e ∷ es) r = here (P e) (some-all P es r)
  where
    here : (b : Bool) {m n : ℕ} → m ≤ n → cond b (bits_of e r) 0 + m ≤ bits_of e r + n
    here true h = omega arith
    here false h = omega arith

-- those that pass a test and those that don't are all
both_all : (P : Entry → Bool) (es : List Entry) (r : ℕ) → mask_where (λ e. not (P e)) es r + mask_where P es r ≡ mask_where (λ e. true) es r
unfolding mask_where
both_all P [] r = refl
both_all P (e ∷ es) r = here (P e) _ _ _ (both_all P es r)
  where
    here : (b : Bool) (l m n : ℕ) → l + m ≡ n → cond (not b) (bits_of e r) 0 + l + (cond b (bits_of e r) 0 + m) ≡ bits_of e r + n
    here true l m n h = omega arith
    here false l m n h = omega arith

-- all are at most a byte: the one test that goes through every register
all_small : (r : ℕ) → r < register_count → mask_where (λ e. true) table r ≤ 0xFF
unfolding below mask_where table timing output picture dnr
all_small r h = leb→le _ 0xFF (at-below register_count (λ r. leb (mask_where (λ e. true) table r) 0xFF) tt r h)

-- a field's are among all
pub own_all : (n r : ℕ) → own_mask n r ≤ mask_where (λ e. true) table r
unfolding own_mask
own_all n r = some-all (λ e. eqb (field_of e) n) table r

pub own_small : (n r : ℕ) → r < register_count → own_mask n r ≤ 0xFF
own_small n r h = let a = own_all n r in let b = all_small r h in omega arith

pub fields-small : (r : ℕ) → r < register_count → field_mask r + zero_mask r ≤ 0xFF
unfolding field_mask zero_mask
fields-small r h = let a = both_all must_be_zero table r in let b = all_small r h in omega arith

-- no field has a bit of the read-only register
pub none_read_only : (n : ℕ) → own_mask n read_only ≡ 0
unfolding mask_where table timing output picture dnr
none_read_only n = let a = own_all n read_only in omega arith

-- ---- the masks as lists

pub each_at : (f : ℕ → ℕ) (k n i : ℕ) → i < n → get_or (each f k n) i 0 ≡ f (k + i)
each_at f k zero i h = absurd (omega arith)
each_at f k (suc n) zero h = ap f (omega arith)
each_at f k (suc n) (suc i) h = each_at f (suc k) n i (omega arith) ∙ ap f (omega arith)

pub field-mask-at : (r : ℕ) → r < register_count → get_or field_masks r 0 ≡ field_mask r
unfolding field_masks
field-mask-at r h = each_at field_mask 0 register_count r h ∙ ap field_mask (omega arith)

pub zero-mask-at : (r : ℕ) → r < register_count → get_or zero_masks r 0 ≡ zero_mask r
unfolding zero_masks
zero-mask-at r h = each_at zero_mask 0 register_count r h ∙ ap zero_mask (omega arith)

-- a register past a block's
pub past-block : (x : Block) (r : ℕ) → x.register + x.registers ≤ r → in_block x r ≡ false
past-block x r h =
    let g : leb x.register r ≡ true = le-leb x.register r (omega arith) in
    let k : ltb r (x.register + x.registers) ≡ false = le-ltb _ _ h in
    rw (g, k)

-- ---- row by row and block by block

module _ (n r : ℕ) (ps : List ℕ) (i : ℕ) where
  pub rows_next : i < length ps
      → rows_mask n r (rows_of (drop i ps)) ≡ cond (eqb (row_of (get_or ps i 0)).field n) (row_bits (row_of
      (get_or ps i 0)) r) 0 + rows_mask n r (rows_of (drop (i + 1) ps))
  unfolding rows_mask rows_of
  rows_next h = rw (add-one i, drop-cons ps i 0 h)

  pub blocks-next : i < length ps
      → blocks_mask n r (blocks_of (drop i ps))
      ≡ cond (eqb (block_of (get_or ps i 0)).field n) (block_bits (block_of (get_or ps i 0)) r) 0 + blocks_mask n r (blocks_of (drop (i + 1) ps))
  unfolding blocks_mask blocks_of
  blocks-next h = rw (add-one i, drop-cons ps i 0 h)

  pub rows_end : length ps ≤ i → i ≤ length ps → rows_mask n r (rows_of (drop i ps)) ≡ 0
  unfolding rows_mask rows_of
  rows_end h g = let e : i ≡ length ps = omega arith in rw (e, drop-length ps)

  pub blocks_end : length ps ≤ i → i ≤ length ps → blocks_mask n r (blocks_of (drop i ps)) ≡ 0
  unfolding blocks_mask blocks_of
  blocks_end h g = let e : i ≡ length ps = omega arith in rw (e, drop-length ps)
