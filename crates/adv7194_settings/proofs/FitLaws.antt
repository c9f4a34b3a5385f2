-- Whatever the settings, every value that they set fits its bits, these are bits of a register of the table, and the wanted image is bytes where the
-- starting image is. Assumes nothing.
use mathlib.Core.Path.{◌≡◌, refl, ap, ◌∙◌}
use mathlib.Core.Bool.{Bool, true, ◌&&◌}
use mathlib.Core.List.{List, [], ◌∷◌, flat_map}
use Prim.Native.Nat.{ℕ, zero, suc, ◌+◌, ◌<◌}
use native.Mathlib.Omega.{arith}
use lib.Dec.{T, eqb, leb, ltb, leb→le, ltb→lt}
use lib.IntN.{ℤ, pos}
use lib.ListN.{length, set}
use borrow.Author.Tests.{eqb-true}
use Rattle.bits.proofs.FlagLaws.{first, second, holds}
use Rattle.field_table.specs.Coding.{Field}
use Rattle.field_table.specs.Writes.{Write, put, puts}
use Rattle.field_table.specs.Walk.{given, bits_fit}
use Rattle.field_table.specs.Blocks.{byte_writes, slice}
use Rattle.field_table.proofs.WriteLaws.{AllFit, puts-length}
use Rattle.field_table.proofs.RoundTripLaws.{All, CodesFit}
use Rattle.field_table.proofs.FitLaws as fit
use Rattle.field_table.proofs.FitLaws.{FitsIn, each_append, Bytes, puts-bytes}
use Rattle.adv7194_bus.specs.Kind.{register_count}
use Rattle.adv7194_table.specs.declared.blocks.Block.{Block}
use Rattle.adv7194_table.specs.Fields.{standard, square_pixel, timing, output, picture, dnr}
use Rattle.adv7194_table.specs.Table.{Content, signals, curve, subcarrier, Entry, single, whole, single_fields, table}
use Rattle.adv7194_codes.proofs.FitLaws.{codes_fit}
use Rattle.adv7194_settings.specs.Codes.{numbers_in, block_codes}
use Rattle.adv7194_settings.specs.Wanted.{block_writes, writes_of, wanted_by}
use Rattle.adv7194_settings.proofs.BlockBytes.{Filling, curve_fills, signalling_fills, word_fills}
use Rattle.refusals.specs.Refusal.{value_or}
use Rattle.bits.specs.Lists.{Every}

-- each of n registers from r on passes a test
abbrev pub all_from : (ℕ → Bool) → ℕ → ℕ → Bool
all_from P r zero = true
all_from P r (suc n) = P r && all_from P (suc r) n

-- the first of them
at_first : (P : ℕ → Bool) (r n : ℕ) → 0 < n → T (all_from P r n) → T (P r)
at_first P r zero h t = absurd (omega arith)
at_first P r (suc n) h t = first (P r) (all_from P (suc r) n) t

-- bytes that fill no more than those
bytes_fit : (P : ℕ → Bool) (r n : ℕ) (cs : List ℕ) → T (all_from P r n) → Filling n cs → Every (FitsIn P) (byte_writes r cs)
unfolding byte_writes
bytes_fit P r n [] t f = tt
bytes_fit P r zero (c ∷ cs) t f = let s = f.size in absurd (omega arith)
bytes_fit P r (suc n) (c ∷ cs) t f = let s = f.size in (
  record { passes = first (P r) (all_from P (suc r) n) t; inside = omega arith; fits = f.bytes 0 },
  bytes_fit P (suc r) n cs (second (P r) (all_from P (suc r) n) t) (record { size = omega arith; bytes = λ i. f.bytes (suc i) }),
)

-- ---- writes of the table

-- a block has the registers and the numbers that its content wants
abbrev pub content_test : Content → Block → Bool
content_test signals b = eqb b.registers 3
content_test curve b = eqb b.registers 7 && eqb b.numbers 10
content_test subcarrier b = eqb b.registers 4

-- an entry's registers pass a test, and its bits are bits of a byte
abbrev entry_test : (ℕ → Bool) → Entry → Bool
entry_test P (single f) = P f.row.register && bits_fit f.row
entry_test P (whole c b) = all_from P b.register b.registers && content_test c b

-- those of each entry do
abbrev pub table_test : (ℕ → Bool) → List Entry → Bool
table_test P [] = true
table_test P (e ∷ es) = entry_test P e && table_test P es

-- some of the settings' numbers are as many as are taken
numbers-length : (zs : List ℤ) (k n : ℕ) → length (slice (pos 0) zs k n) ≡ n
unfolding slice
numbers-length zs k zero = refl
numbers-length zs k (suc n) = ap suc (numbers-length zs (suc k) n)

-- a number that is another
pub is_number : (n k : ℕ) → T (eqb n k) → n ≡ k
is_number n k t = eqb-true n k (holds (eqb n k) t)

-- the codes of a block fill its registers
pub block_fills : (zs : List ℤ) (c : Content) (b : Block) → T (content_test c b) → Filling b.registers (value_or [] (block_codes zs c b))
block_fills zs signals b t = rw (is_number b.registers 3 t) (signalling_fills (numbers_in zs b))
block_fills zs curve b t =
    let n = is_number b.numbers 10 (second (eqb b.registers 7) (eqb b.numbers 10) t) in
    rw (is_number b.registers 7 (first (eqb b.registers 7) (eqb b.numbers 10) t))
    (curve_fills (numbers_in zs b) (numbers-length zs b.index b.numbers ∙ n))
block_fills zs subcarrier b t = rw (is_number b.registers 4 t) (word_fills (given zs standard.row) (given zs square_pixel.row))

-- what they set: off sets bits 7-4 of the first register
pub block-fits : (P : ℕ → Bool) (c : Content) (b : Block) (cs : List ℕ) → T (content_test c b) → T (all_from P b.register b.registers)
    → Filling b.registers cs → Every (FitsIn P) (block_writes c b cs)
block-fits P signals b [] t p f =
    let n = is_number b.registers 3 t in
    (record { passes = at_first P b.register b.registers (omega arith) p; inside = omega arith; fits = omega arith }, tt)
block-fits P signals b (c ∷ cs) t p f = bytes_fit P b.register b.registers (c ∷ cs) p f
block-fits P curve b cs t p f = bytes_fit P b.register b.registers cs p f
block-fits P subcarrier b cs t p f = bytes_fit P b.register b.registers cs p f

-- what some entries set
entries_fit : (P : ℕ → Bool) (zs : List ℤ) (es : List Entry) → T (table_test P es) → All CodesFit (single_fields es) → Every (FitsIn P) (writes_of zs es)
unfolding writes_of single_fields flat_map
entries_fit P zs [] t k = tt
entries_fit P zs (single f ∷ es) t k =
    let own = entry_test P (single f) in
    let e = first own (table_test P es) t in (
      record {
        passes = first (P f.row.register) (bits_fit f.row) e;
        inside = leb→le (f.row.bit + f.row.width) 8 (second (P f.row.register) (bits_fit f.row) e);
        fits = k.0 (given zs f.row);
      },
      entries_fit P zs es (second own (table_test P es) t) k.1,
    )
entries_fit P zs (whole c b ∷ es) t k =
    let own = entry_test P (whole c b) in
    let e = first own (table_test P es) t in
    let p = all_from P b.register b.registers in
    let content = second p (content_test c b) e in
    each_append (FitsIn P) (block_writes c b (value_or [] (block_codes zs c b))) (writes_of zs es)
    (block-fits P c b (value_or [] (block_codes zs c b)) content (first p (content_test c b) e) (block_fills zs c b content))
    (entries_fit P zs es (second own (table_test P es) t) k)

-- what any settings set, to registers that pass a test where the table's do
pub settings_fit : (P : ℕ → Bool) → T (table_test P table) → (zs : List ℤ) → Every (FitsIn P) (writes_of zs table)
settings_fit P t zs = entries_fit P zs table t codes_fit

-- the chip has the register
abbrev pub in_chip : ℕ → Bool
in_chip r = ltb r register_count

-- so it has all of the table's
table-inside : T (table_test in_chip table)
unfolding table timing output picture dnr
table-inside = tt

-- every value fits its bits, and these are bits of one of the chip's registers
pub writes_fit : (zs : List ℤ) → Every (FitsIn in_chip) (writes_of zs table)
writes_fit zs = settings_fit in_chip table-inside zs

-- the same as the laws of writes have it
pub all_fit : (zs : List ℤ) → AllFit register_count (writes_of zs table)
all_fit zs = fit.all_fit in_chip register_count (λ r t. ltb→lt r register_count t) (writes_of zs table) (writes_fit zs)

-- ---- the wanted image

-- the wanted image is bytes where the starting image is
pub wanted-bytes : (image : List ℕ) (zs : List ℤ) → Bytes image → Bytes (wanted_by image zs)
unfolding wanted_by
wanted-bytes image zs b = puts-bytes in_chip (writes_of zs table) image (writes_fit zs) b

-- and it is as long
pub wanted-length : (image : List ℕ) (zs : List ℤ) → length (wanted_by image zs) ≡ length image
unfolding wanted_by
wanted-length image zs = puts-length image (writes_of zs table)
