-- The wanted image of any settings is demand 2's image, bit by bit, and no other is. Assumes nothing.
use mathlib.Core.Path.{◌≡◌, refl, sym, ap, ◌∙◌, subst}
use mathlib.Core.Logic.{⊎_elim}
use mathlib.Core.Bool.{Bool, true, false, cond, not, ◌&&◌, ◌||◌}
use mathlib.Core.List.{List, [], ◌∷◌, ◌++◌, flat_map}
use Prim.Native.Nat.{ℕ, ◌+◌, ◌-◌, ◌%◌, ◌^◌, ◌<◌}
use native.Mathlib.Omega.{arith}
use lib.Dec.{T, eqb, leb, ltb, leb→le}
use lib.IntN.{ℤ}
use lib.ListN.{length, get_or}
use borrow.Author.Tests.{eq-eqb}
use Rattle.bits.specs.Fields.{field, bit}
use Rattle.bits.proofs.FlagLaws.{first, second, either}
use Rattle.bits.proofs.SameLaws.{same-registers}
use Rattle.rounding.proofs.Range.{below, below_at, imp, imp→}
use Rattle.field_table.specs.Rows.{row_of}
use Rattle.field_table.specs.Coding.{Field, encode, plain_of}
use Rattle.field_table.specs.Writes.{Write, puts, sets, held, AllHeld}
use Rattle.field_table.specs.Walk.{given, row_write, write_of}
use Rattle.field_table.proofs.WriteLaws.{AllFit, puts-length, puts-bit}
use Rattle.field_table.proofs.ApartLaws.{puts-held}
use Rattle.field_table.proofs.RoundTripLaws.{All}
use Rattle.field_table.proofs.FitLaws.{each_append, untouched, Bytes}
use Rattle.field_table.proofs.MaskLaws.{zero-code, bit-zero}
use Rattle.adv7194_bus.specs.Kind.{register_count}
use Rattle.adv7194_table.specs.declared.blocks.Block.{Block}
use Rattle.adv7194_table.specs.Blocks.{signalling}
use Rattle.adv7194_table.specs.Fields.{timing, output, picture, dnr}
use Rattle.adv7194_table.specs.Table.{signals, curve, subcarrier, Entry, single, whole, single_fields, table}
use Rattle.adv7194_table.specs.Masks.{in_block, mask_where, field_mask, zero_mask}
use Rattle.adv7194_settings.specs.Codes.{block_codes}
use Rattle.adv7194_settings.specs.Wanted.{entry_writes, writes_of, wanted_by, block_writes}
use Rattle.adv7194_settings.specs.Demand.{fixed_mask, Demanded}
use Rattle.adv7194_settings.proofs.FitLaws.{all_fit, is_number}
use Rattle.adv7194_settings.proofs.EntryLaws.{own_test, entry_inside, entries_apart, writes_apart}
use Rattle.refusals.specs.Refusal.{value_or}
use Rattle.bits.specs.Lists.{Every}
use Rattle.adv7194_settings.proofs.Names.{off_write}

-- a test at every bit of every register
abbrev every_bit : (ℕ → ℕ → Bool) → Bool
every_bit P = below (λ r. below (λ i. P r i) 8) register_count

at-bit : (P : ℕ → ℕ → Bool) → T (every_bit P) → (r i : ℕ) → r < register_count → i < 8 → T (P r i)
at-bit P t r i hr hi = below_at (λ i. P r i) 8 (below_at (λ r. below (λ i. P r i) 8) register_count t r hr) i hi

-- ---- bits that no write sets

-- field 11 leaves a bit, its codes being these
abbrev signals_free : List ℕ → Block → ℕ → ℕ → Bool
signals_free [] b r i = not (sets (off_write b) r i)
signals_free (c ∷ cs) b r i = not (in_block b r)

-- its codes are those of the settings' field 11
abbrev own_signals : Block → Bool
own_signals b = eqb b.index signalling.index && eqb b.numbers signalling.numbers

-- an entry leaves a bit
abbrev entry_free : List ℕ → ℕ → ℕ → Entry → Bool
entry_free cs r i (single f) = not (sets (row_write f.row 0) r i)
entry_free cs r i (whole signals b) = own_signals b && signals_free cs b r i
entry_free cs r i (whole curve b) = not (in_block b r)
entry_free cs r i (whole subcarrier b) = not (in_block b r)

-- all of some entries do
abbrev all_free : List ℕ → ℕ → ℕ → List Entry → Bool
all_free cs r i [] = true
all_free cs r i (e ∷ es) = (own_test e && entry_free cs r i e) && all_free cs r i es

-- writes to a block's registers leave the bits of others
block_free : (b : Block) (r i : ℕ) → T (not (in_block b r)) → (ws : List Write) → Every (λ w. T (in_block b w.register)) ws
    → Every (λ w. T (not (sets w r i))) ws
block_free b r i t [] h = tt
block_free b r i t (w ∷ ws) h = (one (eqb r w.register) refl, block_free b r i t ws h.1)
  where
    no : (x : Bool) → T x → T (not x) → ⊥
    no true p q = q
    no false p q = p

    one : (x : Bool) → eqb r w.register ≡ x → T (not (x && (leb w.place i && ltb i (w.place + w.width))))
    one false e = tt
    one true e = absurd (no (in_block b r) (subst (λ (k : ℕ). T (in_block b k)) (sym (is_number r w.register (subst T (sym e) tt))) h.0) t)

-- field 11 leaves the bits that it has not
signals_free_lem : (b : Block) (cs : List ℕ) (r i : ℕ) → T (signals_free cs b r i) → Every (λ w. T (in_block b w.register)) (block_writes signals b cs)
    → Every (λ w. T (not (sets w r i))) (block_writes signals b cs)
signals_free_lem b [] r i t h = (t, tt)
signals_free_lem b (c ∷ cs) r i t h = block_free b r i t (block_writes signals b (c ∷ cs)) h

-- the codes of field 11
abbrev signal_codes : List ℤ → List ℕ
signal_codes zs = value_or [] (block_codes zs signals signalling)

same_codes : (zs : List ℤ) (b : Block) → T (own_signals b) → signal_codes zs ≡ value_or [] (block_codes zs signals b)
same_codes zs b t =
    let k = is_number b.index signalling.index (first (eqb b.index signalling.index) (eqb b.numbers signalling.numbers) t) in
    let n = is_number b.numbers signalling.numbers (second (eqb b.index signalling.index) (eqb b.numbers signalling.numbers) t) in
    rw (k, n)

-- what an entry sets leaves the bits that it leaves
entry_free_lem : (zs : List ℤ) (r i : ℕ) (e : Entry) → T (own_test e) → T (entry_free (signal_codes zs) r i e)
    → Every (λ w. T (not (sets w r i))) (entry_writes zs e)
entry_free_lem zs r i (single f) o t = (t, tt)
entry_free_lem zs r i (whole signals b) o t =
    let own = own_signals b in
    let here = signals_free (signal_codes zs) b r i in
    signals_free_lem b (value_or [] (block_codes zs signals b)) r i
    (subst (λ (cs : List ℕ). T (signals_free cs b r i)) (same_codes zs b (first own here t)) (second own here t))
    (entry_inside zs (whole signals b) o)
entry_free_lem zs r i (whole curve b) o t = block_free b r i t (entry_writes zs (whole curve b)) (entry_inside zs (whole curve b) o)
entry_free_lem zs r i (whole subcarrier b) o t = block_free b r i t (entry_writes zs (whole subcarrier b)) (entry_inside zs (whole subcarrier b) o)

entries_free : (zs : List ℤ) (r i : ℕ) (es : List Entry) → T (all_free (signal_codes zs) r i es) → Every (λ w. T (not (sets w r i))) (writes_of zs es)
unfolding writes_of flat_map
entries_free zs r i [] t = tt
entries_free zs r i (e ∷ es) t =
    let own = own_test e in
    let here = entry_free (signal_codes zs) r i e in
    let rest = all_free (signal_codes zs) r i es in
    let now = first (own && here) rest t in
    each_append (λ w. T (not (sets w r i))) (entry_writes zs e) (writes_of zs es) (entry_free_lem zs r i e (first own here now) (second own here now))
    (entries_free zs r i es (second (own && here) rest t))

-- what the masks leave free, every entry does: a test over the table, whether field 11 is off or not
abbrev free_bit : List ℕ → ℕ → ℕ → Bool
free_bit cs r i = imp (eqb (bit i (fixed_mask cs r)) 0) (all_free cs r i table)

free : (cs : List ℕ) → T (every_bit (free_bit cs))
unfolding fixed_mask field_mask zero_mask mask_where table timing output picture dnr
free [] = tt
free (c ∷ cs) = tt

-- ---- must-be-zero bits

-- what holds of the writes of some entries holds of each single field's
each-rest : (Q : Write → Type 0) (vs ws : List Write) → Every Q (vs ++ ws) → Every Q ws
each-rest Q [] ws h = h
each-rest Q (v ∷ vs) ws h = each-rest Q vs ws h.1

each-single : (Q : Write → Type 0) (zs : List ℤ) (es : List Entry) → Every Q (writes_of zs es) → All (λ f. Q (write_of zs f)) (single_fields es)
unfolding writes_of single_fields flat_map
each-single Q zs [] h = tt
each-single Q zs (single f ∷ es) h = (h.0, each-single Q zs es h.1)
each-single Q zs (whole c b ∷ es) h = each-single Q zs es (each-rest Q (entry_writes zs (whole c b)) (writes_of zs es) h)

-- must-be-zero bits: the rows of 21 and of 22
abbrev brightness_zero : Field
brightness_zero = plain_of (row_of 0x10_FF_21_71_000_000_04)

abbrev sharpness_zero : Field
sharpness_zero = plain_of (row_of 0x11_FF_22_44_000_000_04)

-- their code is 0
brightness-zero : (z : ℤ) → value_or 0 (encode brightness_zero z) ≡ 0
brightness-zero = zero-code brightness_zero.row tt tt

sharpness-zero : (z : ℤ) → value_or 0 (encode sharpness_zero z) ≡ 0
sharpness-zero = zero-code sharpness_zero.row tt tt

-- where the bits are: a test over the table
abbrev in21 : ℕ → ℕ → Bool
in21 r i = eqb r 0x21 && leb 7 i

abbrev in22 : ℕ → ℕ → Bool
in22 r i = eqb r 0x22 && leb 4 i

abbrev zero_bit : ℕ → ℕ → Bool
zero_bit r i = imp (eqb (bit i (zero_mask r)) 1) (in21 r i || in22 r i)

zero_bits_lem : T (every_bit zero_bit)
unfolding zero_mask mask_where table timing output picture dnr
zero_bits_lem = tt

-- where every field is as its coding makes it, these hold 0
zero_held : (zs : List ℤ) (out : List ℕ) → AllHeld out (writes_of zs table) → (field 7 1 (get_or out 0x21 0) ≡ 0) × (field 4 4 (get_or out 0x22 0) ≡ 0)
unfolding single_fields table timing output picture dnr
zero_held zs out h =
    let all = each-single (λ w. held out w ≡ w.value % 2 ^ w.width) zs table h in
    let picture-on = all.1.1.1.1.1.1.1.1.1.1 in (
      picture-on.1.1.1.1.1.0 ∙ ap (λ (n : ℕ). n % 2 ^ 1) (brightness-zero (given zs brightness_zero.row)),
      picture-on.1.1.1.1.1.1.1.0 ∙ ap (λ (n : ℕ). n % 2 ^ 4) (sharpness-zero (given zs sharpness_zero.row)),
    )

-- so must-be-zero bits are zero
zeroed : (zs : List ℤ) (out : List ℕ) → AllHeld out (writes_of zs table) → (r i : ℕ) → r < register_count → i < 8 → bit i (zero_mask r) ≡ 1
    → bit i (get_or out r 0) ≡ 0
zeroed zs out h r i hr hi z =
    let zeros = zero_held zs out h in
    ⊎_elim (λ u. at 0x21 7 1 refl zeros.0 u) (λ u. at 0x22 4 4 refl zeros.1 u)
    (either (in21 r i) (in22 r i) (imp→ _ _ (at-bit zero_bit zero_bits_lem r i hr hi) (eq-eqb (bit i (zero_mask r)) 1 z)))
  where
    at : (register place width : ℕ) → place + width ≡ 8 → field place width (get_or out register 0) ≡ 0 → T (eqb r register && leb place i)
        → bit i (get_or out r 0) ≡ 0
    at register place width full e t =
        let l = leb→le place i (second (eqb r register) (leb place i) t) in
        ap (λ (k : ℕ). bit i (get_or out k 0)) (is_number r register (first (eqb r register) (leb place i) t))
        ∙ bit-zero place width (get_or out register 0) i e l (omega arith)

-- ---- demand 2

-- no two entries of the table have a bit in common
table-apart : T (entries_apart table)
unfolding table timing output picture dnr
table-apart = tt

-- the wanted image of any settings is as demand 2 has it
pub demanded : (image : List ℕ) (zs : List ℤ) → length image ≡ register_count → Demanded image zs (wanted_by image zs)
unfolding wanted_by
demanded image zs size =
    let ws = writes_of zs table in
    let fit = subst (λ (n : ℕ). AllFit n ws) (sym size) (all_fit zs) in
    let kept-held = puts-held image ws (writes_apart zs table table-apart) fit in
    record {
      size = puts-length image ws;
      bits = λ r i hi. puts-bit image ws r i hi fit;
      fields = kept-held;
      zero = zeroed zs (puts image ws) kept-held;
      kept = λ r i hr hi z.
          puts-bit image ws r i hi fit
          ∙ untouched (bit i (get_or image r 0)) ws r i
          (entries_free zs r i table
          (imp→ _ _ (at-bit (free_bit (signal_codes zs)) (free (signal_codes zs)) r i hr hi) (eq-eqb (bit i (fixed_mask (signal_codes zs) r)) 0 z)));
    }

-- no two images of bytes are
pub one_demanded : (image : List ℕ) (zs : List ℤ) (a b : List ℕ) → Bytes a → Bytes b → Demanded image zs a → Demanded image zs b → a ≡ b
one_demanded image zs a b ha hb p q = same-registers a b (p.size ∙ sym q.size) ha hb (λ r i h. p.bits r i h ∙ sym (q.bits r i h))
