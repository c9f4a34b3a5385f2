-- What an entry of the table sets lies in its own bits, so that no two entries set the same bit. Assumes nothing.
use mathlib.Core.Path.{◌≡◌, refl, sym, ap, ◌∙◌, subst}
use mathlib.Core.Logic.{⊎_elim}
use mathlib.Core.Bool.{Bool, true, false, not, ◌&&◌, ◌||◌}
use mathlib.Core.List.{List, [], ◌∷◌, ◌++◌, flat_map}
use Prim.Native.Nat.{ℕ, suc, ◌+◌, ◌<◌, ◌≤◌}
use native.Mathlib.Omega.{arith}
use lib.Dec.{T, eqb, leb, ltb, leb→le, ltb→lt}
use lib.IntN.{ℤ}
use borrow.Author.Tests.{ne_eqb}
use Rattle.bits.proofs.FlagLaws.{both, first, second, either}
use Rattle.field_table.specs.Writes.{Write}
use Rattle.field_table.specs.Walk.{row_write}
use Rattle.field_table.specs.Blocks.{byte_writes}
use Rattle.field_table.proofs.ApartLaws.{apart, apart_from, all_apart}
use Rattle.field_table.proofs.FitLaws.{FitsIn, each_append}
use Rattle.adv7194_table.specs.declared.blocks.Block.{Block}
use Rattle.adv7194_table.specs.Table.{Content, signals, curve, subcarrier, Entry, single, whole}
use Rattle.adv7194_table.specs.Masks.{in_block}
use Rattle.adv7194_settings.specs.Codes.{block_codes}
use Rattle.adv7194_settings.specs.Wanted.{block_writes, entry_writes, writes_of}
use Rattle.adv7194_settings.proofs.FitLaws.{all_from, content_test, block_fills, block-fits}
use Rattle.refusals.specs.Refusal.{value_or}
use Rattle.bits.specs.Lists.{Every}

-- ---- an entry's own bits

-- a write is to an entry's bits
abbrev pub Inside : Entry → Write → Type 0
Inside (single f) w = (w.register ≡ f.row.register) × ((w.place ≡ f.row.bit) × (w.width ≡ f.row.width))
Inside (whole c b) w = T (in_block b w.register)

-- a block's registers are its own, and as many as its content wants
abbrev pub own_test : Entry → Bool
own_test (single f) = true
own_test (whole c b) = all_from (in_block b) b.register b.registers && content_test c b

-- what an entry sets is there
pub entry_inside : (zs : List ℤ) (e : Entry) → T (own_test e) → Every (Inside e) (entry_writes zs e)
entry_inside zs (single f) t = ((refl, (refl, refl)), tt)
entry_inside zs (whole c b) t =
    let p = all_from (in_block b) b.register b.registers in
    let content = second p (content_test c b) t in
    let cs = value_or [] (block_codes zs c b) in
    by (block_writes c b cs) (block-fits (in_block b) c b cs content (first p (content_test c b) t) (block_fills zs c b content))
  where
    by : (ws : List Write) → Every (FitsIn (in_block b)) ws → Every (λ w. T (in_block b w.register)) ws
    by [] f = tt
    by (w ∷ ws) f = (f.0.passes, by ws f.1)

-- ---- two entries

-- blocks with no register in common
abbrev below : Block → Block → Bool
below a b = leb (a.register + a.registers) b.register

-- two entries have no bit in common
abbrev pair_apart : Entry → Entry → Bool
pair_apart (single f) (single g) = apart (row_write f.row 0) (row_write g.row 0)
pair_apart (single f) (whole c b) = not (in_block b f.row.register)
pair_apart (whole c b) (single f) = not (in_block b f.row.register)
pair_apart (whole c a) (whole d b) = below a b || below b a

-- writes to two registers
other_register : (w v : Write) → (w.register ≡ v.register → ⊥) → T (apart w v)
other_register w v h = rw (ne_eqb w.register v.register h) tt

-- a register in a block isn't one outside
in_and_out : (b : Block) (r s : ℕ) → T (in_block b r) → T (not (in_block b s)) → r ≡ s → ⊥
in_and_out b r s t u e = by (in_block b s) (subst (λ (k : ℕ). T (in_block b k)) e t) u
  where
    by : (x : Bool) → T x → T (not x) → ⊥
    by true p q = q
    by false p q = p

-- the registers of a block
in_block_lem : (b : Block) (r : ℕ) → T (in_block b r) → (b.register ≤ r) × (r < b.register + b.registers)
in_block_lem b r t =
    let l = leb b.register r in
    let h = ltb r (b.register + b.registers) in
    (leb→le b.register r (first l h t), ltb→lt r (b.register + b.registers) (second l h t))

-- so what they set is apart
pair-apart : (e d : Entry) → T (pair_apart e d) → (w v : Write) → Inside e w → Inside d v → T (apart w v)
pair-apart (single f) (single g) t w v p q = rw (p.0, p.1.0, p.1.1, q.0, q.1.0, q.1.1) t
pair-apart (single f) (whole c b) t w v p q = other_register w v (λ e. in_and_out b v.register f.row.register q t (sym e ∙ p.0))
pair-apart (whole c b) (single f) t w v p q = other_register w v (λ e. in_and_out b w.register f.row.register p t (e ∙ q.0))
pair-apart (whole c a) (whole d b) t w v p q =
    let m = in_block_lem a w.register p in
    let n = in_block_lem b v.register q in
    other_register w v
    (λ e.
    ⊎_elim (λ u. omega (arith, leb→le (a.register + a.registers) b.register u)) (λ u. omega (arith, leb→le (b.register + b.registers) a.register u))
    (either (below a b) (below b a) t))

-- ---- the writes of one entry

-- a byte's write is apart from those of later registers
byte-first : (r k c : ℕ) (cs : List ℕ) → r < k → T (apart_from (record { register = r; place = 0; width = 8; value = c }) (byte_writes k cs))
unfolding byte_writes
byte-first r k c [] h = tt
byte-first r k c (d ∷ ds) h =
    both (apart (record { register = r; place = 0; width = 8; value = c }) (record { register = k; place = 0; width = 8; value = d }))
    (apart_from (record { register = r; place = 0; width = 8; value = c }) (byte_writes (suc k) ds))
    (other_register (record { register = r; place = 0; width = 8; value = c }) (record { register = k; place = 0; width = 8; value = d }) (λ e. omega arith))
    (byte-first r (suc k) c ds (omega arith))

bytes_apart : (r : ℕ) (cs : List ℕ) → T (all_apart (byte_writes r cs))
unfolding byte_writes
bytes_apart r [] = tt
bytes_apart r (c ∷ cs) =
    both (apart_from (record { register = r; place = 0; width = 8; value = c }) (byte_writes (suc r) cs)) (all_apart (byte_writes (suc r) cs))
    (byte-first r (suc r) c cs (omega arith)) (bytes_apart (suc r) cs)

block_apart : (c : Content) (b : Block) (cs : List ℕ) → T (all_apart (block_writes c b cs))
block_apart signals b [] = tt
block_apart signals b (c ∷ cs) = bytes_apart b.register (c ∷ cs)
block_apart curve b cs = bytes_apart b.register cs
block_apart subcarrier b cs = bytes_apart b.register cs

entry_apart_lem : (zs : List ℤ) (e : Entry) → T (all_apart (entry_writes zs e))
entry_apart_lem zs (single f) = tt
entry_apart_lem zs (whole c b) = block_apart c b (value_or [] (block_codes zs c b))

-- ---- all of them

-- an entry has no bit in common with any of some
abbrev pub entry_apart : Entry → List Entry → Bool
entry_apart e [] = true
entry_apart e (d ∷ ds) = pair_apart e d && entry_apart e ds

-- no two of some have one in common, and each block's registers are its own
abbrev pub entries_apart : List Entry → Bool
entries_apart [] = true
entries_apart (e ∷ es) = (own_test e && entry_apart e es) && entries_apart es

-- each of some writes is apart from one
apart-each : (w : Write) (vs : List Write) → Every (λ v. T (apart w v)) vs → T (apart_from w vs)
apart-each w [] h = tt
apart-each w (v ∷ vs) h = both (apart w v) (apart_from w vs) h.0 (apart-each w vs h.1)

-- a write of an entry is apart from what other entries set
write_apart : (zs : List ℤ) (e : Entry) (w : Write) → Inside e w → (ds : List Entry) → T (entry_apart e ds) → T (entries_apart ds)
    → Every (λ v. T (apart w v)) (writes_of zs ds)
unfolding writes_of flat_map
write_apart zs e w i [] t own = tt
write_apart zs e w i (d ∷ ds) t own =
    let here = own_test d && entry_apart d ds in
    each_append (λ v. T (apart w v)) (entry_writes zs d) (writes_of zs ds)
    (by (entry_writes zs d) (entry_inside zs d (first (own_test d) (entry_apart d ds) (first here (entries_apart ds) own))))
    (write_apart zs e w i ds (second (pair_apart e d) (entry_apart e ds) t) (second here (entries_apart ds) own))
  where
    by : (vs : List Write) → Every (Inside d) vs → Every (λ v. T (apart w v)) vs
    by [] h = tt
    by (v ∷ vs) h = (pair-apart e d (first (pair_apart e d) (entry_apart e ds) t) w v i h.0, by vs h.1)

-- writes before others
apart-append : (vs ws : List Write) → T (all_apart vs) → T (all_apart ws) → Every (λ v. T (apart_from v ws)) vs → T (all_apart (vs ++ ws))
apart-append [] ws p q h = q
apart-append (v ∷ vs) ws p q h =
    both (apart_from v (vs ++ ws)) (all_apart (vs ++ ws)) (from vs (first (apart_from v vs) (all_apart vs) p))
    (apart-append vs ws (second (apart_from v vs) (all_apart vs) p) q h.1)
  where
    from : (us : List Write) → T (apart_from v us) → T (apart_from v (us ++ ws))
    from [] t = h.0
    from (u ∷ us) t = both (apart v u) (apart_from v (us ++ ws)) (first (apart v u) (apart_from v us) t) (from us (second (apart v u) (apart_from v us) t))

-- so no two of all writes set the same bit
pub writes_apart : (zs : List ℤ) (es : List Entry) → T (entries_apart es) → T (all_apart (writes_of zs es))
unfolding writes_of flat_map
writes_apart zs [] t = tt
writes_apart zs (e ∷ es) t =
    let here = own_test e && entry_apart e es in
    let own = first here (entries_apart es) t in
    apart-append (entry_writes zs e) (writes_of zs es) (entry_apart_lem zs e) (writes_apart zs es (second here (entries_apart es) t))
    (by (entry_writes zs e) (entry_inside zs e (first (own_test e) (entry_apart e es) own)))
  where
    by : (ws : List Write) → Every (Inside e) ws → Every (λ w. T (apart_from w (writes_of zs es))) ws
    by [] h = tt
    by (w ∷ ws) h = (
      apart-each w (writes_of zs es)
          (write_apart zs e w h.0 es (second (own_test e) (entry_apart e es) (first (own_test e && entry_apart e es) (entries_apart es) t))
          (second (own_test e && entry_apart e es) (entries_apart es) t)),
      by ws h.1,
    )
