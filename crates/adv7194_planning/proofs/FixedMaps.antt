-- The maps of the registers of which settings that pass the check fix every bit, and of those of which they fix only some: a test over the table for
-- signalling that is off, and one for signalling that is sent. Assumes nothing.
use mathlib.Core.Path.{◌≡◌, refl, sym, ap, ◌∙◌}
use mathlib.Core.Bool.{Bool, true, false, not, ◌&&◌}
use mathlib.Core.List.{List, [], ◌∷◌}
use Prim.Native.Nat.{ℕ, ◌^◌, ◌<◌}
use native.Mathlib.Omega.{arith}
use lib.Dec.{T, eqb, lit<}
use lib.IntN.{ℤ}
use Rattle.bits.proofs.Checks.{agrees, below, map_is}
use Rattle.bits.specs.Maps.{has}
use Rattle.refusals.specs.Refusal.{Judged, accepted, refused, value_or}
use Rattle.refusals.specs.Verdict.{Verdict, good, refused_at, after, fault_of, fault_where}
use Rattle.field_table.specs.Walk.{given}
use Rattle.field_table.specs.Blocks.{is}
use Rattle.adv7194_table.specs.Fields.{standard, timing, output, picture, dnr}
use Rattle.adv7194_table.specs.Blocks.{signalling}
use Rattle.adv7194_table.specs.Table.{table, signals}
use Rattle.adv7194_table.specs.Masks.{mask_where, field_mask, zero_mask}
use Rattle.adv7194_signalling.specs.Signalling.{number_of, signalling_codes, signalling_conflict}
use Rattle.adv7194_signalling.proofs.CgmsReadLaws as cgms
use Rattle.adv7194_signalling.proofs.WssLaws as wss
use Rattle.adv7194_signalling.proofs.CodeLaws.{off_codes, cgms-codes, wss_codes, no_codes}
use Rattle.adv7194_settings.specs.Codes.{numbers_in, block_codes}
use Rattle.adv7194_settings.specs.Demand.{fixed_mask}
use Rattle.adv7194_settings.specs.Known.{fixes_all, fixes_some}
use Rattle.adv7194_settings.proofs.FixedLaws.{none-fixed}
use Rattle.adv7194_wanted.specs.Parts.{first_part, second_part, fault_in}
use Rattle.adv7194_wanted.proofs.CheckLaws.{signal_fault, second_part_lem, check_parts}
use Rattle.adv7194_planning.specs.Aims.{Passing}

-- ---- the maps, the codes of field 11 being these

-- every bit of register r is fixed, and only some are
abbrev all_fixed : List ℕ → ℕ → Bool
all_fixed cs r = eqb (fixed_mask cs r) 0xFF

abbrev some_fixed : List ℕ → ℕ → Bool
some_fixed cs r = not (eqb (fixed_mask cs r) 0) && not (all_fixed cs r)

-- a map that has below 64 what a test of the fixed bits says has it everywhere
fixed-is : (m : ℕ) (cs : List ℕ) (test : ℕ → Bool) → test 0 ≡ false → m < 2 ^ 64 → T (below 64 (λ i. agrees (has m i) (test (fixed_mask cs i))))
    → (i : ℕ) → has m i ≡ test (fixed_mask cs i)
fixed-is m cs test none small same =
    map_is m (λ i. test (fixed_mask cs i)) small same (λ i h. ap test (none-fixed cs i (omega arith)) ∙ none)

all_off : (i : ℕ) → has 0xF_FFFF_E001_F020 i ≡ all_fixed [] i
unfolding below agrees fixed_mask field_mask zero_mask mask_where table timing output picture dnr
all_off = fixed-is 0xF_FFFF_E001_F020 [] (λ m. eqb m 0xFF) refl (lit< tt) tt

all_sent : (c : ℕ) (cs : List ℕ) (i : ℕ) → has 0xF_FFFF_EE01_F020 i ≡ all_fixed (c ∷ cs) i
unfolding below agrees fixed_mask field_mask zero_mask mask_where table timing output picture dnr
all_sent c cs = fixed-is 0xF_FFFF_EE01_F020 (c ∷ cs) (λ m. eqb m 0xFF) refl (lit< tt) tt

some_off : (i : ℕ) → has 0x200_0007 i ≡ some_fixed [] i
unfolding below agrees fixed_mask field_mask zero_mask mask_where table timing output picture dnr
some_off = fixed-is 0x200_0007 [] (λ m. not (eqb m 0) && not (eqb m 0xFF)) refl (lit< tt) tt

some_sent : (c : ℕ) (cs : List ℕ) (i : ℕ) → has 0x7 i ≡ some_fixed (c ∷ cs) i
unfolding below agrees fixed_mask field_mask zero_mask mask_where table timing output picture dnr
some_sent c cs = fixed-is 0x7 (c ∷ cs) (λ m. not (eqb m 0) && not (eqb m 0xFF)) refl (lit< tt) tt

-- ---- the codes of field 11 of settings that pass the check

-- a verdict that is good after another, and the other
good-after : {A B : Type 0} (u : Verdict A) (v : Verdict B) (b : B) → after u v ≡ good b → v ≡ good b
good-after (good a) v b e = e
good-after (refused_at n f) v b e = let z : ◌≡◌ {A = ℕ} 0 1 = cc in absurd (omega arith)

good-before : {B : Type 0} (u : Verdict (Unit {0})) (v : Verdict B) (b : B) → after u v ≡ good b → u ≡ good tt
good-before (good tt) v b e = refl
good-before (refused_at n f) v b e = let z : ◌≡◌ {A = ℕ} 0 1 = cc in absurd (omega arith)

-- a coding that is no fault is accepted
no_fault : (f : ℕ) (j : Judged (List ℕ)) → fault_of f j ≡ good tt → j ≡ accepted (value_or [] j)
no_fault f (accepted cs) e = refl
no_fault f (refused n) e = let z : ◌≡◌ {A = ℕ} 0 1 = cc in absurd (omega arith)

-- row 7 of field 11
abbrev conflict_fault : List ℤ → Verdict (Unit {0})
conflict_fault zs = fault_where (signalling_conflict (given zs standard.row) (numbers_in zs signalling)) 7 11

-- they are accepted
coded : (zs : List ℤ) → Passing zs → (let j = signalling_codes (numbers_in zs signalling) in j ≡ accepted (value_or [] j))
coded zs p =
    let whole = good-after (fault_in zs first_part) (fault_in zs second_part) tt (check_parts zs ∙ p.passes) in
    let signal = good-before (signal_fault zs) _ tt (sym (second_part_lem zs p.size) ∙ whole) in
    let j = signalling_codes (numbers_in zs signalling) in
    no_fault 11 j (good-after (conflict_fault zs) (fault_of 11 j) tt signal)

-- a list with a first number
record Some (cs : List ℕ) : Type 0 where
  head : ℕ
  rest : List ℕ
  are : cs ≡ head ∷ rest

-- signalling that isn't off has such codes
sent_some : (ns : List ℤ) (cs : List ℕ) → is 0 (number_of ns 0) ≡ false → signalling_codes ns ≡ accepted cs → Some cs
sent_some ns cs off e = by (is 1 (number_of ns 0)) (is 2 (number_of ns 0)) refl refl
  where
    by : (x y : Bool) → is 1 (number_of ns 0) ≡ x → is 2 (number_of ns 0) ≡ y → Some cs
    by true y p q =
        let c = cgms.is_coded (number_of ns 1) (number_of ns 2) (number_of ns 3) (number_of ns 4) cs (sym (cgms-codes ns off p) ∙ e) in
        record { head = _; rest = _; are = sym c.bytes_are }
    by false true p q =
        let c = wss.is_coded (number_of ns 1) cs (sym (wss_codes ns off p q) ∙ e) in
        record { head = _; rest = _; are = sym c.bytes_are }
    by false false p q = let z : ◌≡◌ {A = ℕ} 0 1 = cc (no_codes ns off p q) in absurd (omega arith)

-- ---- the maps of the settings

module _ (zs : List ℤ) (p : Passing zs) where
  -- field 11's codes and its kind
  abbrev codes : List ℕ
  codes = value_or [] (block_codes zs signals signalling)

  abbrev off : Bool
  off = is 0 (number_of (numbers_in zs signalling) 0)

  none : off ≡ true → [] ≡ codes
  none e = sym (ap (value_or []) (off_codes (numbers_in zs signalling) e))

  some : off ≡ false → Some codes
  some e = sent_some (numbers_in zs signalling) codes e (coded zs p)

  -- every bit is fixed
  pub fixed_off : off ≡ true → (i : ℕ) → has 0xF_FFFF_E001_F020 i ≡ fixes_all zs i
  fixed_off e i = all_off i ∙ ap (λ (cs : List ℕ). all_fixed cs i) (none e)

  pub fixed_sent : off ≡ false → (i : ℕ) → has 0xF_FFFF_EE01_F020 i ≡ fixes_all zs i
  fixed_sent e i = let s = some e in all_sent s.head s.rest i ∙ ap (λ (cs : List ℕ). all_fixed cs i) (sym s.are)

  -- only some are
  pub partly_off : off ≡ true → (i : ℕ) → has 0x200_0007 i ≡ fixes_some zs i
  partly_off e i = some_off i ∙ ap (λ (cs : List ℕ). some_fixed cs i) (none e)

  pub partly_sent : off ≡ false → (i : ℕ) → has 0x7 i ≡ fixes_some zs i
  partly_sent e i = let s = some e in some_sent s.head s.rest i ∙ ap (λ (cs : List ℕ). some_fixed cs i) (sym s.are)
