-- Field 11 there and back: a setting is coded as nothing or as three bytes; what is read is coded as the bytes that it was read from; and what was coded
-- is read as a setting of the same bytes. Assumes nothing.
use mathlib.Core.Path.{◌≡◌, refl, sym, ap, ap₂, ◌∙◌, subst}
use mathlib.Core.Bool.{Bool, true, false, not, ◌&&◌, ◌||◌}
use mathlib.Core.List.{List, [], ◌∷◌}
use mathlib.Core.Logic.{◌⊎◌, inl, inr}
use Prim.Native.Nat.{ℕ, ◌+◌, ◌/◌, ◌%◌, ◌^◌, ◌<◌}
use native.Mathlib.Omega.{arith}
use lib.Dec.{T}
use lib.IntN.{ℤ, pos, nat_abs}
use lib.ListN.{get_or}
use lib.Signed.{pos-nat_abs}
use Rattle.bits.specs.Fields.{field}
use Rattle.bits.specs.Maps.{has}
use Rattle.refusals.specs.Refusal.{accepted, refused}
use Rattle.rounding.proofs.Range.{below, below_at, imp, imp→not, T→true}
use Rattle.field_table.specs.Blocks.{is}
use Rattle.field_table.proofs.Judging.{neither_l, neither_r}
use Rattle.adv7194_signalling.specs.Cgms.{cgms_of}
use Rattle.adv7194_signalling.specs.Wss.{wss_of}
use Rattle.adv7194_signalling.specs.Signalling.{number_of, signalling_codes, signalling_conflict, no_signalling, cgms_held, wss_held, signalling_held, held_conflict}
use Rattle.adv7194_signalling.proofs.NumberLaws.{Within}
use Rattle.adv7194_signalling.proofs.WordLaws.{word_bytes}
use Rattle.adv7194_signalling.proofs.CgmsLaws.{cgms_number}
use Rattle.adv7194_signalling.proofs.CgmsReadLaws.{parts, is_coded}
use Rattle.adv7194_signalling.proofs.WssLaws.{is_coded as wss-is-coded}
use Rattle.adv7194_signalling.proofs.HeldLaws.{held-is, cgms_in, wss_in, cgms-held, wss_held_lem}
use Rattle.adv7194_signalling.proofs.KindLaws.{sent, by_bits, cgms-kind, wss_kind, off_zero, zero_off, cgms_sends}
use Rattle.adv7194_signalling.proofs.CodeLaws.{off_codes, cgms-codes, wss_codes, no_codes}

-- ---- the bytes of a setting

-- what holds of no bytes, of those of CGMS and of those of WSS, holds of the bytes of any setting
by_kind : (P : List ℕ → Type 0) (zs : List ℤ) (cs : List ℕ) → signalling_codes zs ≡ accepted cs → P []
    → (is 1 (number_of zs 0) ≡ true → cgms_of (number_of zs 1) (number_of zs 2) (number_of zs 3) (number_of zs 4) ≡ accepted cs → P cs)
    → (is 2 (number_of zs 0) ≡ true → wss_of (number_of zs 1) ≡ accepted cs → P cs) → P cs
by_kind P zs cs e none of-cgms of-wss = by (is 0 (number_of zs 0)) (is 1 (number_of zs 0)) (is 2 (number_of zs 0)) refl refl refl
  where
    by : (x y z : Bool) → is 0 (number_of zs 0) ≡ x → is 1 (number_of zs 0) ≡ y → is 2 (number_of zs 0) ≡ z → P cs
    by true y z p q r = let same : [] ≡ cs = cc (off_codes zs p) in subst P same none
    by false true z p q r = of-cgms q (sym (cgms-codes zs p q) ∙ e)
    by false false true p q r = of-wss r (sym (wss_codes zs p q r) ∙ e)
    by false false false p q r =
        let z : ◌≡◌ {A = ℕ} 0 1 = cc (no_codes zs p q r) in
        absurd (omega arith)

-- three bytes
pub record Three (cs : List ℕ) : Type 0 where
  pub r19 : ℕ
  pub r1a : ℕ
  pub r1b : ℕ
  pub same : cs ≡ r19 ∷ r1a ∷ r1b ∷ []
  pub r19_byte : r19 < 256
  pub r1a_byte : r1a < 256
  pub r1b_byte : r1b < 256

three : (v : ℕ) (cs : List ℕ) → v < 2 ^ 24 → word_bytes v ≡ cs → Three cs
three v cs h e =
    record {
      r19 = v / 2 ^ 16;
      r1a = v / 2 ^ 8 % 2 ^ 8;
      r1b = v % 2 ^ 8;
      same = sym e;
      r19_byte = omega arith;
      r1a_byte = omega arith;
      r1b_byte = omega arith;
    }

-- a setting is coded as nothing or as three bytes
pub coded_bytes : (zs : List ℤ) (cs : List ℕ) → signalling_codes zs ≡ accepted cs → (cs ≡ []) ⊎ Three cs
coded_bytes zs cs e =
    by_kind (λ l. (l ≡ []) ⊎ Three l) zs cs e (inl refl)
    (λ q h.
    let c = is_coded (number_of zs 1) (number_of zs 2) (number_of zs 3) (number_of zs 4) cs h in
    inr (three (cgms_number (number_of zs 1) (number_of zs 2) (number_of zs 3) (number_of zs 4)) cs (omega (arith, (parts c.in_range).top_clear)) c.bytes_are))
    (λ q h. let c = wss-is-coded (number_of zs 1) cs h in inr (three (nat_abs (number_of zs 1) + 0x800000) cs (omega (arith, c.in_range.most)) c.bytes_are))

-- ---- a setting that is read

or_none : (b : Bool) → (b || false) ≡ b
or_none true = refl
or_none false = refl

-- what is read is coded as the bytes that it was read from; or it is off, and bits 7-4 of the first are zero
pub held_back : (bytes : List ℕ) → get_or bytes 0 0 < 256 → (ns : List ℤ) → signalling_held bytes ≡ accepted ns
    → (signalling_codes ns ≡ accepted bytes) ⊎ ((ns ≡ no_signalling) × (field 4 4 (get_or bytes 0 0) ≡ 0))
unfolding signalling_held cgms_held wss_held
held_back bytes small ns = by (has b 7) (sent b) (has b 4) refl refl refl
  where
    b : ℕ
    b = get_or bytes 0 0

    by : (w c p : Bool) → has b 7 ≡ w → sent b ≡ c → has b 4 ≡ p
        → by_bits w c p (refused 7) (wss_held bytes) (cgms_held bytes) (refused 4) (accepted no_signalling) ≡ accepted ns
        → (signalling_codes ns ≡ accepted bytes) ⊎ ((ns ≡ no_signalling) × (field 4 4 b ≡ 0))
    by false false false w c p e = let same : ns ≡ no_signalling = cc in inr (same, off_zero b small w c p)
    by false false true w c p e =
        let z : ◌≡◌ {A = ℕ} 0 1 = cc in
        absurd (omega arith)
    by false true p w c q e = inl (held-is (cgms_in bytes) 8 bytes ns e).coded
    by true false p w c q e = inl (held-is (wss_in bytes) 4 bytes ns e).coded
    by true true p w c q e =
        let z : ◌≡◌ {A = ℕ} 0 1 = cc in
        absurd (omega arith)

-- and its numbers go with the standard where the bytes do
pub held_conflict_lem : (bytes : List ℕ) → get_or bytes 0 0 < 256 → (ns : List ℤ) → signalling_held bytes ≡ accepted ns → (standard : ℤ)
    → signalling_conflict standard ns ≡ held_conflict standard bytes
unfolding signalling_held cgms_held wss_held
held_conflict_lem bytes small ns h standard = by (has b 7) (sent b) (has b 4) refl h
  where
    b : ℕ
    b = get_or bytes 0 0

    by : (w c p : Bool) → sent b ≡ c
        → by_bits w c p (refused 7) (wss_held bytes) (cgms_held bytes) (refused 4) (accepted no_signalling) ≡ accepted ns
        → signalling_conflict standard ns ≡ by_bits w c p true (is 0 standard) (is 1 standard) false false
    by false false false c e =
        let same : no_signalling ≡ ns = cc in
        ap (signalling_conflict standard) (sym same)
    by false false true c e =
        let z : ◌≡◌ {A = ℕ} 0 1 = cc in
        absurd (omega arith)
    by false true p c e =
        ap (signalling_conflict standard) (sym (held-is (cgms_in bytes) 8 bytes ns e).same)
        ∙ or_none _ ∙ ap (λ (t : Bool). is 1 standard || t) (cgms_sends b small c) ∙ or_none (is 1 standard)
    by true false p c e = ap (signalling_conflict standard) (sym (held-is (wss_in bytes) 4 bytes ns e).same)
    by true true p c e =
        let z : ◌≡◌ {A = ℕ} 0 1 = cc in
        absurd (omega arith)

-- ---- a setting that was coded

-- bytes are read as a setting of these bytes, which goes with the standard
pub record Back (standard : ℤ) (bytes : List ℕ) : Type 0 where
  pub numbers : List ℤ
  pub reads : signalling_held bytes ≡ accepted numbers
  pub coded : signalling_codes numbers ≡ accepted bytes
  pub free : held_conflict standard bytes ≡ false

-- CGMS that is sent in some field
some-field : (odd even : ℤ) → Within 1 odd → Within 1 even → (is 0 odd && is 0 even) ≡ false → (is 1 even || is 1 odd) ≡ true
some-field odd even v w h =
    let some : ℕ → ℕ → Bool = λ o e. imp (not (is 0 (pos o) && is 0 (pos e))) (is 1 (pos e) || is 1 (pos o)) in
    let tried : T (some (nat_abs odd) (nat_abs even)) =
    below_at (some (nat_abs odd)) 2 (below_at (λ o. below (some o) 2) 2 tt (nat_abs odd) (omega (arith, v.most))) (nat_abs even) (omega (arith, w.most)) in
    let as-set : (is 0 (pos (nat_abs odd)) && is 0 (pos (nat_abs even))) ≡ false =
    ap₂ (λ (x y : ℤ). is 0 x && is 0 y) (pos-nat_abs odd v.sign) (pos-nat_abs even w.sign) ∙ h in
    ap₂ (λ (x y : ℤ). is 1 x || is 1 y) (sym (pos-nat_abs even w.sign)) (sym (pos-nat_abs odd v.sign))
    ∙ T→true (is 1 (pos (nat_abs even)) || is 1 (pos (nat_abs odd))) (imp→not (is 0 (pos (nat_abs odd)) && is 0 (pos (nat_abs even))) _ tried as-set)

-- CGMS
cgms-back : (standard number odd even chip : ℤ) (b : ℕ) (bs : List ℕ) → cgms_of number odd even chip ≡ accepted (b ∷ bs)
    → (is 1 standard || is 0 odd && is 0 even) ≡ false → Back standard (b ∷ bs)
unfolding signalling_held
cgms-back standard number odd even chip b bs h free =
    let c = is_coded number odd even chip (b ∷ bs) h in
    let some = some-field odd even c.in_range.odd_in_lem c.in_range.even_in (neither_r (is 1 standard) _ free) in
    record {
      numbers = pos 1 ∷ number ∷ odd ∷ even ∷ chip ∷ [];
      reads =
          rw some at (cgms-kind (refused 7) (wss_held (b ∷ bs)) (cgms_held (b ∷ bs)) (refused 4) (accepted no_signalling) number odd even chip b bs h)
          ∙ cgms-held number odd even chip (b ∷ bs) h;
      coded = cgms-codes _ refl refl ∙ h;
      free =
          rw some at (cgms-kind true (is 0 standard) (is 1 standard) false false number odd even chip b bs h) ∙ neither_l (is 1 standard) _ free;
    }

-- WSS
wss_back : (standard number : ℤ) (b : ℕ) (bs : List ℕ) → wss_of number ≡ accepted (b ∷ bs) → is 0 standard ≡ false → Back standard (b ∷ bs)
unfolding signalling_held
wss_back standard number b bs h free =
    record {
      numbers = pos 2 ∷ number ∷ pos 0 ∷ pos 0 ∷ pos 0 ∷ [];
      reads = wss_kind _ (wss_held (b ∷ bs)) _ _ _ number b bs h ∙ wss_held_lem number (b ∷ bs) h;
      coded = wss_codes _ refl refl refl ∙ h;
      free = wss_kind _ (is 0 standard) _ _ _ number b bs h ∙ free;
    }

-- what a setting that goes with the standard is coded as, is read so
pub coded_back : (standard : ℤ) (zs : List ℤ) (b : ℕ) (bs : List ℕ) → signalling_codes zs ≡ accepted (b ∷ bs) → signalling_conflict standard zs ≡ false
    → Back standard (b ∷ bs)
coded_back standard zs b bs e free =
    let with-cgms : (is 1 (number_of zs 0) && (is 1 standard || is 0 (number_of zs 2) && is 0 (number_of zs 3))) ≡ false =
    neither_l _ (is 2 (number_of zs 0) && is 0 standard) free in
    let with-wss : (is 2 (number_of zs 0) && is 0 standard) ≡ false =
    neither_r (is 1 (number_of zs 0) && (is 1 standard || is 0 (number_of zs 2) && is 0 (number_of zs 3))) _ free in
    by_kind (λ l. l ≡ b ∷ bs → Back standard (b ∷ bs)) zs (b ∷ bs) e
    (λ none. let z : ◌≡◌ {A = ℕ} 0 1 = cc in absurd (omega arith))
    (λ q of-cgms same. cgms-back standard (number_of zs 1) (number_of zs 2) (number_of zs 3) (number_of zs 4) b bs of-cgms (rw q at with-cgms))
    (λ r of-wss same. wss_back standard (number_of zs 1) b bs of-wss (rw r at with-wss))
    refl

-- off: bits 7-4 of the first zero, and any others
pub off_back : (bytes : List ℕ) → get_or bytes 0 0 < 256 → field 4 4 (get_or bytes 0 0) ≡ 0 → signalling_held bytes ≡ accepted no_signalling
unfolding signalling_held
off_back bytes small zero = zero_off _ _ _ _ (accepted no_signalling) (get_or bytes 0 0) small zero

pub off_free : (bytes : List ℕ) → get_or bytes 0 0 < 256 → field 4 4 (get_or bytes 0 0) ≡ 0 → (standard : ℤ) → held_conflict standard bytes ≡ false
off_free bytes small zero standard = zero_off _ _ _ _ false (get_or bytes 0 0) small zero
