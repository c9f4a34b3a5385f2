-- The refusals that field 11 can meet: settings are refused with 3 or 4, registers with 4, 7 or 8. Assumes nothing.
use mathlib.Core.Path.{◌≡◌, refl, sym, ◌∙◌}
use mathlib.Core.Bool.{Bool, true, false}
use mathlib.Core.List.{List}
use mathlib.Core.Logic.{◌⊎◌, inl, inr}
use Prim.Native.Nat.{ℕ}
use native.Mathlib.Omega.{arith}
use lib.IntN.{ℤ, nat_abs}
use lib.ListN.{get_or}
use Rattle.bits.specs.Maps.{has}
use Rattle.bits.specs.Parity.{odd_in}
use Rattle.refusals.specs.Refusal.{accepted, refused}
use Rattle.rounding.proofs.First.{flag}
use Rattle.field_table.specs.Blocks.{is, between}
use Rattle.adv7194_signalling.specs.Cgms.{cgms_of}
use Rattle.adv7194_signalling.specs.Wss.{wss_of}
use Rattle.adv7194_signalling.specs.Signalling.{number_of, signalling_codes, no_signalling, cgms_held, wss_held, signalling_held, held_conflict}
use Rattle.adv7194_signalling.proofs.CgmsLaws.{inside, cgms_coded, cgms-outside}
use Rattle.adv7194_signalling.proofs.WssLaws.{wss_coded}
use Rattle.adv7194_signalling.proofs.HeldLaws.{held-refusal, cgms_in, wss_in}
use Rattle.adv7194_signalling.proofs.KindLaws.{sent, by_bits}
use Rattle.adv7194_signalling.proofs.CodeLaws.{off_codes, cgms-codes, wss_codes, no_codes}

-- ---- settings

cgms-refused : (payload odd even chip : ℤ) (n : ℕ) → cgms_of payload odd even chip ≡ refused n → n ≡ 3
cgms-refused payload odd even chip n e = go (flag (inside payload odd even chip))
  where
    go : (inside payload odd even chip ≡ true) ⊎ (inside payload odd even chip ≡ false) → n ≡ 3
    go (inl t) =
        let c = cgms_coded payload odd even chip t in
        let z : ◌≡◌ {A = ℕ} 0 1 = cc in
        absurd (omega arith)
    go (inr f) = cc (cgms-outside payload odd even chip f)

wss_refused : (z : ℤ) (n : ℕ) → wss_of z ≡ refused n → (n ≡ 3) ⊎ (n ≡ 4)
unfolding wss_of
wss_refused z n h = go (flag (between 0 16383 z)) (flag (odd_in 4 (nat_abs z)))
  where
    go : (between 0 16383 z ≡ true) ⊎ (between 0 16383 z ≡ false)
        → (odd_in 4 (nat_abs z) ≡ true) ⊎ (odd_in 4 (nat_abs z) ≡ false) → (n ≡ 3) ⊎ (n ≡ 4)
    go (inl t) (inl o) =
        let c = wss_coded z t o in
        let z : ◌≡◌ {A = ℕ} 0 1 = cc in
        absurd (omega arith)
    go (inl t) (inr e) = let c : wss_of z ≡ refused 4 = rw (t, e) in inr (cc)
    go (inr f) o = let c : wss_of z ≡ refused 3 = rw f in inl (cc)

-- a setting is refused with 3 or 4
pub codes-refused : (zs : List ℤ) (n : ℕ) → signalling_codes zs ≡ refused n → (n ≡ 3) ⊎ (n ≡ 4)
codes-refused zs n e = by (is 0 (number_of zs 0)) (is 1 (number_of zs 0)) (is 2 (number_of zs 0)) refl refl refl
  where
    by : (x y z : Bool) → is 0 (number_of zs 0) ≡ x → is 1 (number_of zs 0) ≡ y → is 2 (number_of zs 0) ≡ z → (n ≡ 3) ⊎ (n ≡ 4)
    by true y z p q r =
        let z : ◌≡◌ {A = ℕ} 0 1 = cc (off_codes zs p) in
        absurd (omega arith)
    by false true z p q r = inl (cgms-refused (number_of zs 1) (number_of zs 2) (number_of zs 3) (number_of zs 4) n (sym (cgms-codes zs p q) ∙ e))
    by false false true p q r = wss_refused (number_of zs 1) n (sym (wss_codes zs p q r) ∙ e)
    by false false false p q r = inl (cc (no_codes zs p q r))

-- ---- registers

-- registers are refused with 4 or 8, or hold CGMS and WSS at once, which no standard goes with
pub held-refused : (bytes : List ℕ) (n : ℕ) → signalling_held bytes ≡ refused n
    → (n ≡ 4) ⊎ ((n ≡ 8) ⊎ ((standard : ℤ) → held_conflict standard bytes ≡ true))
unfolding signalling_held cgms_held wss_held
held-refused bytes n = by (has b 7) (sent b) (has b 4)
  where
    b : ℕ
    b = get_or bytes 0 0

    by : (w c p : Bool) → by_bits w c p (refused 7) (wss_held bytes) (cgms_held bytes) (refused 4) (accepted no_signalling) ≡ refused n
        → (n ≡ 4) ⊎ ((n ≡ 8) ⊎ ((standard : ℤ) → by_bits w c p true (is 0 standard) (is 1 standard) false false ≡ true))
    by false false false e = let z : ◌≡◌ {A = ℕ} 0 1 = cc in absurd (omega arith)
    by false false true e = inl (cc)
    by false true p e = inr (inl (held-refusal (cgms_in bytes) 8 bytes n e))
    by true false p e = inl (held-refusal (wss_in bytes) 4 bytes n e)
    by true true p e = inr (inr (λ standard. refl))
