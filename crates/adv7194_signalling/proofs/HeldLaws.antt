-- What bytes hold: the setting that stands in their bits, where they are its coding. No other setting is coded so, so what a reader answers that answers such
-- a setting, or refuses where there is none, is that. Assumes nothing.
use mathlib.Core.Path.{◌≡◌, refl, sym, ap, ◌∙◌, subst}
use mathlib.Core.Bool.{true, false}
use mathlib.Core.List.{List, [], ◌∷◌}
use mathlib.Core.Logic.{◌⊎◌, inl, inr}
use Prim.Native.Nat.{ℕ, ◌+◌, ◌*◌, ◌/◌, ◌%◌, ◌^◌}
use native.Mathlib.Omega.{arith}
use lib.Dec.{T}
use lib.IntN.{ℤ, pos, nat_abs}
use lib.ListN.{get_or}
use lib.Signed.{pos-nat_abs}
use Rattle.bits.specs.Fields.{bit}
use Rattle.bits.proofs.SameLaws.{same_bytes_lem, same_self}
use Rattle.rounding.proofs.First.{flag}
use Rattle.refusals.specs.Refusal.{Judged, accepted, refused}
use Rattle.adv7194_signalling.specs.Cgms.{CgmsHeld, cgms_of}
use Rattle.adv7194_signalling.specs.Wss.{WssHeld, wss_of}
use Rattle.adv7194_signalling.specs.Signalling.{signalling_codes, coded_so, held_by, number_in, cgms_held, wss_held}
use Rattle.adv7194_signalling.specs.Answers.{cgms_numbers, wss_numbers}
use Rattle.adv7194_signalling.specs.declared.cgms.CgmsSetting.{CgmsSetting}
use Rattle.adv7194_signalling.proofs.WordLaws.{word_bytes}
use Rattle.adv7194_signalling.proofs.CgmsLaws.{cgms_number}
use Rattle.adv7194_signalling.proofs.CgmsReadLaws.{parts, is_coded}
use Rattle.adv7194_signalling.proofs.WssLaws.{is_coded as wss-is-coded}
use Rattle.adv7194_signalling.proofs.CodeLaws.{cgms-codes, wss_codes}

-- ---- numbers held where the bytes are their coding

-- a coding that is found the bytes'
coded_same : (j : Judged (List ℕ)) (bytes : List ℕ) → coded_so j bytes ≡ true → j ≡ accepted bytes
coded_same (accepted cs) bytes t = ap accepted (same_bytes_lem cs bytes (subst T (sym t) tt))
coded_same (refused n) bytes t = absurd (subst T (sym t) tt)

-- bytes hold the numbers that they code
pub held_own : (zs : List ℤ) (n : ℕ) (bytes : List ℕ) → signalling_codes zs ≡ accepted bytes → held_by zs n bytes ≡ accepted zs
held_own zs n bytes e = rw (e, same_self bytes)

-- and no others
held_none : (zs : List ℤ) (n : ℕ) (bytes : List ℕ) → (signalling_codes zs ≡ accepted bytes → ⊥) → held_by zs n bytes ≡ refused n
held_none zs n bytes other = go (flag (coded_so (signalling_codes zs) bytes))
  where
    go : (coded_so (signalling_codes zs) bytes ≡ true) ⊎ (coded_so (signalling_codes zs) bytes ≡ false) → held_by zs n bytes ≡ refused n
    go (inl t) = absurd (other (coded_same (signalling_codes zs) bytes t))
    go (inr f) = rw f

-- numbers that they hold are those, and they code them
pub record Holds (zs : List ℤ) (bytes : List ℕ) (ns : List ℤ) : Type 0 where
  pub same : zs ≡ ns
  pub coded : signalling_codes ns ≡ accepted bytes

pub held-is : (zs : List ℤ) (n : ℕ) (bytes : List ℕ) (ns : List ℤ) → held_by zs n bytes ≡ accepted ns → Holds zs bytes ns
held-is zs n bytes ns e = go (flag (coded_so (signalling_codes zs) bytes))
  where
    go : (coded_so (signalling_codes zs) bytes ≡ true) ⊎ (coded_so (signalling_codes zs) bytes ≡ false) → Holds zs bytes ns
    go (inl t) =
        let h : held_by zs n bytes ≡ accepted zs = rw t in
        let same : zs ≡ ns = cc in
        record { same = same; coded = ap signalling_codes (sym same) ∙ coded_same (signalling_codes zs) bytes t }
    go (inr f) =
        let h : held_by zs n bytes ≡ refused n = rw f in
        let z : ◌≡◌ {A = ℕ} 0 1 = cc in
        absurd (omega arith)

-- a refusal is the one named
pub held-refusal : (zs : List ℤ) (m : ℕ) (bytes : List ℕ) (n : ℕ) → held_by zs m bytes ≡ refused n → n ≡ m
held-refusal zs m bytes n e = go (flag (coded_so (signalling_codes zs) bytes))
  where
    go : (coded_so (signalling_codes zs) bytes ≡ true) ⊎ (coded_so (signalling_codes zs) bytes ≡ false) → n ≡ m
    go (inl t) =
        let h : held_by zs m bytes ≡ accepted zs = rw t in
        let z : ◌≡◌ {A = ℕ} 0 1 = cc in
        absurd (omega arith)
    go (inr f) = let h : held_by zs m bytes ≡ refused m = rw f in cc

-- ---- the setting that stands in the bits

-- of CGMS
abbrev pub cgms_in : List ℕ → List ℤ
cgms_in bytes =
    pos 1 ∷ pos (number_in bytes) ∷ pos (bit 5 (get_or bytes 0 0)) ∷ pos (bit 6 (get_or bytes 0 0)) ∷ pos (bit 4 (get_or bytes 0 0)) ∷ []

-- of WSS
abbrev pub wss_in : List ℕ → List ℤ
wss_in bytes = pos 2 ∷ pos (number_in bytes) ∷ pos 0 ∷ pos 0 ∷ pos 0 ∷ []

-- a CGMS setting that bytes code is the one in their bits
pub cgms_in_lem : (payload odd even chip : ℤ) (bytes : List ℕ) → cgms_of payload odd even chip ≡ accepted bytes
    → pos 1 ∷ payload ∷ odd ∷ even ∷ chip ∷ [] ≡ cgms_in bytes
cgms_in_lem payload odd even chip bytes h =
    let c = is_coded payload odd even chip bytes h in
    let p = parts c.in_range in
    let v = cgms_number payload odd even chip in
    let number : nat_abs payload ≡ v % 2 ^ 8 + 2 ^ 8 * (v / 2 ^ 8 % 2 ^ 8 % 2 ^ 6) = omega (arith, p.payload_is) in
    let odd-bit : nat_abs odd ≡ v / 2 ^ 16 / 2 ^ 5 % 2 ^ 1 = omega (arith, p.odd_is) in
    let even-bit : nat_abs even ≡ v / 2 ^ 16 / 2 ^ 6 % 2 ^ 1 = omega (arith, p.even_is) in
    let chip-bit : nat_abs chip ≡ v / 2 ^ 16 / 2 ^ 4 % 2 ^ 1 = omega (arith, p.chip-is) in
    let payload_in = sym (pos-nat_abs payload c.in_range.payload_in.sign) ∙ ap pos number in
    let odd_in_lem = sym (pos-nat_abs odd c.in_range.odd_in_lem.sign) ∙ ap pos odd-bit in
    let even_in = sym (pos-nat_abs even c.in_range.even_in.sign) ∙ ap pos even-bit in
    let chip_in = sym (pos-nat_abs chip c.in_range.chip_in.sign) ∙ ap pos chip-bit in
    let own : pos 1 ∷ payload ∷ odd ∷ even ∷ chip ∷ [] ≡ cgms_in (word_bytes v) = rw (sym payload_in, sym odd_in_lem, sym even_in, sym chip_in) in
    own ∙ ap cgms_in c.bytes_are

-- a WSS number that bytes code is the one in their bits
pub wss_in_lem : (z : ℤ) (bytes : List ℕ) → wss_of z ≡ accepted bytes → pos 2 ∷ z ∷ pos 0 ∷ pos 0 ∷ pos 0 ∷ [] ≡ wss_in bytes
wss_in_lem z bytes h =
    let c = wss-is-coded z bytes h in
    let v = nat_abs z + 0x800000 in
    let number : nat_abs z ≡ v % 2 ^ 8 + 2 ^ 8 * (v / 2 ^ 8 % 2 ^ 8 % 2 ^ 6) = omega (arith, c.in_range.most) in
    ap (λ (y : ℤ). pos 2 ∷ y ∷ pos 0 ∷ pos 0 ∷ pos 0 ∷ []) (sym (pos-nat_abs z c.in_range.sign) ∙ ap pos number) ∙ ap wss_in c.bytes_are

-- ---- what bytes that code a setting hold

pub cgms-held : (payload odd even chip : ℤ) (bytes : List ℕ) → cgms_of payload odd even chip ≡ accepted bytes
    → cgms_held bytes ≡ accepted (pos 1 ∷ payload ∷ odd ∷ even ∷ chip ∷ [])
unfolding cgms_held
cgms-held payload odd even chip bytes h =
    ap (λ (zs : List ℤ). held_by zs 8 bytes) (sym (cgms_in_lem payload odd even chip bytes h)) ∙ held_own _ 8 bytes (cgms-codes _ refl refl ∙ h)

pub wss_held_lem : (z : ℤ) (bytes : List ℕ) → wss_of z ≡ accepted bytes → wss_held bytes ≡ accepted (pos 2 ∷ z ∷ pos 0 ∷ pos 0 ∷ pos 0 ∷ [])
unfolding wss_held
wss_held_lem z bytes h = ap (λ (zs : List ℤ). held_by zs 4 bytes) (sym (wss_in_lem z bytes h)) ∙ held_own _ 4 bytes (wss_codes _ refl refl refl ∙ h)

-- ---- the readers' answers

-- a setting by its four numbers
abbrev pub made : ℤ → ℤ → ℤ → ℤ → CgmsSetting
made payload odd even chip = record { payload = payload; odd = odd; even = even; chip_check = chip }

cgms-answer : (bytes : List ℕ) (a : Judged CgmsSetting) → CgmsHeld bytes a → cgms_numbers a ≡ cgms_held bytes
unfolding cgms_held
cgms-answer bytes (accepted s) h = sym (cgms-held s.payload s.odd s.even s.chip_check bytes h)
cgms-answer bytes (refused n) h =
    ap refused h.0
    ∙ sym (held_none (cgms_in bytes) 8 bytes (λ e.
    h.1 (made (pos (number_in bytes)) (pos (bit 5 (get_or bytes 0 0))) (pos (bit 6 (get_or bytes 0 0))) (pos (bit 4 (get_or bytes 0 0))))
    (sym (cgms-codes (cgms_in bytes) refl refl) ∙ e)))

wss_answer : (bytes : List ℕ) (a : Judged ℤ) → WssHeld bytes a → wss_numbers a ≡ wss_held bytes
unfolding wss_held
wss_answer bytes (accepted z) h = sym (wss_held_lem z bytes h)
wss_answer bytes (refused n) h =
    ap refused h.0 ∙ sym (held_none (wss_in bytes) 4 bytes (λ e. h.1 (pos (number_in bytes)) (sym (wss_codes (wss_in bytes) refl refl refl) ∙ e)))

-- with what they are answers by
pub cgms_both : (bytes : List ℕ) (a : Judged CgmsSetting) → CgmsHeld bytes a → (cgms_numbers a ≡ cgms_held bytes) × CgmsHeld bytes a
cgms_both bytes a h = (cgms-answer bytes a h, h)

pub wss_both : (bytes : List ℕ) (a : Judged ℤ) → WssHeld bytes a → (wss_numbers a ≡ wss_held bytes) × WssHeld bytes a
wss_both bytes a h = (wss_answer bytes a h, h)
