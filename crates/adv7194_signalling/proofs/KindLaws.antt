-- The kind in register 19: what the reader's answer says of it; what is coded is read back as its kind; and what a kind says of the register's bits.
-- Assumes nothing.
use mathlib.Core.Path.{◌≡◌, refl, ap}
use mathlib.Core.Bool.{Bool, true, false, not, cond, ◌&&◌, ◌||◌}
use mathlib.Core.List.{List, [], ◌∷◌}
use Prim.Native.Nat.{ℕ, ◌+◌, ◌/◌, ◌%◌, ◌^◌, ◌<◌}
use native.Mathlib.Omega.{arith}
use lib.Dec.{T, eqb, eqb→eq}
use lib.IntN.{ℤ, pos, nat_abs}
use Rattle.bits.specs.Fields.{field, bit}
use Rattle.bits.specs.Maps.{has}
use Rattle.refusals.specs.Refusal.{Judged, accepted, refused}
use Rattle.rounding.proofs.Range.{below_at, imp, imp→}
use Rattle.field_table.specs.Blocks.{is}
use Rattle.adv7194_signalling.specs.Cgms.{cgms_of}
use Rattle.adv7194_signalling.specs.Wss.{wss_of}
use Rattle.adv7194_signalling.specs.Kind.{by_kind, kind_named, kind_of}
use Rattle.adv7194_signalling.specs.Signalling.{number_of, signalling_codes}
use Rattle.adv7194_signalling.proofs.CgmsLaws.{cgms_number}
use Rattle.adv7194_signalling.proofs.CgmsReadLaws.{parts, is_coded}
use Rattle.adv7194_signalling.proofs.NumberLaws.{yes_is}
use Rattle.adv7194_signalling.proofs.WssLaws.{is_coded as wss-is-coded}

-- whether register 19 sends CGMS
abbrev pub sent : ℕ → Bool
sent r19 = has r19 6 || has r19 5

-- one of five by the bits: whether WSS is sent, whether CGMS is, and bit 4
abbrev pub by_bits : {A : Type 0} → Bool → Bool → Bool → A → A → A → A → A → A
by_bits w c p both wss cgms chip off = cond w (cond c both wss) (cond c cgms (cond p chip off))

-- ---- the reader's answer

-- one of four by it
abbrev pub by_answer : {A : Type 0} → (ℕ → A) → A → A → A → Judged ℕ → A
by_answer refusal wss cgms off (accepted k) = cond (eqb k 2) wss (cond (eqb k 1) cgms off)
by_answer refusal wss cgms off (refused n) = refusal n

-- is one of five by the register
pub by_answer_lem : {A : Type 0} (refusal : ℕ → A) (wss cgms off : A) (r19 : ℕ)
    → by_answer refusal wss cgms off (kind_of r19) ≡ by_kind r19 (refusal 7) wss cgms (refusal 4) off
unfolding kind_of
by_answer_lem {A} refusal wss cgms off r19 = by (has r19 7) (sent r19) (has r19 4)
  where
    by : (w c p : Bool)
        → by_answer refusal wss cgms off (by_bits w c p (refused 7) (accepted 2) (accepted 1) (refused 4) (accepted 0))
        ≡ by_bits w c p (refusal 7) wss cgms (refusal 4) off
    by false false false = refl
    by false false true = refl
    by false true p = refl
    by true false p = refl
    by true true p = refl

-- a setting's coding by the kind that it names
pub codes-named : (zs : List ℤ)
    → by_answer refused (wss_of (number_of zs 1)) (cgms_of (number_of zs 1) (number_of zs 2) (number_of zs 3) (number_of zs 4)) (accepted [])
    (kind_named (number_of zs 0))
    ≡ signalling_codes zs
unfolding signalling_codes
codes-named zs = by (is 0 (number_of zs 0)) (is 1 (number_of zs 0)) (is 2 (number_of zs 0))
  where
    cgms : Judged (List ℕ)
    cgms = cgms_of (number_of zs 1) (number_of zs 2) (number_of zs 3) (number_of zs 4)

    wss : Judged (List ℕ)
    wss = wss_of (number_of zs 1)

    by : (x y z : Bool)
        → by_answer refused wss cgms (accepted []) (cond x (accepted 0) (cond y (accepted 1) (cond z (accepted 2) (refused 3))))
        ≡ cond x (accepted []) (cond y cgms (cond z wss (refused 3)))
    by true y z = refl
    by false true z = refl
    by false false true = refl
    by false false false = refl

-- ---- what is coded

-- WSS as WSS
pub wss_kind : {A : Type 0} (both wss cgms chip off : A) (z : ℤ) (r19 : ℕ) (rest : List ℕ) → wss_of z ≡ accepted (r19 ∷ rest)
    → by_kind r19 both wss cgms chip off ≡ wss
wss_kind both wss cgms chip off z r19 rest h =
    let c = wss-is-coded z (r19 ∷ rest) h in
    let high : (nat_abs z + 0x800000) / 2 ^ 16 ≡ r19 = cc in
    let e : r19 ≡ 0x80 = omega (arith, c.in_range.most) in
    rw e

-- CGMS by the fields that it is sent in
pub cgms-kind : {A : Type 0} (both wss cgms chip off : A) (payload odd even check : ℤ) (r19 : ℕ) (rest : List ℕ)
    → cgms_of payload odd even check ≡ accepted (r19 ∷ rest)
    → by_kind r19 both wss cgms chip off ≡ cond (is 1 even || is 1 odd) cgms (cond (is 1 check) chip off)
cgms-kind both wss cgms chip off payload odd even check r19 rest h =
    let c = is_coded payload odd even check (r19 ∷ rest) h in
    let p = parts c.in_range in
    let v = cgms_number payload odd even check in
    let high : v / 2 ^ 16 ≡ r19 = cc in
    let b7 : r19 / 128 % 2 ≡ 0 = omega (arith, p.top_clear) in
    let b6 : r19 / 64 % 2 ≡ nat_abs even = omega (arith, p.even_is) in
    let b5 : r19 / 32 % 2 ≡ nat_abs odd = omega (arith, p.odd_is) in
    let b4 : r19 / 16 % 2 ≡ nat_abs check = omega (arith, p.chip-is) in
    rw (b7, b6, b5, b4, yes_is _ c.in_range.even_in, yes_is _ c.in_range.odd_in_lem, yes_is _ c.in_range.chip_in)

-- ---- by computing the kind for each byte

-- whether a byte sends nothing, and bit 4 is clear
abbrev silent : ℕ → Bool
silent b = not (has b 7) && (not (sent b) && not (has b 4))

-- then bits 7-4 are zero
pub off_zero : (b : ℕ) → b < 256 → has b 7 ≡ false → sent b ≡ false → has b 4 ≡ false → field 4 4 b ≡ 0
off_zero b h w c p =
    let quiet : silent b ≡ true = rw (w, c, p) in
    eqb→eq (field 4 4 b) 0 (imp→ (silent b) _ (below_at (λ b. imp (silent b) (eqb (field 4 4 b) 0)) 256 tt b h) quiet)

-- and where they are zero it is off
pub zero_off : {A : Type 0} (both wss cgms chip off : A) (b : ℕ) → b < 256 → field 4 4 b ≡ 0 → by_kind b both wss cgms chip off ≡ off
zero_off {A} both wss cgms chip off b h e = by (has b 7) (sent b) (has b 4) quiet
  where
    quiet : T (silent b)
    quiet = imp→ (eqb (field 4 4 b) 0) _ (below_at (λ b. imp (eqb (field 4 4 b) 0) (silent b)) 256 tt b h) (ap (λ (n : ℕ). eqb n 0) e)

    by : (w c p : Bool) → T (not w && (not c && not p)) → by_bits w c p both wss cgms chip off ≡ off
    by false false false t = refl
    by false false true t = absurd t
    by false true p t = absurd t
    by true c p t = absurd t

-- under CGMS bit 5 or bit 6 is set
pub cgms_sends : (b : ℕ) → b < 256 → sent b ≡ true → (is 0 (pos (bit 5 b)) && is 0 (pos (bit 6 b))) ≡ false
cgms_sends b h e =
    fails (is 0 (pos (bit 5 b)) && is 0 (pos (bit 6 b)))
    (imp→ (sent b) _ (below_at (λ b. imp (sent b) (not (is 0 (pos (bit 5 b)) && is 0 (pos (bit 6 b))))) 256 tt b h) e)
  where
    fails : (t : Bool) → T (not t) → t ≡ false
    fails true n = absurd n
    fails false n = refl
