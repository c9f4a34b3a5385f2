-- Codings and readings refuse with 3, 4 or 8 only, but for row 7 of signalling: where none of these holds they are accepted. Assumes nothing.
use mathlib.Core.Path.{◌≡◌, refl, sym, ◌∙◌, subst}
use mathlib.Core.Bool.{Bool, true, false, cond, ◌||◌}
use mathlib.Core.Logic.{◌⊎◌, inl, inr}
use mathlib.Core.List.{List, []}
use Prim.Native.Nat.{ℕ, ◌^◌}
use lib.Dec.{T, eqb, ltb}
use lib.IntN.{ℤ}
use Rattle.bits.specs.Bytes.{same_bytes}
use Rattle.refusals.specs.Refusal.{Judged, accepted, refused, refused_by}
use Rattle.field_table.specs.Coding.{Field, outside, is_code, code_of, encode, has_at, setting_at, least_magnitude, decode}
use Rattle.adv7194_table.specs.Table.{signals, curve, subcarrier, Entry, single, whole}
use Rattle.adv7194_signalling.specs.Signalling.{signalling_codes, signalling_held, held_conflict}
use Rattle.adv7194_signalling.proofs.RefusalLaws.{codes-refused, held-refused}
use Rattle.adv7194_gamma.proofs.SettingLaws.{curve-refused}
use Rattle.adv7194_gamma.specs.Curve.{curve_codes}
use Rattle.adv7194_settings.specs.Held.{bytes_in}
use Rattle.adv7194_round_trip.specs.Entries.{alone, codes_of, entry_reading}
use Rattle.adv7194_settings.proofs.Names.{word_due}

-- a refusal's number is one of these
abbrev sound_number : ℕ → Bool
sound_number n = eqb n 3 || (eqb n 4 || eqb n 8)

-- an answer is no refusal, or one of these
abbrev pub sound : {A : Type 0} → Judged A → Bool
sound (accepted a) = true
sound (refused n) = sound_number n

-- no refusal with one of these
pub record Clear {A : Type 0} (j : Judged A) : Type 0 where
  pub not_3 : refused_by 3 j ≡ false
  pub not_4 : refused_by 4 j ≡ false
  pub not_8 : refused_by 8 j ≡ false

-- then it is accepted
pub is-accepted : {A : Type 0} (j : Judged A) → T (sound j) → Clear j → (a : A) × (j ≡ accepted a)
is-accepted (accepted a) t c = (a, refl)
is-accepted (refused n) t c = absurd (by (eqb n 3) (eqb n 4) (eqb n 8) c.not_3 c.not_4 c.not_8 t)
  where
    by : (x y z : Bool) → x ≡ false → y ≡ false → z ≡ false → T (x || (y || z)) → ⊥
    by true y z p q r t = subst T p tt
    by false true z p q r t = subst T q tt
    by false false true p q r t = subst T r tt
    by false false false p q r t = t

-- the one of two that a test chooses
chosen : {A : Type 0} (b : Bool) (i j : Judged A) → T (sound i) → T (sound j) → T (sound (cond b i j))
chosen true i j p q = p
chosen false i j p q = q

-- ---- single numbers

-- the numbers that refuse a code outside the range
either_number : (b d : Bool) → T (sound_number (cond b (cond d 3 4) 3))
either_number true true = tt
either_number true false = tt
either_number false d = tt

encode-sound : (f : Field) (z : ℤ) → T (sound (encode f z))
unfolding encode
encode-sound f z =
    chosen (outside f.row z) _ (accepted (code_of f z)) (either_number (is_code f.coding f.row.width z) (eqb f.row.outside 3)) tt

decode-sound : (f : Field) (c : ℕ) → T (sound (decode f c))
unfolding decode
decode-sound f c =
    chosen (has_at f c (least_magnitude f c)) (accepted (setting_at f c (least_magnitude f c))) _ tt
    (either_number (ltb c (2 ^ f.row.width)) (eqb f.row.outside 3))

alone-sound : {A : Type 0} (j : Judged A) → T (sound j) → T (sound (alone j))
alone-sound (accepted a) t = tt
alone-sound (refused n) t = t

-- ---- blocks

-- an answer all of whose refusals are such
by_number : {A : Type 0} (j : Judged A) → ((n : ℕ) → j ≡ refused n → T (sound_number n)) → T (sound j)
by_number (accepted a) h = tt
by_number (refused n) h = h n refl

signalling-sound : (zs : List ℤ) → T (sound (signalling_codes zs))
signalling-sound zs = by_number (signalling_codes zs) (λ n e. by n (codes-refused zs n e))
  where
    by : (n : ℕ) → (n ≡ 3) ⊎ (n ≡ 4) → T (sound_number n)
    by n (inl e) = rw e tt
    by n (inr e) = rw e tt

curve-sound : (zs : List ℤ) → T (sound (curve_codes zs))
curve-sound zs = by_number (curve_codes zs) (λ n e. rw (curve-refused zs n e) tt)

-- every coding of the table
pub codes-sound : (zs : List ℤ) (e : Entry) → T (sound (codes_of zs e))
codes-sound zs (single f) = alone-sound (encode f _) (encode-sound f _)
codes-sound zs (whole signals b) = signalling-sound _
codes-sound zs (whole curve b) = curve-sound _
codes-sound zs (whole subcarrier b) = tt

-- signalling that goes with a standard
held-sound : (standard : ℤ) (bytes : List ℕ) → held_conflict standard bytes ≡ false → T (sound (signalling_held bytes))
held-sound standard bytes h = by_number (signalling_held bytes) (λ n e. by n (held-refused bytes n e))
  where
    by : (n : ℕ) → (n ≡ 4) ⊎ ((n ≡ 8) ⊎ ((z : ℤ) → held_conflict z bytes ≡ true)) → T (sound_number n)
    by n (inl e) = rw e tt
    by n (inr (inl e)) = rw e tt
    by n (inr (inr e)) = absurd (subst T (sym (e standard) ∙ h) tt)

-- row 7 of signalling, of the bytes that an entry has
abbrev pub conflict_in : ℤ → List ℕ → Entry → Bool
conflict_in standard image (single f) = false
conflict_in standard image (whole signals b) = held_conflict standard (bytes_in image b)
conflict_in standard image (whole curve b) = false
conflict_in standard image (whole subcarrier b) = false

-- every reading of the table
pub reading_sound : (standard : ℤ) (image : List ℕ) (e : Entry) → conflict_in standard image e ≡ false → T (sound (entry_reading image e))
reading_sound standard image (single f) h = alone-sound (decode f _) (decode-sound f _)
reading_sound standard image (whole signals b) h = held-sound standard (bytes_in image b) h
reading_sound standard image (whole curve b) h = tt
reading_sound standard image (whole subcarrier b) h = chosen (same_bytes (bytes_in image b) (word_due image)) (accepted []) (refused 8) tt tt
