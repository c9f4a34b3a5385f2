-- The codes that an image holds, entry by entry: settings that were read have them, settings that have them set nothing else, and the image that
-- settings want holds theirs. Assumes nothing.
use mathlib.Core.Path.{◌≡◌, refl, sym, ap, ap₂, ◌∙◌, subst}
use mathlib.Core.Bool.{Bool, true, false, cond}
use mathlib.Core.Logic.{◌⊎◌, inl, inr}
use mathlib.Core.List.{List, [], ◌∷◌}
use Prim.Native.Nat.{ℕ}
use native.Mathlib.Omega.{arith}
use lib.Dec.{T, eqb}
use lib.IntN.{ℤ, pos}
use lib.ListN.{get_or}
use borrow.Author.Tests.{eqb-true}
use Rattle.bits.specs.Fields.{field}
use Rattle.bits.specs.Bytes.{same_bytes}
use Rattle.bits.proofs.SameLaws.{same_bytes_lem, same_self}
use Rattle.refusals.specs.Refusal.{Judged, accepted, refused, value_or}
use Rattle.field_table.specs.Coding.{Field, encode}
use Rattle.field_table.specs.Walk.{given, held, coding_of, reading_of}
use Rattle.field_table.specs.Blocks.{byte_writes, slice}
use Rattle.field_table.proofs.ApartLaws.{AllThere}
use Rattle.field_table.proofs.Decoding.{decode_coded, coded_read, only_zero_lem}
use Rattle.adv7194_table.specs.Fields.{standard, square_pixel, timing, output, picture, dnr}
use Rattle.adv7194_table.specs.Blocks.{block, signalling, curve_a, curve_b, word}
use Rattle.adv7194_table.specs.Table.{signals, curve, subcarrier, Entry, single, whole, table}
use Rattle.adv7194_subcarrier.specs.Subcarrier.{word_codes}
use Rattle.adv7194_gamma.proofs.SettingLaws.{curve_seven}
use Rattle.adv7194_gamma.specs.Curve.{curve_codes}
use Rattle.adv7194_signalling.proofs.SettingLaws.{held_conflict_lem}
use Rattle.adv7194_signalling.specs.Signalling.{signalling_codes, signalling_conflict, held_conflict}
use Rattle.adv7194_settings.specs.Codes.{numbers_in}
use Rattle.adv7194_settings.specs.Wanted.{entry_writes, block_writes}
use Rattle.adv7194_settings.specs.Held.{setting_held, bytes_in}
use Rattle.adv7194_round_trip.specs.RoundTrip.{Bytes}
use Rattle.adv7194_round_trip.proofs.EntryLaws.{All, all_singles}
use Rattle.adv7194_round_trip.proofs.RowLaws.{Taken, Read}
use Rattle.adv7194_round_trip.proofs.SignalLaws.{signal_codes, read_codes, Has, SignalBack, signal_back}
use Rattle.adv7194_round_trip.proofs.ByteLaws.{bytes_there, there_bytes, curve_coded}
use Rattle.adv7194_round_trip.proofs.StoredLaws.{Stored}
use Rattle.adv7194_round_trip.specs.Entries.{alone, codes_of}
use Rattle.adv7194_settings.proofs.Names.{word_due}

-- ---- the table's blocks

-- an entry is a single field or one of the four blocks
abbrev pub Known : Entry → Type 0
Known (single f) = Unit {0}
Known (whole signals b) = b ≡ signalling
Known (whole curve b) = (b ≡ curve_a) ⊎ (b ≡ curve_b)
Known (whole subcarrier b) = b ≡ word

pub known : All Known table
unfolding table
known =
    all_singles Known (λ f. tt) timing _ (
      tt,
      all_singles Known (λ f. tt) output _
          (refl, all_singles Known (λ f. tt) picture _ (all_singles Known (λ f. tt) dnr _ (inl refl, (inr refl, (refl, tt))))),
    )

-- the codes that an image holds
abbrev pub codes_held : List ℕ → Entry → List ℕ
codes_held image (single f) = held image f.row ∷ []
codes_held image (whole signals b) = signal_codes (bytes_in image b)
codes_held image (whole curve b) = bytes_in image b
codes_held image (whole subcarrier b) = bytes_in image b

-- they are the settings'
abbrev pub Coded : List ℕ → List ℤ → Entry → Type 0
Coded image zs e = codes_of zs e ≡ accepted (codes_held image e)

-- a single code
pub one-back : (j : Judged ℕ) (c : ℕ) → alone j ≡ accepted (c ∷ []) → j ≡ accepted c
one-back (accepted b) c e = let q : b ≡ c = cc in ap accepted q
one-back (refused n) c e = let x : ◌≡◌ {A = ℕ} 0 1 = cc in absurd (omega arith)

-- ---- settings that were read

module _ (image : List ℕ) (b : Bytes image) (zs : List ℤ) where
  single_coded : (f : Field) → Stored image zs (single f) → Read image (single f) → Coded image zs (single f)
  single_coded f s r = ap alone (by s (reading_of image f) refl r)
    where
      code : ℕ
      code = held image f.row

      by : Stored image zs (single f) → (j : Judged ℤ) → reading_of image f ≡ j → alone j ≡ accepted (value_or [] (alone j))
          → coding_of zs f ≡ accepted code
      by (inl e) (accepted z) p r = ap (encode f) (e ∙ ap (value_or (pos 0)) p) ∙ decode_coded f code z p
      by (inr o) (accepted z) p r = ap (encode f) (o.0 ∙ sym (only_zero_lem f code z p o.1)) ∙ decode_coded f code z p
      by s (refused n) p r = let x : ◌≡◌ {A = ℕ} 0 1 = cc in absurd (omega arith)

  -- signalling, by numbers that go with the standard where the bytes do
  signal_read : Stored image zs (whole signals signalling) → Read image (whole signals signalling) → Coded image zs (whole signals signalling)
  unfolding slice signalling_codes
  signal_read s r = ap signalling_codes s ∙ read_codes (bytes_in image signalling) _ (b.byte 0x19) r

  pub signal_free : Stored image zs (whole signals signalling) → Read image (whole signals signalling) → (standard : ℤ)
      → signalling_conflict standard (numbers_in zs signalling) ≡ held_conflict standard (bytes_in image signalling)
  unfolding slice
  signal_free s r standard = ap (signalling_conflict standard) s ∙ held_conflict_lem (bytes_in image signalling) (b.byte 0x19) _ r standard

  curve_read : (n k r : ℕ) → Stored image zs (whole curve (block n k 10 r 7)) → Coded image zs (whole curve (block n k 10 r 7))
  unfolding slice
  curve_read n k r s = ap curve_codes s ∙ curve_coded image b r 7

  module _ (st : given zs standard.row ≡ setting_held image standard) (sq : given zs square_pixel.row ≡ setting_held image square_pixel) where
    word_read : Read image (whole subcarrier word) → Coded image zs (whole subcarrier word)
    word_read r =
        ap accepted (ap₂ word_codes st sq ∙ sym (same_bytes_lem bytes (word_due image) (by (same_bytes bytes (word_due image)) r)))
      where
        bytes : List ℕ
        bytes = bytes_in image word

        by : (t : Bool) → cond t (accepted []) (refused 8) ≡ accepted (value_or {A = List ℤ} [] (cond t (accepted []) (refused 8))) → T t
        by true e = tt
        by false e = let x : ◌≡◌ {A = ℕ} 0 1 = cc in absurd (omega arith)

    -- every entry
    pub read_coded : (e : Entry) → Known e → Stored image zs e → Read image e → Coded image zs e
    read_coded (single f) k s r = single_coded f s r
    read_coded (whole signals b) k s r =
        subst (λ c. Stored image zs (whole signals c) → Read image (whole signals c) → Coded image zs (whole signals c)) (sym k)
        signal_read s r
    read_coded (whole curve b) (inl k) s r =
        subst (λ c. Stored image zs (whole curve c) → Coded image zs (whole curve c)) (sym k) (curve_read curve_a.field curve_a.index curve_a.register) s
    read_coded (whole curve b) (inr k) s r =
        subst (λ c. Stored image zs (whole curve c) → Coded image zs (whole curve c)) (sym k) (curve_read curve_b.field curve_b.index curve_b.register) s
    read_coded (whole subcarrier b) k s r = subst (λ c. Read image (whole subcarrier c) → Coded image zs (whole subcarrier c)) (sym k) word_read r

-- ---- settings whose codes the image holds

module _ (image : List ℕ) (b : Bytes image) (zs : List ℤ) where
  signal_there : AllThere image (block_writes signals signalling (signal_codes (bytes_in image signalling)))
  unfolding slice byte_writes
  signal_there = by (eqb (field 4 4 (get_or image 0x19 0)) 0) refl
    where
      by : (t : Bool) → eqb (field 4 4 (get_or image 0x19 0)) 0 ≡ t → AllThere image (block_writes signals signalling (cond t [] (bytes_in image signalling)))
      by true e = (eqb-true _ 0 e, tt)
      by false e = bytes_there image b 0x19 3

  -- what they set is there
  pub coded_there : (e : Entry) → Known e → Coded image zs e → AllThere image (entry_writes zs e)
  coded_there (single f) k e = (sym (ap (value_or 0) (one-back (coding_of zs f) (held image f.row) e)), tt)
  coded_there (whole signals c) k e =
      subst (λ c. codes_of zs (whole signals c) ≡ accepted (signal_codes (bytes_in image c)) → AllThere image (entry_writes zs (whole signals c))) (sym k)
      (λ e. subst (λ j. AllThere image (block_writes signals signalling (value_or [] j))) (sym e) signal_there) e
  coded_there (whole curve c) k e =
      subst (λ j. AllThere image (byte_writes c.register (value_or [] j))) (sym e) (bytes_there image b c.register c.registers)
  coded_there (whole subcarrier c) k e =
      subst (λ j. AllThere image (byte_writes c.register (value_or [] j))) (sym e) (bytes_there image b c.register c.registers)

-- ---- an image that has what settings set

module _ (image : List ℕ) (b : Bytes image) (zs : List ℤ) (free : signalling_conflict (given zs standard.row) (numbers_in zs signalling) ≡ false) where
  single-back : (f : Field) → Taken zs (single f) → AllThere image (entry_writes zs (single f)) → Coded image zs (single f)
  single-back f t h = by (coding_of zs f) t h.0
    where
      by : (j : Judged ℕ) → alone j ≡ accepted (value_or [] (alone j)) → held image f.row ≡ value_or 0 j → alone j ≡ accepted (held image f.row ∷ [])
      by (accepted c) t h = ap (λ n. accepted (n ∷ [])) (sym h)
      by (refused n) t h = let x : ◌≡◌ {A = ℕ} 0 1 = cc in absurd (omega arith)

  pub signal_again : Taken zs (whole signals signalling) → AllThere image (entry_writes zs (whole signals signalling))
      → SignalBack (given zs standard.row) (value_or [] (codes_of zs (whole signals signalling))) (bytes_in image signalling)
  unfolding slice
  signal_again t h =
      signal_back (given zs standard.row) (numbers_in zs signalling) _ (bytes_in image signalling) t free (b.byte 0x19)
      (by (value_or [] (codes_of zs (whole signals signalling))) h)
    where
      by : (cs : List ℕ) → AllThere image (block_writes signals signalling cs) → Has (bytes_in image signalling) cs
      by [] h = h.0
      by (c ∷ cs) h = λ three. subst (λ n. slice 0 image 0x19 n ≡ c ∷ cs) three (there_bytes image b 0x19 (c ∷ cs) h)

  curve-back : (n k r : ℕ) → Taken zs (whole curve (block n k 10 r 7)) → AllThere image (entry_writes zs (whole curve (block n k 10 r 7)))
      → Coded image zs (whole curve (block n k 10 r 7))
  unfolding slice
  curve-back n k r t h =
      let cs = value_or [] (codes_of zs (whole curve (block n k 10 r 7))) in
      let seven = (curve_seven (slice (pos 0) zs k 10) cs refl t).size in
      t ∙ ap accepted (sym (subst (λ n. slice 0 image r n ≡ cs) seven (there_bytes image b r cs h)))

  word_back : AllThere image (entry_writes zs (whole subcarrier word)) → bytes_in image word ≡ word_codes (given zs standard.row) (given zs square_pixel.row)
  unfolding word_codes
  word_back h = there_bytes image b 0x0C (word_codes (given zs standard.row) (given zs square_pixel.row)) h

  -- holds their codes
  pub there_coded : (e : Entry) → Known e → Taken zs e → AllThere image (entry_writes zs e) → Coded image zs e
  there_coded (single f) k t h = single-back f t h
  there_coded (whole signals c) k t h =
      subst (λ c. Taken zs (whole signals c) → AllThere image (entry_writes zs (whole signals c)) → Coded image zs (whole signals c)) (sym k)
      (λ t h. t ∙ ap accepted (sym (signal_again t h).held)) t h
  there_coded (whole curve c) (inl k) t h =
      subst (λ c. Taken zs (whole curve c) → AllThere image (entry_writes zs (whole curve c)) → Coded image zs (whole curve c)) (sym k)
      (curve-back curve_a.field curve_a.index curve_a.register) t h
  there_coded (whole curve c) (inr k) t h =
      subst (λ c. Taken zs (whole curve c) → AllThere image (entry_writes zs (whole curve c)) → Coded image zs (whole curve c)) (sym k)
      (curve-back curve_b.field curve_b.index curve_b.register) t h
  there_coded (whole subcarrier c) k t h =
      subst (λ c. AllThere image (entry_writes zs (whole subcarrier c)) → Coded image zs (whole subcarrier c)) (sym k)
      (λ h. ap accepted (sym (word_back h))) h

  -- so it is read, as settings that agree with the standard and square pixel
  module _ (st : given zs standard.row ≡ setting_held image standard) (sq : given zs square_pixel.row ≡ setting_held image square_pixel) where
    pub there_read : (e : Entry) → Known e → Taken zs e → AllThere image (entry_writes zs e) → Read image e
    there_read (single f) k t h =
        let r = coded_read f (held image f.row) (given zs f.row) (one-back (coding_of zs f) _ (single-back f t h)) in
        subst (λ j. alone j ≡ accepted (value_or [] (alone j))) (sym r.1) refl
    there_read (whole signals c) k t h =
        subst (λ c. Taken zs (whole signals c) → AllThere image (entry_writes zs (whole signals c)) → Read image (whole signals c)) (sym k)
        (λ t h. let r = (signal_again t h).read in subst (λ j. j ≡ accepted (value_or [] j)) (sym r.1) refl) t h
    there_read (whole curve c) k t h = refl
    there_read (whole subcarrier c) k t h =
        subst (λ c. AllThere image (entry_writes zs (whole subcarrier c)) → Read image (whole subcarrier c)) (sym k)
        (λ h. subst (λ t. cond t (accepted []) (refused 8) ≡ accepted (value_or {A = List ℤ} [] (cond t (accepted []) (refused 8)))) (sym (agrees h)) refl) h
      where
        due : AllThere image (entry_writes zs (whole subcarrier word)) → word_due image ≡ bytes_in image word
        due h = ap₂ word_codes (sym st) (sym sq) ∙ sym (word_back h)

        agrees : AllThere image (entry_writes zs (whole subcarrier word)) → same_bytes (bytes_in image word) (word_due image) ≡ true
        agrees h = ap (same_bytes (bytes_in image word)) (due h) ∙ same_self (bytes_in image word)
