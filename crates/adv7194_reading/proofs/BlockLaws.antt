-- What the rows of signalling, the curves and the subcarrier word say of an image is what their readings say. Assumes nothing.
use mathlib.Core.Path.{◌≡◌, refl, ap, ◌∙◌}
use mathlib.Core.Bool.{Bool, true, false, cond}
use mathlib.Core.List.{List, [], ◌∷◌, flat_map}
use Prim.Native.Nat.{ℕ}
use lib.Dec.{T}
use lib.IntN.{ℤ}
use lib.ListN.{get_or}
use Rattle.bits.specs.Bytes.{same_bytes}
use Rattle.bits.specs.Maps.{has}
use Rattle.refusals.specs.Refusal.{Judged, accepted, refused}
use Rattle.refusals.specs.Verdict.{good, refused_at, after, fault_of, fault_where}
use Rattle.refusals.specs.Order.{first_of, places_at, places_in}
use Rattle.refusals.proofs.VerdictLaws.{after-good, after_assoc}
use Rattle.adv7194_table.specs.Fields.{standard, timing, output, picture, dnr}
use Rattle.adv7194_table.specs.Blocks.{signalling, word}
use Rattle.adv7194_table.specs.Table.{signals, subcarrier, table}
use Rattle.field_table.specs.Blocks.{is}
use Rattle.adv7194_signalling.specs.Signalling.{signalling_codes, no_signalling, coded_so, held_by, cgms_held, wss_held, signalling_held, held_conflict}
use Rattle.adv7194_signalling.proofs.KindLaws.{sent, by_bits}
use Rattle.adv7194_settings.specs.Held.{setting_held, bytes_in, block_reading}
use Rattle.adv7194_settings.specs.Rows.{some_of, row_held}
use Rattle.adv7194_reading.specs.Steps.{fault_in}
use Rattle.adv7194_reading.proofs.RowLaws.{tried, usual, block_rows}
use Rattle.adv7194_reading.proofs.FieldLaws.{Found, field_fault, field-first}
use Rattle.adv7194_settings.proofs.Names.{word_due}

-- ---- signalling

-- numbers that are held by their coding are refused by 4 or 8 only
held_usual : (zs : List ℤ) (n : ℕ) (bytes : List ℕ) → T (usual {A = List ℤ} (refused n)) → T (usual (held_by zs n bytes))
held_usual zs n bytes h = by (coded_so (signalling_codes zs) bytes)
  where
    by : (b : Bool) → T (usual (cond b (accepted zs) (refused n)))
    by true = tt
    by false = h

-- the rows of signalling
signalling_rows : (z : ℤ) (bytes : List ℕ)
    → cond (held_conflict z bytes) (refused_at 7 11)
    (tried 3 11 (signalling_held bytes) (tried 4 11 (signalling_held bytes) (tried 8 11 (signalling_held bytes) (good tt))))
    ≡ after (fault_where (held_conflict z bytes) 7 11) (fault_of 11 (signalling_held bytes))
unfolding signalling_held wss_held cgms_held
signalling_rows z bytes = by (has b 7) (sent b) (has b 4)
  where
    b : ℕ
    b = get_or bytes 0 0

    at : Bool → Judged (List ℤ) → Type 0
    at x j = cond x (refused_at 7 11) (tried 3 11 j (tried 4 11 j (tried 8 11 j (good tt)))) ≡ after (fault_where x 7 11) (fault_of 11 j)

    go : (x : Bool) (j : Judged (List ℤ)) → T (usual j) → at x j
    go true j h = refl
    go false j h = block_rows 11 j h

    by : (w c p : Bool)
        → at (by_bits w c p true (is 0 z) (is 1 z) false false)
        (by_bits w c p (refused 7) (wss_held bytes) (cgms_held bytes) (refused 4) (accepted no_signalling))
    by false false false = go false (accepted no_signalling) tt
    by false false true = go false (refused 4) tt
    by false true p = go (is 1 z) (cgms_held bytes) (held_usual _ 8 bytes tt)
    by true false p = go (is 0 z) (wss_held bytes) (held_usual _ 4 bytes tt)
    by true true p = refl

-- row 7 of an image
abbrev pub conflict_held : List ℕ → Found
conflict_held image = fault_where (held_conflict (setting_held image standard) (bytes_in image signalling)) 7 11

-- the readings of field 11 and of field 28, as faults
abbrev pub signalling_fault : List ℕ → Found
signalling_fault image = fault_of 11 (block_reading image signals signalling)

abbrev pub word_fault : List ℕ → Found
word_fault image = fault_of 28 (block_reading image subcarrier word)

module _ (image : List ℕ) where
  -- 11
  signalling_fault_lem : field_fault image 11 ≡ after (conflict_held image) (signalling_fault image)
  unfolding first_of places_at row_held some_of table timing output picture dnr
  signalling_fault_lem = signalling_rows (setting_held image standard) (bytes_in image signalling)

  -- 28, which is refused by 8 only
  word_fault_lem : field_fault image 28 ≡ word_fault image
  unfolding first_of places_at row_held some_of table timing output picture dnr
  word_fault_lem = block_rows 28 (block_reading image subcarrier word) (by (same_bytes (bytes_in image word) (word_due image)))
    where
      by : (b : Bool) → T (usual {A = List ℤ} (cond b (accepted []) (refused 8)))
      by true = tt
      by false = tt

  -- 11 before others
  pub signalling-first : (gs : List ℕ) → fault_in image (11 ∷ gs) ≡ after (conflict_held image) (after (signalling_fault image) (fault_in image gs))
  signalling-first gs =
      field-first image 11 gs ∙ ap (λ (v : Found). after v (fault_in image gs)) signalling_fault_lem
      ∙ after_assoc (conflict_held image) (signalling_fault image) (fault_in image gs)

  -- 26 and 27, which are never refused, and 28
  pub curves_and_word : fault_in image (26 ∷ 27 ∷ 28 ∷ []) ≡ word_fault image
  unfolding first_of places_at places_in row_held some_of table timing output picture dnr flat_map
  curves_and_word =
      field-first image 26 (27 ∷ 28 ∷ []) ∙ field-first image 27 (28 ∷ []) ∙ field-first image 28 [] ∙ after-good (field_fault image 28) ∙ word_fault_lem
