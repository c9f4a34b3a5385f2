-- The steps of reading, one after the other, judge the image and read its settings. Assumes nothing.
use mathlib.Core.Path.{◌≡◌, refl, sym, ap, ap₂, ◌∙◌}
use mathlib.Core.List.{List}
use Prim.Native.Nat.{ℕ}
use lib.IntN.{ℤ}
use Rattle.refusals.specs.Verdict.{Verdict, good, after, fault_of, fault_where}
use Rattle.refusals.proofs.VerdictLaws.{after-good, after_assoc}
use Rattle.field_table.specs.Walk.{given, reading_fault, judge_of, store, numbers_of}
use Rattle.field_table.specs.Blocks.{store_from, slice}
use Rattle.adv7194_table.specs.Fields.{standard, square_pixel, pedestal, timing, output, picture, dnr}
use Rattle.adv7194_table.specs.Blocks.{signalling, curve_a, curve_b, word}
use Rattle.adv7194_table.specs.Table.{signals, curve, whole, table}
use Rattle.adv7194_settings.specs.Held.{setting_held, bytes_in, block_reading, store_entry, no_numbers, settings_held}
use Rattle.adv7194_settings.specs.Rows.{square_with_oversampling, pedestal_with_pal}
use Rattle.adv7194_reading_blocks.specs.Blocks.{word_reading}
use Rattle.adv7194_signalling.specs.Signalling.{held_conflict}
use Rattle.adv7194_reading.specs.Steps.{first_fields, last_fields, fault_in, first_numbers}
use Rattle.adv7194_reading.proofs.BlockLaws.{conflict_held, signalling_fault, word_fault}
use Rattle.adv7194_reading.proofs.JudgeLaws.{square_held, pedestal_held, first-judged, last_judged}

abbrev Found : Type 0
Found = Verdict (Unit {0})

-- row 7 of an image, by a standard
abbrev conflict_by : List ℕ → ℤ → Found
conflict_by image z = fault_where (held_conflict z (bytes_in image signalling)) 7 11

-- ---- fields 1 to 10

module _ (image : List ℕ) where
  -- the settings read so far are those that count
  square_so_far : square_with_oversampling (numbers_of image no_numbers timing) ≡ square_with_oversampling (settings_held image)
  unfolding settings_held store_from slice numbers_of table timing output picture dnr
  square_so_far = refl

  pedestal_so_far : pedestal_with_pal (store image (numbers_of image no_numbers timing) pedestal) ≡ pedestal_with_pal (settings_held image)
  unfolding settings_held store_from slice numbers_of table timing output picture dnr
  pedestal_so_far = refl

  -- the numbers
  pub first-numbers : numbers_of image (store image (numbers_of image no_numbers timing) pedestal) output ≡ first_numbers image
  unfolding first_numbers numbers_of table timing output picture dnr
  first-numbers = refl

  -- the verdict and the numbers of the steps
  module _ {zs n1 n3 : List ℤ} (e0 : zs ≡ no_numbers) (e1 : n1 ≡ numbers_of image zs timing) (e3 : n3 ≡ store image n1 pedestal) where
    so_far_1 : n1 ≡ numbers_of image no_numbers timing
    so_far_1 = e1 ∙ ap (λ (l : List ℤ). numbers_of image l timing) e0

    so_far_3 : n3 ≡ store image (numbers_of image no_numbers timing) pedestal
    so_far_3 = e3 ∙ ap (λ (l : List ℤ). store image l pedestal) so_far_1

    pub first_verdict : {v1 v2 v3 v4 v5 : Found} → v1 ≡ judge_of image timing
        → v2 ≡ after v1 (fault_where (square_with_oversampling n1) 5 3) → v3 ≡ after v2 (reading_fault image pedestal)
        → v4 ≡ after v3 (fault_where (pedestal_with_pal n3) 6 4) → v5 ≡ after v4 (judge_of image output) → v5 ≡ fault_in image first_fields
    first_verdict {v2 = v2} {v4 = v4} h1 h2 h3 h4 h5 =
        let t = judge_of image timing in
        let s = square_held image in
        let p = reading_fault image pedestal in
        let q = pedestal_held image in
        let o = judge_of image output in
        let g2 : v2 ≡ after t s = h2 ∙ ap₂ after h1 (ap (λ b. fault_where b 5 3) (ap square_with_oversampling so_far_1 ∙ square_so_far)) in
        let g4 : v4 ≡ after (after (after t s) p) q =
        h4 ∙ ap₂ after (h3 ∙ ap (λ v. after v p) g2) (ap (λ b. fault_where b 6 4) (ap pedestal_with_pal so_far_3 ∙ pedestal_so_far)) in
        h5 ∙ ap (λ v. after v o) g4 ∙ after_assoc (after (after t s) p) q o ∙ after_assoc (after t s) p (after q o) ∙ after_assoc t s (after p (after q o))
        ∙ sym (first-judged image)

    pub first_read : {n5 : List ℤ} → n5 ≡ numbers_of image n3 output → n5 ≡ first_numbers image
    first_read e5 = e5 ∙ ap (λ (l : List ℤ). numbers_of image l output) so_far_3 ∙ first-numbers

-- ---- fields 11 to 28

module _ (image : List ℕ) where
  -- what the last fields depend on is read
  standard_read : given (first_numbers image) standard.row ≡ setting_held image standard
  unfolding first_numbers table timing output picture dnr
  standard_read = refl

  abbrev after_signals : List ℤ → List ℤ
  after_signals zs = store_entry image zs (whole signals signalling)

  abbrev after_curves : List ℤ → List ℤ
  after_curves zs =
      store_entry image (store_entry image (numbers_of image (numbers_of image (after_signals zs) picture) dnr) (whole curve curve_a)) (whole curve curve_b)

  last_numbers : after_curves (first_numbers image) ≡ settings_held image
  unfolding first_numbers settings_held numbers_of store_from slice table timing output picture dnr
  last_numbers = refl

  standard-held : given (settings_held image) standard.row ≡ setting_held image standard
  unfolding settings_held store_from slice table timing output picture dnr
  standard-held = refl

  square_held_lem : given (settings_held image) square_pixel.row ≡ setting_held image square_pixel
  unfolding settings_held store_from slice table timing output picture dnr
  square_held_lem = refl

  module _ {zs n1 n2 n3 n4 n5 : List ℤ} (e0 : zs ≡ first_numbers image) (e1 : n1 ≡ store_entry image zs (whole signals signalling))
      (e2 : n2 ≡ numbers_of image n1 picture) (e3 : n3 ≡ numbers_of image n2 dnr) (e4 : n4 ≡ store_entry image n3 (whole curve curve_a))
      (e5 : n5 ≡ store_entry image n4 (whole curve curve_b))
    where
      pub last_read : n5 ≡ settings_held image
      last_read =
          e5
          ∙ ap (λ (l : List ℤ). store_entry image l (whole curve curve_b))
          (e4
          ∙ ap (λ (l : List ℤ). store_entry image l (whole curve curve_a))
          (e3 ∙ ap (λ (l : List ℤ). numbers_of image l dnr) (e2 ∙ ap (λ (l : List ℤ). numbers_of image l picture) (e1 ∙ ap after_signals e0))))
          ∙ last_numbers

      -- row 7 by the standard read
      conflict_read : conflict_by image (given zs standard.row) ≡ conflict_held image
      conflict_read = ap (conflict_by image) (ap (λ (l : List ℤ). given l standard.row) e0 ∙ standard_read)

      -- the word by the standard and square pixel read
      word_read : fault_of 28 (word_reading (bytes_in image word) (given n5 standard.row) (given n5 square_pixel.row)) ≡ word_fault image
      word_read =
          ap₂ (λ (x y : ℤ). fault_of 28 (word_reading (bytes_in image word) x y)) (ap (λ (l : List ℤ). given l standard.row) last_read ∙ standard-held)
          (ap (λ (l : List ℤ). given l square_pixel.row) last_read ∙ square_held_lem)

      pub last_verdict_lem : (v : Found) {w1 w2 w3 w4 w5 w6 : Found}
          → w1 ≡ after v (after (conflict_by image (given zs standard.row)) (fault_of 11 (block_reading image signals signalling)))
          → w2 ≡ after w1 (judge_of image picture) → w3 ≡ after w2 (judge_of image dnr) → w4 ≡ after w3 (good tt) → w5 ≡ after w4 (good tt)
          → w6 ≡ after w5 (fault_of 28 (word_reading (bytes_in image word) (given n5 standard.row) (given n5 square_pixel.row)))
          → w6 ≡ after v (fault_in image last_fields)
      last_verdict_lem v {w1} {w2} {w3} {w4} {w5} h1 h2 h3 h4 h5 h6 =
          let c = conflict_held image in
          let s = signalling_fault image in
          let p = judge_of image picture in
          let d = judge_of image dnr in
          let w = word_fault image in
          let g1 : w1 ≡ after v (after c s) = h1 ∙ ap (λ (x : Found). after v (after x s)) conflict_read in
          let g3 : w3 ≡ after (after (after v (after c s)) p) d = h3 ∙ ap (λ (x : Found). after x d) (h2 ∙ ap (λ (x : Found). after x p) g1) in
          let g5 : w5 ≡ w3 = h5 ∙ after-good w4 ∙ h4 ∙ after-good w3 in
          h6 ∙ ap₂ after (g5 ∙ g3) word_read ∙ after_assoc (after (after v (after c s)) p) d w ∙ after_assoc (after v (after c s)) p (after d w)
          ∙ after_assoc v (after c s) (after p (after d w)) ∙ ap (after v) (after_assoc c s (after p (after d w)) ∙ sym (last_judged image))
