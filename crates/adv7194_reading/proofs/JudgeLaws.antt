-- The judgement of an image is what the groups of fields say, one after the other. Assumes nothing.
use mathlib.Core.Path.{◌≡◌, sym, ap, ◌∙◌}
use mathlib.Core.List.{List, [], ◌∷◌, flat_map}
use Prim.Native.Nat.{ℕ}
use Rattle.refusals.specs.Verdict.{good, after, fault_where}
use Rattle.refusals.specs.Order.{Place, first_of, places_in}
use Rattle.refusals.proofs.VerdictLaws.{after-good}
use Rattle.refusals.proofs.OrderLaws.{places-append, first-append}
use Rattle.field_table.specs.Walk.{reading_fault, judge_of as fields_judged}
use Rattle.adv7194_table.specs.Fields.{pedestal, timing, output, picture, dnr}
use Rattle.adv7194_table.specs.Table.{table, order_of}
use Rattle.adv7194_settings.specs.Held.{settings_held}
use Rattle.adv7194_settings.specs.Order.{rows_at, order}
use Rattle.adv7194_settings.specs.Rows.{square_with_oversampling, pedestal_with_pal, row_held, judge_of}
use Rattle.adv7194_reading.specs.Steps.{first_fields, last_fields, fault_in}
use Rattle.adv7194_reading.proofs.FieldLaws.{Found, in_turn, judged_turn, timing-first, pedestal-first, output-first, picture-first, dnr-first}
use Rattle.adv7194_reading.proofs.BlockLaws.{conflict_held, signalling_fault, word_fault, signalling-first, curves_and_word}

module _ (image : List ℕ) where
  -- the judgement is that of the first fields and then that of the last
  pub judged_parts : judge_of image ≡ after (fault_in image first_fields) (fault_in image last_fields)
  unfolding judge_of order order_of table timing output picture dnr
  judged_parts =
      ap (λ (ps : List Place). first_of (row_held image) ps tt) (places-append rows_at first_fields last_fields)
      ∙ first-append (row_held image) (places_in rows_at first_fields) (places_in rows_at last_fields) tt

  -- rows 5 and 6
  abbrev pub square_held : Found
  square_held = fault_where (square_with_oversampling (settings_held image)) 5 3

  abbrev pub pedestal_held : Found
  pedestal_held = fault_where (pedestal_with_pal (settings_held image)) 6 4

  -- 1 to 10
  pub first-judged : fault_in image first_fields
      ≡ after (fields_judged image timing) (after square_held (after (reading_fault image pedestal) (after pedestal_held (fields_judged image output))))
  unfolding first_of places_in order_of table timing output picture dnr flat_map
  first-judged =
      let rest = after square_held (after (reading_fault image pedestal) (after pedestal_held (fields_judged image output))) in
      timing-first image (4 ∷ 5 ∷ 6 ∷ 7 ∷ 8 ∷ 9 ∷ 10 ∷ [])
      ∙ ap (λ (v : Found). in_turn image timing (after square_held v))
      (pedestal-first image (5 ∷ 6 ∷ 7 ∷ 8 ∷ 9 ∷ 10 ∷ [])
      ∙ ap (λ (v : Found). after (reading_fault image pedestal) (after pedestal_held v))
      (output-first image [] ∙ sym (judged_turn image output (good tt)) ∙ after-good (fields_judged image output)))
      ∙ sym (judged_turn image timing rest)

  -- 11 to 28
  pub last_judged : fault_in image last_fields
      ≡ after (conflict_held image) (after (signalling_fault image) (after (fields_judged image picture) (after (fields_judged image dnr) (word_fault image))))
  unfolding first_of places_in order_of table timing output picture dnr flat_map
  last_judged =
      let fromCurves : List ℕ = 26 ∷ 27 ∷ 28 ∷ [] in
      let fromDnr : List ℕ = 18 ∷ 19 ∷ 20 ∷ 21 ∷ 22 ∷ 23 ∷ 24 ∷ 25 ∷ fromCurves in
      signalling-first image (12 ∷ 13 ∷ 14 ∷ 15 ∷ 16 ∷ 17 ∷ fromDnr)
      ∙ ap (λ (v : Found). after (conflict_held image) (after (signalling_fault image) v))
      (picture-first image fromDnr
      ∙ ap (in_turn image picture)
      (dnr-first image fromCurves ∙ ap (in_turn image dnr) (curves_and_word image) ∙ sym (judged_turn image dnr (word_fault image)))
      ∙ sym (judged_turn image picture (after (fields_judged image dnr) (word_fault image))))
