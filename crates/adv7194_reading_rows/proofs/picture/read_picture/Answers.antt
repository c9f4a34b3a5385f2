-- `picture::read_picture` meets its contract: a field after the other.
use Rattle.std.proofs.Common.{◌≡◌, refl, rules}
use Rattle.refusals.specs.Refusal.{judged_as}
use Rattle.refusals.proofs.VerdictLaws.{after-good, after_assoc}
use Rattle.field_table.specs.Walk.{reading_of, judge_of, numbers_of}
use Rattle.field_table.proofs.StepLaws.{decoded_step}
use Rattle.adv7194_table.specs.Fields.{timing, output, picture, dnr, hue, brightness, sharpness}
use Rattle.adv7194_table.specs.Masks.{mask_where, zero_mask, zero_masks}
use Rattle.adv7194_table.specs.Table.{table}
use Rattle.adv7194_reading_rows.proofs.picture.read_picture.Goals as goal

pub read_zero-brightness_zero-requires : goal.read_zero-brightness_zero-requires
unfolding zero_masks zero_mask mask_where table timing output picture dnr
read_zero-brightness_zero-requires c = record { fits = tt; mask = refl; low = refl; high = refl; reserved = refl }

pub read_zero-requires : goal.read_zero-requires
unfolding zero_masks zero_mask mask_where table timing output picture dnr
read_zero-requires c = record { fits = tt; mask = refl; low = refl; high = refl; reserved = refl }

pub returns : goal.returns
unfolding picture judge_of numbers_of
returns c =
    let image = c.args.image.now in
    let of_hue : judged_as c.hue_setting-degrees.result ≡ reading_of image hue = search rules in
    let hue_stored = decoded_step image hue _ _ of_hue (c.read_decoded-hue.ensures.answer, c.read_decoded-hue.ensures.memory) in
    let of_brightness : judged_as c.brightness_setting-tenths.result ≡ reading_of image brightness = search rules in
    let brightness_stored = decoded_step image brightness _ _ of_brightness (c.read_decoded-brightness.ensures.answer, c.read_decoded-brightness.ensures.memory) in
    let of_sharpness : judged_as c.sharpness_setting-step.result ≡ reading_of image sharpness = search rules in
    let sharpness_stored = decoded_step image sharpness _ _ of_sharpness (c.read_decoded-sharpness.ensures.answer, c.read_decoded-sharpness.ensures.memory) in
    record {
      answer = simp (
        c.read_zero.ensures.answer,
        sharpness_stored.0,
        c.read_zero-brightness_zero.ensures.answer,
        brightness_stored.0,
        hue_stored.0,
        c.read_thousandths-v_scale.ensures.answer,
        c.read_thousandths-u_scale.ensures.answer,
        c.read_thousandths-contrast.ensures.answer,
        after_assoc,
        after-good,
      );
      memory = simp (
        c.read_zero.ensures.memory,
        sharpness_stored.1,
        c.read_zero-brightness_zero.ensures.memory,
        brightness_stored.1,
        hue_stored.1,
        c.read_thousandths-v_scale.ensures.memory,
        c.read_thousandths-u_scale.ensures.memory,
        c.read_thousandths-contrast.ensures.memory,
      );
    }
