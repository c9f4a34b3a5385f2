-- `picture::want_picture` meets its contract: a field after the other.
use Rattle.std.proofs.Common.{◌≡◌, rules}
use Rattle.refusals.specs.Refusal.{judged_as}
use Rattle.refusals.proofs.VerdictLaws.{after-good, after_assoc}
use Rattle.field_table.specs.Writes.{puts}
use Rattle.field_table.specs.Walk.{coding_of, check_of, writes_of}
use Rattle.field_table.proofs.StepLaws.{coded_step}
use Rattle.adv7194_table.specs.Fields.{picture, hue, brightness, sharpness}
use Rattle.adv7194_codes.proofs.FitLaws.{brightness-fits, sharpness-fits}
use Rattle.adv7194_setting_rows.proofs.ZeroLaws.{brightness-zero, sharpness-zero, brightness-cleared, sharpness-cleared}
use Rattle.adv7194_setting_rows.proofs.picture.want_picture.Goals as goal

pub want_coded-brightness-requires : goal.want_coded-brightness-requires
want_coded-brightness-requires c = (tt, rw c.brightness_code-tenths.ensures.answer (brightness-fits _))

pub want_coded-sharpness-requires : goal.want_coded-sharpness-requires
want_coded-sharpness-requires c = (tt, rw c.sharpness_code-step.ensures.answer (sharpness-fits _))

pub returns : goal.returns
unfolding picture check_of writes_of puts
returns c =
    let zs = c.args.numbers.now in
    let of_hue : judged_as c.hue_code.result ≡ coding_of zs hue = search rules in
    let hue_placed = coded_step zs hue _ _ of_hue (c.want_coded-hue.ensures.answer, c.want_coded-hue.ensures.memory) in
    let of_brightness : judged_as c.brightness_code-tenths.result ≡ coding_of zs brightness = search rules in
    let brightness_placed = coded_step zs brightness _ _ of_brightness (c.want_coded-brightness.ensures.answer, c.want_coded-brightness.ensures.memory) in
    let brightness_zero = brightness-cleared zs _ c.requires c.clear_zero_bits.ensures.small c.clear_zero_bits.ensures.memory in
    let of_sharpness : judged_as c.sharpness_code-step.result ≡ coding_of zs sharpness = search rules in
    let sharpness_placed = coded_step zs sharpness _ _ of_sharpness (c.want_coded-sharpness.ensures.answer, c.want_coded-sharpness.ensures.memory) in
    let sharpness_zero = sharpness-cleared zs _ c.requires c.clear_zero_bits-2.ensures.small c.clear_zero_bits-2.ensures.memory in
    record {
      answer = simp (
        sharpness_placed.0,
        brightness_placed.0,
        hue_placed.0,
        c.want_thousandths-v_scale.ensures.answer,
        c.want_thousandths-u_scale.ensures.answer,
        c.want_thousandths-contrast.ensures.answer,
        brightness-zero zs c.requires,
        sharpness-zero zs c.requires,
        after_assoc,
        after-good,
      );
      memory = simp (
        sharpness_zero,
        sharpness_placed.1,
        brightness_zero,
        brightness_placed.1,
        hue_placed.1,
        c.want_thousandths-v_scale.ensures.memory,
        c.want_thousandths-u_scale.ensures.memory,
        c.want_thousandths-contrast.ensures.memory,
      );
    }
