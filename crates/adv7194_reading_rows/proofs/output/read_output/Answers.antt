-- `output::read_output` meets its contract: a field after the other.
use Rattle.std.proofs.Common.{◌≡◌, rules}
use Rattle.refusals.specs.Refusal.{judged_as}
use Rattle.refusals.proofs.VerdictLaws.{after-good, after_assoc}
use Rattle.field_table.specs.Walk.{reading_of, judge_of, numbers_of}
use Rattle.field_table.proofs.StepLaws.{decoded_step}
use Rattle.adv7194_table.specs.Fields.{output, clamp_delay}
use Rattle.adv7194_reading_rows.proofs.output.read_output.Goals as goal

pub returns : goal.returns
unfolding output judge_of numbers_of
returns c =
    let decoded : judged_as c.clamp_delay_setting-clocks.result ≡ reading_of c.args.image.now clamp_delay = search rules in
    let delay = c.read_decoded-clamp_delay.ensures in
    let stored = decoded_step c.args.image.now clamp_delay _ _ decoded (delay.answer, delay.memory) in
    record {
      answer = simp (
        c.read_row.ensures.answer,
        c.read_row-back_porch.ensures.answer,
        stored.0,
        c.read_row-rgb_sync.ensures.answer,
        c.read_row-uv_level.ensures.answer,
        c.read_row-y_level.ensures.answer,
        after_assoc,
        after-good,
      );
      memory = simp (
        c.read_row.ensures.memory,
        c.read_row-back_porch.ensures.memory,
        stored.1,
        c.read_row-rgb_sync.ensures.memory,
        c.read_row-uv_level.ensures.memory,
        c.read_row-y_level.ensures.memory,
      );
    }
