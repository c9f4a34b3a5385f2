-- `output::want_output` meets its contract: a field after the other.
use Rattle.std.proofs.Common.{◌≡◌, rules}
use Rattle.refusals.specs.Refusal.{judged_as}
use Rattle.refusals.proofs.VerdictLaws.{after-good, after_assoc}
use Rattle.field_table.specs.Writes.{puts}
use Rattle.field_table.specs.Walk.{coding_of, check_of, writes_of}
use Rattle.field_table.proofs.StepLaws.{coded_step}
use Rattle.adv7194_table.specs.Fields.{output, clamp_delay}
use Rattle.adv7194_codes.proofs.FitLaws.{clamp_delay-fits}
use Rattle.adv7194_setting_rows.proofs.output.want_output.Goals as goal

pub want_coded-clamp_delay-requires : goal.want_coded-clamp_delay-requires
want_coded-clamp_delay-requires c = (tt, rw c.clamp_delay_code-coded.ensures.answer (clamp_delay-fits _))

pub returns : goal.returns
unfolding output check_of writes_of puts
returns c =
    let coded : judged_as c.clamp_delay_code-coded.result ≡ coding_of c.args.numbers.now clamp_delay = search rules in
    let delay = c.want_coded-clamp_delay.ensures in
    let placed = coded_step c.args.numbers.now clamp_delay _ _ coded (delay.answer, delay.memory) in
    record {
      answer = simp (
        c.want_row.ensures.answer,
        c.want_row-back_porch.ensures.answer,
        placed.0,
        c.want_row-rgb_sync.ensures.answer,
        c.want_row-uv_level.ensures.answer,
        c.want_row-y_level.ensures.answer,
        after_assoc,
        after-good,
      );
      memory = simp (
        c.want_row.ensures.memory,
        c.want_row-back_porch.ensures.memory,
        placed.1,
        c.want_row-rgb_sync.ensures.memory,
        c.want_row-uv_level.ensures.memory,
        c.want_row-y_level.ensures.memory,
      );
    }
