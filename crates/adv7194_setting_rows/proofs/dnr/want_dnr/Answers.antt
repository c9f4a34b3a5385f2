-- `dnr::want_dnr` meets its contract: a field after the other.
use Rattle.refusals.proofs.VerdictLaws.{after-good, after_assoc}
use Rattle.field_table.specs.Writes.{puts}
use Rattle.field_table.specs.Walk.{check_of, writes_of}
use Rattle.adv7194_table.specs.Fields.{dnr}
use Rattle.adv7194_setting_rows.proofs.dnr.want_dnr.Goals as goal

pub returns-clause-answer : goal.returns-clause-answer
unfolding dnr check_of
returns-clause-answer c =
    simp (
      c.want_row.ensures.answer,
      c.want_row-dnr_mode.ensures.answer,
      c.want_row-dnr_input.ensures.answer,
      c.want_row-block_size.ensures.answer,
      c.want_row-border_area.ensures.answer,
      c.want_row-threshold.ensures.answer,
      c.want_row-data_gain.ensures.answer,
      c.want_row-border_gain.ensures.answer,
      after_assoc,
      after-good,
    )

pub returns-clause-memory : goal.returns-clause-memory
unfolding dnr writes_of puts
returns-clause-memory c =
    simp (
      c.want_row.ensures.memory,
      c.want_row-dnr_mode.ensures.memory,
      c.want_row-dnr_input.ensures.memory,
      c.want_row-block_size.ensures.memory,
      c.want_row-border_area.ensures.memory,
      c.want_row-threshold.ensures.memory,
      c.want_row-data_gain.ensures.memory,
      c.want_row-border_gain.ensures.memory,
    )
