-- `dnr::read_dnr` meets its contract: a field after the other.
use Rattle.refusals.proofs.VerdictLaws.{after-good, after_assoc}
use Rattle.field_table.specs.Walk.{judge_of, numbers_of}
use Rattle.adv7194_table.specs.Fields.{dnr}
use Rattle.adv7194_reading_rows.proofs.dnr.read_dnr.Goals as goal

pub returns-clause-answer : goal.returns-clause-answer
unfolding dnr judge_of
returns-clause-answer c =
    simp (
      c.read_row.ensures.answer,
      c.read_row-dnr_mode.ensures.answer,
      c.read_row-dnr_input.ensures.answer,
      c.read_row-block_size.ensures.answer,
      c.read_row-border_area.ensures.answer,
      c.read_row-threshold.ensures.answer,
      c.read_row-data_gain.ensures.answer,
      c.read_row-border_gain.ensures.answer,
      after_assoc,
      after-good,
    )

pub returns-clause-memory : goal.returns-clause-memory
unfolding dnr numbers_of
returns-clause-memory c =
    simp (
      c.read_row.ensures.memory,
      c.read_row-dnr_mode.ensures.memory,
      c.read_row-dnr_input.ensures.memory,
      c.read_row-block_size.ensures.memory,
      c.read_row-border_area.ensures.memory,
      c.read_row-threshold.ensures.memory,
      c.read_row-data_gain.ensures.memory,
      c.read_row-border_gain.ensures.memory,
    )
