-- `timing::want_timing` meets its contract: a field after the other.
use Rattle.refusals.proofs.VerdictLaws.{after-good, after_assoc}
use Rattle.field_table.specs.Writes.{puts}
use Rattle.field_table.specs.Walk.{check_of, writes_of}
use Rattle.adv7194_table.specs.Fields.{timing}
use Rattle.adv7194_setting_rows.proofs.timing.want_timing.Goals as goal

pub returns-clause-answer : goal.returns-clause-answer
unfolding timing check_of
returns-clause-answer c =
    simp (c.want_row.ensures.answer, c.want_row-square_pixel.ensures.answer, c.want_row-standard.ensures.answer, after_assoc, after-good)

pub returns-clause-memory : goal.returns-clause-memory
unfolding timing writes_of puts
returns-clause-memory c =
    simp (c.want_row.ensures.memory, c.want_row-square_pixel.ensures.memory, c.want_row-standard.ensures.memory)
