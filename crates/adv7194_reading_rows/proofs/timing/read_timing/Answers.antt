-- `timing::read_timing` meets its contract: a field after the other.
use Rattle.refusals.proofs.VerdictLaws.{after-good, after_assoc}
use Rattle.field_table.specs.Walk.{judge_of, numbers_of}
use Rattle.adv7194_table.specs.Fields.{timing}
use Rattle.adv7194_reading_rows.proofs.timing.read_timing.Goals as goal

pub returns-clause-answer : goal.returns-clause-answer
unfolding timing judge_of
returns-clause-answer c =
    simp (c.read_row.ensures.answer, c.read_row-square_pixel.ensures.answer, c.read_row-standard.ensures.answer, after_assoc, after-good)

pub returns-clause-memory : goal.returns-clause-memory
unfolding timing numbers_of
returns-clause-memory c =
    simp (c.read_row.ensures.memory, c.read_row-square_pixel.ensures.memory, c.read_row-standard.ensures.memory)
