-- Each answer is the first row of the checking order that holds, and is given exactly when it is due.
use Rattle.std.proofs.Common.{arith}
use Rattle.std.proofs.lemmas.Grind.{common_steps}
use Rattle.refusals.specs.Order.{places_at, first_of}
use Rattle.refusals.proofs.OrderLaws.{exactly}
use Rattle.adv7194_captions.specs.Reading.{caption_read_row, caption_read_order, caption_reading}
use Rattle.adv7194_caption_reading.proofs.read_captions.Goals as goal

pub returns-then-image : goal.returns-then-image
unfolding caption_reading caption_read_row caption_read_order places_at first_of
returns-then-image c = record { answer = grind (arith, common_steps); exactly = exactly _ _ _ (grind (arith, common_steps)) }

pub returns-then-pair-ge-PAIRS : goal.returns-then-pair-ge-PAIRS
unfolding caption_reading caption_read_row caption_read_order places_at first_of
returns-then-pair-ge-PAIRS c = record { answer = grind (arith, common_steps); exactly = exactly _ _ _ (grind (arith, common_steps)) }

pub returns-then-not-has : goal.returns-then-not-has
unfolding caption_reading caption_read_row caption_read_order places_at first_of
returns-then-not-has c = record { answer = grind (arith, common_steps); exactly = exactly _ _ _ (grind (arith, common_steps)) }

pub returns-then-not-is_odd : goal.returns-then-not-is_odd
unfolding caption_reading caption_read_row caption_read_order places_at first_of
returns-then-not-is_odd c = record { answer = grind (arith, common_steps); exactly = exactly _ _ _ (grind (arith, common_steps)) }

pub returns : goal.returns
unfolding caption_reading caption_read_row caption_read_order places_at first_of
returns c = record { answer = grind (arith, common_steps); exactly = exactly _ _ _ (grind (arith, common_steps)) }
