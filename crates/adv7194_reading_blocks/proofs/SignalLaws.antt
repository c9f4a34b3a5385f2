-- Signalling's five numbers as they are stored. Assumes nothing.
use Rattle.std.proofs.Common.{◌≡◌, [], pos, Result, Ok, Err, ap, ◌∙◌}
use Rattle.std.specs.Result.{result_unwrap_or}
use Rattle.refusals.specs.declared.Refusal.{Refusal}
use Rattle.refusals.specs.Refusal.{value_or}
use Rattle.field_table.specs.Blocks.{slice}
use Rattle.adv7194_signalling.specs.declared.field.Signalling.{Signalling}
use Rattle.adv7194_signalling.specs.Signalling.{no_signalling}
use Rattle.adv7194_signalling.specs.Answers.{numbers_of, read_as}

-- those of a setting read, zeros after a refusal
pub numbers-read : (read : Result Signalling Refusal) {s none : Signalling} → s ≡ result_unwrap_or read none → numbers_of none ≡ no_signalling
    → numbers_of s ≡ slice (pos 0) (value_or [] (read_as read)) 0 5
unfolding slice
numbers-read (Ok s) e h = ap numbers_of e
numbers-read (Err why) e h = ap numbers_of e ∙ h
