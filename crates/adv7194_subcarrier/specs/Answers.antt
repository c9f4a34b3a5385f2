-- The standard as the code names it, and what reading the subcarrier word answers: it has no setting of its own, so there is no number to read.
use Rattle.std.specs.Prelude.{Bool, true, false, List, [], ℤ, Result, Ok, Err}
use Rattle.refusals.specs.declared.Refusal.{Refusal}
use Rattle.refusals.specs.Refusal.{Judged, accepted, refused, number_of}
use Rattle.adv7194_subcarrier.specs.declared.Standard.{Standard}
use Rattle.adv7194_subcarrier.specs.declared.Standard.TheVariants.{Ntsc, Pal}

-- the standard is PAL
abbrev pub is_pal : Standard → Bool
is_pal Ntsc = false
is_pal Pal = true

-- no number, or the refusal by its number
abbrev pub word_read_as : Result (Unit {0}) Refusal → Judged (List ℤ)
word_read_as (Ok u) = accepted []
word_read_as (Err why) = refused (number_of why)
