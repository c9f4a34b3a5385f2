-- What the answer stands for in document 02.
use Rattle.std.specs.Prelude.{Result, Ok, Err}
use Rattle.refusals.specs.Refusal.{number_of}
use Rattle.refusals.specs.Verdict.{Verdict, good, refused_at}
use Rattle.refusals.specs.declared.Fault.{Fault}
use Rattle.adv7194_captions.specs.Reading.{Characters}
use Rattle.adv7194_caption_reading.specs.declared.Captions.{Captions}

-- a pair's characters, or a refusal at a field
abbrev pub read_as : Result Captions Fault → Verdict Characters
read_as (Ok c) = good (record { first = c.first; second = c.second })
read_as (Err e) = refused_at (number_of e.refusal) e.field
