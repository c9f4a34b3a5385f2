-- `faults::conflict_words`: the words by the kind that was found. Assumes nothing.
use Rattle.std.proofs.Common.{◌≡◌, ◌∙◌, ℕ, ap, Result, Ok, Err}
use Rattle.refusals.specs.declared.Refusal.{Refusal}
use Rattle.adv7194_signalling.specs.declared.kind.SignallingKind.{SignallingKind}
use Rattle.adv7194_signalling.specs.declared.kind.SignallingKind.TheVariants as kind
use Rattle.adv7194_signalling.specs.Kind.{kind_of, kind_as}
use Rattle.adv7194_signalling.proofs.KindLaws.{by_answer, by_answer_lem}
use Rattle.adv7194_listing.specs.Words.{conflict_words}
use Rattle.adv7194_listing.proofs.faults.conflict_words.Goals as goal

found : (r19 : ℕ) (held : Result SignallingKind Refusal) → kind_as held ≡ kind_of r19 → by_answer (λ n. 8) 7 6 12 (kind_as held) ≡ conflict_words r19
found r19 held e = ap (by_answer (λ n. 8) 7 6 12) e ∙ by_answer_lem (λ n. 8) 7 6 12 r19

pub returns-in-Ok-Off : goal.returns-in-Ok-Off
returns-in-Ok-Off c = record { answer = found c.args.r19 (Ok kind.Off) (rw c.in-Ok-Off.field-0-is at c.in-Ok-Off.ensures.answer) }

pub returns-in-Ok-Cgms : goal.returns-in-Ok-Cgms
returns-in-Ok-Cgms c = record { answer = found c.args.r19 (Ok kind.Cgms) (rw c.in-Ok-Cgms.field-0-is at c.in-Ok-Cgms.ensures.answer) }

pub returns-in-Ok-Wss : goal.returns-in-Ok-Wss
returns-in-Ok-Wss c = record { answer = found c.args.r19 (Ok kind.Wss) (rw c.in-Ok-Wss.field-0-is at c.in-Ok-Wss.ensures.answer) }

pub returns-in-Err : goal.returns-in-Err
returns-in-Err c = record { answer = found c.args.r19 (Err c.in-Err.field-0) c.in-Err.ensures.answer }
