-- `words::put_reason`: the answer chooses the words. Assumes nothing.
use Rattle.std.proofs.Common.{◌≡◌, ℕ, List, Result, Ok, arith}
use Rattle.refusals.specs.declared.Fault.{Fault}
use Rattle.writing.specs.Put.{Put}
use Rattle.writing.proofs.Putting.{put, wider, unwritten}
use Rattle.adv7194_reasons.specs.declared.Reason.{Reason}
use Rattle.adv7194_reasons.specs.Why.{reason_as, why_as}
use Rattle.why_lines.specs.RegisterLine.{reason_text, answer_words, reason_width}
use Rattle.why_lines.proofs.words.put_reason.Goals as goal

-- the words of the reason that was found are those of the answer
found : {n : ℕ} {line : List ℕ} {at : ℕ} {after : List ℕ} {place : ℕ} {answer : Result Reason Fault} {held reason : Reason} → answer ≡ Ok held → held ≡ reason
    → Put n line at (reason_text (reason_as reason)) after place → Put n line at (answer_words (why_as answer)) after place
found e f p = rw (e, f) p

pub returns-in-Err : goal.returns-in-Err
returns-in-Err c = record { written = rw c.in-Err.is (unwritten c.args.line.now c.args.at (omega arith)) }

pub returns-in-Ok-NotSent : goal.returns-in-Ok-NotSent
unfolding reason_text
returns-in-Ok-NotSent c =
    record { written = found c.in-Ok-NotSent.is (rw c.in-Ok-NotSent.is at c.in-Ok-NotSent.field-0-is) (wider reason_width (omega arith) (put c.put.ensures.answer c.put.ensures.memory)) }

pub returns-in-Ok-Unknown : goal.returns-in-Ok-Unknown
unfolding reason_text
returns-in-Ok-Unknown c =
    let p = c.put-in-Ok-Unknown.ensures in
    record { written = found c.in-Ok-Unknown.is (rw c.in-Ok-Unknown.is at c.in-Ok-Unknown.field-0-is) (wider reason_width (omega arith) (put p.answer p.memory)) }

pub returns-in-Ok-Changed : goal.returns-in-Ok-Changed
returns-in-Ok-Changed c = record { written = found c.in-Ok-Changed.is (rw c.in-Ok-Changed.is at c.in-Ok-Changed.field-0-is) c.put_changed.ensures.written }

pub returns-in-Ok-Zeroed : goal.returns-in-Ok-Zeroed
unfolding reason_text
returns-in-Ok-Zeroed c =
    let p = c.put-in-Ok-Zeroed.ensures in
    record { written = found c.in-Ok-Zeroed.is (rw c.in-Ok-Zeroed.is at c.in-Ok-Zeroed.field-0-is) (wider reason_width (omega arith) (put p.answer p.memory)) }

pub returns-in-Ok-Companion : goal.returns-in-Ok-Companion
unfolding reason_text
returns-in-Ok-Companion c =
    let p = c.put-in-Ok-Companion.ensures in
    record { written = found c.in-Ok-Companion.is (rw c.in-Ok-Companion.is at c.in-Ok-Companion.field-0-is) (put p.answer p.memory) }

pub returns-in-Ok-Bridge : goal.returns-in-Ok-Bridge
returns-in-Ok-Bridge c = record { written = found c.in-Ok-Bridge.is (rw c.in-Ok-Bridge.is at c.in-Ok-Bridge.field-0-is) c.put_bridge.ensures.written }
