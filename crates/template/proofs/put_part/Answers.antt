-- The byte chooses what is written.
use Rattle.std.proofs.Common.{arith}
use Rattle.text.specs.Text.{signed}
use Rattle.writing.specs.Codes.{code}
use Rattle.writing.proofs.Putting.{put, wider, same_text, passed}
use Rattle.template.specs.Template.{width}
use Rattle.template.proofs.TemplateLaws.{decimal_part, byte_part, plain_part}
use Rattle.template.proofs.put_part.Goals as goal

pub returns-then-b-eq-DECIMAL : goal.returns-then-b-eq-DECIMAL
returns-then-b-eq-DECIMAL c =
    let a = c.args in
    let l = decimal_part a.b a.n c.if-b-eq-DECIMAL.true in
    record { written = same_text l.1 (wider (width a.b) (omega (arith, l.0)) (passed signed a.n c.ranges.n.sfits c.put_signed.ensures.written)) }

pub returns-then-b-eq-BYTE : goal.returns-then-b-eq-BYTE
returns-then-b-eq-BYTE c =
    let a = c.args in
    let l = byte_part a.b a.n c.if-b-eq-DECIMAL.false c.if-b-eq-BYTE.true in
    record { written = same_text l.1 (wider (width a.b) (omega (arith, l.0)) (passed code a.n c.ranges.n.sfits c.put_code.ensures.written)) }

pub returns-else-b-eq-BYTE : goal.returns-else-b-eq-BYTE
returns-else-b-eq-BYTE c =
    let a = c.args in
    let l = plain_part a.b a.n c.if-b-eq-DECIMAL.false c.if-b-eq-BYTE.false in
    record { written = same_text l.1 (wider (width a.b) (omega (arith, l.0)) (put c.put.ensures.answer c.put.ensures.memory)) }
