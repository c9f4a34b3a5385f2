-- `zero_bits::zero_setting` meets its contract: by whether the mask has a bit of the register's set, and past the image.
use Rattle.std.proofs.Common.{ap}
use Rattle.field_table.specs.declared.row.Row.{Row}
use Rattle.field_table.specs.Rows.{row_of}
use Rattle.adv7194_reading_rows.proofs.ZeroLaws.{clear_read, set_read, past_read}
use Rattle.adv7194_reading_rows.proofs.zero_bits.zero_setting.Goals as goal

pub returns-then-image-register-ne0 : goal.returns-then-image-register-ne0
returns-then-image-register-ne0 c =
    let at = ap (λ (r : Row). r.register) c.row_of-register.ensures.answer in
    record { answer = set_read (row_of c.args.packed) c.requires c.args.image.now at c.must_be_zero.ensures.answer c.if-image-register-ne0.true }

pub returns-else-image-register-ne0 : goal.returns-else-image-register-ne0
returns-else-image-register-ne0 c =
    let at = ap (λ (r : Row). r.register) c.row_of-register.ensures.answer in
    record { answer = clear_read (row_of c.args.packed) c.requires c.args.image.now at c.must_be_zero.ensures.answer c.if-image-register-ne0.false }

pub returns-else-register-image : goal.returns-else-register-image
returns-else-register-image c =
    let at = ap (λ (r : Row). r.register) c.row_of-register.ensures.answer in
    record { answer = past_read (row_of c.args.packed) c.requires c.args.image.now at c.if-register-image.false }
