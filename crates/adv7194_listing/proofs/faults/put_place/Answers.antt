-- `faults::put_place`: field 0 has no number. Assumes nothing.
use Rattle.std.proofs.Common.{◌≡◌, ◌∙◌, cond, eqb, eq-eqb, arith}
use Rattle.writing.specs.Ascii.{ascii}
use Rattle.adv7194_names.specs.Names.{named}
use Rattle.adv7194_names.specs.Widths.{label_width}
use Rattle.adv7194_lines.specs.Lines.{label_text}
use Rattle.adv7194_names.proofs.Choosing.{name-is}
use Rattle.writing.proofs.Putting.{wider, same_text}
use Rattle.adv7194_listing.proofs.faults.put_place.Goals as goal

pub returns-then-field-eq0 : goal.returns-then-field-eq0
returns-then-field-eq0 c =
    let f = c.args.field in
    let e : ascii (named f).name ≡ cond (eqb f 0) (ascii (named f).name) (label_text f) = rw (eq-eqb f 0 c.if-field-eq0.true) in
    record { written = same_text (name-is (named f) ∙ e) (wider label_width (omega arith) c.put_column.ensures.written) }
