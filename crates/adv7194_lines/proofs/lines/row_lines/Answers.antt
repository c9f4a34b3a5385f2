-- `lines::row_lines`: a further row's line is put after those before. Assumes nothing.
use Rattle.std.proofs.Common.{◌≡◌, ◌+◌, ◌*◌, List, ℕ, arith, length, take, ap}
use mathlib.Core.List.{map, flat_map}
use lib.Seq.{take_all}
use Rattle.field_table.specs.Coding.{plain_fields}
use Rattle.adv7194_table.specs.Table.{single}
use Rattle.writing.proofs.Putting.{kept, more, wider, same_text, unwritten}
use Rattle.adv7194_names.specs.Widths.{line_width}
use Rattle.adv7194_lines.specs.Lines.{line_of}
use Rattle.adv7194_lines.proofs.LineLaws.{rows_more}
use Rattle.adv7194_lines.proofs.lines.row_lines.Goals as goal

pub row_line-place-requires : goal.row_line-place-requires
row_line-place-requires c = omega (arith, kept c.loop-packed.invariant)

pub loop-packed-init : goal.loop-packed-init
unfolding flat_map plain_fields
loop-packed-init c = unwritten _ _ (omega arith)

pub loop-packed-preserved : goal.loop-packed-preserved
loop-packed-preserved c =
    same_text (rows_more c.args.numbers.now c.args.rows.now c.loop-packed.packed-index (omega arith))
    (wider (line_width * (c.loop-packed.packed-index + 1)) (omega arith) (more c.loop-packed.invariant c.row_line-place.ensures.written (omega arith)))

pub returns : goal.returns
returns c =
    let rows = c.args.rows.now in
    let whole : take c.loop-packed.packed-index rows ≡ rows = take_all c.loop-packed.packed-index rows (omega arith) in
    record {
      written =
          same_text (ap (λ (ps : List ℕ). flat_map (line_of c.args.numbers.now) (map single (plain_fields ps))) whole)
          (wider (line_width * length rows) (omega arith) c.loop-packed.invariant);
    }
