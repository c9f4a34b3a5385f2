-- The packed rows are the table, and the numbers are the settings' in parts.
use Rattle.std.proofs.Common.{List, ℤ, ap₂, ◌∙◌}
use Rattle.field_table.specs.Coding.{Field}
use Rattle.field_table.specs.Writes.{puts}
use Rattle.field_table.specs.Walk.{check_of, writes_of}
use Rattle.adv7195_settings.specs.Wanted.{wanted_by}
use Rattle.adv7195_settings.proofs.TableLaws.{rows_fit, check_walk}
use Rattle.adv7195_settings.proofs.want.Goals as goal

pub want-requires : goal.want-requires
want-requires c = rows_fit _ c.rows.ensures.answer

pub returns : goal.returns
unfolding wanted_by
returns c =
    let parts = c.parts_of-parts.ensures.answer in
    let rows = c.rows.ensures.answer in
    record {
      answer = c.want.ensures.answer ∙ ap₂ (λ (zs : List ℤ) (fs : List Field). check_of zs fs) parts rows ∙ check_walk c.args.numbers.now;
      memory = c.want.ensures.memory ∙ ap₂ (λ (zs : List ℤ) (fs : List Field). puts c.args.image.now (writes_of zs fs)) parts rows;
    }
