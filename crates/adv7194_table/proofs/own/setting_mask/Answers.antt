-- Of the field's bits those that belong to a field.
use Rattle.adv7194_table.proofs.MaskLaws.{field-mask-at}
use Rattle.adv7194_table.proofs.SettingLaws.{setting_mask_lem}
use Rattle.adv7194_table.proofs.own.setting_mask.Goals as goal

pub returns : goal.returns
returns c =
    record {
      answer =
          rw (c.own_mask-own.ensures.answer, c.field_masks-masks.ensures.answer, field-mask-at c.args.register c.requires)
          (setting_mask_lem c.args.field c.args.register c.requires);
    }
