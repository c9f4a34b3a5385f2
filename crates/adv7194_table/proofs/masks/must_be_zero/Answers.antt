-- There is none past the last register.
use Rattle.std.proofs.Common.{sym}
use lib.ListN.{get_or-eq_default}
use Rattle.adv7194_table.specs.Masks.{zero_masks}
use Rattle.adv7194_table.proofs.masks.must_be_zero.Goals as goal

pub returns-then-register : goal.returns-then-register
unfolding zero_masks
returns-then-register c = record { answer = sym (get_or-eq_default zero_masks 0 c.if-register.true) }
