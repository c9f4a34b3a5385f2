-- The register's byte under its must-be-zero bits.
use Rattle.adv7194_table.proofs.MaskLaws.{zero-mask-at}
use Rattle.adv7194_table.proofs.own.zero_bits.Goals as goal

pub returns : goal.returns
returns c = record { answer = rw (c.byte_of.ensures.answer, c.must_be_zero.ensures.answer, zero-mask-at c.args.register c.requires) }
