-- Every worked example holds: the codes and the curve by computing, the words by the law of the nearest number. Assumes nothing.
use mathlib.Core.Path.{refl}
use mathlib.Core.Bool.{true, false}
use Rattle.rounding.specs.First.{first_from}
use Rattle.rounding.specs.Nearest.{nearest}
use Rattle.field_table.specs.Coding.{code_by, encode}
use Rattle.adv7194_gamma.specs.Power.{below_half, nearest_power}
use Rattle.adv7194_gamma.specs.Curve.{bytes_of, curve_of}
use Rattle.adv7194_subcarrier.proofs.Words.{word-is}
use Rattle.adv7194_examples.specs.Examples.{AllHold, none, ◌and◌, examples}

pub proved : AllHold examples
unfolding encode code_by nearest first_from curve_of bytes_of nearest_power below_half
proved =
    refl and refl and refl and refl and refl and refl and refl and refl and refl and refl and refl and refl and refl and refl
    and word-is false false 0x21F07C1F tt
    and word-is true false 0x2A098ACB tt
    and word-is false true 0x25555555 tt
    and word-is true true 0x26798C0C tt
    and none
