-- The parts are the numbers' first, the three of the CGMS data, and the numbers' last.
use Rattle.std.proofs.Common.{◌≡◌, sym, ap, ◌∙◌, w32, to_z, of_z, refl, arith, rules}
use lib.Seq.{length-take-le}
use mir.ValLaws.{to_z-of_z}
use Rattle.adv7195_settings.specs.Numbers.{part_of, cgms_data}
use Rattle.adv7195_settings.proofs.PlacedLaws.{parts_placed}
use Rattle.adv7195_settings.proofs.numbers.parts_of.Goals as goal

pub slice_bounds-copy_from_slice-end-2 : goal.slice_bounds-copy_from_slice-end-2
slice_bounds-copy_from_slice-end-2 c = sym (length-take-le 34 c.args.numbers.now (omega (arith, c.requires)))

pub returns : goal.returns
returns c =
    let zs = c.args.numbers.now in
    let same : to_z w32 (of_z w32 (cgms_data zs)) ≡ cgms_data zs = search rules in
    record {
      answer =
          parts_placed zs c.copy_from_slice.new.self _ c.copy_from_slice-2.new.self _ _ _ c.requires refl c.copy_from_slice.ensures.after
          c.copy_from_slice-2.ensures.after
          (to_z-of_z w32 c.part_of.result (record { sfits = c.part_of.type_inv }) ∙ c.part_of.ensures.answer ∙ ap (part_of 0 8) same)
          (to_z-of_z w32 c.part_of-2.result (record { sfits = c.part_of-2.type_inv }) ∙ c.part_of-2.ensures.answer ∙ ap (part_of 8 8) same)
          (to_z-of_z w32 c.part_of-3.result (record { sfits = c.part_of-3.type_inv }) ∙ c.part_of-3.ensures.answer ∙ ap (part_of 16 4) same);
    }
