-- The numbers are the parts' first, the one joined, and the parts' last.
use Rattle.std.proofs.Common.{length, sym, ap, ◌∙◌, ◌+◌, ◌++◌, drop, w32, to_z, of_z, arith}
use lib.ListN.{length-set, length-append, length-drop}
use lib.Seq.{length-take-le}
use mir.ValLaws.{to_z-of_z}
use Rattle.adv7195_settings.specs.Numbers.{cgms_part}
use Rattle.adv7195_settings.proofs.PartLaws.{byte-back, three}
use Rattle.adv7195_settings.proofs.PlacedLaws.{numbers_placed}
use Rattle.adv7195_settings.proofs.numbers.numbers_of.Goals as goal

pub slice_bounds-copy_from_slice-end-2 : goal.slice_bounds-copy_from_slice-end-2
slice_bounds-copy_from_slice-end-2 c = sym (length-take-le 34 c.args.numbers.now (omega (arith, c.requires)))

pub slice_bounds-copy_from_slice-end-3 : goal.slice_bounds-copy_from_slice-end-3
slice_bounds-copy_from_slice-end-3 c = sym (length-take-le 34 c.args.parts.now (omega (arith, c.requires)))

pub copy_from_slice-requires : goal.copy_from_slice-requires
copy_from_slice-requires c =
    length-take-le 34 c.args.numbers.now (omega (arith, c.requires)) ∙ sym (length-take-le 34 c.args.parts.now (omega (arith, c.requires)))

pub returns : goal.returns
returns c =
    let ps = c.args.parts.now in
    let front = c.copy_from_slice.new.self in
    let rest = drop 34 c.args.numbers.now in
    let x = to_z w32 (of_z w32 c.joined.result) in
    let b = three ps c.requires.1.1 in
    let low = byte-back (cgms_part ps 0) b.low in
    let middle = byte-back (cgms_part ps 1) b.middle in
    let high = byte-back (cgms_part ps 2) b.high in
    let one = to_z-of_z w32 c.joined.result (record { sfits = c.joined.type_inv }) ∙ (rw (low, middle, high) at c.joined.ensures.answer) in
    record {
      memory =
          numbers_placed ps front rest c.copy_from_slice-2.new.self x _ c.requires.0 (omega (arith, c.requires.1.0, length-drop 34 c.args.numbers.now))
          c.copy_from_slice.ensures.after c.copy_from_slice-2.ensures.after one
          (omega (
            arith,
            length-set (front ++ rest) 34 x,
            length-append front rest,
            length-drop 34 c.args.numbers.now,
            c.requires.1.0,
            c.requires.0,
            ap length c.copy_from_slice.ensures.after ∙ length-take-le 34 ps (omega (arith, c.requires.0)),
          ));
    }
