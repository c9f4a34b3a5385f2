-- A turn writes one datum, and the line end follows the last.
use Rattle.std.proofs.Common.{◌≡◌, ◌∙◌, sym, ap, ◌+◌, ◌≤◌, [], ◌∷◌, length, drop, get_or, arith, add-one, drop-cons, length-drop}
use Rattle.std.proofs.Math.ListN.{length-set, drop_of_length-le}
use Rattle.text.specs.Line.{appended}
use Rattle.text.proofs.Appending.{length-appended}
use Rattle.plan_listing.proofs.TextLaws.{data_text, data_length, datum, no_datum, line}
use Rattle.plan_listing.proofs.put_line.Goals as goal

pub loop-byte-preserved : goal.loop-byte-preserved
loop-byte-preserved c =
    let l = c.loop-byte in
    let v = l.invariant in
    let bytes = c.args.bytes.now in
    let rest = drop (l.byte-index + 1) bytes in
    let byte = get_or bytes l.byte-index 0 in
    let more : drop l.byte-index bytes ≡ byte ∷ rest =
    drop-cons bytes l.byte-index 0 (omega arith) ∙ ap (λ k. byte ∷ drop k bytes) (sym (add-one l.byte-index)) in
    let room : l.end + (3 + length (data_text rest)) ≤ length l.out =
    omega (arith, data_length rest, length-drop (l.byte-index + 1) bytes, v.here, v.kept, v.room, c.loop-byte-test.true) in
    record {
      here = omega (arith, v.here);
      kept = ap length c.hex_byte-in-loop-byte.ensures.memory ∙ length-appended _ _ _ ∙ length-set l.out l.end _ ∙ v.kept;
      room = v.room;
      goes = v.goes ∙ ap (λ ds. appended l.out l.end (data_text ds)) more ∙ sym (datum l.out l.end byte rest room)
          ∙ ap (λ o. appended o (l.end + 3) (data_text rest)) (sym c.hex_byte-in-loop-byte.ensures.memory);
    }

pub returns-clause-memory : goal.returns-clause-memory
returns-clause-memory c =
    let l = c.loop-byte in
    let v = l.invariant in
    let bytes = c.args.bytes.now in
    let none : drop l.byte-index bytes ≡ [] = drop_of_length-le bytes {i = l.byte-index} (omega arith) in
    no_datum l.out l.end (omega (arith, v.here, v.kept, v.room)) ∙ ap (λ ds. appended l.out l.end (data_text ds)) (sym none) ∙ sym v.goes
    ∙ ap (λ o. appended o (c.args.at + 2) (data_text bytes)) c.hex_byte.ensures.memory
    ∙ line c.args.out.now c.args.at (record { subaddress = c.args.subaddress; bytes = bytes }) (omega (arith, c.requires, data_length bytes))
