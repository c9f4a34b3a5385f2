-- `curves::keep_curve` meets its contract: each byte as a number of 32 bits is the byte.
use Rattle.std.proofs.Common.{◌∙◌, w32}
use Rattle.std.proofs.lemmas.Int.{to_z-of_z}
use Rattle.adv7194_reading_blocks.proofs.curves.keep_curve.Goals as goal

pub returns : goal.returns
returns c =
    let b0 = to_z-of_z w32 c.from.result (record { sfits = c.from.type_inv }) ∙ c.from.ensures in
    let b1 = to_z-of_z w32 c.from-2.result (record { sfits = c.from-2.type_inv }) ∙ c.from-2.ensures in
    let b2 = to_z-of_z w32 c.from-3.result (record { sfits = c.from-3.type_inv }) ∙ c.from-3.ensures in
    let b3 = to_z-of_z w32 c.from-4.result (record { sfits = c.from-4.type_inv }) ∙ c.from-4.ensures in
    let b4 = to_z-of_z w32 c.from-5.result (record { sfits = c.from-5.type_inv }) ∙ c.from-5.ensures in
    let b5 = to_z-of_z w32 c.from-6.result (record { sfits = c.from-6.type_inv }) ∙ c.from-6.ensures in
    let b6 = to_z-of_z w32 c.from-7.result (record { sfits = c.from-7.type_inv }) ∙ c.from-7.ensures in
    record { memory = simp (c.keep.ensures.memory, b0, b1, b2, b3, b4, b5, b6) }
